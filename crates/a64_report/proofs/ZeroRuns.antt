-- The lines of words of which some are zeros that stand together.
use Rattle.std.proofs.Common.{◌≡◌, inl, inr, ℕ, zero, suc, ◌+◌, ◌-◌, ◌<◌, ◌≤◌, false, cond, nat_eq, List, [], ◌∷◌, ◌++◌, length, take, drop, replicate, get_or, refl, sym, ap, ◌∙◌, arith, append_assoc, add-zero, length-drop}
use Rattle.std.specs.List.{flat_map, enumerate_from, prefix_len, suffix_len}
use Rattle.std.proofs.lemmas.Bool.{lt-ltb, le-ltb, ne_eqb, cases_lt}
use Rattle.std.proofs.lemmas.List.{drop_more, drop_all, take_more, take-replicate, replicate_more, reverse-append}
use Rattle.a64_report.specs.LinkLines.{line_among, data_line, data_text, zeros_line, zeros_text}
use Rattle.a64_report.specs.Report.{word_line}

-- the lines of words from one on, directly before which so many zero words stand
abbrev pub lines_behind : (index before : ℕ) → List ℕ → List ℕ
lines_behind index before [] = []
lines_behind index before (word ∷ words) =
    line_among before (prefix_len (nat_eq 0) (word ∷ words)) (index, word) ++ lines_behind (index + 1) (cond (nat_eq 0 word) (1 + before) 0) words

-- the zero words before the next word
counted : (words : List ℕ) (index : ℕ) → index < length words
    → suffix_len (nat_eq 0) (take (index + 1) words) ≡ cond (nat_eq 0 (get_or words index 0)) (1 + suffix_len (nat_eq 0) (take index words)) 0
counted words index within =
    ap (suffix_len (nat_eq 0)) (take_more words index 0 within)
    ∙ ap (prefix_len (nat_eq 0)) (reverse-append (take index words) (get_or words index 0 ∷ []))

-- the lines from a word on
lines_from : (words : List ℕ) (index : ℕ) (rest : List ℕ) → drop index words ≡ rest
    → flat_map (data_line words) (enumerate_from index rest) ≡ lines_behind index (suffix_len (nat_eq 0) (take index words)) rest
lines_from words index [] e = refl
lines_from words index (word ∷ rest) e =
    let before = suffix_len (nat_eq 0) (take index words) in
    let within : index < length words = omega (arith, ap length e, length-drop index words) in
    let parts : get_or words index 0 ∷ drop (index + 1) words ≡ word ∷ rest = sym (drop_more words index 0 within) ∙ e in
    let here : get_or words index 0 ≡ word = ap (λ (xs : List ℕ). get_or xs 0 0) parts in
    let behind : drop (index + 1) words ≡ rest = ap (λ (xs : List ℕ). drop 1 xs) parts in
    let next : suffix_len (nat_eq 0) (take (index + 1) words) ≡ cond (nat_eq 0 word) (1 + before) 0 =
    counted words index within ∙ ap (λ w. cond (nat_eq 0 w) (1 + before) 0) here in
    ap (λ xs. line_among before (prefix_len (nat_eq 0) xs) (index, word) ++ flat_map (data_line words) (enumerate_from (index + 1) rest)) e
    ∙ ap (λ t. line_among before (prefix_len (nat_eq 0) (word ∷ rest)) (index, word) ++ t)
    (lines_from words (index + 1) rest behind ∙ ap (λ n. lines_behind (index + 1) n rest) next)

-- the line of a word
its_own : (before from index word : ℕ) → nat_eq 0 word ≡ false → line_among before from (index, word) ≡ word_line (index, word)
its_own before from index word e = rw e refl

own : (before from index : ℕ) → before + from < 16 → line_among before from (index, 0) ≡ word_line (index, 0)
own before from index h = rw (lt-ltb (before + from) 16 h) refl

silent : (before from index : ℕ) → 16 ≤ suc before + from → line_among (suc before) from (index, 0) ≡ []
silent before from index h = rw (le-ltb (suc before + from) 16 h, ne_eqb (suc before) 0 (λ e. omega (arith, e))) refl

leading : (from index : ℕ) → 16 ≤ from → line_among 0 from (index, 0) ≡ zeros_line index from
leading from index h = rw (le-ltb (0 + from) 16 (omega (arith, h))) refl

-- how many zero words stand there
as_many : (n : ℕ) (rest : List ℕ) → prefix_len (nat_eq 0) rest ≡ 0 → prefix_len (nat_eq 0) (replicate n 0 ++ rest) ≡ n
as_many zero rest e = e
as_many (suc n) rest e = omega (arith, as_many n rest e)

-- fewer than 16 of them
short_run : (n index before : ℕ) (rest : List ℕ) → before + n < 16 → prefix_len (nat_eq 0) rest ≡ 0
    → lines_behind index before (replicate n 0 ++ rest) ≡ flat_map word_line (enumerate_from index (replicate n 0)) ++ lines_behind (index + n) (before + n) rest
short_run zero index before rest h e = rw (add-zero index, add-zero before) refl
short_run (suc n) index before rest h e =
    let from = 1 + prefix_len (nat_eq 0) (replicate n 0 ++ rest) in
    let few : before + from < 16 = omega (arith, h, as_many n rest e) in
    let ahead : index + 1 + n ≡ index + suc n = omega arith in
    let counts : 1 + before + n ≡ before + suc n = omega arith in
    let lines = flat_map word_line (enumerate_from (index + 1) (replicate n 0)) in
    ap (λ t. t ++ lines_behind (index + 1) (1 + before) (replicate n 0 ++ rest)) (own before from index few)
    ∙ ap (λ t. word_line (index, 0) ++ t)
    (short_run n (index + 1) (1 + before) rest (omega (arith, h)) e
    ∙ ap (λ i. lines ++ lines_behind i (1 + before + n) rest) ahead
    ∙ ap (λ b. lines ++ lines_behind (index + suc n) b rest) counts)
    ∙ sym (append_assoc (word_line (index, 0)) lines (lines_behind (index + suc n) (before + suc n) rest))

-- the others of 16 or more
others : (n index before : ℕ) (rest : List ℕ) → 16 ≤ suc before + n → prefix_len (nat_eq 0) rest ≡ 0
    → lines_behind index (suc before) (replicate n 0 ++ rest) ≡ lines_behind (index + n) (suc before + n) rest
others zero index before rest h e = rw (add-zero index, add-zero (suc before)) refl
others (suc n) index before rest h e =
    let from = 1 + prefix_len (nat_eq 0) (replicate n 0 ++ rest) in
    let many : 16 ≤ suc before + from = omega (arith, h, as_many n rest e) in
    let one : 1 + suc before ≡ suc (suc before) = omega arith in
    let ahead : index + 1 + n ≡ index + suc n = omega arith in
    let counts : suc (suc before) + n ≡ suc before + suc n = omega arith in
    ap (λ t. t ++ lines_behind (index + 1) (1 + suc before) (replicate n 0 ++ rest)) (silent before from index many)
    ∙ ap (λ b. lines_behind (index + 1) b (replicate n 0 ++ rest)) one
    ∙ others n (index + 1) (suc before) rest (omega (arith, h)) e
    ∙ ap (λ i. lines_behind i (suc (suc before) + n) rest) ahead
    ∙ ap (λ b. lines_behind (index + suc n) b rest) counts

-- all of them, before and behind which none stands
long_run : (n index : ℕ) (rest : List ℕ) → 16 ≤ n → prefix_len (nat_eq 0) rest ≡ 0
    → lines_behind index 0 (replicate n 0 ++ rest) ≡ zeros_line index n ++ lines_behind (index + n) n rest
long_run zero index rest h e = absurd (omega (arith, h))
long_run (suc n) index rest h e =
    let from = 1 + prefix_len (nat_eq 0) (replicate n 0 ++ rest) in
    let same : from ≡ suc n = omega (arith, as_many n rest e) in
    let one : 1 + 0 ≡ suc 0 = omega arith in
    let ahead : index + 1 + n ≡ index + suc n = omega arith in
    let counts : suc 0 + n ≡ suc n = omega arith in
    ap (λ t. t ++ lines_behind (index + 1) (1 + 0) (replicate n 0 ++ rest)) (leading from index (omega (arith, same, h)) ∙ ap (zeros_line index) same)
    ∙ ap (λ t. zeros_line index (suc n) ++ t)
    (ap (λ b. lines_behind (index + 1) b (replicate n 0 ++ rest)) one
    ∙ others n (index + 1) 0 rest (omega (arith, h)) e
    ∙ ap (λ i. lines_behind i (suc 0 + n) rest) ahead
    ∙ ap (λ b. lines_behind (index + suc n) b rest) counts)

run_of : (n index : ℕ) (rest : List ℕ) → prefix_len (nat_eq 0) rest ≡ 0
    → lines_behind index 0 (replicate n 0 ++ rest) ≡ zeros_text index n ++ lines_behind (index + n) n rest
run_of n index rest e = elim (cases_lt n 16) [
  | inl few ↦ short_run n index 0 rest (omega (arith, few)) e
      ∙ rw (lt-ltb n 16 few) (ap (λ b. flat_map word_line (enumerate_from index (replicate n 0)) ++ lines_behind (index + n) b rest) (omega arith))
  | inr many ↦ long_run n index rest many e ∙ rw (le-ltb n 16 many) refl
]

-- ---- what is left, where the words from one to another are zeros of which no line is put yet

abbrev pub lines_left_from : List ℕ → (from index : ℕ) → List ℕ
lines_left_from words from index = lines_behind from 0 (replicate (index - from) 0 ++ drop index words)

-- at first, all
pub left_all : (words : List ℕ) → lines_left_from words 0 0 ≡ data_text words
left_all words = sym (lines_from words 0 words refl)

-- one more zero word
zero_next : (n : ℕ) (rest : List ℕ) → replicate n 0 ++ (0 ∷ rest) ≡ replicate (n + 1) 0 ++ rest
zero_next n rest = sym (append_assoc (replicate n 0) (0 ∷ []) rest) ∙ ap (λ (xs : List ℕ). xs ++ rest) (replicate_more n 0)

pub left_zero : (words : List ℕ) (from index : ℕ) → from ≤ index → index < length words → get_or words index 0 ≡ 0
    → lines_left_from words from index ≡ lines_left_from words from (index + 1)
left_zero words from index low within e =
    let rest : List ℕ = drop (index + 1) words in
    let next : drop index words ≡ 0 ∷ rest = drop_more words index 0 within ∙ ap (λ w. w ∷ rest) e in
    let more : index - from + 1 ≡ index + 1 - from = omega arith in
    ap (λ xs. lines_behind from 0 (replicate (index - from) 0 ++ xs)) next
    ∙ ap (lines_behind from 0) (zero_next (index - from) rest)
    ∙ ap (λ n. lines_behind from 0 (replicate n 0 ++ rest)) more

-- a word that is not zero
pub left_word : (words : List ℕ) (from index : ℕ) → from ≤ index → index < length words → (get_or words index 0 ≡ 0 → ⊥)
    → lines_left_from words from index ≡ zeros_text from (index - from) ++ (word_line (index, get_or words index 0) ++ lines_left_from words (index + 1) (index + 1))
left_word words from index low within some =
    let word = get_or words index 0 in
    let e : nat_eq 0 word ≡ false = ne_eqb 0 word (λ is. some (sym is)) in
    let n = index - from in
    let rest = drop (index + 1) words in
    let place : from + n ≡ index = omega arith in
    let none : index + 1 - (index + 1) ≡ 0 = omega arith in
    ap (λ xs. lines_behind from 0 (replicate n 0 ++ xs)) (drop_more words index 0 within)
    ∙ run_of n from (word ∷ rest) (rw e refl)
    ∙ ap (λ t. zeros_text from n ++ t)
    (ap (λ i. lines_behind i n (word ∷ rest)) place
    ∙ ap (λ t. t ++ lines_behind (index + 1) (cond (nat_eq 0 word) (1 + n) 0) rest) (its_own n (prefix_len (nat_eq 0) (word ∷ rest)) index word e)
    ∙ ap (λ b. word_line (index, word) ++ lines_behind (index + 1) (cond b (1 + n) 0) rest) e
    ∙ ap (λ m. word_line (index, word) ++ lines_behind (index + 1) 0 (replicate m 0 ++ rest)) (sym none))

-- at the end, zero words alone
pub left_end : (words : List ℕ) (from index : ℕ) → index ≡ length words → lines_left_from words from index ≡ zeros_text from (length words - from) ++ []
left_end words from index over =
    ap (λ xs. lines_behind from 0 (replicate (index - from) 0 ++ xs)) (drop_all index words (omega (arith, over)))
    ∙ ap (λ n. lines_behind from 0 (replicate (n - from) 0 ++ [])) over
    ∙ run_of (length words - from) from [] refl

-- fewer than 16 zero words
pub few_zeros : (from count : ℕ) → count < 16 → zeros_text from count ≡ flat_map word_line (enumerate_from from (take count (replicate 16 0)))
few_zeros from count h =
    rw (lt-ltb count 16 h) (ap (λ xs. flat_map word_line (enumerate_from from xs)) (sym (take-replicate count 16 0 (omega (arith, h)))))
