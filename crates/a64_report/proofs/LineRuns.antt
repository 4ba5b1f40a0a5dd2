-- The lines of many items or words, one behind the other.
use Rattle.std.proofs.Common.{◌≡◌, ℕ, ◌+◌, ◌*◌, ◌/◌, ◌<◌, ◌≤◌, List, [], ◌∷◌, ◌++◌, length, take, drop, map, get_or, refl, sym, ap, ◌∙◌, arith, suc, zero, append_assoc, append-nil, add-zero, length-append, length-drop, take-append-drop}
use Rattle.std.specs.Int.{w32, from_le_bytes}
use Rattle.std.specs.List.{flat_map, enumerate_from}
use Rattle.std.specs.Simd.{first_chunks}
use Rattle.std.proofs.lemmas.List.{take_more, length-take-le, take-append-le, take-map, get_or-map, length-map, drop-drop}
use Rattle.a64_report.specs.Report.{item_line, word_line, words_in}
use Rattle.a64_report.specs.Kept.{item_lines, word_lines}
use Rattle.a64_report.proofs.KeptLines.{no_words}

-- those of two lists
pub parted : {X : Type 0} (f : ℕ × X → List ℕ) (n : ℕ) (xs ys : List X)
    → flat_map f (enumerate_from n (xs ++ ys)) ≡ flat_map f (enumerate_from n xs) ++ flat_map f (enumerate_from (n + length xs) ys)
parted f n [] ys = ap (λ k. flat_map f (enumerate_from k ys)) (sym (add-zero n))
parted f n (x ∷ xs) ys =
    let sum : n + 1 + length xs ≡ n + length (x ∷ xs) = omega arith in
    ap (λ t. f (n, x) ++ t) (parted f (n + 1) xs ys ∙ ap (λ k. flat_map f (enumerate_from (n + 1) xs) ++ flat_map f (enumerate_from k ys)) sum)
    ∙ sym (append_assoc (f (n, x)) (flat_map f (enumerate_from (n + 1) xs)) (flat_map f (enumerate_from (n + length (x ∷ xs)) ys)))

-- the first ones of a list, and those behind them
pub first_ones : {X : Type 0} (f : ℕ × X → List ℕ) (n k : ℕ) (xs : List X) → k ≤ length xs
    → flat_map f (enumerate_from n (take k xs)) ++ flat_map f (enumerate_from (n + k) (drop k xs)) ≡ flat_map f (enumerate_from n xs)
first_ones f n k xs h =
    ap (λ m. flat_map f (enumerate_from n (take k xs)) ++ flat_map f (enumerate_from (n + m) (drop k xs))) (sym (length-take-le k xs h))
    ∙ sym (parted f n (take k xs) (drop k xs))
    ∙ ap (λ t. flat_map f (enumerate_from n t)) (take-append-drop k xs)

-- the line of one more
pub one_more : {X : Type 0} (f : ℕ × X → List ℕ) (n i : ℕ) (xs : List X) (x d : X) (before : List ℕ) → i < length xs → x ≡ get_or xs i d
    → (before ++ flat_map f (enumerate_from n (take i xs))) ++ f (n + i, x) ≡ before ++ flat_map f (enumerate_from n (take (i + 1) xs))
one_more f n i xs x d before h e =
    let lines = flat_map f (enumerate_from n (take i xs)) in
    let long : length (take i xs) ≡ i = length-take-le i xs (omega arith) in
    append_assoc before lines (f (n + i, x))
    ∙ ap (λ t. before ++ t)
    (ap (λ t. lines ++ t) (sym (append-nil (f (n + i, x))) ∙ ap (λ k. f (n + k, x) ++ []) (sym long))
    ∙ sym (parted f n (take i xs) (x ∷ []))
    ∙ ap (λ y. flat_map f (enumerate_from n (take i xs ++ y ∷ []))) e
    ∙ ap (λ t. flat_map f (enumerate_from n t)) (sym (take_more xs i d h)))

-- the line of the first one alone
pub only_one : {X : Type 0} (f : ℕ × X → List ℕ) (n : ℕ) (xs : List X) (d : X) (before : List ℕ) → 0 < length xs
    → before ++ f (n, get_or xs 0 d) ≡ before ++ flat_map f (enumerate_from n (take 1 xs))
only_one f n [] d before h = absurd (omega arith)
only_one f n (x ∷ xs) d before h = ap (λ t. before ++ t) (sym (append-nil (f (n, x))))

-- the line of one more word
pub one_word_more : (f : ℕ × ℕ → List ℕ) (n i : ℕ) (words : List (List ℕ)) (word : ℕ) (before : List ℕ) → i < length words
    → word ≡ from_le_bytes w32 (get_or words i [])
    → (before ++ flat_map f (enumerate_from n (map (from_le_bytes w32) (take i words)))) ++ f (n + i, word) ≡ before ++ flat_map f (enumerate_from n (map (from_le_bytes w32) (take (i + 1) words)))
one_word_more f n i words word before h e =
    let numbers = map (from_le_bytes w32) words in
    ap (λ ws. (before ++ flat_map f (enumerate_from n ws)) ++ f (n + i, word)) (sym (take-map (from_le_bytes w32) i words))
    ∙ one_more f n i numbers word 0 before (omega (arith, length-map words (from_le_bytes w32))) (e ∙ sym (get_or-map (from_le_bytes w32) words i [] 0 h))
    ∙ ap (λ ws. before ++ flat_map f (enumerate_from n ws)) (take-map (from_le_bytes w32) (i + 1) words)

-- a text behind which nothing was put
pub same_front : (at end : ℕ) (text text' lines : List ℕ) → at ≤ length text → end ≤ length text' → take end text' ≡ take at text ++ lines → lines ≡ [] → take at text' ≡ take at text
same_front at end text text' lines low few e none =
    let same : end ≡ at =
    omega (arith, ap length e, ap length none, length-append (take at text) lines, length-take-le at text low, length-take-le end text' few) in
    ap (λ k. take k text') (sym same) ∙ e ∙ ap (λ t. take at text ++ t) none ∙ append-nil (take at text)

-- what stands in front in a text, whatever stands behind it there, and the lines that are to follow
pub front_stays : (at : ℕ) (text behind lines : List ℕ) {whole : List ℕ} → at ≤ length text → take at text ++ lines ≡ whole → take at (text ++ behind) ++ lines ≡ whole
front_stays at text behind lines low e = ap (λ t. t ++ lines) (take-append-le at text behind low) ∙ e

-- the line of the first word alone
pub only_one_word : (f : ℕ × ℕ → List ℕ) (n : ℕ) (words : List (List ℕ)) (word : ℕ) (before : List ℕ) → 0 < length words
    → word ≡ from_le_bytes w32 (get_or words 0 []) → before ++ f (n, word) ≡ before ++ flat_map f (enumerate_from n (map (from_le_bytes w32) (take 1 words)))
only_one_word f n [] word before h e = absurd (omega arith)
only_one_word f n (first ∷ words) word before h e = ap (λ t. before ++ t) (sym (append-nil (f (n, word))) ∙ ap (λ w. f (n, w) ++ []) e)

-- the lines of items from one on, of which the first ones stand in a text
pub items_moved : (places rest before after : List ℕ) (index count : ℕ) → rest ≡ drop index places → count ≤ length rest
    → after ≡ before ++ flat_map item_line (enumerate_from index (take count rest)) → after ++ item_lines places (index + count) ≡ before ++ item_lines places index
items_moved places rest before after index count is few e =
    let lines = flat_map item_line (enumerate_from index (take count rest)) in
    let behind : drop (index + count) places ≡ drop count rest = sym (ap (drop count) is ∙ drop-drop count index places) in
    ap (λ t. t ++ item_lines places (index + count)) e
    ∙ append_assoc before lines (item_lines places (index + count))
    ∙ ap (λ t. before ++ t)
    (ap (λ xs. lines ++ flat_map item_line (enumerate_from (index + count) xs)) behind
    ∙ first_ones item_line index count rest few
    ∙ ap (λ xs. flat_map item_line (enumerate_from index xs)) is)

-- whole words of bytes
pub words_of_chunks : (k : ℕ) (bytes : List ℕ) → k ≡ length bytes / 4 → map (from_le_bytes w32) (first_chunks 4 k bytes) ≡ words_in bytes
words_of_chunks zero bytes h = sym (no_words bytes (omega arith))
words_of_chunks (suc k) [] h = absurd (omega arith)
words_of_chunks (suc k) (a ∷ []) h = absurd (omega arith)
words_of_chunks (suc k) (a ∷ b ∷ []) h = absurd (omega arith)
words_of_chunks (suc k) (a ∷ b ∷ c ∷ []) h = absurd (omega arith)
words_of_chunks (suc k) (a ∷ b ∷ c ∷ d ∷ bytes) h =
    ap (λ ws. from_le_bytes w32 (a ∷ b ∷ c ∷ d ∷ []) ∷ ws) (words_of_chunks k bytes (omega arith))

pub words_behind : (n : ℕ) (bytes : List ℕ) → 4 * n ≤ length bytes → words_in (drop (4 * n) bytes) ≡ drop n (words_in bytes)
words_behind zero bytes h = refl
words_behind (suc n) [] h = absurd (omega arith)
words_behind (suc n) (a ∷ []) h = absurd (omega arith)
words_behind (suc n) (a ∷ b ∷ []) h = absurd (omega arith)
words_behind (suc n) (a ∷ b ∷ c ∷ []) h = absurd (omega arith)
words_behind (suc n) (a ∷ b ∷ c ∷ d ∷ bytes) h =
    let four : 4 * suc n ≡ suc (suc (suc (suc (4 * n)))) = omega arith in
    ap (λ k. words_in (drop k (a ∷ b ∷ c ∷ d ∷ bytes))) four ∙ words_behind n bytes (omega arith)

-- the lines of words from a place on, of which the first ones stand in a text
pub words_moved : (code before after : List ℕ) (words : List (List ℕ)) (place count : ℕ) → map (from_le_bytes w32) words ≡ words_in (drop place code)
    → count ≤ length words → place + 4 * count ≤ length code
    → after ≡ before ++ flat_map word_line (enumerate_from (place / 4) (map (from_le_bytes w32) (take count words)))
    → after ++ word_lines code (place + 4 * count) ≡ before ++ word_lines code place
words_moved code before after words place count is few within e =
    let numbers = words_in (drop place code) in
    let lines = flat_map word_line (enumerate_from (place / 4) (take count numbers)) in
    let number : (place + 4 * count) / 4 ≡ place / 4 + count = omega arith in
    let enough : 4 * count ≤ length (drop place code) = omega (arith, length-drop place code) in
    let long : count ≤ length numbers = omega (arith, ap length is, length-map words (from_le_bytes w32)) in
    let behind : words_in (drop (place + 4 * count) code) ≡ drop count numbers =
    ap words_in (sym (drop-drop (4 * count) place code)) ∙ words_behind count (drop place code) enough in
    let e' : after ≡ before ++ lines =
    e ∙ ap (λ ws. before ++ flat_map word_line (enumerate_from (place / 4) ws)) (sym (take-map (from_le_bytes w32) count words) ∙ ap (take count) is) in
    ap (λ t. t ++ word_lines code (place + 4 * count)) e'
    ∙ append_assoc before lines (word_lines code (place + 4 * count))
    ∙ ap (λ t. before ++ t)
    (ap (λ n. lines ++ flat_map word_line (enumerate_from n (words_in (drop (place + 4 * count) code)))) number
    ∙ ap (λ ws. lines ++ flat_map word_line (enumerate_from (place / 4 + count) ws)) behind
    ∙ first_ones word_line (place / 4) count numbers long)
