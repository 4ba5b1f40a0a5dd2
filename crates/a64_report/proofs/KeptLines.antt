-- Lines that are kept, and digits in them that are written anew.
use Rattle.std.proofs.Common.{◌≡◌, ℕ, ◌+◌, ◌-◌, ◌*◌, ◌/◌, ◌%◌, ◌^◌, ◌<◌, ◌≤◌, List, [], ◌∷◌, ◌++◌, length, take, drop, refl, sym, ap, ◌∙◌, arith, codes, append_assoc, length-append, length-drop, take-append-drop}
use Rattle.std.proofs.lemmas.List.{drop-drop, length-take-le, drop-append-le, drop-take}
use Rattle.std.proofs.lemmas.Fmt.{length-decimal-le}
use lib.Seq.{drop_at, take_at}
use Rattle.itoa.proofs.Decimal.{decimal_pair}
use Rattle.std.specs.Fmt.{decimal}
use Rattle.a64_report.specs.Report.{item_line, word_line, words_in}
use Rattle.a64_tokens.specs.Hex.{hex_word}
use Rattle.a64_report.specs.Kept.{last_digits, Shares, KeepsItem, KeepsWord, placed_word}

-- a list keeps its text, and has another end
pub ends_anew : (start m : ℕ) (xs was text ys : List ℕ) → start ≤ length xs → length xs ≡ m + length was → drop start xs ≡ text ++ was
    → drop start (take m xs ++ ys) ≡ text ++ ys
ends_anew start m xs was text ys low long e =
    let front : length (take m xs) ≡ m = length-take-le m xs (omega arith) in
    let k : m ≡ start + length text = omega (arith, length-drop start xs, length-append text was, ap length e) in
    drop-append-le start (take m xs) ys (omega arith)
    ∙ ap (λ t. t ++ ys) (ap (λ n. drop start (take n xs)) k ∙ drop-take start (length text) xs ∙ ap (take (length text)) e ∙ take_at text was (length text) refl)

-- a number of two digits more than those of its hundreds
pub hundreds_and_last : (number first : ℕ) → 100 ≤ first → first % 100 ≡ 0 → number / 100 ≡ first / 100 → number < 2 ^ 64
    → decimal number ≡ decimal (first / 100) ++ last_digits (number - first)
hundreds_and_last number first some whole same fits =
    let last : number % 100 ≡ number - first = omega arith in
    decimal_pair number (omega arith) fits ∙ rw (same, last) refl

pub same_length : (number other first : ℕ) → 100 ≤ first → first % 100 ≡ 0 → number / 100 ≡ first / 100 → other / 100 ≡ first / 100 → number < 2 ^ 64 → other < 2 ^ 64
    → length (decimal number) ≡ length (decimal other)
same_length number other first some whole same same' fits fits' =
    omega (arith, ap length (hundreds_and_last number first some whole same fits), ap length (hundreds_and_last other first some whole same' fits'), length-append (decimal (first / 100)) (last_digits (number - first)), length-append (decimal (first / 100)) (last_digits (other - first)))

-- two parts of a text that stand together
regrouped : (before front back rest : List ℕ) → before ++ ((front ++ back) ++ rest) ≡ (before ++ front) ++ (back ++ rest)
regrouped before front back rest = ap (λ t. before ++ t) (append_assoc front back rest) ∙ sym (append_assoc before front (back ++ rest))

-- the last two digits of a number in a buffer are written anew
pub renumbered : (start end first old number offset : ℕ) (buffer before : List ℕ) → start ≤ length buffer → 2 ≤ end → end ≤ length buffer
    → 100 ≤ first → first % 100 ≡ 0 → old / 100 ≡ first / 100 → number / 100 ≡ first / 100 → old < 2 ^ 64 → number < 2 ^ 64 → number ≡ first + offset
    → drop start buffer ≡ before ++ (decimal old ++ drop end buffer)
    → drop start (take (end - 2) buffer ++ (last_digits offset ++ drop end buffer)) ≡ before ++ (decimal number ++ drop end buffer)
renumbered start end first old number offset buffer before low two high some whole same same' fits fits' sum e =
    let rest = drop end buffer in
    let was = last_digits (old - first) in
    let now = last_digits offset in
    let behind_first : number - first ≡ offset = omega arith in
    let head = decimal (first / 100) in
    let e' : drop start buffer ≡ (before ++ head) ++ (was ++ rest) =
    e ∙ ap (λ t. before ++ (t ++ rest)) (hundreds_and_last old first some whole same fits) ∙ regrouped before head was rest in
    let long : length buffer ≡ (end - 2) + length (was ++ rest) = omega (arith, length-append was rest, length-drop end buffer) in
    ends_anew start (end - 2) buffer (was ++ rest) (before ++ head) (now ++ rest) low long e'
    ∙ sym (regrouped before head now rest)
    ∙ ap (λ t. before ++ (t ++ rest)) (sym (hundreds_and_last number first some whole same' fits' ∙ ap (λ n. head ++ last_digits n) behind_first))

-- what stands behind them stays
pub behind : (end k : ℕ) (buffer two : List ℕ) → length two ≡ 2 → 2 ≤ end → end ≤ k → end ≤ length buffer
    → drop k (take (end - 2) buffer ++ (two ++ drop end buffer)) ≡ drop k buffer
behind end k buffer two l low more high =
    let front : length (take (end - 2) buffer ++ two) ≡ end = omega (arith, length-append (take (end - 2) buffer) two, length-take-le (end - 2) buffer (omega arith)) in
    let sum : end + (k - end) ≡ k = omega arith in
    ap (drop k) (sym (append_assoc (take (end - 2) buffer) two (drop end buffer)))
    ∙ ap (λ n. drop n ((take (end - 2) buffer ++ two) ++ drop end buffer)) (sym sum)
    ∙ sym (drop-drop (k - end) end ((take (end - 2) buffer ++ two) ++ drop end buffer))
    ∙ ap (drop (k - end)) (drop_at (take (end - 2) buffer ++ two) (drop end buffer) end front)
    ∙ drop-drop (k - end) end buffer
    ∙ ap (λ n. drop n buffer) sum

pub long_again : (end : ℕ) (buffer two : List ℕ) → length two ≡ 2 → 2 ≤ end → end ≤ length buffer
    → length (take (end - 2) buffer ++ (two ++ drop end buffer)) ≡ length buffer
long_again end buffer two l low high =
    omega (arith, length-append (take (end - 2) buffer) (two ++ drop end buffer), length-append two (drop end buffer), length-take-le (end - 2) buffer (omega arith), length-drop end buffer)

-- a text in a list, and what stands behind it
pub suffix : (start k : ℕ) (xs front back : List ℕ) → drop start xs ≡ front ++ back → k ≡ start + length front → drop k xs ≡ back
suffix start k xs front back e s =
    ap (λ n. drop n xs) s ∙ sym (drop-drop (length front) start xs) ∙ ap (drop (length front)) e ∙ drop_at front back (length front) refl

-- a line of an item that was composed is kept
pub made_item : (start index_end index place : ℕ) (buffer rest : List ℕ) → length buffer ≡ 128 → length rest ≡ 64 → start ≤ 64 → index < 2 ^ 64 → place < 2 ^ 64
    → drop start buffer ≡ codes "item " ++ (decimal index ++ (codes " " ++ (decimal place ++ (10 ∷ rest)))) → index_end ≡ start + (5 + length (decimal index))
    → KeepsItem buffer start index_end index place
made_item start index_end index place buffer rest long short low fits fits' e f =
    let front = codes "item " ++ (decimal index ++ (codes " " ++ decimal place)) in
    let one = length-append (codes "item ") (decimal index ++ (codes " " ++ decimal place)) in
    let two = length-append (decimal index) (codes " " ++ decimal place) in
    let three = length-append (codes " ") (decimal place) in
    let e' : drop start buffer ≡ front ++ (10 ∷ rest) =
    e ∙ ap (λ t. codes "item " ++ t) (sym (append_assoc (decimal index) (codes " " ++ decimal place) (10 ∷ rest))) in
    let whole = length-append front (10 ∷ rest) in
    let size : 63 ≡ start + length front = omega (arith, ap length e', whole, length-drop start buffer) in
    let last : drop 63 buffer ≡ 10 ∷ rest = suffix start 63 buffer front (10 ∷ rest) e' size in
    let behind_it : drop 64 buffer ≡ rest = suffix 63 64 buffer (10 ∷ []) rest last refl in
    record {
      text = e ∙ ap (λ t. codes "item " ++ (decimal index ++ (codes " " ++ (decimal place ++ t)))) (sym last);
      last = last ∙ ap (λ t. 10 ∷ t) (sym behind_it);
      front = f;
      begins = omega (arith, size, one, two, three, length-decimal-le 20 index (omega arith) (omega arith) fits, length-decimal-le 20 place (omega arith) (omega arith) fits');
      high = omega (arith, f, size, one, two, three);
      index_fits = fits;
      place_fits = fits';
    }

-- a line of a word that was composed is kept
pub made_word : (start place word : ℕ) (buffer rest : List ℕ) → length buffer ≡ 128 → length rest ≡ 64 → start ≤ 64 → place < 2 ^ 64
    → drop start buffer ≡ codes "word " ++ (decimal place ++ (32 ∷ (hex_word word ++ (10 ∷ rest)))) → KeepsWord buffer start place word
made_word start place word buffer rest long short low fits e =
    let front = codes "word " ++ decimal place in
    let one = length-append (codes "word ") (decimal place) in
    let digits = length-append (hex_word word) (10 ∷ rest) in
    let whole = length-append front (32 ∷ (hex_word word ++ (10 ∷ rest))) in
    let size : 54 ≡ start + length front = omega (arith, ap length e, whole, digits, length-drop start buffer) in
    let a : drop 54 buffer ≡ 32 ∷ (hex_word word ++ (10 ∷ rest)) = suffix start 54 buffer front (32 ∷ (hex_word word ++ (10 ∷ rest))) e size in
    let b : drop 55 buffer ≡ hex_word word ++ (10 ∷ rest) = suffix 54 55 buffer (32 ∷ []) (hex_word word ++ (10 ∷ rest)) a refl in
    let c : drop 63 buffer ≡ 10 ∷ rest = suffix 55 63 buffer (hex_word word) (10 ∷ rest) b refl in
    let d : drop 64 buffer ≡ rest = suffix 63 64 buffer (10 ∷ []) rest c refl in
    record {
      text = e ∙ ap (λ t. codes "word " ++ (decimal place ++ t)) (sym a);
      rest = a ∙ ap (λ t. 32 ∷ t) (sym b);
      digits = b ∙ ap (λ t. hex_word word ++ t) (sym c);
      last = c ∙ ap (λ t. 10 ∷ t) (sym d);
      begins = omega (arith, size, one, length-decimal-le 20 place (omega arith) (omega arith) fits);
      low = omega (arith, size, one);
      fits = fits;
    }

-- the text of a kept line of an item
pub item_text : (buffer : List ℕ) (start index_end index place : ℕ) → length buffer ≡ 128 → KeepsItem buffer start index_end index place
    → take (64 - start) (drop start buffer) ≡ item_line (index, place)
item_text buffer start index_end index place long h =
    let low : start ≤ 64 = omega (arith, h.front, h.high) in
    let line = item_line (index, place) in
    let e : drop start buffer ≡ line ++ drop 64 buffer = h.text ∙ rw h.last (simp append_assoc refl) in
    let l : length line ≡ 64 - start = omega (arith, ap length e, length-append line (drop 64 buffer), length-drop start buffer, length-drop 64 buffer) in
    ap (take (64 - start)) e ∙ take_at line (drop 64 buffer) (64 - start) l

-- the text of a kept line of a word
pub word_text : (buffer : List ℕ) (start place word : ℕ) → length buffer ≡ 128 → KeepsWord buffer start place word
    → take (64 - start) (drop start buffer) ≡ placed_word place word
word_text buffer start place word long h =
    let line = placed_word place word in
    let low = h.low in
    let e : drop start buffer ≡ line ++ drop 64 buffer = h.text ∙ rw (h.rest, h.digits, h.last) (simp append_assoc refl) in
    let l : length line ≡ 64 - start = omega (arith, ap length e, length-append line (drop 64 buffer), length-drop start buffer, length-drop 64 buffer) in
    ap (take (64 - start)) e ∙ take_at line (drop 64 buffer) (64 - start) l

-- a number that is near is one of the same hundred
pub shares_again : (first span number number' offset : ℕ) → Shares first span number → number' ≡ first + offset → offset < span → Shares first span number'
shares_again first span number number' offset s sum near =
    let few = s.few in
    record { few = few; fits = s.fits; some = λ h. let k = s.some h in (k.0, k.1, omega (arith, k.1)) }

-- the line of an item in whose numbers the last two digits are written anew
pub item_again : (buffer : List ℕ) (start index_end index place i_first i_span p_first p_span index' place' i_offset p_offset : ℕ) → length buffer ≡ 128
    → KeepsItem buffer start index_end index place → Shares i_first i_span index → Shares p_first p_span place
    → index' ≡ i_first + i_offset → i_offset < i_span → place' ≡ p_first + p_offset → p_offset < p_span
    → let b = take (index_end - 2) buffer ++ (last_digits i_offset ++ drop index_end buffer) in
    KeepsItem (take (63 - 2) b ++ (last_digits p_offset ++ drop 63 b)) start index_end index' place'
item_again buffer start index_end index place i_first i_span p_first p_span index' place' i_offset p_offset long h i p i_sum i_near p_sum p_near =
    let b = take (index_end - 2) buffer ++ (last_digits i_offset ++ drop index_end buffer) in
    let b' = take (63 - 2) b ++ (last_digits p_offset ++ drop 63 b) in
    let i_some = i.some (omega arith) in
    let p_some = p.some (omega arith) in
    let i_few = i.few in
    let p_few = p.few in
    let i_fits = i.fits in
    let p_fits = p.fits in
    let i_same : index' / 100 ≡ i_first / 100 = omega (arith, i_some.1) in
    let p_same : place' / 100 ≡ p_first / 100 = omega (arith, p_some.1) in
    let two : 2 ≤ index_end = omega (arith, h.front) in
    let end = h.high in
    let begins : start ≤ 64 = omega (arith, h.front) in
    let r = codes " " ++ (decimal place ++ drop 63 buffer) in
    let e : drop index_end buffer ≡ r =
    suffix start index_end buffer (codes "item " ++ decimal index) r h.text (omega (arith, h.front, length-append (codes "item ") (decimal index))) in
    let t : drop start b ≡ codes "item " ++ (decimal index' ++ drop index_end buffer) =
    renumbered start index_end i_first index index' i_offset buffer (codes "item ") (omega arith) two (omega arith) i_some.0 i_some.1 i_some.2 i_same h.index_fits (omega arith) i_sum
    (h.text ∙ ap (λ t. codes "item " ++ (decimal index ++ t)) (sym e)) in
    let long' : length b ≡ 128 = long_again index_end buffer (last_digits i_offset) refl two (omega arith) ∙ long in
    let same : drop 63 b ≡ drop 63 buffer = behind index_end 63 buffer (last_digits i_offset) refl two end (omega arith) in
    let before = codes "item " ++ (decimal index' ++ codes " ") in
    let t' : drop start b ≡ before ++ (decimal place ++ drop 63 b) =
    t ∙ ap (λ t. codes "item " ++ (decimal index' ++ t)) (e ∙ ap (λ t. codes " " ++ (decimal place ++ t)) (sym same))
    ∙ ap (λ t. codes "item " ++ t) (sym (append_assoc (decimal index') (codes " ") (decimal place ++ drop 63 b))) in
    let u : drop start b' ≡ before ++ (decimal place' ++ drop 63 b) =
    renumbered start 63 p_first place place' p_offset b before (omega arith) (omega arith) (omega arith) p_some.0 p_some.1 p_some.2 p_same h.place_fits (omega arith) p_sum t' in
    made_item start index_end index' place' b' (drop 64 buffer)
    (long_again 63 b (last_digits p_offset) refl (omega arith) (omega arith) ∙ long') (length-drop 64 buffer ∙ omega arith) begins (omega arith) (omega arith)
    (u ∙ ap (λ t. codes "item " ++ t) (append_assoc (decimal index') (codes " ") (decimal place' ++ drop 63 b))
    ∙ ap (λ t. codes "item " ++ (decimal index' ++ (codes " " ++ (decimal place' ++ t)))) (same ∙ h.last))
    (h.front ∙ ap (λ n. start + (5 + n)) (same_length index index' i_first i_some.0 i_some.1 i_some.2 i_same h.index_fits (omega arith)))

-- the line of a word in whose place the last two digits are written anew
pub word_again : (buffer buffer' : List ℕ) (start place word first span place' offset : ℕ) → length buffer ≡ 128
    → KeepsWord buffer start place word → Shares first span place → place' ≡ first + offset → offset < span
    → buffer' ≡ take (54 - 2) buffer ++ (last_digits offset ++ drop 54 buffer)
    → KeepsWord buffer' start place' word
word_again buffer buffer' start place word first span place' offset long h s sum near e =
    let some = s.some (omega arith) in
    let few = s.few in
    let fits = s.fits in
    let same : place' / 100 ≡ first / 100 = omega (arith, some.1) in
    let begins = h.low in
    let b = take (54 - 2) buffer ++ (last_digits offset ++ drop 54 buffer) in
    let t : drop start b ≡ codes "word " ++ (decimal place' ++ drop 54 buffer) =
    renumbered start 54 first place place' offset buffer (codes "word ") (omega arith) (omega arith) (omega arith) some.0 some.1 some.2 same h.fits (omega arith) sum h.text in
    rw e (made_word start place' word b (drop 64 buffer) (long_again 54 buffer (last_digits offset) refl (omega arith) (omega arith) ∙ long) (length-drop 64 buffer ∙ omega arith) (omega arith) (omega arith)
    (t ∙ ap (λ t. codes "word " ++ (decimal place' ++ t)) (h.rest ∙ ap (λ t. 32 ∷ t) (h.digits ∙ ap (λ t. hex_word word ++ t) h.last))))

-- the line of a word whose digits are written anew
pub digits_again : (buffer buffer' : List ℕ) (start place word word' : ℕ) → length buffer ≡ 128 → length buffer' ≡ 128 → KeepsWord buffer start place word
    → take 55 buffer' ≡ take 55 buffer → drop 55 buffer' ≡ hex_word word' ++ drop 63 buffer → KeepsWord buffer' start place word'
digits_again buffer buffer' start place word word' long long' h front back =
    let begins = h.low in
    let text = codes "word " ++ (decimal place ++ (32 ∷ [])) in
    let e : buffer' ≡ take 55 buffer ++ (hex_word word' ++ drop 63 buffer) = sym (take-append-drop 55 buffer') ∙ rw (front, back) refl in
    let was : drop start buffer ≡ text ++ (hex_word word ++ drop 63 buffer) =
    h.text ∙ ap (λ t. codes "word " ++ (decimal place ++ t)) (h.rest ∙ ap (λ t. 32 ∷ t) h.digits)
    ∙ ap (λ t. codes "word " ++ t) (sym (append_assoc (decimal place) (32 ∷ []) (hex_word word ++ drop 63 buffer))) in
    let t : drop start buffer' ≡ text ++ (hex_word word' ++ drop 63 buffer) =
    ap (drop start) e
    ∙ ends_anew start 55 buffer (hex_word word ++ drop 63 buffer) text (hex_word word' ++ drop 63 buffer) (omega arith)
    (omega (arith, length-append (hex_word word) (drop 63 buffer), length-drop 63 buffer)) was in
    made_word start place word' buffer' (drop 64 buffer) long' (length-drop 64 buffer ∙ omega arith) (omega arith) h.fits
    (t ∙ ap (λ t. codes "word " ++ t) (append_assoc (decimal place) (32 ∷ []) (hex_word word' ++ drop 63 buffer))
    ∙ ap (λ t. codes "word " ++ (decimal place ++ (32 ∷ (hex_word word' ++ t)))) h.last)

-- a place is that of a whole word
pub word_line_of : (place word : ℕ) → place % 4 ≡ 0 → placed_word place word ≡ word_line (place / 4, word)
word_line_of place word h =
    let four : place ≡ 4 * (place / 4) = omega (arith, h) in
    ap (λ n. placed_word n word) four

-- fewer than four bytes hold no word
pub no_words : (bytes : List ℕ) → length bytes < 4 → words_in bytes ≡ []
no_words [] h = refl
no_words (a ∷ []) h = refl
no_words (a ∷ b ∷ []) h = refl
no_words (a ∷ b ∷ c ∷ []) h = refl
no_words (a ∷ b ∷ c ∷ d ∷ bytes) h = absurd (omega arith)
