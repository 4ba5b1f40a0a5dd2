-- Bytes as words.
use Rattle.std.proofs.Common.{ℕ, zero, suc, ◌≡◌, ◌+◌, ◌*◌, ◌%◌, ◌^◌, ◌<◌, ◌≤◌, List, [], ◌∷◌, ◌++◌, length, take, drop, replicate, refl, sym, ap, ◌∙◌, arith}
use Rattle.std.specs.Int.{w32, to_le_bytes, from_le_bytes}
use Rattle.std.proofs.lemmas.List.{length-drop, length-take-le, append_assoc}
use Rattle.std.proofs.lemmas.Nat.{from_le_bytes-to_le_bytes_4}
use Rattle.a64_words.specs.Word.{words_of, word_at, StandAt}
use Rattle.a64_words.specs.Words.{HeldWords, held}

pub words_short : (bytes : List ℕ) → 4 * length (words_of bytes) ≤ length bytes
words_short [] = omega arith
words_short (a ∷ []) = omega arith
words_short (a ∷ b ∷ []) = omega arith
words_short (a ∷ b ∷ c ∷ []) = omega arith
words_short (a ∷ b ∷ c ∷ d ∷ bytes) = omega (arith, words_short bytes)

pub words_long : (bytes : List ℕ) → length bytes ≤ 4 * length (words_of bytes) + 3
words_long [] = omega arith
words_long (a ∷ []) = omega arith
words_long (a ∷ b ∷ []) = omega arith
words_long (a ∷ b ∷ c ∷ []) = omega arith
words_long (a ∷ b ∷ c ∷ d ∷ bytes) = omega (arith, words_long bytes)

pub words_whole : (bytes : List ℕ) → length bytes % 4 ≡ 0 → 4 * length (words_of bytes) ≡ length bytes
words_whole bytes h = omega (arith, h, words_short bytes, words_long bytes)

-- the words from a place on: the one there, and the others
pub words_next : (place : ℕ) (bytes : List ℕ) → place + 4 ≤ length bytes → words_of (drop place bytes) ≡ word_at bytes place ∷ words_of (drop (place + 4) bytes)
words_next zero [] h = absurd (omega arith)
words_next zero (a ∷ []) h = absurd (omega arith)
words_next zero (a ∷ b ∷ []) h = absurd (omega arith)
words_next zero (a ∷ b ∷ c ∷ []) h = absurd (omega arith)
words_next zero (a ∷ b ∷ c ∷ d ∷ bytes) h = refl
words_next (suc place) [] h = absurd (omega arith)
words_next (suc place) (x ∷ bytes) h =
    let e : suc place + 4 ≡ suc (place + 4) = omega arith in
    words_next place bytes (omega arith) ∙ ap (λ n. word_at bytes place ∷ words_of (drop n (x ∷ bytes))) (sym e)

no_words : (bytes : List ℕ) → length bytes ≡ 0 → words_of bytes ≡ []
no_words [] e = refl
no_words (x ∷ bytes) e = absurd (omega (arith, e))

stand_words : (words bytes : List ℕ) (place : ℕ) → length bytes ≡ place + (4 * length words + 4) → StandAt bytes place words → word_at bytes (place + 4 * length words) ≡ 0 → words_of (drop place bytes) ≡ words ++ 0 ∷ []
stand_words [] bytes place long stand zero' =
    let e : place ≡ place + 4 * length {A = ℕ} [] = omega arith in
    words_next place bytes (omega arith)
    ∙ (ap (λ w. w ∷ words_of (drop (place + 4) bytes)) (ap (word_at bytes) e ∙ zero')
    ∙ ap (λ ws. 0 ∷ ws) (no_words (drop (place + 4) bytes) (omega (arith, length-drop (place + 4) bytes))))
stand_words (w ∷ words) bytes place long stand zero' =
    let e : place + 4 + 4 * length words ≡ place + 4 * length (w ∷ words) = omega arith in
    words_next place bytes (omega arith)
    ∙ (ap (λ v. v ∷ words_of (drop (place + 4) bytes)) stand.0
    ∙ ap (λ ws. w ∷ ws) (stand_words words bytes (place + 4) (omega (arith, long)) stand.1 (ap (word_at bytes) e ∙ zero')))

pub far_words_are : (words bytes : List ℕ) → length bytes ≡ 4 * length words + 4 → StandAt bytes 0 words → word_at bytes (4 * length words) ≡ 0 → words_of bytes ≡ words ++ 0 ∷ []
far_words_are words bytes long stand zero' =
    let e : 0 + 4 * length words ≡ 4 * length words = omega arith in
    stand_words words bytes 0 (omega (arith, long)) stand (ap (word_at bytes) e ∙ zero')

-- a word of zeros
pub zero_word : (n size : ℕ) → n ≤ 4 → size ≡ 4 * n + 4 → word_at (take size (replicate 20 0)) (4 * n) ≡ 0
zero_word n size h e = ap (λ s. word_at (take s (replicate 20 0)) (4 * n)) e ∙ go n h
  where
    go : (n : ℕ) → n ≤ 4 → word_at (take (4 * n + 4) (replicate 20 0)) (4 * n) ≡ 0
    go zero h = refl
    go (suc zero) h = refl
    go (suc (suc zero)) h = refl
    go (suc (suc (suc zero))) h = refl
    go (suc (suc (suc (suc zero)))) h = refl
    go (suc (suc (suc (suc (suc n))))) h = absurd (omega arith)

pub zeros_length : (size : ℕ) → size ≤ 20 → length (take size (replicate {A = ℕ} 20 0)) ≡ size
zeros_length size h = length-take-le size (replicate {A = ℕ} 20 0) h

-- two words, one after the other
pub two_more : (xs rs ys zs : List ℕ) (a b : ℕ) → rs ≡ xs → ys ≡ rs ++ a ∷ [] → zs ≡ ys ++ b ∷ [] → zs ≡ xs ++ a ∷ b ∷ []
two_more xs rs ys zs a b p q s = s ∙ (ap (λ ws. ws ++ b ∷ []) (q ∙ ap (λ ws. ws ++ a ∷ []) p) ∙ append_assoc xs (a ∷ []) (b ∷ []))

-- the words of the first bytes
pub words_taken : (size : ℕ) (bytes : List ℕ) → size % 4 ≡ 0 → size ≤ length bytes → 4 * length (words_of (take size bytes)) ≡ size
words_taken size bytes whole h = words_whole (take size bytes) (ap (λ n. n % 4) (length-take-le size bytes h) ∙ whole) ∙ length-take-le size bytes h

-- the words of bytes, and then those of the bytes behind them
pub words_append : (xs ys : List ℕ) → length xs % 4 ≡ 0 → words_of (xs ++ ys) ≡ words_of xs ++ words_of ys
words_append [] ys h = refl
words_append (a ∷ []) ys h = absurd (omega (arith, h))
words_append (a ∷ b ∷ []) ys h = absurd (omega (arith, h))
words_append (a ∷ b ∷ c ∷ []) ys h = absurd (omega (arith, h))
words_append (a ∷ b ∷ c ∷ d ∷ xs) ys h = ap (λ ws. from_le_bytes w32 (a ∷ b ∷ c ∷ d ∷ []) ∷ ws) (words_append xs ys (omega (arith, h)))

-- the word of its own bytes
pub words_one : (word : ℕ) → word < 2 ^ 32 → words_of (to_le_bytes w32 word) ≡ word ∷ []
words_one word h = ap (λ w. w ∷ []) (from_le_bytes-to_le_bytes_4 word h)

-- bytes were written behind the first ones, also where a word was
pub words_written : (size : ℕ) (bytes part bytes' : List ℕ) → size % 4 ≡ 0 → size ≤ length bytes → take (size + length part) bytes' ≡ take size bytes ++ part → words_of (take (size + length part) bytes') ≡ words_of (take size bytes) ++ words_of part
words_written size bytes part bytes' whole h e = ap words_of e ∙ words_append (take size bytes) part (ap (λ n. n % 4) (length-take-le size bytes h) ∙ whole)

pub word_written : (size word : ℕ) (bytes bytes' : List ℕ) → size % 4 ≡ 0 → size ≤ length bytes → word < 2 ^ 32 → take (size + 4) bytes' ≡ take size bytes ++ to_le_bytes w32 word → words_of (take (size + 4) bytes') ≡ words_of (take size bytes) ++ word ∷ []
word_written size word bytes bytes' whole h fits e =
    words_written size bytes (to_le_bytes w32 word) bytes' whole h e ∙ ap (λ ws. words_of (take size bytes) ++ ws) (words_one word fits)

-- words whose bytes are the first of some, where there is memory for so many bytes
pub held_size : (size : ℕ) (bytes : List ℕ) (room : ℕ) (w : HeldWords) → size % 4 ≡ 0 → size ≤ length bytes → held size bytes room ≡ w → 4 * length w.items ≡ size
held_size size bytes room w whole h is = ap (λ (v : HeldWords). 4 * length v.items) (sym is) ∙ words_taken size bytes whole h

-- there is memory for so many words more
pub held_room : (size : ℕ) (bytes : List ℕ) (room : ℕ) (w : HeldWords) (more : ℕ) → size % 4 ≡ 0 → size ≤ length bytes → held size bytes room ≡ w → length w.items + more ≤ w.capacity → size + 4 * more ≤ room
held_room size bytes room w more whole h is le =
    omega (arith, held_size size bytes room w whole h is, ap (λ (v : HeldWords). v.capacity) is)

pub room_held : (size : ℕ) (bytes : List ℕ) (room : ℕ) (w : HeldWords) (more : ℕ) → size % 4 ≡ 0 → size ≤ length bytes → held size bytes room ≡ w → size + 4 * more ≤ room → length w.items + more ≤ w.capacity
room_held size bytes room w more whole h is le =
    omega (arith, held_size size bytes room w whole h is, ap (λ (v : HeldWords). v.capacity) is)
