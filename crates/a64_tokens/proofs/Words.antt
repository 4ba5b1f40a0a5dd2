-- Words in hexadecimal digits.
use Rattle.std.proofs.Common.{◌≡◌, ℕ, suc, ◌<◌, ◌+◌, ◌*◌, ◌/◌, ◌%◌, ◌^◌, List, [], ◌∷◌, length, get_or, Option, Some, None, refl, sym, ap, ap₂, ◌∙◌, arith}
use Rattle.a64_tokens.specs.Hex.{hex_digit, hex_word, byte_digits}
use Rattle.a64_tokens.specs.Reads.{Reads, IsU8, IsU32}
use Rattle.a64_tokens.proofs.HexWords.{hex_word_pairs}

-- two digits of eight
abbrev pair : List ℕ → ℕ → ℕ × ℕ
pair xs i = (get_or xs i 0, get_or xs (suc i) 0)

-- the byte of a word that has these two digits
abbrev ByteAt : List ℕ → ℕ → Option ℕ → Type 0
ByteAt xs i r = Reads IsU8 byte_digits (pair xs i) r

-- a text of eight digits
eight : (xs : List ℕ) → length xs ≡ 8 → xs ≡ get_or xs 0 0 ∷ get_or xs 1 0 ∷ get_or xs 2 0 ∷ get_or xs 3 0 ∷ get_or xs 4 0 ∷ get_or xs 5 0 ∷ get_or xs 6 0 ∷ get_or xs 7 0 ∷ []
eight (a ∷ b ∷ c ∷ d ∷ e ∷ f ∷ g ∷ h ∷ []) long = refl
eight [] long = absurd (omega (arith, long))
eight (a ∷ []) long = absurd (omega (arith, long))
eight (a ∷ b ∷ []) long = absurd (omega (arith, long))
eight (a ∷ b ∷ c ∷ []) long = absurd (omega (arith, long))
eight (a ∷ b ∷ c ∷ d ∷ []) long = absurd (omega (arith, long))
eight (a ∷ b ∷ c ∷ d ∷ e ∷ []) long = absurd (omega (arith, long))
eight (a ∷ b ∷ c ∷ d ∷ e ∷ f ∷ []) long = absurd (omega (arith, long))
eight (a ∷ b ∷ c ∷ d ∷ e ∷ f ∷ g ∷ []) long = absurd (omega (arith, long))
eight (a ∷ b ∷ c ∷ d ∷ e ∷ f ∷ g ∷ h ∷ i ∷ xs) long = absurd (omega (arith, long))

-- the bytes of a word, the highest first
abbrev byte3 : ℕ → ℕ
byte3 word = word / 16777216

abbrev byte2 : ℕ → ℕ
byte2 word = word / 65536 % 256

abbrev byte1 : ℕ → ℕ
byte1 word = word / 256 % 256

abbrev byte0 : ℕ → ℕ
byte0 word = word % 256

-- the digits of a word are those of its bytes
by_bytes : (word : ℕ) → word < 2 ^ 32
    → hex_word word ≡ hex_digit (byte3 word / 16) ∷ hex_digit (byte3 word % 16) ∷ hex_digit (byte2 word / 16) ∷ hex_digit (byte2 word % 16) ∷ hex_digit (byte1 word / 16) ∷ hex_digit (byte1 word % 16) ∷ hex_digit (byte0 word / 16) ∷ hex_digit (byte0 word % 16) ∷ []
by_bytes word h = hex_word_pairs word h

module _ (token : List ℕ) where
  -- where the digits are those of a word, each two are those of its byte
  pairs : (word : ℕ) → IsU32 word → token ≡ hex_word word
      → (pair token 0 ≡ byte_digits (byte3 word)) × (pair token 2 ≡ byte_digits (byte2 word)) × (pair token 4 ≡ byte_digits (byte1 word)) × (pair token 6 ≡ byte_digits (byte0 word))
  pairs word fits is =
      let same = is ∙ by_bytes word fits in
      (ap (λ (xs : List ℕ). pair xs 0) same, ap (λ (xs : List ℕ). pair xs 2) same, ap (λ (xs : List ℕ). pair xs 4) same, ap (λ (xs : List ℕ). pair xs 6) same)

  pub no_length : (length token ≡ 8 → ⊥) → Reads IsU32 hex_word token None
  no_length other = record { some = tt; only = λ word fits is. absurd (other (ap (λ (xs : List ℕ). length xs) is)) }

  pub no_first : ByteAt token 0 None → Reads IsU32 hex_word token None
  no_first h = record { some = tt; only = λ word fits is. let none : None ≡ Some (byte3 word) = h.only (byte3 word) (omega (arith, fits)) (pairs word fits is).0 in absurd cc }

  pub no_second : ByteAt token 2 None → Reads IsU32 hex_word token None
  no_second h = record { some = tt; only = λ word fits is. let none : None ≡ Some (byte2 word) = h.only (byte2 word) (omega arith) (pairs word fits is).1 in absurd cc }

  pub no_third : ByteAt token 4 None → Reads IsU32 hex_word token None
  no_third h = record { some = tt; only = λ word fits is. let none : None ≡ Some (byte1 word) = h.only (byte1 word) (omega arith) (pairs word fits is).2 in absurd cc }

  pub no_fourth : ByteAt token 6 None → Reads IsU32 hex_word token None
  no_fourth h = record { some = tt; only = λ word fits is. let none : None ≡ Some (byte0 word) = h.only (byte0 word) (omega arith) (pairs word fits is).3 in absurd cc }

  pub all_four : (a b c d : ℕ) → length token ≡ 8 → ByteAt token 0 (Some a) → ByteAt token 2 (Some b) → ByteAt token 4 (Some c) → ByteAt token 6 (Some d)
      → Reads IsU32 hex_word token (Some ((a * 256 + b) * 65536 + (c * 256 + d)))
  all_four a b c d long first second third fourth =
      let word = (a * 256 + b) * 65536 + (c * 256 + d) in
      let fits : word < 2 ^ 32 = omega (arith, first.some.0, second.some.0, third.some.0, fourth.some.0) in
      let high : byte3 word ≡ a = omega (arith, second.some.0, third.some.0, fourth.some.0) in
      let next : byte2 word ≡ b = omega (arith, second.some.0, third.some.0, fourth.some.0) in
      let low : byte1 word ≡ c = omega (arith, third.some.0, fourth.some.0) in
      let last : byte0 word ≡ d = omega (arith, fourth.some.0) in
      let one = first.some.1 ∙ ap byte_digits (sym high) in
      let two = second.some.1 ∙ ap byte_digits (sym next) in
      let three = third.some.1 ∙ ap byte_digits (sym low) in
      let four = fourth.some.1 ∙ ap byte_digits (sym last) in
      let a0 : get_or token 0 0 ≡ hex_digit (byte3 word / 16) = ap (λ (p : ℕ × ℕ). p.0) one in
      let a1 : get_or token 1 0 ≡ hex_digit (byte3 word % 16) = ap (λ (p : ℕ × ℕ). p.1) one in
      let a2 : get_or token 2 0 ≡ hex_digit (byte2 word / 16) = ap (λ (p : ℕ × ℕ). p.0) two in
      let a3 : get_or token 3 0 ≡ hex_digit (byte2 word % 16) = ap (λ (p : ℕ × ℕ). p.1) two in
      let a4 : get_or token 4 0 ≡ hex_digit (byte1 word / 16) = ap (λ (p : ℕ × ℕ). p.0) three in
      let a5 : get_or token 5 0 ≡ hex_digit (byte1 word % 16) = ap (λ (p : ℕ × ℕ). p.1) three in
      let a6 : get_or token 6 0 ≡ hex_digit (byte0 word / 16) = ap (λ (p : ℕ × ℕ). p.0) four in
      let a7 : get_or token 7 0 ≡ hex_digit (byte0 word % 16) = ap (λ (p : ℕ × ℕ). p.1) four in
      record {
        some = (fits, eight token long ∙ rw (a0, a1, a2, a3, a4, a5, a6, a7) refl ∙ sym (by_bytes word fits));
        only = λ other within is.
            let p = pairs other within is in
            let w : Some a ≡ Some (byte3 other) = first.only (byte3 other) (omega (arith, within)) p.0 in
            let x : Some b ≡ Some (byte2 other) = second.only (byte2 other) (omega arith) p.1 in
            let y : Some c ≡ Some (byte1 other) = third.only (byte1 other) (omega arith) p.2 in
            let z : Some d ≡ Some (byte0 other) = fourth.only (byte0 other) (omega arith) p.3 in
            let w' : a ≡ byte3 other = cc in
            let x' : b ≡ byte2 other = cc in
            let y' : c ≡ byte1 other = cc in
            let z' : d ≡ byte0 other = cc in
            ap Some (omega (arith, w', x', y', z'));
      }
