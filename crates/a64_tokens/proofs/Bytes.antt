-- Bytes in hexadecimal digits, as far as they were read.
use Rattle.std.proofs.Common.{◌≡◌, ℕ, ◌<◌, ◌≤◌, ◌+◌, ◌-◌, ◌*◌, ◌/◌, ◌%◌, ◌⊎◌, inl, inr, Bool, if◌then◌else◌, List, [], ◌∷◌, ◌++◌, length, get_or, take, drop, Option, Some, None, refl, sym, ap, ap₂, subst, ◌∙◌, append_assoc, append-nil, arith}
use Rattle.std.proofs.lemmas.Bool.{cases_lt, lt-ltb, le-ltb}
use Rattle.std.proofs.lemmas.List.{take_all}
use Rattle.std.specs.Prelude.{option_map}
use Rattle.a64_tokens.specs.Hex.{hex_digit, IsDigit, byte_digits, hex_text, AreBytes}
use Rattle.a64_tokens.specs.Reads.{Reads, IsU8}

-- ---- digits

-- a digit is one of the first ten, or a letter
told : (n : ℕ) → ((n < 10) × (hex_digit n ≡ 48 + n)) ⊎ ((10 ≤ n) × (hex_digit n ≡ 87 + n))
told n = elim (cases_lt n 10) [
  | inl less ↦ inl (less, ap (λ (b : Bool). if b then 48 + n else 87 + n) (lt-ltb n 10 less))
  | inr more ↦ inr (more, ap (λ (b : Bool). if b then 48 + n else 87 + n) (le-ltb n 10 more))
]

pub decimal_digit : (byte : ℕ) → 48 ≤ byte → byte ≤ 57 → Reads IsDigit hex_digit byte (Some (byte - 48))
decimal_digit byte low high = record {
  some = (omega arith, elim (told (byte - 48)) [ inl t ↦ omega (arith, t.1) | inr t ↦ absurd (omega (arith, t.0)) ]);
  only = λ n fits e. ap Some (elim (told n) [ inl t ↦ omega (arith, e ∙ t.1) | inr t ↦ absurd (omega (arith, t.0, e ∙ t.1)) ]);
}

pub letter_digit : (byte : ℕ) → 97 ≤ byte → byte ≤ 102 → Reads IsDigit hex_digit byte (Some (byte - 97 + 10))
letter_digit byte low high = record {
  some = (omega arith, elim (told (byte - 97 + 10)) [ inl t ↦ absurd (omega (arith, t.0)) | inr t ↦ omega (arith, t.1) ]);
  only = λ n fits e. ap Some (elim (told n) [ inl t ↦ absurd (omega (arith, t.0, e ∙ t.1)) | inr t ↦ omega (arith, e ∙ t.1) ]);
}

pub no_digit : (byte : ℕ) → (48 ≤ byte → byte ≤ 57 → ⊥) → (97 ≤ byte → byte ≤ 102 → ⊥) → Reads IsDigit hex_digit byte None
no_digit byte ten six = record {
  some = tt;
  only = λ n fits e. absurd (elim (told n) [
    | inl t ↦ let is : byte ≡ 48 + n = e ∙ t.1 in ten (omega arith) (omega (arith, t.0))
    | inr t ↦ let is : byte ≡ 87 + n = e ∙ t.1 in six (omega (arith, t.0)) (omega (arith, fits))
  ]);
}

-- ---- bytes

module _ (high low : ℕ) where
  pub both : (h l : ℕ) → Reads IsDigit hex_digit high (Some h) → Reads IsDigit hex_digit low (Some l) → Reads IsU8 byte_digits (high, low) (Some (h * 16 + l))
  both h l above below = record {
    some =
        let front : (h * 16 + l) / 16 ≡ h = omega (arith, above.some.0, below.some.0) in
        let back : (h * 16 + l) % 16 ≡ l = omega (arith, above.some.0, below.some.0) in
        (omega (arith, above.some.0, below.some.0), ap₂ (λ (a b : ℕ). (a, b)) (above.some.1 ∙ ap hex_digit (sym front)) (below.some.1 ∙ ap hex_digit (sym back)));
    only = λ byte fits e.
        let first : Some h ≡ Some (byte / 16) = above.only (byte / 16) (omega (arith, fits)) (ap (λ (p : ℕ × ℕ). p.0) e) in
        let second : Some l ≡ Some (byte % 16) = below.only (byte % 16) (omega arith) (ap (λ (p : ℕ × ℕ). p.1) e) in
        let same : h ≡ byte / 16 = cc in
        let same_low : l ≡ byte % 16 = cc in
        ap Some (omega (arith, same, same_low));
  }

  pub no_high : Reads IsDigit hex_digit high None → Reads IsU8 byte_digits (high, low) None
  no_high above = record {
    some = tt;
    only = λ byte fits e. let none : None ≡ Some (byte / 16) = above.only (byte / 16) (omega (arith, fits)) (ap (λ (p : ℕ × ℕ). p.0) e) in absurd cc;
  }

  pub no_low : Reads IsDigit hex_digit low None → Reads IsU8 byte_digits (high, low) None
  no_low below = record {
    some = tt;
    only = λ byte fits e. let none : None ≡ Some (byte % 16) = below.only (byte % 16) (omega arith) (ap (λ (p : ℕ × ℕ). p.1) e) in absurd cc;
  }

  -- ---- the first of the bytes that are left

  module _ (more : List ℕ) where
    first : (xs : List ℕ) → AreBytes xs → high ∷ low ∷ more ≡ hex_text xs → (x : ℕ) × (rest : List ℕ) × (xs ≡ x ∷ rest) × IsU8 x × AreBytes rest × ((high, low) ≡ byte_digits x) × (more ≡ hex_text rest)
    first [] are e = absurd cc
    first (x ∷ rest) are e =
        let above : high ≡ hex_digit (x / 16) = cc in
        let below : low ≡ hex_digit (x % 16) = cc in
        let others : more ≡ hex_text rest = cc in
        (x, rest, refl, are.0, are.1, ap₂ (λ (a b : ℕ). (a, b)) above below, others)

    pub no_byte : Reads IsU8 byte_digits (high, low) None → Reads AreBytes hex_text (high ∷ low ∷ more) None
    no_byte h = record {
      some = tt;
      only = λ xs are e.
          let f = first xs are e in
          let none : None ≡ Some f.0 = h.only f.0 f.3 f.5 in
          absurd cc;
    }

    one_before : (byte : ℕ) → Reads IsU8 byte_digits (high, low) (Some byte) → (r : Option (List ℕ)) → Reads AreBytes hex_text more r → Reads AreBytes hex_text (high ∷ low ∷ more) (option_map (λ bs. byte ∷ bs) r)
    one_before byte h None others = record {
      some = tt;
      only = λ xs are e.
          let f = first xs are e in
          let none : None ≡ Some f.1 = others.only f.1 f.4 f.6 in
          absurd cc;
    }
    one_before byte h (Some bs) others = record {
      some =
          let above : high ≡ hex_digit (byte / 16) = ap (λ (p : ℕ × ℕ). p.0) h.some.1 in
          let below : low ≡ hex_digit (byte % 16) = ap (λ (p : ℕ × ℕ). p.1) h.some.1 in
          let rest : more ≡ hex_text bs = others.some.1 in
          ((h.some.0, others.some.0), cc);
      only = λ xs are e.
          let f = first xs are e in
          let one : Some byte ≡ Some f.0 = h.only f.0 f.3 f.5 in
          let all : Some bs ≡ Some f.1 = others.only f.1 f.4 f.6 in
          let same : byte ≡ f.0 = cc in
          let others_same : bs ≡ f.1 = cc in
          ap Some (ap₂ (λ (b : ℕ) (t : List ℕ). b ∷ t) same others_same ∙ sym f.2);
    }

-- ---- what was read is the front of the bytes, and they are told by what is left

abbrev pub Leads : List ℕ → List ℕ → List ℕ → Type 0
Leads token bytes rest = (r : Option (List ℕ)) → Reads AreBytes hex_text rest r → Reads AreBytes hex_text token (option_map (λ more. bytes ++ more) r)

pub begins : (token : List ℕ) → Leads token [] token
begins token None h = h
begins token (Some bytes) h = h

none_left : Reads AreBytes hex_text [] (Some [])
none_left = record { some = (tt, refl); only = only }
  where
    only : (xs : List ℕ) → AreBytes xs → [] ≡ hex_text xs → Some [] ≡ Some xs
    only [] are e = refl
    only (x ∷ xs) are e = absurd cc

one_left : (c : ℕ) → Reads AreBytes hex_text (c ∷ []) None
one_left c = record { some = tt; only = only }
  where
    only : (xs : List ℕ) → AreBytes xs → c ∷ [] ≡ hex_text xs → None ≡ Some xs
    only [] are e = absurd cc
    only (x ∷ xs) are e = absurd cc

-- at least two digits are left: these, and what stands behind them
two : (xs : List ℕ) → 2 ≤ length xs → xs ≡ get_or xs 0 0 ∷ get_or xs 1 0 ∷ take (length xs - 2) (drop 2 xs)
two [] few = absurd (omega (arith, few))
two (a ∷ []) few = absurd (omega (arith, few))
two (a ∷ b ∷ xs) few = ap (λ (t : List ℕ). a ∷ b ∷ t) (sym (take_all (length (a ∷ b ∷ xs) - 2) xs (omega arith)))

-- none, or one
few : (xs : List ℕ) → length xs < 2 → (xs ≡ []) ⊎ ((c : ℕ) × (xs ≡ c ∷ []))
few [] less = inl refl
few (c ∷ []) less = inr (c, refl)
few (a ∷ b ∷ xs) less = absurd (omega (arith, less))

module _ (token bytes : List ℕ) where
  one_more : (high low byte : ℕ) (more : List ℕ) → Reads IsU8 byte_digits (high, low) (Some byte) → Leads token bytes (high ∷ low ∷ more) → Leads token (bytes ++ byte ∷ []) more
  one_more high low byte more h l None others = l None (one_before high low more byte h None others)
  one_more high low byte more h l (Some bs) others =
      subst (λ (t : List ℕ). Reads AreBytes hex_text token (Some t)) (sym (append_assoc bytes (byte ∷ []) bs))
      (l (Some (byte ∷ bs)) (one_before high low more byte h (Some bs) others))

  all_read : Leads token bytes [] → Reads AreBytes hex_text token (Some bytes)
  all_read l = subst (λ (t : List ℕ). Reads AreBytes hex_text token (Some t)) (append-nil bytes) (l (Some []) none_left)

  odd : (c : ℕ) → Leads token bytes (c ∷ []) → Reads AreBytes hex_text token None
  odd c l = l None (one_left c)

  module _ (rest : List ℕ) (l : Leads token bytes rest) where
    -- what is left, as two digits and the others
    other : 2 ≤ length rest → Leads token bytes (get_or rest 0 0 ∷ get_or rest 1 0 ∷ take (length rest - 2) (drop 2 rest))
    other some = subst (λ (t : List ℕ). Leads token bytes t) (two rest some) l

    pub goes_on : 2 ≤ length rest → (r : Option ℕ) (byte : ℕ) → r ≡ Some byte → Reads IsU8 byte_digits (get_or rest 0 0, get_or rest 1 0) r → Leads token (bytes ++ byte ∷ []) (take (length rest - 2) (drop 2 rest))
    goes_on some r byte is h =
        let read = subst (λ (o : Option ℕ). Reads IsU8 byte_digits (get_or rest 0 0, get_or rest 1 0) o) is h in
        one_more (get_or rest 0 0) (get_or rest 1 0) byte (take (length rest - 2) (drop 2 rest)) read (other some)

    pub stops : 2 ≤ length rest → (r : Option ℕ) → r ≡ None → Reads IsU8 byte_digits (get_or rest 0 0, get_or rest 1 0) r → Reads AreBytes hex_text token None
    stops some r is h =
        let read = subst (λ (o : Option ℕ). Reads IsU8 byte_digits (get_or rest 0 0, get_or rest 1 0) o) is h in
        (other some) None (no_byte (get_or rest 0 0) (get_or rest 1 0) (take (length rest - 2) (drop 2 rest)) read)

    pub ends : length rest ≡ 0 → Reads AreBytes hex_text token (Some bytes)
    ends none = elim (few rest (omega (arith, none))) [
      | inl is ↦ all_read (subst (λ (t : List ℕ). Leads token bytes t) is l)
      | inr one ↦ absurd (omega (arith, none, ap (λ (t : List ℕ). length t) one.1))
    ]

    pub breaks : length rest < 2 → (length rest ≡ 0 → ⊥) → Reads AreBytes hex_text token None
    breaks less some = elim (few rest less) [
      | inl is ↦ absurd (some (ap (λ (t : List ℕ). length t) is))
      | inr one ↦ odd one.0 (subst (λ (t : List ℕ). Leads token bytes t) one.1 l)
    ]
