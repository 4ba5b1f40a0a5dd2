-- Code has one verdict.
use Rattle.std.proofs.Common.{◌≡◌, ℕ, ◌<◌, inl, inr, length, refl, sym, ap, subst}
use Rattle.std.proofs.lemmas.Bool.{cases_order}
use Rattle.a64_audit.specs.declared.verdict.Verdict.{Verdict}
use Rattle.a64_audit.specs.declared.verdict.Verdict.TheVariants.{Clean, BadRange, UnknownWord, OutOfCode, IntoData}
use Rattle.a64_audit.specs.Entries.{Contents}
use Rattle.a64_audit.specs.Verdicts.{IsClean, IsFine, IsKnown, IsFirstPlace, StaysInCode, AreGoodBefore, IsGoodRange, IsVerdict}

module _ (file : Contents) where
  abbrev IsBad : ℕ → Type 0
  IsBad i = (i < length file.ranges) × AreGoodBefore file i × ¬ IsGoodRange file i

  -- the first place that may be wrong is wrong
  abbrev IsWrong : ℕ → Type 0
  IsWrong place = IsFirstPlace file place × ¬ IsFine file place

  clean_bad : (i : ℕ) → IsClean file → IsBad i → ⊥
  clean_bad i clean bad = bad.2 (clean.good i bad.0)

  clean_wrong : (place : ℕ) → IsClean file → IsWrong place → ⊥
  clean_wrong place clean wrong = wrong.1 (clean.fine place wrong.0.is_place wrong.0.code)

  bad_wrong : (i place : ℕ) → IsBad i → IsWrong place → ⊥
  bad_wrong i place bad wrong = bad.2 (wrong.0.good i bad.0)

  one_range : (i j : ℕ) → IsBad i → IsBad j → j ≡ i
  one_range i j a b = elim (cases_order i j) [
    | inl e ↦ sym e
    | inr o ↦ elim o [
      | inl less ↦ absurd (a.2 (b.1 i less))
      | inr more ↦ absurd (b.2 (a.1 j more))
    ]
  ]

  one_place : (p q : ℕ) → IsWrong p → IsWrong q → q ≡ p
  one_place p q a b = elim (cases_order p q) [
    | inl e ↦ sym e
    | inr o ↦ elim o [
      | inl less ↦ absurd (a.1 (b.0.fine p a.0.is_place less a.0.code))
      | inr more ↦ absurd (b.1 (a.0.fine q b.0.is_place more b.0.code))
    ]
  ]

  unknown : (p : ℕ) → IsVerdict file (UnknownWord p) → IsWrong p
  unknown p h = (h.0, λ fine. h.1 fine.known)

  leaves : (p : ℕ) → IsVerdict file (OutOfCode p) → IsWrong p
  leaves p h = (h.0, λ fine. h.2 fine.in_code)

  enters : (p : ℕ) → IsVerdict file (IntoData p) → IsWrong p
  enters p h = (h.0, λ fine. h.3 fine.out_of_data)

  pub one_verdict : (verdict other : Verdict) → IsVerdict file verdict → IsVerdict file other → other ≡ verdict
  one_verdict Clean Clean h k = refl
  one_verdict Clean (BadRange j) h k = absurd (clean_bad j h k)
  one_verdict Clean (UnknownWord q) h k = absurd (clean_wrong q h (unknown q k))
  one_verdict Clean (OutOfCode q) h k = absurd (clean_wrong q h (leaves q k))
  one_verdict Clean (IntoData q) h k = absurd (clean_wrong q h (enters q k))
  one_verdict (BadRange i) Clean h k = absurd (clean_bad i k h)
  one_verdict (BadRange i) (BadRange j) h k = ap BadRange (one_range i j h k)
  one_verdict (BadRange i) (UnknownWord q) h k = absurd (bad_wrong i q h (unknown q k))
  one_verdict (BadRange i) (OutOfCode q) h k = absurd (bad_wrong i q h (leaves q k))
  one_verdict (BadRange i) (IntoData q) h k = absurd (bad_wrong i q h (enters q k))
  one_verdict (UnknownWord p) Clean h k = absurd (clean_wrong p k (unknown p h))
  one_verdict (UnknownWord p) (BadRange j) h k = absurd (bad_wrong j p k (unknown p h))
  one_verdict (UnknownWord p) (UnknownWord q) h k = ap UnknownWord (one_place p q (unknown p h) (unknown q k))
  one_verdict (UnknownWord p) (OutOfCode q) h k = absurd (h.1 (subst (IsKnown file) (one_place p q (unknown p h) (leaves q k)) k.1))
  one_verdict (UnknownWord p) (IntoData q) h k = absurd (h.1 (subst (IsKnown file) (one_place p q (unknown p h) (enters q k)) k.1))
  one_verdict (OutOfCode p) Clean h k = absurd (clean_wrong p k (leaves p h))
  one_verdict (OutOfCode p) (BadRange j) h k = absurd (bad_wrong j p k (leaves p h))
  one_verdict (OutOfCode p) (UnknownWord q) h k = absurd (k.1 (subst (IsKnown file) (one_place q p (unknown q k) (leaves p h)) h.1))
  one_verdict (OutOfCode p) (OutOfCode q) h k = ap OutOfCode (one_place p q (leaves p h) (leaves q k))
  one_verdict (OutOfCode p) (IntoData q) h k = absurd (h.2 (subst (StaysInCode file) (one_place p q (leaves p h) (enters q k)) k.2))
  one_verdict (IntoData p) Clean h k = absurd (clean_wrong p k (enters p h))
  one_verdict (IntoData p) (BadRange j) h k = absurd (bad_wrong j p k (enters p h))
  one_verdict (IntoData p) (UnknownWord q) h k = absurd (k.1 (subst (IsKnown file) (one_place q p (unknown q k) (enters p h)) h.1))
  one_verdict (IntoData p) (OutOfCode q) h k = absurd (k.2 (subst (StaysInCode file) (one_place q p (leaves q k) (enters p h)) h.2))
  one_verdict (IntoData p) (IntoData q) h k = ap IntoData (one_place p q (enters p h) (enters q k))
