-- Marks that are put one after another.
use Rattle.std.proofs.Common.{ℕ, ◌≡◌, ◌≢◌, ◌+◌, ◌<◌, ◌≤◌, Bool, true, false, List, length, slice_index_or, take, ◌++◌, inl, inr, refl, sym, ap, ◌∙◌, arith}
use Rattle.std.specs.Prelude.{◌⊎◌, replicate, set}
use Rattle.std.proofs.lemmas.List.{get_or-replicate, get_or-set_same, get_or-set_other, get_or_past, length-replicate, length-set}
use Rattle.std.proofs.lemmas.Bool.{cases_lt}
use Rattle.std.proofs.Math.Seq.{take-append_seam}
use Rattle.a64_data.specs.Marks.{IsMarked, Marks}

-- nothing was marked, and nothing is to be
pub marks_none : (P : ℕ → Type 0) (xs : List Bool) → ((k : ℕ) → k < length xs → P k → ⊥) → Marks P xs xs
marks_none P xs none = record {
  same_length = refl;
  kept = λ k m. m;
  marked = λ k lt p. absurd (none k lt p);
  only = λ k m. inl m;
}

-- the same bytes in other words
pub marks_as : (P Q : ℕ → Type 0) (a b : List Bool) → ((k : ℕ) → k < length a → Q k → P k) → ((k : ℕ) → P k → Q k) → Marks P a b → Marks Q a b
marks_as P Q a b back forth m = record {
  same_length = m.same_length;
  kept = m.kept;
  marked = λ k lt q. m.marked k lt (back k lt q);
  only = λ k is. elim (m.only k is) [ inl old ↦ inl old | inr p ↦ inr (forth k p) ];
}

-- some bytes, and then others
pub marks_then : (P Q : ℕ → Type 0) (a b c : List Bool) → Marks P a b → Marks Q b c → Marks (λ k. P k ⊎ Q k) a c
marks_then P Q a b c m n = record {
  same_length = n.same_length ∙ m.same_length;
  kept = λ k is. n.kept k (m.kept k is);
  marked = λ k lt h. elim h [
    | inl p ↦ n.kept k (m.marked k lt p)
    | inr q ↦ n.marked k (omega (arith, lt, m.same_length)) q
  ];
  only = λ k is. elim (n.only k is) [
    | inl before ↦ elim (m.only k before) [ inl old ↦ inl old | inr p ↦ inr (inl p) ]
    | inr q ↦ inr (inr q)
  ];
}

-- there is no mark yet
pub no_mark : (size k : ℕ) → slice_index_or (replicate size false) k false ≡ false
no_mark size k = elim (cases_lt k size) [
  | inl less ↦ get_or-replicate size k false false less
  | inr past ↦ get_or_past (replicate size false) k false (omega (arith, past, length-replicate size false))
]

-- what was written back is all of it
pub take_whole : (n : ℕ) (xs ys zs : List Bool) → zs ≡ take n (xs ++ ys) → n ≡ length xs → zs ≡ xs
take_whole n xs ys zs e f = e ∙ ap (λ k. take k (xs ++ ys)) f ∙ take-append_seam xs ys

-- ---- one byte after another

pub record IsBetween (begin end k : ℕ) : Type 0 where
  pub from : begin ≤ k
  pub before : k < end

pub marks_more : (a b : List Bool) (begin i : ℕ) → begin ≤ i → i < length b → Marks (IsBetween begin i) a b → Marks (IsBetween begin (i + 1)) a (set b i true)
marks_more a b begin i low lt m = record {
  same_length = length-set b i true ∙ m.same_length;
  kept = λ k is. stays k (m.kept k is);
  marked = λ k short h. elim (cases_lt k i) [
    | inl less ↦ stays k (m.marked k short (record { from = h.from; before = less }))
    | inr more ↦ here k (omega (arith, more, h.before))
  ];
  only = λ k is. elim (cases_lt k i) [
    | inl less ↦ shown k (omega (arith, less)) is
    | inr more ↦ elim (cases_lt i k) [
      | inl past ↦ shown k (omega (arith, past)) is
      | inr same ↦ inr (record { from = omega (arith, low, more); before = omega (arith, same) })
    ]
  ];
}
  where
    here : (k : ℕ) → k ≡ i → IsMarked (set b i true) k
    here k e = ap (λ n. slice_index_or (set b i true) n false) e ∙ get_or-set_same b i true false lt

    away : (k : ℕ) → k ≢ i → slice_index_or (set b i true) k false ≡ slice_index_or b k false
    away k other = get_or-set_other b i k true false other

    stays : (k : ℕ) → IsMarked b k → IsMarked (set b i true) k
    stays k is = elim (cases_lt k i) [
      | inl less ↦ away k (λ e. absurd (omega (arith, less, e))) ∙ is
      | inr more ↦ elim (cases_lt i k) [
        | inl past ↦ away k (λ e. absurd (omega (arith, past, e))) ∙ is
        | inr same ↦ here k (omega (arith, same, more))
      ]
    ]

    wider : (k : ℕ) → IsMarked a k ⊎ IsBetween begin i k → IsMarked a k ⊎ IsBetween begin (i + 1) k
    wider k (inl old) = inl old
    wider k (inr h) = inr (record { from = h.from; before = omega (arith, h.before) })

    shown : (k : ℕ) → (k ≡ i → ⊥) → IsMarked (set b i true) k → IsMarked a k ⊎ IsBetween begin (i + 1) k
    shown k other is = wider k (m.only k (sym (away k other) ∙ is))
