-- The ranges of the bytes that are marked, as they are found one after another.
use Rattle.std.proofs.Common.{ℕ, ◌≡◌, ◌+◌, ◌<◌, ◌≤◌, Bool, false, List, [], ◌∷◌, ◌++◌, length, slice_index_or, inl, inr, refl, sym, ap, subst, ◌∙◌, Option, None, Some, arith}
use Rattle.std.specs.Prelude.{◌⊎◌, All, AllPairs, Any}
use Rattle.std.proofs.lemmas.Bool.{cases_lt, false≢true}
use Rattle.std.proofs.lemmas.List.{get_or_append_left, get_or_past, get_or_push, length-append}
use Rattle.std.proofs.lemmas.List.Elements.{All-push}
use Rattle.std.proofs.lemmas.List.Quantifiers.{all_pairs_push}
use Rattle.a64_data.specs.declared.range.DataRange.{DataRange}
use Rattle.a64_data.specs.Cells.{AreRangesWith}
use Rattle.a64_data.specs.Marks.{AreRangesOf, EndsBefore, HasBytes, InRange, IsMarked, Marks}

-- the marked bytes in front of a place lie in ranges, which end in front of it
pub record AreRunsTo (marks : List Bool) (ranges : List DataRange) (place : ℕ) : Type 0 where
  pub apart : AllPairs EndsBefore ranges
  pub not_empty : All HasBytes ranges
  pub ended : All (λ r. r.end < place) ranges
  pub listed : (k : ℕ) → k < place → IsMarked marks k → Any (InRange k) ranges
  pub only : (k : ℕ) → Any (InRange k) ranges → IsMarked marks k

-- the bytes from one place up to another are marked
pub record IsRun (marks : List Bool) (begin end : ℕ) : Type 0 where
  pub some : begin < end
  pub all : (k : ℕ) → begin ≤ k → k < end → IsMarked marks k

-- what is known at a place: a run may have begun
abbrev pub IsScanned : List Bool → List DataRange → Option ℕ → ℕ → Type 0
IsScanned marks ranges None place = AreRunsTo marks ranges place
IsScanned marks ranges (Some begin) place = AreRunsTo marks ranges begin × IsRun marks begin place

pub nothing : (marks : List Bool) → AreRunsTo marks [] 0
nothing marks = record {
  apart = λ i j d i<j j<n. absurd (omega (arith, j<n));
  not_empty = λ k d lt. absurd (omega (arith, lt));
  ended = λ k d lt. absurd (omega (arith, lt));
  listed = λ k lt is. absurd (omega (arith, lt));
  only = λ k h. absurd (omega (arith, h.2));
}

abbrev pub run_of : ℕ → ℕ → DataRange
run_of begin end = record { begin = begin; end = end }

module _ (ranges : List DataRange) (range : DataRange) where
  abbrev more : List DataRange
  more = ranges ++ range ∷ []

  many : length more ≡ length ranges + 1
  many = length-append ranges (range ∷ [])

  any_pushed : (P : DataRange → Type 0) → Any P ranges → Any P more
  any_pushed P h = (h.0, h.1, omega (arith, h.2, many), get_or_append_left ranges (range ∷ []) h.1 h.0 h.2 ∙ h.3, h.4)

  last_pushed : (P : DataRange → Type 0) → P range → Any P more
  last_pushed P h = (length ranges, range, omega (arith, many), get_or_push ranges range range (length ranges) refl, h)

  any_of_more : (P : DataRange → Type 0) → Any P more → Any P ranges ⊎ P range
  any_of_more P h = elim (cases_lt h.0 (length ranges)) [
    | inl less ↦ inl (h.0, h.1, less, sym (get_or_append_left ranges (range ∷ []) h.1 h.0 less) ∙ h.3, h.4)
    | inr past ↦ inr (subst P (sym h.3 ∙ get_or_push ranges range h.1 h.0 (omega (arith, past, h.2, many))) h.4)
  ]

module _ (marks : List Bool) (ranges : List DataRange) where
  -- a byte without a mark
  pub passes : (place : ℕ) → slice_index_or marks place false ≡ false → AreRunsTo marks ranges place → AreRunsTo marks ranges (place + 1)
  passes place bare so = record {
    apart = so.apart;
    not_empty = so.not_empty;
    ended = λ k d lt. omega (arith, so.ended k d lt);
    listed = λ k lt is. elim (cases_lt k place) [
      | inl less ↦ so.listed k less is
      | inr past ↦ absurd (false≢true (sym bare ∙ ap (λ n. slice_index_or marks n false) (omega (arith, lt, past)) ∙ is))
    ];
    only = so.only;
  }

  -- a byte with a mark, and no run was begun
  pub begins : (place : ℕ) → IsMarked marks place → IsRun marks place (place + 1)
  begins place is = record {
    some = omega arith;
    all = λ k low high. ap (λ n. slice_index_or marks n false) (omega (arith, low, high)) ∙ is;
  }

  -- and where one was
  pub goes_on : (begin place : ℕ) → IsMarked marks place → IsRun marks begin place → IsRun marks begin (place + 1)
  goes_on begin place is run = record {
    some = omega (arith, run.some);
    all = λ k low high. elim (cases_lt k place) [
      | inl less ↦ run.all k low less
      | inr past ↦ ap (λ n. slice_index_or marks n false) (omega (arith, past, high)) ∙ is
    ];
  }

  -- a run ends at a byte without a mark
  pub closes : (begin end : ℕ) → slice_index_or marks end false ≡ false → AreRunsTo marks ranges begin → IsRun marks begin end
      → AreRunsTo marks (ranges ++ run_of begin end ∷ []) (end + 1)
  closes begin end bare so run = record {
    apart = all_pairs_push EndsBefore ranges (run_of begin end) so.apart so.ended;
    not_empty = All-push HasBytes ranges (run_of begin end) so.not_empty run.some;
    ended = All-push (λ r. r.end < end + 1) ranges (run_of begin end) (λ k d lt. omega (arith, so.ended k d lt, run.some)) (omega arith);
    listed = λ k lt is. elim (cases_lt k begin) [
      | inl less ↦ any_pushed ranges (run_of begin end) (InRange k) (so.listed k less is)
      | inr low ↦ elim (cases_lt k end) [
        | inl high ↦ last_pushed ranges (run_of begin end) (InRange k) (low, high)
        | inr past ↦ absurd (false≢true (sym bare ∙ ap (λ n. slice_index_or marks n false) (omega (arith, lt, past)) ∙ is))
      ]
    ];
    only = λ k h. elim (any_of_more ranges (run_of begin end) (InRange k) h) [
      | inl old ↦ so.only k old
      | inr new ↦ run.all k new.0 new.1
    ];
  }

  -- all bytes were gone over
  pub all_runs : (place : ℕ) → length marks ≤ place → AreRunsTo marks ranges place → AreRangesOf marks ranges
  all_runs place whole so = record {
    apart = so.apart;
    not_empty = so.not_empty;
    listed = λ k is. elim (cases_lt k place) [
      | inl less ↦ so.listed k less is
      | inr past ↦ absurd (false≢true (sym (get_or_past marks k false (omega (arith, whole, past))) ∙ is))
    ];
    only = so.only;
  }

-- the same ranges and the same begin, by other names
pub scanned_as : (marks : List Bool) (ranges ranges' : List DataRange) (o o' : Option ℕ) (place : ℕ) → ranges' ≡ ranges → o' ≡ o → IsScanned marks ranges o place → IsScanned marks ranges' o' place
scanned_as marks ranges ranges' o o' place e f so = subst (λ rs. IsScanned marks rs o' place) (sym e) (subst (λ x. IsScanned marks ranges x place) (sym f) so)

-- the last run ends with the bytes
pub all_closed : (marks : List Bool) (ranges : List DataRange) (begin place end : ℕ) → place ≡ end → end ≡ length marks → AreRunsTo marks ranges begin → IsRun marks begin place → AreRangesOf marks (ranges ++ run_of begin end ∷ [])
all_closed marks ranges begin place end e f so run =
    all_runs marks (ranges ++ run_of begin end ∷ []) (end + 1) (omega (arith, f))
    (closes marks ranges begin end (get_or_past marks end false (omega (arith, f))) so (subst (IsRun marks begin) e run))

-- marks that were put where there was none
pub ranges_with : (P : ℕ → Type 0) (old new : List Bool) (size : ℕ) → length old ≡ size → ((k : ℕ) → slice_index_or old k false ≡ false) → Marks P old new → (ranges : List DataRange) → AreRangesOf new ranges → AreRangesWith P size ranges
ranges_with P old new size long bare m ranges are = record {
  apart = are.apart;
  not_empty = are.not_empty;
  bytes = λ k lt. (λ h. had k (m.only k (are.only k h)), λ p. are.listed k (m.marked k (omega (arith, lt, long)) p));
  within = λ k h. inside k (are.only k h);
}
  where
    had : (k : ℕ) → IsMarked old k ⊎ P k → P k
    had k (inl is) = absurd (false≢true (sym (bare k) ∙ is))
    had k (inr p) = p

    inside : (k : ℕ) → IsMarked new k → k < size
    inside k is = elim (cases_lt k size) [
      | inl less ↦ less
      | inr past ↦ absurd (false≢true (sym (get_or_past new k false (omega (arith, past, long, m.same_length))) ∙ is))
    ]
