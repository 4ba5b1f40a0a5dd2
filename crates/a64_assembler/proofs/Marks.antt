-- Marks of the labels that are bound.
use Rattle.std.proofs.Common.{ℕ, ◌≡◌, ◌-◌, ◌<◌, Bool, true, false, List, [], ◌∷◌, ◌++◌, length, get_or, set, refl, sym, ap, ◌∙◌, inl, inr, arith, nat_cmp, get_or-set_same, get_or-set_other}
use Rattle.std.specs.Prelude.{is_some}
use Rattle.std.specs.FinMap.{FinMap, get, insert, empty, get-empty}
use Rattle.std.proofs.Math.ListN.{get_or-eq_default}
use Rattle.std.proofs.lemmas.Bool.{cases_lt}
use Rattle.std.proofs.lemmas.Bool.Decides.{eqb_tells}
use Rattle.std.proofs.lemmas.List.{get_or_append_left, get_or-append_right}
use Rattle.a64_buffer.proofs.Labels.{get_here, get_other}
use Rattle.a64_assembler.specs.Emitting.{AreBound}

-- one more label has no mark, and neither has one that was not given out
only_unmarked : (k : ℕ) → get_or (false ∷ []) k false ≡ false
only_unmarked k = grind arith

unmarked : (marks : List Bool) (k : ℕ) → get_or (marks ++ false ∷ []) k false ≡ get_or marks k false
unmarked marks k = elim (cases_lt k (length marks)) [
  | inl within ↦ get_or_append_left marks (false ∷ []) false k within
  | inr behind ↦
      get_or-append_right marks (false ∷ []) (length marks) k false refl behind
      ∙ only_unmarked (k - length marks) ∙ sym (get_or-eq_default marks false behind)
]

-- no label was given out
pub none_bound : AreBound [] empty
none_bound k = sym (ap is_some (get-empty nat_cmp k))

-- one more label was given out
pub one_given : (marks : List Bool) (labels : FinMap nat_cmp ℕ) → AreBound marks labels → AreBound (marks ++ false ∷ []) labels
one_given marks labels h k = unmarked marks k ∙ h k

-- a label that was given out is bound
pub one_bound : (marks : List Bool) (labels : FinMap nat_cmp ℕ) (label place : ℕ) → label < length marks → AreBound marks labels → AreBound (set marks label true) (insert labels label place)
one_bound marks labels label place within h k = elim (eqb_tells k label) [
  | inl same ↦
      ap (λ i. get_or (set marks label true) i false) same.1 ∙ get_or-set_same marks label true false within
      ∙ sym (ap (λ i. is_some (get (insert labels label place) i)) same.1 ∙ ap is_some (get_here labels label place))
  | inr other ↦ get_or-set_other marks label k true false other.1 ∙ h k ∙ sym (ap is_some (get_other labels label place k other.1))
]
