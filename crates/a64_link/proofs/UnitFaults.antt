-- Units that are checked one by one, each by itself.
use Rattle.std.proofs.Common.{ℕ, ◌≡◌, ◌⊎◌, ◌+◌, ◌<◌, ◌^◌, List, length, drop, Option, Some, None, inl, inr, sym, ap, ◌∙◌, arith}
use Rattle.std.specs.List.{sum_by}
use Rattle.std.proofs.lemmas.List.{at_drop_more}
use Rattle.std.proofs.lemmas.List.Sums.{get_or-le-sum_by}
use Rattle.a64_link.specs.declared.error.LinkError.{LinkError}
use Rattle.a64_link.specs.declared.error.LinkError.TheVariants as errors
use Rattle.a64_link.specs.declared.unit.Unit.{Unit}
use Rattle.a64_link.specs.Units.{word_count}
use Rattle.a64_link.specs.Layout.{IsUnit}
use Rattle.a64_link.specs.Faults.{or_else, unit_fault, units_fault}

-- each unit has few words
pub few_words : (units : List Unit) (i : ℕ) (unit : Unit) → IsUnit units i unit → sum_by word_count units < 2 ^ 29 → length unit.words.items < 2 ^ 29
few_words units i unit u few = omega (arith, get_or-le-sum_by word_count units i unit u.within, ap word_count (u.is unit))

module _ (units : List Unit) (i : ℕ) (unit : Unit) (u : IsUnit units i unit) (rest : units_fault i (drop i units) ≡ units_fault 0 units) where
  left : or_else (unit_fault i unit) (units_fault (i + 1) (drop (i + 1) units)) ≡ units_fault 0 units
  left =
      ap (λ (v : Unit). or_else (unit_fault i v) (units_fault (i + 1) (drop (i + 1) units))) (sym (u.is unit))
      ∙ sym (at_drop_more (units_fault i) units i unit u.within) ∙ rest

  pub unit_fine : unit_fault i unit ≡ None → units_fault (i + 1) (drop (i + 1) units) ≡ units_fault 0 units
  unit_fine fine = ap (λ (o : Option LinkError). or_else o (units_fault (i + 1) (drop (i + 1) units))) (sym fine) ∙ left

  pub unit_bad : (e : LinkError) → (e ≡ errors.OutOfMemory) ⊎ (unit_fault i unit ≡ Some e) → (e ≡ errors.OutOfMemory) ⊎ (units_fault 0 units ≡ Some e)
  unit_bad e (inl m) = inl m
  unit_bad e (inr f) = inr (sym left ∙ ap (λ (o : Option LinkError). or_else o (units_fault (i + 1) (drop (i + 1) units))) f)
