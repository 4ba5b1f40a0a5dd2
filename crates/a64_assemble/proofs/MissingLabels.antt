-- The labels of one item's uses that are not bound.
use Rattle.std.proofs.Common.{◌≡◌, Bool, not, cond, List, [], ◌∷◌, Option, None, Some, refl, sym, ap, ◌∙◌}
use Rattle.std.specs.List.{cons_option, filter_map}
use Rattle.std.specs.Option.{option_or}
use Rattle.std.proofs.lemmas.List.Folds.{find-append}
use Rattle.a64_base.specs.declared.entity.MachLabel.{MachLabel}
use Rattle.a64_cells.specs.declared.site.Site.{Site}
use Rattle.a64_cells.specs.declared.site.Uses.{Uses}
use Rattle.a64_cells.specs.Shapes.{Cell, table_labels}
use Rattle.a64_cells.specs.Cells.{listed_uses, sites_of, two_uses, uses_of}
use Rattle.a64_emit.specs.Faults.{first_missing, is_among, used_label}
use Rattle.a64_emit.proofs.UseLists.{listed_labels, listed_two, missing_listed}

pub or_none : {X : Type 0} (o : Option X) → option_or o None ≡ o
or_none None = refl
or_none (Some x) = refl

module _ (bound : List MachLabel) where
  -- the first of a table's labels: of its targets, or else its default
  pub missing_table : (default : MachLabel) (targets : List MachLabel) (first : Option MachLabel) (among : Bool) → first ≡ first_missing bound targets → among ≡ is_among bound default
      → option_or first (cond (not among) (Some default) None) ≡ first_missing bound (table_labels default targets)
  missing_table default targets first among e f =
      ap (λ o. option_or o (cond (not among) (Some default) None)) e
      ∙ ap (λ b. option_or (first_missing bound targets) (cond (not b) (Some default) None)) f
      ∙ sym (find-append (λ (label : MachLabel). not (is_among bound label)) targets (default ∷ []))

  -- the first of an item's labels: of the uses of its first two words, or else of its table
  pub missing_parts : (cells : List Cell) (uses : Uses) (first second entry : Option MachLabel) → uses_of 0 cells ≡ listed_uses uses
      → first ≡ first_missing bound (filter_map used_label (cons_option uses.first [])) → second ≡ first_missing bound (filter_map used_label (cons_option uses.second [])) → entry ≡ first_missing bound (listed_labels uses.table)
      → option_or (option_or first second) entry ≡ first_missing bound (filter_map used_label (sites_of cells))
  missing_parts cells uses first second entry is e f g =
      ap (λ o. option_or (option_or o second) entry) e
      ∙ ap (λ o. option_or (option_or (first_missing bound (filter_map used_label (cons_option uses.first []))) o) entry) f
      ∙ ap (λ o. option_or (option_or (first_missing bound (filter_map used_label (cons_option uses.first []))) (first_missing bound (filter_map used_label (cons_option uses.second [])))) o) g
      ∙ sym (missing_listed bound cells uses is)

  -- the first of an item's labels, of whose words only the first two may be uses
  pub missing_pair : (cells : List Cell) (a b : Option Site) (first second : Option MachLabel) → uses_of 0 cells ≡ two_uses a b
      → first ≡ first_missing bound (filter_map used_label (cons_option a [])) → second ≡ first_missing bound (filter_map used_label (cons_option b []))
      → option_or first second ≡ first_missing bound (filter_map used_label (sites_of cells))
  missing_pair cells a b first second is e f =
      sym (or_none (option_or first second))
      ∙ missing_parts cells (record { first = a; second = b; table = None }) first second None (is ∙ sym (listed_two a b)) e f refl
