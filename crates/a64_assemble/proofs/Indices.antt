-- The index of the item that binds each label, with one item more after another.
use Rattle.std.proofs.Common.{ℕ, ◌≡◌, ◌+◌, ◌<◌, false, cond, List, [], ◌∷◌, ◌++◌, ◌⊎◌, eqb, length, get_or, take, Option, None, Some, refl, sym, ap, ◌∙◌, arith, inl, inr, nat_cmp}
use Rattle.std.specs.Cmp.{nat_cmp_total, unsigned_tied}
use Rattle.std.specs.FinMap.{FinMap, get, insert, empty, get-insert, get-empty}
use Rattle.std.specs.Option.{option_or}
use Rattle.std.proofs.lemmas.Bool.{false≢true, cases_eq, eq-eqb, ne_eqb}
use Rattle.std.proofs.lemmas.Option.{slice_get-get_or}
use Rattle.std.proofs.lemmas.List.{take_more, length-take-le}
use Rattle.a64_base.specs.declared.entity.MachLabel.{MachLabel}
use Rattle.a64_inst.specs.declared.emission.EmitFlags.{EmitFlags}
use Rattle.a64_inst.specs.declared.frame.FrameLayout.{FrameLayout}
use Rattle.a64_inst.specs.declared.item.Item.{Item}
use Rattle.a64_inst.specs.declared.item.Item.TheVariants.{Bind}
use Rattle.a64_emit.specs.Faults.{second_binding}
use Rattle.a64_emit.specs.Reach.{binds, binding_index}
use Rattle.a64_assemble.specs.Tally.{AreMarks, AreWithin, HasBindings}
use Rattle.a64_assemble.specs.declared.marks.Mark.{Mark}
use Rattle.a64_assemble.proofs.Checked.{among_bindings, not_bound_before}
use Rattle.a64_assemble.proofs.Spans.{first_binding, index_push}

pub indexed_none : (indices : FinMap nat_cmp ℕ) → indices ≡ empty → HasBindings [] indices
indexed_none indices none label = ap (λ (m : FinMap nat_cmp ℕ). get m label.0) none ∙ get-empty nat_cmp label.0

or_none : (o : Option ℕ) → option_or o None ≡ o
or_none None = refl
or_none (Some n) = refl

module _ (items : List Item) (i : ℕ) (d x : Item) (within : i < length items) (is : get_or items i d ≡ x) (indices : FinMap nat_cmp ℕ) (s : HasBindings (take i items) indices) where
  -- the index of a label with one more item
  index_more : (label : MachLabel) → binding_index (take (i + 1) items) label ≡ option_or (binding_index (take i items) label) (cond (binds label x) (Some i) None)
  index_more label =
      ap (λ xs. binding_index xs label) (take_more items i d within ∙ ap (λ (y : Item). take i items ++ y ∷ []) is)
      ∙ index_push (take i items) 0 x label
      ∙ ap (λ n. option_or (binding_index (take i items) label) (cond (binds label x) (Some n) None)) (omega (arith, length-take-le i items (omega arith)))

  -- an item that does not bind it
  index_other : (label : MachLabel) → binds label x ≡ false → binding_index (take (i + 1) items) label ≡ binding_index (take i items) label
  index_other label other = index_more label ∙ ap (λ b. option_or (binding_index (take i items) label) (cond b (Some i) None)) other ∙ or_none (binding_index (take i items) label)

  -- an item that binds nothing
  pub indexed_other : ((label : MachLabel) → binds label x ≡ false) → HasBindings (take (i + 1) items) indices
  indexed_other other label = s label ∙ sym (index_other label (other label))

  module _ (bound : MachLabel) (bind : x ≡ Bind bound) (once : second_binding items ≡ None) where
    -- a label that is bound here is bound by no item before
    not_before : (label : MachLabel) → bound.0 ≡ label.0 → (o : Option ℕ) → binding_index (take i items) label ≡ o → o ≡ None
    not_before label same None e = refl
    not_before label same (Some j) e =
        let first = first_binding (take i items) label j e in
        let among = among_bindings (take i items) j first.bound bound (slice_get-get_or (take i items) j d first.within ∙ ap (λ (y : Item). Some y) (first.is d)) (first.same ∙ sym same) in
        absurd (false≢true (sym (not_bound_before items i d bound once within (is ∙ bind)) ∙ among))

    pub indexed_bind : HasBindings (take (i + 1) items) (insert indices bound.0 i)
    indexed_bind label =
        get-insert nat_cmp_total indices bound.0 i label.0 ∙ ap (λ b. cond b (Some i) (get indices label.0)) (unsigned_tied label.0 bound.0) ∙ go (cases_eq label.0 bound.0)
      where
        go : (label.0 ≡ bound.0) ⊎ (label.0 ≡ bound.0 → ⊥) → cond (eqb label.0 bound.0) (Some i) (get indices label.0) ≡ binding_index (take (i + 1) items) label
        go (inl same) =
            ap (λ b. cond b (Some i) (get indices label.0)) (eq-eqb label.0 bound.0 same)
            ∙ sym (index_more label ∙ ap (λ o. option_or o (cond (binds label x) (Some i) None)) (not_before label (sym same) (binding_index (take i items) label) refl) ∙ ap (λ b. cond b (Some i) None) (ap (binds label) bind ∙ eq-eqb bound.0 label.0 (sym same)))
        go (inr apart) =
            ap (λ b. cond b (Some i) (get indices label.0)) (ne_eqb label.0 bound.0 apart) ∙ s label
            ∙ sym (index_other label (ap (binds label) bind ∙ ne_eqb bound.0 label.0 (λ e. apart (sym e))))

-- the items that bind labels are among those that the sums are over
pub all_within : (frame : FrameLayout) (flags : EmitFlags) (items : List Item) (marks : List Mark) (indices : FinMap nat_cmp ℕ) → AreMarks frame flags items marks → HasBindings items indices → AreWithin indices marks
all_within frame flags items marks indices are s label i bound = omega (arith, are.count, (first_binding items label i (sym (s label) ∙ bound)).within)
