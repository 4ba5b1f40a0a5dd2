-- Wrong answers that the definitions refuse.
use Rattle.std.proofs.Common.{ℕ, ◌≡◌, List, [], ◌∷◌, ◌++◌, get_or, Option, refl, ap, ◌∙◌, arith, inl, inr}
use Rattle.a64_base.specs.declared.entity.MachLabel.{MachLabel}
use Rattle.a64_base.specs.declared.entity.UserStackMap.{UserStackMap}
use Rattle.a64_base.specs.declared.target.BranchTarget.TheVariants.{Label}
use Rattle.a64_inst.specs.declared.emission.EmitFlags.{EmitFlags}
use Rattle.a64_inst.specs.declared.frame.FrameLayout.{FrameLayout}
use Rattle.a64_inst.specs.declared.inst.Inst.TheVariants.{Nop4, Jump}
use Rattle.a64_inst.specs.declared.item.Item.TheVariants.{Bind, Emit}
use Rattle.a64_buffer.specs.declared.force.ForceVeneers.{ForceVeneers}
use Rattle.a64_rows.specs.declared.row_table.Row.TheVariants.{Brk}
use Rattle.a64_rows.specs.Control.{branch_reg}
use Rattle.a64_rows.specs.Forms.{form}
use Rattle.a64_emit.specs.declared.code.Code.{Code}
use Rattle.a64_cells.specs.Shapes.{plain}
use Rattle.a64_cells.specs.FormCells.{IsFormCell}
use Rattle.a64_emit.specs.Layout.{Laid}
use Rattle.a64_emit.specs.Reach.{loose, reach}

-- two instructions at one place, and between them an island that ends before it begins: an endless loop
pub no_island_backward : (frame : FrameLayout) (flags : EmitFlags) (m n : Option UserStackMap) (code : Code) → code.places.items ≡ 0 ∷ 0 ∷ [] → code.pool ≡ 4 → Laid frame flags (Emit Nop4 m ∷ Emit Nop4 n ∷ []) code → ⊥
no_island_backward frame flags m n code places pool laid =
    let stations : code.places.items ++ code.pool ∷ [] ≡ 0 ∷ 0 ∷ 4 ∷ [] = ap (λ (ps : List ℕ). ps ++ code.pool ∷ []) places ∙ ap (λ p. 0 ∷ 0 ∷ p ∷ []) pool in
    let here : get_or (code.places.items ++ code.pool ∷ []) 0 0 ≡ 0 = ap (λ (t : List ℕ). get_or t 0 0) stations in
    let next : get_or (code.places.items ++ code.pool ∷ []) 1 0 ≡ 0 = ap (λ (t : List ℕ). get_or t 1 0) stations in
    elim (laid.next 0 (omega arith)) [
      | inl same ↦ absurd (omega (arith, same, here, next))
      | inr island ↦ absurd (omega (arith, island.long, here, next))
    ]

-- a reach without the item of the use
pub both_ends_counted : (frame : FrameLayout) (flags : EmitFlags) (force : ForceVeneers) (label : MachLabel) (m n : Option UserStackMap) → reach frame flags force (Bind label ∷ Emit Nop4 m ∷ Emit Nop4 n ∷ []) 2 0 ≡ 8
both_ends_counted frame flags force label m n = refl

-- a branch that waits for an island behind its label, and one whose label is another
pub no_wait_behind_label : (frame : FrameLayout) (flags : EmitFlags) (m : Option UserStackMap) → loose frame flags (Emit (Jump (Label (record { 0 = 1 }))) m ∷ Bind (record { 0 = 1 }) ∷ []) ≡ 0
no_wait_behind_label frame flags m = refl

pub wait_behind_other : (frame : FrameLayout) (flags : EmitFlags) (m : Option UserStackMap) → loose frame flags (Emit (Jump (Label (record { 0 = 1 }))) m ∷ Bind (record { 0 = 2 }) ∷ []) ≡ 1
wait_behind_other frame flags m = refl

-- a form whose register has six bits, and one with a value too many
pub no_sixth_bit : IsFormCell (plain (branch_reg (record { opc = 0; rn = 32 }))) → ⊥
no_sixth_bit is = absurd (omega (arith, is.0.1.0))

pub no_value_more : IsFormCell (plain (form Brk (0 ∷ []))) → ⊥
no_value_more is = is.0
