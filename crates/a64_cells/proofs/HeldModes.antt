-- Loads and stores of one register in modes that an instruction holds: one word each.
use Rattle.std.proofs.Common.{◌≡◌, true, false, [], ◌∷◌, Option, None, Some, refl, sym, ap, ◌∙◌}
use Rattle.std.specs.Prelude.{is_some}
use Rattle.a64_base.specs.declared.entity.VCodeConstant.{VCodeConstant}
use Rattle.a64_inst.specs.declared.access.Access.{Access}
use Rattle.a64_inst.specs.declared.emission.EmitFlags.{EmitFlags}
use Rattle.a64_inst.specs.declared.frame.FrameLayout.{FrameLayout}
use Rattle.a64_inst.specs.declared.mode.AMode.{AMode}
use Rattle.a64_inst.specs.declared.mode.AMode.TheVariants.{Const}
use Rattle.a64_inst.specs.declared.inst.Inst.{Inst}
use Rattle.a64_inst.specs.Accesses.{access_of, access_type}
use Rattle.a64_inst.specs.FinalModes.{final_mode, held_mode, parts_of, placed_mode}
use Rattle.a64_inst.specs.Modes.{BaseOffset, base_offset_of, steps_to}
use Rattle.a64_cells.specs.Shapes.{FormOf, last_cell, several}
use Rattle.a64_cells.specs.Cells.{access_shape, inst_cells, mode_site, other_shape, shape_cells}
use Rattle.a64_cells.specs.MemoryForms.{access_form, access_steps, offset_register, step_forms}

pub none_of : (o : Option BaseOffset) → is_some o ≡ false → o ≡ None
none_of None e = refl
none_of (Some place) e = absurd cc

-- only a constant stands otherwise in code
pub held_other : (mem : AMode) → ((addr : VCodeConstant) → mem ≡ Const addr → ⊥) → held_mode true mem ≡ mem
held_other (Const addr) other = absurd (other addr refl)
held_other _ other = refl

module _ (frame : FrameLayout) (access : Access) (held : base_offset_of frame access.mem ≡ None) where
  pub no_steps : access_steps frame access ≡ []
  no_steps = ap (λ (o : Option BaseOffset). step_forms offset_register (elim o [ None ↦ [] | Some place ↦ steps_to (access_type access.op) place.offset ])) held

  pub held_final : parts_of (held_mode true access.mem) ≡ final_mode frame (access_type access.op) access.mem
  held_final = sym (ap (λ (o : Option BaseOffset). elim o [ None ↦ parts_of (held_mode true access.mem) | Some place ↦ placed_mode (access_type access.op) place ]) held)

  pub held_cells : (flags : EmitFlags) (inst : Inst) → access_of inst ≡ Some access → inst_cells frame flags inst ≡ last_cell (FormOf (access_form frame access)) (mode_site access.mem) access.flags ∷ []
  held_cells flags inst is =
      ap (λ (o : Option Access). shape_cells (elim o [ None ↦ other_shape frame flags inst | Some access ↦ access_shape frame access ])) is
      ∙ ap (λ forms. several forms (FormOf (access_form frame access)) (mode_site access.mem) access.flags) no_steps
