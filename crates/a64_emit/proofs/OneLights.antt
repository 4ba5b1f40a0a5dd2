-- What instructions add to code that are one plain word.
use Rattle.std.proofs.Common.{◌≡◌, ◌+◌, List, [], ◌∷◌, length, Option, None, Some, refl, sym, ap, subst}
use Rattle.a64_base.specs.declared.entity.UserStackMap.{UserStackMap}
use Rattle.a64_inst.specs.declared.emission.EmitFlags.{EmitFlags}
use Rattle.a64_inst.specs.declared.frame.FrameLayout.{FrameLayout}
use Rattle.a64_inst.specs.declared.group.Group.TheVariants.{Plain}
use Rattle.a64_inst.specs.declared.group.PlainGroup.{PlainGroup}
use Rattle.a64_inst.specs.declared.inst.Inst.{Inst}
use Rattle.a64_inst.specs.declared.inst.Inst.TheVariants as insts
use Rattle.a64_inst.specs.declared.item.Item.TheVariants.{Emit}
use Rattle.a64_inst.specs.Groups.{group_of}
use Rattle.a64_rows.specs.Forms.{Form}
use Rattle.a64_emit.specs.declared.extent.Light.{Light}
use Rattle.a64_emit.specs.Bounds.{asked_of, charge_of, growth_of, ranges_in, size_of}
use Rattle.a64_cells.specs.Shapes.{Cell, plain}
use Rattle.a64_cells.specs.Cells.{cells_of, inst_cells}
use Rattle.a64_emit.specs.Lights.{IsLight}
use Rattle.a64_cells.specs.PlainForms.{plain_form}
use Rattle.a64_emit.proofs.Asked.{kept_light}

abbrev pub one_word : Light
one_word = record { growth = 8; first = None; second = None; range = None }

-- none of them asks for space
pub one_unasked : (inst : Inst) (group : PlainGroup) → group_of inst ≡ Plain group → asked_of inst ≡ None
one_unasked (insts.EmitIsland needed_space) group e = absurd cc
one_unasked _ group e = refl

-- cells are the one of a form
abbrev IsCell : Option Form → List Cell → Type 0
IsCell None cells = ⊥
IsCell (Some form) cells = cells ≡ plain form ∷ []

cell_light : (o : Option Form) (cells : List Cell) → IsCell o cells → IsLight cells (size_of cells + charge_of cells) one_word
cell_light None cells is = elim is [ ]
cell_light (Some form) cells is =
    subst (λ (all : List Cell). IsLight all (size_of all + charge_of all) one_word) (sym is)
    (record { uses = refl; far = refl; growth_is = refl; range_is = refl })

cell_count : (o : Option Form) (cells : List Cell) → IsCell o cells → 1 ≡ length cells
cell_count None cells is = elim is [ ]
cell_count (Some form) cells is = ap length (sym is)

cell_quiet : (o : Option Form) (cells : List Cell) → IsCell o cells → ranges_in cells ≡ []
cell_quiet None cells is = elim is [ ]
cell_quiet (Some form) cells is = ap ranges_in is

module _ (frame : FrameLayout) (flags : EmitFlags) where
  plain_cells : (inst : Inst) (group : PlainGroup) → group_of inst ≡ Plain group → IsCell (plain_form inst) (inst_cells frame flags inst)
  plain_cells insts.Nop0 group e = absurd cc
  plain_cells _ group e = cc

  pub one_light : (inst : Inst) (kept : Option UserStackMap) (group : PlainGroup) → group_of inst ≡ Plain group → IsLight (cells_of frame flags (Emit inst kept)) (growth_of frame flags (Emit inst kept)) one_word
  one_light inst kept group e =
      kept_light frame flags inst kept one_word (one_unasked inst group e) (cell_light (plain_form inst) (inst_cells frame flags inst) (plain_cells inst group e))

  -- they are one cell, which has no use
  pub one_count : (inst : Inst) (group : PlainGroup) → group_of inst ≡ Plain group → 1 ≡ length (inst_cells frame flags inst)
  one_count inst group e = cell_count (plain_form inst) (inst_cells frame flags inst) (plain_cells inst group e)

  pub one_quiet : (inst : Inst) (group : PlainGroup) → group_of inst ≡ Plain group → ranges_in (inst_cells frame flags inst) ≡ []
  one_quiet inst group e = cell_quiet (plain_form inst) (inst_cells frame flags inst) (plain_cells inst group e)
