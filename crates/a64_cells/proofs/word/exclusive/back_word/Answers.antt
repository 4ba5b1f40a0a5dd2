use Rattle.std.proofs.Common.{◌∙◌, ap, ap₂, of_z, to_z, w32}
use Rattle.a64_base.specs.declared.cond.CondBrKind.TheVariants.{NotZero}
use Rattle.a64_base.specs.declared.size.OperandSize.TheVariants.{Size64}
use Rattle.a64_base.specs.declared.target.BranchTarget.TheVariants.{ResolvedOffset}
use Rattle.a64_rows.specs.Forms.{form_word}
use Rattle.a64_cells.specs.ControlForms.{cond_br_form}
use Rattle.a64_cells.proofs.Loops.{offset_kept}
use Rattle.a64_cells.proofs.word.exclusive.back_word.Goals as goal

pub returns : goal.returns
returns c =
    c.cond_br_word.ensures
    ∙ ap₂ (λ z reg. form_word (cond_br_form (ResolvedOffset z) (NotZero reg Size64))) (ap (λ z. to_z w32 (of_z w32 z)) c.loop_offset.ensures ∙ offset_kept c.args.between c.requires) c.xreg.ensures
