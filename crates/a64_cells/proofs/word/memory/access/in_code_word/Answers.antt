use Rattle.std.proofs.Common.{◌≡◌, ◌∙◌, true, sym, ap, subst}
use Rattle.a64_inst.specs.FinalModes.{parts_of}
use Rattle.a64_rows.specs.Forms.{form_word}
use Rattle.a64_cells.specs.MemoryForms.{held_form}
use Rattle.a64_cells.specs.Words.{are_held_parts}
use Rattle.a64_cells.proofs.HeldModes.{held_other}
use Rattle.a64_cells.proofs.word.memory.access.in_code_word.Goals as goal

pub held_word-requires-clause-mode : goal.held_word-requires-clause-mode
held_word-requires-clause-mode c =
    subst (λ mem. are_held_parts c.args.op (parts_of mem) ≡ true) (held_other c.args.mem.now c.in_default.not-Const) c.requires.mode

pub returns-in_default : goal.returns-in_default
returns-in_default c =
    c.held_word.ensures ∙ ap (λ mem. form_word (held_form c.args.op c.args.rt (parts_of mem))) (sym (held_other c.args.mem.now c.in_default.not-Const))
