use Rattle.std.proofs.Common.{◌∙◌, sym, ap}
use Rattle.std.specs.Prelude.{is_some}
use Rattle.a64_inst.specs.declared.access.Access.{Access}
use Rattle.a64_inst.specs.declared.mode.AMode.{AMode}
use Rattle.a64_inst.specs.Modes.{base_offset_of}
use Rattle.a64_cells.proofs.word.memory.held_memory_word.Goals as goal

pub held_access-requires-clause-held : goal.held_access-requires-clause-held
held_access-requires-clause-held c =
    ap (λ (m : AMode). is_some (base_offset_of c.args.frame.now m)) (ap (λ (a : Access). a.mem) (sym c.access.view_is) ∙ c.in-Const.is)
