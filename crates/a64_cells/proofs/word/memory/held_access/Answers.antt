use Rattle.std.proofs.Common.{◌≡◌, ◌∙◌, [], map, true, sym, ap, subst}
use Rattle.std.specs.Prelude.{◌&&◌, is_some, option_map}
use Rattle.std.proofs.lemmas.Bool.{and_parts}
use Rattle.a64_imms.specs.Scales.{type_bytes}
use Rattle.a64_operand.specs.declared.virtuals.VirtualRegisters.TheVariants.{Refused}
use Rattle.a64_inst.specs.declared.access.Access.{Access}
use Rattle.a64_inst.specs.Accesses.{access_type}
use Rattle.a64_inst.specs.MemoryOperands.{are_access_operands, are_mode_operands, has_access_mode, is_data_register, has_units}
use Rattle.a64_inst.specs.Modes.{base_offset_of}
use Rattle.a64_rows.specs.Forms.{form_word}
use Rattle.a64_cells.specs.MemoryForms.{held_form}
use Rattle.a64_cells.specs.Cells.{access_shape, literal_use}
use Rattle.a64_cells.specs.Words.{AreSeveral, are_held_parts}
use Rattle.a64_cells.proofs.Accesses.{held_good}
use Rattle.a64_cells.proofs.HeldModes.{held_final, no_steps, none_of}
use Rattle.a64_cells.proofs.word.memory.held_access.Goals as goal

pub in_code_word-requires-clause-mode : goal.in_code_word-requires-clause-mode
unfolding are_access_operands
in_code_word-requires-clause-mode c =
    let access : Access = record { op = c.access.inside.op; reg = c.access.inside.reg; mem = c.access.inside.mem.now; flags = c.access.inside.flags } in
    let frame = c.args._frame.now in
    let none = none_of (base_offset_of frame access.mem) (ap (λ (a : Access). is_some (base_offset_of frame a.mem)) c.access.view_is ∙ c.requires.held) in
    let parts = (and_parts (is_data_register Refused access.op access.reg) (are_mode_operands frame Refused access.mem && has_units (type_bytes (access_type access.op)) access.mem) (ap (are_access_operands frame Refused) c.access.view_is ∙ c.requires.operands)).1 in
    let (operands, units) = and_parts (are_mode_operands frame Refused access.mem) (has_units (type_bytes (access_type access.op)) access.mem) parts in
    subst (λ m. are_held_parts access.op m ≡ true) (sym (held_final frame access none)) (held_good access.op frame access.mem operands units (ap (λ (a : Access). has_access_mode a.op a.mem) c.access.view_is ∙ c.requires.mode))

pub returns : goal.returns
returns c =
    let access : Access = record { op = c.access.inside.op; reg = c.access.inside.reg; mem = c.access.inside.mem.now; flags = c.access.inside.flags } in
    let frame = c.args._frame.now in
    let none = none_of (base_offset_of frame access.mem) (ap (λ (a : Access). is_some (base_offset_of frame a.mem)) c.access.view_is ∙ c.requires.held) in
    subst (λ (a : Access). AreSeveral [] c.in_code_word.result (option_map literal_use c.mode_target.result) c.trap_code.result (access_shape frame a)) c.access.view_is (
      ap (map form_word) (sym (no_steps frame access none)),
      c.in_code_word.ensures ∙ ap (λ m. form_word (held_form access.op access.reg m)) (held_final frame access none),
      c.mode_target.ensures,
      c.trap_code.ensures,
    )
