-- What stands in a file for an entry: a name, and the fields behind it.
use Rattle.std.specs.Prelude.{List, [], ◌∷◌, Option}
use Rattle.a64_base.specs.declared.entity.TrapCode.{TrapCode}
use Rattle.a64_base.specs.declared.reg.Reg.{Reg}
use Rattle.a64_inst.specs.declared.call.CallInfo.{CallInfo}
use Rattle.a64_inst.specs.declared.call.ReturnCallInfo.{ReturnCallInfo}
use Rattle.a64_inst.specs.declared.mode.AMode.{AMode}
use Rattle.a64_inst.specs.declared.mode.PairAMode.{PairAMode}
use Rattle.a64_ops.specs.declared.access.AccessOp.{AccessOp}
use Rattle.a64_text.specs.declared.name.CallName.{CallName}
use Rattle.a64_text.specs.declared.name.PairName.{PairName}
use Rattle.a64_text.specs.declared.name.Name.{Name}
use Rattle.a64_text.specs.declared.name.Name.TheVariants as names
use Rattle.a64_tokens.specs.declared.value.Value.{Value}
use Rattle.a64_tokens.specs.declared.value.Value.TheVariants as values
use Rattle.a64_read.specs.Calls.{call_arg_text, call_ret_text}
use Rattle.a64_read.specs.Clobbers.{clobbers_text}
use Rattle.a64_tokens.specs.Lists.{list_text}
use Rattle.a64_tokens.specs.PairModes.{written_pair}

pub record Parts : Type 0 where
  pub name : Name
  pub fields : List Value

abbrev pub access_parts : AccessOp → Reg → AMode → Option TrapCode → Parts
access_parts op rd mem flags = record {
  name = names.Access op;
  fields = values.Reg rd ∷ values.Mode mem ∷ values.Flags flags ∷ [];
}

abbrev pub pair_parts : PairName → Reg → Reg → PairAMode → Option TrapCode → Parts
pair_parts name rt rt2 mem flags = record {
  name = names.Pair name;
  fields = values.Reg rt ∷ values.Reg rt2 ∷ values.PairMode (written_pair mem) ∷ values.Flags flags
      ∷ [];
}

-- of a call, but for its map
abbrev pub call_parts : {T : Type 0} → CallName → Value → CallInfo T → Parts
call_parts name dest info = record {
  name = names.Call name;
  fields = dest ∷ values.List (list_text call_arg_text info.uses)
      ∷ values.List (list_text call_ret_text info.defs)
      ∷ values.List (clobbers_text info.clobbers) ∷ values.Convention info.caller_conv
      ∷ values.Convention info.callee_conv ∷ values.U32 info.callee_pop_size
      ∷ values.Bool info.patchable ∷ [];
}

abbrev pub return_call_parts : {T : Type 0} → CallName → Value → ReturnCallInfo T → Parts
return_call_parts name dest info = record {
  name = names.Call name;
  fields = dest ∷ values.List (list_text call_arg_text info.uses)
      ∷ values.U32 info.new_stack_arg_size ∷ values.Key info.key
      ∷ values.Bool info.sign_return_address_all ∷ [];
}
