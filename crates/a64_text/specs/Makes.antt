-- What a name makes of the fields behind it.
use Rattle.std.specs.Prelude.{◌≡◌, ℕ, map, List, Option, Some, None, IfSome}
use Rattle.std.specs.List.{AllByRecursion}
use Rattle.a64_base.specs.declared.entity.ExternalName.{ExternalName}
use Rattle.a64_base.specs.declared.entity.MachLabel.{MachLabel}
use Rattle.a64_base.specs.declared.entity.UserStackMap.{UserStackMap}
use Rattle.a64_base.specs.declared.reg.Reg.{Reg}
use Rattle.a64_base.specs.VectorSizes.{lane_of}
use Rattle.a64_base.specs.declared.size.OperandSize.{OperandSize}
use Rattle.a64_base.specs.declared.size.ScalarSize.{ScalarSize}
use Rattle.a64_imms.specs.declared.asimd_fp.ASIMDFPModImm.{ASIMDFPModImm}
use Rattle.a64_imms.specs.declared.imm_logic.ImmLogic.{ImmLogic}
use Rattle.a64_inst.specs.Accesses.{inst_with}
use Rattle.a64_inst.specs.declared.call.CallArgPair.{CallArgPair}
use Rattle.a64_inst.specs.declared.call.CallInfo.{CallInfo}
use Rattle.a64_inst.specs.declared.call.ReturnCallInfo.{ReturnCallInfo}
use Rattle.a64_inst.specs.declared.inst.Inst.{Inst}
use Rattle.a64_inst.specs.declared.inst.Inst.TheVariants as insts
use Rattle.a64_inst.specs.declared.item.Item.TheVariants.{Bind, Emit}
use Rattle.a64_ops.specs.declared.operator.ALUOp.{ALUOp}
use Rattle.a64_text.specs.declared.entry.Entry.{Entry}
use Rattle.a64_text.specs.declared.entry.Entry.TheVariants as entries
use Rattle.a64_text.specs.declared.name.CallName.TheVariants as call
use Rattle.a64_text.specs.declared.name.ControlName.TheVariants as control
use Rattle.a64_text.specs.declared.name.FloatName.TheVariants as float
use Rattle.a64_text.specs.declared.name.ImmediateName.TheVariants as immediate
use Rattle.a64_text.specs.declared.name.VectorMoveName.TheVariants as vector_move
use Rattle.a64_text.specs.declared.name.SequenceName.TheVariants as sequence
use Rattle.a64_text.specs.declared.name.Name.{Name}
use Rattle.a64_text.specs.declared.name.Name.TheVariants as names
use Rattle.a64_tokens.specs.declared.value.Value.{Value}
use Rattle.a64_read.specs.At.{convention_at, emit_flag_at, flags_at, frame_field_at, key_at}
use Rattle.a64_read.specs.At.{label_at, list_at, map_at, mode_at, mov_imm_at, pair_mode_at, reg_at}
use Rattle.a64_read.specs.At.{truth_at, u32_at, u8_at, vector_size_at}
use Rattle.a64_read.specs.Calls.{call_arg_text, call_lists_text, AreCallLists, CallLists, IsCallArg}
use Rattle.a64_tokens.specs.Fields.{label_text, IsLabel}
use Rattle.a64_tokens.specs.Hex.{hex_text}
use Rattle.a64_text.specs.Constants.{HasHex}
use Rattle.a64_tokens.specs.Lists.{list_text}
use Rattle.a64_read.specs.ModeMakes.{MakesOf}
use Rattle.a64_tokens.specs.PairModes.{written_pair, IsPairAt}
use Rattle.a64_text.specs.Names.{float_imm_name, kinds_of, logic_name}
use Rattle.a64_text.specs.FloatImms.{IsFloatAt}
use Rattle.a64_text.specs.MovImms.{written_mov, IsMovAt}
use Rattle.a64_text.specs.NameInsts.{control_of, float_of, immediate_of, memory_of, pair_of}
use Rattle.a64_text.specs.NameInsts.{register_of, sequence_of, system_of, vector_move_of, vector_of}
use Rattle.a64_text.specs.Pairs.{pair_scale}
use Rattle.a64_read.specs.RegisterPairs.{arg_pair_text, IsArgPair, ret_pair_text, IsRetPair}
use Rattle.a64_text.specs.Tokens.{name_of, fields_of, IsOwn, IsPlain}
use Rattle.a64_read.specs.Values.{kind_of}

-- the entry that is an instruction without a map
abbrev pub emitted : Inst → Entry
emitted inst = entries.Item (Emit inst None)

-- the jump through a table of these fields, with these targets
abbrev pub jump_of : List Value → List MachLabel → Inst
jump_of values targets =
    insts.JTSequence (label_at values 0) targets (reg_at values 2) (reg_at values 3)
    (reg_at values 4)

-- the entry that is a call with this map
abbrev pub called : Inst → Option UserStackMap → Entry
called inst map = entries.Item (Emit inst map)

-- what is known of a call of this destination, with these lists
abbrev pub call_of : {T : Type 0} → T → List Value → CallLists → CallInfo T
call_of dest values lists = record {
  dest = dest;
  uses = lists.0;
  defs = lists.1;
  clobbers = lists.2;
  caller_conv = convention_at values 4;
  callee_conv = convention_at values 5;
  callee_pop_size = u32_at values 6;
  patchable = truth_at values 7;
}

-- and of a return that calls this destination
abbrev pub return_call_of : {T : Type 0} → T → List Value → List CallArgPair → ReturnCallInfo T
return_call_of dest values uses = record {
  dest = dest;
  uses = uses;
  new_stack_arg_size = u32_at values 2;
  key = key_at values 3;
  sign_return_address_all = truth_at values 4;
}

abbrev pub name_at : List Value → ExternalName
name_at values = record { 0 = u32_at values 0 }

-- the texts of the lists of a call
abbrev pub call_texts_at : List Value → List ℕ × List ℕ × List ℕ
call_texts_at values = (list_at values 1, list_at values 2, list_at values 3)

-- the constant of these fields, with these bytes
abbrev pub constant_of : List Value → List ℕ → Entry
constant_of values bytes = entries.Constant (record { 0 = u32_at values 0 }) bytes

-- the entry of this name with these fields, where it needs nothing but these
abbrev pub entry_of : Name → List Value → Entry
entry_of (names.Immediate name) values = emitted (immediate_of name values)
entry_of (names.Register name) values = emitted (register_of name values)
entry_of (names.Float name) values = emitted (float_of name values)
entry_of (names.Vector name) values = emitted (vector_of name values)
entry_of (names.VectorMove name) values = emitted (vector_move_of name values)
entry_of (names.System name) values = emitted (system_of name values)
entry_of (names.Control name) values = emitted (control_of name values)
entry_of (names.Sequence name) values = emitted (sequence_of name values)
entry_of (names.Call name) values = emitted insts.Nop0
entry_of (names.Pair name) values = emitted insts.Nop0
entry_of (names.Memory name) values = emitted (memory_of name values)
entry_of (names.Access op) values =
    emitted (inst_with op (reg_at values 0) (mode_at values 1) (flags_at values 2))
entry_of names.Bind values = entries.Item (Bind (label_at values 0))
entry_of names.Const values = constant_of values (list_at values 1)
entry_of names.Frame values = entries.Frame (frame_field_at values 0) (u32_at values 1)
entry_of names.Flag values = entries.Flag (emit_flag_at values 0)

-- some entry of this name with these fields, exactly where there is one. `make` makes all entries
-- of the name
pub record MakesOwn {X : Type 0} (name : Name) (make : X
    → Entry) (values : List Value) (result : Option Entry) : Type 0 where
  pub some : map kind_of values ≡ kinds_of name
      → IfSome result (λ entry. (name_of entry ≡ name) × (fields_of entry ≡ values) × IsOwn entry)
  pub only : (x : X) → IsPlain (make x) → fields_of (make x) ≡ values → result ≡ Some (make x)

unfoldable pub Makes : Name → List Value → Option Entry → Type 0
Makes (names.Immediate immediate.AluRRImmLogic) values result =
    MakesOwn logic_name (λ (x : ALUOp × OperandSize × Reg × Reg
    × ImmLogic). emitted (insts.AluRRImmLogic x.0 x.1 x.2 x.3 x.4)) values result
Makes (names.Float float.FpuMoveFPImm) values result =
    MakesOwn float_imm_name (λ (x : Reg × ASIMDFPModImm
    × ScalarSize). emitted (insts.FpuMoveFPImm x.0 x.1 x.2)) values result
Makes (names.VectorMove vector_move.VecDupFPImm) values result =
    MakesOf (IsFloatAt (lane_of (vector_size_at values 2))) (λ (imm : ASIMDFPModImm). imm.imm)
    (u8_at values 1)
    (λ imm. emitted (insts.VecDupFPImm (reg_at values 0) imm (vector_size_at values 2))) result
Makes (names.VectorMove vector_move.VecDupImm) values result =
    MakesOf (IsMovAt (lane_of (vector_size_at values 3))) written_mov (mov_imm_at values 1)
    (λ imm. emitted
    (insts.VecDupImm (reg_at values 0) imm (truth_at values 2) (vector_size_at values 3)))
    result
Makes (names.Pair name) values result =
    MakesOf (IsPairAt (pair_scale name)) written_pair (pair_mode_at values 2)
    (λ mem. emitted (pair_of name (reg_at values 0) (reg_at values 1) mem (flags_at values 3)))
    result
Makes (names.Control control.IndirectBr) values result =
    MakesOf (AllByRecursion IsLabel) (list_text label_text) (list_at values 1)
    (λ targets. emitted (insts.IndirectBr (reg_at values 0) targets)) result
Makes (names.Sequence sequence.Args) values result =
    MakesOf (AllByRecursion IsArgPair) (list_text arg_pair_text) (list_at values 0)
    (λ args. emitted (insts.Args args)) result
Makes (names.Sequence sequence.Rets) values result =
    MakesOf (AllByRecursion IsRetPair) (list_text ret_pair_text) (list_at values 0)
    (λ rets. emitted (insts.Rets rets)) result
Makes (names.Sequence sequence.JTSequence) values result =
    MakesOf (AllByRecursion IsLabel) (list_text label_text) (list_at values 1)
    (λ targets. emitted (jump_of values targets)) result
Makes (names.Call call.Call) values result =
    MakesOf AreCallLists call_lists_text (call_texts_at values)
    (λ lists. called (insts.Call (call_of (name_at values) values lists)) (map_at values 8)) result
Makes (names.Call call.CallInd) values result =
    MakesOf AreCallLists call_lists_text (call_texts_at values)
    (λ lists. called (insts.CallInd (call_of (reg_at values 0) values lists)) (map_at values 8))
    result
Makes (names.Call call.ReturnCall) values result =
    MakesOf (AllByRecursion IsCallArg) (list_text call_arg_text) (list_at values 1)
    (λ uses. emitted (insts.ReturnCall (return_call_of (name_at values) values uses))) result
Makes (names.Call call.ReturnCallInd) values result =
    MakesOf (AllByRecursion IsCallArg) (list_text call_arg_text) (list_at values 1)
    (λ uses. emitted (insts.ReturnCallInd (return_call_of (reg_at values 0) values uses))) result
Makes names.Const values result =
    MakesOf HasHex hex_text (list_at values 1) (constant_of values) result
Makes name values result = result ≡ Some (entry_of name values)
