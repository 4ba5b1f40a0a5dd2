-- From the fields behind a name to the entry that they make.
use Rattle.std.specs.Prelude.{ℕ, ◌≡◌, ◌==◌, ◌≤◌, false, get_or, List, [], ◌∷◌, length, map}
use Rattle.std.specs.Prelude.{option_map, Option, Some, None, IfSome, refl}
use Rattle.std.proofs.Common.{lit≤, sym, ap, subst, ◌∙◌}
use Rattle.std.specs.List.{AllByRecursion}
use Rattle.a64_base.specs.declared.entity.UserStackMap.{UserStackMap}
use Rattle.a64_base.specs.declared.entity.TrapCode.{TrapCode}
use Rattle.a64_base.specs.declared.reg.Reg.{Reg}
use Rattle.a64_base.specs.VectorSizes.{lane_of}
use Rattle.a64_imms.specs.declared.asimd_fp.ASIMDFPModImm.{ASIMDFPModImm}
use Rattle.a64_imms.specs.declared.asimd_mov.ASIMDMovModImm.{ASIMDMovModImm}
use Rattle.a64_inst.specs.declared.mode.PairAMode.{PairAMode}
use Rattle.a64_inst.specs.declared.inst.Inst.{Inst}
use Rattle.a64_inst.specs.declared.inst.Inst.TheVariants as insts
use Rattle.a64_inst.specs.declared.item.Item.TheVariants.{Bind, Emit}
use Rattle.a64_text.specs.declared.entry.Entry.{Entry}
use Rattle.a64_text.specs.declared.entry.Entry.TheVariants as entries
use Rattle.a64_text.specs.declared.name.CallName.TheVariants as call
use Rattle.a64_text.specs.declared.name.ControlName.TheVariants as control
use Rattle.a64_text.specs.declared.name.FloatName.TheVariants as float
use Rattle.a64_text.specs.declared.name.PairName.{PairName}
use Rattle.a64_text.specs.declared.name.PairName.TheVariants as pair
use Rattle.a64_text.specs.declared.name.VectorName.TheVariants as vector
use Rattle.a64_text.specs.declared.name.VectorMoveName.TheVariants as vector_move
use Rattle.a64_text.specs.declared.name.ImmediateName.TheVariants as immediate
use Rattle.a64_text.specs.declared.name.RegisterName.TheVariants as register
use Rattle.a64_text.specs.declared.name.SystemName.TheVariants as system
use Rattle.a64_text.specs.declared.name.MemoryName.TheVariants as memory
use Rattle.a64_text.specs.declared.name.SequenceName.TheVariants as sequence
use Rattle.a64_ops.specs.declared.access.AccessOp.TheVariants as ops
use Rattle.a64_text.specs.declared.name.Name.{Name}
use Rattle.a64_text.specs.declared.name.Name.TheVariants as names
use Rattle.a64_text.specs.declared.name_table.TheConstants.{NAME_HOMES}
use Rattle.a64_tokens.specs.declared.value.WrittenMovImm.{WrittenMovImm}
use Rattle.a64_tokens.specs.declared.pair_mode.WrittenPairMode.{WrittenPairMode}
use Rattle.a64_tokens.specs.declared.value.Value.{Value}
use Rattle.a64_tokens.specs.declared.value.Value.TheVariants as values
use Rattle.a64_read.specs.At.{convention_at, flags_at, key_at, label_at, list_at, map_at}
use Rattle.a64_read.specs.At.{mov_imm_at, pair_mode_at, reg_at, truth_at, u32_at, u8_at}
use Rattle.a64_read.specs.At.{vector_size_at}
use Rattle.a64_read.specs.Calls.{call_arg_text, call_lists_text, AreCallLists, IsCallArg}
use Rattle.a64_tokens.specs.Fields.{HasNo, label_text, IsLabel}
use Rattle.a64_tokens.specs.Hash.{look_up}
use Rattle.a64_tokens.specs.Hex.{hex_text}
use Rattle.a64_text.specs.Constants.{HasHex}
use Rattle.a64_tokens.specs.Lists.{list_text}
use Rattle.a64_read.specs.ModeLaws.{made_of}
use Rattle.a64_text.specs.Makes.{called, call_of, call_texts_at, emitted, constant_of, entry_of}
use Rattle.a64_text.specs.Makes.{jump_of, name_at, return_call_of, Makes}
use Rattle.a64_text.specs.FloatImms.{IsFloatAt}
use Rattle.a64_text.specs.MovImms.{written_mov, IsMovAt}
use Rattle.a64_text.specs.NameRows.{name_rows}
use Rattle.a64_text.specs.Names.{dup_float_name, dup_name, name_text, kinds_of}
use Rattle.a64_read.specs.RegisterPairs.{arg_pair_text, IsArgPair, ret_pair_text, IsRetPair}
use Rattle.a64_read.specs.Same.{at_their_places}
use Rattle.a64_tokens.specs.PairModes.{written_pair, IsPairAt}
use Rattle.a64_text.specs.InstParts.{inst_parts}
use Rattle.a64_text.specs.NameInsts.{pair_of}
use Rattle.a64_text.specs.Pairs.{pair_scale}
use Rattle.a64_text.specs.Parts.{pair_parts}
use Rattle.a64_text.specs.Tokens.{name_of, fields_of, IsOwnInst, IsOwn}
use Rattle.a64_read.specs.Values.{kind_of, IsValue}

made : (P : Entry → Type 0) (r : Option Entry) (e : Entry) → r ≡ Some e → P e → IfSome r P
made P r e is h = rw is h

-- ---- by cases: one line for all names that need nothing but their fields, and one for each other

-- the fields of a call, and of a return that calls, of which the lists have these texts
abbrev call_values : Value → List ℕ × List ℕ × List ℕ → List Value → List Value
call_values dest t vs =
    dest ∷ values.List t.0 ∷ values.List t.1 ∷ values.List t.2
    ∷ values.Convention (convention_at vs 4) ∷ values.Convention (convention_at vs 5)
    ∷ values.U32 (u32_at vs 6) ∷ values.Bool (truth_at vs 7) ∷ values.Map (map_at vs 8) ∷ []

abbrev return_call_values : Value → List ℕ → List Value → List Value
return_call_values dest t vs =
    dest ∷ values.List t ∷ values.U32 (u32_at vs 2) ∷ values.Key (key_at vs 3)
    ∷ values.Bool (truth_at vs 4) ∷ []

-- the fields of a pair whose mode is this, and the entry
abbrev pair_values : WrittenPairMode → List Value → List Value
pair_values mem vs =
    values.Reg (reg_at vs 0) ∷ values.Reg (reg_at vs 1) ∷ values.PairMode mem
    ∷ values.Flags (flags_at vs 3) ∷ []

abbrev pair_with : PairName → List Value → PairAMode → Entry
pair_with name vs mem = emitted (pair_of name (reg_at vs 0) (reg_at vs 1) mem (flags_at vs 3))

abbrev pub IsMade : Name → List Value → Entry → Type 0
IsMade name values entry = (name_of entry ≡ name) × (fields_of entry ≡ values) × IsOwn entry

pub made_some : (name : Name) (values : List Value) (r : Option Entry) → Makes name values r
    → map kind_of values ≡ kinds_of name → IfSome r (IsMade name values)
unfolding Makes
made_some (names.Immediate immediate.AluRRImmLogic) values r h are = h.some are
made_some (names.Immediate name) values r h are =
    made (IsMade (names.Immediate name) values) r (entry_of (names.Immediate name) values) h
    (refl, at_their_places (kinds_of (names.Immediate name)) values are, (tt, refl))
made_some (names.Register register.AluRRR) values r h are =
    made (IsMade (names.Register register.AluRRR) values) r
    (entry_of (names.Register register.AluRRR) values) h
    (refl, at_their_places (kinds_of (names.Register register.AluRRR)) values are, (tt, refl))
made_some (names.Register name) values r h are =
    made (IsMade (names.Register name) values) r (entry_of (names.Register name) values) h
    (refl, at_their_places (kinds_of (names.Register name)) values are, (tt, refl))
made_some (names.Float float.FpuMoveFPImm) values r h are = h.some are
made_some (names.Float name) values r h are =
    made (IsMade (names.Float name) values) r (entry_of (names.Float name) values) h
    (refl, at_their_places (kinds_of (names.Float name)) values are, (tt, refl))
made_some (names.Vector vector.VecRRR) values r h are =
    made (IsMade (names.Vector vector.VecRRR) values) r
    (entry_of (names.Vector vector.VecRRR) values) h
    (refl, at_their_places (kinds_of (names.Vector vector.VecRRR)) values are, (tt, refl))
made_some (names.Vector name) values r h are =
    made (IsMade (names.Vector name) values) r (entry_of (names.Vector name) values) h
    (refl, at_their_places (kinds_of (names.Vector name)) values are, (tt, refl))
made_some (names.VectorMove vector_move.VecDupFPImm) vs r h are =
    made_of (IsFloatAt (lane_of (vector_size_at vs 2))) (λ (imm : ASIMDFPModImm). imm.imm)
    (u8_at vs 1) (λ imm. emitted (insts.VecDupFPImm (reg_at vs 0) imm (vector_size_at vs 2)))
    (IsMade dup_float_name vs)
    (λ imm own is. (
      refl,
      ap (λ (n : ℕ). values.Reg (reg_at vs 0) ∷ values.U8 n
          ∷ values.VectorSize (vector_size_at vs 2) ∷ []) (sym is)
          ∙ at_their_places (kinds_of dup_float_name) vs are,
      (own, refl),
    ))
    h.0 h.1 r h.2
made_some (names.VectorMove vector_move.VecDupImm) vs r h are =
    made_of (IsMovAt (lane_of (vector_size_at vs 3))) written_mov (mov_imm_at vs 1)
    (λ imm. emitted (insts.VecDupImm (reg_at vs 0) imm (truth_at vs 2) (vector_size_at vs 3)))
    (IsMade dup_name vs)
    (λ imm own is. (
      refl,
      ap (λ (w : WrittenMovImm). values.Reg (reg_at vs 0) ∷ values.MovImm w
          ∷ values.Bool (truth_at vs 2) ∷ values.VectorSize (vector_size_at vs 3) ∷ []) (sym is)
          ∙ at_their_places (kinds_of dup_name) vs are,
      (own, refl),
    ))
    h.0 h.1 r h.2
made_some (names.VectorMove vector_move.VecTbl) values r h are =
    made (IsMade (names.VectorMove vector_move.VecTbl) values) r
    (entry_of (names.VectorMove vector_move.VecTbl) values) h
    (refl, at_their_places (kinds_of (names.VectorMove vector_move.VecTbl)) values are, (tt, refl))
made_some (names.VectorMove name) values r h are =
    made (IsMade (names.VectorMove name) values) r (entry_of (names.VectorMove name) values) h
    (refl, at_their_places (kinds_of (names.VectorMove name)) values are, (tt, refl))
made_some (names.System system.Nop4) values r h are =
    made (IsMade (names.System system.Nop4) values) r (entry_of (names.System system.Nop4) values)
    h (refl, at_their_places (kinds_of (names.System system.Nop4)) values are, (tt, refl))
made_some (names.System name) values r h are =
    made (IsMade (names.System name) values) r (entry_of (names.System name) values) h
    (refl, at_their_places (kinds_of (names.System name)) values are, (tt, refl))
made_some (names.Control control.IndirectBr) vs r h are =
    made_of (AllByRecursion IsLabel) (list_text label_text) (list_at vs 1)
    (λ targets. emitted (insts.IndirectBr (reg_at vs 0) targets))
    (IsMade (names.Control control.IndirectBr) vs)
    (λ targets own is. (
      refl,
      ap (λ (t : List ℕ). values.Reg (reg_at vs 0) ∷ values.List t
          ∷ []) (sym is)
          ∙ at_their_places (kinds_of (names.Control control.IndirectBr)) vs are,
      (own, refl),
    ))
    h.0 h.1 r h.2
made_some (names.Control control.Ret) values r h are =
    made (IsMade (names.Control control.Ret) values) r
    (entry_of (names.Control control.Ret) values) h
    (refl, at_their_places (kinds_of (names.Control control.Ret)) values are, (tt, refl))
made_some (names.Control name) values r h are =
    made (IsMade (names.Control name) values) r (entry_of (names.Control name) values) h
    (refl, at_their_places (kinds_of (names.Control name)) values are, (tt, refl))
made_some (names.Sequence sequence.Args) vs r h are =
    made_of (AllByRecursion IsArgPair) (list_text arg_pair_text) (list_at vs 0)
    (λ args. emitted (insts.Args args)) (IsMade (names.Sequence sequence.Args) vs)
    (λ args own is. (
      refl,
      ap (λ (t : List ℕ). values.List t ∷ []) (sym is)
          ∙ at_their_places (kinds_of (names.Sequence sequence.Args)) vs are,
      (own, refl),
    ))
    h.0 h.1 r h.2
made_some (names.Sequence sequence.Rets) vs r h are =
    made_of (AllByRecursion IsRetPair) (list_text ret_pair_text) (list_at vs 0)
    (λ rets. emitted (insts.Rets rets)) (IsMade (names.Sequence sequence.Rets) vs)
    (λ rets own is. (
      refl,
      ap (λ (t : List ℕ). values.List t ∷ []) (sym is)
          ∙ at_their_places (kinds_of (names.Sequence sequence.Rets)) vs are,
      (own, refl),
    ))
    h.0 h.1 r h.2
made_some (names.Sequence sequence.JTSequence) vs r h are =
    made_of (AllByRecursion IsLabel) (list_text label_text) (list_at vs 1)
    (λ targets. emitted (jump_of vs targets)) (IsMade (names.Sequence sequence.JTSequence) vs)
    (λ targets own is. (
      refl,
      ap (λ (t : List ℕ). values.Label (label_at vs 0) ∷ values.List t
          ∷ values.Reg (reg_at vs 2) ∷ values.Reg (reg_at vs 3) ∷ values.Reg (reg_at vs 4)
          ∷ []) (sym is)
          ∙ at_their_places (kinds_of (names.Sequence sequence.JTSequence)) vs are,
      (own, refl),
    ))
    h.0 h.1 r h.2
made_some (names.Sequence name) values r h are =
    made (IsMade (names.Sequence name) values) r (entry_of (names.Sequence name) values) h
    (refl, at_their_places (kinds_of (names.Sequence name)) values are, (tt, refl))
made_some (names.Call call.Call) vs r h are =
    made_of AreCallLists call_lists_text (call_texts_at vs)
    (λ lists. called (insts.Call (call_of (name_at vs) vs lists)) (map_at vs 8))
    (IsMade (names.Call call.Call) vs)
    (λ lists own is. (
      refl,
      ap (λ (t : List ℕ × List ℕ
          × List ℕ). call_values (values.U32 (u32_at vs 0)) t vs) (sym is)
          ∙ at_their_places (kinds_of (names.Call call.Call)) vs are,
      (own, tt),
    ))
    h.0 h.1 r h.2
made_some (names.Call call.CallInd) vs r h are =
    made_of AreCallLists call_lists_text (call_texts_at vs)
    (λ lists. called (insts.CallInd (call_of (reg_at vs 0) vs lists)) (map_at vs 8))
    (IsMade (names.Call call.CallInd) vs)
    (λ lists own is. (
      refl,
      ap (λ (t : List ℕ × List ℕ
          × List ℕ). call_values (values.Reg (reg_at vs 0)) t vs) (sym is)
          ∙ at_their_places (kinds_of (names.Call call.CallInd)) vs are,
      (own, tt),
    ))
    h.0 h.1 r h.2
made_some (names.Call call.ReturnCall) vs r h are =
    made_of (AllByRecursion IsCallArg) (list_text call_arg_text) (list_at vs 1)
    (λ uses. emitted (insts.ReturnCall (return_call_of (name_at vs) vs uses)))
    (IsMade (names.Call call.ReturnCall) vs)
    (λ uses own is. (
      refl,
      ap (λ (t : List ℕ). return_call_values (values.U32 (u32_at vs 0)) t vs) (sym is)
          ∙ at_their_places (kinds_of (names.Call call.ReturnCall)) vs are,
      (own, refl),
    ))
    h.0 h.1 r h.2
made_some (names.Call call.ReturnCallInd) vs r h are =
    made_of (AllByRecursion IsCallArg) (list_text call_arg_text) (list_at vs 1)
    (λ uses. emitted (insts.ReturnCallInd (return_call_of (reg_at vs 0) vs uses)))
    (IsMade (names.Call call.ReturnCallInd) vs)
    (λ uses own is. (
      refl,
      ap (λ (t : List ℕ). return_call_values (values.Reg (reg_at vs 0)) t vs) (sym is)
          ∙ at_their_places (kinds_of (names.Call call.ReturnCallInd)) vs are,
      (own, refl),
    ))
    h.0 h.1 r h.2
made_some (names.Pair pair.LoadP64) vs r h are =
    made_of (IsPairAt (pair_scale pair.LoadP64)) written_pair (pair_mode_at vs 2)
    (pair_with pair.LoadP64 vs) (IsMade (names.Pair pair.LoadP64) vs)
    (λ mem own is. (
      refl,
      ap (λ (m : WrittenPairMode). pair_values m vs) (sym is)
          ∙ at_their_places (kinds_of (names.Pair pair.LoadP64)) vs are,
      (own, refl),
    ))
    h.0 h.1 r h.2
made_some (names.Pair name) vs r h are =
    made_of (IsPairAt (pair_scale name)) written_pair (pair_mode_at vs 2) (pair_with name vs)
    (IsMade (names.Pair name) vs)
    (λ mem own is. (
      refl,
      ap (λ (m : WrittenPairMode). pair_values m vs) (sym is)
          ∙ at_their_places (kinds_of (names.Pair name)) vs are,
      (own, refl),
    ))
    h.0 h.1 r h.2
made_some (names.Memory memory.LoadAddr) values r h are =
    made (IsMade (names.Memory memory.LoadAddr) values) r
    (entry_of (names.Memory memory.LoadAddr) values) h
    (refl, at_their_places (kinds_of (names.Memory memory.LoadAddr)) values are, (tt, refl))
made_some (names.Memory name) values r h are =
    made (IsMade (names.Memory name) values) r (entry_of (names.Memory name) values) h
    (refl, at_their_places (kinds_of (names.Memory name)) values are, (tt, refl))
made_some (names.Access ops.ULoad8) values r h are =
    made (IsMade (names.Access ops.ULoad8) values) r (entry_of (names.Access ops.ULoad8) values) h
    (refl, at_their_places (kinds_of (names.Access ops.ULoad8)) values are, (tt, refl))
made_some (names.Access op) values r h are =
    made (IsMade (names.Access op) values) r (entry_of (names.Access op) values) h
    (refl, at_their_places (kinds_of (names.Access op)) values are, (tt, refl))
made_some names.Bind values r h are =
    made (IsMade names.Bind values) r (entry_of names.Bind values) h
    (refl, at_their_places (kinds_of names.Bind) values are, tt)
made_some names.Const vs r h are =
    made_of HasHex hex_text (list_at vs 1) (constant_of vs) (IsMade names.Const vs)
    (λ bytes own is. (
      refl,
      ap (λ (t : List ℕ). values.U32 (u32_at vs 0) ∷ values.List t
          ∷ []) (sym is) ∙ at_their_places (kinds_of names.Const) vs are,
      own,
    ))
    h.0 h.1 r h.2
made_some names.Frame values r h are =
    made (IsMade names.Frame values) r (entry_of names.Frame values) h
    (refl, at_their_places (kinds_of names.Frame) values are, tt)
made_some names.Flag values r h are =
    made (IsMade names.Flag values) r (entry_of names.Flag values) h
    (refl, at_their_places (kinds_of names.Flag) values are, tt)

without_map : (inst : Inst) (map : Option UserStackMap) (r : Option Entry) → map ≡ None
    → r ≡ Some (emitted inst) → r ≡ Some (entries.Item (Emit inst map))
without_map inst map r none e =
    e ∙ ap (λ (m : Option UserStackMap). Some (entries.Item (Emit inst m))) (sym none)

pair_only : (name : PairName) (rt rt2 : Reg) (mem : PairAMode) (flags : Option TrapCode)
    (vs : List Value) (r : Option Entry) → Makes (names.Pair name) vs r
    → IsPairAt (pair_scale name) mem → (pair_parts name rt rt2 mem flags).fields ≡ vs
    → r ≡ Some (emitted (pair_of name rt rt2 mem flags))
unfolding Makes
pair_only name rt rt2 mem flags vs r h own e =
    h.2
    ∙ ap (λ o. option_map (pair_with name vs) o)
    (h.1.only mem own (ap (λ (t : List Value). pair_mode_at t 2) (sym e)))
    ∙ ap (λ (t : List Value). Some (pair_with name t mem)) (sym e)

inst_only : (inst : Inst) (values : List Value) (r : Option Entry)
    → Makes (inst_parts inst).name values r → AllByRecursion IsValue (inst_parts inst).fields
    → IsOwnInst inst → (inst_parts inst).fields ≡ values → r ≡ Some (emitted inst)
unfolding Makes
inst_only (insts.AluRRImmLogic alu_op size rd rn imml) values r h fits own e =
    h.only (alu_op, size, rd, rn, imml) (record { fields = fits; own = (own, refl) }) e
inst_only (insts.FpuMoveFPImm rd imm scalar) values r h fits own e =
    h.only (rd, imm, scalar) (record { fields = fits; own = (own, refl) }) e
inst_only (insts.VecDupFPImm rd imm size) vs r h fits own e =
    h.2
    ∙ ap (λ o. option_map
    (λ (i : ASIMDFPModImm). emitted
    (insts.VecDupFPImm (reg_at vs 0) i (vector_size_at vs 2))) o)
    (h.1.only imm (subst (λ (t : List Value). IsFloatAt (lane_of (vector_size_at t 2)) imm) e own)
    (ap (λ (t : List Value). u8_at t 1) (sym e)))
    ∙ ap (λ (t : List Value). Some
    (emitted (insts.VecDupFPImm (reg_at t 0) imm (vector_size_at t 2)))) (sym e)
inst_only (insts.VecDupImm rd imm invert size) vs r h fits own e =
    h.2
    ∙ ap (λ o. option_map
    (λ (i : ASIMDMovModImm). emitted
    (insts.VecDupImm (reg_at vs 0) i (truth_at vs 2) (vector_size_at vs 3))) o)
    (h.1.only imm (subst (λ (t : List Value). IsMovAt (lane_of (vector_size_at t 3)) imm) e own)
    (ap (λ (t : List Value). mov_imm_at t 1) (sym e)))
    ∙ ap (λ (t : List Value). Some
    (emitted (insts.VecDupImm (reg_at t 0) imm (truth_at t 2) (vector_size_at t 3)))) (sym e)
inst_only (insts.LoadP64 rt rt2 mem flags) vs r h fits own e =
    pair_only pair.LoadP64 rt rt2 mem flags vs r h own e
inst_only (insts.StoreP64 rt rt2 mem flags) vs r h fits own e =
    pair_only pair.StoreP64 rt rt2 mem flags vs r h own e
inst_only (insts.FpuLoadP64 rt rt2 mem flags) vs r h fits own e =
    pair_only pair.FpuLoadP64 rt rt2 mem flags vs r h own e
inst_only (insts.FpuStoreP64 rt rt2 mem flags) vs r h fits own e =
    pair_only pair.FpuStoreP64 rt rt2 mem flags vs r h own e
inst_only (insts.FpuLoadP128 rt rt2 mem flags) vs r h fits own e =
    pair_only pair.FpuLoadP128 rt rt2 mem flags vs r h own e
inst_only (insts.FpuStoreP128 rt rt2 mem flags) vs r h fits own e =
    pair_only pair.FpuStoreP128 rt rt2 mem flags vs r h own e
inst_only (insts.IndirectBr rn targets) vs r h fits own e =
    h.2
    ∙ ap (λ o. option_map (λ ts. emitted (insts.IndirectBr (reg_at vs 0) ts)) o)
    (h.1.only targets own (ap (λ (t : List Value). list_at t 1) (sym e)))
    ∙ ap (λ (t : List Value). Some (emitted (insts.IndirectBr (reg_at t 0) targets))) (sym e)
inst_only (insts.Args args) vs r h fits own e =
    h.2 ∙ ap (λ o. option_map (λ xs. emitted (insts.Args xs)) o)
    (h.1.only args own (ap (λ (t : List Value). list_at t 0) (sym e)))
inst_only (insts.Rets rets) vs r h fits own e =
    h.2 ∙ ap (λ o. option_map (λ xs. emitted (insts.Rets xs)) o)
    (h.1.only rets own (ap (λ (t : List Value). list_at t 0) (sym e)))
inst_only (insts.JTSequence default targets ridx rtmp1 rtmp2) vs r h fits own e =
    h.2
    ∙ ap (λ o. option_map (λ ts. emitted (jump_of vs ts)) o)
    (h.1.only targets own (ap (λ (t : List Value). list_at t 1) (sym e)))
    ∙ ap (λ (t : List Value). Some (emitted (jump_of t targets))) (sym e)
inst_only (insts.Call info) vs r h fits own e =
    h.2
    ∙ ap (λ o. option_map (λ ls. called (insts.Call (call_of (name_at vs) vs ls)) (map_at vs 8)) o)
    (h.1.only (info.uses, info.defs, info.clobbers) own
    (ap (λ (t : List Value). call_texts_at t) (sym e)))
    ∙ ap (λ (t : List Value). Some
    (called (insts.Call (call_of (name_at t) t (info.uses, info.defs, info.clobbers)))
    (map_at t 8))) (sym e)
inst_only (insts.CallInd info) vs r h fits own e =
    h.2
    ∙ ap (λ o. option_map
    (λ ls. called (insts.CallInd (call_of (reg_at vs 0) vs ls)) (map_at vs 8)) o)
    (h.1.only (info.uses, info.defs, info.clobbers) own
    (ap (λ (t : List Value). call_texts_at t) (sym e)))
    ∙ ap (λ (t : List Value). Some
    (called (insts.CallInd (call_of (reg_at t 0) t (info.uses, info.defs, info.clobbers)))
    (map_at t 8))) (sym e)
inst_only (insts.ReturnCall info) vs r h fits own e =
    h.2
    ∙ ap (λ o. option_map (λ us. emitted (insts.ReturnCall (return_call_of (name_at vs) vs us))) o)
    (h.1.only info.uses own (ap (λ (t : List Value). list_at t 1) (sym e)))
    ∙ ap (λ (t : List Value). Some
    (emitted (insts.ReturnCall (return_call_of (name_at t) t info.uses)))) (sym e)
inst_only (insts.ReturnCallInd info) vs r h fits own e =
    h.2
    ∙ ap (λ o. option_map
    (λ us. emitted (insts.ReturnCallInd (return_call_of (reg_at vs 0) vs us))) o)
    (h.1.only info.uses own (ap (λ (t : List Value). list_at t 1) (sym e)))
    ∙ ap (λ (t : List Value). Some
    (emitted (insts.ReturnCallInd (return_call_of (reg_at t 0) t info.uses)))) (sym e)
inst_only inst values r h fits own e =
    h ∙ ap (λ (t : List Value). Some (entry_of (inst_parts inst).name t)) (sym e)

pub made_only : (entry : Entry) (values : List Value) (r : Option Entry)
    → Makes (name_of entry) values r → AllByRecursion IsValue (fields_of entry) → IsOwn entry
    → fields_of entry ≡ values → r ≡ Some entry
unfolding Makes
made_only (entries.Item (Bind label)) values r h fits own e =
    h ∙ ap (λ (t : List Value). Some (entry_of names.Bind t)) (sym e)
made_only (entries.Item (Emit (insts.Call info) map)) vs r h fits own e =
    h.2
    ∙ ap (λ o. option_map (λ ls. called (insts.Call (call_of (name_at vs) vs ls)) (map_at vs 8)) o)
    (h.1.only (info.uses, info.defs, info.clobbers) own.0
    (ap (λ (t : List Value). call_texts_at t) (sym e)))
    ∙ ap (λ (t : List Value). Some
    (called (insts.Call (call_of (name_at t) t (info.uses, info.defs, info.clobbers)))
    (map_at t 8))) (sym e)
made_only (entries.Item (Emit (insts.CallInd info) map)) vs r h fits own e =
    h.2
    ∙ ap (λ o. option_map
    (λ ls. called (insts.CallInd (call_of (reg_at vs 0) vs ls)) (map_at vs 8)) o)
    (h.1.only (info.uses, info.defs, info.clobbers) own.0
    (ap (λ (t : List Value). call_texts_at t) (sym e)))
    ∙ ap (λ (t : List Value). Some
    (called (insts.CallInd (call_of (reg_at t 0) t (info.uses, info.defs, info.clobbers)))
    (map_at t 8))) (sym e)
made_only (entries.Item (Emit inst map)) values r h fits own e =
    without_map inst map r own.1 (inst_only inst values r h fits own.0 e)
made_only (entries.Constant addr bytes) vs r h fits own e =
    h.2
    ∙ ap (λ o. option_map (constant_of vs) o)
    (h.1.only bytes own (ap (λ (t : List Value). list_at t 1) (sym e)))
    ∙ ap (λ (t : List Value). Some (constant_of t bytes)) (sym e)
made_only (entries.Frame field bytes) values r h fits own e =
    h ∙ ap (λ (t : List Value). Some (entry_of names.Frame t)) (sym e)
made_only (entries.Flag flag) values r h fits own e =
    h ∙ ap (λ (t : List Value). Some (entry_of names.Flag t)) (sym e)
made_only (entries.Restore inst) values r h fits own e = absurd own

item_kinds : (inst : Inst) (map_of_it : Option UserStackMap)
    → map kind_of (fields_of (called inst map_of_it)) ≡ kinds_of (name_of (called inst map_of_it))
item_kinds insts.Nop4 m = refl
item_kinds inst m = refl

pub fields_kinds : (entry : Entry) → map kind_of (fields_of entry) ≡ kinds_of (name_of entry)
fields_kinds (entries.Item (Bind label)) = refl
fields_kinds (entries.Item (Emit inst map)) = item_kinds inst map
fields_kinds (entries.Constant addr bytes) = refl
fields_kinds (entries.Frame field bytes) = refl
fields_kinds (entries.Flag flag) = refl
fields_kinds (entries.Restore inst) = item_kinds inst None

pub few_kinds : (name : Name) → length (kinds_of name) ≤ 12
few_kinds (names.Immediate immediate.Adr) = lit≤ tt
few_kinds (names.Register register.CSel) = lit≤ tt
few_kinds (names.Float float.FpuCmp) = lit≤ tt
few_kinds (names.Vector vector.VecRRR) = lit≤ tt
few_kinds (names.VectorMove vector_move.VecTbl) = lit≤ tt
few_kinds (names.System system.Nop4) = lit≤ tt
few_kinds (names.Control control.Ret) = lit≤ tt
few_kinds (names.Sequence sequence.DummyUse) = lit≤ tt
few_kinds (names.Call call.Call) = lit≤ tt
few_kinds (names.Pair pair.LoadP64) = lit≤ tt
few_kinds (names.Memory memory.LoadAddr) = lit≤ tt
few_kinds (names.Access ops.ULoad8) = lit≤ tt
few_kinds _ = lit≤ tt

pub name_plain : (name : Name) → HasNo 32 (name_text name)
name_plain (names.Immediate immediate.Adr) = refl
name_plain (names.Register register.CSel) = refl
name_plain (names.Float float.FpuCmp) = refl
name_plain (names.Vector vector.VecRRR) = refl
name_plain (names.VectorMove vector_move.VecTbl) = refl
name_plain (names.System system.Nop4) = refl
name_plain (names.Control control.Ret) = refl
name_plain (names.Sequence sequence.DummyUse) = refl
name_plain (names.Call call.Call) = refl
name_plain (names.Pair pair.LoadP64) = refl
name_plain (names.Memory memory.LoadAddr) = refl
name_plain (names.Access ops.ULoad8) = refl
name_plain _ = refl

-- no name begins as the word of instructions that are restored
pub name_first : (name : Name) → (get_or (name_text name) 0 0 == 114) ≡ false
name_first (names.Immediate immediate.Adr) = refl
name_first (names.Register register.CSel) = refl
name_first (names.Float float.FpuCmp) = refl
name_first (names.Vector vector.VecRRR) = refl
name_first (names.VectorMove vector_move.VecTbl) = refl
name_first (names.System system.Nop4) = refl
name_first (names.Control control.Ret) = refl
name_first (names.Sequence sequence.DummyUse) = refl
name_first (names.Call call.Call) = refl
name_first (names.Pair pair.LoadP64) = refl
name_first (names.Memory memory.LoadAddr) = refl
name_first (names.Access ops.ULoad8) = refl
name_first _ = refl

pub name_found : (x : Name) → look_up NAME_HOMES name_rows (name_text x) ≡ Some x
name_found (names.Immediate immediate.Adr) = refl
name_found (names.Register register.CSel) = refl
name_found (names.Float float.FpuCmp) = refl
name_found (names.Vector vector.VecRRR) = refl
name_found (names.VectorMove vector_move.VecTbl) = refl
name_found (names.System system.Nop4) = refl
name_found (names.Control control.Ret) = refl
name_found (names.Sequence sequence.DummyUse) = refl
name_found (names.Call call.Call) = refl
name_found (names.Pair pair.LoadP64) = refl
name_found (names.Memory memory.LoadAddr) = refl
name_found (names.Access ops.ULoad8) = refl
name_found _ = refl
