-- The forms of loads and stores that have no fault of their own, and of the steps before them, are forms of their rows.
use Rattle.std.proofs.Common.{ℕ, ℤ, pos, negsuc, ◌≡◌, ◌+◌, ◌*◌, ◌/◌, ◌%◌, ◌<◌, ◌≤◌, ◌^◌, Bool, true, false, List, [], ◌∷◌, Option, None, Some, inl, inr, refl, sym, subst, lit<, arith}
use Rattle.std.specs.Prelude.{All, ◌&&◌, ◌==◌, not, nat_eq, nat_le, nat_lt, if◌then◌else◌}
use Rattle.std.specs.Int.RustNames.{unsigned_abs}
use Rattle.std.specs.List.{AllByRecursion}
use Rattle.std.proofs.lemmas.Bool.{and_parts, eqb-true, leb-true, ltb-true}
use Rattle.std.proofs.lemmas.Int.{ints}
use Rattle.std.proofs.lemmas.List.Elements.{All-nil, All-cons}
use Rattle.std.proofs.lemmas.Nat.{div_below}
use Rattle.a64_base.specs.declared.ir_type.IrType.{IrType}
use Rattle.a64_base.specs.declared.ir_type.IrType.TheVariants.{I64, F64, I8X16}
use Rattle.a64_base.specs.declared.reg.Reg.{Reg}
use Rattle.a64_base.specs.declared.reg.RegKind.TheVariants.{Real, Virtual}
use Rattle.a64_base.specs.declared.shift.ExtendOp.{ExtendOp}
use Rattle.a64_base.specs.declared.shift.ExtendOp.TheVariants.{UXTW, SXTW, SXTX}
use Rattle.a64_base.specs.declared.size.OperandSize.{OperandSize}
use Rattle.a64_base.specs.Registers.{integer_register}
use Rattle.a64_base.specs.Shifts.{extend_bits}
use Rattle.a64_imms.specs.declared.offset.SImm7Scaled.{SImm7Scaled}
use Rattle.a64_imms.specs.Offsets.{residue, IsPairOffset}
use Rattle.a64_imms.specs.Scales.{type_bytes}
use Rattle.a64_ops.specs.declared.access.AccessOp.{AccessOp}
use Rattle.a64_ops.specs.AccessFields.{size_of, vector_of, opc_of}
use Rattle.a64_ops.specs.Accesses.{literal_of, moves_vector}
use Rattle.a64_ops.specs.declared.operator.MoveWideOp.TheVariants as wide
use Rattle.a64_plan.specs.declared.step.ConstStep.{ConstStep}
use Rattle.a64_plan.specs.declared.step.ConstStep.TheVariants as steps
use Rattle.a64_plan.specs.Plans.{plan_of}
use Rattle.a64_plan.specs.Shapes.{IsWithin, IsMovK, IsShape}
use Rattle.a64_plan.proofs.Shortest.{plan_shortest}
use Rattle.a64_inst.specs.declared.access.Access.{Access}
use Rattle.a64_inst.specs.declared.frame.FrameLayout.{FrameLayout}
use Rattle.a64_inst.specs.declared.mode.AMode.{AMode}
use Rattle.a64_inst.specs.declared.mode.AMode.TheVariants as modes
use Rattle.a64_inst.specs.declared.mode.MemLabel.{MemLabel}
use Rattle.a64_inst.specs.declared.mode.MemLabel.TheVariants.{PCRel, Mach, Pool}
use Rattle.a64_inst.specs.declared.mode.PairAMode.{PairAMode}
use Rattle.a64_inst.specs.declared.mode.PairAMode.TheVariants as pairs
use Rattle.a64_operand.specs.declared.virtuals.VirtualRegisters.TheVariants.{Refused}
use Rattle.a64_inst.specs.Accesses.{access_type}
use Rattle.a64_inst.specs.FinalModes.{FinalMode, SignedOffset, ScaledOffset, Other, held_mode, parts_of, placed_mode, final_mode, final_steps}
use Rattle.a64_inst.specs.MemoryOperands.{are_mode_parts, are_mode_operands, has_units, has_access_mode, is_index_extend, is_data_register, are_access_operands, are_pair_parts, is_pair_offset, is_same_scale, is_simm7_of}
use Rattle.a64_inst.specs.Modes.{BaseOffset, base_offset_of, IsAccessSize, is_offset9, is_scaled_offset, is_far, steps_to}
use Rattle.a64_operand.specs.Operands.{is_register_or_zero, is_register_or_stack, is_vector_register}
use Rattle.a64_rows.specs.Forms.{IsFormOf}
use Rattle.a64_rows.specs.Limits as limits
use Rattle.a64_enc_int.specs.Registers.{IsGeneral, IsReal}
use Rattle.a64_enc_int.proofs.Immediates.{residue_below, simm9_below, simm7_below, uimm12_below}
use Rattle.a64_enc_int.proofs.Registers.{field_below}
use Rattle.a64_cells.specs.MemoryForms.{step_form, step_forms, imm9_form, unsigned_form, indexed_form, option_or_zero, literal_form, literal_words, held_form, access_steps, access_form, offset_register, pair_index, pair_base, pair_offset, pair_word_form, pair_form, float_pair_form}
use Rattle.a64_cells.specs.Words.{are_held_parts}
use Rattle.a64_cells.proofs.Accesses.{access_size, parts_good}
use Rattle.a64_cells.proofs.BranchForms.{nop4_is_form}
use Rattle.a64_cells.proofs.ImmediateForms.{mov_wide_within, mov_k_within}
use Rattle.a64_cells.proofs.LogicForms.{orr_is_form}
use Rattle.a64_cells.proofs.MemoryWords.{fields_below, literal_below}
use Rattle.a64_cells.proofs.OneWord.{bit_of_below, extend_below}
use Rattle.a64_cells.proofs.Operands.{stack_general}

-- ---- the steps of a plan

module _ (rd : Reg) where
  movk_is_form : (size : OperandSize) (step : ConstStep) → IsMovK size step → IsFormOf (step_form rd step)
  movk_is_form size (steps.MovK imm width) (e, is) = mov_k_within rd imm width (subst (λ z. IsWithin z imm) (sym e) is)
  movk_is_form size (steps.MovZ imm width) is = elim is [ ]
  movk_is_form size (steps.MovN imm width) is = elim is [ ]
  movk_is_form size (steps.Orr imm) is = elim is [ ]

  movks_are_forms : (size : OperandSize) (plan : List ConstStep) → AllByRecursion (IsMovK size) plan → All IsFormOf (step_forms rd plan)
  movks_are_forms size [] are = All-nil IsFormOf
  movks_are_forms size (step ∷ rest) (is, are) = All-cons IsFormOf (step_form rd step) (step_forms rd rest) (movk_is_form size step is) (movks_are_forms size rest are)

  pub shape_forms : (plan : List ConstStep) → IsShape plan → All IsFormOf (step_forms rd plan)
  shape_forms [] is = elim is [ ]
  shape_forms (steps.MovZ imm size ∷ rest) (is, are) =
      All-cons IsFormOf (step_form rd (steps.MovZ imm size)) (step_forms rd rest) (mov_wide_within wide.MovZ rd imm size is) (movks_are_forms size rest are)
  shape_forms (steps.MovN imm size ∷ rest) (is, are) =
      All-cons IsFormOf (step_form rd (steps.MovN imm size)) (step_forms rd rest) (mov_wide_within wide.MovN rd imm size is) (movks_are_forms size rest are)
  shape_forms (steps.MovK imm size ∷ rest) is = elim is [ ]
  shape_forms (steps.Orr imm ∷ []) (is, e) =
      All-cons IsFormOf (step_form rd (steps.Orr imm)) [] (orr_is_form rd (integer_register 31) imm is) (All-nil IsFormOf)
  shape_forms (steps.Orr imm ∷ step ∷ rest) (is, e) = absurd cc

  -- of any constant
  pub plan_forms : (value : ℕ) → value < 2 ^ 64 → All IsFormOf (step_forms rd (plan_of value))
  plan_forms value fits = shape_forms (plan_of value) (plan_shortest value fits).shape

  steps_are_forms : (ty : IrType) (offset : ℤ) → All IsFormOf (step_forms rd (steps_to ty offset))
  steps_are_forms ty offset = go (is_far ty offset)
    where
      go : (far : Bool) → All IsFormOf (step_forms rd (if far then plan_of (residue (2 ^ 64) offset) else []))
      go true = plan_forms (residue (2 ^ 64) offset) (residue_below (2 ^ 64) offset (lit< tt))
      go false = All-nil IsFormOf

  -- of those before a mode
  pub final_steps_forms : (frame : FrameLayout) (ty : IrType) (mem : AMode) → All IsFormOf (step_forms rd (final_steps frame ty mem))
  final_steps_forms frame ty mem = go (base_offset_of frame mem)
    where
      go : (o : Option BaseOffset) → All IsFormOf (step_forms rd (elim o [ None ↦ [] | Some place ↦ steps_to ty place.offset ]))
      go None = All-nil IsFormOf
      go (Some place) = steps_are_forms ty place.offset

-- ---- the offset of a final mode

-- a signed offset is small, and an unsigned one has 12 bits in its unit
abbrev pub HoldsOffset : FinalMode → Type 0
HoldsOffset (SignedOffset rn offset) = unsigned_abs offset < 2 ^ 64
HoldsOffset (ScaledOffset rn offset ty) = (offset < 2 ^ 64) × (offset / type_bytes ty < 2 ^ 12)
HoldsOffset (Other mode) = Unit {0}

near_holds : (offset : ℤ) → is_offset9 offset ≡ true → unsigned_abs offset < 2 ^ 64
near_holds (pos n) e = let l = ltb-true n 256 e in omega (arith, l)
near_holds (negsuc n) e = let l = ltb-true n 256 e in omega (arith, l)

kept_holds : (mem : AMode) → are_mode_parts Refused mem ≡ true → HoldsOffset (parts_of (held_mode true mem))
kept_holds (modes.Unscaled rn simm9) a = near_holds simm9.value (and_parts (is_register_or_stack Refused rn) (is_offset9 simm9.value) a).1
kept_holds (modes.UnsignedOffset rn uimm12) a =
    let scale = uimm12.in_set.scale in
    let high = uimm12.in_set.high in
    (omega (arith, ints, scale, high), uimm12_below uimm12)
kept_holds _ a = tt

size_bounds : (ty : IrType) → IsAccessSize (type_bytes ty) → (0 < type_bytes ty) × (type_bytes ty ≤ 16)
size_bounds ty is = grind (arith, is)

scaled_holds : (ty : IrType) (offset : ℤ) → IsAccessSize (type_bytes ty) → is_scaled_offset ty offset ≡ true → (unsigned_abs offset < 2 ^ 64) × (unsigned_abs offset / type_bytes ty < 2 ^ 12)
scaled_holds ty (pos n) size e =
    let l = leb-true n (4095 * type_bytes ty) (and_parts (nat_le n (4095 * type_bytes ty)) (nat_eq (n % type_bytes ty) 0) e).0 in
    let (some, most) = size_bounds ty size in
    (omega (arith, l, most), div_below n (type_bytes ty) 4096 some (omega (arith, l, some)))
scaled_holds ty (negsuc n) size e = absurd cc

placed_holds : (ty : IrType) (place : BaseOffset) → IsAccessSize (type_bytes ty) → HoldsOffset (placed_mode ty place)
placed_holds ty place size = go (is_offset9 place.offset) (is_scaled_offset ty place.offset) refl refl
  where
    go : (near in_set : Bool) → is_offset9 place.offset ≡ near → is_scaled_offset ty place.offset ≡ in_set
        → HoldsOffset (if near then SignedOffset place.base place.offset else if in_set then ScaledOffset place.base (unsigned_abs place.offset) ty else Other (modes.RegExtended place.base (integer_register 16) SXTX))
    go true in_set e f = near_holds place.offset e
    go false true e f = scaled_holds ty place.offset size f
    go false false e f = tt

pub final_holds : (frame : FrameLayout) (ty : IrType) (mem : AMode) → IsAccessSize (type_bytes ty) → are_mode_parts Refused mem ≡ true → HoldsOffset (final_mode frame ty mem)
final_holds frame ty mem size parts = go (base_offset_of frame mem)
  where
    go : (o : Option BaseOffset) → HoldsOffset (elim o [ None ↦ parts_of (held_mode true mem) | Some place ↦ placed_mode ty place ])
    go None = kept_holds mem parts
    go (Some place) = placed_holds ty place size

-- ---- one register

pub data_real : (op : AccessOp) (reg : Reg) → is_data_register Refused op reg ≡ true → IsReal reg
data_real op (Real p) e = tt
data_real op (Virtual index class) e = go (moves_vector op) e
  where
    go : (vector : Bool) → (if vector then is_vector_register Refused (Virtual index class) else is_register_or_zero Refused (Virtual index class)) ≡ true → ⊥
    go true f = absurd cc
    go false f = absurd cc

pub are_access_fields : (op : AccessOp) → limits.is_access (size_of op) (vector_of op) (opc_of op) ≡ true
are_access_fields op = grind arith

module _ (op : AccessOp) (rt rn : Reg) where
  pub imm9_is_form : (mode : ℕ) (offset : ℤ) → mode < 4 → not (mode == 2) ≡ true → IsFormOf (imm9_form op rt mode rn offset)
  unfolding imm9_form
  imm9_is_form mode offset m a =
      let f = fields_below op in ((f.0, (f.1, (f.2, (simm9_below offset, (m, (field_below rn, (field_below rt, tt))))))), rw (are_access_fields op, a) refl)

  pub unsigned_is_form : (units : ℕ) → units < 2 ^ 12 → IsFormOf (unsigned_form op rt rn units)
  unfolding unsigned_form
  unsigned_is_form units u = let f = fields_below op in ((f.0, (f.1, (f.2, (u, (field_below rn, (field_below rt, tt)))))), are_access_fields op)

  pub indexed_is_form : (rm : Reg) (ext s : ℕ) → ext < 2 ^ 3 → limits.is_index_extend ext ≡ true → s < 2 → IsFormOf (indexed_form op rt rn rm ext s)
  unfolding indexed_form
  indexed_is_form rm ext s e is b =
      let f = fields_below op in ((f.0, (f.1, (f.2, (field_below rm, (e, (b, (field_below rn, (field_below rt, tt)))))))), rw (are_access_fields op, is) refl)

pub literal_opc : (op : AccessOp) → nat_le (option_or_zero (literal_of op)) 2 ≡ true
literal_opc op = grind arith

pub literal_is_form : (op : AccessOp) (rt : Reg) (words : ℕ) → words < 2 ^ 19 → IsFormOf (literal_form op rt words)
unfolding literal_form
literal_is_form op rt words w = ((literal_below op, ((fields_below op).1, (w, (field_below rt, tt)))), literal_opc op)

words_below : (label : MemLabel) → literal_words label < 2 ^ 19
words_below (PCRel offset) = let small : residue (2 ^ 21) offset < 2 ^ 21 = residue_below (2 ^ 21) offset (lit< tt) in omega (arith, small)
words_below (Mach label) = lit< tt
words_below (Pool addr) = lit< tt

pub index_extend : (extend : ExtendOp) → is_index_extend extend ≡ true → limits.is_index_extend (extend_bits extend) ≡ true
index_extend UXTW e = refl
index_extend SXTW e = refl
index_extend SXTX e = refl
index_extend _ e = absurd cc

module _ (op : AccessOp) (rt : Reg) where
  other_is_form : (mode : AMode) → has_access_mode op mode ≡ true → IsFormOf (held_form op rt (Other mode))
  other_is_form (modes.RegReg rn rm) has = indexed_is_form op rt rn rm 3 0 (lit< tt) refl (lit< tt)
  other_is_form (modes.RegScaled rn rm) has = indexed_is_form op rt rn rm 3 1 (lit< tt) refl (lit< tt)
  other_is_form (modes.RegExtended rn rm extendop) has = indexed_is_form op rt rn rm (extend_bits extendop) 0 (extend_below extendop) (index_extend extendop has) (lit< tt)
  other_is_form (modes.RegScaledExtended rn rm extendop) has = indexed_is_form op rt rn rm (extend_bits extendop) 1 (extend_below extendop) (index_extend extendop has) (lit< tt)
  other_is_form (modes.Label label) has = literal_is_form op rt (literal_words label) (words_below label)
  other_is_form (modes.SPPreIndexed simm9) has = imm9_is_form op rt (integer_register 63) 3 simm9.value (lit< tt) refl
  other_is_form (modes.SPPostIndexed simm9) has = imm9_is_form op rt (integer_register 63) 1 simm9.value (lit< tt) refl
  other_is_form _ has = nop4_is_form

  held_is_form : (mode : FinalMode) → are_held_parts op mode ≡ true → HoldsOffset mode → IsFormOf (held_form op rt mode)
  held_is_form (SignedOffset rn offset) a h = imm9_is_form op rt rn 0 offset (lit< tt) refl
  held_is_form (ScaledOffset rn offset ty) a h = unsigned_is_form op rt rn (offset / type_bytes ty) h.1
  held_is_form (Other mode) a h = other_is_form mode (and_parts (are_mode_parts Refused mode) (has_access_mode op mode) a).1

-- by the parts of its mode alone
pub parts_are_form : (frame : FrameLayout) (access : Access) → are_mode_parts Refused access.mem ≡ true → has_units (type_bytes (access_type access.op)) access.mem ≡ true → has_access_mode access.op access.mem ≡ true
    → IsFormOf (access_form frame access)
parts_are_form frame access parts units mode =
    held_is_form access.op access.reg (final_mode frame (access_type access.op) access.mem)
    (parts_good access.op frame access.mem parts units mode)
    (final_holds frame (access_type access.op) access.mem (access_size access.op) parts)

pub access_is_form : (frame : FrameLayout) (access : Access) → are_access_operands frame Refused access ≡ true → has_access_mode access.op access.mem ≡ true → IsFormOf (access_form frame access)
unfolding are_access_operands are_mode_operands
access_is_form frame access good mode =
    let (_, others) = and_parts (is_data_register Refused access.op access.reg) (are_mode_operands frame Refused access.mem && has_units (type_bytes (access_type access.op)) access.mem) good in
    let (operands, units) = and_parts (are_mode_operands frame Refused access.mem) (has_units (type_bytes (access_type access.op)) access.mem) others in
    parts_are_form frame access (and_parts (are_mode_parts Refused access.mem) _ operands).0 units mode

pub access_steps_forms : (frame : FrameLayout) (access : Access) → All IsFormOf (access_steps frame access)
access_steps_forms frame access = final_steps_forms offset_register frame (access_type access.op) access.mem

-- ---- two registers

pub pair_word_is_form : (load idx : ℕ) (rn : Reg) (simm7 : SImm7Scaled) (rt rt2 : Reg) → load < 2 → idx < 4 → not (idx == 0) ≡ true → IsFormOf (pair_word_form load idx rn simm7 rt rt2)
unfolding pair_word_form
pair_word_is_form load idx rn simm7 rt rt2 l i some = ((lit< tt, (lit< tt, (i, (l, (simm7_below simm7, (field_below rt2, (field_below rn, (field_below rt, tt)))))))), rw some refl)

-- the index of a mode has two bits, and is not 0
pub index_fits : (mem : PairAMode) → (pair_index mem < 4) × (not (pair_index mem == 0) ≡ true)
index_fits (pairs.SignedOffset reg simm7) = (lit< tt, refl)
index_fits (pairs.SPPreIndexed simm7) = (lit< tt, refl)
index_fits (pairs.SPPostIndexed simm7) = (lit< tt, refl)

pub pair_is_form : (load : ℕ) (rt rt2 : Reg) (mem : PairAMode) → load < 2 → IsFormOf (pair_form load rt rt2 mem)
pair_is_form load rt rt2 mem l = pair_word_is_form load (pair_index mem) (pair_base mem) (pair_offset mem) rt rt2 l (index_fits mem).0 (index_fits mem).1

-- of vector registers
pub float_pair_is_form : (opc : ℕ) (load : Bool) (rt rt2 : Reg) (mem : PairAMode) → opc < 4 → limits.is_pair opc 1 ≡ true → IsFormOf (float_pair_form opc load rt rt2 mem)
unfolding float_pair_form
float_pair_is_form opc load rt rt2 mem o is =
    let (index, some) = index_fits mem in
    ((o, (lit< tt, (index, (bit_of_below load, (simm7_below (pair_offset mem), (field_below rt2, (field_below (pair_base mem), (field_below rt, tt)))))))), rw (some, is) refl)

-- what the operands of a pair say of its mode
pub base_general : (scale : IrType) (mem : PairAMode) → are_pair_parts Refused scale mem ≡ true → IsGeneral (pair_base mem)
base_general scale (pairs.SignedOffset reg simm7) e = stack_general reg (and_parts (is_register_or_stack Refused reg) (is_simm7_of scale simm7) e).0
base_general scale (pairs.SPPreIndexed simm7) e = refl
base_general scale (pairs.SPPostIndexed simm7) e = refl

pub offset_good : (scale : IrType) (mem : PairAMode) → are_pair_parts Refused scale mem ≡ true → is_simm7_of scale (pair_offset mem) ≡ true
offset_good scale (pairs.SignedOffset reg simm7) e = (and_parts (is_register_or_stack Refused reg) (is_simm7_of scale simm7) e).1
offset_good scale (pairs.SPPreIndexed simm7) e = e
offset_good scale (pairs.SPPostIndexed simm7) e = e

-- an offset in units of a type fits the field of pairs
units_fit : (own scale : IrType) (value : ℤ) → is_same_scale own scale ≡ true → is_pair_offset (type_bytes scale) value ≡ true → IsPairOffset own value
units_fit I64 I64 (pos n) same e =
    let (le, eq) = and_parts (nat_le n 504) (nat_eq (n % 8) 0) e in
    record { scale = inl refl; low = omega (arith, ints); high = omega (arith, ints, leb-true n 504 le); multiple = eqb-true (n % 8) 0 eq }
units_fit I64 I64 (negsuc n) same e =
    let (lt, eq) = and_parts (nat_lt n 512) (nat_eq ((n + 1) % 8) 0) e in
    record { scale = inl refl; low = omega (arith, ints, ltb-true n 512 lt); high = omega (arith, ints); multiple = omega (arith, eqb-true ((n + 1) % 8) 0 eq) }
units_fit F64 F64 (pos n) same e =
    let (le, eq) = and_parts (nat_le n 504) (nat_eq (n % 8) 0) e in
    record { scale = inr (inr (inl refl)); low = omega (arith, ints); high = omega (arith, ints, leb-true n 504 le); multiple = eqb-true (n % 8) 0 eq }
units_fit F64 F64 (negsuc n) same e =
    let (lt, eq) = and_parts (nat_lt n 512) (nat_eq ((n + 1) % 8) 0) e in
    record { scale = inr (inr (inl refl)); low = omega (arith, ints, ltb-true n 512 lt); high = omega (arith, ints); multiple = omega (arith, eqb-true ((n + 1) % 8) 0 eq) }
units_fit I8X16 I8X16 (pos n) same e =
    let (le, eq) = and_parts (nat_le n 1008) (nat_eq (n % 16) 0) e in
    record { scale = inr (inr (inr refl)); low = omega (arith, ints); high = omega (arith, ints, leb-true n 1008 le); multiple = eqb-true (n % 16) 0 eq }
units_fit I8X16 I8X16 (negsuc n) same e =
    let (lt, eq) = and_parts (nat_lt n 1024) (nat_eq ((n + 1) % 16) 0) e in
    record { scale = inr (inr (inr refl)); low = omega (arith, ints, ltb-true n 1024 lt); high = omega (arith, ints); multiple = omega (arith, eqb-true ((n + 1) % 16) 0 eq) }
units_fit _ _ value same e = absurd cc

-- and so does that of a pair's mode
pub offset_fits : (scale : IrType) (mem : PairAMode) → are_pair_parts Refused scale mem ≡ true → IsPairOffset (pair_offset mem).scale_ty (pair_offset mem).value
offset_fits scale mem e =
    let (same, units) = and_parts (is_same_scale (pair_offset mem).scale_ty scale) (is_pair_offset (type_bytes scale) (pair_offset mem).value) (offset_good scale mem e) in
    units_fit (pair_offset mem).scale_ty scale (pair_offset mem).value same units
