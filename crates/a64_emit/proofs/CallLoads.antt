-- The loads of results that a function left on the stack.
use Rattle.std.proofs.Common.{ℕ, ℤ, ◌≡◌, ◌+◌, ◌<◌, ◌≤◌, ◌^◌, true, false, Bool, List, [], ◌∷◌, ◌++◌, length, get_or, map, take, Option, None, Some, refl, sym, ap, ◌∙◌, subst, lit<, arith}
use Rattle.std.specs.Prelude.{if◌then◌else◌}
use Rattle.std.specs.List.{flat_map}
use Rattle.std.proofs.lemmas.List.{length-append, length-map, take_more}
use Rattle.std.proofs.lemmas.List.Concat.{flat_map-append}
use Rattle.a64_base.specs.declared.entity.TrapCode.{TrapCode}
use Rattle.a64_base.specs.declared.ir_type.IrType.{IrType}
use Rattle.a64_base.specs.declared.reg.Reg.{Reg}
use Rattle.a64_ops.specs.declared.access.AccessOp.{AccessOp}
use Rattle.a64_ops.specs.declared.access.AccessOp.TheVariants as ops
use Rattle.a64_imms.specs.Offsets.{residue}
use Rattle.a64_plan.specs.declared.step.ConstStep.{ConstStep}
use Rattle.a64_plan.specs.Plans.{plan_of}
use Rattle.a64_plan.proofs.Shortest.{plan_shortest}
use Rattle.a64_inst.specs.declared.access.Access.{Access}
use Rattle.a64_inst.specs.declared.call.CallRetPair.{CallRetPair}
use Rattle.a64_inst.specs.declared.call.RetLocation.{RetLocation}
use Rattle.a64_inst.specs.declared.call.RetLocation.TheVariants as locations
use Rattle.a64_inst.specs.declared.emission.EmitFlags.{EmitFlags}
use Rattle.a64_inst.specs.declared.frame.FrameLayout.{FrameLayout}
use Rattle.a64_inst.specs.declared.group.Group.TheVariants.{Memory}
use Rattle.a64_inst.specs.declared.inst.Inst.{Inst}
use Rattle.a64_inst.specs.declared.mode.AMode.{AMode}
use Rattle.a64_inst.specs.declared.mode.AMode.TheVariants.{SPOffset}
use Rattle.a64_inst.specs.Accesses.{access_of, access_type, inst_with, load_op, type_has_load_form}
use Rattle.a64_inst.specs.FinalModes.{final_steps}
use Rattle.a64_inst.specs.Groups.{group_of}
use Rattle.a64_inst.specs.Modes.{BaseOffset, base_offset_of, is_far, steps_to}
use Rattle.a64_cells.specs.Shapes.{Cell, FormOf, last_cell, plain}
use Rattle.a64_cells.specs.Cells.{access_shape, inst_cells, load_at, mode_site, other_shape, result_cells, result_load, shape_cells}
use Rattle.a64_cells.specs.MemoryForms.{access_form, offset_register, step_form, step_forms}
use Rattle.a64_enc_int.proofs.Immediates.{residue_below}

-- an instruction that is made of an access is a load or a store, and has that access
made_access : (op : AccessOp) (reg : Reg) (mem : AMode) (flags : Option TrapCode) → access_of (inst_with op reg mem flags) ≡ Some (record { op = op; reg = reg; mem = mem; flags = flags })
made_access ops.ULoad8 reg mem flags = refl
made_access _ reg mem flags = refl

made_group : (op : AccessOp) (reg : Reg) (mem : AMode) (flags : Option TrapCode) → group_of (inst_with op reg mem flags) ≡ Memory
made_group ops.ULoad8 reg mem flags = refl
made_group _ reg mem flags = refl

-- there is no load of a type without a load form
pub no_load_at : (vreg : Reg) (offset : ℤ) (ty : IrType) → type_has_load_form ty ≡ false → None ≡ load_at vreg (locations.Stack offset ty)
no_load_at vreg offset ty none = sym (ap (λ b. if b then Some (inst_with (load_op ty) vreg (SPOffset offset) None) else None) none)

-- the access of the load
abbrev pub loading : Reg → ℤ → IrType → Access
loading vreg offset ty = record { op = load_op ty; reg = vreg; mem = SPOffset offset; flags = None }

module _ (frame : FrameLayout) where
  -- the words of an access, where there is one
  abbrev words_at : Option Access → List Cell
  words_at o = elim o [ None ↦ [] | Some access ↦ shape_cells (access_shape frame access) ]

  abbrev words_of : Option Inst → List Cell
  words_of o = elim o [ None ↦ [] | Some load ↦ words_at (access_of load) ]

  -- the words of a result on the stack are those of its access
  pub loaded_cells : (vreg : Reg) (offset : ℤ) (ty : IrType) → type_has_load_form ty ≡ true → result_cells frame (record { vreg = vreg; location = locations.Stack offset ty }) ≡ shape_cells (access_shape frame (loading vreg offset ty))
  loaded_cells vreg offset ty has =
      ap (λ b. words_of (if b then Some (inst_with (load_op ty) vreg (SPOffset offset) None) else None)) has
      ∙ ap words_at (made_access (load_op ty) vreg (SPOffset offset) None)

  -- there are none where there is no load
  pub no_load : (pair : CallRetPair) → None ≡ result_load pair → result_cells frame pair ≡ []
  no_load pair e = ap words_of (sym e)

  module _ (flags : EmitFlags) where
    -- the words of the load are those of the result
    made_cells : (op : AccessOp) (reg : Reg) (mem : AMode) → words_at (access_of (inst_with op reg mem None)) ≡ inst_cells frame flags (inst_with op reg mem None)
    made_cells op reg mem =
        ap words_at (made_access op reg mem None)
        ∙ sym (ap (λ (o : Option Access). shape_cells (elim o [ None ↦ other_shape frame flags (inst_with op reg mem None) | Some access ↦ access_shape frame access ])) (made_access op reg mem None))

    -- which is a load of one register
    pub record IsResultLoad (pair : CallRetPair) (load : Inst) : Type 0 where
      pub group : group_of load ≡ Memory
      pub cells : result_cells frame pair ≡ inst_cells frame flags load

    pub result_loads : (pair : CallRetPair) (load : Inst) → Some load ≡ result_load pair → IsResultLoad pair load
    result_loads pair load e = go pair.location e
      where
        go : (location : RetLocation) → Some load ≡ load_at pair.vreg location → IsResultLoad (record { vreg = pair.vreg; location = location }) load
        go (locations.Reg preg ty) f = absurd cc
        go (locations.Stack offset ty) f = at (type_has_load_form ty) refl f
          where
            at : (b : Bool) → type_has_load_form ty ≡ b → Some load ≡ (if b then Some (inst_with (load_op ty) pair.vreg (SPOffset offset) None) else None) → IsResultLoad (record { vreg = pair.vreg; location = locations.Stack offset ty }) load
            at false has g = absurd cc
            at true has g =
                let same : load ≡ inst_with (load_op ty) pair.vreg (SPOffset offset) None = cc in
                subst (IsResultLoad (record { vreg = pair.vreg; location = locations.Stack offset ty })) (sym same) (record {
                  group = made_group (load_op ty) pair.vreg (SPOffset offset) None;
                  cells = ap (λ b. words_of (if b then Some (inst_with (load_op ty) pair.vreg (SPOffset offset) None) else None)) has ∙ made_cells (load_op ty) pair.vreg (SPOffset offset);
                })

-- ---- how many words there are

-- an offset takes four steps at most
pub final_few : (frame : FrameLayout) (ty : IrType) (mem : AMode) → length (final_steps frame ty mem) ≤ 4
final_few frame ty mem = at (base_offset_of frame mem)
  where
    steps_few : (offset : ℤ) → length (steps_to ty offset) ≤ 4
    steps_few offset = go (is_far ty offset)
      where
        go : (far : Bool) → length (if far then plan_of (residue (2 ^ 64) offset) else []) ≤ 4
        go true = (plan_shortest (residue (2 ^ 64) offset) (residue_below (2 ^ 64) offset (lit< tt))).few
        go false = omega arith

    at : (o : Option BaseOffset) → length {A = ConstStep} (elim o [ None ↦ [] | Some place ↦ steps_to ty place.offset ]) ≤ 4
    at None = omega arith
    at (Some place) = steps_few place.offset

access_few : (frame : FrameLayout) (access : Access) → length (shape_cells (access_shape frame access)) ≤ 5
access_few frame access =
    let steps = final_steps frame (access_type access.op) access.mem in
    let forms = step_forms offset_register steps in
    omega (arith, length-append (map plain forms) (last_cell (FormOf (access_form frame access)) (mode_site access.mem) access.flags ∷ []), length-map forms plain, length-map steps (step_form offset_register), final_few frame (access_type access.op) access.mem)

-- so the load of a result has five words at most
pub result_few : (frame : FrameLayout) (pair : CallRetPair) → length (result_cells frame pair) ≤ 5
result_few frame pair = go pair.location
  where
    go : (location : RetLocation) → length (result_cells frame (record { vreg = pair.vreg; location = location })) ≤ 5
    go (locations.Reg preg ty) = omega arith
    go (locations.Stack offset ty) = at (type_has_load_form ty) refl
      where
        at : (b : Bool) → type_has_load_form ty ≡ b → length (result_cells frame (record { vreg = pair.vreg; location = locations.Stack offset ty })) ≤ 5
        at false has = omega (arith, ap length (no_load frame (record { vreg = pair.vreg; location = locations.Stack offset ty }) (no_load_at pair.vreg offset ty has)))
        at true has = omega (arith, ap length (loaded_cells frame pair.vreg offset ty has), access_few frame (loading pair.vreg offset ty))

-- and of one result more they are as many more
pub results_more : (frame : FrameLayout) (defs : List CallRetPair) (i : ℕ) (d : CallRetPair) → i < length defs
    → length (flat_map (result_cells frame) (take (i + 1) defs)) ≡ length (flat_map (result_cells frame) (take i defs)) + length (result_cells frame (get_or defs i d))
results_more frame defs i d h =
    let pair : CallRetPair = get_or defs i d in
    let first = flat_map (result_cells frame) (take i defs) in
    ap (λ ds. length (flat_map (result_cells frame) ds)) (take_more defs i d h)
    ∙ ap length (flat_map-append (result_cells frame) (take i defs) (pair ∷ []))
    ∙ omega (arith, length-append first (result_cells frame pair ++ []), length-append (result_cells frame pair) [])
