-- The bitmask immediate of a value at a size, and the operation with it.
use Rattle.std.proofs.Common.{◌≡◌, ℕ, ◌<◌, ◌^◌, List, Option, None, Some, refl, sym, ap, subst, ◌∙◌}
use Rattle.std.specs.Prelude.{IfSome, IfNone}
use Rattle.a64_base.specs.declared.ir_type.IrType.{IrType}
use Rattle.a64_base.specs.declared.reg.Reg.{Reg}
use Rattle.a64_base.specs.declared.size.OperandSize.{OperandSize}
use Rattle.a64_imms.specs.declared.imm_logic.ImmLogic.{ImmLogic}
use Rattle.a64_imms.specs.declared.run.Run.{Run}
use Rattle.a64_imms.specs.Runs.{number, IsRun}
use Rattle.a64_imms.specs.Logic.{size_for, seen, logic_value, IsLogicValue, HasTriple, IsLogicOf}
use Rattle.a64_imms.proofs.LogicRuns.{same_imm}
use Rattle.a64_inst.specs.declared.inst.Inst.{Inst}
use Rattle.a64_inst.specs.declared.inst.Inst.TheVariants as insts
use Rattle.a64_ops.specs.declared.operator.ALUOp.{ALUOp}
use Rattle.a64_text.specs.declared.entry.Entry.{Entry}
use Rattle.a64_tokens.specs.declared.value.Value.{Value}
use Rattle.a64_tokens.specs.Reads.{Reads, IsU64}
use Rattle.a64_tokens.specs.Fields.{IsLogicAt}
use Rattle.a64_read.specs.At.{alu_op_at, size_at, reg_at, u64_at}
use Rattle.a64_text.specs.Makes.{emitted, Makes}
use Rattle.a64_text.specs.Names.{kinds_of, logic_name}
use Rattle.a64_read.specs.Same.{at_their_places}
use Rattle.a64_text.specs.Tokens.{fields_of, IsEntry}

same_size : {a b : OperandSize} → Some a ≡ Some b → a ≡ b
same_size e = cc

-- what the constructor answers at the type of the size
module _ (size : OperandSize) (ty : IrType) (value : ℕ) (ty_is : size_for ty ≡ Some size) where
  refused : ((other : OperandSize) → size_for ty ≡ Some other → IsLogicValue other value → ⊥) → Reads (IsLogicAt size) logic_value value None
  refused none = record {
    some = tt;
    only = λ x fits e. absurd (none size ty_is (fits.1.run, fits.1.is_run, fits.1.number_is ∙ ap (seen size) (sym e)));
  }

  made : (imm : ImmLogic) → value < 2 ^ 64 → (size_for ty ≡ Some imm.size) × IsLogicOf imm.size value imm → ((run : Run) → IsRun run → number run ≡ seen imm.size value → HasTriple run imm) → Reads (IsLogicAt size) logic_value value (Some imm)
  made imm small some one =
      let of_size : imm.size ≡ size = same_size (sym some.0 ∙ ty_is) in
      let value_is : logic_value imm ≡ value = some.1.value_is in
      let is : IsLogicOf size (logic_value imm) imm = subst (λ v. IsLogicOf size v imm) (sym value_is) (subst (λ s. IsLogicOf s value imm) of_size some.1) in
      record {
        some = ((subst (λ v. IsU64 v) (sym value_is) small, is), sym value_is);
        only = λ x fits e.
            let number_is : number fits.1.run ≡ seen imm.size value = fits.1.number_is ∙ ap (seen size) (sym e) ∙ ap (λ s. seen s value) (sym of_size) in
            ap (λ (y : ImmLogic). Some y) (same_imm imm x fits.1.run (one fits.1.run fits.1.is_run number_is) fits.1.triple (value_is ∙ e) (of_size ∙ sym fits.1.size_is));
      }

  pub logic_read : (r : Option ImmLogic) → value < 2 ^ 64
      → IfNone r ((other : OperandSize) → size_for ty ≡ Some other → IsLogicValue other value → ⊥)
      → IfSome r (λ imm. (size_for ty ≡ Some imm.size) × IsLogicOf imm.size value imm)
      → IfSome r (λ imm. (run : Run) → IsRun run → number run ≡ seen imm.size value → HasTriple run imm)
      → Reads (IsLogicAt size) logic_value value r
  logic_read None small none some one = refused none
  logic_read (Some imm) small none some one = made imm small some one

-- ---- the operation: first the value is read, and then the size looks at it

abbrev Operation : Type 0
Operation = ALUOp × OperandSize × Reg × Reg × ImmLogic

abbrev entry : Operation → Entry
entry x = emitted (insts.AluRRImmLogic x.0 x.1 x.2 x.3 x.4)

module _ (fields : List Value) (size : OperandSize) (value : ℕ) (size_is : size ≡ size_at fields 1) (value_is : value ≡ u64_at fields 4) where
  -- an operation with these fields has the immediate of the value
  imm_of : (r : Option ImmLogic) → Reads (IsLogicAt size) logic_value value r → (x : Operation) → IsEntry (entry x) → fields_of (entry x) ≡ fields → r ≡ Some x.4
  imm_of r h x is e =
      let same_size : x.1 ≡ size = ap (λ (t : List Value). size_at t 1) e ∙ sym size_is in
      let same_value : value ≡ logic_value x.4 = value_is ∙ ap (λ (t : List Value). u64_at t 4) (sym e) in
      h.only x.4 (subst (λ (s : OperandSize). IsLogicAt s x.4) same_size (is.fields.1.1.1.1.0, is.own.0)) same_value

  pub no_operation : Reads (IsLogicAt size) logic_value value None → Makes logic_name fields None
  unfolding Makes
  no_operation h = record { some = λ are. tt; only = λ x is e. let none = imm_of None h x is e in absurd cc }

  pub operation : (imm : ImmLogic) (op : ALUOp) (rd rn : Reg) → op ≡ alu_op_at fields 0 → rd ≡ reg_at fields 2 → rn ≡ reg_at fields 3 → Reads (IsLogicAt size) logic_value value (Some imm) → Makes logic_name fields (Some (entry (op, size, rd, rn, imm)))
  unfolding Makes
  operation imm op rd rn op_is rd_is rn_is h = record {
    some = λ are. (refl, rw (op_is, size_is, rd_is, rn_is, sym h.some.1, value_is) (at_their_places (kinds_of logic_name) fields are), (h.some.0.1, refl));
    only = λ x is e.
        let imms : Some imm ≡ Some x.4 = imm_of (Some imm) h x is e in
        let ops : op ≡ x.0 = op_is ∙ ap (λ (t : List Value). alu_op_at t 0) (sym e) in
        let sizes : size ≡ x.1 = size_is ∙ ap (λ (t : List Value). size_at t 1) (sym e) in
        let results : rd ≡ x.2 = rd_is ∙ ap (λ (t : List Value). reg_at t 2) (sym e) in
        let operands : rn ≡ x.3 = rn_is ∙ ap (λ (t : List Value). reg_at t 3) (sym e) in
        let inst : insts.AluRRImmLogic op size rd rn imm ≡ insts.AluRRImmLogic x.0 x.1 x.2 x.3 x.4 = cc in
        ap (λ (i : Inst). Some (emitted i)) inst;
  }
