use Rattle.std.proofs.Common.{◌≡◌, ◌<◌, ◌^◌, refl, sym, ap, subst, ◌∙◌, Option, IsSome, IfNone, Some, None, arith}
use Rattle.std.specs.Prelude.{IfSome}
use Rattle.a64_base.specs.declared.size.OperandSize.{OperandSize}
use Rattle.a64_imms.specs.Logic.{size_for, logic_value, IsLogicValue}
use Rattle.a64_imms.proofs.LogicRuns.{size_of_type, complement_is, inverted_is}
use Rattle.a64_imms.proofs.imm_logic.ImmLogic.invert.Goals as goal

some_of : {A : Type 0} (r : Option A) (P : Type 0) → IfNone r P → (P → ⊥) → IsSome r
some_of None P none refuted = absurd (refuted none)
some_of (Some x) P none refuted = refl

inside : {A : Type 0} (r : Option A) (x : A) (P : A → Type 0) → r ≡ Some x → IfSome r P → P x
inside r x P is h = subst (λ o. IfSome o P) is h

pub unwrap-requires : goal.unwrap-requires
unwrap-requires c =
    let imm = c.args.self.now in
    let held : IsLogicValue imm.size (logic_value imm) = (c.requires.run, c.requires.is_run, c.requires.number_is) in
    let fits : logic_value imm < 2 ^ 64 = omega arith in
    some_of c.maybe_from_u64.result _ c.maybe_from_u64.ensures.none
    (λ none. none imm.size (ap size_for c.to_ty.ensures ∙ size_of_type imm.size) (complement_is imm.size (logic_value imm) fits held))

pub returns-clause-fields : goal.returns-clause-fields
returns-clause-fields c =
    let imm = c.args.self.now in
    let fits : logic_value imm < 2 ^ 64 = omega arith in
    let made = inside c.maybe_from_u64.result c.unwrap.result _ c.unwrap.ensures c.maybe_from_u64.ensures.some in
    inverted_is imm c.unwrap.result c.requires fits (inside c.maybe_from_u64.result c.unwrap.result _ c.unwrap.ensures c.maybe_from_u64.ensures.one)
    made.1.value_is (same_size (sym made.0 ∙ (ap size_for c.to_ty.ensures ∙ size_of_type imm.size)))
  where
    same_size : {a b : OperandSize} → Some a ≡ Some b → a ≡ b
    same_size e = cc
