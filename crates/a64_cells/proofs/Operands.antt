-- What is known of the operands of instructions without a fault.
use Rattle.std.proofs.Common.{ℕ, ℤ, pos, negsuc, ◌≡◌, ◌+◌, ◌-◌, ◌<◌, ◌^◌, Bool, true, false, inl, inr, refl, lit<, arith}
use Rattle.std.specs.Prelude.{◌&&◌, ◌||◌, ◌==◌, not, nat_lt, nat_eq, if◌then◌else◌}
use Rattle.std.proofs.lemmas.Bool.{and_parts, or_cases, ltb-true}
use Rattle.std.proofs.lemmas.Bool.Decides.{nat_tests}
use Rattle.std.proofs.lemmas.Int.{ints}
use Rattle.a64_base.specs.declared.cond.CondBrKind.{CondBrKind}
use Rattle.a64_base.specs.declared.cond.CondBrKind.TheVariants.{Zero, NotZero, Cond}
use Rattle.a64_base.specs.declared.reg.Reg.{Reg}
use Rattle.a64_base.specs.declared.target.BranchTarget.{BranchTarget}
use Rattle.a64_base.specs.declared.reg.RegKind.TheVariants.{Real, Virtual}
use Rattle.a64_base.specs.declared.reg.RegClass.{RegClass}
use Rattle.a64_base.specs.declared.reg.RegClass.TheVariants.{Int, Float}
use Rattle.a64_base.specs.declared.size.OperandSize.{OperandSize}
use Rattle.a64_base.specs.declared.size.OperandSize.TheVariants.{Size32, Size64}
use Rattle.a64_base.specs.OperandSizes.{sf_of, operand_bits}
use Rattle.a64_base.specs.RegisterNumbers.{RealRegister}
use Rattle.a64_base.specs.Target.{IsWithinField}
use Rattle.a64_imms.specs.declared.imm_logic.ImmLogic.{ImmLogic}
use Rattle.a64_imms.specs.Logic.{is_imm_logic, IsImmLogic}
use Rattle.a64_imms.proofs.LogicRuns.{passed}
use Rattle.a64_ops.specs.declared.operator.ALUOp.{ALUOp}
use Rattle.a64_ops.specs.declared.operator.ALUOp.TheVariants as alu
use Rattle.a64_operand.specs.declared.virtuals.VirtualRegisters.TheVariants.{Refused}
use Rattle.a64_inst.specs.ControlOperands.{are_jump_operands, are_cond_br_operands, are_test_bit_operands, is_target, is_test}
use Rattle.a64_operand.specs.Operands.{is_int, is_register, is_register_or_zero, is_register_or_stack, is_vector_register, is_stack_pointer, is_same_size, is_bit_of, is_logic_of, is_near}
use Rattle.a64_operand.specs.IntegerOperands.{add_sub_class, logic_class, is_fixed_operand, is_fixed_result, are_move_registers, is_move, is_move_from, is_move_to, is_extension, is_extend_result, is_extended}
use Rattle.a64_operand.specs.Operands.{is_of}
use Rattle.a64_rows.specs.Forms.{IsFormOf}
use Rattle.a64_rows.specs.Limits.{is_bit_number}
use Rattle.a64_rows.specs.DataProcessing.{bitfield}
use Rattle.a64_enc_int.specs.Branches.{IsGeneralTest}
use Rattle.a64_enc_int.specs.Registers.{IsReal, IsGeneral, register_field}
use Rattle.a64_enc_int.proofs.Registers.{field_below}
use Rattle.a64_enc_vec.specs.Registers.{IsVector}

-- ---- the parts of a test that holds

pub first_holds : (x y : Bool) → (x && y) ≡ true → x ≡ true
first_holds x y e = (and_parts x y e).0

pub second_holds : (x y : Bool) → (x && y) ≡ true → y ≡ true
second_holds x y e = (and_parts x y e).1

pub ruleset parts = (first_holds, second_holds)

-- ---- registers of a test are general

int_class : (class : RegClass) → is_int class ≡ true → class ≡ Int
int_class Int e = refl
int_class Float e = absurd cc

vector_class : (class : RegClass) → not (is_int class) ≡ true → class ≡ Float
vector_class Int e = absurd cc
vector_class Float e = refl

-- a register that an operand may be
pub general : (reg : Reg) → is_register_or_zero Refused reg ≡ true → IsGeneral reg
general (Real p) e = int_class p.class (and_parts (is_int p.class) (nat_lt p.number 32) e).0
general (Virtual index class) e = absurd cc

-- the register of a conditional branch
pub test_general : (kind : CondBrKind) → is_test Refused kind ≡ true → IsGeneralTest kind
test_general (Zero reg size) e = general reg e
test_general (NotZero reg size) e = general reg e
test_general (Cond cond) e = tt

pub real : (reg : Reg) → is_register_or_zero Refused reg ≡ true → IsReal reg
real (Real p) e = tt
real (Virtual index class) e = absurd cc

pub stack_general : (reg : Reg) → is_register_or_stack Refused reg ≡ true → IsGeneral reg
stack_general (Real p) e = int_class p.class (and_parts (is_int p.class) (nat_lt p.number 31 || nat_eq p.number 63) e).0
stack_general (Virtual index class) e = absurd cc

pub stack_real : (reg : Reg) → is_register_or_stack Refused reg ≡ true → IsReal reg
stack_real (Real p) e = tt
stack_real (Virtual index class) e = absurd cc

-- a vector register
pub vector : (reg : Reg) → is_vector_register Refused reg ≡ true → IsVector reg
vector (Real p) e = vector_class p.class (and_parts (not (is_int p.class)) (nat_lt p.number 32) e).0
vector (Virtual index class) e = absurd cc

pub vector_real : (reg : Reg) → is_vector_register Refused reg ≡ true → IsReal reg
vector_real (Real p) e = tt
vector_real (Virtual index class) e = absurd cc

-- the result of an operator by the class that it has
pub add_sub_real : (op : ALUOp) (rd : Reg) → is_of Refused (add_sub_class op) rd ≡ true → IsReal rd
add_sub_real alu.Add rd e = stack_real rd e
add_sub_real alu.Sub rd e = stack_real rd e
add_sub_real _ rd e = real rd e

pub logic_real : (op : ALUOp) (rd : Reg) → is_of Refused (logic_class op) rd ≡ true → IsReal rd
logic_real alu.AndS rd e = real rd e
logic_real _ rd e = stack_real rd e

-- ---- moves

zero_of_register : (class : RegClass) (n : ℕ) → (is_int class && nat_lt n 31) ≡ true → (is_int class && nat_lt n 32) ≡ true
zero_of_register Int n e = grind (arith, nat_tests)
zero_of_register Float n e = absurd cc

pub register_zero : (reg : Reg) → is_register Refused reg ≡ true → is_register_or_zero Refused reg ≡ true
register_zero (Real p) e = zero_of_register p.class p.number e
register_zero (Virtual index class) e = absurd cc

pub numbered_real : (reg : Reg) → is_register Refused reg ≡ true → IsReal reg
numbered_real reg e = real reg (register_zero reg e)

pointer_real : (reg : Reg) → is_stack_pointer Refused reg ≡ true → IsReal reg
pointer_real (Real p) e = tt
pointer_real (Virtual index class) e = absurd cc

stack_number_field : (class : RegClass) (n : ℕ) → (is_int class && nat_eq n 63) ≡ true → register_field (Real (record { number = n; class = class })) ≡ 31
stack_number_field Int n e = grind (arith, nat_tests)
stack_number_field Float n e = absurd cc

-- a word names it 31
pub stack_field : (reg : Reg) → is_stack_pointer Refused reg ≡ true → register_field reg ≡ 31
stack_field (Real p) e = stack_number_field p.class p.number e
stack_field (Virtual index class) e = absurd cc

-- the registers of a move are of the machine
at_64_bits : (rd rm : Reg) → are_move_registers Refused rd rm ≡ true → IsReal rd × IsReal rm
at_64_bits rd rm e =
    elim (or_cases (is_register_or_zero Refused rd && is_register_or_zero Refused rm) (is_register Refused rd && is_stack_pointer Refused rm) e) [
      | inl registers ↦
          let (result, operand) = and_parts (is_register_or_zero Refused rd) (is_register_or_zero Refused rm) registers in
          (real rd result, real rm operand)
      | inr out ↦
          let (result, operand) = and_parts (is_register Refused rd) (is_stack_pointer Refused rm) out in
          (numbered_real rd result, pointer_real rm operand)
    ]

moved : (size : OperandSize) (rd rm : Reg) → is_move Refused size rd rm ≡ true → IsReal rd × IsReal rm
unfolding is_move
moved Size32 rd rm e =
    let (result, operand) = and_parts (is_register Refused rd) (is_register_or_zero Refused rm) e in
    (numbered_real rd result, real rm operand)
moved Size64 rd rm e = at_64_bits rd rm e

pub moved_result : (size : OperandSize) (rd rm : Reg) → is_move Refused size rd rm ≡ true → IsReal rd
moved_result size rd rm e = (moved size rd rm e).0

pub moved_operand : (size : OperandSize) (rd rm : Reg) → is_move Refused size rd rm ≡ true → IsReal rm
moved_operand size rd rm e = (moved size rd rm e).1

-- and those of moves out of fixed registers, and into them
pub moved_from : (rd : Reg) (rm : RealRegister) → is_move_from Refused rd rm ≡ true → IsReal rd
unfolding is_move_from
moved_from rd rm e = (at_64_bits rd (Real rm) (and_parts (is_fixed_operand rm) (are_move_registers Refused rd (Real rm)) e).1).0

pub moved_to : (rd : RealRegister) (rm : Reg) → is_move_to Refused rd rm ≡ true → IsReal rm
unfolding is_move_to
moved_to rd rm e = (at_64_bits (Real rd) rm (and_parts (is_fixed_result rd) (are_move_registers Refused (Real rd) rm) e).1).1

-- ---- immediates and offsets

pub logic_lawful : (size : OperandSize) (imm : ImmLogic) → is_logic_of size imm ≡ true → IsImmLogic imm
logic_lawful size imm e = passed imm (and_parts (is_same_size imm.size size) (is_imm_logic imm) e).1

pub sf_below : (size : OperandSize) → sf_of size < 2
sf_below Size32 = omega arith
sf_below Size64 = omega arith

-- a number of bits below a size
pub bit_below : (size : OperandSize) (bit : ℕ) → is_bit_of size bit ≡ true → bit < operand_bits size
bit_below size bit e = ltb-true bit (operand_bits size) e

-- it has six bits, and five of them where the size flag asks for that
pub bit_in : (size : OperandSize) (bit : ℕ) → bit < operand_bits size → bit < 2 ^ 6
bit_in Size32 bit h = omega (arith, h)
bit_in Size64 bit h = omega (arith, h)

pub bit_number : (size : OperandSize) (bit : ℕ) → bit < operand_bits size → is_bit_number (sf_of size) bit ≡ true
bit_number Size32 bit h = grind (arith, nat_tests)
bit_number Size64 bit h = refl

-- a distance to an address near the code has 21 bits
pub near_fits : (off : ℤ) → is_near off ≡ true → IsWithinField 21 off
near_fits (pos n) e = let small : n < 2 ^ 20 = ltb-true n (2 ^ 20) e in record { low = omega (arith, ints); high = omega (arith, ints) }
near_fits (negsuc n) e = let small : n + 1 < 2 ^ 20 = ltb-true (n + 1) (2 ^ 20) e in record { low = omega (arith, ints); high = omega (arith, ints) }

-- ---- extensions

pub extended : (rd : Reg) (signed : Bool) (from_bits to_bits : ℕ) → is_extended Refused rd signed from_bits to_bits ≡ true
    → is_extension signed from_bits to_bits ≡ true
unfolding is_extended
extended rd signed from_bits to_bits e =
    (and_parts (is_extension signed from_bits to_bits) (is_extend_result Refused signed from_bits to_bits rd) e).0

-- the result of an extension, whichever operation it is
pub extended_general : (rd : Reg) (signed : Bool) (from_bits to_bits : ℕ) → is_extended Refused rd signed from_bits to_bits ≡ true → IsGeneral rd
unfolding is_extended
extended_general rd signed from_bits to_bits e =
    go (not signed && nat_eq from_bits 1) (not signed && (nat_eq from_bits 32 && nat_eq to_bits 64))
    (and_parts (is_extension signed from_bits to_bits) (is_extend_result Refused signed from_bits to_bits rd) e).1
  where
    go : (one word : Bool)
        → (if one then is_register_or_stack Refused rd else if word then is_register Refused rd else is_register_or_zero Refused rd) ≡ true
        → IsGeneral rd
    go true word f = stack_general rd f
    go false true f = general rd (register_zero rd f)
    go false false f = general rd f

-- the highest bit of what is extended is below the size of the bitfield move
extension_bit : (signed : Bool) (from_bits to_bits : ℕ) (size : OperandSize) → is_extension signed from_bits to_bits ≡ true → sf_of size ≡ (if signed && nat_lt 32 to_bits then 1 else 0)
    → from_bits - 1 < operand_bits size
extension_bit true from_bits to_bits Size32 e size_is = grind (arith, nat_tests)
extension_bit true from_bits to_bits Size64 e size_is = grind (arith, nat_tests)
extension_bit false from_bits to_bits Size32 e size_is = grind (arith, nat_tests)
extension_bit false from_bits to_bits Size64 e size_is = absurd cc

opc_number : (signed : Bool) (opc : ℕ) → opc ≡ (if signed then 0 else 2) → (opc < 2 ^ 2) × (not (opc == 3) ≡ true)
opc_number true opc e = rw e (lit< tt, refl)
opc_number false opc e = rw e (lit< tt, refl)

-- any other extension is a bitfield move
pub extension_is_form : (rd rn : Reg) (signed : Bool) (from_bits to_bits : ℕ) (size : OperandSize) (opc : ℕ) → is_extension signed from_bits to_bits ≡ true
    → sf_of size ≡ (if signed && nat_lt 32 to_bits then 1 else 0) → opc ≡ (if signed then 0 else 2)
    → IsFormOf (bitfield (record { sf = sf_of size; opc = opc; immr = 0; imms = from_bits - 1; rn = register_field rn; rd = register_field rd }))
extension_is_form rd rn signed from_bits to_bits size opc extension size_is opc_is =
    let bit = extension_bit signed from_bits to_bits size extension size_is in
    let lowest : 0 < operand_bits size = omega (arith, bit) in
    let opc_good = opc_number signed opc opc_is in (
      (sf_below size, (opc_good.0, (lit< tt, (bit_in size (from_bits - 1) bit, (field_below rn, (field_below rd, tt)))))),
      rw (opc_good.1, bit_number size 0 lowest, bit_number size (from_bits - 1) bit) refl,
    )

-- ---- operands of conditional branches

-- what the test of a conditional branch says of each operand
pub record IsCondBr (taken not_taken : BranchTarget) (kind : CondBrKind) : Type 0 where
  pub target : is_target (2 ^ 20) taken ≡ true
  pub jump : are_jump_operands not_taken ≡ true
  pub test : is_test Refused kind ≡ true

pub cond_br_parts : (taken not_taken : BranchTarget) (kind : CondBrKind) → are_cond_br_operands Refused taken not_taken kind ≡ true → IsCondBr taken not_taken kind
unfolding are_cond_br_operands
cond_br_parts taken not_taken kind e =
    let (targets, test) = and_parts (is_target (2 ^ 20) taken && are_jump_operands not_taken) (is_test Refused kind) e in
    let (target, jump) = and_parts (is_target (2 ^ 20) taken) (are_jump_operands not_taken) targets in
    record { target = target; jump = jump; test = test }

-- and of a branch on a bit
pub record IsTestBit (taken not_taken : BranchTarget) (rn : Reg) (bit : ℕ) : Type 0 where
  pub target : is_target (2 ^ 15) taken ≡ true
  pub jump : are_jump_operands not_taken ≡ true
  pub register : is_register_or_zero Refused rn ≡ true
  pub below : bit < 64

pub test_bit_parts : (taken not_taken : BranchTarget) (rn : Reg) (bit : ℕ) → are_test_bit_operands Refused taken not_taken rn bit ≡ true → IsTestBit taken not_taken rn bit
unfolding are_test_bit_operands
test_bit_parts taken not_taken rn bit e =
    let (others, below) = and_parts ((is_target (2 ^ 15) taken && are_jump_operands not_taken) && is_register_or_zero Refused rn) (nat_lt bit 64) e in
    let (targets, register) = and_parts (is_target (2 ^ 15) taken && are_jump_operands not_taken) (is_register_or_zero Refused rn) others in
    let (target, jump) = and_parts (is_target (2 ^ 15) taken) (are_jump_operands not_taken) targets in
    record { target = target; jump = jump; register = register; below = ltb-true bit 64 below }
