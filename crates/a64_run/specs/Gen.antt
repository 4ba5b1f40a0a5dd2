-- The file that `gen` makes for itself.
use Rattle.std.specs.Prelude.{ℕ, ◌+◌, ◌*◌, ◌%◌, ◌==◌, zero, suc, if◌then◌else◌, List, [], ◌∷◌, ◌++◌}
use Rattle.std.specs.Prelude.{min, None}
use Rattle.std.specs.List.{flat_map, range_with_len}
use Rattle.std.specs.Ordering.{nat_cmp}
use Rattle.std.specs.FinMap.{FinMap, empty, insert}
use Rattle.a64_base.specs.declared.cond.TestBitAndBranchKind.{TestBitAndBranchKind}
use Rattle.a64_base.specs.declared.cond.TestBitAndBranchKind.TheVariants.{Z, NZ}
use Rattle.a64_base.specs.declared.entity.MachLabel.{MachLabel}
use Rattle.a64_base.specs.declared.target.BranchTarget.TheVariants.{Label}
use Rattle.a64_base.specs.Registers.{integer_register, float_register}
use Rattle.a64_inst.specs.declared.inst.Inst.{Inst}
use Rattle.a64_inst.specs.declared.inst.Inst.TheVariants as insts
use Rattle.a64_inst.specs.declared.item.Item.{Item}
use Rattle.a64_inst.specs.declared.item.Item.TheVariants.{Bind, Emit}
use Rattle.a64_inst.specs.declared.mode.AMode.TheVariants.{Const}
use Rattle.a64_text.specs.States.{Contents, default_frame, default_flags}

-- the label with this number
abbrev pub label_at : ℕ → MachLabel
label_at number = record { 0 = number }

-- the branch with this number: on a bit of x1, to the label behind all turns or to the next item
abbrev pub gen_test : ℕ → TestBitAndBranchKind
gen_test number = if number % 2 == 0 then Z else NZ

abbrev pub gen_branch : ℕ → ℕ → Inst
gen_branch count number =
    insts.TestBitAndBranch (gen_test number) (Label (label_at count)) (Label (label_at number))
    (integer_register 1) (number % 64)

-- the load with this number: of one of four constants into one of the vector registers
abbrev pub gen_load : ℕ → Inst
gen_load number =
    insts.FpuLoad64 (float_register (number % 32)) (Const (record { 0 = number % 4 })) None

-- the three items of a turn, of so many turns
abbrev pub gen_turn : ℕ → ℕ → List Item
gen_turn count number =
    Emit (gen_branch count number) None ∷ Bind (label_at number) ∷ Emit (gen_load number) None ∷ []

-- the items: the turns by number, and behind them their common label and a return
abbrev pub gen_items : ℕ → List Item
gen_items count =
    flat_map (gen_turn count) (range_with_len 0 count) ++ Bind (label_at count)
    ∷ Emit insts.Ret None ∷ []

-- the bytes of a constant: eight numbers from the one behind the last of the constant before
abbrev pub gen_bytes : ℕ → List ℕ
gen_bytes number = range_with_len (8 * number + 1) 8

-- the constants with the numbers below this one
abbrev pub constants_below : ℕ → FinMap nat_cmp (List ℕ)
constants_below zero = empty
constants_below (suc number) = insert (constants_below number) number (gen_bytes number)

-- the constants that are loaded
abbrev pub gen_constants : ℕ → FinMap nat_cmp (List ℕ)
gen_constants count = constants_below (min count 4)

-- what the file of so many turns says. Frame and settings are those of a file that names none
abbrev pub gen_file : ℕ → Contents
gen_file count = record {
  items = gen_items count;
  constants = gen_constants count;
  frame = default_frame;
  flags = default_flags;
}
