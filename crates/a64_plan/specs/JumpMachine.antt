-- A machine of 31 registers and a program counter. What stands in memory is the word at each
-- address. It knows the four instructions of a far jump and no others. All sums are modulo 2^64.
use Rattle.std.specs.Prelude.{ℕ, zero, suc, ◌≡◌, ◌≢◌, ◌+◌, ◌%◌, ◌^◌, nat_eq, if◌then◌else◌, Option}
use Rattle.std.specs.Prelude.{None, Some, List, length, slice_index, slice_set}
use Rattle.a64_imms.specs.Offsets.{residue, signed}

-- the registers x0 to x30, and the program counter
pub record Machine : Type 0 where
  pub regs : List ℕ
  pub pc : ℕ

-- a number modulo 2^64
abbrev pub wrapped : ℕ → ℕ
wrapped n = n % 2 ^ 64

-- a word as a signed number of 64 bits
abbrev pub extended : ℕ → ℕ
extended word = residue (2 ^ 64) (signed 32 word)

-- a register is written, and the next instruction follows
abbrev pub goes_on : Machine → ℕ → ℕ → Machine
goes_on s register value = record {
  regs = slice_set s.regs register value;
  pc = wrapped (s.pc + 4);
}

-- what an instruction does
abbrev pub act : (ℕ → ℕ) → Machine → ℕ → Option Machine
act memory s word =
    -- ldrsw x16, 16
    if nat_eq word 0x98000090 then Some (goes_on s 16 (extended (memory (wrapped (s.pc + 16)))))
    -- adr x17, 12
    else if nat_eq word 0x10000071 then Some (goes_on s 17 (wrapped (s.pc + 12)))
    -- add x16, x16, x17
    else if nat_eq word 0x8b110210
    then Some (goes_on s 16 (wrapped (slice_index s.regs 16 + slice_index s.regs 17)))
    -- br x16
    else if nat_eq word 0xd61f0200 then Some (record { regs = s.regs; pc = slice_index s.regs 16 })
    else None

-- one step, if there is one
abbrev pub stepped : (ℕ → ℕ) → Machine → Option Machine
stepped memory s = act memory s (memory s.pc)

abbrev pub and_then : Option Machine → (Machine → Option Machine) → Option Machine
and_then None next = None
and_then (Some s) next = next s

-- so many steps
abbrev pub run_for : (ℕ → ℕ) → ℕ → Machine → Option Machine
run_for memory zero s = Some s
run_for memory (suc n) s = and_then (stepped memory s) (run_for memory n)

-- after four steps the machine is at the address, and of the registers only x16 and x17 may have
-- changed
pub record Arrives (memory : ℕ → ℕ) (old : Machine) (address : ℕ) : Type 0 where
  pub new : Machine
  pub four : run_for memory 4 old ≡ Some new
  pub there : new.pc ≡ address
  pub same_length : length new.regs ≡ length old.regs
  pub others : (k : ℕ) → k ≢ 16 → k ≢ 17 → slice_index new.regs k ≡ slice_index old.regs k
