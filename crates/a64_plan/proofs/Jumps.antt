-- The run of the four instructions of a far jump.
use Rattle.std.proofs.Common.{ℕ, suc, ◌≡◌, ◌≢◌, ◌+◌, Some, List, length, get_or, ap, ap₂, ◌∙◌, arith, get_or-set_other, get_or-set_same}
use Rattle.std.proofs.Math.ListN.{set, length-set}
use Rattle.a64_plan.specs.JumpMachine.{Machine, wrapped, extended, goes_on, act, stepped, and_then, run_for, Arrives}

-- what the last register holds
sum_is : (regs : List ℕ) (x y : ℕ) → length regs ≡ 31
    → get_or (set (set (set regs 16 x) 17 y) 16 (wrapped (get_or (set (set regs 16 x) 17 y) 16 0 + get_or (set (set regs 16 x) 17 y) 17 0))) 16 0 ≡ wrapped (x + y)
sum_is regs x y all =
    let l1 = length-set regs 16 x in
    let l2 = length-set (set regs 16 x) 17 y in
    let e16 : get_or (set (set regs 16 x) 17 y) 16 0 ≡ x =
    get_or-set_other (set regs 16 x) 17 16 y 0 (omega arith) ∙ get_or-set_same regs 16 x 0 (omega arith)
    in
    let e17 : get_or (set (set regs 16 x) 17 y) 17 0 ≡ y = get_or-set_same (set regs 16 x) 17 y 0 (omega arith) in
    get_or-set_same (set (set regs 16 x) 17 y) 16 _ 0 (omega arith) ∙ ap₂ (λ (m n : ℕ). wrapped (m + n)) e16 e17

others_stay : (regs : List ℕ) (x y z k : ℕ) → k ≢ 16 → k ≢ 17 → get_or (set (set (set regs 16 x) 17 y) 16 z) k 0 ≡ get_or regs k 0
others_stay regs x y z k not_16 not_17 =
    get_or-set_other (set (set regs 16 x) 17 y) 16 k z 0 not_16
    ∙ get_or-set_other (set regs 16 x) 17 k y 0 not_17
    ∙ get_or-set_other regs 16 k x 0 not_16

module _ (memory : ℕ → ℕ) where
  -- each step is that of the word at the program counter
  one : (s : Machine) (w : ℕ) → memory s.pc ≡ w → stepped memory s ≡ act memory s w
  one s w is = ap (act memory s) is

  more_steps : (s t : Machine) (n : ℕ) → stepped memory s ≡ Some t → run_for memory (suc n) s ≡ run_for memory n t
  more_steps s t n is = ap (λ o. and_then o (run_for memory n)) is

  -- where the four stand at the program counter, they arrive at the sum of the fifth word, as a signed number, and its address
  pub four_arrive : (old : Machine) → length old.regs ≡ 31
      → memory old.pc ≡ 0x98000090
      → memory (wrapped (old.pc + 4)) ≡ 0x10000071
      → memory (wrapped (wrapped (old.pc + 4) + 4)) ≡ 0x8b110210
      → memory (wrapped (wrapped (wrapped (old.pc + 4) + 4) + 4)) ≡ 0xd61f0200
      → Arrives memory old (wrapped (extended (memory (wrapped (old.pc + 16))) + wrapped (wrapped (old.pc + 4) + 12)))
  four_arrive old all f1 f2 f3 f4 =
      let x : ℕ = extended (memory (wrapped (old.pc + 16))) in
      let y : ℕ = wrapped (wrapped (old.pc + 4) + 12) in
      let s1 : Machine = goes_on old 16 x in
      let s2 : Machine = goes_on s1 17 y in
      let s3 : Machine = goes_on s2 16 (wrapped (get_or s2.regs 16 0 + get_or s2.regs 17 0)) in
      let s4 : Machine = record { regs = s3.regs; pc = get_or s3.regs 16 0 } in
      record {
        new = s4;
        four =
            more_steps old s1 3 (one old 0x98000090 f1)
            ∙ more_steps s1 s2 2 (one s1 0x10000071 f2)
            ∙ more_steps s2 s3 1 (one s2 0x8b110210 f3)
            ∙ more_steps s3 s4 0 (one s3 0xd61f0200 f4);
        there = sum_is old.regs x y all;
        same_length = length-set s2.regs 16 _ ∙ length-set s1.regs 17 y ∙ length-set old.regs 16 x;
        others = others_stay old.regs x y _;
      }
