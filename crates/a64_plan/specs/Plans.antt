-- The plan of a constant: the first of a few that applies.
use Rattle.std.specs.Prelude.{ℕ, zero, suc, ◌+◌, ◌-◌, ◌^◌, Bool, true, false, if◌then◌else◌, ◌&&◌}
use Rattle.std.specs.Prelude.{nat_eq, nat_lt, Option, None, Some, option_map, List, [], ◌∷◌, ◌++◌}
use Rattle.std.specs.Prelude.{length, map}
use Rattle.a64_base.specs.declared.size.OperandSize.{OperandSize}
use Rattle.a64_base.specs.declared.size.OperandSize.TheVariants.{Size32, Size64}
use Rattle.a64_imms.specs.declared.imm_logic.ImmLogic.{ImmLogic}
use Rattle.a64_imms.specs.MoveWides.{halfword, wide_at, wide_of}
use Rattle.a64_imms.specs.Logic.{logic_of}
use Rattle.a64_plan.specs.declared.step.ConstStep.{ConstStep}
use Rattle.a64_plan.specs.declared.step.ConstStep.TheVariants.{MovZ, MovN, MovK, Orr}
use Rattle.a64_plan.specs.Shapes.{halfword_count}

-- how many of a value's halfwords below k are these bits
abbrev pub count : ℕ → ℕ → ℕ → ℕ
count bits value zero = 0
count bits value (suc k) = count bits value k + (if nat_eq (halfword k value) bits then 1 else 0)

-- movn exactly where more of the size's halfwords are ffff than 0000
abbrev pub takes_movn : OperandSize → ℕ → Bool
takes_movn size value =
    nat_lt (count 0 value (halfword_count size)) (count (2 ^ 16 - 1) value (halfword_count size))

-- the bits of the halfwords that the first move already gives: ffff after a movn, 0000 after a movz
abbrev pub given : Bool → ℕ
given negated = if negated then 2 ^ 16 - 1 else 0

-- the other halfwords below k, from the lowest up
abbrev pub places : Bool → ℕ → ℕ → List ℕ
places negated value zero = []
places negated value (suc k) =
    if nat_eq (halfword k value) (given negated) then places negated value k
    else places negated value k ++ (k ∷ [])

-- the move that begins, and gives halfword k of the value
abbrev pub first_move : OperandSize → Bool → ℕ → ℕ → ConstStep
first_move size true value k =
    MovN (record { bits = 2 ^ 16 - 1 - halfword k value; shift = k }) size
first_move size false value k = MovZ (wide_at value k) size

-- a move that goes on
abbrev pub next_move : OperandSize → ℕ → ℕ → ConstStep
next_move size value k = MovK (wide_at value k) size

abbrev pub move_at : Bool → OperandSize → Bool → ℕ → ℕ → ConstStep
move_at is_first size negated value k =
    if is_first then first_move size negated value k else next_move size value k

-- the first of the places by the move that begins, each further one by a movk
abbrev pub moves_at : OperandSize → Bool → ℕ → List ℕ → List ConstStep
moves_at size negated value [] = []
moves_at size negated value (k ∷ ks) =
    first_move size negated value k ∷ map (next_move size value) ks

unfoldable pub moves_of : OperandSize → ℕ → List ConstStep
moves_of size value =
    let negated =
    takes_movn size value in moves_at size negated value
    (places negated value (halfword_count size))

-- the size of the moves: 32 bits where the upper half of the value is zero
abbrev pub moves_size : ℕ → OperandSize
moves_size value = if nat_lt value (2 ^ 32) then Size32 else Size64

-- one step, where there is one, or else others
abbrev pub alone_or : Option ConstStep → List ConstStep → List ConstStep
alone_or (Some step) steps = step ∷ []
alone_or None steps = steps

-- one movz, movn or orr of 64 bits where it can, tried in this order, or else other steps
abbrev pub wide_step_or : ℕ → List ConstStep → List ConstStep
wide_step_or value steps =
    alone_or (option_map (λ imm. MovZ imm Size64) (wide_of value))
    (alone_or (option_map (λ imm. MovN imm Size64) (wide_of (2 ^ 64 - 1 - value)))
    (alone_or (option_map Orr (logic_of Size64 value)) steps))

-- the upper half of the value is zero, and its moves are two
abbrev pub has_two_moves : ℕ → Bool
has_two_moves value = nat_lt value (2 ^ 32) && nat_eq (length (moves_of Size32 value)) 2

-- the immediate of an orr of 32 bits in the place of two moves
abbrev pub narrow_logic_of : ℕ → Option ImmLogic
narrow_logic_of value = if has_two_moves value then logic_of Size32 value else None

-- one step of 64 bits where it can, or else one orr of 32 bits in the place of two moves, or else
-- moves
unfoldable pub plan_of : ℕ → List ConstStep
plan_of value =
    wide_step_or value
    (alone_or (option_map Orr (narrow_logic_of value)) (moves_of (moves_size value) value))

-- the same without an orr of 32 bits
unfoldable pub plan_without_narrow : ℕ → List ConstStep
plan_without_narrow value = wide_step_or value (moves_of (moves_size value) value)
