-- Rotated runs of ones: the numbers that logical instructions can hold.
use Rattle.std.specs.Prelude.{ℕ, zero, suc, ◌<◌, ◌+◌, ◌-◌, ◌*◌, ◌/◌, ◌%◌, ◌^◌, Bool, ◌&&◌, nat_lt}
use Rattle.std.specs.Prelude.{nat_eq, Option, List, [], ◌∷◌, find, map, flat_map}
use Rattle.std.specs.List.{range_with_len}
use Rattle.a64_imms.specs.declared.run.Period.{Period}
use Rattle.a64_imms.specs.declared.run.Period.TheVariants.{Two, Four, Eight, Sixteen, ThirtyTwo}
use Rattle.a64_imms.specs.declared.run.Period.TheVariants.{SixtyFour}
use Rattle.a64_imms.specs.declared.run.Run.{Run}

-- the number of bits of a period
abbrev pub width : Period → ℕ
width Two = 2
width Four = 4
width Eight = 8
width Sixteen = 16
width ThirtyTwo = 32
width SixtyFour = 64

-- what the six bits of S have in front of the number of ones less 1
abbrev pub prefix : Period → ℕ
prefix Two = 0b111100
prefix Four = 0b111000
prefix Eight = 0b110000
prefix Sixteen = 0b100000
prefix ThirtyTwo = 0
prefix SixtyFour = 0

-- a word of so many bits, written so many times
abbrev pub copies : ℕ → ℕ → ℕ → ℕ
copies bits word zero = 0
copies bits word (suc times) = copies bits word times * 2 ^ bits + word

-- a word repeated to 64 bits
abbrev pub repeated : ℕ → ℕ → ℕ
repeated bits word = copies bits word (64 / bits)

-- a word of so many bits, rotated right: its lowest bits come out at the top
abbrev pub rotated : ℕ → ℕ → ℕ → ℕ
rotated bits turn word = word / 2 ^ turn + word % 2 ^ turn * 2 ^ (bits - turn)

-- from 1 to e - 1 ones in e bits, rotated by less than e
pub record IsRun (run : Run) : Type 0 where
  pub some : 0 < run.ones
  pub part : run.ones < width run.period
  pub turned : run.turn < width run.period

-- the test of that
abbrev pub is_run : Run → Bool
is_run run =
    nat_lt 0 run.ones && (nat_lt run.ones (width run.period) && nat_lt run.turn (width run.period))

-- the zeros of a run as ones: the run of the complement
abbrev pub opposite : Run → Run
opposite run =
    let bits = width run.period in
    record {
      period = run.period;
      ones = bits - run.ones;
      turn = (run.turn + (bits - run.ones)) % bits;
    }

-- the number of a run: its ones, rotated right, and repeated to 64 bits
unfoldable pub number : Run → ℕ
number run = let bits = width run.period in repeated bits (rotated bits run.turn (2 ^ run.ones - 1))

-- words of every period, with up to 63 ones and turned by less than 64: among them are all runs
abbrev pub turns_of : Period → ℕ → List Run
turns_of period ones =
    map (λ turn. record { period = period; ones = ones; turn = turn }) (range_with_len 0 64)

abbrev pub words_of : Period → List Run
words_of period = flat_map (turns_of period) (range_with_len 0 64)

abbrev pub periods : List Period
periods = Two ∷ Four ∷ Eight ∷ Sixteen ∷ ThirtyTwo ∷ SixtyFour ∷ []

-- the run with this number, by trying all of them. No program does that; it only says which run it
-- is.
unfoldable pub run_of : ℕ → Option Run
run_of value = find (λ run. is_run run && nat_eq (number run) value) (flat_map words_of periods)

-- a one at each multiple of the period
abbrev pub ones_apart : Period → ℕ
ones_apart period = repeated (width period) 1

-- by how much ones from place 0 on are rotated right so that they begin at a place
abbrev pub turn_to : ℕ → ℕ → ℕ
turn_to bits place = (bits - place % bits) % bits
