-- Far veneers that run: their words stand in memory from an address on, as bytes of code.
use Rattle.std.specs.Prelude.{ℕ, pos, ◌≡◌, ◌<◌, ◌≤◌, ◌+◌, ◌-◌, ◌^◌, ◌+ℤ◌, List, [], ◌∷◌, ◌++◌}
use Rattle.std.specs.Prelude.{length}
use Rattle.a64_imms.specs.Offsets.{residue}
use Rattle.a64_plan.specs.JumpMachine.{Machine, wrapped, Arrives}
use Rattle.a64_words.specs.Word.{signed, word_at, StandAt}
use Rattle.a64_label_use.specs.LabelUses.{label_kinds}

-- bytes that stand in memory from an address on
pub record Loaded : Type 0 where
  pub base : ℕ
  pub bytes : List ℕ

-- the word at an address
abbrev pub fetched : Loaded → ℕ → ℕ
fetched code address = word_at code.bytes (wrapped (address + (2 ^ 64 - code.base)))

-- the machine stands at a place of loaded code
pub record IsAt (code : Loaded) (old : Machine) (place : ℕ) : Type 0 where
  pub base_fits : code.base < 2 ^ 64
  pub place_fits : place + 20 ≤ 2 ^ 64
  pub all_registers : length old.regs ≡ 31
  pub pc_is : old.pc ≡ wrapped (code.base + place)

-- wherever the words stand with a fifth one behind them, the machine arrives at the address of the
-- fifth plus that word as a signed number
unfoldable pub JumpFar : List ℕ → Type 0
JumpFar words = (code : Loaded) (old : Machine) (place fifth : ℕ) → IsAt code old place
    → StandAt code.bytes place (words ++ fifth ∷ []) → fifth < 2 ^ 32
    → Arrives (fetched code) old
    (residue (2 ^ 64) (pos (code.base + place + 16) +ℤ signed 32 fifth))

-- the first four words of some bytes
abbrev pub first_words : List ℕ → List ℕ
first_words bytes = word_at bytes 0 ∷ word_at bytes 4 ∷ word_at bytes 8 ∷ word_at bytes 12 ∷ []

-- wherever code is loaded, the machine arrives at a goal in it from where a far veneer stands whose
-- last word, at an offset, is this
unfoldable pub LeadFar : ℕ → ℕ → ℕ → Type 0
LeadFar offset last goal =
    (code : Loaded) (old : Machine) (place : ℕ) → place + 16 ≡ offset → IsAt code old place
    → StandAt code.bytes place (label_kinds.far_words ++ last ∷ [])
    → Arrives (fetched code) old (wrapped (code.base + goal))
