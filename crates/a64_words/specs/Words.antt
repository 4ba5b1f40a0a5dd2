-- Words, and the memory for them.
use Rattle.std.specs.Prelude.{ℕ, ◌/◌, List, take}
use Rattle.a64_words.specs.Word.{words_of}

-- words, and how many there is memory for
pub record HeldWords : Type 0 where
  pub items : List ℕ
  pub capacity : ℕ

-- the words that the first of some bytes are, where there is memory for so many bytes
abbrev pub held : ℕ → List ℕ → ℕ → HeldWords
held size bytes room = record { items = words_of (take size bytes); capacity = room / 4 }
