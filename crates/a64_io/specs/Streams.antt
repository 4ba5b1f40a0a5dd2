-- What sources give and sinks take.
use Rattle.std.specs.Prelude.{ℕ, ◌≡◌, ◌↔◌, ◌⊎◌, ◌-◌, ◌^◌, ◌<◌, List, [], ◌++◌, take, drop, length}
use Rattle.std.specs.Prelude.{Option, Some, IfSome}

-- a count of failures rose in a call, or stands at its last value
abbrev pub HasFailed : ℕ → ℕ → Type 0
HasFailed old new = (old < new) ⊎ (new ≡ 2 ^ 64 - 1)

-- a read of n bytes took them from the front of the text that was left; n is 0 exactly at the end
pub record TakesFront (text : List ℕ) (n : ℕ) (buffer : List ℕ) (left : Option (List ℕ)) : Type 0
  where
    pub moved : take n buffer ≡ take n text
    pub rest : left ≡ Some (drop n text)
    pub ended : (n ≡ 0) ↔ (text ≡ [])

-- a sink that tells what it has taken has got these bytes more
abbrev pub Takes : Option (List ℕ) → Option (List ℕ) → List ℕ → Type 0
Takes old new bytes = IfSome old (λ before. new ≡ Some (before ++ bytes))

-- a sink that tells what it has taken has got a proper prefix of these bytes more
abbrev pub TakesPart : Option (List ℕ) → Option (List ℕ) → List ℕ → Type 0
TakesPart old new bytes =
    IfSome old (λ before. (n : ℕ) × (n < length bytes) × (new ≡ Some (before ++ take n bytes)))

-- where text waits for a sink: the sink has got some bytes more, and they and what waits now are
-- what waited and the bytes of a text; no write failed
pub record Puts (taken : Option (List ℕ)) (faults : ℕ) (waits : List ℕ) (taken' : Option (List ℕ))
    (faults' : ℕ) (waits' bytes : List ℕ) : Type 0 where
  pub told : IfSome taken (λ before. (more : List ℕ) × (taken' ≡ Some (before ++ more))
      × (more ++ waits' ≡ waits ++ bytes))
  pub steady : faults' ≡ faults

-- a write failed before the sink had got all of what waited and the bytes of a text
pub record IsCut (taken : Option (List ℕ)) (faults : ℕ) (waits : List ℕ) (taken' : Option (List ℕ))
    (faults' : ℕ) (bytes : List ℕ) : Type 0 where
  pub part : TakesPart taken taken' (waits ++ bytes)
  pub cause : HasFailed faults faults'
