-- What a reader answers.
use Rattle.std.specs.Prelude.{◌≡◌, ℕ, suc, ◌<◌, ◌^◌, ℤ, pos, negsuc, FitsSigned, Option, Some, None}
use Rattle.std.specs.Prelude.{IfSome}
use Rattle.std.specs.Int.{w32, w64}

-- a reader answers Some x exactly where the text is that of x; `fits` says which x have a text
pub record Reads {X T : Type 0} (fits : X → Type 0) (text : X
    → T) (token : T) (result : Option X) : Type 0 where
  pub some : IfSome result (λ x. fits x × (token ≡ text x))
  pub only : (x : X) → fits x → token ≡ text x → result ≡ Some x

-- every value has a text
abbrev pub Always : {X : Type 0} → X → Type 0
Always x = Unit {0}

abbrev pub IsBelowHundred : ℕ → Type 0
IsBelowHundred n = n < 100

abbrev pub IsU8 : ℕ → Type 0
IsU8 n = n < 2 ^ 8

abbrev pub IsU32 : ℕ → Type 0
IsU32 n = n < 2 ^ 32

abbrev pub IsU64 : ℕ → Type 0
IsU64 n = n < 2 ^ 64

abbrev pub IsI32 : ℤ → Type 0
IsI32 z = FitsSigned w32 z

abbrev pub IsI64 : ℤ → Type 0
IsI64 z = FitsSigned w64 z

-- the number with a minus, where that is below zero and one of 64 bits
abbrev pub IsBelowZero : ℕ → Option ℤ → Type 0
IsBelowZero size None = (m : ℕ) → size ≡ suc m → m < 2 ^ 63 → ⊥
IsBelowZero size (Some z) = (m : ℕ) × (size ≡ suc m) × (m < 2 ^ 63) × (z ≡ negsuc m)

-- the number itself, where that is one of 64 bits
abbrev pub IsFromZero : ℕ → Option ℤ → Type 0
IsFromZero size None = size < 2 ^ 63 → ⊥
IsFromZero size (Some z) = (size < 2 ^ 63) × (z ≡ pos size)
