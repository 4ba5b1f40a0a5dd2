-- What visitors are told.
use Rattle.std.specs.Prelude.{ℕ, ◌≡◌, ◌⊎◌, ◌-◌, ◌^◌, ◌<◌, ◌≤◌, List, [], ◌∷◌, ◌++◌, take, length}
use Rattle.std.specs.Prelude.{Result, OnOk, OnErr}
use Rattle.a64_role.specs.declared.role.Role.{Role}

-- a count of refusals rose, or stands at its last value
abbrev pub HasRefused : ℕ → ℕ → Type 0
HasRefused old new = (old < new) ⊎ (new ≡ 2 ^ 64 - 1)

-- a visitor was told a proper prefix of these roles
pub record HasPart (old new roles : List Role) : Type 0 where
  pub count : ℕ
  pub fewer : count < length roles
  pub told : new ≡ old ++ take count roles

-- what a call leaves that tells a visitor some roles: it was told them, or a proper prefix of them
-- and it refused the next
pub record Tells {V T E : Type 0} (told : V → List Role) (refusals : V
    → ℕ) (old new : V) (roles : List Role) (result : Result T E) : Type 0 where
  pub ok : OnOk result (told new ≡ told old ++ roles)
  pub err : OnErr result (HasPart (told old) (told new) roles)
  pub rises : refusals old ≤ refusals new
  pub cause : OnErr result (HasRefused (refusals old) (refusals new))

-- what a call leaves that tells a visitor one role: it was told it, or nothing and it refused it
pub record TellsOne {V T E : Type 0} (told : V → List Role) (refusals : V
    → ℕ) (old new : V) (role : Role) (result : Result T E) : Type 0 where
  pub ok : OnOk result (told new ≡ told old ++ role ∷ [])
  pub err : OnErr result (told new ≡ told old)
  pub rises : refusals old ≤ refusals new
  pub cause : OnErr result (HasRefused (refusals old) (refusals new))
