-- What is recorded of code, by place.
use Rattle.std.specs.Prelude.{ℕ, ◌≤◌, List, All}
use Rattle.std.specs.List.{AllPairs}
use Rattle.a64_base.specs.declared.entity.TrapCode.{TrapCode}
use Rattle.a64_buffer.specs.Buffer.{Records}

-- items stand from one place up to another, in the order of their places
pub record AreByPlace {A : Type 0} (place_of : A → ℕ) (from to : ℕ) (items : List A) : Type 0 where
  pub behind : All (λ x. from ≤ place_of x) items
  pub ahead : All (λ x. place_of x ≤ to) items
  pub in_order : AllPairs (λ x y. place_of x ≤ place_of y) items

-- some traps, and what else is recorded of code that ends at a place, are by place
pub record AreRecordedByPlace (end : ℕ) (listed : List (ℕ
    × TrapCode)) (records : Records) : Type 0 where
  pub traps : AreByPlace (λ t. t.0) 0 end listed
  pub relocs : AreByPlace (λ r. r.0) 0 end records.relocs
  pub calls : AreByPlace (λ place. place) 0 end records.calls
  pub patchable : AreByPlace (λ c. c.0) 0 end records.patchable
  pub maps : AreByPlace (λ m. m.0) 0 end records.maps
