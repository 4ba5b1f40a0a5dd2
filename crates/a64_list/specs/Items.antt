-- The items of a list that may not stand anywhere yet.
use Rattle.std.specs.Prelude.{List, [], Option, Some, None}

-- the items that what stands there has; none where nothing does
abbrev pub items_or_none : {A B : Type 0} → (A → List B) → Option A → List B
items_or_none items None = []
items_or_none items (Some there) = items there
