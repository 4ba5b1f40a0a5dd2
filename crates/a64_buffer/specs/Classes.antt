-- What uses want of islands, and what that costs other uses.
use Rattle.std.specs.Prelude.{ℕ, ◌≡◌, ◌+◌, ◌≤◌, Bool, true, false, ◌&&◌, nat_eq, if◌then◌else◌}
use Rattle.std.specs.Prelude.{List, All, sum_by, None, Some, is_none}
use Rattle.a64_buffer.specs.declared.site.Use.{Use}
use Rattle.a64_buffer.specs.declared.class.Class.{Class}
use Rattle.a64_buffer.specs.declared.class.Class.TheVariants.{Near, Middle, Load, Trapping, Far}
use Rattle.a64_buffer.specs.declared.class.Class.TheVariants.{Direct}
use Rattle.a64_buffer.specs.declared.site.Target.{Target}
use Rattle.a64_buffer.specs.declared.site.Target.TheVariants.{Label, Constant, Trap, IslandEnd}
use Rattle.a64_buffer.specs.Kinds.{Kinds}
use Rattle.a64_buffer.specs.Buffer.{Buffer, end_of, label_of}

-- the three urgencies
pub data Level : Type 0 where
  first : Level
  second : Level
  third : Level

abbrev pub urgency_number : Level → ℕ
urgency_number first = 1
urgency_number second = 2
urgency_number third = 3

abbrev pub level_of : Class → Level
level_of Near = first
level_of Middle = second
level_of Load = second
level_of Trapping = second
level_of Far = third
level_of Direct = third

-- whether a use may want a veneer, a constant or a trap word
abbrev pub wants : Class → Bool
wants Near = true
wants Middle = true
wants Load = true
wants Trapping = true
wants Far = true
wants Direct = false

-- the order of what an island gives
abbrev pub rank_of : Class → ℕ
rank_of Near = 0
rank_of Load = 1
rank_of Trapping = 2
rank_of Middle = 3
rank_of Far = 4
rank_of Direct = 5

abbrev pub cost_in : Level → ℕ → ℕ → ℕ → ℕ
cost_in first a b c = a
cost_in second a b c = b
cost_in third a b c = c

-- how many bytes of an island an open use may put before what the uses of an urgency get there
abbrev pub cost : Level → Class → ℕ
cost level Near = cost_in level 4 4 24
cost level Middle = cost_in level 0 4 24
cost level Load = cost_in level 0 28 28
cost level Trapping = cost_in level 0 4 4
cost level Far = cost_in level 0 0 20
cost level Direct = 0

-- how many uses are added for an open use, until none waits
abbrev pub veneer_uses : Class → ℕ
veneer_uses Near = 2
veneer_uses Middle = 2
veneer_uses Load = 0
veneer_uses Trapping = 0
veneer_uses Far = 1
veneer_uses Direct = 0

-- how many trap words are added for it
abbrev pub trap_words : Class → ℕ
trap_words Near = 0
trap_words Middle = 0
trap_words Load = 0
trap_words Trapping = 1
trap_words Far = 0
trap_words Direct = 0

-- the class of a use of a label, by whether its kind may have a veneer, and its urgency
abbrev pub label_class : Bool → ℕ → Class
label_class veneers urgency =
    if veneers then (if nat_eq urgency 1 then Near else if nat_eq urgency 2 then Middle else Far)
    else Direct

module _ {K : Type 0} (r : Kinds K) where
  abbrev pub class_of : Target → K → Class
  class_of (Label label) kind = label_class (r.veneers kind) (r.urgency kind)
  class_of (Constant constant) kind = Load
  class_of (Trap code) kind = Trapping
  class_of IslandEnd kind = Direct

  abbrev pub class : Use K → Class
  class u = class_of u.target u.kind

  -- how far ahead the uses of an urgency reach
  abbrev pub range_of : Level → ℕ
  range_of level = r.range (urgency_number level)

  -- a use waits for a veneer, a constant or a trap word
  abbrev pub is_open : Use K → Bool
  is_open u = wants (class u) && is_none u.stop

  -- the sum of a weight over all open uses
  abbrev pub weigh : (Class → ℕ) → Use K → ℕ
  weigh weight u = if is_open u then weight (class u) else 0

  abbrev pub weight_of : (Class → ℕ) → List (Use K) → ℕ
  weight_of weight uses = sum_by (weigh weight) uses

  -- how many bytes all open uses together may put before what those of an urgency get
  abbrev pub burden : Level → List (Use K) → ℕ
  burden level uses = weight_of (cost level) uses

  -- how many bytes what is open may add to the code, but for the jumps of islands
  abbrev pub owed : Buffer K → ℕ
  owed b = burden third b.uses

  -- the same, of uses of labels that pass a test
  abbrev pub weigh_label : (ℕ → Bool) → Use K → ℕ
  weigh_label test u =
      elim (label_of u.target) [
        | None ↦ 0
        | Some label ↦ if test label then weigh (cost third) u else 0
      ]

  abbrev pub owed_to : (ℕ → Bool) → Buffer K → ℕ
  owed_to test b = sum_by (weigh_label test) b.uses

  -- each open use reaches what it gets in the worst island, if that begins so many bytes behind the
  -- end
  pub record HasRoom (end : ℕ) (uses : List (Use K)) (more : ℕ) : Type 0 where
    pub rooms : All (λ u. is_open u ≡ true
        → end + more + 4 + burden (level_of (class u)) uses
        ≤ u.offset + range_of (level_of (class u))) uses

  abbrev pub Fits : Buffer K → ℕ → Type 0
  Fits b more = HasRoom (end_of b) b.uses more
