-- What islands and the pool of finished code hold.
use Rattle.std.specs.Prelude.{ℕ, pos, ◌+ℤ◌, ◌≡◌, ◌≢◌, ◌+◌, ◌*◌, ◌^◌, ◌<◌, false, List, [], ◌∷◌}
use Rattle.std.specs.Prelude.{Contains, length, Some, IsSome}
use Rattle.std.specs.Ordering.{nat_cmp}
use Rattle.std.specs.FinMap.{FinMap}
use Rattle.a64_buffer.specs.declared.class.Class.{Class}
use Rattle.a64_buffer.specs.declared.class.Class.TheVariants.{Near, Middle, Load, Trapping, Far}
use Rattle.a64_buffer.specs.declared.class.Class.TheVariants.{Direct}
use Rattle.a64_buffer.specs.declared.site.Target.{Target}
use Rattle.a64_buffer.specs.declared.site.Target.TheVariants.{Label, Constant, Trap, IslandEnd}
use Rattle.a64_buffer.specs.Buffer.{is_within}
use Rattle.a64_buffer.specs.Classes.{class_of, rank_of}
use Rattle.a64_buffer.specs.Chain.{constant_of}
use Rattle.a64_buffer.specs.Pieces.{padding, content_of, copy_words, stop_for}
use Rattle.a64_words.specs.Word.{outside, word_at, StandAt}
use Rattle.a64_emit.specs.declared.code.Code.{Code}
use Rattle.a64_label_use.specs.declared.label_use.LabelUse.TheVariants as uses
use Rattle.a64_cells.specs.declared.site.Site.{Site}
use Rattle.a64_label_use.specs.LabelUses.{label_kinds, mask_for, distance_in}
use Rattle.a64_cells.specs.Shapes.{Cell}

-- what a use waits for
abbrev pub site_class : Site → Class
site_class site = class_of label_kinds site.target site.kind

-- uses come by what they wait for, then by place
abbrev pub order_of : ℕ × Site → ℕ
order_of u = rank_of (site_class u.1) * 2 ^ 32 + u.0

-- one use is served before another, and no constant is copied twice
abbrev pub ComesBefore : ℕ × Site → ℕ × Site → Type 0
ComesBefore u v =
    (order_of u < order_of v)
    × (IsSome (constant_of u.1.target) → u.1.target ≢ v.1.target)

-- the use of a cell
abbrev pub IsCellUse : List (ℕ × Cell) → ℕ × Site → Type 0
IsCellUse cells u = (s : ℕ × Cell) × Contains cells s × (s.0 ≡ u.0) × (s.1.site ≡ Some u.1)

module _ (constants : FinMap nat_cmp (List ℕ)) where
  -- how many bytes a use that waits for something gets from a place on: a copy stands behind zero
  -- words up to a multiple of its size
  abbrev pub piece_size : Class → Target → ℕ → ℕ
  piece_size Near target place = 4
  piece_size Middle target place = 4
  piece_size Load target place =
      4 * padding place (length (content_of constants target))
      + length (content_of constants target)
  piece_size Trapping target place = 4
  piece_size Far target place = 20
  piece_size Direct target place = 0

  module _ (code : Code) where
    -- at a place stands a jump word, whatever its distance
    abbrev pub IsJumpWord : ℕ → Type 0
    IsJumpWord place =
        outside (mask_for uses.Branch26) (word_at code.bytes.items place) ≡ 0x14000000

    -- what stands there: a jump word, a copy, a trap word, a far veneer
    abbrev pub StandsFor : Class → Target → ℕ → Type 0
    StandsFor Near target place = IsJumpWord place
    StandsFor Middle target place = IsJumpWord place
    StandsFor Load target place =
        StandAt code.bytes.items place (copy_words (content_of constants target) place)
    StandsFor Trapping target place = word_at code.bytes.items place ≡ 0xc11f
    StandsFor Far target place =
        StandAt code.bytes.items place (0x98000090 ∷ 0x10000071 ∷ 0x8b110210 ∷ 0xd61f0200 ∷ [])
    StandsFor Direct target place = ⊥

    -- a use has its piece from a place on, and stops there
    pub record HasPiece (place : ℕ) (u : ℕ × Site) : Type 0 where
      pub stands : StandsFor (site_class u.1) u.1.target place
      pub stops :
          pos u.0 +ℤ distance_in u.1.kind (word_at code.bytes.items u.0)
          ≡ pos (stop_for label_kinds constants (site_class u.1) u.1.target place)

    -- the pieces of some uses, one behind another, are all that stands between two places
    abbrev pub Fills : ℕ → List (ℕ × Site) → ℕ → Type 0
    Fills from [] to = from ≡ to
    Fills from (u ∷ us) to =
        HasPiece from u × Fills (from + piece_size (site_class u.1) u.1.target from) us to

    -- a use of a label is served where the label is out of its range
    abbrev pub IsFarOff : ℕ × Site → Type 0
    IsFarOff u = elim u.1.target [
      | Label label ↦ (goal : ℕ) × Contains code.labels.items (label, goal)
          × (is_within label_kinds u.1.kind u.0 goal ≡ false)
      | Constant constant ↦ Unit {0}
      | Trap trap ↦ Unit {0}
      | IslandEnd ↦ ⊥
    ]
