-- Where the uses of finished code lead.
use Rattle.std.specs.Prelude.{ℕ, ◌≡◌, ◌≢◌, ◌⊎◌, ◌+◌, ◌*◌, ◌%◌, IsTrue, List, Contains, length}
use Rattle.std.specs.Prelude.{IsSomeAnd}
use Rattle.std.specs.Ordering.{nat_cmp}
use Rattle.std.specs.FinMap.{FinMap, get}
use Rattle.a64_base.specs.declared.entity.TrapCode.{TrapCode}
use Rattle.a64_buffer.specs.declared.site.Target.{Target}
use Rattle.a64_buffer.specs.declared.site.Target.TheVariants.{Label, Constant, Trap, IslandEnd}
use Rattle.a64_words.specs.Word.{outside, word_at, words_of, StandAt}
use Rattle.a64_buffer.specs.Kinds.{Kinds, GoesTo}
use Rattle.a64_buffer.specs.Areas.{InArea}

-- over the code's bytes, the areas that the buffer wrote, the labels' places, the constants' bytes,
-- and the recorded traps
module _ {K : Type 0} (r : Kinds K) (bytes : List ℕ) (areas : List (ℕ
    × ℕ)) (labels : FinMap nat_cmp ℕ) (constants : FinMap nat_cmp (List ℕ)) (traps : List (ℕ
    × TrapCode)) where
  -- from a place on stands a far veneer, which leads to the goal
  pub record FarAt (place goal : ℕ) : Type 0 where
    pub area : InArea areas place (4 * length r.far_words + 4)
    pub words : StandAt bytes place r.far_words
    pub last : GoesTo r r.far_use 0 (word_at bytes (place + 4 * length r.far_words))
        (place + 4 * length r.far_words) goal

  -- a place is the goal, or a far veneer to it stands there
  abbrev pub Arrives : ℕ → ℕ → Type 0
  Arrives stop goal = (stop ≡ goal) ⊎ FarAt stop goal

  -- at a place stands a jump word, which leads to the goal, or to a far veneer to it
  pub record JumpAt (place goal : ℕ) : Type 0 where
    pub area : InArea areas place 4
    pub word : outside (r.mask r.jump) (word_at bytes place) ≡ outside (r.mask r.jump) r.jump_word
    pub next : ℕ
    pub goes : GoesTo r r.jump r.jump_word (word_at bytes place) place next
    pub arrives : Arrives next goal

  -- a use that stops at a place leads to the goal: that is the place, or a veneer there leads on
  abbrev pub LabelLeads : K → ℕ → ℕ → Type 0
  LabelLeads kind stop goal =
      (stop ≡ goal)
      ⊎ (IsTrue (r.veneers kind) × (FarAt stop goal ⊎ ((r.urgency kind ≢ 3) × JumpAt stop goal)))

  -- a use that stops at a place leads to its target
  abbrev pub TargetLeads : K → Target → ℕ → Type 0
  TargetLeads kind (Label label) stop = IsSomeAnd (get labels label.0) (LabelLeads kind stop)
  TargetLeads kind (Constant constant) stop = IsSomeAnd (get constants constant.0) (λ content.
      (stop % length content ≡ 0) × InArea areas stop (length content)
      × StandAt bytes stop (words_of content))
  TargetLeads kind (Trap code) stop =
      InArea areas stop 4 × (word_at bytes stop ≡ r.trap_word) × Contains traps (stop, code)
  TargetLeads kind IslandEnd stop = Unit {0}
