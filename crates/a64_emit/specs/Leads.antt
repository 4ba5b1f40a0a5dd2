-- Where the uses of finished code lead.
use Rattle.std.specs.Prelude.{ℕ, pos, ◌+ℤ◌, ◌≡◌, ◌⊎◌, ◌+◌, ◌%◌, List, [], ◌∷◌, ◌++◌, All, Contains}
use Rattle.std.specs.Prelude.{length, Option, None, Some, IfSome, IsSomeAnd}
use Rattle.std.specs.List.{AllPairs}
use Rattle.std.specs.Ordering.{nat_cmp}
use Rattle.std.specs.FinMap.{FinMap, get}
use Rattle.a64_base.specs.declared.entity.TrapCode.{TrapCode}
use Rattle.a64_buffer.specs.declared.site.Target.{Target}
use Rattle.a64_buffer.specs.declared.site.Target.TheVariants.{Label, Constant, Trap, IslandEnd}
use Rattle.a64_buffer.specs.Areas.{InArea}
use Rattle.a64_buffer.specs.Kinds.{GoesTo}
use Rattle.a64_buffer.specs.Sound.{IsTrap}
use Rattle.a64_words.specs.Word.{outside, word_at, words_of, StandAt}
use Rattle.a64_emit.specs.declared.code.Code.{Code}
use Rattle.a64_label_use.specs.declared.label_use.LabelUse.{LabelUse}
use Rattle.a64_label_use.specs.declared.label_use.LabelUse.TheVariants as uses
use Rattle.a64_cells.specs.declared.site.Site.{Site}
use Rattle.a64_label_use.specs.LabelUses.{label_kinds, mask_for, distance_in}
use Rattle.a64_cells.specs.Shapes.{Cell}
use Rattle.a64_cells.specs.Cells.{cell_word}

-- a use is a deferred trap
abbrev pub IsTrapUse : Option Site → Type 0
IsTrapUse None = ⊥
IsTrapUse (Some site) = IsTrap site.target

-- a cell's use is one
abbrev pub IsDeferred : ℕ × Cell → Type 0
IsDeferred s = IsTrapUse s.1.site

module _ (code : Code) where
  -- the listed islands, and the pool behind them
  abbrev pub areas : List (ℕ × ℕ)
  areas = code.islands.items ++ (code.pool, length code.bytes.items) ∷ []

  -- the word of a use, which was put as `put`, says the distance from its place to another, where
  -- the use stops
  abbrev pub StopsAt : LabelUse → ℕ → ℕ → ℕ → Type 0
  StopsAt kind put place stop =
      GoesTo label_kinds kind put (word_at code.bytes.items place) place stop

  -- a jump stands at a place, and stops at the other
  abbrev pub JumpsTo : ℕ → ℕ → Type 0
  JumpsTo from to =
      (outside (mask_for uses.Branch26) (word_at code.bytes.items from) ≡ 0x14000000)
      × (pos from +ℤ distance_in uses.Branch26 (word_at code.bytes.items from) ≡ pos to)

  -- from a place on stands a far veneer to the goal: five words, of which the last says the
  -- distance from there
  pub record FarVeneerAt (place goal : ℕ) : Type 0 where
    pub area : InArea areas place 20
    pub words : StandAt code.bytes.items place (0x98000090 ∷ 0x10000071 ∷ 0x8b110210 ∷ 0xd61f0200
        ∷ [])
    pub last : StopsAt uses.PCRel32 0 (place + 16) goal

  -- a place is the goal, or a far veneer to it stands there
  abbrev pub Arrives : ℕ → ℕ → Type 0
  Arrives stop goal = (stop ≡ goal) ⊎ FarVeneerAt stop goal

  -- at a place stands a jump word, which stops at the goal or at a far veneer to it
  pub record JumpWordAt (place goal : ℕ) : Type 0 where
    pub area : InArea areas place 4
    pub next : ℕ
    pub jumps : JumpsTo place next
    pub arrives : Arrives next goal

  -- a use of a label that stops at a place leads to the goal. A branch may pass veneers, the
  -- shorter ones two of them.
  abbrev pub LeadsOn : LabelUse → ℕ → ℕ → Type 0
  LeadsOn uses.Branch14 stop goal = Arrives stop goal ⊎ JumpWordAt stop goal
  LeadsOn uses.Branch19 stop goal = Arrives stop goal ⊎ JumpWordAt stop goal
  LeadsOn uses.Branch26 stop goal = Arrives stop goal
  LeadsOn uses.Ldr19 stop goal = stop ≡ goal
  LeadsOn uses.Adr21 stop goal = stop ≡ goal
  LeadsOn uses.PCRel32 stop goal = stop ≡ goal

  -- at a place stands a copy of a constant with these bytes, aligned to their number
  pub record CopyAt (content : List ℕ) (place : ℕ) : Type 0 where
    pub aligned : place % length content ≡ 0
    pub area : InArea areas place (length content)
    pub words : StandAt code.bytes.items place (words_of content)

  -- at a place stands a trap word, which is recorded
  pub record TrapWordAt (place : ℕ) (trap : TrapCode) : Type 0 where
    pub area : InArea areas place 4
    pub word : word_at code.bytes.items place ≡ 0xc11f
    pub recorded : Contains code.traps.items (place, trap)

  -- what stands where the use of a target stops: what leads on to its label, a copy of its
  -- constant, or its trap word
  abbrev pub TargetAt : FinMap nat_cmp (List ℕ) → LabelUse → Target → ℕ → Type 0
  TargetAt constants kind (Label label) stop =
      (goal : ℕ) × Contains code.labels.items (label, goal) × LeadsOn kind stop goal
  TargetAt constants kind (Constant constant) stop =
      IsSomeAnd (get constants constant.0) (λ content. CopyAt content stop)
  TargetAt constants kind (Trap trap) stop = TrapWordAt stop trap
  TargetAt constants kind IslandEnd stop = ⊥

  -- the use of a word that was put at a place leads to its target
  abbrev pub SiteLeads : FinMap nat_cmp (List ℕ) → ℕ → ℕ → Site → Type 0
  SiteLeads constants place put site =
      (stop : ℕ) × StopsAt site.kind put place stop × TargetAt constants site.kind site.target stop

  -- each use of cells at their places leads to its target
  abbrev pub Leads : FinMap nat_cmp (List ℕ) → List (ℕ × Cell) → Type 0
  Leads constants cells = All (λ s. IfSome s.1.site (SiteLeads constants s.0 (cell_word s.1))) cells

  -- the use of a word that was put at a place, if it is one, stops at another
  abbrev pub UseStops : Option Site → ℕ → ℕ → ℕ → Type 0
  UseStops None put place stop = ⊥
  UseStops (Some site) put place stop = StopsAt site.kind put place stop

  -- a cell's use stops at a place
  abbrev pub CellStops : ℕ × Cell → ℕ → Type 0
  CellStops s stop = UseStops s.1.site (cell_word s.1) s.0 stop

  -- two deferred traps do not stop at one place
  abbrev pub StopApart : ℕ × Cell → ℕ × Cell → Type 0
  StopApart s t = IsDeferred s → IsDeferred t → (stop : ℕ) → CellStops s stop → CellStops t stop → ⊥

  -- each deferred trap has a trap word of its own
  abbrev pub HaveOwnTraps : List (ℕ × Cell) → Type 0
  HaveOwnTraps cells = AllPairs StopApart cells
