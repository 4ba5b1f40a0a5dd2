-- From finished code of a buffer to where the uses of its cells lead.
use Rattle.std.proofs.Common.{ℕ, ◌≡◌, ◌*◌, ◌/◌, ◌%◌, ◌<◌, true, false, List, [], ◌∷◌, ◌++◌, length, get_or, Option, None, Some, refl, sym, ap, ◌∙◌, subst, arith, inl, inr}
use Rattle.std.specs.Prelude.{All, Contains, IfSome, IsSomeAnd, MatchOption}
use Rattle.std.specs.FinMap.{get}
use Rattle.std.proofs.lemmas.Bool.{cases_lt}
use Rattle.a64_base.specs.declared.entity.MachLabel.{MachLabel}
use Rattle.a64_buffer.specs.declared.site.Use.{Use}
use Rattle.a64_buffer.specs.declared.site.Target.{Target}
use Rattle.a64_buffer.specs.declared.site.Target.TheVariants.{Label, Constant, Trap, IslandEnd}
use Rattle.a64_buffer.specs.declared.finish.Finished.{Finished}
use Rattle.a64_words.specs.Word.{outside, word_at, words_of, StandAt}
use Rattle.a64_buffer.specs.Areas.{InArea}
use Rattle.a64_buffer.specs.Kinds.{GoesTo}
use Rattle.a64_buffer.specs.Buffer.{Buffer, end_of, IsFree}
use Rattle.a64_buffer.specs.Later.{IsSameUse}
use Rattle.a64_buffer.specs.Leads as buffer
use Rattle.a64_buffer.specs.Finished.{IsSettled, IsFinished}
use Rattle.a64_label_use.specs.declared.label_use.LabelUse.{LabelUse}
use Rattle.a64_label_use.specs.declared.label_use.LabelUse.TheVariants as uses
use Rattle.a64_cells.specs.declared.site.Site.{Site}
use Rattle.a64_emit.specs.declared.code.Code.{Code}
use Rattle.a64_label_use.specs.LabelUses.{label_kinds, mask_for}
use Rattle.a64_cells.specs.Shapes.{Cell}
use Rattle.a64_cells.specs.Cells.{cell_word}
use Rattle.a64_emit.specs.Emission.{site_of, HasUse, IsPut}
use Rattle.a64_emit.specs.Layout.{site_mask}
use Rattle.a64_emit.specs.Leads.{areas, StopsAt, FarVeneerAt, JumpWordAt, Arrives, LeadsOn, CopyAt, TargetAt, SiteLeads}

abbrev pub no_use : Use LabelUse
no_use = record { offset = 0; target = IslandEnd; kind = uses.Branch26; stop = None }

-- the code that is handed out is the finished code of a buffer
pub record IsOutput (code : Finished) (out : Code) : Type 0 where
  pub bytes : out.bytes.items ≡ code.bytes.items
  pub labels : out.labels.items ≡ code.labels.items
  pub islands : out.islands.items ≡ code.islands.items
  pub pool : out.pool ≡ code.pool
  pub traps : out.traps.items ≡ code.traps.items

module _ (b : Buffer LabelUse) (code : Finished) (f : IsFinished label_kinds b code) (out : Code) (o : IsOutput code out) where
  -- ---- what the buffer says, of the code that is handed out

  pub end_is : length out.bytes.items ≡ end_of f.final
  end_is = ap length o.bytes ∙ f.same_length

  pub pool_is : out.pool ≡ end_of b
  pool_is = o.pool ∙ f.pool

  areas_are : b.islands ++ (end_of b, end_of f.final) ∷ [] ≡ areas out
  areas_are =
      ap (λ is. is ++ (end_of b, end_of f.final) ∷ []) (sym (o.islands ∙ f.islands))
      ∙ ap (λ n. out.islands.items ++ (n, end_of f.final) ∷ []) (sym pool_is)
      ∙ ap (λ n. out.islands.items ++ (out.pool, n) ∷ []) (sym end_is)

  abbrev BufferLeads : LabelUse → Target → ℕ → Type 0
  BufferLeads kind target stop = buffer.TargetLeads label_kinds out.bytes.items (areas out) b.labels b.constants out.traps.items kind target stop

  use_leads : All (λ u. MatchOption u.stop (u.target ≡ IslandEnd) (BufferLeads u.kind u.target)) f.final.uses
  use_leads =
      subst (λ ts. All (λ u. MatchOption u.stop (u.target ≡ IslandEnd) (buffer.TargetLeads label_kinds out.bytes.items (areas out) b.labels b.constants ts u.kind u.target)) f.final.uses) (sym o.traps)
      (subst (λ is. All (λ u. MatchOption u.stop (u.target ≡ IslandEnd) (buffer.TargetLeads label_kinds out.bytes.items is b.labels b.constants code.traps.items u.kind u.target)) f.final.uses) areas_are
      (subst (λ bytes. All (λ u. MatchOption u.stop (u.target ≡ IslandEnd) (buffer.TargetLeads label_kinds bytes (b.islands ++ (end_of b, end_of f.final) ∷ []) b.labels b.constants code.traps.items u.kind u.target)) f.final.uses) (sym o.bytes) f.leads))

  pub use_settled : All (λ u. IsSettled label_kinds (get_or f.final.words (u.offset / 4) 0) u (word_at out.bytes.items u.offset)) f.final.uses
  use_settled = subst (λ bytes. All (λ u. IsSettled label_kinds (get_or f.final.words (u.offset / 4) 0) u (word_at bytes u.offset)) f.final.uses) (sym o.bytes) f.settled

  pub word_free : (i : ℕ) → i < length f.final.words → IsFree f.final.uses (4 * i) → word_at out.bytes.items (4 * i) ≡ get_or f.final.words i 0
  word_free i h free = ap (λ bytes. word_at bytes (4 * i)) o.bytes ∙ f.free i h free

  -- ---- veneers, copies and trap words

  far_at : (place goal : ℕ) → buffer.FarAt label_kinds out.bytes.items (areas out) b.labels b.constants out.traps.items place goal → FarVeneerAt out place goal
  far_at place goal v = record { area = v.area; words = v.words; last = v.last }

  arrives : (stop goal : ℕ) → buffer.Arrives label_kinds out.bytes.items (areas out) b.labels b.constants out.traps.items stop goal → Arrives out stop goal
  arrives stop goal (inl e) = inl e
  arrives stop goal (inr v) = inr (far_at stop goal v)

  jump_at : (place goal : ℕ) → buffer.JumpAt label_kinds out.bytes.items (areas out) b.labels b.constants out.traps.items place goal → JumpWordAt out place goal
  jump_at place goal j = record { area = j.area; next = j.next; jumps = (j.word, j.goes); arrives = arrives j.next goal j.arrives }

  leads_on : (kind : LabelUse) (stop goal : ℕ) → buffer.LabelLeads label_kinds out.bytes.items (areas out) b.labels b.constants out.traps.items kind stop goal → LeadsOn out kind stop goal
  leads_on uses.Branch14 stop goal (inl e) = inl (inl e)
  leads_on uses.Branch14 stop goal (inr (v, inl far)) = inl (inr (far_at stop goal far))
  leads_on uses.Branch14 stop goal (inr (v, inr j)) = inr (jump_at stop goal j.1)
  leads_on uses.Branch19 stop goal (inl e) = inl (inl e)
  leads_on uses.Branch19 stop goal (inr (v, inl far)) = inl (inr (far_at stop goal far))
  leads_on uses.Branch19 stop goal (inr (v, inr j)) = inr (jump_at stop goal j.1)
  leads_on uses.Branch26 stop goal (inl e) = inl e
  leads_on uses.Branch26 stop goal (inr (v, inl far)) = inr (far_at stop goal far)
  leads_on uses.Branch26 stop goal (inr (v, inr j)) = absurd (j.0 refl)
  leads_on uses.Ldr19 stop goal (inl e) = e
  leads_on uses.Ldr19 stop goal (inr (v, _)) = absurd (let z : false ≡ true = v in cc)
  leads_on uses.Adr21 stop goal (inl e) = e
  leads_on uses.Adr21 stop goal (inr (v, _)) = absurd (let z : false ≡ true = v in cc)
  leads_on uses.PCRel32 stop goal (inl e) = e
  leads_on uses.PCRel32 stop goal (inr (v, _)) = absurd (let z : false ≡ true = v in cc)

  -- what the buffer says of a use that stops, by the kinds of A64
  pub target_at : (kind : LabelUse) (target : Target) (stop : ℕ) → (target ≡ IslandEnd → ⊥) → BufferLeads kind target stop → TargetAt out b.constants kind target stop
  target_at kind (Label label) stop ends h = go (get b.labels label.0) refl h
    where
      go : (g : Option ℕ) → get b.labels label.0 ≡ g → IsSomeAnd g (buffer.LabelLeads label_kinds out.bytes.items (areas out) b.labels b.constants out.traps.items kind stop) → (goal : ℕ) × Contains out.labels.items (label, goal) × LeadsOn out kind stop goal
      go None e x = absurd x
      go (Some goal) e x = (goal, subst (λ (ls : List (MachLabel × ℕ)). Contains ls (label, goal)) (sym o.labels) ((f.labels.listed label goal).1 e), leads_on kind stop goal x)
  target_at kind (Constant constant) stop ends h = go (get b.constants constant.0) h
    where
      go : (c : Option (List ℕ)) → IsSomeAnd c (λ content. (stop % length content ≡ 0) × InArea (areas out) stop (length content) × StandAt out.bytes.items stop (words_of content)) → IsSomeAnd c (λ content. CopyAt out content stop)
      go None x = x
      go (Some content) x = record { aligned = x.0; area = x.1; words = x.2 }
  target_at kind (Trap trap) stop ends h = record { area = h.0; word = h.1; recorded = h.2 }
  target_at kind IslandEnd stop ends h = absurd (ends refl)

  -- ---- the cells that were put

  -- an old use stays where and what it is
  pub old_site : (k : ℕ) (d : Use LabelUse) → k < length b.uses → site_of (get_or f.final.uses k d) ≡ site_of (get_or b.uses k d)
  old_site k d h =
      let same : IsSameUse (end_of b) (get_or b.uses k d) (get_or f.final.uses k d) = f.later.uses k d h in
      ap (λ n. (n, record { kind = (get_or f.final.uses k d).kind; target = (get_or f.final.uses k d).target })) same.offset
      ∙ ap (λ kind. ((get_or b.uses k d).offset, record { kind = kind; target = (get_or f.final.uses k d).target })) same.kind
      ∙ ap (λ target. ((get_or b.uses k d).offset, record { kind = (get_or b.uses k d).kind; target = target })) same.target

  -- the use of a cell, as the finished buffer has it
  pub record FinalUse (s : ℕ × Cell) (site : Site) : Type 0 where
    pub index : ℕ
    pub within : index < length b.uses
    pub is : site_of (get_or f.final.uses index no_use) ≡ (s.0, site)
    pub settled : IsSettled label_kinds (cell_word s.1) (get_or f.final.uses index no_use) (word_at out.bytes.items s.0)
    pub leads : MatchOption (get_or f.final.uses index no_use).stop (site.target ≡ IslandEnd) (BufferLeads site.kind site.target)

  pub final_use : (s : ℕ × Cell) → IsPut b s → (site : Site) → HasUse b.uses s.0 site → FinalUse s site
  final_use s put site r =
      let u : Use LabelUse = get_or f.final.uses r.index no_use in
      let is : site_of u ≡ (s.0, site) = old_site r.index no_use r.within ∙ r.is no_use in
      let place : u.offset ≡ s.0 = ap (λ (t : ℕ × Site). t.0) is in
      let inside : r.index < length f.final.uses = omega (arith, r.within, f.later.count) in
      let word : get_or f.final.words (s.0 / 4) 0 ≡ cell_word s.1 = f.later.words (s.0 / 4) (omega (arith, put.inside, put.aligned)) ∙ put.word in
      record {
        index = r.index;
        within = r.within;
        is = is;
        settled =
            subst (λ w. IsSettled label_kinds w (get_or f.final.uses r.index no_use) (word_at out.bytes.items s.0)) word
            (subst (λ n. IsSettled label_kinds (get_or f.final.words (n / 4) 0) (get_or f.final.uses r.index no_use) (word_at out.bytes.items n)) place (use_settled r.index no_use inside));
        leads = subst (λ (t : Site). MatchOption (get_or f.final.uses r.index no_use).stop (t.target ≡ IslandEnd) (BufferLeads t.kind t.target)) (ap (λ (t : ℕ × Site). t.1) is) (use_leads r.index no_use inside);
      }

  pub final_index : (s : ℕ × Cell) (put : IsPut b s) (site : Site) (r : HasUse b.uses s.0 site) → (final_use s put site r).index ≡ r.index
  unfolding final_use
  final_index s put site r = refl

  -- no use is made of a word that stood there before the pool and was none
  still_free : (place : ℕ) → place < end_of b → IsFree b.uses place → IsFree f.final.uses place
  still_free place inside free k d h e = elim (cases_lt k (length b.uses)) [
    | inl old ↦ free k d old (sym (f.later.uses k d old).offset ∙ e)
    | inr new ↦ (let behind = f.later.fresh k d new h in omega (arith, behind, e, inside))
  ]

  -- the word of a cell that is no use stands at its place
  pub free_stands : (s : ℕ × Cell) → IsPut b s → IsFree b.uses s.0 → word_at out.bytes.items s.0 ≡ cell_word s.1
  free_stands s put free =
      let place : 4 * (s.0 / 4) ≡ s.0 = omega (arith, put.aligned) in
      let inside : s.0 / 4 < length b.words = omega (arith, put.inside) in
      let there : IsFree f.final.uses (4 * (s.0 / 4)) = subst (IsFree f.final.uses) (sym place) (still_free s.0 (omega (arith, put.inside)) free) in
      ap (word_at out.bytes.items) (sym place) ∙ (word_free (s.0 / 4) (omega (arith, inside, f.later.end)) there ∙ (f.later.words (s.0 / 4) inside ∙ put.word))

  -- a cell's word stands at its place, but for the field of its use
  pub cell_stands : (s : ℕ × Cell) → IsPut b s → (site : Option Site) → MatchOption site (IsFree b.uses s.0) (HasUse b.uses s.0) → outside (site_mask site) (word_at out.bytes.items s.0) ≡ outside (site_mask site) (cell_word s.1)
  cell_stands s put None free = ap (outside 0) (free_stands s put free)
  cell_stands s put (Some site) r =
      let u = final_use s put site r in
      subst (λ (t : Site). outside (mask_for t.kind) (word_at out.bytes.items s.0) ≡ outside (mask_for t.kind) (cell_word s.1)) (ap (λ (t : ℕ × Site). t.1) u.is) u.settled.rest

  -- a use that stops: its word says so
  pub stops_at : (s : ℕ × Cell) (site : Site) (u : FinalUse s site) (stop : ℕ) → (get_or f.final.uses u.index no_use).stop ≡ Some stop → StopsAt out site.kind (cell_word s.1) s.0 stop
  stops_at s site u stop e =
      let v : Use LabelUse = get_or f.final.uses u.index no_use in
      let goes : GoesTo label_kinds v.kind (cell_word s.1) (word_at out.bytes.items s.0) v.offset stop =
      subst (λ (g : Option ℕ). IfSome g (λ t. GoesTo label_kinds v.kind (cell_word s.1) (word_at out.bytes.items s.0) v.offset t)) e u.settled.stops in
      subst (λ (t : ℕ × Site). GoesTo label_kinds t.1.kind (cell_word s.1) (word_at out.bytes.items s.0) t.0 stop) u.is goes

  -- a cell's use stops, and leads to its target
  pub site_leads : (s : ℕ × Cell) → IsPut b s → (site : Site) → (site.target ≡ IslandEnd → ⊥) → HasUse b.uses s.0 site → SiteLeads out b.constants s.0 (cell_word s.1) site
  site_leads s put site ends r = go (final_use s put site r)
    where
      go : FinalUse s site → SiteLeads out b.constants s.0 (cell_word s.1) site
      go u = at (get_or f.final.uses u.index no_use).stop refl u.leads
        where
          at : (g : Option ℕ) → (get_or f.final.uses u.index no_use).stop ≡ g → MatchOption g (site.target ≡ IslandEnd) (BufferLeads site.kind site.target) → SiteLeads out b.constants s.0 (cell_word s.1) site
          at None e h = absurd (ends h)
          at (Some stop) e h = (stop, stops_at s site u stop e, target_at site.kind site.target stop ends h)
