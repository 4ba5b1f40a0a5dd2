-- In finished code the uses of all cells lead to their targets, and each deferred trap has its own trap word.
use Rattle.std.proofs.Common.{ℕ, ◌≡◌, ◌+◌, ◌*◌, ◌<◌, ◌≤◌, suc, false, List, [], ◌∷◌, ◌++◌, length, get_or, map, Option, None, Some, refl, sym, ap, ◌∙◌, subst, arith, inl, inr}
use Rattle.std.specs.Prelude.{All, IfSome, MatchOption}
use Rattle.std.proofs.lemmas.Bool.{cases_lt}
use Rattle.std.proofs.lemmas.List.{length-map, get_or-map, get_or_append_left}
use Rattle.a64_inst.specs.declared.emission.EmitFlags.{EmitFlags}
use Rattle.a64_inst.specs.declared.frame.FrameLayout.{FrameLayout}
use Rattle.a64_inst.specs.declared.item.Item.{Item}
use Rattle.a64_inst.specs.declared.item.Item.TheVariants.{Bind, Emit}
use Rattle.a64_buffer.specs.declared.site.Target.{Target}
use Rattle.a64_buffer.specs.declared.site.Target.TheVariants.{Label, Constant, Trap, IslandEnd}
use Rattle.a64_buffer.specs.declared.finish.Finished.{Finished}
use Rattle.a64_buffer.specs.declared.force.ForceVeneers.{ForceVeneers}
use Rattle.a64_buffer.specs.Buffer.{Buffer, end_of, IsFree}
use Rattle.a64_buffer.specs.Sound.{IsTrap}
use Rattle.a64_buffer.specs.Finished.{IsFinished}
use Rattle.a64_emit.specs.declared.code.Code.{Code}
use Rattle.a64_buffer.proofs.OwnStops.{own_traps}
use Rattle.a64_label_use.specs.declared.label_use.LabelUse.{LabelUse}
use Rattle.a64_cells.specs.declared.site.Site.{Site}
use Rattle.a64_label_use.specs.LabelUses.{label_kinds, adds_distance}
use Rattle.a64_cells.specs.Shapes.{Cell}
use Rattle.a64_cells.specs.Cells.{cell_word, inst_cells, kept_by, cells_of, sites_of}
use Rattle.a64_emit.specs.Emission.{HasUse, IsPut}
use Rattle.a64_emit.specs.Layout.{standing}
use Rattle.a64_emit.specs.Leads.{Leads, SiteLeads, UseStops, CellStops, IsTrapUse, IsDeferred, HaveOwnTraps}
use Rattle.a64_assemble.proofs.Arrivals.{no_use, IsOutput, FinalUse, final_use, stops_at, site_leads}
use Rattle.a64_assemble.proofs.Everywhere.{standing_all}
use Rattle.a64_assemble.proofs.Rising.{standing_rising}
use Rattle.a64_emit.proofs.Sites.{found_in}
use Rattle.a64_emit.proofs.Keeping.{keep_sites}
use Rattle.a64_emit.proofs.Targets.{IsCodeTarget, IsCodeSite, inst_targets}
use Rattle.a64_assemble.proofs.FieldKinds.{one_stop}
use Rattle.a64_assemble.specs.Elements.{Asking, cells_in, elements_of, element_of, element_at}
use Rattle.a64_assemble.specs.Progress.{HasPut}
use Rattle.a64_assemble.proofs.Itemized.{cell_lists, all_cells_are}

-- ---- the uses that cells have

abbrev pub HasCodeTarget : Cell → Type 0
HasCodeTarget c = IfSome c.site IsCodeSite

cells_targets : (cells : List Cell) → All IsCodeSite (sites_of cells) → All HasCodeTarget cells
cells_targets cells all k d h = go (get_or cells k d).site refl
  where
    go : (o : Option Site) → (get_or cells k d).site ≡ o → IfSome o IsCodeSite
    go None e = tt
    go (Some site) e =
        let found = found_in (λ (cell : Cell). cell.site) cells k d site h e in
        subst IsCodeSite (found.is site) (all found.index site found.within)

module _ (frame : FrameLayout) (flags : EmitFlags) where
  item_targets : (item : Item) → All HasCodeTarget (cells_of frame flags item)
  item_targets (Bind label) = λ k d h. absurd (omega arith)
  item_targets (Emit inst kept) = cells_targets (cells_of frame flags (Emit inst kept)) (subst (All IsCodeSite) (sym (keep_sites (kept_by inst kept) (inst_cells frame flags inst))) (inst_targets frame flags inst))

  -- the uses of cells that stand are of labels, constants and deferred traps
  pub standing_targets : (items : List Item) (places : List ℕ) → All (λ s. HasCodeTarget s.1) (standing (map (cells_of frame flags) items) places)
  standing_targets items places = standing_all HasCodeTarget (cells_of frame flags) items places (λ i d h. item_targets (get_or items i d))

pub code_no_end : (t : Target) (kind : LabelUse) → IsCodeTarget t kind → t ≡ IslandEnd → ⊥
code_no_end t kind c e = subst (λ (t : Target). IsCodeTarget t kind) e c

-- a deferred trap's use replaces a field, and is not an island's end
pub trap_kind : (t : Target) (kind : LabelUse) → IsTrap t → IsCodeTarget t kind → adds_distance kind ≡ false
trap_kind (Label l) kind h c = absurd h
trap_kind (Constant n) kind h c = absurd h
trap_kind (Trap code) kind h c = ap adds_distance c
trap_kind IslandEnd kind h c = absurd h

trap_no_end : (t : Target) → IsTrap t → t ≡ IslandEnd → ⊥
trap_no_end t h e = subst IsTrap e h

-- ---- finished code

module _ (frame : FrameLayout) (flags : EmitFlags) (items : List Item) (force : ForceVeneers) (b : Buffer LabelUse) (code : Finished) (f : IsFinished label_kinds b code) (out : Code) (o : IsOutput code out) (h : HasPut force (elements_of frame flags items) (length (elements_of frame flags items)) out.places.items b) where
  abbrev cells : List (ℕ × Cell)
  cells = standing (map (cells_of frame flags) items) out.places.items

  -- each cell was put
  pub all_put : All (IsPut b) (standing (map (cells_of frame flags) items) out.places.items)
  all_put = subst (λ cs. All (IsPut b) cs) (all_cells_are frame flags items out.places.items) h.cells

  cell_leads : (s : ℕ × Cell) → IsPut b s → (site : Option Site) → IfSome site IsCodeSite → MatchOption site (IsFree b.uses s.0) (HasUse b.uses s.0) → IfSome site (SiteLeads out b.constants s.0 (cell_word s.1))
  cell_leads s put None t free = tt
  cell_leads s put (Some site) t r = site_leads b code f out o s put site (code_no_end site.target site.kind t) r

  -- the use of each cell leads to its target
  pub code_leads : Leads out b.constants (standing (map (cells_of frame flags) items) out.places.items)
  code_leads k d w =
      let s : ℕ × Cell = get_or cells k d in
      let put = all_put k d w in
      cell_leads s put s.1.site (standing_targets frame flags items out.places.items k d w) put.site

  -- ---- own trap words

  -- the use of a deferred trap, as the finished buffer has it
  record TrapUse (s : ℕ × Cell) (stop : ℕ) : Type 0 where
    index : ℕ
    within : index < length f.final.uses
    offset_is : (get_or f.final.uses index no_use).offset ≡ s.0
    trap : IsTrap (get_or f.final.uses index no_use).target
    stop_is : (get_or f.final.uses index no_use).stop ≡ Some stop

  trap_use : (s : ℕ × Cell) → IsPut b s → HasCodeTarget s.1 → IsDeferred s → (stop : ℕ) → CellStops out s stop → TrapUse s stop
  trap_use s put = go s.1.site put.site
    where
      go : (site : Option Site) → MatchOption site (IsFree b.uses s.0) (HasUse b.uses s.0) → IfSome site IsCodeSite → IsTrapUse site → (stop : ℕ) → UseStops out site (cell_word s.1) s.0 stop → TrapUse s stop
      go None r c t stop says = absurd t
      go (Some site) r c t stop says = at (final_use b code f out o s put site r)
        where
          at : FinalUse b code f out o s site → TrapUse s stop
          at u = stopped _ (get_or f.final.uses u.index no_use).stop refl u.leads
            where
              stopped : (P : ℕ → Type 0) (g : Option ℕ) → (get_or f.final.uses u.index no_use).stop ≡ g → MatchOption g (site.target ≡ IslandEnd) P → TrapUse s stop
              stopped P None e x = absurd (trap_no_end site.target t x)
              stopped P (Some there) e x = record {
                index = u.index;
                within = omega (arith, u.within, f.later.count);
                offset_is = ap (λ (p : ℕ × Site). p.0) u.is;
                trap = subst IsTrap (sym (ap (λ (p : ℕ × Site). p.1.target) u.is)) t;
                stop_is = e ∙ ap (λ n. Some n) (one_stop out site.kind (cell_word s.1) s.0 there stop (trap_kind site.target site.kind t c) (stops_at b code f out o s site u there e) says);
              }

  count_is : length (elements_of frame flags items) ≡ length items
  count_is = length-map items (element_of frame flags)

  counts : length out.places.items ≡ length (map (cells_of frame flags) items)
  counts = h.laid.each_placed ∙ (count_is ∙ sym (length-map items (cells_of frame flags)))

  -- each item stands at the end of the one before it, or behind that
  behind : (i : ℕ) → i < length (map (cells_of frame flags) items) → get_or out.places.items i 0 + 4 * length (get_or (map (cells_of frame flags) items) i []) ≤ get_or (out.places.items ++ end_of b ∷ []) (suc i) 0
  behind i lt =
      let within : i < length (elements_of frame flags items) = omega (arith, lt, length-map items (cells_of frame flags), count_is) in
      let same_cells : get_or (map (cells_of frame flags) items) i [] ≡ cells_in (element_at (elements_of frame flags items) i) = ap (λ css. get_or css i []) (sym (cell_lists frame flags items)) ∙ get_or-map cells_in (elements_of frame flags items) i (Asking 0) [] within in
      let start : get_or (out.places.items ++ end_of b ∷ []) i 0 ≡ get_or out.places.items i 0 = get_or_append_left out.places.items (end_of b ∷ []) 0 i (omega (arith, lt, counts)) in
      let e : i + 1 ≡ suc i = omega arith in
      let same = ap (λ n. get_or (out.places.items ++ end_of b ∷ []) n 0) e in
      elim (h.laid.next i within) [
        | inl flat ↦ omega (arith, flat, same, start, ap length same_cells)
        | inr island ↦ (let begins = island.1.begins in let long = island.1.long in omega (arith, begins, long, same, start, ap length same_cells))
      ]

  -- no two deferred traps stop at one place
  pub code_own_traps : HaveOwnTraps out (standing (map (cells_of frame flags) items) out.places.items)
  code_own_traps j k d lt within ds dt stop cs ct =
      let first : j < length cells = omega (arith, lt, within) in
      let targets = standing_targets frame flags items out.places.items in
      let u = trap_use (get_or cells j d) (all_put j d first) (targets j d first) ds stop cs in
      let v = trap_use (get_or cells k d) (all_put k d within) (targets k d within) dt stop ct in
      let less = standing_rising (map (cells_of frame flags) items) out.places.items (end_of b) counts behind j k d lt within in
      elim (cases_lt u.index v.index) [
        | inl below ↦ own_traps b.labels f.final.uses f.own_stops u.index v.index stop no_use below v.within u.trap v.trap u.stop_is v.stop_is
        | inr above ↦ elim (cases_lt v.index u.index) [
          | inl below ↦ own_traps b.labels f.final.uses f.own_stops v.index u.index stop no_use below u.within v.trap u.trap v.stop_is u.stop_is
          | inr same ↦ (
              let e : u.index ≡ v.index = omega (arith, above, same) in
              let offsets = ap (λ n. (get_or f.final.uses n no_use).offset) e in
              absurd (omega (arith, less, u.offset_is, v.offset_is, offsets))
              )
        ]
      ]
