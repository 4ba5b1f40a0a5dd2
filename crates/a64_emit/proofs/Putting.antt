-- Where the uses of cells stand that are put at the end of a buffer, and what they leave room for.
use Rattle.std.proofs.Common.{ℕ, ◌≡◌, ◌+◌, ◌-◌, ◌*◌, ◌<◌, ◌≤◌, true, List, [], ◌∷◌, ◌++◌, length, get_or, map, Option, None, Some, refl, sym, ap, ◌∙◌, subst, arith, nat_cmp}
use Rattle.std.specs.Prelude.{All}
use Rattle.std.specs.FinMap.{FinMap}
use Rattle.std.proofs.lemmas.List.{get_or-map, length-map, map-append}
use Rattle.std.proofs.lemmas.List.Elements.{All-append}
use Rattle.a64_buffer.specs.declared.site.Use.{Use}
use Rattle.a64_buffer.specs.Buffer.{Buffer, end_of}
use Rattle.a64_buffer.specs.Classes.{Level, wants, cost, level_of, class, range_of, is_open, burden, Fits}
use Rattle.a64_buffer.specs.Sound.{IsWhole}
use Rattle.a64_buffer.proofs.Costs.{weight-append, burden_third}
use Rattle.a64_buffer.proofs.Rooms.{open_wants, less_room, end_room}
use Rattle.a64_label_use.specs.declared.label_use.LabelUse.{LabelUse}
use Rattle.a64_label_use.specs.LabelUses.{label_kinds}
use Rattle.a64_label_use.specs.LabelLaws.{label_kinds_lawful}
use Rattle.a64_cells.specs.declared.site.Site.{Site}
use Rattle.a64_cells.specs.Shapes.{Cell, Data, no_marks}
use Rattle.a64_cells.specs.Cells.{sites_of}
use Rattle.a64_emit.specs.Bounds.{ranges_in, size_of}
use Rattle.a64_emit.specs.Contents.{site_class}
use Rattle.a64_emit.specs.Emission.{use_at, uses_from, site_of, CellsFit}
use Rattle.a64_emit.specs.Rooms.{AreCompact}
use Rattle.a64_emit.proofs.Burdens.{new_burden}
use Rattle.a64_emit.proofs.Sites.{sites_from, ComesFrom, comes_from, found_in}

pub no_cell : Cell
no_cell = record { body = Data 0; site = None; marks = no_marks }

pub sites_of_uses : (labels : FinMap nat_cmp ℕ) (place : ℕ) (cells : List Cell) → map site_of (uses_from labels place cells) ≡ sites_from place cells
sites_of_uses labels place [] = refl
sites_of_uses labels place (c ∷ cs) =
    map-append site_of (use_at labels place c.site) (uses_from labels (place + 4) cs)
    ∙ ap (λ us. map site_of (use_at labels place c.site) ++ us) (sites_of_uses labels (place + 4) cs)
    ∙ ap (λ us. us ++ sites_from (place + 4) cs) (one c.site)
  where
    one : (site : Option Site) → map site_of (use_at labels place site) ≡ elim site [ None ↦ [] | Some s ↦ (place, s) ∷ [] ]
    one None = refl
    one (Some s) = refl

module _ (b : Buffer LabelUse) (cells : List Cell) where
  -- a use that is made comes from a cell
  pub made_from : (k : ℕ) (d : Use LabelUse) → k < length (uses_from b.labels (end_of b) cells) → ComesFrom (end_of b) cells (site_of (get_or (uses_from b.labels (end_of b) cells) k d))
  made_from k d within =
      let all = sites_of_uses b.labels (end_of b) cells in
      let is : site_of (get_or (uses_from b.labels (end_of b) cells) k d) ≡ get_or (sites_from (end_of b) cells) k (site_of d) =
      sym (get_or-map site_of (uses_from b.labels (end_of b) cells) k d (site_of d) within) ∙ ap (λ (ss : List (ℕ × Site)). get_or ss k (site_of d)) all in
      subst (ComesFrom (end_of b) cells) (sym is)
      (comes_from (end_of b) cells k (site_of d) (omega (arith, within, length-map (uses_from b.labels (end_of b) cells) site_of, ap length all)))

module _ (b : Buffer LabelUse) (cells : List Cell) where
  -- the new uses stand behind the end, in the cells
  pub made_low : All (λ u. end_of b ≤ u.offset) (uses_from b.labels (end_of b) cells)
  made_low k d w = let from = made_from b cells k d w in omega (arith, from.place_is)

  pub made_high : All (λ u. u.offset < end_of b + 4 * length cells) (uses_from b.labels (end_of b) cells)
  made_high k d w = let from = made_from b cells k d w in omega (arith, from.place_is, from.within)

  -- and each of them is that of a site of the cells
  pub made_site : (P : Site → Type 0) → All P (sites_of cells) → All (λ u. P (site_of u).1) (uses_from b.labels (end_of b) cells)
  made_site P all k d w =
      let from = made_from b cells k d w in
      let found = found_in (λ (cell : Cell). cell.site) cells from.index no_cell (site_of (get_or (uses_from b.labels (end_of b) cells) k d)).1 from.within (from.site_is no_cell) in
      subst P (found.is (site_of (get_or (uses_from b.labels (end_of b) cells) k d)).1) (all found.index (site_of (get_or (uses_from b.labels (end_of b) cells) k d)).1 found.within)

  -- what all open uses may want, with those of the cells
  pub put_burden : (l : Level) → burden label_kinds l (b.uses ++ uses_from b.labels (end_of b) cells) ≤ burden label_kinds l b.uses + 28 * length (ranges_in cells)
  put_burden l = omega (arith, weight-append label_kinds (cost l) b.uses (uses_from b.labels (end_of b) cells), burden_third label_kinds l (uses_from b.labels (end_of b) cells), new_burden b.labels (end_of b) cells)

  -- where their size and 28 for each use of them that may want something of an island fit, cells fit with their uses counted
  pub put_room : IsWhole label_kinds b → AreCompact cells → 1 ≤ length cells → Fits label_kinds b (size_of cells + 28 * length (ranges_in cells)) → CellsFit b cells
  put_room whole compact some h = record {
    rooms = All-append (λ (u : Use LabelUse). is_open label_kinds u ≡ true → end_of b + 4 * length cells + 4 + burden label_kinds (level_of (class label_kinds u)) (b.uses ++ uses_from b.labels (end_of b) cells) ≤ u.offset + range_of label_kinds (level_of (class label_kinds u))) b.uses (uses_from b.labels (end_of b) cells)
        (λ k d w o. let x = h.rooms k d w o in omega (arith, x, put_burden (level_of (class label_kinds (get_or b.uses k d)))))
        (λ k d w o.
        let l : Level = level_of (class label_kinds (get_or (uses_from b.labels (end_of b) cells) k d)) in
        let own = made_site (λ s. wants (site_class s) ≡ true → size_of cells + 28 * length (ranges_in cells) + 4 ≤ range_of label_kinds (level_of (site_class s))) compact k d w (open_wants label_kinds (get_or (uses_from b.labels (end_of b) cells) k d) o) in
        let less = less_room label_kinds label_kinds_lawful (end_of b) b.uses (size_of cells + 28 * length (ranges_in cells)) (size_of cells + 28 * length (ranges_in cells) - 4) (omega arith) h in
        let x = end_room label_kinds label_kinds_lawful (end_of b) b.uses (size_of cells + 28 * length (ranges_in cells) - 4) l d (omega arith) whole.sound.placed less (omega (arith, own, some)) in
        omega (arith, made_low k d w, x, put_burden l, some));
  }
