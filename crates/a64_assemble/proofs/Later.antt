-- What stays in a buffer that grows.
use Rattle.std.proofs.Common.{ℕ, ◌≡◌, ◌+◌, ◌-◌, ◌*◌, ◌/◌, ◌<◌, ◌≤◌, List, length, get_or, map, Option, None, Some, refl, sym, ap, ◌∙◌, subst, arith, inl, inr}
use Rattle.std.specs.Prelude.{All, MatchOption}
use Rattle.std.proofs.lemmas.Bool.{cases_lt}
use Rattle.std.proofs.lemmas.List.{get_or_append_left, get_or-append_right, get_or-map, length-append, length-map}
use Rattle.a64_base.specs.declared.entity.MachLabel.{MachLabel}
use Rattle.a64_buffer.specs.declared.site.Use.{Use}
use Rattle.a64_buffer.specs.Buffer.{Buffer, end_of, closed_at, IsFree}
use Rattle.a64_label_use.specs.declared.label_use.LabelUse.{LabelUse}
use Rattle.a64_cells.specs.declared.site.Site.{Site}
use Rattle.a64_label_use.specs.LabelUses.{label_kinds}
use Rattle.a64_cells.specs.Shapes.{Cell}
use Rattle.a64_cells.specs.Cells.{cell_word}
use Rattle.a64_emit.specs.Emission.{uses_from, appended, site_of, HasUse, IsPut, Binds}
use Rattle.a64_emit.specs.Layout.{placed}
use Rattle.a64_emit.proofs.Putting.{sites_of_uses, made_from}
use Rattle.a64_emit.proofs.Sites.{ComesFrom, has_site, length-placed, placed_at}

-- a buffer has grown: its words stay, its uses stay where and what they are, and new ones stand
-- behind its old end
pub record IsLater (b b' : Buffer LabelUse) : Type 0 where
  pub words_more : length b.words ≤ length b'.words
  pub words_kept : (i : ℕ) → i < length b.words → get_or b'.words i 0 ≡ get_or b.words i 0
  pub uses_more : length b.uses ≤ length b'.uses
  pub uses_kept : (k : ℕ) (d : Use LabelUse) → k < length b.uses → site_of (get_or b'.uses k d) ≡ site_of (get_or b.uses k d)
  pub uses_behind : (k : ℕ) (d : Use LabelUse) → length b.uses ≤ k → k < length b'.uses → end_of b ≤ (get_or b'.uses k d).offset

-- what was put stays
pub put_later : (b b' : Buffer LabelUse) → IsLater b b' → (s : ℕ × Cell) → IsPut b s → IsPut b' s
put_later b b' l s h = record {
  aligned = h.aligned;
  inside = omega (arith, h.inside, l.words_more);
  word = l.words_kept (s.0 / 4) (omega (arith, h.inside, h.aligned)) ∙ h.word;
  site = go s.1.site h.site;
}
  where
    free : IsFree b.uses s.0 → IsFree b'.uses s.0
    free f k d within same = elim (cases_lt k (length b.uses)) [
      | inl lt ↦ f k d lt (sym (ap (λ (t : ℕ × Site). t.0) (l.uses_kept k d lt)) ∙ same)
      | inr ge ↦ absurd (let behind = l.uses_behind k d ge within in omega (arith, behind, same, h.inside))
    ]

    go : (o : Option Site) → MatchOption o (IsFree b.uses s.0) (HasUse b.uses s.0) → MatchOption o (IsFree b'.uses s.0) (HasUse b'.uses s.0)
    go None f = free f
    go (Some site) r = record { index = r.index; within = omega (arith, r.within, l.uses_more); is = λ d. l.uses_kept r.index d r.within ∙ r.is d }

-- ---- cells at the end

module _ (b : Buffer LabelUse) (cells : List Cell) where
  -- a new use of the buffer comes from a cell
  pub new_from : (k : ℕ) (d : Use LabelUse) → length b.uses ≤ k → k < length (appended b cells).uses → ComesFrom (end_of b) cells (site_of (get_or (appended b cells).uses k d))
  new_from k d ge within =
      let there : get_or (appended b cells).uses k d ≡ get_or (uses_from b.labels (end_of b) cells) (k - length b.uses) d = get_or-append_right b.uses (uses_from b.labels (end_of b) cells) (length b.uses) k d refl ge in
      subst (λ u. ComesFrom (end_of b) cells (site_of u)) (sym there)
      (made_from b cells (k - length b.uses) d (omega (arith, ge, within, length-append b.uses (uses_from b.labels (end_of b) cells))))

  pub append_later : IsLater b (appended b cells)
  append_later = record {
    words_more = omega (arith, length-append b.words (map cell_word cells));
    words_kept = λ i lt. get_or_append_left b.words (map cell_word cells) 0 i lt;
    uses_more = omega (arith, length-append b.uses (uses_from b.labels (end_of b) cells));
    uses_kept = λ k d lt. ap site_of (get_or_append_left b.uses (uses_from b.labels (end_of b) cells) d k lt);
    uses_behind = λ k d ge within. let from = new_from k d ge within in omega (arith, from.place_is);
  }

  pub longer : end_of (appended b cells) ≡ end_of b + 4 * length cells
  longer = omega (arith, length-append b.words (map cell_word cells), length-map cells cell_word)

  -- each of the cells stands there, where the uses before stand before them
  module _ (before : All (λ u. u.offset < end_of b) b.uses) where
    new_free : (k : ℕ) (d : Cell) → k < length cells → (get_or cells k d).site ≡ None → IsFree (appended b cells).uses (end_of b + 4 * k)
    new_free k d lt none j e within same = elim (cases_lt j (length b.uses)) [
      | inl old ↦
          let here = ap (λ u. u.offset) (get_or_append_left b.uses (uses_from b.labels (end_of b) cells) e j old) in
          absurd (omega (arith, before j e old, here, same))
      | inr new ↦
          let from = new_from j e new within in
          let index : from.index ≡ k = omega (arith, from.place_is, same) in
          absurd (none_some (sym none ∙ ap (λ n. (get_or cells n d).site) (sym index) ∙ from.site_is d))
    ]
      where
        none_some : {s : Site} → None ≡ Some s → ⊥
        none_some q = cc

    new_use : (k : ℕ) (d : Cell) (site : Site) → k < length cells → (get_or cells k d).site ≡ Some site → HasUse (appended b cells).uses (end_of b + 4 * k) site
    new_use k d site lt some =
        let r = has_site (end_of b) cells k d site lt some in
        let all = sites_of_uses b.labels (end_of b) cells in
        let inside : r.index < length (uses_from b.labels (end_of b) cells) = omega (arith, r.within, length-map (uses_from b.labels (end_of b) cells) site_of, ap length all) in
        let back : length b.uses + r.index - length b.uses ≡ r.index = omega arith in
        record {
          index = length b.uses + r.index;
          within = omega (arith, inside, length-append b.uses (uses_from b.labels (end_of b) cells));
          is = λ e.
              ap site_of (get_or-append_right b.uses (uses_from b.labels (end_of b) cells) (length b.uses) (length b.uses + r.index) e refl (omega arith) ∙ ap (λ n. get_or (uses_from b.labels (end_of b) cells) n e) back)
              ∙ sym (get_or-map site_of (uses_from b.labels (end_of b) cells) r.index e (site_of e) inside) ∙ ap (λ (ss : List (ℕ × Site)). get_or ss r.index (site_of e)) all ∙ r.is (site_of e);
        }

    new_put : (k : ℕ) (d : Cell) → k < length cells → IsPut (appended b cells) (end_of b + 4 * k, get_or cells k d)
    new_put k d lt = record {
      aligned = omega arith;
      inside = omega (arith, longer, lt);
      word =
          let index : (end_of b + 4 * k) / 4 ≡ length b.words + k = omega arith in
          let back : length b.words + k - length b.words ≡ k = omega arith in
          ap (λ n. get_or (appended b cells).words n 0) index
          ∙ get_or-append_right b.words (map cell_word cells) (length b.words) (length b.words + k) 0 refl (omega arith)
          ∙ ap (λ n. get_or (map cell_word cells) n 0) back ∙ get_or-map cell_word cells k d 0 lt;
      site = go (get_or cells k d).site refl;
    }
      where
        go : (o : Option Site) → (get_or cells k d).site ≡ o → MatchOption o (IsFree (appended b cells).uses (end_of b + 4 * k)) (HasUse (appended b cells).uses (end_of b + 4 * k))
        go None e = new_free k d lt e
        go (Some site) e = new_use k d site lt e

    pub all_put : All (IsPut (appended b cells)) (placed (end_of b) cells)
    all_put k d within =
        let lt : k < length cells = omega (arith, within, length-placed (end_of b) cells) in
        subst (IsPut (appended b cells)) (sym (placed_at (end_of b) cells k d lt)) (new_put k d.1 lt)

-- ---- a label at the end

pub bind_later : (label : MachLabel) (b b' : Buffer LabelUse) → Binds label b b' → IsLater b b'
bind_later label b b' e =
    let words : b'.words ≡ b.words = ap (λ (c : Buffer LabelUse). c.words) e in
    let uses : b'.uses ≡ map (closed_at label_kinds label.0 (end_of b)) b.uses = ap (λ (c : Buffer LabelUse). c.uses) e in
    let same : length b'.uses ≡ length b.uses = ap length uses ∙ length-map b.uses (closed_at label_kinds label.0 (end_of b)) in
    record {
      words_more = omega (arith, ap length words);
      words_kept = λ i lt. ap (λ (ws : List ℕ). get_or ws i 0) words;
      uses_more = omega (arith, same);
      uses_kept = λ k d lt. ap (λ (us : List (Use LabelUse)). site_of (get_or us k d)) uses ∙ ap site_of (get_or-map (closed_at label_kinds label.0 (end_of b)) b.uses k d d lt);
      uses_behind = λ k d ge within. absurd (omega (arith, ge, within, same));
    }
