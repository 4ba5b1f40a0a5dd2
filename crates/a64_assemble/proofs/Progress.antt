-- One more element is put.
use Rattle.std.proofs.Common.{ℕ, ◌≡◌, ◌+◌, ◌<◌, ◌≤◌, ◌^◌, List, [], ◌∷◌, ◌++◌, length, take, drop, refl, ap, ◌∙◌, subst, arith, nat_cmp}
use Rattle.std.specs.FinMap.{get, empty, get-empty}
use Rattle.std.proofs.lemmas.List.{drop_more, take_all}
use Rattle.std.proofs.lemmas.List.Sums.{sum_by_more, sum_by-take-le, sum_by-take-drop, sum_by-le-sum_by}
use Rattle.std.proofs.lemmas.List.Elements.{All-same}
use Rattle.a64_buffer.specs.declared.force.ForceVeneers.{ForceVeneers}
use Rattle.a64_buffer.specs.Buffer.{Buffer, end_of}
use Rattle.a64_buffer.specs.Classes.{third, burden, owed, Fits}
use Rattle.a64_buffer.specs.Later.{IsLater}
use Rattle.a64_buffer.specs.Sound.{IsWhole}
use Rattle.a64_label_use.specs.declared.label_use.LabelUse.{LabelUse}
use Rattle.a64_label_use.specs.LabelUses.{label_kinds}
use Rattle.a64_assemble.specs.Elements.{Element, Asking, growth_in, space_in, growths_in, whole_in, room_of, element_at}
use Rattle.a64_assemble.specs.Asks.{Moves, MayMove, NeedsNone}
use Rattle.a64_assemble.specs.OpenUses.{WasAsked, UseIsQuiet}
use Rattle.a64_assemble.specs.Progress.{AreGood, AreQuiet, HasPut}
use Rattle.a64_assemble.proofs.Moving.{move_rooms, move_owed, move_later, move_extends}
use Rattle.a64_assemble.proofs.Laying.{laid_none, laid_step}
use Rattle.a64_assemble.proofs.BoundLabels.{labels_none, labels_step, unbound_yet}
use Rattle.a64_assemble.proofs.Standings.{standing_step}
use Rattle.a64_assemble.proofs.Moments.{asked_step, move_moment}
use Rattle.a64_assemble.proofs.Forcing.{forced_step}
use Rattle.a64_assemble.proofs.Quiet.{quiet_step, quiet_next, room_le}

pub growth_le_whole : (xs : List Element) → growths_in xs ≤ whole_in xs
growth_le_whole xs = sum_by-le-sum_by growth_in (λ x. growth_in x + space_in x) xs (λ x. omega arith)

pub growth_more : (xs : List Element) (k : ℕ) → k < length xs → growths_in (take (k + 1) xs) ≡ growths_in (take k xs) + growth_in (element_at xs k)
growth_more xs k within = sum_by_more growth_in xs k (Asking 0) within

pub growth_within : (xs : List Element) (k : ℕ) → growths_in (take k xs) ≤ whole_in xs
growth_within xs k = omega (arith, sum_by-take-le growth_in xs k, growth_le_whole xs)

module _ (force : ForceVeneers) (xs : List Element) (good : AreGood xs) where
  -- before the first element
  pub put_none : (b : Buffer LabelUse) → b.words ≡ [] → b.uses ≡ [] → b.labels ≡ empty → b.islands ≡ [] → HasPut force xs 0 [] b
  put_none b words uses labels islands = record {
    room = record { rooms = λ k d w. absurd (omega (arith, w, ap length uses)) };
    bounded = omega (arith, ap length words, ap (burden label_kinds third) uses);
    laid = laid_none xs b (omega (arith, ap length words)) islands;
    labels = labels_none xs b.labels (λ l. ap (λ t. get t l) labels ∙ get-empty nat_cmp l);
    cells = λ k d w. absurd (omega arith);
    asked = All-same (WasAsked force xs 0 (end_of b ∷ []) b) b.islands [] islands (λ k d w. absurd (omega arith));
    quiet = λ q. (islands, All-same (UseIsQuiet force (whole_in xs)) b.uses [] uses (λ k d w. absurd (omega arith)));
    forced = λ f i w is. absurd (omega arith);
  }

  -- what the next element needs
  pub next_may : (k : ℕ) (places : List ℕ) (b : Buffer LabelUse) → k < length xs → IsWhole label_kinds b → HasPut force xs k places b → MayMove (element_at xs k) (drop (k + 1) xs) b
  next_may k places b within whole h =
      let rest : drop k xs ≡ element_at xs k ∷ drop (k + 1) xs = drop_more xs k (Asking 0) within in
      record {
        whole = whole;
        fits = subst (λ ys. Fits label_kinds b (room_of ys)) rest h.room;
        short = omega (arith, h.bounded, growth_more xs k within, growth_within xs (k + 1), good.short);
        compact = good.compact k (Asking 0) within;
        unbound = unbound_yet xs k places b good.once within h.labels (element_at xs k) refl;
        rest_short = omega (arith, sum_by-take-drop (λ x. growth_in x + space_in x) xs (k + 1), good.short);
      }

  whole_split : (k : ℕ) → k < length xs → whole_in xs ≡ whole_in (take k xs) + (growth_in (element_at xs k) + space_in (element_at xs k)) + whole_in (drop (k + 1) xs)
  whole_split k within = omega (arith, sum_by-take-drop (λ x. growth_in x + space_in x) xs (k + 1), sum_by_more (λ x. growth_in x + space_in x) xs k (Asking 0) within)

  -- in quiet code it needs no island behind it
  pub next_quiet : (k : ℕ) (places : List ℕ) (b : Buffer LabelUse) → k < length xs → HasPut force xs k places b → AreQuiet force xs → NeedsNone force (element_at xs k) (drop (k + 1) xs) b
  next_quiet k places b within h quiet =
      quiet_next force (whole_in xs) (element_at xs k) (drop (k + 1) xs) b (quiet k (Asking 0) within) (h.quiet quiet).1
      (omega (arith, h.bounded, room_le (drop (k + 1) xs), whole_split k within, growth_le_whole (take k xs)))

  pub put_step : (k : ℕ) (places : List ℕ) (b b' : Buffer LabelUse) → k < length xs → IsWhole label_kinds b → HasPut force xs k places b → Moves force (element_at xs k) (drop (k + 1) xs) b b' → HasPut force xs (k + 1) (places ++ end_of b ∷ []) b'
  put_step k places b b' within whole h p =
      let may = next_may k places b within whole h in
      let x : Element = element_at xs k in
      let rest : List Element = drop (k + 1) xs in
      let count = h.laid.each_placed in
      let later : IsLater b b' = move_later force x rest b b' may p in
      let labels = labels_step force xs k places b b' count good.once within h.labels x rest refl p in
      record {
        room = move_rooms force x rest b b' may p;
        bounded = omega (arith, move_owed force x rest b b' p, h.bounded, growth_more xs k within);
        laid = laid_step xs k places b b' h.laid (move_extends force x rest b b' p);
        labels = labels;
        cells = standing_step force xs k places b b' count within rest (λ i d w. (whole.sound.placed i d w).inside) p later h.cells;
        asked = asked_step force xs k places b b' count within later labels (move_moment force x rest b b' p) h.asked;
        quiet = λ q.
            let was = h.quiet q in
            let z = quiet_step force (whole_in xs) x rest b b' (q k (Asking 0) within) was.1 (omega (arith, h.bounded, room_le rest, whole_split k within, growth_le_whole (take k xs))) p in
            (z.0 ∙ was.0, z.1);
        forced = λ f. forced_step force xs k places b b' count within rest f h.labels later p (h.forced f);
      }

  -- ---- behind the last element

  module _ (places : List ℕ) (b : Buffer LabelUse) (h : HasPut force xs (length xs) places b) where
    -- the code, and what it may yet get, is short
    pub bounded_all : end_of b + owed label_kinds b ≤ whole_in xs
    bounded_all = omega (arith, h.bounded, ap growths_in (take_all (length xs) xs (omega arith)), growth_le_whole xs)

    pub short_all : end_of b + owed label_kinds b < 2 ^ 31
    short_all = omega (arith, bounded_all, good.short)
