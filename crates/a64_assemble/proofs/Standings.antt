-- The cells of elements stay where they were put, also behind islands.
use Rattle.std.proofs.Common.{ℕ, ◌≡◌, ◌+◌, ◌<◌, List, [], ◌∷◌, ◌++◌, length, get_or, map, take, sym, ap, ◌∙◌, subst, arith, Bool}
use Rattle.std.specs.Prelude.{All}
use Rattle.std.proofs.lemmas.List.{take_more, length-map, length-take-le, map-append}
use Rattle.std.proofs.lemmas.List.Elements.{All-append}
use Rattle.a64_buffer.specs.declared.force.ForceVeneers.{ForceVeneers}
use Rattle.a64_buffer.specs.Buffer.{Buffer, end_of}
use Rattle.a64_buffer.specs.Later as buffers
use Rattle.a64_label_use.specs.declared.label_use.LabelUse.{LabelUse}
use Rattle.a64_cells.specs.Shapes.{Cell}
use Rattle.a64_emit.specs.Layout.{placed, standing}
use Rattle.a64_emit.specs.Emission.{appended, IsPut}
use Rattle.a64_assemble.specs.Elements.{Element, Binding, Words, Asking, cells_in, next_room, element_at}
use Rattle.a64_assemble.specs.Asks.{PutsWords, Moves}
use Rattle.a64_assemble.proofs.Later.{IsLater, put_later, all_put}
use Rattle.a64_assemble.proofs.Moving.{next_later}
use Rattle.a64_emit.proofs.Sites.{standing-push}

-- the uses of a buffer that only grew are those that they were
pub still : (b b' : Buffer LabelUse) → buffers.IsLater b b' → IsLater b b'
still b b' l = record {
  words_more = let e = l.end in omega arith;
  words_kept = l.words;
  uses_more = l.count;
  uses_kept = λ k d lt. let same = l.uses k d lt in ap (λ o. (o, record { kind = (get_or b'.uses k d).kind; target = (get_or b'.uses k d).target })) same.offset ∙ ap (λ q. ((get_or b.uses k d).offset, record { kind = q; target = (get_or b'.uses k d).target })) same.kind ∙ ap (λ t. ((get_or b.uses k d).offset, record { kind = (get_or b.uses k d).kind; target = t })) same.target;
  uses_behind = l.fresh;
}

module _ (force : ForceVeneers) where
  -- an element's own cells stand from the end on
  words_stand : (goes_on : Bool) (cells : List Cell) (rest : List Element) (b b' : Buffer LabelUse) → All (λ u. u.offset < end_of b) b.uses → PutsWords force goes_on cells rest b b' → All (IsPut b') (placed (end_of b) cells)
  words_stand goes_on [] rest b b' before p = λ k d w. absurd (omega arith)
  words_stand goes_on (c ∷ cs) rest b b' before p = λ k d w. put_later (appended b (c ∷ cs)) b' (still (appended b (c ∷ cs)) b' (next_later force goes_on (next_room rest) (appended b (c ∷ cs)) b' p)) (get_or (placed (end_of b) (c ∷ cs)) k d) (all_put b (c ∷ cs) before k d w)

  own_stand : (x : Element) (rest : List Element) (b b' : Buffer LabelUse) → All (λ u. u.offset < end_of b) b.uses → Moves force x rest b b' → All (IsPut b') (placed (end_of b) (cells_in x))
  own_stand (Binding label) rest b b' before p = λ k d w. absurd (omega arith)
  own_stand (Words goes_on cells) rest b b' before p = words_stand goes_on cells rest b b' before p
  own_stand (Asking space) rest b b' before p = λ k d w. absurd (omega arith)

  module _ (xs : List Element) (k : ℕ) (places : List ℕ) (b b' : Buffer LabelUse) (count : length places ≡ k) (within : k < length xs) where
    pub standing_step : (rest : List Element) → All (λ u. u.offset < end_of b) b.uses → Moves force (element_at xs k) rest b b' → buffers.IsLater b b' → All (IsPut b) (standing (map cells_in (take k xs)) places) → All (IsPut b') (standing (map cells_in (take (k + 1) xs)) (places ++ end_of b ∷ []))
    standing_step rest before p later h =
        let lists : map cells_in (take (k + 1) xs) ≡ map cells_in (take k xs) ++ cells_in (element_at xs k) ∷ [] = ap (map cells_in) (take_more xs k (Asking 0) within) ∙ map-append cells_in (take k xs) (element_at xs k ∷ []) in
        let long : length places ≡ length (map cells_in (take k xs)) = omega (arith, count, length-map (take k xs) cells_in, length-take-le k xs (omega arith)) in
        subst (All (IsPut b')) (sym (ap (λ css. standing css (places ++ end_of b ∷ [])) lists ∙ standing-push (map cells_in (take k xs)) (cells_in (element_at xs k)) places (end_of b) long))
        (All-append (IsPut b') (standing (map cells_in (take k xs)) places) (placed (end_of b) (cells_in (element_at xs k)))
        (λ i d w. put_later b b' (still b b' later) (get_or (standing (map cells_in (take k xs)) places) i d) (h i d w))
        (own_stand (element_at xs k) rest b b' before p))
