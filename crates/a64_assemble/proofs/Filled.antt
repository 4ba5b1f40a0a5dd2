-- What stands in islands and in the pool: the pieces that the buffer tells, as finished words.
use Rattle.std.proofs.Common.{ℕ, pos, ◌+ℤ◌, ◌≡◌, ◌≢◌, ◌+◌, ◌*◌, ◌<◌, suc, zero, List, [], ◌∷◌, ◌++◌, length, get_or, map, Option, None, Some, refl, sym, ap, ◌∙◌, subst, arith}
use Rattle.std.specs.Prelude.{All, replicate}
use Rattle.std.specs.List.{flat_map}
use Rattle.std.specs.Option.{unwrap_or}
use Rattle.std.specs.Ordering.{nat_cmp}
use Rattle.std.specs.FinMap.{FinMap, get}
use Rattle.std.proofs.lemmas.List.{length-append, get_or_append_left, length-replicate}
use Rattle.std.proofs.lemmas.List.Concat.{flat_map-cons}
use Rattle.a64_buffer.specs.declared.site.Use.{Use}
use Rattle.a64_buffer.specs.declared.site.Target.{Target}
use Rattle.a64_buffer.specs.declared.site.Target.TheVariants.{Label, Constant, Trap, IslandEnd}
use Rattle.a64_buffer.specs.declared.class.Class.{Class}
use Rattle.a64_buffer.specs.declared.class.Class.TheVariants.{Near, Middle, Load, Trapping, Far, Direct}
use Rattle.a64_words.specs.Word.{outside, word_at, words_of, StandAt}
use Rattle.a64_buffer.specs.Classes.{class}
use Rattle.a64_buffer.specs.Held as held
use Rattle.a64_buffer.specs.Held.{StandsAs}
use Rattle.a64_buffer.specs.Pieces as pieces
use Rattle.a64_emit.specs.declared.code.Code.{Code}
use Rattle.a64_label_use.specs.declared.label_use.LabelUse.{LabelUse}
use Rattle.a64_label_use.specs.declared.label_use.LabelUse.TheVariants as uses
use Rattle.a64_label_use.specs.LabelUses.{label_kinds, mask_for, distance_in}
use Rattle.a64_emit.specs.Emission.{site_of}
use Rattle.a64_emit.specs.Contents.{piece_size, StandsFor, Fills}

-- a use, as pieces tell it
abbrev Told : Type 0
Told = ℕ × Target × LabelUse

-- words that stand one by one stand together
stand_from : (bytes : List ℕ) (place : ℕ) (words : List ℕ) → ((i : ℕ) → i < length words → word_at bytes (place + 4 * i) ≡ get_or words i 0) → StandAt bytes place words
stand_from bytes place [] all = tt
stand_from bytes place (w ∷ ws) all =
    let start : place + 4 * 0 ≡ place = omega arith in (
      ap (word_at bytes) (sym start) ∙ all 0 (omega arith),
      stand_from bytes (place + 4) ws (λ i h. let e : place + 4 + 4 * i ≡ place + 4 * suc i = omega arith in ap (word_at bytes) e ∙ all (suc i) (omega (arith, h))),
    )

module _ (constants : FinMap nat_cmp (List ℕ)) (sized : (number : ℕ) (content : List ℕ) → get constants number ≡ Some content → 4 * length (words_of content) ≡ length content) (out : Code) where
  -- the words that a use of a class gets stand from a place on
  abbrev StandsIn : Class → Target → ℕ → Type 0
  StandsIn c t place =
      (i : ℕ) → i < length (pieces.words_for label_kinds constants c t place)
      → StandsAs label_kinds out.bytes.items (pieces.sites_for label_kinds c t place) (place + 4 * i) (get_or (pieces.words_for label_kinds constants c t place) i 0)

  -- a jump word is finished but for its distance
  jump_here : (t : Target) (place : ℕ) → StandsAs label_kinds out.bytes.items ((place, t, uses.Branch26) ∷ []) (place + 4 * 0) 0x14000000 → outside (mask_for uses.Branch26) (word_at out.bytes.items place) ≡ 0x14000000
  jump_here t place s =
      let start : place ≡ place + 4 * 0 = omega arith in
      ap (λ n. outside (mask_for uses.Branch26) (word_at out.bytes.items n)) start ∙ s.used 0 (place, t, uses.Branch26) (omega arith) start

  -- what stands there, by what the use waits for
  stands_for : (c : Class) (t : Target) (place : ℕ) → (c ≡ Direct → ⊥) → StandsIn c t place → StandsFor constants out c t place
  stands_for Near t place w s = jump_here t place (s 0 (omega arith))
  stands_for Middle t place w s = jump_here t place (s 0 (omega arith))
  stands_for Load t place w s = stand_from out.bytes.items place (pieces.copy_words (pieces.content_of constants t) place) (λ i h. (s i h).free (λ k d l. absurd (omega (arith, l))))
  stands_for Trapping t place w s =
      let start : place ≡ place + 4 * 0 = omega arith in
      ap (word_at out.bytes.items) start ∙ (s 0 (omega arith)).free (λ k d l. absurd (omega (arith, l)))
  stands_for Far t place w s =
      stand_from out.bytes.items place (0x98000090 ∷ 0x10000071 ∷ 0x8b110210 ∷ 0xd61f0200 ∷ [])
      (λ i h. (s i (omega (arith, h))).free (last_apart i h) ∙ get_or_append_left (0x98000090 ∷ 0x10000071 ∷ 0x8b110210 ∷ 0xd61f0200 ∷ []) (0 ∷ []) 0 i h)
    where
      last_apart : (i : ℕ) → i < 4 → All (λ (t : Told). t.0 ≢ place + 4 * i) ((place + 16, t, uses.PCRel32) ∷ [])
      last_apart i h zero d l same = omega (arith, same, h)
      last_apart i h (suc k) d l same = absurd (omega (arith, l))
  stands_for Direct t place w s = absurd (w refl)

  -- its size, as it is told here and in the buffer
  size_is : (c : Class) (t : Target) (place : ℕ) → 4 * length (pieces.words_for label_kinds constants c t place) ≡ piece_size constants c t place
  size_is c t place = go c
    where
      copy_long : (content : List ℕ) → 4 * length (words_of content) ≡ length content → 4 * length (pieces.copy_words content place) ≡ 4 * pieces.padding place (length content) + length content
      copy_long content e = omega (arith, e, length-append (replicate (pieces.padding place (length content)) 0) (words_of content), length-replicate {A = ℕ} (pieces.padding place (length content)) 0)

      known : (o : Option (List ℕ)) → ((content : List ℕ) → o ≡ Some content → 4 * length (words_of content) ≡ length content) → 4 * length (words_of (unwrap_or o [])) ≡ length (unwrap_or o [])
      known None h = refl
      known (Some content) h = h content refl

      content_long : (t : Target) → 4 * length (words_of (pieces.content_of constants t)) ≡ length (pieces.content_of constants t)
      content_long (Label label) = refl
      content_long (Constant constant) = known (get constants constant.0) (sized constant.0)
      content_long (Trap code) = refl
      content_long IslandEnd = refl

      go : (c : Class) → 4 * length (pieces.words_for label_kinds constants c t place) ≡ piece_size constants c t place
      go Near = refl
      go Middle = refl
      go Load = copy_long (pieces.content_of constants t) (content_long t)
      go Trapping = refl
      go Far = refl
      go Direct = refl

  abbrev all_words : ℕ → List (Use LabelUse) → List ℕ
  all_words place us = flat_map (pieces.piece_words label_kinds constants) (pieces.pieces label_kinds constants place us)

  -- the pieces of uses that stop at them fill what is between two places
  pub fills : (place : ℕ) (us : List (Use LabelUse)) → All (held.HasPiece label_kinds out.bytes.items constants) (pieces.pieces label_kinds constants place us) → All (λ u. class label_kinds u ≡ Direct → ⊥) us
      → All (λ u. (stop : ℕ) → u.stop ≡ Some stop → pos u.offset +ℤ distance_in u.kind (word_at out.bytes.items u.offset) ≡ pos stop) us
      → All (pieces.StopsAtPiece label_kinds constants) (pieces.pieces label_kinds constants place us)
      → (to : ℕ) → place + 4 * length (all_words place us) ≡ to
      → Fills constants out place (map site_of us) to
  fills place [] stand wait settled stops to e = omega (arith, e)
  fills place (u ∷ us) stand wait settled stops to e =
      let words : List ℕ = pieces.words_for label_kinds constants (class label_kinds u) u.target place in
      let next : ℕ = place + 4 * length words in
      let next_is : place + 4 * length (pieces.words_for label_kinds constants (class label_kinds u) u.target place) ≡ place + piece_size constants (class label_kinds u) u.target place = ap (λ n. place + n) (size_is (class label_kinds u) u.target place) in
      let split : all_words place (u ∷ us) ≡ pieces.words_for label_kinds constants (class label_kinds u) u.target place ++ all_words (place + 4 * length (pieces.words_for label_kinds constants (class label_kinds u) u.target place)) us = flat_map-cons (pieces.piece_words label_kinds constants) (place, u) (pieces.pieces label_kinds constants next us) in (
        record {
          stands = stands_for (class label_kinds u) u.target place (wait 0 u (omega arith)) (stand 0 (place, u) (omega arith));
          stops = settled 0 u (omega arith) (pieces.stop_for label_kinds constants (class label_kinds u) u.target place) (stops 0 (place, u) (omega arith));
        },
        subst (λ n. Fills constants out n (map site_of us) to) next_is
            (fills (place + 4 * length (pieces.words_for label_kinds constants (class label_kinds u) u.target place)) us
            (λ k d h. stand (suc k) d (omega (arith, h)))
            (λ k d h. wait (suc k) d (omega (arith, h)))
            (λ k d h. settled (suc k) d (omega (arith, h)))
            (λ k d h. stops (suc k) d (omega (arith, h)))
            to (omega (arith, e, ap length split, length-append words (all_words next us)))),
      )
