-- The traps of the pieces that a buffer wrote for some uses.
use Rattle.std.proofs.Common.{ℕ, ◌≡◌, ◌+◌, ◌*◌, List, [], ◌∷◌, ◌++◌, length, Some, refl, sym, ap, subst, arith}
use Rattle.std.specs.List.{flat_map}
use Rattle.std.proofs.lemmas.List.{length-append}
use Rattle.std.proofs.lemmas.List.Concat.{flat_map-cons}
use Rattle.a64_base.specs.declared.entity.TrapCode.{TrapCode}
use Rattle.a64_buffer.specs.declared.site.Use.{Use}
use Rattle.a64_buffer.specs.declared.site.Target.{Target}
use Rattle.a64_buffer.specs.declared.site.Target.TheVariants.{Label, Constant, Trap, IslandEnd}
use Rattle.a64_buffer.specs.Buffer.{Buffer}
use Rattle.a64_buffer.specs.Classes.{class, class_of}
use Rattle.a64_buffer.specs.Pieces as pieces
use Rattle.a64_label_use.specs.declared.label_use.LabelUse.{LabelUse}
use Rattle.a64_label_use.specs.LabelUses.{label_kinds}
use Rattle.a64_assemble.proofs.Marked.{AreBetween, one_more}

module _ (b : Buffer LabelUse) where
  -- the traps of pieces are by place
  pub piece_traps_between : (place : ℕ) (us : List (Use LabelUse)) → AreBetween place (place + 4 * length (flat_map (pieces.piece_words label_kinds b.constants) (pieces.pieces label_kinds b.constants place us))) (flat_map (pieces.piece_traps label_kinds b.constants) (pieces.pieces label_kinds b.constants place us))
  piece_traps_between place [] = record { inside = λ k d h. absurd (omega arith); rising = λ k d h. absurd (omega arith) }
  piece_traps_between place (u ∷ us) =
      subst (AreBetween place to) (sym (flat_map-cons (pieces.piece_traps label_kinds b.constants) (place, u) (pieces.pieces label_kinds b.constants next us)))
      (at u.target refl (piece_traps_between next us))
    where
      size : ℕ
      size = length (pieces.words_for label_kinds b.constants (class label_kinds u) u.target place)

      next : ℕ
      next = place + 4 * size

      to : ℕ
      to = place + 4 * length (flat_map (pieces.piece_words label_kinds b.constants) ((place, u) ∷ pieces.pieces label_kinds b.constants next us))

      rest : List (ℕ × TrapCode)
      rest = flat_map (pieces.piece_traps label_kinds b.constants) (pieces.pieces label_kinds b.constants next us)

      to_is : to ≡ next + 4 * length (flat_map (pieces.piece_words label_kinds b.constants) (pieces.pieces label_kinds b.constants next us))
      to_is = omega (arith, ap length (flat_map-cons (pieces.piece_words label_kinds b.constants) (place, u) (pieces.pieces label_kinds b.constants next us)), length-append (pieces.words_for label_kinds b.constants (class label_kinds u) u.target place) (flat_map (pieces.piece_words label_kinds b.constants) (pieces.pieces label_kinds b.constants next us)))

      wider : AreBetween next (next + 4 * length (flat_map (pieces.piece_words label_kinds b.constants) (pieces.pieces label_kinds b.constants next us))) rest → AreBetween place to rest
      wider h = record { inside = λ k d w. let i = h.inside k d w in (omega (arith, i.0), omega (arith, i.1, to_is)); rising = h.rising }

      first : (code : TrapCode) → 4 * size ≡ 4 → AreBetween next (next + 4 * length (flat_map (pieces.piece_words label_kinds b.constants) (pieces.pieces label_kinds b.constants next us))) rest → AreBetween place to ((place, code) ∷ rest)
      first code four h =
          let lower : AreBetween (place + 4) to rest = record { inside = λ k d w. let i = h.inside k d w in (omega (arith, i.0, four), omega (arith, i.1, to_is)); rising = h.rising } in
          one_more place to (Some code) rest lower (omega (arith, to_is, four))

      at : (t : Target) → u.target ≡ t → AreBetween next (next + 4 * length (flat_map (pieces.piece_words label_kinds b.constants) (pieces.pieces label_kinds b.constants next us))) rest → AreBetween place to (pieces.trap_at t place ++ rest)
      at (Label l) e h = wider h
      at (Constant n) e h = wider h
      at IslandEnd e h = wider h
      at (Trap code) e h = first code (ap (λ t. 4 * length (pieces.words_for label_kinds b.constants (class_of label_kinds t u.kind) t place)) e) h
