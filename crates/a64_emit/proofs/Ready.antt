-- What there is room for may be emitted.
use Rattle.std.proofs.Common.{ℕ, ◌≡◌, ◌+◌, ◌*◌, List, [], ◌∷◌, length, Option, None, Some, refl, sym, ap, ◌∙◌, subst, arith, Bool, true, false, not}
use Rattle.std.specs.Prelude.{IsSome, MatchBool}
use Rattle.std.proofs.lemmas.Bool.{false≢true}
use Rattle.std.proofs.lemmas.List.{append-nil}
use Rattle.a64_operand.specs.declared.virtuals.VirtualRegisters.TheVariants.{Refused}
use Rattle.a64_inst.specs.declared.emission.EmitFlags.{EmitFlags}
use Rattle.a64_inst.specs.declared.frame.FrameLayout.{FrameLayout}
use Rattle.a64_inst.specs.declared.inst.Inst.{Inst}
use Rattle.a64_inst.specs.Faults.{inst_fault}
use Rattle.a64_buffer.specs.Buffer.{Buffer, end_of}
use Rattle.a64_buffer.specs.Classes.{Fits, HasRoom}
use Rattle.a64_buffer.specs.Sound.{IsWhole}
use Rattle.a64_buffer.proofs.Rooms.{less_room}
use Rattle.a64_label_use.specs.declared.label_use.LabelUse.{LabelUse}
use Rattle.a64_label_use.specs.LabelUses.{label_kinds}
use Rattle.a64_label_use.specs.LabelLaws.{label_kinds_lawful}
use Rattle.a64_emit.specs.Bounds.{asked_of, charge_of, ranges_in, size_of}
use Rattle.a64_cells.specs.Shapes.{Cell}
use Rattle.a64_cells.specs.Cells.{inst_cells}
use Rattle.a64_emit.specs.Emission.{CellsFit, HasIslandRoom, IsReady}
use Rattle.a64_emit.specs.Rooms.{AreCompact, HasRoomFor, most_added}
use Rattle.a64_emit.proofs.Asked.{asked_words}
use Rattle.a64_emit.proofs.Compact.{inst_compact}
use Rattle.a64_emit.proofs.Putting.{put_room}

-- an answer that none is needed
pub not_needed : (A B : Type 0) (needed : Bool) → not needed ≡ true → MatchBool needed A B → B
not_needed A B true e is = absurd (false≢true e)
not_needed A B false e is = is

module _ (frame : FrameLayout) (flags : EmitFlags) (inst : Inst) where
  -- what an instruction adds that is no place for an island, and what such a place adds
  pub words_added : asked_of inst ≡ None → most_added frame flags inst ≡ size_of (inst_cells frame flags inst) + charge_of (inst_cells frame flags inst)
  words_added e = ap (λ (o : Option ℕ). size_of (inst_cells frame flags inst) + elim o [ None ↦ charge_of (inst_cells frame flags inst) | Some space ↦ 4 ]) e

  pub place_added : (space : ℕ) → asked_of inst ≡ Some space → most_added frame flags inst ≡ 4
  place_added space e =
      ap (λ (o : Option ℕ). size_of (inst_cells frame flags inst) + elim o [ None ↦ charge_of (inst_cells frame flags inst) | Some space ↦ 4 ]) e
      ∙ ap (λ (cells : List Cell). size_of cells + 4) (asked_words frame flags inst space e)

  module _ (b : Buffer LabelUse) (whole : IsWhole label_kinds b) where
    cells_fit : (cells : List Cell) → AreCompact cells → Fits label_kinds b (size_of cells + charge_of cells) → CellsFit b cells
    cells_fit [] compact h = subst (λ us. HasRoom label_kinds (end_of b) us 0) (sym (append-nil b.uses)) whole.fits
    cells_fit (c ∷ cs) compact h =
        put_room b (c ∷ cs) whole compact (omega arith)
        (less_room label_kinds label_kinds_lawful (end_of b) b.uses (size_of (c ∷ cs) + charge_of (c ∷ cs)) (size_of (c ∷ cs) + 28 * length (ranges_in (c ∷ cs))) (omega arith) h)

    pub room_ready : HasRoomFor frame flags b inst → inst_fault frame flags b.constants Refused inst ≡ None → IsReady b frame flags inst
    room_ready has good = record {
      room = omega (arith, has.room);
      island = go (asked_of inst) refl;
      fits = fit (asked_of inst) refl;
      good = good;
    }
      where
        go : (o : Option ℕ) → asked_of inst ≡ o → IsSome (asked_of inst) → HasIslandRoom b
        go None e asks = absurd (false≢true (subst (λ (o : Option ℕ). IsSome o) e asks))
        go (Some space) e asks = omega (arith, has.room, place_added space e)

        fit : (o : Option ℕ) → asked_of inst ≡ o → CellsFit b (inst_cells frame flags inst)
        fit None e = cells_fit (inst_cells frame flags inst) (inst_compact frame flags inst) (subst (λ n. Fits label_kinds b n) (words_added e) (has.fits e))
        fit (Some space) e =
            subst (CellsFit b) (sym (asked_words frame flags inst space e))
            (subst (λ us. HasRoom label_kinds (end_of b) us 0) (sym (append-nil b.uses)) whole.fits)
