-- One item more is put, by its emission and an island behind it.
use Rattle.std.proofs.Common.{ℕ, ◌≡◌, ◌≢◌, ◌+◌, ◌*◌, ◌^◌, ◌<◌, ◌≤◌, List, [], ◌∷◌, ◌++◌, length, Option, None, Some, refl, sym, ap, ◌∙◌, subst, arith, inl, inr, nat_cmp, Result, Ok, Err, Bool}
use Rattle.std.specs.Prelude.{OnOk, IsSome}
use Rattle.std.specs.FinMap.{FinMap}
use Rattle.std.specs.Option.{unwrap_or}
use Rattle.std.proofs.lemmas.Bool.{false≢true}
use Rattle.a64_operand.specs.declared.virtuals.VirtualRegisters.TheVariants.{Refused}
use Rattle.a64_inst.specs.Faults.{inst_fault}
use Rattle.a64_inst.specs.State.{State}
use Rattle.a64_emit.proofs.Asked.{asked_words}
use Rattle.a64_emit.proofs.Keeping.{keep_length, keep_uses_from}
use Rattle.std.proofs.lemmas.List.{append-nil}
use Rattle.a64_inst.specs.declared.emission.EmitFlags.{EmitFlags}
use Rattle.a64_inst.specs.declared.frame.FrameLayout.{FrameLayout}
use Rattle.a64_inst.specs.declared.inst.Inst.{Inst}
use Rattle.a64_inst.specs.declared.item.Item.TheVariants.{Emit}
use Rattle.a64_base.specs.declared.entity.UserStackMap.{UserStackMap}
use Rattle.a64_buffer.specs.declared.force.ForceVeneers.{ForceVeneers}
use Rattle.a64_buffer.specs.Buffer.{Buffer, end_of}
use Rattle.a64_buffer.specs.Classes.{owed, Fits}
use Rattle.a64_buffer.specs.Classes as classes
use Rattle.a64_buffer.specs.Sound.{IsWhole}
use Rattle.a64_buffer.proofs.Clients.{word_fits}
use Rattle.a64_buffer.specs.declared.force.ForceVeneers.TheVariants.{No, Yes}
use Rattle.a64_label_use.specs.declared.label_use.LabelUse.{LabelUse}
use Rattle.a64_label_use.specs.LabelUses.{label_kinds}
use Rattle.a64_label_use.specs.LabelLaws.{label_kinds_lawful}
use Rattle.a64_cells.specs.Shapes.{Cell}
use Rattle.a64_cells.specs.Cells.{inst_cells, kept_by, keep, kept_cells}
use Rattle.a64_emit.specs.Bounds.{asked_of}
use Rattle.a64_emit.specs.Emission.{uses_from, appended, HasRoom, CellsFit, IsReady, Puts, Emits}
use Rattle.a64_assemble.specs.Elements.{Element, Words, Asking, element_of, next_room, room_of}
use Rattle.a64_assemble.specs.Asks.{AsksNext, PutsWords, MayMove, Moves, HasNextRoom, NeedsNone}
use Rattle.a64_assemble.proofs.Later.{longer}
use Rattle.a64_assemble.proofs.Moving.{appended_none, words_fit, put_owed}
use Rattle.a64_emit.specs.Falls.{inst_falls}

-- what a success says, said otherwise
pub on_ok : {T E A B : Type 0} → (r : Result T E) → (A → B) → OnOk r A → OnOk r B
on_ok (Ok x) f h = f h
on_ok (Err e) f h = tt

-- the same of two things that it says
pub both_ok : {T E A B C : Type 0} → (r : Result T E) → (A → B → C) → OnOk r A → OnOk r B → OnOk r C
both_ok (Ok x) f h k = f h k
both_ok (Err e) f h k = tt

-- ---- words

-- what was emitted where no island is asked for
pub put_cells : (o : Option ℕ) (cells : List Cell) (b b' : Buffer LabelUse) → o ≡ None → Puts o cells b b' → b' ≡ appended b cells
put_cells None cells b b' e p = p
put_cells (Some space) cells b b' e p = absurd cc

module _ (force : ForceVeneers) (rest : List Element) (b : Buffer LabelUse) where
  pub words_room : {goes_on : Bool} (cells : List Cell) → MayMove (Words goes_on cells) rest b → HasRoom b cells
  words_room cells may = omega (arith, may.short)

  pub cells_fit : {goes_on : Bool} (cells : List Cell) → MayMove (Words goes_on cells) rest b → CellsFit b cells
  cells_fit [] may = subst (λ us. classes.HasRoom label_kinds (end_of b) us 0) (sym (append-nil b.uses)) may.whole.fits
  cells_fit (c ∷ cs) may = words_fit force c cs rest b may

  -- where the end moved, there are words, and room for an island behind them
  pub island_short : {goes_on : Bool} (cells : List Cell) (m : Buffer LabelUse) → MayMove (Words goes_on cells) rest b → m ≡ appended b cells → end_of m ≢ end_of b → end_of m + owed label_kinds m + 4 < 2 ^ 31
  island_short [] m may e ne = absurd (ne (ap (λ (v : Buffer LabelUse). end_of v) (e ∙ appended_none b)))
  island_short (c ∷ cs) m may e ne = subst (λ (v : Buffer LabelUse). end_of v + owed label_kinds v + 4 < 2 ^ 31) (sym e) (let z = put_owed b (c ∷ cs) in omega (arith, z, may.short))

  -- where the end moved, there are words, and the room was asked for that is needed next; else nothing came
  pub words_put : (goes_on : Bool) (cells : List Cell) (m b' : Buffer LabelUse) (start : ℕ) → m ≡ appended b cells → start ≡ end_of b → (start ≡ end_of m → b' ≡ m) → (start ≢ end_of m → AsksNext force goes_on (next_room rest) m b') → PutsWords force goes_on cells rest b b'
  words_put goes_on [] m b' start e at without behind =
      let same : m ≡ b = e ∙ appended_none b in
      without (at ∙ sym (ap (λ (v : Buffer LabelUse). end_of v) same)) ∙ same
  words_put goes_on (c ∷ cs) m b' start e at without behind =
      subst (λ (v : Buffer LabelUse). AsksNext force goes_on (next_room rest) v b') e
      (behind (λ same. omega (arith, at, same, ap (λ (v : Buffer LabelUse). end_of v) e, longer b (c ∷ cs))))

  -- words behind which there is room for what follows ask for no island
  pub quiet_put : (goes_on : Bool) (cells : List Cell) (m : Buffer LabelUse) → m ≡ appended b cells → IsWhole label_kinds m → HasNextRoom cells rest b → PutsWords force goes_on cells rest b m
  quiet_put goes_on [] m e whole room = e ∙ appended_none b
  quiet_put goes_on (c ∷ cs) m e whole room = next (next_room rest) refl
    where
      next : (o : Option ℕ) → next_room rest ≡ o → AsksNext force goes_on o (appended b (c ∷ cs)) m
      next None is = e
      next (Some distance) is = record {
        whole = subst (IsWhole label_kinds) e whole;
        outcome = inr (record { fits = room distance is; unforced = λ f. let z : No ≡ Yes = f in cc; same = e });
      }

  -- where there is room for as much as the next words need at most, there is for what they need
  next_fits : (cells : List Cell) (m : Buffer LabelUse) (widest : ℕ) → m ≡ appended b cells → room_of rest ≤ widest → Fits label_kinds m widest → HasNextRoom cells rest b
  next_fits [] m widest e le fits = tt
  next_fits (c ∷ cs) m widest e le fits = λ distance is.
      word_fits label_kinds label_kinds_lawful (appended b (c ∷ cs)) widest distance (omega (arith, le, ap (λ o. unwrap_or o 0) is))
      (subst (λ (v : Buffer LabelUse). Fits label_kinds v widest) e fits)

-- ---- items

-- a map that is kept at words changes neither the room that they need, nor what their uses do
module _ (b : Buffer LabelUse) where
  kept_room : (kept : Option UserStackMap) (cells : List Cell) → HasRoom b (keep kept cells) → HasRoom b cells
  kept_room kept cells room = omega (arith, room, keep_length kept cells)

  kept_fit : (kept : Option UserStackMap) (cells : List Cell) → CellsFit b (keep kept cells) → CellsFit b cells
  kept_fit kept cells fit =
      subst (λ us. classes.HasRoom label_kinds (end_of b) (b.uses ++ us) (4 * length cells)) (keep_uses_from kept b.labels (end_of b) cells)
      (subst (λ n. classes.HasRoom label_kinds (end_of b) (b.uses ++ uses_from b.labels (end_of b) (keep kept cells)) (4 * n)) (keep_length kept cells) fit)

module _ (frame : FrameLayout) (flags : EmitFlags) where
  -- an instruction is its words, or asks for an island
  pub words_element : (inst : Inst) (kept : Option UserStackMap) → asked_of inst ≡ None → element_of frame flags (Emit inst kept) ≡ Words (inst_falls inst) (kept_cells frame flags inst kept)
  words_element inst kept e = ap (λ (o : Option ℕ). elim o [ None ↦ Words (inst_falls inst) (kept_cells frame flags inst kept) | Some space ↦ Asking space ]) e

  pub asking_element : (inst : Inst) (kept : Option UserStackMap) (space : ℕ) → asked_of inst ≡ Some space → element_of frame flags (Emit inst kept) ≡ Asking space
  asking_element inst kept space e = ap (λ (o : Option ℕ). elim o [ None ↦ Words (inst_falls inst) (kept_cells frame flags inst kept) | Some space ↦ Asking space ]) e

  -- what an item needs is what the emission of its instruction needs, whatever map is kept
  pub emit_ready : (constants : FinMap nat_cmp (List ℕ)) (inst : Inst) (kept : Option UserStackMap) (rest : List Element) (b : Buffer LabelUse) → b.constants ≡ constants → inst_fault frame flags constants Refused inst ≡ None → MayMove (element_of frame flags (Emit inst kept)) rest b → IsReady b frame flags inst
  emit_ready constants inst kept rest b same good may = go (asked_of inst) refl
    where
      is_good : inst_fault frame flags b.constants Refused inst ≡ None
      is_good = subst (λ (cs : FinMap nat_cmp (List ℕ)). inst_fault frame flags cs Refused inst ≡ None) (sym same) good

      go : (o : Option ℕ) → asked_of inst ≡ o → IsReady b frame flags inst
      go None e =
          let words : MayMove (Words (inst_falls inst) (kept_cells frame flags inst kept)) rest b = subst (λ (x : Element). MayMove x rest b) (words_element inst kept e) may in
          record {
            room = kept_room b (kept_by inst kept) (inst_cells frame flags inst) (words_room No rest b (kept_cells frame flags inst kept) words);
            island = λ asks. absurd (false≢true (subst (λ (o : Option ℕ). IsSome o) e asks));
            fits = kept_fit b (kept_by inst kept) (inst_cells frame flags inst) (cells_fit No rest b (kept_cells frame flags inst kept) words);
            good = is_good;
          }
      go (Some space) e =
          let asking : MayMove (Asking space) rest b = subst (λ (x : Element). MayMove x rest b) (asking_element inst kept space e) may in
          record {
            room = subst (HasRoom b) (sym (asked_words frame flags inst space e)) (omega (arith, asking.short));
            island = λ asks. omega (arith, asking.short);
            fits = subst (CellsFit b) (sym (asked_words frame flags inst space e)) (subst (λ us. classes.HasRoom label_kinds (end_of b) us 0) (sym (append-nil b.uses)) asking.whole.fits);
            good = is_good;
          }

-- words behind which as much has room as the next need at most need no island
pub needs_none : (flags : EmitFlags) (force : ForceVeneers) (state : State) (inst : Inst) (rest : List Element) (b b' : Buffer LabelUse) (widest : ℕ) → asked_of inst ≡ None → room_of rest ≤ widest → Fits label_kinds b' widest → Emits flags state inst b b' → NeedsNone force (element_of state.frame flags (Emit inst state.map)) rest b
needs_none flags force state inst rest b b' widest none le fits emitted =
    let cells : List Cell = kept_cells state.frame flags inst state.map in
    subst (λ (x : Element). NeedsNone force x rest b) (sym (words_element state.frame flags inst state.map none))
    (next_fits force rest b cells b' widest (put_cells (asked_of inst) cells b b' none emitted) le fits)

-- and in quiet code all that is done
pub emit_moves : (flags : EmitFlags) (force : ForceVeneers) (state : State) (inst : Inst) (rest : List Element) (b b' : Buffer LabelUse) → MayMove (element_of state.frame flags (Emit inst state.map)) rest b → NeedsNone force (element_of state.frame flags (Emit inst state.map)) rest b → IsWhole label_kinds b' → Emits flags state inst b b' → Moves force (element_of state.frame flags (Emit inst state.map)) rest b b'
emit_moves flags force state inst rest b b' may none is_whole emitted = go (asked_of inst) refl emitted
  where
    go : (o : Option ℕ) → asked_of inst ≡ o → Puts o (kept_cells state.frame flags inst state.map) b b' → Moves force (element_of state.frame flags (Emit inst state.map)) rest b b'
    go None e p =
        subst (λ (x : Element). Moves force x rest b b') (sym (words_element state.frame flags inst state.map e))
        (quiet_put force rest b (inst_falls inst) (kept_cells state.frame flags inst state.map) b' p is_whole (subst (λ (x : Element). NeedsNone force x rest b) (words_element state.frame flags inst state.map e) none))
    go (Some space) e p =
        let asks = subst (λ (x : Element). NeedsNone force x rest b) (asking_element state.frame flags inst state.map space e) none in
        subst (λ (x : Element). Moves force x rest b b') (sym (asking_element state.frame flags inst state.map space e)) (elim p [
          | inl fits ↦ record { whole = may.whole; outcome = inr (record { fits = asks.0; unforced = asks.1; same = fits.1 }) }
          | inr never ↦ absurd (never.0 asks.0)
        ])
