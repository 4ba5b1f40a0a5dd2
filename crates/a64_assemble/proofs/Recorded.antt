-- Records of items: the relocations, calls, maps and traps of all.
use Rattle.std.proofs.Common.{ℕ, ◌≡◌, ◌+◌, ◌<◌, suc, zero, Bool, true, false, List, [], ◌∷◌, ◌++◌, map, Option, None, Some, ap, ◌∙◌, refl, sym, subst, arith, inl, inr}
use Rattle.std.specs.Prelude.{Contains, if◌then◌else◌, option_map, ◌↔◌}
use Rattle.std.specs.List.{filter_map, slice_get, cons_option}
use Rattle.std.proofs.lemmas.List.{get_or-map, length-map}
use Rattle.std.proofs.lemmas.List.Elements.{filter_map-append, Contains-append_cases, Contains-append_left, Contains-append_right}
use Rattle.a64_base.specs.declared.entity.TrapCode.{TrapCode}
use Rattle.a64_base.specs.declared.entity.UserStackMap.{UserStackMap}
use Rattle.a64_inst.specs.declared.emission.EmitFlags.{EmitFlags}
use Rattle.a64_inst.specs.declared.frame.FrameLayout.{FrameLayout}
use Rattle.a64_inst.specs.declared.item.Item.{Item}
use Rattle.a64_cells.specs.Shapes.{Relocation, Marks, Cell}
use Rattle.a64_cells.specs.Cells.{cells_of}
use Rattle.a64_emit.specs.Layout.{placed, standing, relocs_in, calls_in, patchable_in, maps_in, traps_in}
use Rattle.a64_emit.specs.Records.{all_from, reloc_from, number_from, map_from, relocs_of, calls_of, patchable_of, maps_of, traps_of, IsTrapOf}

-- what is recorded at the place of a cell, by its marks, and how a record is moved to its place in the code
module _ {R : Type 0} (record_at : ℕ → Marks → Option R) (moved : ℕ → R → R) (moves : (place offset : ℕ) (m : Marks) → record_at (place + offset) m ≡ option_map (moved place) (record_at offset m)) where
  abbrev marked_at : ℕ × Cell → Option R
  marked_at s = record_at s.0 s.1.marks

  abbrev marked_in : List (ℕ × Cell) → List R
  marked_in cells = filter_map marked_at cells

  moved_first : (place : ℕ) (o : Option R) (rs : List R) → cons_option (option_map (moved place) o) (map (moved place) rs) ≡ map (moved place) (cons_option o rs)
  moved_first place None rs = refl
  moved_first place (Some r) rs = refl

  moved_marks : (place offset from : ℕ) (cells : List Cell) → from ≡ place + offset → marked_in (placed from cells) ≡ map (moved place) (marked_in (placed offset cells))
  moved_marks place offset from [] e = refl
  moved_marks place offset from (c ∷ cs) e =
      ap (λ n. cons_option (record_at n c.marks) (marked_in (placed (from + 4) cs))) e
      ∙ ap (λ o. cons_option o (marked_in (placed (from + 4) cs))) (moves place offset c.marks)
      ∙ ap (cons_option (option_map (moved place) (record_at offset c.marks))) (moved_marks place (offset + 4) (from + 4) cs (omega (arith, e)))
      ∙ moved_first place (record_at offset c.marks) (marked_in (placed (offset + 4) cs))

  -- what all cells record at their places is what the items do
  marks_from_items : (frame : FrameLayout) (flags : EmitFlags) (places : List ℕ) (items : List Item) → marked_in (standing (map (cells_of frame flags) items) places) ≡ all_from moved (λ item. marked_in (placed 0 (cells_of frame flags item))) places items
  marks_from_items frame flags [] [] = refl
  marks_from_items frame flags [] (x ∷ items) = refl
  marks_from_items frame flags (place ∷ places) [] = refl
  marks_from_items frame flags (place ∷ places) (x ∷ items) =
      filter_map-append marked_at (placed place (cells_of frame flags x)) (standing (map (cells_of frame flags) items) places)
      ∙ ap (λ rs. rs ++ marked_in (standing (map (cells_of frame flags) items) places)) (moved_marks place 0 place (cells_of frame flags x) (omega arith))
      ∙ ap (λ rs. map (moved place) (marked_in (placed 0 (cells_of frame flags x))) ++ rs) (marks_from_items frame flags places items)

-- a mark that there may be is moved with its place
moved_mark : {M R : Type 0} (at : ℕ → M → R) (moved : ℕ → R → R) → ((place offset : ℕ) (m : M) → at (place + offset) m ≡ moved place (at offset m)) → (place offset : ℕ) (o : Option M) → option_map (at (place + offset)) o ≡ option_map (moved place) (option_map (at offset) o)
moved_mark at moved moves place offset None = refl
moved_mark at moved moves place offset (Some m) = ap (λ r. Some r) (moves place offset m)

-- ---- what is recorded beside traps

module _ (frame : FrameLayout) (flags : EmitFlags) (places : List ℕ) (items : List Item) where
  -- the relocations of all cells at their places are those of the items
  pub relocs_from_items : relocs_in (standing (map (cells_of frame flags) items) places) ≡ all_from reloc_from (relocs_of frame flags) places items
  relocs_from_items =
      marks_from_items (λ n m. option_map (λ (r : Relocation). (n, r.0, r.1, r.2)) m.reloc) reloc_from
      (λ place offset m. moved_mark (λ n (r : Relocation). (n, r.0, r.1, r.2)) reloc_from (λ p o r. refl) place offset m.reloc) frame flags places items

  -- and so are the places behind calls
  pub calls_from_items : calls_in (standing (map (cells_of frame flags) items) places) ≡ all_from ◌+◌ (calls_of frame flags) places items
  calls_from_items = marks_from_items (λ n m. if m.call then Some (n + 4) else None) ◌+◌ (λ place offset m. go place offset m.call) frame flags places items
    where
      go : (place offset : ℕ) (call : Bool) → (if call then Some (place + offset + 4) else None) ≡ option_map (◌+◌ place) (if call then Some (offset + 4) else None)
      go place offset true = ap (λ n. Some n) (omega arith)
      go place offset false = refl

  -- those behind calls that may be changed later, with their lengths
  pub patchable_from_items : patchable_in (standing (map (cells_of frame flags) items) places) ≡ all_from number_from (patchable_of frame flags) places items
  patchable_from_items =
      marks_from_items (λ n m. option_map (λ len. (n + len, len)) m.patchable) number_from
      (λ place offset m. moved_mark (λ n len. (n + len, len)) number_from (λ p o len. ap (λ n. (n, len)) (omega arith)) place offset m.patchable) frame flags places items

  -- and those behind calls at which a map is kept, with the maps
  pub maps_from_items : maps_in (standing (map (cells_of frame flags) items) places) ≡ all_from map_from (maps_of frame flags) places items
  maps_from_items =
      marks_from_items (λ n m. option_map (λ map. (n + 4, map)) m.map) map_from
      (λ place offset m. moved_mark (λ n (map : UserStackMap). (n + 4, map)) map_from (λ p o map. ap (λ n. (n, map)) (omega arith)) place offset m.map) frame flags places items

-- ---- traps

-- a trap at its place in the code, for an item that stands at a place
abbrev trap_from : ℕ → ℕ × TrapCode → ℕ × TrapCode
trap_from place t = (place + t.0, t.1)

-- an element of a list of which each element was moved
moved_back : {X Y : Type 0} (f : X → Y) (xs : List X) (y : Y) → Contains (map f xs) y → (x : X) × Contains xs x × (f x ≡ y)
moved_back f [] y c = absurd (let w : c.0 < 0 = c.1 in omega arith)
moved_back f (x ∷ xs) y (zero, w, e) = (x, (0, omega arith, refl), e)
moved_back f (x ∷ xs) y (suc k, w, e) =
    let r = moved_back f xs y (k, omega arith, e) in
    (r.0, (suc r.1.0, omega (arith, r.1.1), r.1.2), r.2)

moved_there : {X Y : Type 0} (f : X → Y) (xs : List X) (x : X) → Contains xs x → Contains (map f xs) (f x)
moved_there f xs x c = (c.0, omega (arith, c.1, length-map xs f), get_or-map f xs c.0 x (f x) c.1 ∙ ap f c.2)

module _ (frame : FrameLayout) (flags : EmitFlags) where
  -- the traps of all cells at their places are those of the items
  traps_from_items : (places : List ℕ) (items : List Item) → traps_in (standing (map (cells_of frame flags) items) places) ≡ all_from trap_from (traps_of frame flags) places items
  traps_from_items =
      marks_from_items (λ n m. option_map (λ code. (n, code)) m.trap) trap_from
      (λ place offset m. moved_mark (λ n (code : TrapCode). (n, code)) trap_from (λ p o code. refl) place offset m.trap) frame flags

  is_trap_of : (places : List ℕ) (items : List Item) (place : ℕ) (code : TrapCode) → Contains (all_from trap_from (traps_of frame flags) places items) (place, code) → IsTrapOf frame flags items places place code
  is_trap_of [] items place code c = absurd (let w : c.0 < 0 = c.1 in omega arith)
  is_trap_of (p ∷ places) [] place code c = absurd (let w : c.0 < 0 = c.1 in omega arith)
  is_trap_of (p ∷ places) (x ∷ items) place code c = elim (Contains-append_cases (map (trap_from p) (traps_of frame flags x)) (all_from trap_from (traps_of frame flags) places items) (place, code) c) [
    | inl here ↦
        let r = moved_back (trap_from p) (traps_of frame flags x) (place, code) here in
        record {
          index = 0;
          item = x;
          start = p;
          offset = r.0.0;
          item_is = refl;
          start_is = refl;
          listed = subst (λ (t : TrapCode). Contains (traps_of frame flags x) (r.0.0, t)) (ap (λ (t : ℕ × TrapCode). t.1) r.2) r.1;
          place_is = sym (ap (λ (t : ℕ × TrapCode). t.0) r.2);
        }
    | inr there ↦
        let t = is_trap_of places items place code there in
        record { index = suc t.index; item = t.item; start = t.start; offset = t.offset; item_is = t.item_is; start_is = t.start_is; listed = t.listed; place_is = t.place_is }
  ]

  has_trap : (places : List ℕ) (items : List Item) (place : ℕ) (code : TrapCode) (index : ℕ) (item : Item) (start offset : ℕ) → slice_get items index ≡ Some item → slice_get places index ≡ Some start → Contains (traps_of frame flags item) (offset, code) → place ≡ start + offset → Contains (all_from trap_from (traps_of frame flags) places items) (place, code)
  has_trap [] items place code index item start offset e f c p = absurd cc
  has_trap (q ∷ places) [] place code index item start offset e f c p = absurd cc
  has_trap (q ∷ places) (x ∷ items) place code zero item start offset e f c p =
      let same_item : x ≡ item = some_eq e in
      let same_start : q ≡ start = some_eq f in
      let moved : Contains (map (trap_from q) (traps_of frame flags x)) (trap_from q (offset, code)) = moved_there (trap_from q) (traps_of frame flags x) (offset, code) (subst (λ (y : Item). Contains (traps_of frame flags y) (offset, code)) (sym same_item) c) in
      Contains-append_left (map (trap_from q) (traps_of frame flags x)) (all_from trap_from (traps_of frame flags) places items) (place, code)
      (subst (λ n. Contains (map (trap_from q) (traps_of frame flags x)) (n, code)) (omega (arith, same_start, p)) moved)
    where
      some_eq : {X : Type 0} {a b : X} → Some a ≡ Some b → a ≡ b
      some_eq g = cc
  has_trap (q ∷ places) (x ∷ items) place code (suc index) item start offset e f c p =
      Contains-append_right (map (trap_from q) (traps_of frame flags x)) (all_from trap_from (traps_of frame flags) places items) (place, code)
      (has_trap places items place code index item start offset e f c p)

  -- the traps of all cells are exactly those of the items
  pub traps_exact : (places : List ℕ) (items : List Item) (place : ℕ) (code : TrapCode) → Contains (traps_in (standing (map (cells_of frame flags) items) places)) (place, code) ↔ IsTrapOf frame flags items places place code
  traps_exact places items place code = (
    λ c. is_trap_of places items place code (subst (λ (ts : List (ℕ × TrapCode)). Contains ts (place, code)) (traps_from_items places items) c),
    λ t. subst (λ (ts : List (ℕ × TrapCode)). Contains ts (place, code)) (sym (traps_from_items places items))
        (has_trap places items place code t.index t.item t.start t.offset t.item_is t.start_is t.listed t.place_is),
  )
