-- The words of items that are data, one item after another.
use Rattle.std.proofs.Common.{ℕ, ◌≡◌, ◌+◌, ◌≤◌, ◌<◌, Bool, List, length, inl, inr, sym, ap, ◌∙◌, subst, Option, Some, arith}
use Rattle.std.specs.Prelude.{◌⊎◌, slice_get}
use Rattle.std.specs.Option.{unwrap_or}
use Rattle.std.proofs.lemmas.Bool.{cases_lt}
use Rattle.std.proofs.lemmas.Option.{slice_get_within}
use Rattle.a64_inst.specs.declared.emission.EmitFlags.{EmitFlags}
use Rattle.a64_inst.specs.declared.frame.FrameLayout.{FrameLayout}
use Rattle.a64_inst.specs.declared.item.Item.{Item}
use Rattle.a64_cells.specs.Cells.{cells_of}
use Rattle.a64_data.specs.Cells.{InData, IsItemData}
use Rattle.a64_data.specs.Marks.{Marks}
use Rattle.a64_data.proofs.Marking.{marks_as, marks_none, marks_then}

module _ (frame : FrameLayout) (flags : EmitFlags) (items : List Item) (places : List ℕ) where
  pub record IsItemDataBefore (count k : ℕ) : Type 0 where
    pub is : IsItemData frame flags items places k
    pub below : is.index < count

  pub items_none : (xs : List Bool) → Marks (IsItemDataBefore 0) xs xs
  items_none xs = marks_none (IsItemDataBefore 0) xs (λ k lt h. absurd (omega (arith, h.below)))

  pub items_all : (count : ℕ) → length items ≤ count → (a b : List Bool) → Marks (IsItemDataBefore count) a b → Marks (IsItemData frame flags items places) a b
  items_all count long a b m =
      marks_as (IsItemDataBefore count) (IsItemData frame flags items places) a b
      (λ k lt h. record { is = h; below = omega (arith, slice_get_within items h.index h.item h.item_is, long) }) (λ k h. h.is) m

  same_some : {X : Type 0} (xs : List X) (i j : ℕ) (x y : X) → i ≡ j → slice_get xs i ≡ Some x → slice_get xs j ≡ Some y → x ≡ y
  same_some {X = X} xs i j x y e f g = ap (λ (o : Option X). unwrap_or o x) (sym f ∙ ap (slice_get xs) e ∙ g)

  pub items_past : (count : ℕ) → length places ≤ count → (a b : List Bool) → Marks (IsItemDataBefore count) a b → Marks (IsItemDataBefore (count + 1)) a b
  items_past count past a b m = marks_as (IsItemDataBefore count) (IsItemDataBefore (count + 1)) a b back forth m
    where
      back : (k : ℕ) → k < length a → IsItemDataBefore (count + 1) k → IsItemDataBefore count k
      back k lt h = record { is = h.is; below = omega (arith, slice_get_within places h.is.index h.is.place h.is.place_is, past) }

      forth : (k : ℕ) → IsItemDataBefore count k → IsItemDataBefore (count + 1) k
      forth k h = record { is = h.is; below = omega (arith, h.below) }

  pub items_more : (count : ℕ) (item : Item) (place : ℕ) → slice_get items count ≡ Some item → slice_get places count ≡ Some place → (a b c : List Bool)
      → Marks (IsItemDataBefore count) a b → Marks (InData (cells_of frame flags item) place) b c → Marks (IsItemDataBefore (count + 1)) a c
  items_more count item place is at a b c m n =
      marks_as (λ k. IsItemDataBefore count k ⊎ InData (cells_of frame flags item) place k) (IsItemDataBefore (count + 1)) a c back forth
      (marks_then (IsItemDataBefore count) (InData (cells_of frame flags item) place) a b c m n)
    where
      back : (k : ℕ) → k < length a → IsItemDataBefore (count + 1) k → IsItemDataBefore count k ⊎ InData (cells_of frame flags item) place k
      back k lt h = elim (cases_lt h.is.index count) [
        | inl less ↦ inl (record { is = h.is; below = less })
        | inr past ↦
            let e : h.is.index ≡ count = omega (arith, past, h.below) in
            inr (subst (λ (i : Item). InData (cells_of frame flags i) place k) (same_some items h.is.index count h.is.item item e h.is.item_is is)
            (subst (λ p. InData (cells_of frame flags h.is.item) p k) (same_some places h.is.index count h.is.place place e h.is.place_is at) h.is.lies))
      ]

      forth : (k : ℕ) → IsItemDataBefore count k ⊎ InData (cells_of frame flags item) place k → IsItemDataBefore (count + 1) k
      forth k (inl h) = record { is = h.is; below = omega (arith, h.below) }
      forth k (inr h) = record { is = record { index = count; item = item; place = place; item_is = is; place_is = at; lies = h }; below = omega arith }
