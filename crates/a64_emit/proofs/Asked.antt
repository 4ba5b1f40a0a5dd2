-- Places for islands: items without words that ask for space.
use Rattle.std.proofs.Common.{ℕ, ◌≡◌, ◌+◌, ◌*◌, ◌^◌, ◌<◌, ◌≤◌, true, List, [], ◌∷◌, length, Option, None, Some, refl, sym, ap, ap₂, ◌∙◌, subst, arith}
use Rattle.std.specs.Prelude.{unwrap_or}
use Rattle.std.specs.List.{list_any}
use Rattle.a64_base.specs.declared.entity.UserStackMap.{UserStackMap}
use Rattle.a64_inst.specs.declared.emission.EmitFlags.{EmitFlags}
use Rattle.a64_inst.specs.declared.frame.FrameLayout.{FrameLayout}
use Rattle.a64_inst.specs.declared.inst.Inst.{Inst}
use Rattle.a64_inst.specs.declared.inst.Inst.TheVariants as insts
use Rattle.a64_inst.specs.declared.item.Item.{Item}
use Rattle.a64_inst.specs.declared.item.Item.TheVariants.{Bind, Emit}
use Rattle.a64_emit.specs.declared.extent.Light.{Light}
use Rattle.a64_cells.specs.Shapes.{Cell}
use Rattle.a64_cells.specs.Cells.{shape_of, only_word, inst_cells, kept_by, kept_cells, cells_of}
use Rattle.a64_emit.specs.Bounds.{AreExtent, IsExtent, ranges_in, size_of, charge_of, asked_of, growth_of, item_charge, item_size, least, saturated}
use Rattle.a64_emit.specs.Falls.{inst_falls}
use Rattle.a64_emit.specs.Lights.{IsLight}
use Rattle.a64_emit.specs.Reach.{is_near}
use Rattle.a64_emit.proofs.Burdens.{charge_least, charge_some}
use Rattle.a64_emit.proofs.Keeping.{keep_charge, keep_ranges, keep_sites, keep_size, keep_uses}

module _ (frame : FrameLayout) (flags : EmitFlags) where
  -- a place for an island has no words
  pub asked_words : (inst : Inst) (space : ℕ) → asked_of inst ≡ Some space → inst_cells frame flags inst ≡ []
  asked_words (insts.EmitIsland needed_space) space e = refl
  asked_words _ space e = absurd cc

  -- so what has a word is no such place
  pub worded_asked : (inst : Inst) (cell : Cell) → inst_cells frame flags inst ≡ cell ∷ [] → asked_of inst ≡ None
  worded_asked (insts.EmitIsland needed_space) cell e = absurd cc
  worded_asked _ cell e = refl

  -- nor is one word
  pub plain_asked : (inst : Inst) (word : ℕ) → Some word ≡ only_word (shape_of frame flags inst) → asked_of inst ≡ None
  plain_asked (insts.EmitIsland needed_space) word e = absurd cc
  plain_asked _ word e = refl

  -- and behind such a place execution goes on
  pub asked_falls : (inst : Inst) (space : ℕ) → asked_of inst ≡ Some space → inst_falls inst ≡ true
  asked_falls (insts.EmitIsland needed_space) space e = refl
  asked_falls _ space e = absurd cc

  -- what an instruction that is none is charged for
  pub words_charge : (inst : Inst) (kept : Option UserStackMap) → asked_of inst ≡ None → item_charge frame flags (Emit inst kept) ≡ charge_of (inst_cells frame flags inst)
  words_charge inst kept e =
      ap (λ o. elim o [ None ↦ charge_of (kept_cells frame flags inst kept) | Some space ↦ 4 ]) e
      ∙ keep_charge (kept_by inst kept) (inst_cells frame flags inst)

  -- an item is charged for each use that may want something
  pub item_least : (x : Item) → 28 * length (ranges_in (cells_of frame flags x)) ≤ item_charge frame flags x
  item_least (Bind label) = omega arith
  item_least (Emit inst kept) =
      subst (λ (ranges : List ℕ). 28 * length ranges ≤ item_charge frame flags (Emit inst kept)) (sym (keep_ranges (kept_by inst kept) (inst_cells frame flags inst)))
      (go (asked_of inst) refl)
    where
      go : (o : Option ℕ) → asked_of inst ≡ o → 28 * length (ranges_in (inst_cells frame flags inst)) ≤ item_charge frame flags (Emit inst kept)
      go None e = omega (arith, charge_least (inst_cells frame flags inst), words_charge inst kept e)
      go (Some space) e = omega (arith, ap (λ cells. length (ranges_in cells)) (asked_words inst space e))

  -- and for a jump around an island, where it has words
  pub item_some : (inst : Inst) (kept : Option UserStackMap) → 1 ≤ length (inst_cells frame flags inst) → 4 + 28 * length (ranges_in (inst_cells frame flags inst)) ≤ item_charge frame flags (Emit inst kept)
  item_some inst kept some = go (asked_of inst) refl
    where
      go : (o : Option ℕ) → asked_of inst ≡ o → 4 + 28 * length (ranges_in (inst_cells frame flags inst)) ≤ item_charge frame flags (Emit inst kept)
      go None e = omega (arith, charge_some (inst_cells frame flags inst) some, words_charge inst kept e)
      go (Some space) e = absurd (omega (arith, some, ap length (asked_words inst space e)))

  -- ---- what an item adds, by the words of its instruction

  pub kept_extent : (inst : Inst) (kept : Option UserStackMap) (size charge : ℕ) (range : Option ℕ) → asked_of inst ≡ None → AreExtent (inst_cells frame flags inst) size charge range → IsExtent frame flags (Emit inst kept) size charge range
  kept_extent inst kept size charge range none e =
      let map = kept_by inst kept in
      let cells = inst_cells frame flags inst in
      record {
        size_is = e.size_is ∙ ap saturated (sym (keep_size map cells));
        charge_is = e.charge_is ∙ ap saturated (sym (ap₂ (λ own asked. own + unwrap_or asked 0) (words_charge inst kept none) none ∙ omega arith));
        range_is = e.range_is ∙ ap least (sym (keep_ranges map cells));
      }

  pub asked_extent : (inst : Inst) (kept : Option UserStackMap) (space : ℕ) → asked_of inst ≡ Some space → space < 2 ^ 32 → IsExtent frame flags (Emit inst kept) 0 (4 + space) None
  asked_extent (insts.EmitIsland needed_space) kept space e small =
      let same : needed_space ≡ space = cc in
      record { size_is = omega arith; charge_is = omega (arith, same, small); range_is = refl }
  asked_extent _ kept space e small = absurd cc

  pub kept_light : (inst : Inst) (kept : Option UserStackMap) (light : Light) → asked_of inst ≡ None → IsLight (inst_cells frame flags inst) (size_of (inst_cells frame flags inst) + charge_of (inst_cells frame flags inst)) light
      → IsLight (cells_of frame flags (Emit inst kept)) (growth_of frame flags (Emit inst kept)) light
  kept_light inst kept light none is =
      let map = kept_by inst kept in
      let cells = inst_cells frame flags inst in
      record {
        uses = keep_uses map 0 cells ∙ is.uses;
        far = ap (list_any is_near) (keep_sites map cells) ∙ is.far;
        growth_is = is.growth_is ∙ sym (ap₂ (λ own asked. item_size frame flags (Emit inst kept) + (own + unwrap_or asked 0)) (words_charge inst kept none) none ∙ omega (arith, keep_size map cells));
        range_is = is.range_is ∙ ap least (sym (keep_ranges map cells));
      }
