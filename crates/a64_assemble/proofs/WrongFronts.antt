-- Finished codes with islands that begin otherwise than the item in front of them wants, which are refused.
use Rattle.std.proofs.Common.{ℕ, zero, suc, pos, ◌≡◌, ◌+◌, ◌<◌, ◌+ℤ◌, All, List, [], ◌∷◌, ◌++◌, length, get_or, map, None, Some, refl, sym, ap, ◌∙◌, subst, inl, inr, arith}
use Rattle.std.specs.Ordering.{nat_cmp}
use Rattle.std.specs.FinMap.{FinMap}
use Rattle.a64_base.specs.declared.entity.MachLabel.{MachLabel}
use Rattle.a64_base.specs.declared.target.BranchTarget.TheVariants as targets
use Rattle.a64_inst.specs.declared.emission.EmitFlags.{EmitFlags}
use Rattle.a64_inst.specs.declared.frame.FrameLayout.{FrameLayout}
use Rattle.a64_inst.specs.declared.inst.Inst.TheVariants as insts
use Rattle.a64_inst.specs.declared.item.Item.{Item}
use Rattle.a64_inst.specs.declared.item.Item.TheVariants.{Bind, Emit}
use Rattle.a64_buffer.specs.declared.force.ForceVeneers.{ForceVeneers}
use Rattle.a64_buffer.specs.declared.site.Target.TheVariants.{Label}
use Rattle.a64_buffer.specs.Pieces.{front_size}
use Rattle.a64_words.specs.Word.{outside, word_at}
use Rattle.a64_emit.specs.declared.code.Code.{Code}
use Rattle.a64_cells.specs.declared.site.Site.{Site}
use Rattle.a64_label_use.specs.declared.label_use.LabelUse.TheVariants as uses
use Rattle.a64_label_use.specs.LabelUses.{distance_in, mask_for}
use Rattle.a64_cells.specs.Shapes.{Cell}
use Rattle.a64_cells.specs.Cells.{cells_of}
use Rattle.a64_emit.specs.Contents.{IsCellUse, HasPiece, Fills}
use Rattle.a64_emit.specs.Falls.{falls_at}
use Rattle.a64_emit.specs.Layout.{standing, IsIslandAfter}
use Rattle.a64_assemble.specs.Placement.{IsWanting}
use Rattle.a64_assemble.specs.Fillings.{IsFilledIsland}
use Rattle.a64_assemble.specs.Assembled.{IsAssembled}
use Rattle.a64_assemble.proofs.Needing.{some_same}
use Rattle.a64_assemble.proofs.WrongAreas.{IsThis, island_holds}

abbrev L1 : MachLabel
L1 = record { 0 = 1 }

module _ (frame : FrameLayout) (flags : EmitFlags) (constants : FinMap nat_cmp (List ℕ)) (force : ForceVeneers) (code : Code) where
  -- where an item stands
  station : (places : List ℕ) (k : ℕ) → code.places.items ≡ places → get_or (code.places.items ++ code.pool ∷ []) k 0 ≡ get_or (places ++ code.pool ∷ []) k 0
  station places k e = ap (λ (ps : List ℕ). get_or (ps ++ code.pool ∷ []) k 0) e

  -- a far veneer's first word is no jump
  no_jump : (words : List ℕ) (from to : ℕ) → code.bytes.items ≡ words → word_at words from ≡ 0x98000090 → outside (mask_for uses.Branch26) (word_at code.bytes.items from) ≡ 0x14000000 → ⊥
  no_jump words from to bytes first jump =
      let e : outside (mask_for uses.Branch26) 0x98000090 ≡ 0x14000000 = ap (outside (mask_for uses.Branch26)) (sym first) ∙ (ap (λ (bs : List ℕ). outside (mask_for uses.Branch26) (word_at bs from)) (sym bytes) ∙ jump) in
      omega (arith, e)

  -- an island at a place for one begins with its contents
  abbrev at_a_place : List Item
  at_a_place = Emit (insts.Jump (targets.Label L1)) None ∷ Emit (insts.EmitIsland 0) None ∷ Bind L1 ∷ Emit insts.Ret None ∷ []

  pub no_contents_at_a_place : IsThis (0x14000001 ∷ 0x98000090 ∷ 0x10000071 ∷ 0x8b110210 ∷ 0xd61f0200 ∷ 4 ∷ 0xd65f03c0 ∷ []) (0 ∷ 4 ∷ 24 ∷ 24 ∷ []) ((L1, 24) ∷ []) ((4, 24) ∷ []) 28 code
      → IsAssembled frame flags constants force at_a_place code → ⊥
  no_contents_at_a_place is a =
      let f : IsFilledIsland frame flags at_a_place constants code (4, 24) = island_holds frame flags constants force code at_a_place _ _ _ _ _ is a 0 (omega arith) in
      behind f.after f.within f.stands
    where
      behind : (k : ℕ) → k < 4 → IsIslandAfter frame flags at_a_place code k (4, 24) → ⊥
      behind zero w s = omega (arith, s.ends, station _ 1 is.places_are)
      behind (suc zero) w s = no_jump _ 4 24 is.bytes refl (s.jumped refl).0
      behind (suc (suc zero)) w s = let size : length (get_or (map (cells_of frame flags) at_a_place) 2 []) ≡ 0 = refl in omega (arith, s.begins, station _ 2 is.places_are, size)
      behind (suc (suc (suc zero))) w s = let size : length (get_or (map (cells_of frame flags) at_a_place) 3 []) ≡ 1 = refl in omega (arith, s.begins, station _ 3 is.places_are, size)
      behind (suc (suc (suc (suc k)))) w s = omega (arith, w)

  -- an island behind an item that falls does
  abbrev behind_a_nop : List Item
  behind_a_nop = Emit (insts.Jump (targets.Label L1)) None ∷ Emit insts.Nop4 None ∷ Bind L1 ∷ Emit insts.Ret None ∷ []

  pub no_contents_behind_a_nop : IsThis (0x14000002 ∷ 0xd503201f ∷ 0x98000090 ∷ 0x10000071 ∷ 0x8b110210 ∷ 0xd61f0200 ∷ 4 ∷ 0xd65f03c0 ∷ []) (0 ∷ 4 ∷ 28 ∷ 28 ∷ []) ((L1, 28) ∷ []) ((8, 28) ∷ []) 32 code
      → IsAssembled frame flags constants force behind_a_nop code → ⊥
  no_contents_behind_a_nop is a =
      let f : IsFilledIsland frame flags behind_a_nop constants code (8, 28) = island_holds frame flags constants force code behind_a_nop _ _ _ _ _ is a 0 (omega arith) in
      behind f.after f.within f.stands
    where
      behind : (k : ℕ) → k < 4 → IsIslandAfter frame flags behind_a_nop code k (8, 28) → ⊥
      behind zero w s = let size : length (get_or (map (cells_of frame flags) behind_a_nop) 0 []) ≡ 1 = refl in omega (arith, s.begins, station _ 0 is.places_are, size)
      behind (suc zero) w s = no_jump _ 8 28 is.bytes refl (s.jumped refl).0
      behind (suc (suc zero)) w s = let size : length (get_or (map (cells_of frame flags) behind_a_nop) 2 []) ≡ 0 = refl in omega (arith, s.begins, station _ 2 is.places_are, size)
      behind (suc (suc (suc zero))) w s = let size : length (get_or (map (cells_of frame flags) behind_a_nop) 3 []) ≡ 1 = refl in omega (arith, s.begins, station _ 3 is.places_are, size)
      behind (suc (suc (suc (suc k)))) w s = omega (arith, w)

  -- an island behind an item that never falls begins with a jump
  abbrev behind_a_jump : List Item
  behind_a_jump = Emit (insts.Jump (targets.Label L1)) None ∷ Bind L1 ∷ Emit insts.Ret None ∷ []

  abbrev jump_site : Site
  jump_site = record { kind = uses.Branch26; target = Label L1 }

  module _ (is : IsThis (0x14000002 ∷ 0x14000006 ∷ 0x98000090 ∷ 0x10000071 ∷ 0x8b110210 ∷ 0xd61f0200 ∷ 4 ∷ 0xd65f03c0 ∷ []) (0 ∷ 28 ∷ 28 ∷ []) ((L1, 28) ∷ []) ((4, 28) ∷ []) 32 code) where
    -- nothing but the jump has a use
    only_jump : (u : ℕ × Site) → IsCellUse (standing (map (cells_of frame flags) behind_a_jump) code.places.items) u → u ≡ (0, jump_site)
    only_jump u use' = go (subst (λ ps. IsCellUse (standing (map (cells_of frame flags) behind_a_jump) ps) u) is.places_are use')
      where
        go : IsCellUse (standing (map (cells_of frame flags) behind_a_jump) (0 ∷ 28 ∷ 28 ∷ [])) u → u ≡ (0, jump_site)
        go (s, (zero, w, e), place, site) =
            let at : s.0 ≡ 0 = ap (λ (x : ℕ × Cell). x.0) (sym e) in
            let of : s.1.site ≡ Some jump_site = ap (λ (x : ℕ × Cell). x.1.site) (sym e) in
            ap (λ k. (k, u.1)) (sym place ∙ at) ∙ ap (λ (t : Site). (0, t)) (some_same (sym site ∙ of))
        go (s, (suc zero, w, e), place, site) = absurd (let none : None ≡ Some u.1 = ap (λ (x : ℕ × Cell). x.1.site) e ∙ site in cc)
        go (s, (suc (suc k), w, e), place, site) = absurd (omega (arith, w))

    -- and it stops behind the front of the island
    no_piece : (u : ℕ × Site) → u ≡ (0, jump_site) → HasPiece constants code 4 u → ⊥
    no_piece u e piece =
        let stops : pos 0 +ℤ distance_in uses.Branch26 (word_at code.bytes.items 0) ≡ pos 4 = (subst (HasPiece constants code 4) e piece).stops in
        let goes : pos 8 ≡ pos 4 = ap (λ (bs : List ℕ). pos 0 +ℤ distance_in uses.Branch26 (word_at bs 0)) (sym is.bytes) ∙ stops in
        absurd cc

    no_use : (u : ℕ × Site) → IsWanting frame flags behind_a_jump code u.0 u.1 → HasPiece constants code 4 u → ⊥
    no_use u w piece = elim w.is [
      | inl use' ↦ no_piece u (only_jump u use') piece
      | inr veneer ↦
          let kind : veneer.1.kind ≡ uses.Branch26 = ap (λ (x : ℕ × Site). x.1.kind) (only_jump (veneer.1.user, record { kind = veneer.1.kind; target = u.1.target }) veneer.1.use') in
          elim veneer.1.short [ inl short ↦ absurd (let same : uses.Branch14 ≡ uses.Branch26 = sym short ∙ kind in cc) | inr short ↦ absurd (let same : uses.Branch19 ≡ uses.Branch26 = sym short ∙ kind in cc) ]
    ]

    no_served : (served : List (ℕ × Site)) → All (λ u. IsWanting frame flags behind_a_jump code u.0 u.1) served → Fills constants code 4 served 28 → ⊥
    no_served [] wanting fills = omega (arith, fills)
    no_served (u ∷ us) wanting fills = no_use u (wanting 0 u (omega arith)) fills.0

    pub no_jump_behind_a_jump : IsAssembled frame flags constants force behind_a_jump code → ⊥
    no_jump_behind_a_jump a =
        let f : IsFilledIsland frame flags behind_a_jump constants code (4, 28) = island_holds frame flags constants force code behind_a_jump _ _ _ _ _ is a 0 (omega arith) in
        behind f.after f.within f.stands (λ e. no_served f.holds.served f.holds.uses_are (subst (λ k. Fills constants code (4 + front_size (falls_at behind_a_jump k)) f.holds.served 28) e f.holds.fills))
      where
        behind : (k : ℕ) → k < 3 → IsIslandAfter frame flags behind_a_jump code k (4, 28) → (k ≡ 0 → ⊥) → ⊥
        behind zero w s first = first refl
        behind (suc zero) w s first = let size : length (get_or (map (cells_of frame flags) behind_a_jump) 1 []) ≡ 0 = refl in omega (arith, s.begins, station _ 1 is.places_are, size)
        behind (suc (suc zero)) w s first = let size : length (get_or (map (cells_of frame flags) behind_a_jump) 2 []) ≡ 1 = refl in omega (arith, s.begins, station _ 2 is.places_are, size)
        behind (suc (suc (suc k))) w s first = omega (arith, w)
