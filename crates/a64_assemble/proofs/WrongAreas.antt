-- Finished codes whose uses stop at pieces that are not theirs, which the pieces of an area refuse.
use Rattle.std.proofs.Common.{ℕ, zero, suc, pos, ◌≡◌, ◌≢◌, ◌+◌, ◌*◌, ◌/◌, ◌%◌, ◌<◌, ◌≤◌, true, List, [], ◌∷◌, ◌++◌, length, get_or, map, Option, None, Some, refl, sym, ap, ◌∙◌, subst, arith, inl, inr}
use Rattle.std.specs.Prelude.{Contains, IsSome}
use Rattle.std.specs.Option.{unwrap_or}
use Rattle.std.specs.Ordering.{nat_cmp}
use Rattle.std.specs.FinMap.{FinMap, get}
use Rattle.std.proofs.lemmas.Bool.{false≢true}
use Rattle.std.proofs.lemmas.List.{length-append, get_or_append_left, get_or_default}
use Rattle.a64_base.specs.declared.cond.Cond.TheVariants.{Eq}
use Rattle.a64_base.specs.declared.cond.CondBrKind.TheVariants.{Cond}
use Rattle.a64_base.specs.declared.entity.MachLabel.{MachLabel}
use Rattle.a64_base.specs.declared.entity.TrapCode.{TrapCode}
use Rattle.a64_base.specs.declared.reg.Reg.{Reg}
use Rattle.a64_base.specs.declared.target.BranchTarget.TheVariants as targets
use Rattle.a64_inst.specs.declared.emission.EmitFlags.{EmitFlags}
use Rattle.a64_inst.specs.declared.frame.FrameLayout.{FrameLayout}
use Rattle.a64_inst.specs.declared.inst.Inst.TheVariants as insts
use Rattle.a64_inst.specs.declared.item.Item.{Item}
use Rattle.a64_inst.specs.declared.item.Item.TheVariants.{Bind, Emit}
use Rattle.a64_inst.specs.declared.mode.AMode.TheVariants as modes
use Rattle.a64_buffer.specs.declared.force.ForceVeneers.{ForceVeneers}
use Rattle.a64_buffer.specs.declared.site.Target.TheVariants.{Label, Constant, Trap}
use Rattle.a64_buffer.specs.Classes.{wants}
use Rattle.a64_buffer.specs.Kinds.{GoesTo}
use Rattle.a64_buffer.specs.Chain.{constant_of}
use Rattle.a64_buffer.specs.Pieces.{front_size}
use Rattle.a64_words.specs.Word.{outside, word_at}
use Rattle.a64_buffer.proofs.Serving.{label_no_constant}
use Rattle.a64_emit.specs.declared.code.Code.{Code}
use Rattle.a64_cells.specs.declared.site.Site.{Site}
use Rattle.a64_label_use.specs.declared.label_use.LabelUse.TheVariants as uses
use Rattle.a64_label_use.specs.LabelUses.{label_kinds, mask_for}
use Rattle.a64_cells.specs.Shapes.{Cell, plain}
use Rattle.a64_cells.specs.Cells.{cells_of}
use Rattle.a64_emit.specs.Contents.{site_class, order_of, IsCellUse, IsFarOff}
use Rattle.a64_emit.specs.Layout.{standing, IsIslandAfter}
use Rattle.a64_emit.specs.Leads.{areas}
use Rattle.a64_rows.specs.Control.{branch_reg}
use Rattle.a64_assemble.specs.Placement.{IsLabelAt, IsWanting}
use Rattle.a64_assemble.specs.Fillings.{StopsBetween, StopsBy, HoldsPieces, IsFilledIsland}
use Rattle.a64_assemble.specs.Assembled.{IsAssembled}
use Rattle.a64_assemble.proofs.Needing.{some_same}
use Rattle.a64_assemble.proofs.WrongPieces.{each_its_own, in_turn, none_at_jump, none_unserved}
use Rattle.a64_emit.specs.Falls.{falls_at}

-- words as bytes, the least first
abbrev pub in_bytes : List ℕ → List ℕ
in_bytes [] = []
in_bytes (w ∷ ws) = w % 256 ∷ w / 256 % 256 ∷ w / 65536 % 256 ∷ w / 16777216 % 256 ∷ in_bytes ws

no_cell : ℕ × Cell
no_cell = (0, plain (branch_reg (record { opc = 0; rn = 0 })))

cell_at : (cells : List (ℕ × Cell)) (k : ℕ) (u : ℕ × Site) → k < length cells → (get_or cells k no_cell).0 ≡ u.0 → (get_or cells k no_cell).1.site ≡ Some u.1 → IsCellUse cells u
cell_at cells k u within place site = (get_or cells k no_cell, (k, within, get_or_default cells k (get_or cells k no_cell) no_cell within), place, site)

other_constant : (m n : ℕ) → m ≢ n → Constant (record { 0 = m }) ≡ Constant (record { 0 = n }) → ⊥
other_constant m n ne e = ne (ap (λ t. unwrap_or (constant_of t) 0) e)

-- a code of these words, with items at these places, and labels
pub record IsThis (words places : List ℕ) (labels : List (MachLabel × ℕ)) (islands : List (ℕ × ℕ)) (pool : ℕ) (code : Code) : Type 0 where
  pub bytes : code.bytes.items ≡ in_bytes words
  pub places_are : code.places.items ≡ places
  pub labels_are : code.labels.items ≡ labels
  pub islands_are : code.islands.items ≡ islands
  pub pool_is : code.pool ≡ pool

module _ (frame : FrameLayout) (flags : EmitFlags) (constants : FinMap nat_cmp (List ℕ)) (force : ForceVeneers) (code : Code) where
  module _ (items : List Item) (words places : List ℕ) (labels : List (MachLabel × ℕ)) (islands : List (ℕ × ℕ)) (pool : ℕ) (is : IsThis words places labels islands pool code) where
    abbrev cells_there : List (ℕ × Cell)
    cells_there = standing (map (cells_of frame flags) items) places

    -- its areas
    pool_holds : IsAssembled frame flags constants force items code → HoldsPieces frame flags items constants code pool pool (length (in_bytes words)) (IsFarOff constants code)
    pool_holds a =
        subst (λ n. HoldsPieces frame flags items constants code n n (length (in_bytes words)) (IsFarOff constants code)) is.pool_is
        (subst (λ n. HoldsPieces frame flags items constants code code.pool code.pool n (IsFarOff constants code)) (ap length is.bytes) a.pool)

    pub island_holds : IsAssembled frame flags constants force items code → (i : ℕ) → i < length islands → IsFilledIsland frame flags items constants code (get_or islands i (0, 0))
    island_holds a i within =
        subst (IsFilledIsland frame flags items constants code) (ap (λ (is : List (ℕ × ℕ)). get_or is i (0, 0)) is.islands_are)
        (a.filled i (0, 0) (omega (arith, within, ap length is.islands_are)))

    module _ (begin to : ℕ) where
      -- the use of a cell stops at a place of an area
      cell_stops : (u : ℕ × Site) (stop : ℕ) → wants (site_class u.1) ≡ true → IsCellUse cells_there u → GoesTo label_kinds u.1.kind 0 (word_at (in_bytes words) u.0) u.0 stop → begin ≤ stop → stop < to
          → (IsLabelAt frame flags items code u stop → ⊥) → StopsBetween frame flags items constants code begin to u stop
      cell_stops u stop want use' goes from before away = record {
        is = record { wanting = want; is = inl (subst (λ ps. IsCellUse (standing (map (cells_of frame flags) items) ps) u) (sym is.places_are) use') };
        stops = subst (λ bytes. GoesTo label_kinds u.1.kind 0 (word_at bytes u.0) u.0 stop) (sym is.bytes) goes;
        from = from;
        before = before;
        away = away;
      }

      -- a jump word of island i at which a branch stops, as a veneer word, stops there too
      veneer_stops : (place : ℕ) (label : MachLabel) (stop i user : ℕ) → i < length islands → (get_or islands i (0, 0)).0 ≤ place → place + 4 ≤ (get_or islands i (0, 0)).1
          → outside (mask_for uses.Branch26) (word_at (in_bytes words) place) ≡ 0x14000000 → IsCellUse cells_there (user, record { kind = uses.Branch19; target = Label label })
          → GoesTo label_kinds uses.Branch19 0 (word_at (in_bytes words) user) user place → ((island : ℕ × ℕ) → Contains islands island → place ≡ island.0 → ⊥) → (Contains labels (label, place) → ⊥)
          → GoesTo label_kinds uses.Branch26 0 (word_at (in_bytes words) place) place stop → begin ≤ stop → stop < to → (Contains labels (label, stop) → ⊥)
          → StopsBetween frame flags items constants code begin to (place, record { kind = uses.Branch26; target = Label label }) stop
      veneer_stops place label stop i user within low high word use' stops not_over away goes from before elsewhere =
          let area_is : get_or (areas code) i (0, 0) ≡ get_or islands i (0, 0) = ap (λ is. get_or (is ++ (code.pool, length code.bytes.items) ∷ []) i (0, 0)) is.islands_are ∙ get_or_append_left islands ((code.pool, length code.bytes.items) ∷ []) (0, 0) i within in
          record {
            is = record {
              wanting = refl;
              is = inr (
                refl,
                record {
                  area = record {
                    index = i;
                    within = omega (arith, within, ap length is.islands_are, length-append code.islands.items ((code.pool, length code.bytes.items) ∷ []));
                    begins = omega (arith, low, ap (λ (a : ℕ × ℕ). a.0) area_is);
                    ends = omega (arith, high, ap (λ (a : ℕ × ℕ). a.1) area_is);
                  };
                  word = subst (λ bytes. outside (mask_for uses.Branch26) (word_at bytes place) ≡ 0x14000000) (sym is.bytes) word;
                  labelled = refl;
                  user = user;
                  kind = uses.Branch19;
                  short = inr refl;
                  use' = subst (λ ps. IsCellUse (standing (map (cells_of frame flags) items) ps) (user, record { kind = uses.Branch19; target = Label label })) (sym is.places_are) use';
                  stops = subst (λ bytes. GoesTo label_kinds uses.Branch19 0 (word_at bytes user) user place) (sym is.bytes) stops;
                  not_over = λ island k there falls begins. not_over island (subst (λ is. Contains is island) is.islands_are there.listed) begins;
                  away = λ there. away (subst (λ (ls : List (MachLabel × ℕ)). Contains ls (label, place)) is.labels_are there);
                },
              );
            };
            stops = subst (λ bytes. GoesTo label_kinds uses.Branch26 0 (word_at bytes place) place stop) (sym is.bytes) goes;
            from = from;
            before = before;
            away = λ there. elsewhere (subst (λ (ls : List (MachLabel × ℕ)). Contains ls (label, stop)) is.labels_are there);
          }

  bytes_long : (n : ℕ) (content : List ℕ) → get constants n ≡ Some content → length (unwrap_or (get constants n) []) ≡ length content
  bytes_long n content e = ap (λ (o : Option (List ℕ)). length (unwrap_or o [])) e

  -- ---- in the pool

  -- the load of a constant, 0 or 1, which stands at 0 or at 4
  abbrev load_of : ℕ → ℕ × Site
  load_of n = (4 * n, record { kind = uses.Ldr19; target = Constant (record { 0 = n }) })

  -- where two items are such loads, the copy of the first constant stands before the place at which the second stops
  module _ (items : List Item) (words : List ℕ) (c d : Cell) (are : standing (map (cells_of frame flags) items) (0 ∷ 4 ∷ []) ≡ (0, c) ∷ (4, d) ∷ []) (site_c : c.site ≡ Some (load_of 0).1) (site_d : d.site ≡ Some (load_of 1).1) (is : IsThis words (0 ∷ 4 ∷ []) [] [] 8 code) where
    abbrev IsCell : ℕ × Site → Type 0
    IsCell a = IsCellUse (standing (map (cells_of frame flags) items) (0 ∷ 4 ∷ [])) a

    there : (n : ℕ) → n < 2 → IsCell (load_of n)
    there n less = subst (λ cells. IsCellUse cells (load_of n)) (sym are) (at n less)
      where
        at : (n : ℕ) → n < 2 → IsCellUse ((0, c) ∷ (4, d) ∷ []) (load_of n)
        at zero less = cell_at ((0, c) ∷ (4, d) ∷ []) 0 (load_of 0) (omega arith) refl site_c
        at (suc zero) less = cell_at ((0, c) ∷ (4, d) ∷ []) 1 (load_of 1) (omega arith) refl site_d
        at (suc (suc n)) less = absurd (omega (arith, less))

    -- no other use loads one of the two
    lone : (n : ℕ) (a : ℕ × Site) → IsWanting frame flags items code a.0 a.1 → a.1.target ≡ (load_of n).1.target → a ≡ load_of n
    lone n a w same = elim w.is [
      | inl e ↦ either (subst (λ cells. IsCellUse cells a) are (subst (λ ps. IsCellUse (standing (map (cells_of frame flags) items) ps) a) is.places_are e))
      | inr veneer ↦ absurd (label_no_constant a.1.target veneer.1.labelled (subst (λ t. IsSome (constant_of t)) (sym same) refl))
    ]
      where
        one : (m : ℕ) (s : ℕ × Cell) → s.0 ≡ (load_of m).0 → s.1.site ≡ Some (load_of m).1 → s.0 ≡ a.0 → s.1.site ≡ Some a.1 → a ≡ load_of n
        one m s at_m is_m place site =
            let a_is : a ≡ load_of m = ap (λ k. (k, a.1)) (sym place ∙ at_m) ∙ ap (λ t. ((load_of m).0, t)) (some_same (sym site ∙ is_m)) in
            a_is ∙ ap load_of (ap (λ t. unwrap_or (constant_of t) 0) (sym (ap (λ (x : ℕ × Site). x.1.target) a_is) ∙ same))

        either : IsCellUse ((0, c) ∷ (4, d) ∷ []) a → a ≡ load_of n
        either (s, (zero, w, e), place, site) = one 0 s (ap (λ (x : ℕ × Cell). x.0) (sym e)) (ap (λ (x : ℕ × Cell). x.1.site) (sym e) ∙ site_c) place site
        either (s, (suc zero, w, e), place, site) = one 1 s (ap (λ (x : ℕ × Cell). x.0) (sym e)) (ap (λ (x : ℕ × Cell). x.1.site) (sym e) ∙ site_d) place site
        either (s, (suc (suc k), w, e), place, site) = absurd (omega (arith, w))

    -- so whatever has the piece by which a load stops is that load
    itself : (n stop : ℕ) (a : ℕ × Site) → IsWanting frame flags items code a.0 a.1 → StopsBy frame flags items constants code stop (load_of n) a → a ≡ load_of n
    itself n stop a w (inl e) = e
    itself n stop a w (inr copy) = lone n a w copy.1

    -- where the word of a load leads
    abbrev LoadGoes : ℕ → ℕ → Type 0
    LoadGoes n stop = GoesTo label_kinds uses.Ldr19 0 (word_at (in_bytes words) (4 * n)) (4 * n) stop

    pub copies_in_turn :
        (s t : ℕ) → LoadGoes 0 s → LoadGoes 1 t → 8 ≤ s → s < length (in_bytes words) → 8 ≤ t → t < length (in_bytes words)
        → IsAssembled frame flags constants force items code → s + length (unwrap_or (get constants 0) []) ≤ t
    copies_in_turn s t goes_s goes_t low_s high_s low_t high_t a =
        let stops = cell_stops items _ _ _ _ _ is 8 (length (in_bytes words)) in
        in_turn frame flags items constants code 8 8 (length (in_bytes words)) _ (pool_holds items _ _ _ _ _ is a) (load_of 0) (load_of 1) s t
        (stops (load_of 0) s refl (there 0 (omega arith)) goes_s low_s high_s (λ e. e))
        (stops (load_of 1) t refl (there 1 (omega arith)) goes_t low_t high_t (λ e. e))
        (λ a b wa wb by_a by_b. omega (arith, ap order_of (itself 0 s a wa by_a), ap order_of (itself 1 t b wb by_b)))

  module _ (rd : Reg) (trap : Option TrapCode) where
    -- one copy for two constants with the same bytes
    abbrev two_loads : List Item
    two_loads =
        Emit (insts.FpuLoad64 rd (modes.Const (record { 0 = 0 })) trap) None
        ∷ Emit (insts.FpuLoad64 rd (modes.Const (record { 0 = 1 })) trap) None ∷ []

    pub no_copy_for_two : IsThis (0x5c000040 ∷ 0x5c000021 ∷ 0x04030201 ∷ 0x08070605 ∷ []) (0 ∷ 4 ∷ []) [] [] 8 code
        → get constants 0 ≡ Some (1 ∷ 2 ∷ 3 ∷ 4 ∷ 5 ∷ 6 ∷ 7 ∷ 8 ∷ []) → get constants 1 ≡ Some (1 ∷ 2 ∷ 3 ∷ 4 ∷ 5 ∷ 6 ∷ 7 ∷ 8 ∷ [])
        → IsAssembled frame flags constants force two_loads code → ⊥
    no_copy_for_two is first second a =
        let le = copies_in_turn two_loads _ _ _ refl refl refl is 8 8 refl refl (omega arith) (omega arith) (omega arith) (omega arith) a in
        omega (arith, le, bytes_long 0 _ first)

    -- a load into a part of the copy of another constant
    abbrev load_of_part : List Item
    load_of_part =
        Emit (insts.FpuLoad64 rd (modes.Const (record { 0 = 0 })) trap) None
        ∷ Emit (insts.FpuLoad32 rd (modes.Const (record { 0 = 1 })) trap) None ∷ []

    pub no_load_of_part : IsThis (0x5c000040 ∷ 0x1c000041 ∷ 0x04030201 ∷ 0x08070605 ∷ []) (0 ∷ 4 ∷ []) [] [] 8 code
        → get constants 0 ≡ Some (1 ∷ 2 ∷ 3 ∷ 4 ∷ 5 ∷ 6 ∷ 7 ∷ 8 ∷ []) → IsAssembled frame flags constants force load_of_part code → ⊥
    no_load_of_part is first a =
        let le = copies_in_turn load_of_part _ _ _ refl refl refl is 8 12 refl refl (omega arith) (omega arith) (omega arith) (omega arith) a in
        omega (arith, le, bytes_long 0 _ first)

    -- a load into the zero words that align the copy of another constant
    abbrev load_of_zeros : List Item
    load_of_zeros =
        Emit (insts.FpuLoad128 rd (modes.Const (record { 0 = 0 })) trap) None
        ∷ Emit (insts.FpuLoad32 rd (modes.Const (record { 0 = 1 })) trap) None ∷ []

    pub no_load_of_zeros : IsThis (0x9c000080 ∷ 0x1c000021 ∷ 0 ∷ 0 ∷ 0x04030201 ∷ 0x08070605 ∷ 0x0c0b0a09 ∷ 0x100f0e0d ∷ []) (0 ∷ 4 ∷ []) [] [] 8 code
        → IsAssembled frame flags constants force load_of_zeros code → ⊥
    no_load_of_zeros is a =
        let le = copies_in_turn load_of_zeros _ _ _ refl refl refl is 16 8 refl refl (omega arith) (omega arith) (omega arith) (omega arith) a in
        omega (arith, le)

    -- a constant that is a trap word
    abbrev load_and_trap : List Item
    load_and_trap = Emit (insts.FpuLoad32 rd (modes.Const (record { 0 = 0 })) trap) None ∷ Emit (insts.TrapIf (Cond Eq) (record { 0 = 5 })) None ∷ []

    pub no_trap_in_copy : IsThis (0x1c000040 ∷ 0x54000020 ∷ 0x0000c11f ∷ []) (0 ∷ 4 ∷ []) [] [] 8 code
        → get constants 0 ≡ Some (0x1f ∷ 0xc1 ∷ 0 ∷ 0 ∷ []) → IsAssembled frame flags constants force load_and_trap code → ⊥
    no_trap_in_copy is first a =
        let h = pool_holds load_and_trap _ _ _ _ _ is a in
        let cells : List (ℕ × Cell) = standing (map (cells_of frame flags) load_and_trap) (0 ∷ 4 ∷ []) in
        let u : ℕ × Site = (0, record { kind = uses.Ldr19; target = Constant (record { 0 = 0 }) }) in
        let v : ℕ × Site = (4, record { kind = uses.Branch19; target = Trap (record { 0 = 5 }) }) in
        let su = cell_stops load_and_trap _ _ _ _ _ is 8 12 u 8 refl (cell_at cells 0 u (omega arith) refl refl) refl (omega arith) (omega arith) (λ e. e) in
        let sv = cell_stops load_and_trap _ _ _ _ _ is 8 12 v 8 refl (cell_at cells 1 v (omega arith) refl refl) refl (omega arith) (omega arith) (λ e. e) in
        elim (each_its_own frame flags load_and_trap constants code 8 8 12 _ h u v 8 8 su sv (λ e. omega (arith, e)) (λ s e. cc)) [
          | inl le ↦ absurd (omega (arith, le, bytes_long 0 _ first))
          | inr le ↦ absurd (omega (arith, le))
        ]

  -- ---- in an island

  abbrev L1 : MachLabel
  L1 = record { 0 = 1 }

  labelled_at : (p q : ℕ) → Contains {X = MachLabel × ℕ} ((L1, p) ∷ []) (L1, q) → p ≡ q
  labelled_at p q (zero, w, e) = ap (λ (x : MachLabel × ℕ). x.1) e
  labelled_at p q (suc k, w, e) = absurd (omega (arith, w))

  -- a far veneer for a branch and for the jump word of another
  abbrev two_branches : List Item
  two_branches = Emit (insts.CondBr (targets.Label L1) (targets.Label L1) (Cond Eq)) None ∷ Emit (insts.EmitIsland 0) None ∷ Bind L1 ∷ Emit insts.Ret None ∷ []

  pub no_veneer_for_two : IsThis (0x54000060 ∷ 0x14000003 ∷ 0x14000007 ∷ 0x14000001 ∷ 0x98000090 ∷ 0x10000071 ∷ 0x8b110210 ∷ 0xd61f0200 ∷ 4 ∷ 0xd65f03c0 ∷ []) (0 ∷ 8 ∷ 36 ∷ 36 ∷ []) ((L1, 36) ∷ []) ((8, 36) ∷ []) 40 code
      → IsAssembled frame flags constants force two_branches code → ⊥
  no_veneer_for_two is a =
      let h = (island_holds two_branches _ _ _ _ _ is a 0 (omega arith)).holds in
      let cells : List (ℕ × Cell) = standing (map (cells_of frame flags) two_branches) (0 ∷ 8 ∷ 36 ∷ 36 ∷ []) in
      let u : ℕ × Site = (4, record { kind = uses.Branch26; target = Label L1 }) in
      let v : ℕ × Site = (12, record { kind = uses.Branch26; target = Label L1 }) in
      let su = cell_stops two_branches _ _ _ _ _ is 8 36 u 16 refl (cell_at cells 1 u (omega arith) refl refl) refl (omega arith) (omega arith)
      (λ there. let at = labelled_at 36 16 (subst (λ (ls : List (MachLabel × ℕ)). Contains ls (L1, 16)) is.labels_are there) in omega (arith, at)) in
      let sv = veneer_stops two_branches _ _ _ _ _ is 8 36 12 L1 16 0 0 (omega arith) (omega arith) (omega arith) refl
      (cell_at cells 0 (0, record { kind = uses.Branch19; target = Label L1 }) (omega arith) refl refl) refl over
      (λ there. let at = labelled_at 36 12 there in omega (arith, at)) refl (omega arith) (omega arith)
      (λ there. let at = labelled_at 36 16 there in omega (arith, at)) in
      elim (each_its_own frame flags two_branches constants code 8 _ 36 _ h u v 16 16 su sv (λ e. omega (arith, e)) (λ s e. cc)) [
        | inl le ↦ absurd (omega (arith, le))
        | inr le ↦ absurd (omega (arith, le))
      ]
    where
      over : (island : ℕ × ℕ) → Contains ((8, 36) ∷ []) island → 12 ≡ island.0 → ⊥
      over island (zero, w, e) at = omega (arith, at, ap (λ (x : ℕ × ℕ). x.0) e)
      over island (suc k, w, e) at = omega (arith, w)

  -- the jump over an island for the veneer of a branch
  abbrev one_branch : List Item
  one_branch = Emit (insts.CondBr (targets.Label L1) (targets.ResolvedOffset (pos 12)) (Cond Eq)) None ∷ Emit (insts.EmitIsland 0) None ∷ Bind L1 ∷ Emit insts.Ret None ∷ []

  pub no_veneer_at_jump : IsThis (0x54000040 ∷ 0x14000003 ∷ 0x14000001 ∷ 0xd65f03c0 ∷ []) (0 ∷ 8 ∷ 12 ∷ 12 ∷ []) ((L1, 12) ∷ []) ((8, 12) ∷ []) 16 code
      → IsAssembled frame flags constants force one_branch code → ⊥
  no_veneer_at_jump is a =
      let f : IsFilledIsland frame flags one_branch constants code (8, 12) = island_holds one_branch _ _ _ _ _ is a 0 (omega arith) in
      let cells : List (ℕ × Cell) = standing (map (cells_of frame flags) one_branch) (0 ∷ 8 ∷ 12 ∷ 12 ∷ []) in
      let u : ℕ × Site = (0, record { kind = uses.Branch19; target = Label L1 }) in
      let su = cell_stops one_branch _ _ _ _ _ is 8 12 u 8 refl (cell_at cells 0 u (omega arith) refl refl) refl (omega arith) (omega arith)
      (λ there. let at = labelled_at 12 8 (subst (λ (ls : List (MachLabel × ℕ)). Contains ls (L1, 8)) is.labels_are there) in omega (arith, at)) in
      none_at_jump frame flags one_branch constants code 8 _ 12 _ f.holds u 8 su (omega (arith, ap front_size (goes_on f.after f.within f.stands)))
    where
      -- behind `Ret` it does not stand
      goes_on : (k : ℕ) → k < 4 → IsIslandAfter frame flags one_branch code k (8, 12) → falls_at one_branch k ≡ true
      goes_on zero w s = refl
      goes_on (suc zero) w s = refl
      goes_on (suc (suc zero)) w s = refl
      goes_on (suc (suc (suc zero))) w s =
          let place : get_or (code.places.items ++ code.pool ∷ []) 3 0 ≡ 12 = ap (λ (ps : List ℕ). get_or (ps ++ code.pool ∷ []) 3 0) is.places_are in
          let long : length (get_or (map (cells_of frame flags) one_branch) 3 []) ≡ 1 = refl in
          absurd (omega (arith, s.begins, place, long))
      goes_on (suc (suc (suc (suc k)))) w s = absurd (omega (arith, w))

  -- a jump word that goes back to the far veneer of an older island, which may serve what stands before its end alone
  abbrev two_islands : List Item
  two_islands =
      Emit (insts.Jump (targets.Label L1)) None
      ∷ Emit (insts.EmitIsland 0) None
      ∷ Emit (insts.CondBr (targets.Label L1) (targets.ResolvedOffset (pos 12)) (Cond Eq)) None
      ∷ Emit (insts.EmitIsland 0) None
      ∷ Bind L1
      ∷ Emit insts.Ret None ∷ []

  pub no_jump_back : IsThis (0x14000002 ∷ 0x14000006 ∷ 0x98000090 ∷ 0x10000071 ∷ 0x8b110210 ∷ 0xd61f0200 ∷ 0x14 ∷ 0x54000060 ∷ 0x14000003 ∷ 0x14000002 ∷ 0x17fffff8 ∷ 0xd65f03c0 ∷ []) (0 ∷ 4 ∷ 28 ∷ 36 ∷ 44 ∷ 44 ∷ []) ((L1, 44) ∷ []) ((4, 28) ∷ (36, 44) ∷ []) 48 code
      → IsAssembled frame flags constants force two_islands code → ⊥
  no_jump_back is a =
      let f : IsFilledIsland frame flags two_islands constants code (4, 28) = island_holds two_islands _ _ _ _ _ is a 0 (omega arith) in
      let cells : List (ℕ × Cell) = standing (map (cells_of frame flags) two_islands) (0 ∷ 4 ∷ 28 ∷ 36 ∷ 44 ∷ 44 ∷ []) in
      let u : ℕ × Site = (40, record { kind = uses.Branch26; target = Label L1 }) in
      let su = veneer_stops two_islands _ _ _ _ _ is 4 28 40 L1 8 1 28 (omega arith) (omega arith) (omega arith) refl
      (cell_at cells 1 (28, record { kind = uses.Branch19; target = Label L1 }) (omega arith) refl refl) refl over
      (λ there. let at = labelled_at 44 40 there in omega (arith, at)) refl (omega arith) (omega arith)
      (λ there. let at = labelled_at 44 8 there in omega (arith, at)) in
      none_unserved frame flags two_islands constants code 4 _ 28 _ f.holds u 8 su (λ v by may. later v by may.0.before)
    where
      over : (island : ℕ × ℕ) → Contains ((4, 28) ∷ (36, 44) ∷ []) island → 40 ≡ island.0 → ⊥
      over island (zero, w, e) at = omega (arith, at, ap (λ (x : ℕ × ℕ). x.0) e)
      over island (suc zero, w, e) at = omega (arith, at, ap (λ (x : ℕ × ℕ). x.0) e)
      over island (suc (suc k), w, e) at = omega (arith, w)

      later : (v : ℕ × Site) → StopsBy frame flags two_islands constants code 8 (40, record { kind = uses.Branch26; target = Label L1 }) v → v.0 < 28 → ⊥
      later v (inl e) less = omega (arith, less, ap (λ (x : ℕ × Site). x.0) e)
      later v (inr copy) less = absurd (false≢true copy.0)
