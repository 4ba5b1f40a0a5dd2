-- What a direct branch at a place does.
use Rattle.std.proofs.Common.{◌≡◌, ℕ, ℤ, pos, ◌<◌, inl, Some, None, sym, ap, subst, ◌∙◌}
use Rattle.a64_audit.specs.Entries.{Contents}
use Rattle.a64_audit.specs.Judging.{IsTarget}
use Rattle.a64_audit.specs.Verdicts.{word_at, offset_of, size, BranchesTo, IsKnown, IsFine, StaysInCode, StaysOutOfData, InData}
use Rattle.a64_rows.specs.declared.row_table.Row.{Row}
use Rattle.a64_rows.specs.Forms.{Matches}

module _ (file : Contents) (place word : ℕ) (row : Row) (is : word ≡ word_at file place) (matches : Matches row word) where
  pub known : IsKnown file place
  known = inl (row, subst (λ (w : ℕ). Matches row w) is matches)

  module _ (one_row : (other : Row) → Matches other word → other ≡ row) where
    same_row : (target : ℤ) (b : BranchesTo (word_at file place) place target) → offset_of row word ≡ Some b.offset
    same_row target b =
        let row_is : b.row ≡ row = one_row b.row (subst (λ (w : ℕ). Matches b.row w) (sym is) b.matches) in
        ap (λ (r : Row). offset_of r word) (sym row_is) ∙ ap (offset_of b.row) is ∙ b.is_offset

    -- it is none
    pub fine_without : IsTarget row word place None → IsFine file place
    fine_without none = record {
      known = known;
      in_code = λ target b. let e = same_row target b in absurd cc;
      out_of_data = λ target b. let e = same_row (pos target) b in absurd cc;
    }

    module _ (target : ℤ) (leads : IsTarget row word place (Some target)) where
      branches : BranchesTo (word_at file place) place target
      branches = record {
        row = row;
        matches = subst (λ (w : ℕ). Matches row w) is matches;
        offset = leads.0;
        is_offset = ap (offset_of row) (sym is) ∙ leads.1;
        is_target = leads.2;
      }

      only_target : (other : ℤ) → BranchesTo (word_at file place) place other → other ≡ target
      only_target other b =
          let offsets : b.offset ≡ leads.0 = (let e = same_row other b in let f = leads.1 in cc) in
          let other_is = b.is_target in
          let target_is = leads.2 in
          cc

      -- it leads out of the code
      pub out_of_code : ((t : ℕ) → target ≡ pos t → t < size file → ⊥) → ¬ StaysInCode file place
      out_of_code out stays = let inside = stays target branches in out inside.0 inside.1 inside.2

      module _ (t : ℕ) (is_t : target ≡ pos t) where
        -- it leads into the code
        pub in_code : t < size file → StaysInCode file place
        in_code less other b = (t, only_target other b ∙ is_t, less)

        -- and into data
        pub into_data : InData file t → ¬ StaysOutOfData file place
        into_data lies stays = stays t (subst (λ (z : ℤ). BranchesTo (word_at file place) place z) is_t branches) lies

        -- or not
        pub fine_outside : t < size file → (InData file t → ⊥) → IsFine file place
        fine_outside less outside = record {
          known = known;
          in_code = in_code less;
          out_of_data = λ other b lies.
              let e = only_target (pos other) b in
              let same : other ≡ t = cc in
              outside (subst (λ (n : ℕ). InData file n) same lies);
        }
