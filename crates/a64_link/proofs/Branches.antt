-- The words of the row of branches with 26 bits.
use Rattle.std.proofs.Common.{ℕ, ◌≡◌, refl, sym, ap, ◌∙◌}
use Rattle.std.specs.Prelude.{bit_and}
use Rattle.std.specs.Bool.{Decides}
use Rattle.std.proofs.lemmas.Bool.{eqb-true, eq-eqb}
use Rattle.std.proofs.lemmas.Nat.{and_assoc}
use Rattle.a64_rows.specs.declared.row_table.Row.TheVariants as rows
use Rattle.a64_rows.specs.Forms.{Matches}
use Rattle.a64_words.specs.Word.{outside, mask_of}
use Rattle.a64_link.specs.Faults.{is_branch}

-- the test of checks is that of the row
pub branch_decides : (word : ℕ) → Decides (is_branch word) (Matches rows.Branch26 word)
branch_decides word = (λ t. (eqb-true _ _ t, tt, refl), λ m. eq-eqb _ _ m.0)

-- a branch that is led to another place is still one
pub branch_kept : (before after : ℕ) → outside (mask_of 0 26) after ≡ outside (mask_of 0 26) before → Matches rows.Branch26 before → Matches rows.Branch26 after
branch_kept before after same m = (fixed after ∙ ap (λ w. bit_and w 0x7c000000) same ∙ sym (fixed before) ∙ m.0, tt, refl)
  where
    fixed : (word : ℕ) → bit_and word 0x7c000000 ≡ bit_and (outside (mask_of 0 26) word) 0x7c000000
    fixed word = sym (and_assoc 0x7c000000 word 0xfc000000)
