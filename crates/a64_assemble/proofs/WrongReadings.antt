-- Finished words that are not read back as what was put.
use Rattle.std.proofs.Common.{ℕ, ◌≢◌, ◌<◌, List, [], ◌∷◌, length, get_or, refl, ap, ◌∙◌, arith, bit_and}
use Rattle.a64_rows.specs.declared.row_table.Row.{Row}
use Rattle.a64_rows.specs.declared.row_table.Row.TheVariants.{Branch26, CompareBranch}
use Rattle.a64_rows.specs.declared.slots.Slot.{Slot}
use Rattle.a64_rows.specs.declared.slots.Slot.TheVariants.{Bits}
use Rattle.a64_rows.specs.Rows.{slots_of}
use Rattle.a64_rows.specs.Forms.{Form, form, IsWordOf, mask_of}
use Rattle.a64_label_use.specs.declared.label_use.LabelUse.TheVariants as uses
use Rattle.a64_label_use.specs.LabelUses.{mask_for}
use Rattle.a64_assemble.specs.ReadBack.{IsReadForm}

-- a word of another row
pub other_row : (put : Form) (mask word : ℕ) (row : Row) (values : List ℕ) → IsWordOf row values word → row ≢ put.row → IsReadForm put mask word → ⊥
other_row put mask word row values w other r = other (r.only row values w).0

-- a word that has another value in a field that does not lie under the mask
pub other_field : (put : Form) (mask word : ℕ) (values : List ℕ) (i : ℕ) (d : Slot) → IsWordOf put.row values word → i < length (slots_of put.row) → bit_and (mask_of (get_or (slots_of put.row) i d)) mask ≢ mask_of (get_or (slots_of put.row) i d) → get_or values i 0 ≢ get_or put.fields i 0 → IsReadForm put mask word → ⊥
other_field put mask word values i d w within outside_it other r = other (ap (λ fields. get_or fields i 0) (r.only put.row values w).1 ∙ r.kept i d within outside_it)

-- a jump that keeps the return address, where one was put that does not
pub jump_with_link : IsReadForm (form Branch26 (0 ∷ 0 ∷ [])) (mask_for uses.Branch26) 0x94000001 → ⊥
jump_with_link = other_field (form Branch26 (0 ∷ 0 ∷ [])) (mask_for uses.Branch26) 0x94000001 (1 ∷ 1 ∷ []) 0 (Bits 0 0) (((omega arith, (omega arith, tt)), refl), refl) (omega arith) (λ e. cc) (λ e. cc)

-- a branch on another register
pub other_register : IsReadForm (form CompareBranch (1 ∷ 0 ∷ 0 ∷ 2 ∷ [])) (mask_for uses.Branch19) 0xb4000023 → ⊥
other_register =
    other_field (form CompareBranch (1 ∷ 0 ∷ 0 ∷ 2 ∷ [])) (mask_for uses.Branch19) 0xb4000023 (1 ∷ 0 ∷ 1 ∷ 3 ∷ []) 3 (Bits 0 0) (((omega arith, (omega arith, (omega arith, (omega arith, tt)))), refl), refl) (omega arith) (λ e. cc) (λ e. cc)

-- a jump, where a branch on a register was put
pub jump_for_branch : IsReadForm (form CompareBranch (1 ∷ 0 ∷ 0 ∷ 2 ∷ [])) (mask_for uses.Branch19) 0x14000001 → ⊥
jump_for_branch = other_row (form CompareBranch (1 ∷ 0 ∷ 0 ∷ 2 ∷ [])) (mask_for uses.Branch19) 0x14000001 Branch26 (0 ∷ 1 ∷ []) (((omega arith, (omega arith, tt)), refl), refl) (λ e. cc)

-- another word, where a form without a use was put
pub other_word : IsReadForm (form Branch26 (0 ∷ 5 ∷ [])) 0 0x14000006 → ⊥
other_word = other_field (form Branch26 (0 ∷ 5 ∷ [])) 0 0x14000006 (0 ∷ 6 ∷ []) 1 (Bits 0 0) (((omega arith, (omega arith, tt)), refl), refl) (omega arith) (λ e. cc) (λ e. cc)
