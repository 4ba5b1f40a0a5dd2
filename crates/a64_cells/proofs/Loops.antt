-- Loops of atomic accesses, and returns that authenticate their address: what is put for their words, and that none is a use.
use Rattle.std.proofs.Common.{ℕ, zero, suc, negsuc, ◌≡◌, ◌≤◌, ◌+◌, ◌*◌, w32, of_z, to_z, Bool, List, [], ◌∷◌, ◌++◌, length, map, Option, None, refl, sym, ap, ◌∙◌, arith}
use Rattle.std.proofs.lemmas.List.{length-append, length-map, map-append}
use Rattle.std.proofs.lemmas.List.Elements.{filter_map-append}
use Rattle.a64_base.specs.declared.entity.TrapCode.{TrapCode}
use Rattle.a64_base.specs.declared.ir_type.IrType.{IrType}
use Rattle.a64_base.specs.declared.key.APIKey.{APIKey}
use Rattle.a64_base.specs.declared.reg.Reg.{Reg}
use Rattle.a64_rows.specs.Forms.{Form, form_word}
use Rattle.a64_cells.specs.Shapes.{Body, FormOf, Cell, Several, plain, last_cell, several, loop_cells}
use Rattle.a64_cells.specs.Cells.{sites_of, uses_of}
use Rattle.a64_cells.specs.ControlForms.{authenticated_ret_forms}
use Rattle.a64_cells.specs.LoopForms.{address_register, failed_register, old_register, load_exclusive_form, store_exclusive_form, back_form}
use Rattle.a64_cells.specs.Words.{as_put, put_cell, put_cells}
use Rattle.a64_cells.proofs.PutWords.{several_put}
use Rattle.a64_cells.proofs.Several.{no_uses, plain_sites, several_sites}

module _ (ty : IrType) (between : List Form) (stored : Reg) (trap : Option TrapCode) where
  abbrev load_form : Form
  load_form = load_exclusive_form ty old_register address_register

  abbrev store_form : Form
  store_form = store_exclusive_form ty failed_register stored address_register

  abbrev to_store : List Cell
  to_store = several between (FormOf store_form) None trap

  abbrev back : Cell
  back = plain (back_form (length between))

  pub loop_sites : sites_of (loop_cells ty between stored trap) ≡ []
  loop_sites =
      filter_map-append (λ cell. cell.site) to_store (back ∷ [])
      ∙ ap (λ sites. sites ++ []) (several_sites between (FormOf store_form) None trap)

  pub loop_uses : uses_of 0 (loop_cells ty between stored trap) ≡ []
  loop_uses = no_uses 0 (loop_cells ty between stored trap) loop_sites

  pub loop_length : length (loop_cells ty between stored trap) ≡ length between + 3
  loop_length =
      omega (arith, length-append to_store (back ∷ []), length-append (map plain between) (last_cell (FormOf store_form) None trap ∷ []), length-map between plain)

  -- its words, by those that are put
  pub loop_put : (load : ℕ) (first : List ℕ) (last branch : ℕ) → load ≡ form_word load_form → first ≡ map form_word between → last ≡ form_word store_form → branch ≡ form_word (back_form (length first))
      → put_cell load None trap ∷ put_cells first last None trap ++ put_cell branch None None ∷ [] ≡ map as_put (loop_cells ty between stored trap)
  loop_put load first last branch l f s b =
      let count : length first ≡ length between = ap length f ∙ length-map between form_word in
      let branch_is : branch ≡ form_word (back_form (length between)) = b ∙ ap (λ n. form_word (back_form n)) count in
      ap (λ w. put_cell w None trap ∷ put_cells first last None trap ++ put_cell branch None None ∷ []) l
      ∙ ap (λ w. put_cell (form_word load_form) None trap ∷ put_cells first last None trap ++ put_cell w None None ∷ []) branch_is
      ∙ ap (λ cells. put_cell (form_word load_form) None trap ∷ cells ++ as_put back ∷ []) (several_put first last None trap (Several between (FormOf store_form) None trap) (f, s, refl, refl))
      ∙ ap (λ cells. put_cell (form_word load_form) None trap ∷ cells) (sym (map-append as_put to_store (back ∷ [])))

-- ---- returns that authenticate their address

pub return_uses : (key : APIKey) (is_hint : Bool) → uses_of 0 (map plain (authenticated_ret_forms key is_hint)) ≡ []
return_uses key is_hint = no_uses 0 (map plain (authenticated_ret_forms key is_hint)) (plain_sites (authenticated_ret_forms key is_hint))

-- ---- the branch back

-- its offset is a number of 32 bits
pub offset_kept : (between : ℕ) → between ≤ 4 → to_z w32 (of_z w32 (negsuc (4 * between + 7))) ≡ negsuc (4 * between + 7)
offset_kept zero few = refl
offset_kept (suc zero) few = refl
offset_kept (suc (suc zero)) few = refl
offset_kept (suc (suc (suc zero))) few = refl
offset_kept (suc (suc (suc (suc zero)))) few = refl
offset_kept (suc (suc (suc (suc (suc n))))) few = absurd (omega (arith, few))
