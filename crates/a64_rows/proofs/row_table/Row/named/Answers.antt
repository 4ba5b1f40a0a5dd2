use Rattle.std.proofs.Common.{ℕ, ◌≡◌, ◌<◌, false, inl, inr, List, get_or, map, length, sym, ◌∙◌, ap, subst, arith}
use Rattle.std.proofs.lemmas.Bool.{cases_lt, false≢true}
use Rattle.std.proofs.lemmas.Cmp.{nat_list_eq_equiv}
use Rattle.std.proofs.lemmas.List.{length-map, get_or-map}
use Rattle.std.specs.Cmp.Lexicographic.{pointwise}
use Rattle.std.proofs.Math.Dec.{eqb}
use Rattle.a64_rows.specs.declared.row_table.Row.TheVariants.{AddSubReg}
use Rattle.a64_rows.specs.Order.{placed}
use Rattle.a64_rows.specs.Rows.{name_of}
use Rattle.a64_rows.proofs.Table.{inside}
use Rattle.a64_rows.proofs.row_table.Row.named.Goals as goal

-- texts that differ by their bytes are two
differs : (a b : List ℕ) → pointwise eqb a b ≡ false → a ≡ b → ⊥
differs a b not is = false≢true (sym not ∙ ap (λ (t : List ℕ). pointwise eqb a t) (sym is) ∙ nat_list_eq_equiv.refl a)

pub loop-row-preserved : goal.loop-row-preserved
loop-row-preserved c = λ k h named.
    let i = c.loop-row.row-index in
    let items = c.rows-row-items.result.now in
    let here : name_of (get_or (map (λ e. e.0) items) i AddSubReg) ≡ c.args.name.now → ⊥ = λ is.
    differs c.as_bytes.result.now c.args.name.now (sym c.eq.ensures ∙ c.if-eq.false)
    (c.as_bytes.ensures.value ∙ c.name.ensures ∙ ap name_of (sym (get_or-map (λ e. e.0) items i _ AddSubReg (omega (arith, c.loop-row-test.true)))) ∙ is) in
    elim (cases_lt k i) [
      | inl less ↦ c.loop-row.invariant k less named
      | inr more ↦ (let last : k ≡ i = omega (arith, h, more) in here (subst (λ (n : ℕ). name_of (get_or (map (λ e. e.0) items) n AddSubReg) ≡ c.args.name.now) last named))
    ]

pub returns-clause-only : goal.returns-clause-only
returns-clause-only c = λ row named.
    let whole = ap length c.rows-row-items.ensures.order in
    let longs = length-map c.rows-row-items.result.now (λ e. e.0) in
    let tried : (placed row).place < c.loop-row.row-index = omega (arith, inside row, whole, longs) in
    let is : get_or (map (λ e. e.0) c.rows-row-items.result.now) (placed row).place AddSubReg ≡ row =
    ap (λ rows. get_or rows (placed row).place AddSubReg) c.rows-row-items.ensures.order ∙ (placed row).is in
    absurd (c.loop-row.invariant (placed row).place tried (ap name_of is ∙ named))
