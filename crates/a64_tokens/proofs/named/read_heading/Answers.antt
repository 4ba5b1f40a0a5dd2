use Rattle.std.proofs.Common.{◌≡◌, ℕ, ◌/◌, ◌%◌, ◌<◌, ◌≤◌, List, [], ◌∷◌, length, get_or, sym, ap, subst, ◌∙◌, arith}
use Rattle.std.proofs.lemmas.Bool.{eqb-true, false≢true}
use Rattle.a64_tokens.specs.Hash.{hash, home, AreRows}
use Rattle.a64_tokens.proofs.Headings.{no_homes, no_row, its_kinds, named, not_named}
use Rattle.a64_tokens.proofs.named.read_heading.Goals as goal

none_in : (xs : List ℕ) → length xs ≡ 0 → xs ≡ []
none_in [] e = cc
none_in (x ∷ xs) e = absurd (omega (arith, e))

-- the row at which the code looks
at_home : (now homes token : List ℕ) (h : ℕ) → now ≡ homes → h ≡ hash token → get_or now (h % length now) 0 ≡ home homes token
at_home now homes token h e f = rw (e, f) (λ i. get_or homes (hash token % length homes) 0)

pub returns-then-is_empty-clause-read : goal.returns-then-is_empty-clause-read
returns-then-is_empty-clause-read g c =
    let n = g.T.Named in
    no_homes n.text n.kinds_of n.homes n.rows g.met.T.Named.found c.args.token.now (sym c.home_table-homes.ensures ∙ none_in c.home_table-homes.result.now (eqb-true (length c.home_table-homes.result.now) 0 (sym c.is_empty.ensures ∙ c.if-is_empty.true)))

pub returns-in_err-name-clause-read : goal.returns-in_err-name-clause-read
returns-in_err-name-clause-read g c =
    let n = g.T.Named in
    let at = at_home c.home_table-homes.result.now n.homes c.args.token.now c.hash_of.result c.home_table-homes.ensures c.hash_of.ensures in
    let rows = c.row_table.result.now in
    let are = subst (λ (i : ℕ). AreRows n.text n.kinds_of (n.rows (i / 32)) rows) at c.row_table.ensures in
    rw c.from_residual.ensures (no_row n.text n.kinds_of n.homes n.rows g.met.T.Named.found c.args.token.now rows are.are (subst (λ (i : ℕ). length rows ≤ i % 32) at c.in_err-name.ensures.lookup.3))

pub returns-then-is_same-clause-read : goal.returns-then-is_same-clause-read
returns-then-is_same-clause-read g c =
    let n = g.T.Named in
    let at = at_home c.home_table-homes.result.now n.homes c.args.token.now c.hash_of.result c.home_table-homes.ensures c.hash_of.ensures in
    let row = c.in_ok-name.field-0.now in
    let rows = c.row_table.result.now in
    let are = subst (λ (i : ℕ). AreRows n.text n.kinds_of (n.rows (i / 32)) rows) at c.row_table.ensures in
    let inside = subst (λ (i : ℕ). i % 32 < length rows) at c.in_ok-name.ensures.lookup.3.0 in
    let is = c.in_ok-name.ensures.lookup.1 ∙ ap (λ (i : ℕ). get_or rows (i % 32) row) at in
    let same = c.is_same.ensures.0 c.if-is_same.true in
    named n.text n.kinds_of n.homes n.rows g.met.T.Named.found c.args.token.now rows are.are row inside is are.texts same

pub returns-then-is_same-clause-kinds : goal.returns-then-is_same-clause-kinds
returns-then-is_same-clause-kinds g c =
    let n = g.T.Named in
    let at = at_home c.home_table-homes.result.now n.homes c.args.token.now c.hash_of.result c.home_table-homes.ensures c.hash_of.ensures in
    let row = c.in_ok-name.field-0.now in
    let rows = c.row_table.result.now in
    let are = subst (λ (i : ℕ). AreRows n.text n.kinds_of (n.rows (i / 32)) rows) at c.row_table.ensures in
    let inside = subst (λ (i : ℕ). i % 32 < length rows) at c.in_ok-name.ensures.lookup.3.0 in
    let is = c.in_ok-name.ensures.lookup.1 ∙ ap (λ (i : ℕ). get_or rows (i % 32) row) at in
    its_kinds n.text n.kinds_of n.homes n.rows g.met.T.Named.found c.args.token.now rows are.are row inside is are.kinds

pub returns-else-is_same-clause-read : goal.returns-else-is_same-clause-read
returns-else-is_same-clause-read g c =
    let n = g.T.Named in
    let at = at_home c.home_table-homes.result.now n.homes c.args.token.now c.hash_of.result c.home_table-homes.ensures c.hash_of.ensures in
    let row = c.in_ok-name.field-0.now in
    let rows = c.row_table.result.now in
    let are = subst (λ (i : ℕ). AreRows n.text n.kinds_of (n.rows (i / 32)) rows) at c.row_table.ensures in
    let inside = subst (λ (i : ℕ). i % 32 < length rows) at c.in_ok-name.ensures.lookup.3.0 in
    let is = c.in_ok-name.ensures.lookup.1 ∙ ap (λ (i : ℕ). get_or rows (i % 32) row) at in
    let apart : (row.0.now ≡ c.args.token.now → ⊥) = λ same. absurd (false≢true (sym c.if-is_same.false ∙ c.is_same.ensures.1 same)) in
    not_named n.text n.kinds_of n.homes n.rows g.met.T.Named.found c.args.token.now rows are.are row inside is are.texts apart
