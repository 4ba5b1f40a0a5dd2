use Rattle.std.proofs.Common.{◌≡◌, ◌∷◌, List, ℕ, length, sym, subst, ap, ◌∙◌, arith}
use Rattle.std.specs.Prelude.{codes}
use Rattle.std.proofs.lemmas.Bool.{false≢true}
use Rattle.std.proofs.lemmas.Bool.Decides.{Decides-eqb}
use Rattle.std.proofs.lemmas.Slice.Eq.{slice_eq-Decides}
use Rattle.a64_tokens.specs.Splitting.{of_text}
use Rattle.a64_read.proofs.Lists.{Listing, begins, one_more, no_one, dash, no_list, all_listed}
use Rattle.a64_read.proofs.list.read_list.Goals as goal

pub loop-rest-init : goal.loop-rest-init
loop-rest-init g c =
    let l = g.T.Listed in
    rw c.new-items.ensures (begins l.text l.fits (l.tokens c.args.token.now))

pub loop-rest-preserved : goal.loop-rest-preserved
loop-rest-preserved g c =
    let l = g.T.Listed in
    let others = of_text l.tokens c.cut.result.1 in
    let left : of_text l.tokens c.loop-rest.rest ≡ c.cut.result.0.now ∷ others = ap (of_text l.tokens) c.in-Some.is ∙ c.cut.ensures in
    rw c.in_ok-push.ensures.ok (one_more l.text l.fits (l.tokens c.args.token.now) c.loop-rest.items c.cut.result.0.now others (subst (λ (ts : List (List ℕ)). Listing l.text l.fits (l.tokens c.args.token.now) c.loop-rest.items ts) left c.loop-rest.invariant) c.in-Some-read.item c.in-Some-read.ensures)

pub loop-rest-smaller : goal.loop-rest-smaller
loop-rest-smaller g c =
    let l = g.T.Listed in
    let left : of_text l.tokens c.loop-rest.rest ≡ c.cut.result.0.now ∷ of_text l.tokens c.cut.result.1 = ap (of_text l.tokens) c.in-Some.is ∙ c.cut.ensures in
    omega (arith, ap (λ (t : List (List ℕ)). length t) left)

pub returns-then-eq : goal.returns-then-eq
returns-then-eq g c =
    let l = g.T.Listed in
    let m = g.met.T.Listed in
    let same = (slice_eq-Decides Decides-eqb c.args.token.now c.as_slice.result.now c.eq.result c.eq.ensures).0 c.if-eq.true in
    rw c.new-items.ensures (dash l.text l.fits c.args.token.now m.no_dash (same ∙ c.as_slice.ensures))

pub returns-in_default-read : goal.returns-in_default-read
returns-in_default-read g c =
    let l = g.T.Listed in
    let m = g.met.T.Listed in
    let token = c.args.token.now in
    let other = λ (is : token ≡ codes "-"). false≢true (sym c.if-eq.false ∙ (slice_eq-Decides Decides-eqb token c.as_slice.result.now c.eq.result c.eq.ensures).1 (is ∙ sym c.as_slice.ensures)) in
    let others = of_text l.tokens c.cut.result.1 in
    let left : of_text l.tokens c.loop-rest.rest ≡ c.cut.result.0.now ∷ others = ap (of_text l.tokens) c.in-Some.is ∙ c.cut.ensures in
    no_list l.text l.fits token l.tokens m.apart other (no_one l.text l.fits (l.tokens token) c.loop-rest.items c.cut.result.0.now others (subst (λ (ts : List (List ℕ)). Listing l.text l.fits (l.tokens token) c.loop-rest.items ts) left c.loop-rest.invariant) c.in_default-read.ensures)

pub returns : goal.returns
returns g c =
    let l = g.T.Listed in
    let m = g.met.T.Listed in
    let token = c.args.token.now in
    let other = λ (is : token ≡ codes "-"). false≢true (sym c.if-eq.false ∙ (slice_eq-Decides Decides-eqb token c.as_slice.result.now c.eq.result c.eq.ensures).1 (is ∙ sym c.as_slice.ensures)) in
    all_listed l.text l.fits token l.tokens m.apart other m.joined m.some_token c.loop-rest.items (subst (λ (ts : List (List ℕ)). Listing l.text l.fits (l.tokens token) c.loop-rest.items ts) (ap (of_text l.tokens) c.in_default.is) c.loop-rest.invariant)
