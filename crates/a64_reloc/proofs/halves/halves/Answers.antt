use Rattle.std.proofs.Common.{◌≡◌, ◌<◌, ◌∷◌, [], ℕ, List, Bor, Option, length, subst}
use Rattle.std.specs.Prelude.{MatchOption}
use Rattle.a64_reloc.proofs.Cuts.{cuts, not_cut, is_cut}
use Rattle.a64_reloc.proofs.halves.halves.Goals as goal

abbrev IsCut : List ℕ → List ℕ → Option (Bor (List ℕ)) → Type 0
IsCut text first behind = MatchOption behind (cuts text ≡ first ∷ []) (λ rest. (cuts text ≡ first ∷ cuts rest.now) × (length rest.now < length text))

pub returns-in-Some : goal.returns-in-Some
returns-in-Some c =
    let text = c.args.text.now in
    let first = c.cut.result.0.now in
    is_cut text first c.in-Some.second.now (subst (IsCut text first) c.in-Some.is c.cut.ensures).0

pub returns-in-None : goal.returns-in-None
returns-in-None c =
    let text = c.args.text.now in
    let first = c.cut.result.0.now in
    not_cut text first (subst (IsCut text first) c.in-None.is c.cut.ensures)
