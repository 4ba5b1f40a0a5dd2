use Rattle.std.proofs.Common.{◌≡◌, List, [], ◌∷◌, ℕ, length, ◌<◌, Bor, subst}
use Rattle.std.specs.Prelude.{MatchOption, Option}
use Rattle.a64_audit.proofs.Parts.{cuts, no_name, no_first, three}
use Rattle.a64_audit.proofs.reading.parts_of.Goals as goal

abbrev IsCut : List ℕ → List ℕ → Option (Bor (List ℕ)) → Type 0
IsCut text front behind = MatchOption behind (cuts text ≡ front ∷ []) (λ rest. (cuts text ≡ front ∷ cuts rest.now) × (length rest.now < length text))

pub returns-in_default : goal.returns-in_default
returns-in_default c =
    let line = c.args.line.now in
    let name = c.cut.result.0.now in
    no_name line name (subst (IsCut line name) c.in_default.is c.cut.ensures)

pub returns-in_default-behind_first : goal.returns-in_default-behind_first
returns-in_default-behind_first c =
    let line = c.args.line.now in
    let name = c.cut.result.0.now in
    let fields = c.in-Some.fields.now in
    let first = c.cut-2.result.0.now in
    no_first line name fields first (subst (IsCut line name) c.in-Some.is c.cut.ensures).0 (subst (IsCut fields first) c.in_default-behind_first.is c.cut-2.ensures)

pub returns : goal.returns
returns c =
    let line = c.args.line.now in
    let name = c.cut.result.0.now in
    let fields = c.in-Some.fields.now in
    let first = c.cut-2.result.0.now in
    three line fields _ (subst (IsCut line name) c.in-Some.is c.cut.ensures).0 (subst (IsCut fields first) c.in-Some-behind_first.is c.cut-2.ensures).0
