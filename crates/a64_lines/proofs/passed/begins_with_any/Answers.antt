use Rattle.std.proofs.Common.{◌≡◌, Bool, Bor, ℕ, List, map, eqb, refl, sym, ap, subst, rules}
use Rattle.std.specs.Bool.{Decides}
use Rattle.std.specs.Slice.Iter.{iter_rest}
use Rattle.std.specs.List.{starts_with, list_any}
use Rattle.std.proofs.lemmas.Iterator.{YieldsList-from_slice}
use Rattle.std.proofs.lemmas.Iterator.Search.{any_from_yields_List}
use Rattle.a64_lines.specs.Entries.{BeginsWith}
use Rattle.a64_lines.proofs.Fronts.{begins_any}
use Rattle.a64_lines.proofs.passed.begins_with_any.Goals as goal

pub returns : goal.returns
returns c =
    let line = c.args.line.now in
    let items = iter_rest c.iter.result in
    let told = any_from_yields_List (λ w. starts_with eqb line w.now) _ _ c.any.result c.any.ensures.ran (YieldsList-from_slice items refl) (λ x b q k. search rules) in
    let words : map (λ (w : Bor (List ℕ)). w.now) items ≡ map (λ (w : Bor (List ℕ)). w.now) c.args.words.now = ap (map (λ (w : Bor (List ℕ)). w.now)) c.iter.ensures.rest in
    subst (λ (b : Bool). Decides b (BeginsWith line (map (λ w. w.now) c.args.words.now))) (sym told)
    (subst (λ (ws : List (List ℕ)). Decides (list_any (λ w. starts_with eqb line w.now) items) (BeginsWith line ws)) words (begins_any line items))
