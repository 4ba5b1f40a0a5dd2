use Rattle.std.proofs.Common.{◌≡◌, ◌∷◌, ◌++◌, ◌-◌, ◌≤◌, ℕ, List, take, drop, get_or, length, ap, ◌∙◌, sym, arith}
use Rattle.std.proofs.lemmas.Nat.{one_shl}
use Rattle.std.proofs.Math.Seq.{drop-cons}
use Rattle.std.proofs.lemmas.List.{take_all, length-drop}
use Rattle.a64_formtext.proofs.Readings.{other_name, behind_name, no_number, a_number}
use Rattle.a64_formtext.proofs.form.read_field.Goals as goal

-- a text in its first byte and the others
parts : (name token behind : List ℕ) → token ≡ name ++ behind → 1 ≤ length behind → get_or behind 0 0 ≡ 61 → token ≡ name ++ 61 ∷ take (length behind - 1) (drop 1 behind)
parts name token behind is some sign =
    let rest : take (length behind - 1) (drop 1 behind) ≡ drop 1 behind = take_all (length behind - 1) (drop 1 behind) (omega (arith, length-drop 1 behind)) in
    is ∙ ap (λ (t : List ℕ). name ++ t) (drop-cons behind 0 0 (omega arith) ∙ ap (λ (b : ℕ). b ∷ drop 1 behind) sign ∙ ap (λ (t : List ℕ). 61 ∷ t) (sym rest))

pub returns-in_default : goal.returns-in_default
returns-in_default c = other_name c.args.name.now c.args.token.now c.args.width c.in_default.ensures.cases

pub returns-in_default-read_u32 : goal.returns-in_default-read_u32
returns-in_default-read_u32 c =
    let whole = parts c.args.name.now c.args.token.now c.in-Some.behind.now (behind_name c.args.name.now c.args.token.now c.in-Some.behind c.in-Some.ensures.cases) c.in-61.len_at_least (omega arith) in
    no_number c.args.name.now c.args.token.now _ c.args.width c.requires whole c.read_u32.result c.in_default-read_u32.is c.read_u32.ensures

pub returns-then-value-width : goal.returns-then-value-width
returns-then-value-width c =
    let whole = parts c.args.name.now c.args.token.now c.in-Some.behind.now (behind_name c.args.name.now c.args.token.now c.in-Some.behind c.in-Some.ensures.cases) c.in-61.len_at_least (omega arith) in
    a_number c.args.name.now c.args.token.now _ c.args.width c.requires whole c.read_u32.result c.in-Some-read_u32.value c.in-Some-read_u32.is (omega (arith, one_shl c.args.width 32 c.requires)) c.read_u32.ensures
