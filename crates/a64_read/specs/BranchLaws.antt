-- The names of what conditional branches test, and what they make of their fields.
use Rattle.std.specs.Prelude.{List, length, map, ◌≡◌, ◌≤◌, ◌<◌, Option, Some, IfSome, refl}
use Rattle.std.proofs.Common.{lit≤, lit<, sym, ap, ◌∙◌}
use Rattle.std.specs.List.{AllByRecursion}
use Rattle.a64_base.specs.declared.cond.CondBrKind.{CondBrKind}
use Rattle.a64_base.specs.declared.cond.CondBrKind.TheVariants as cond_brs
use Rattle.a64_read.specs.declared.branch_name.TheConstants.{COND_BR_HOMES, COND_BRS}
use Rattle.a64_read.specs.declared.branch_name.CondBrName.{CondBrName}
use Rattle.a64_read.specs.declared.branch_name.CondBrName.TheVariants as cond_br_names
use Rattle.a64_tokens.specs.declared.value.Value.{Value}
use Rattle.a64_read.specs.BranchMakes.{cond_br_of, MakesCondBr}
use Rattle.a64_read.specs.Branches.{cond_br_name_text, cond_br_kinds, cond_br_name_of}
use Rattle.a64_read.specs.Branches.{cond_br_fields, IsOwnCondBr}
use Rattle.a64_tokens.specs.Fields.{HasNo}
use Rattle.a64_tokens.specs.Hash.{look_up}
use Rattle.a64_read.specs.Same.{at_their_places}
use Rattle.a64_read.specs.Values.{kind_of, IsValue}

pub cond_br_found : (x : CondBrName)
    → look_up COND_BR_HOMES (λ _. map (λ row. row.2) COND_BRS) (cond_br_name_text x) ≡ Some x
cond_br_found cond_br_names.Zero = refl
cond_br_found _ = refl

pub few_cond_br_kinds : (name : CondBrName) → length (cond_br_kinds name) ≤ 4
few_cond_br_kinds cond_br_names.Zero = lit≤ tt
few_cond_br_kinds _ = lit≤ tt

pub cond_br_apart : (name : CondBrName) → HasNo 40 (cond_br_name_text name)
cond_br_apart cond_br_names.Zero = refl
cond_br_apart _ = refl

pub some_cond_br_field : (kind : CondBrKind) → 0 < length (cond_br_fields kind)
some_cond_br_field (cond_brs.Zero reg size) = lit< tt
some_cond_br_field _ = lit< tt

made : (P : CondBrKind → Type 0) (r : Option CondBrKind) (kind : CondBrKind) → r ≡ Some kind
    → P kind → IfSome r P
made P r kind is h = rw is h

abbrev pub IsMadeCondBr : CondBrName → List Value → CondBrKind → Type 0
IsMadeCondBr name values kind =
    (cond_br_name_of kind ≡ name) × (cond_br_fields kind ≡ values) × IsOwnCondBr kind

pub cond_br_made_some : (name : CondBrName) (vs : List Value) (r : Option CondBrKind)
    → MakesCondBr name vs r → map kind_of vs ≡ cond_br_kinds name → IfSome r (IsMadeCondBr name vs)
unfolding MakesCondBr
cond_br_made_some cond_br_names.Zero vs r h are =
    made (IsMadeCondBr cond_br_names.Zero vs) r (cond_br_of cond_br_names.Zero vs) h
    (refl, at_their_places (cond_br_kinds cond_br_names.Zero) vs are, tt)
cond_br_made_some name vs r h are =
    made (IsMadeCondBr name vs) r (cond_br_of name vs) h
    (refl, at_their_places (cond_br_kinds name) vs are, tt)

pub cond_br_made_only : (kind : CondBrKind) (vs : List Value) (r : Option CondBrKind)
    → MakesCondBr (cond_br_name_of kind) vs r → AllByRecursion IsValue (cond_br_fields kind)
    → IsOwnCondBr kind → cond_br_fields kind ≡ vs → r ≡ Some kind
unfolding MakesCondBr
cond_br_made_only (cond_brs.Zero reg size) vs r h fits own e =
    h ∙ ap (λ (t : List Value). Some (cond_br_of cond_br_names.Zero t)) (sym e)
cond_br_made_only kind vs r h fits own e =
    h ∙ ap (λ (t : List Value). Some (cond_br_of (cond_br_name_of kind) t)) (sym e)

pub cond_br_fields_kinds : (kind : CondBrKind)
    → map kind_of (cond_br_fields kind) ≡ cond_br_kinds (cond_br_name_of kind)
cond_br_fields_kinds (cond_brs.Zero reg size) = refl
cond_br_fields_kinds kind = refl
