-- The first of some faults, as what is left tells it.
use Rattle.std.proofs.Common.{ℕ, ◌≡◌, ◌+◌, Bool, true, false, cond, List, ◌∷◌, drop, Some, sym, ap, ◌∙◌}
use Rattle.std.proofs.lemmas.List.{at_drop_more}
use Rattle.a64_link.specs.declared.error.LinkError.TheVariants.{UnitTooLarge}
use Rattle.a64_link.specs.declared.unit.Unit.{Unit}
use Rattle.a64_link.specs.Units.{Relocation, is_call, room, near}
use Rattle.a64_link.specs.Layout.{IsUnit}
use Rattle.a64_link.specs.Faults.{large_from}
use Rattle.std.specs.Prelude.{◌&&◌, nat_lt}
use Rattle.std.specs.List.{list_any}

large_step : (units : List Unit) (i : ℕ) (x : Unit) (b : Bool) → IsUnit units i x → (list_any (λ (r : Relocation). is_call r.1) x.relocs.items && nat_lt near (room x)) ≡ b → large_from i (drop i units) ≡ large_from 0 units
    → cond b (Some (UnitTooLarge i)) (large_from (i + 1) (drop (i + 1) units)) ≡ large_from 0 units
large_step units i x b u is rest =
    ap (λ (t : Bool). cond t (Some (UnitTooLarge i)) (large_from (i + 1) (drop (i + 1) units))) (sym is)
    ∙ ap (λ (y : Unit). large_from i (y ∷ drop (i + 1) units)) (sym (u.is x))
    ∙ sym (at_drop_more (large_from i) units i x u.within)
    ∙ rest

pub large_fine : (units : List Unit) (i : ℕ) (x : Unit) → IsUnit units i x → (list_any (λ (r : Relocation). is_call r.1) x.relocs.items && nat_lt near (room x)) ≡ false → large_from i (drop i units) ≡ large_from 0 units
    → large_from (i + 1) (drop (i + 1) units) ≡ large_from 0 units
large_fine units i x u is rest = large_step units i x false u is rest

pub large_found : (units : List Unit) (i : ℕ) (x : Unit) → IsUnit units i x → (list_any (λ (r : Relocation). is_call r.1) x.relocs.items && nat_lt near (room x)) ≡ true → large_from i (drop i units) ≡ large_from 0 units
    → Some (UnitTooLarge i) ≡ large_from 0 units
large_found units i x u is rest = large_step units i x true u is rest
