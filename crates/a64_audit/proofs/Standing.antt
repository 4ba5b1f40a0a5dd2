-- Whether entries may stand behind others.
use Rattle.std.proofs.Common.{◌≡◌, ℕ, ◌-◌, ◌<◌, List, [], ◌∷◌, length, get_or, Some, None, Option, nat_lt, refl, sym, ap, subst, ◌∙◌, arith}
use Rattle.std.specs.Bool.{Decides}
use Rattle.std.specs.List.{last_or, slice_get}
use Rattle.std.specs.Prelude.{IfSome}
use Rattle.std.proofs.lemmas.Bool.{ltb-true, lt-ltb}
use Rattle.std.proofs.lemmas.Option.{slice_get_past, slice_get-get_or}
use Rattle.a64_audit.specs.declared.entry.Entry.{Entry}
use Rattle.a64_audit.specs.declared.entry.Entry.TheVariants.{Trap}
use Rattle.a64_audit.specs.Entries.{Contents, MayStand}

last_get : (o : Option ℕ) (x : ℕ) (xs : List ℕ) (d : ℕ) → last_or o (x ∷ xs) ≡ Some (get_or (x ∷ xs) (length xs) d)
last_get o x [] d = refl
last_get o x (y ∷ ys) d = last_get (Some x) y ys d

last_is : (xs : List ℕ) (v : ℕ) → Some v ≡ slice_get xs (length xs - 1) → last_or None xs ≡ Some v
last_is [] v e = let past = slice_get_past {X = ℕ} [] (length {A = ℕ} [] - 1) (omega arith) in absurd cc
last_is (x ∷ xs) v e =
    let index : length (x ∷ xs) - 1 ≡ length xs = omega arith in
    let got = slice_get-get_or (x ∷ xs) (length xs) v (omega arith) in
    last_get None x xs v ∙ sym got ∙ ap (slice_get (x ∷ xs)) (sym index) ∙ sym e

-- a trap may stand behind a last one that is below it
pub trap_stands : (old : Contents) (entry : Entry) (place code before : ℕ) → entry ≡ Trap place code → Some before ≡ slice_get old.traps (length old.traps - 1)
    → Decides (nat_lt before place) (MayStand old entry)
trap_stands old entry place code before is last =
    subst (λ (e : Entry). Decides (nat_lt before place) (MayStand old e)) (sym is) (
      λ t. subst (λ (o : Option ℕ). IfSome o (λ b. b < place)) (sym (last_is old.traps before last)) (ltb-true before place t),
      λ stands. lt-ltb before place (subst (λ (o : Option ℕ). IfSome o (λ b. b < place)) (last_is old.traps before last) stands),
    )
