-- Proper prefixes of lists of roles.
use Rattle.std.proofs.Common.{ℕ, ◌≡◌, ◌+◌, ◌<◌, ◌≤◌, List, ◌∷◌, [], ◌++◌, take, map, length, get_or, arith, ap, ◌∙◌, inl, inr, ⊎_elim, Result, Ok, Err}
use Rattle.std.proofs.lemmas.List.{map_more, take_all, append_assoc, length-append, take-map, length-map, take-append-le}
use Rattle.std.proofs.Math.Seq.{take-append-add}
use Rattle.a64_role.specs.declared.role.Role.{Role}
use Rattle.a64_role.specs.Visits.{HasPart, HasRefused, Tells}

-- the roles of one pair more
pub each_more : {P : Type 0} (role : P → Role) (pairs : List P) (i : ℕ) (d : P) → i < length pairs → map role (take (i + 1) pairs) ≡ map role (take i pairs) ++ role (get_or pairs i d) ∷ []
each_more role pairs i d inside = map_more role pairs i d inside

-- those of all pairs
pub each_all : {P : Type 0} (role : P → Role) (pairs : List P) (i : ℕ) → length pairs ≤ i → map role (take i pairs) ≡ map role pairs
each_all role pairs i past = ap (map role) (take_all i pairs past)

-- those of the first pairs are a part
pub each_part : {P : Type 0} (old new : List Role) (role : P → Role) (pairs : List P) (i : ℕ) → i < length pairs → new ≡ old ++ map role (take i pairs) → HasPart old new (map role pairs)
each_part old new role pairs i inside told = record {
  count = i;
  fewer = rw length-map inside;
  told = rw take-map told;
}

-- a whole list and a part of the next are a part of both
pub then_part : (old mid new a b : List Role) → mid ≡ old ++ a → HasPart mid new b → HasPart old new (a ++ b)
then_part old mid new a b whole part = record {
  count = length a + part.count;
  fewer = simp length-append (omega (arith, part.fewer));
  told = rw (take-append-add a b part.count) (part.told ∙ (rw whole (append_assoc old a (take part.count b))));
}

-- a part of a list is a part of the list and another
pub part_then : (old new a b : List Role) → HasPart old new a → HasPart old new (a ++ b)
part_then old new a b part = record {
  count = part.count;
  fewer = simp length-append (omega (arith, part.fewer));
  told = let inside : part.count ≤ length a = omega (arith, part.fewer) in rw (take-append-le part.count a b inside) part.told;
}

-- a refusal after a count that did not fall
refused_after : (old mid new : ℕ) → old ≤ mid → HasRefused mid new → HasRefused old new
refused_after old mid new le h = ⊎_elim (λ rose. inl (omega arith)) (λ last. inr last) h

-- some roles were told, and then some more
pub tells_then : {V S F T E : Type 0} {told : V → List Role} {refusals : V → ℕ} {old mid new : V} {a b : List Role} {x : S} (r : Result T E)
    → Tells {T = S} {E = F} told refusals old mid a (Ok x) → Tells told refusals mid new b r → Tells told refusals old new (a ++ b) r
tells_then {told = told} {old = old} {a = a} {b = b} (Ok y) h k = record {
  ok = k.ok ∙ ap (λ t. t ++ b) h.ok ∙ append_assoc (told old) a b;
  err = tt;
  rises = omega (arith, h.rises, k.rises);
  cause = tt;
}
tells_then {told = told} {refusals = refusals} {old = old} {mid = mid} {new = new} {a = a} {b = b} (Err e) h k = record {
  ok = tt;
  err = then_part (told old) (told mid) (told new) a b h.ok k.err;
  rises = omega (arith, h.rises, k.rises);
  cause = refused_after (refusals old) (refusals mid) (refusals new) h.rises k.cause;
}
