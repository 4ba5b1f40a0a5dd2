-- Definitions that are added to a map one by one.
use Rattle.std.proofs.Common.{ℕ, ◌≡◌, ◌+◌, ◌<◌, ◌≤◌, Bool, true, false, cond, List, [], ◌∷◌, ◌++◌, length, take, drop, get_or, Option, Some, None, refl, sym, ap, subst, ◌∙◌, eqb, nat_cmp}
use Rattle.std.specs.Prelude.{◌||◌, is_some, nat_eq}
use Rattle.std.specs.Cmp.{nat_cmp_total, unsigned_tied}
use Rattle.std.specs.FinMap.{FinMap, get, contains_key, insert, get-insert}
use Rattle.std.specs.List.{list_any}
use Rattle.std.specs.Map.{lookup}
use Rattle.std.specs.Option.{option_or}
use Rattle.std.proofs.lemmas.Bool.{eqb-true}
use Rattle.std.proofs.lemmas.List.{take_more, drop_more, take_all, drop_all}
use Rattle.a64_link.specs.declared.error.LinkError.TheVariants.{DefinedTwice}
use Rattle.a64_link.specs.declared.unit.Symbol.{Symbol}
use Rattle.a64_link.specs.Units.{Definition, defined_in}
use Rattle.a64_link.specs.Faults.{repeated_in}
use Rattle.a64_link.specs.Symbols.{HasNames, names_onto, HasAdded, Repeats}

-- so many were added
pub record AreAdded (i : ℕ) (ds : List Definition) (k : ℕ) (old now : FinMap nat_cmp Symbol) : Type 0 where
  pub gets : (n : ℕ) → get now n ≡ option_or (get old n) (lookup (nat_eq n) (defined_in i (take k ds)))
  pub names : (before : List ℕ) → HasNames old before → HasNames now (names_onto before (take k ds))
  pub rest : (before : List ℕ) → HasNames old before → repeated_in (names_onto before (take k ds)) (drop k ds) ≡ repeated_in before ds

pub none_added : (i : ℕ) (ds : List Definition) (map : FinMap nat_cmp Symbol) → AreAdded i ds 0 map map
none_added i ds map = record { gets = λ n. right (get map n); names = λ before h. h; rest = λ before h. refl }
  where
    right : (o : Option Symbol) → o ≡ option_or o None
    right None = refl
    right (Some s) = refl

names_more : (before : List ℕ) (xs : List Definition) (d : Definition) → names_onto before (xs ++ d ∷ []) ≡ d.0.0 ∷ names_onto before xs
names_more before [] d = refl
names_more before (x ∷ xs) d = names_more (x.0.0 ∷ before) xs d

found_more : (test : ℕ → Bool) (i : ℕ) (xs : List Definition) (d : Definition) → lookup test (defined_in i (xs ++ d ∷ [])) ≡ option_or (lookup test (defined_in i xs)) (cond (test d.0.0) (Some (record { unit = i; place = d.1 })) None)
found_more test i [] d = refl
found_more test i (x ∷ xs) d = at (test x.0.0) (found_more test i xs d)
  where
    at : (b : Bool) → lookup test (defined_in i (xs ++ d ∷ [])) ≡ option_or (lookup test (defined_in i xs)) (cond (test d.0.0) (Some (record { unit = i; place = d.1 })) None)
        → cond b (Some (record { unit = i; place = x.1 })) (lookup test (defined_in i (xs ++ d ∷ [])))
        ≡ option_or (cond b (Some (record { unit = i; place = x.1 })) (lookup test (defined_in i xs))) (cond (test d.0.0) (Some (record { unit = i; place = d.1 })) None)
    at true e = refl
    at false e = e

module _ (i : ℕ) (ds : List Definition) (k : ℕ) (d x : Definition) (old now : FinMap nat_cmp Symbol) (within : k < length ds) (is : get_or ds k d ≡ x) (h : AreAdded i ds k old now) where
  taken : take (k + 1) ds ≡ take k ds ++ x ∷ []
  taken = take_more ds k d within ∙ ap (λ (y : Definition). take k ds ++ y ∷ []) is

  left : drop k ds ≡ x ∷ drop (k + 1) ds
  left = drop_more ds k d within ∙ ap (λ (y : Definition). y ∷ drop (k + 1) ds) is

  pub added_twice : contains_key now x.0.0 ≡ true → Repeats old ds (DefinedTwice x.0)
  added_twice again = λ before names.
      let there : list_any (nat_eq x.0.0) (names_onto before (take k ds)) ≡ true = sym (h.names before names x.0.0) ∙ again in
      sym (h.rest before names) ∙ ap (repeated_in (names_onto before (take k ds))) left
      ∙ ap (λ (b : Bool). cond b (Some (DefinedTwice x.0)) (repeated_in (x.0.0 ∷ names_onto before (take k ds)) (drop (k + 1) ds))) there

  symbol : Symbol
  symbol = record { unit = i; place = x.1 }

  pub added_one : get now x.0.0 ≡ None → AreAdded i ds (k + 1) old (insert now x.0.0 (record { unit = i; place = x.1 }))
  added_one fresh = record { gets = new_gets; names = new_names; rest = new_rest }
    where
      inserted : (n : ℕ) → get (insert now x.0.0 (record { unit = i; place = x.1 })) n ≡ cond (eqb n x.0.0) (Some (record { unit = i; place = x.1 })) (get now n)
      inserted n = get-insert nat_cmp_total now x.0.0 (record { unit = i; place = x.1 }) n ∙ ap (λ (t : Bool). cond t (Some (record { unit = i; place = x.1 })) (get now n)) (unsigned_tied n x.0.0)

      joined : (b : Bool) (o f : Option Symbol) (s : Symbol) → (b ≡ true → option_or o f ≡ None) → cond b (Some s) (option_or o f) ≡ option_or o (option_or f (cond b (Some s) None))
      joined true None None s absent = refl
      joined true None (Some g) s absent = absurd (let e = absent refl in cc)
      joined true (Some g) f s absent = absurd (let e = absent refl in cc)
      joined false None None s absent = refl
      joined false None (Some g) s absent = refl
      joined false (Some g) f s absent = refl

      new_gets : (n : ℕ) → get (insert now x.0.0 (record { unit = i; place = x.1 })) n ≡ option_or (get old n) (lookup (nat_eq n) (defined_in i (take (k + 1) ds)))
      new_gets n =
          inserted n ∙ ap (cond (eqb n x.0.0) (Some (record { unit = i; place = x.1 }))) (h.gets n)
          ∙ joined (eqb n x.0.0) (get old n) (lookup (nat_eq n) (defined_in i (take k ds))) (record { unit = i; place = x.1 }) (λ same. sym (h.gets n) ∙ ap (get now) (eqb-true n x.0.0 same) ∙ fresh)
          ∙ ap (option_or (get old n)) (sym (found_more (nat_eq n) i (take k ds) x) ∙ ap (λ (l : List Definition). lookup (nat_eq n) (defined_in i l)) (sym taken))

      either : (b : Bool) (o : Option Symbol) (s : Symbol) → is_some (cond b (Some s) o) ≡ (b || is_some o)
      either true o s = refl
      either false o s = refl

      new_names : (before : List ℕ) → HasNames old before → HasNames (insert now x.0.0 (record { unit = i; place = x.1 })) (names_onto before (take (k + 1) ds))
      new_names before names n =
          ap is_some (inserted n) ∙ either (eqb n x.0.0) (get now n) (record { unit = i; place = x.1 }) ∙ ap (λ (b : Bool). eqb n x.0.0 || b) (h.names before names n)
          ∙ ap (list_any (nat_eq n)) (sym (names_more before (take k ds) x) ∙ ap (names_onto before) (sym taken))

      new_rest : (before : List ℕ) → HasNames old before → repeated_in (names_onto before (take (k + 1) ds)) (drop (k + 1) ds) ≡ repeated_in before ds
      new_rest before names =
          let not_there : list_any (nat_eq x.0.0) (names_onto before (take k ds)) ≡ false = sym (h.names before names x.0.0) ∙ ap is_some fresh in
          ap (λ (l : List ℕ). repeated_in l (drop (k + 1) ds)) (ap (names_onto before) taken ∙ names_more before (take k ds) x)
          ∙ sym (ap (λ (b : Bool). cond b (Some (DefinedTwice x.0)) (repeated_in (x.0.0 ∷ names_onto before (take k ds)) (drop (k + 1) ds))) not_there)
          ∙ sym (ap (repeated_in (names_onto before (take k ds))) left) ∙ h.rest before names

pub all_added : (i : ℕ) (ds : List Definition) (k : ℕ) (old now : FinMap nat_cmp Symbol) → length ds ≤ k → AreAdded i ds k old now → HasAdded i ds old now
all_added i ds k old now le h =
    let all : take k ds ≡ ds = take_all k ds le in
    record {
      gets = λ n. h.gets n ∙ ap (λ (l : List Definition). option_or (get old n) (lookup (nat_eq n) (defined_in i l))) all;
      names = λ before names. subst (λ (l : List Definition). HasNames now (names_onto before l)) all (h.names before names);
      once = λ before names. sym (h.rest before names) ∙ ap (repeated_in (names_onto before (take k ds))) (drop_all k ds le);
    }

pub is_none : {X : Type 0} (o : Option X) → is_some o ≡ false → o ≡ None
is_none None e = refl
is_none (Some x) e = absurd cc
