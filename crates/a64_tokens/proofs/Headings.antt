-- Tokens that are looked up in a table of names.
use Rattle.std.proofs.Common.{◌≡◌, ℕ, ◌<◌, ◌≤◌, List, [], ◌∷◌, length, map, get_or, Option, Some, None, refl, sym, ap, ◌∙◌}
use Rattle.std.specs.Prelude.{slice_get, option_map}
use Rattle.std.proofs.lemmas.Option.{slice_get-map, slice_get_past, slice_get_read}
use Rattle.a64_tokens.specs.declared.value.Kind.{Kind}
use Rattle.a64_tokens.specs.Hash.{class_at, look_up, place_at, Row}
use Rattle.a64_tokens.specs.Reads.{Reads, Always}

same_inside : {A : Type 0} {x y : A} → Some x ≡ Some y → x ≡ y
same_inside e = cc

none_some : {A : Type 0} {x : A} → None ≡ Some x → ⊥
none_some e = cc

at_home : {X : Type 0} (homes : List ℕ) (rows : ℕ → List X) (token : List ℕ) (x : X) → look_up homes rows token ≡ Some x → slice_get (rows (class_at homes token)) (place_at homes token) ≡ Some x
at_home [] rows token x e = absurd (none_some e)
at_home (h ∷ homes) rows token x e = e

module _ {X : Type 0} (text : X → List ℕ) (kinds_of : X → List Kind) (homes : List ℕ) (classes : ℕ → List X) (found : (x : X) → look_up homes classes (text x) ≡ Some x) (token : List ℕ) where
  -- the values of the token's class
  abbrev pub values : List X
  values = classes (class_at homes token)

  abbrev place : ℕ
  place = place_at homes token

  -- what the token names stands at the token's home
  stands : (x : X) → token ≡ text x → slice_get values place ≡ Some x
  stands x e = at_home homes classes token x (ap (λ (w : List ℕ). look_up homes classes w) e ∙ found x)

  pub no_homes : homes ≡ [] → Reads Always text token None
  no_homes none = record { some = tt; only = λ x fits e. absurd (none_some (ap (λ (h : List ℕ). look_up h classes token) (sym none) ∙ ap (λ (w : List ℕ). look_up homes classes w) e ∙ found x)) }

  module _ (rows : List (Row X)) (values_are : map (λ r. r.2) rows ≡ values) where
    value_at : slice_get values place ≡ option_map (λ r. r.2) (slice_get rows place)
    value_at = ap (λ (t : List X). slice_get t place) (sym values_are) ∙ slice_get-map (λ r. r.2) rows place

    pub no_row : length rows ≤ place → Reads Always text token None
    no_row past = record {
      some = tt;
      only = λ x fits e. absurd (none_some (sym (value_at ∙ ap (λ (o : Option (Row X)). option_map (λ r. r.2) o) (slice_get_past rows place past)) ∙ stands x e));
    }

    module _ (row : Row X) (inside : place < length rows) (is : row ≡ get_or rows place row) where
      row_at : slice_get rows place ≡ Some row
      row_at = slice_get_read rows (length rows) place row refl inside is

      its_value : slice_get values place ≡ Some row.2
      its_value = value_at ∙ ap (λ (o : Option (Row X)). option_map (λ r. r.2) o) row_at

      -- what each row has, this row has
      its_part : {P : Type 0} (part : Row X → P) (of : X → P) → map part rows ≡ map of values → part row ≡ of row.2
      its_part {P} part of are = same_inside (
          ap (λ (o : Option (Row X)). option_map part o) (sym row_at)
          ∙ sym (slice_get-map part rows place)
          ∙ ap (λ (t : List P). slice_get t place) are
          ∙ slice_get-map of values place
          ∙ ap (λ (o : Option X). option_map of o) its_value)

      pub its_kinds : map (λ r. r.1.now) rows ≡ map kinds_of values → row.1.now ≡ kinds_of row.2
      its_kinds are = its_part (λ r. r.1.now) kinds_of are

      module _ (texts : map (λ r. r.0.now) rows ≡ map text values) where
        pub named : row.0.now ≡ token → Reads Always text token (Some row.2)
        named same = record { some = (tt, sym same ∙ its_part (λ r. r.0.now) text texts); only = λ x fits e. sym its_value ∙ stands x e }

        pub not_named : (row.0.now ≡ token → ⊥) → Reads Always text token None
        not_named apart = record {
          some = tt;
          only = λ x fits e. absurd (apart (its_part (λ r. r.0.now) text texts ∙ ap text (same_inside (sym its_value ∙ stands x e)) ∙ sym e));
        }
