-- Lemmas on lists of uses: one more use, and uses that are closed.
use Rattle.std.proofs.Common.{ℕ, ◌≡◌, ◌≢◌, ◌<◌, List, [], ◌∷◌, ◌++◌, length, get_or, map, Bool, Option, None, Some, true, false, nat_eq, refl, sym, ◌∙◌, ap, arith, inl, inr}
use Rattle.std.specs.Option.{option_eq}
use Rattle.std.proofs.lemmas.Bool.{cases_lt, eq-eqb, ne_eqb}
use Rattle.std.proofs.lemmas.List.{length_push, length-map, get_or-map, get_or_push, get_or_append_left, with_items_is}
use Rattle.std.specs.Global.{Vec}
use Rattle.std.specs.Vec.{with_items}
use Rattle.a64_buffer.specs.declared.site.Use.{Use}
use Rattle.a64_buffer.specs.declared.site.Target.{Target}
use Rattle.a64_buffer.specs.Kinds.{Kinds}
use Rattle.a64_buffer.specs.Buffer.{label_of, leads_to, closed_at, IsFree}
use Rattle.a64_buffer.specs.Chain.{labels_of}
use Rattle.a64_buffer.specs.Sound.{AreApart}
use Rattle.a64_buffer.specs.Steps.{stopped}

module _ {K : Type 0} where
  pub apart_push : (uses : List (Use K)) (u : Use K) → AreApart uses → IsFree uses u.offset → AreApart (uses ++ u ∷ [])
  apart_push uses u a f j k d lt h =
      elim (cases_lt k (length uses)) [
        | inl below ↦
            let first : j < length uses = omega arith in
            λ e. a j k d lt below (ap (λ v. v.offset) (sym (get_or_append_left uses (u ∷ []) d j first)) ∙ (e ∙ ap (λ v. v.offset) (get_or_append_left uses (u ∷ []) d k below)))
        | inr past ↦
            let last : length uses ≡ k = omega (arith, length_push uses u) in
            let first : j < length uses = omega arith in
            λ e. f j d first (ap (λ v. v.offset) (sym (get_or_append_left uses (u ∷ []) d j first)) ∙ (e ∙ ap (λ v. v.offset) (get_or_push uses u d k last)))
      ]

  pub apart_map : (f : Use K → Use K) → ((u : Use K) → (f u).offset ≡ u.offset) → (uses : List (Use K)) → AreApart uses → AreApart (map f uses)
  apart_map f same uses a j k d lt h =
      let second : k < length uses = omega (arith, length-map uses f) in
      let first : j < length uses = omega arith in
      λ e. a j k d lt second (sym (ap (λ v. v.offset) (get_or-map f uses j d d first) ∙ same (get_or uses j d)) ∙ (e ∙ (ap (λ v. v.offset) (get_or-map f uses k d d second) ∙ same (get_or uses k d))))

-- a target that is the label of a number, and one that is not
pub leads_same : (label : ℕ) (target : Target) → label_of target ≡ Some label → leads_to label target ≡ true
leads_same label target e = ap (λ o. option_eq (λ m n. nat_eq m n) o (Some label)) e ∙ eq-eqb label label refl

pub leads_other : (label : ℕ) (target : Target) → label_of target ≢ Some label → leads_to label target ≡ false
leads_other label target = go (label_of target)
  where
    go : (o : Option ℕ) → o ≢ Some label → option_eq (λ m n. nat_eq m n) o (Some label) ≡ false
    go None ne = refl
    go (Some m) ne = ne_eqb m label (λ e. ne (ap Some e))

-- uses that are closed have the labels that they had
pub closed_labels : {K : Type 0} (r : Kinds K) (label place : ℕ) (uses : List (Use K)) → labels_of (map (closed_at r label place) uses) ≡ labels_of uses
closed_labels r label place [] = refl
closed_labels r label place (u ∷ us) = ap (λ ls. label_of u.target ∷ ls) (closed_labels r label place us)

-- the uses of a vector that were closed in place
pub closed_in_place : {K : Type 0} (r : Kinds K) (v : Vec (Use K)) (label place end : ℕ) (closed before : List (Use K)) → length closed ≡ v.len → closed ≡ map (closed_at r label place) before → before ≡ v.items → place ≡ end → (with_items v closed).items ≡ map (closed_at r label end) v.items
closed_in_place r v label place end closed before l c b e =
    with_items_is v closed l ∙ (c ∙ (ap (map (closed_at r label place)) b ∙ ap (λ p. map (closed_at r label p) v.items) e))

-- and so have uses that stop at a place
pub stopped_labels : {K : Type 0} (test : Use K → Bool) (place : ℕ) (uses : List (Use K)) → labels_of (map (stopped test place) uses) ≡ labels_of uses
stopped_labels test place [] = refl
stopped_labels test place (u ∷ us) = ap (λ ls. label_of u.target ∷ ls) (stopped_labels test place us)
