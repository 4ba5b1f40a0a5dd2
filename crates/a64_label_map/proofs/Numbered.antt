-- The entries of a table.
use Rattle.std.proofs.Common.{ℕ, zero, suc, ◌≡◌, ◌≢◌, ◌+◌, ◌<◌, true, false, cond, List, [], ◌∷◌, ◌++◌, length, get_or, take, Option, None, Some, refl, sym, ◌∙◌, ap, arith, nat_cmp}
use Rattle.std.specs.Cmp.{nat_cmp_total, eq_by_cmp_equiv}
use Rattle.std.specs.Ordering.{eq_by_cmp, is_eq}
use Rattle.std.specs.Option.{option_or}
use Rattle.std.specs.declared.cmp.Ordering.TheVariants.{Less, Equal, Greater}
use Rattle.std.specs.FinMap.{find, nat_cmp-IsAntisymmetric}
use Rattle.std.proofs.lemmas.Bool.{false≢true}
use Rattle.std.proofs.lemmas.List.{take_more, length-take, append-nil}
use Rattle.a64_label_map.specs.Shared.{numbered}

-- numbers that compare equal are the same
pub same_by_cmp : (a b : ℕ) → eq_by_cmp nat_cmp a b ≡ true → a ≡ b
same_by_cmp a b e =
    elim (nat_cmp a b) as (λ o. nat_cmp a b ≡ o → is_eq o ≡ true → a ≡ b) [
      | Less ↦ λ p q. absurd (false≢true q)
      | Equal ↦ λ p q. nat_cmp-IsAntisymmetric a b p
      | Greater ↦ λ p q. absurd (false≢true q)
    ] refl e

pub equal_by_cmp : (a : ℕ) → eq_by_cmp nat_cmp a a ≡ true
equal_by_cmp a = (eq_by_cmp_equiv nat_cmp_total).refl a

pub apart_by_cmp : (a b : ℕ) → a ≢ b → eq_by_cmp nat_cmp a b ≡ false
apart_by_cmp a b ne = elim (eq_by_cmp nat_cmp a b) as (λ t. eq_by_cmp nat_cmp a b ≡ t → t ≡ false) [ true ↦ λ e. absurd (ne (same_by_cmp a b e)) | false ↦ λ e. refl ] refl

module _ {X : Type 0} where
  -- what stands in one list of entries or else in another
  pub find_both : (es fs : List (ℕ × X)) (q : ℕ) → find nat_cmp q (es ++ fs) ≡ option_or (find nat_cmp q es) (find nat_cmp q fs)
  find_both [] fs q = refl
  find_both (e ∷ es) fs q =
      elim (eq_by_cmp nat_cmp q e.0) as (λ t. cond t (Some e.1) (find nat_cmp q (es ++ fs)) ≡ option_or (cond t (Some e.1) (find nat_cmp q es)) (find nat_cmp q fs)) [ true ↦ refl | false ↦ find_both es fs q ]

  -- a table has no number before its first
  find_before : (first q : ℕ) (values : List (Option X)) → q < first → find nat_cmp q (numbered first values) ≡ None
  find_before first q [] h = refl
  find_before first q (None ∷ values) h = find_before (suc first) q values (omega arith)
  find_before first q (Some x ∷ values) h =
      ap (λ t. cond t (Some x) (find nat_cmp q (numbered (suc first) values))) (apart_by_cmp q first (λ e. omega arith))
      ∙ find_before (suc first) q values (omega arith)

  -- and has the others by index
  find_from : (first q : ℕ) (values : List (Option X)) → find nat_cmp (first + q) (numbered first values) ≡ get_or values q None
  find_from first q [] = refl
  find_from first zero (None ∷ values) = find_before (suc first) (first + 0) values (omega arith)
  find_from first zero (Some x ∷ values) =
      let same : first + 0 ≡ first = omega arith in
      ap (λ n. cond (eq_by_cmp nat_cmp n first) (Some x) (find nat_cmp (first + 0) (numbered (suc first) values))) same
      ∙ ap (λ t. cond t (Some x) (find nat_cmp (first + 0) (numbered (suc first) values))) (equal_by_cmp first)
  find_from first (suc q) (None ∷ values) =
      let next : first + suc q ≡ suc first + q = omega arith in
      ap (λ n. find nat_cmp n (numbered (suc first) values)) next ∙ find_from (suc first) q values
  find_from first (suc q) (Some x ∷ values) =
      let next : first + suc q ≡ suc first + q = omega arith in
      ap (λ t. cond t (Some x) (find nat_cmp (first + suc q) (numbered (suc first) values))) (apart_by_cmp (first + suc q) first (λ e. omega arith))
      ∙ (ap (λ n. find nat_cmp n (numbered (suc first) values)) next ∙ find_from (suc first) q values)

  pub find_numbered : (values : List (Option X)) (q : ℕ) → find nat_cmp q (numbered 0 values) ≡ get_or values q None
  find_numbered values q =
      let same : q ≡ 0 + q = omega arith in
      ap (λ n. find nat_cmp n (numbered 0 values)) same ∙ find_from 0 q values

  -- a table with one more value, or none
  pub numbered_push : (first : ℕ) (values : List (Option X)) (o : Option X) → numbered first (values ++ o ∷ []) ≡ numbered first values ++ numbered (first + length values) (o ∷ [])
  numbered_push first [] o = let same : first ≡ first + 0 = omega arith in ap (λ n. numbered n (o ∷ [])) same
  numbered_push first (None ∷ values) o =
      let next : suc first + length values ≡ first + suc (length values) = omega arith in
      numbered_push (suc first) values o ∙ ap (λ n. numbered (suc first) values ++ numbered n (o ∷ [])) next
  numbered_push first (Some x ∷ values) o =
      let next : suc first + length values ≡ first + suc (length values) = omega arith in
      ap (λ es. (first, x) ∷ es) (numbered_push (suc first) values o ∙ ap (λ n. numbered (suc first) values ++ numbered n (o ∷ [])) next)

  -- one more index of a table, without a value and with one
  pub listed_none : (table : List (Option X)) (list : List (ℕ × X)) (n : ℕ) (o : Option X) → n < length table → o ≡ get_or table n o → o ≡ None → list ≡ numbered 0 (take n table) → list ≡ numbered 0 (take (n + 1) table)
  listed_none table list n o h is none e =
      let more : take (n + 1) table ≡ take n table ++ None ∷ [] = take_more table n o h ∙ ap (λ v. take n table ++ v ∷ []) (sym is ∙ none) in
      e ∙ sym (ap (numbered 0) more ∙ (numbered_push 0 (take n table) None ∙ append-nil (numbered 0 (take n table))))

  pub listed_some : (table : List (Option X)) (list list' : List (ℕ × X)) (n : ℕ) (o : Option X) (x : X) → n < length table → o ≡ get_or table n o → o ≡ Some x → list ≡ numbered 0 (take n table) → list' ≡ list ++ (n, x) ∷ [] → list' ≡ numbered 0 (take (n + 1) table)
  listed_some table list list' n o x h is some e push =
      let more : take (n + 1) table ≡ take n table ++ Some x ∷ [] = take_more table n o h ∙ ap (λ v. take n table ++ v ∷ []) (sym is ∙ some) in
      let here : 0 + length (take n table) ≡ n = omega (arith, length-take n table) in
      push ∙ (ap (λ es. es ++ (n, x) ∷ []) e
      ∙ sym (ap (numbered 0) more ∙ (numbered_push 0 (take n table) (Some x) ∙ ap (λ k. numbered 0 (take n table) ++ (k, x) ∷ []) here)))
