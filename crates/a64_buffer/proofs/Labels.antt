-- Lemmas on maps by number.
use Rattle.std.proofs.Common.{ℕ, ◌≡◌, ◌≢◌, true, false, cond, List, [], ◌∷◌, Option, None, Some, IfSome, refl, ◌∙◌, ap, nat_cmp}
use Rattle.std.specs.Cmp.{nat_cmp_total, eq_by_cmp_equiv}
use Rattle.std.specs.Ordering.{eq_by_cmp, is_eq}
use Rattle.std.specs.declared.cmp.Ordering.TheVariants.{Less, Equal, Greater}
use Rattle.std.specs.BTreeMap.{is_at}
use Rattle.std.specs.Map.{lookup}
use Rattle.std.specs.FinMap.{FinMap, get, insert, find, get-insert, nat_cmp-IsAntisymmetric}
use Rattle.std.proofs.lemmas.Bool.{false≢true}

-- what a list of entries has at a number, in the words of trees
pub find_tree : (es : List (ℕ × ℕ)) (q : ℕ) → find nat_cmp q es ≡ lookup (is_at (nat_cmp q)) es
find_tree [] q = refl
find_tree (e ∷ es) q = ap (cond (is_at (nat_cmp q) e.0) (Some e.1)) (find_tree es q)

-- numbers that compare equal are the same
pub same_by_cmp : (a b : ℕ) → eq_by_cmp nat_cmp a b ≡ true → a ≡ b
same_by_cmp a b e =
    elim (nat_cmp a b) as (λ o. nat_cmp a b ≡ o → is_eq o ≡ true → a ≡ b) [
      | Less ↦ λ p q. absurd (false≢true q)
      | Equal ↦ λ p q. nat_cmp-IsAntisymmetric a b p
      | Greater ↦ λ p q. absurd (false≢true q)
    ] refl e

-- a map with one more number, there and elsewhere
pub get_here : (m : FinMap nat_cmp ℕ) (key value : ℕ) → get (insert m key value) key ≡ Some value
get_here m key value = get-insert nat_cmp_total m key value key ∙ ap (λ t. cond t (Some value) (get m key)) ((eq_by_cmp_equiv nat_cmp_total).refl key)

pub get_other : (m : FinMap nat_cmp ℕ) (key value q : ℕ) → q ≢ key → get (insert m key value) q ≡ get m q
get_other m key value q ne = get-insert nat_cmp_total m key value q ∙ ap (λ t. cond t (Some value) (get m q)) (elim (eq_by_cmp nat_cmp q key) as (λ t. eq_by_cmp nat_cmp q key ≡ t → t ≡ false) [ true ↦ λ e. absurd (ne (same_by_cmp q key e)) | false ↦ λ e. refl ] refl)

-- what is true of a number, if there is one, and what follows from it
pub some_weaker : {P Q : ℕ → Type 0} (o : Option ℕ) → ((t : ℕ) → P t → Q t) → IfSome o P → IfSome o Q
some_weaker None f h = h
some_weaker (Some t) f h = f t h
