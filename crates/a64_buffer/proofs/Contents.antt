-- What contents are as bytes.
use Rattle.std.proofs.Common.{ℕ, ◌≡◌, Bool, true, false, cond, List, [], ◌∷◌, length, Option, None, Some, map, refl, sym, ◌∙◌, ap, subst, arith, inl, inr, nat_cmp}
use Rattle.std.specs.Prelude.{◌⊎◌, ◌==◌, ◌||◌, IsTrue, option_map, is_some, IfSome}
use Rattle.std.specs.Cmp.{nat_cmp_total}
use Rattle.std.specs.Ordering.{eq_by_cmp}
use Rattle.std.specs.FinMap.{FinMap, get, insert, empty, entries, find, get-empty, get-entries, get-from_entries, get-insert, same_map, nat_cmp-IsAntisymmetric}
use Rattle.std.proofs.lemmas.Bool.{false≢true}
use Rattle.std.proofs.lemmas.Bool.Decides.{eqb_tells}
use Rattle.std.proofs.lemmas.List.{length-take-le}
use Rattle.a64_buffer.specs.declared.content.Content.{Content}
use Rattle.a64_buffer.specs.Constants.{IsConstant, AreConstants, content_bytes, contents_bytes}

-- entries whose values are mapped
find_mapped : {X Y : Type 0} (f : X → Y) (q : ℕ) (es : List (ℕ × X)) → find nat_cmp q (map (λ e. (e.0, f e.1)) es) ≡ option_map f (find nat_cmp q es)
find_mapped f q [] = refl
find_mapped f q (e ∷ es) = elim (eq_by_cmp nat_cmp q e.0) as (λ t. cond t (Some (f e.1)) (find nat_cmp q (map (λ e. (e.0, f e.1)) es)) ≡ option_map f (cond t (Some e.1) (find nat_cmp q es))) [ true ↦ refl | false ↦ find_mapped f q es ]

-- the bytes of a number's content
pub bytes_at : (contents : FinMap nat_cmp Content) (number : ℕ) → get (contents_bytes contents) number ≡ option_map content_bytes (get contents number)
bytes_at contents number =
    get-from_entries nat_cmp_total (map (λ e. (e.0, content_bytes e.1)) (entries contents)) number
    ∙ (find_mapped content_bytes number (entries contents)
    ∙ ap (option_map content_bytes) (sym (get-entries contents number)))

same_bytes : (m n : FinMap nat_cmp (List ℕ)) → ((number : ℕ) → get m number ≡ get n number) → m ≡ n
same_bytes = same_map nat_cmp_total nat_cmp-IsAntisymmetric

-- no contents, and one more
pub bytes_none : contents_bytes empty ≡ empty
bytes_none = same_bytes (contents_bytes empty) empty (λ number.
    bytes_at empty number ∙ (ap (option_map content_bytes) (get-empty nat_cmp number) ∙ sym (get-empty nat_cmp number)))

pub bytes_more : (contents : FinMap nat_cmp Content) (number : ℕ) (content : Content) → contents_bytes (insert contents number content) ≡ insert (contents_bytes contents) number (content_bytes content)
bytes_more contents number content = same_bytes (contents_bytes (insert contents number content)) (insert (contents_bytes contents) number (content_bytes content)) (λ q.
    bytes_at (insert contents number content) q
    ∙ (ap (option_map content_bytes) (get-insert nat_cmp_total contents number content q)
    ∙ (mapped (eq_by_cmp nat_cmp q number) (get contents q)
    ∙ (ap (cond (eq_by_cmp nat_cmp q number) (Some (content_bytes content))) (sym (bytes_at contents q))
    ∙ sym (get-insert nat_cmp_total (contents_bytes contents) number (content_bytes content) q)))))
  where
    mapped : (t : Bool) (o : Option Content) → option_map content_bytes (cond t (Some content) o) ≡ cond t (Some (content_bytes content)) (option_map content_bytes o)
    mapped true o = refl
    mapped false o = refl

-- a number has bytes where it has a content
pub some_bytes : (contents : FinMap nat_cmp Content) (number : ℕ) → is_some (get (contents_bytes contents) number) ≡ is_some (get contents number)
some_bytes contents number = ap is_some (bytes_at contents number) ∙ mapped (get contents number)
  where
    mapped : (o : Option Content) → is_some (option_map content_bytes o) ≡ is_some o
    mapped None = refl
    mapped (Some content) = refl

-- how many bytes a content may have
pub some_size : (size : ℕ) → IsTrue (size == 4 || size == 8 || size == 16) → (size ≡ 4) ⊎ (size ≡ 8) ⊎ (size ≡ 16)
some_size size h = elim (eqb_tells size 4) [
  | inl e ↦ inl e.1
  | inr a ↦ elim (eqb_tells size 8) [
    | inl e ↦ inr (inl e.1)
    | inr b ↦ elim (eqb_tells size 16) [
      | inl e ↦ inr (inr e.1)
      | inr d ↦ absurd (false≢true (sym (ap (λ t. t || size == 8 || size == 16) a.0 ∙ (ap (λ t. t || size == 16) b.0 ∙ d.0)) ∙ h))
    ]
  ]
]

-- and how many it has
pub content_length : (content : Content) → length (content_bytes content) ≡ content.size
content_length content = length-take-le content.size content.bytes (omega (arith, some_size content.size content.sized, content.whole))

-- so contents are constants
pub content_sized : (content : Content) → IsConstant (content_bytes content)
content_sized content = subst (λ n. (n ≡ 4) ⊎ (n ≡ 8) ⊎ (n ≡ 16)) (sym (content_length content)) (some_size content.size content.sized)

pub contents_sized : (contents : FinMap nat_cmp Content) → AreConstants (contents_bytes contents)
contents_sized contents number = subst (λ o. IfSome o IsConstant) (sym (bytes_at contents number)) (go (get contents number))
  where
    go : (o : Option Content) → IfSome (option_map content_bytes o) IsConstant
    go None = tt
    go (Some content) = content_sized content
