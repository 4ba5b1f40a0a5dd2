-- Relocations of a unit that are checked one by one.
use Rattle.std.proofs.Common.{ℕ, ◌≡◌, ◌+◌, ◌*◌, ◌%◌, ◌<◌, ◌≤◌, Bool, true, false, cond, eqb, List, [], ◌∷◌, ◌++◌, length, take, drop, get_or, Option, Some, None, refl, sym, ap, ap₂, subst, ◌∙◌, arith, nat_cmp}
use Rattle.std.specs.Prelude.{◌||◌, is_some}
use Rattle.std.specs.FinMap.{FinMap, empty, get-empty}
use Rattle.std.specs.List.{list_any}
use Rattle.std.proofs.lemmas.Bool.{and_parts, not-true, eqb-true, leb-true}
use Rattle.std.proofs.lemmas.List.{take_more, at_drop_more, at_drop_all}
use Rattle.std.proofs.lemmas.List.Elements.{All-push}
use Rattle.std.proofs.lemmas.List.Folds.{list_any-append}
use Rattle.a64_link.specs.declared.error.LinkError.{LinkError}
use Rattle.a64_link.specs.declared.error.LinkError.TheVariants as errors
use Rattle.a64_link.specs.Units.{Relocation, is_call}
use Rattle.a64_link.specs.Linking.{site_size}
use Rattle.a64_link.specs.Faults.{or_else, is_linked, overlap, fits_call, is_good_site, reloc_fault, relocs_fault}
use Rattle.a64_link.specs.Sites.{takes, AreTaken, HasTaken}

-- nothing is wrong with a relocation behind others
pub record IsFine (words : List ℕ) (before : List Relocation) (r : Relocation) : Type 0 where
  pub aligned : r.0 % 4 ≡ 0
  pub within : r.0 + site_size r ≤ 4 * length words
  pub apart : list_any (overlap r) before ≡ false
  pub call : cond (is_call r.1) (fits_call words r) true ≡ true

pub reloc_fine : (i : ℕ) (words : List ℕ) (before : List Relocation) (r : Relocation) → reloc_fault i words before r ≡ None → IsFine words before r
reloc_fine i words before r e =
    let g = good (is_linked r.1) (is_good_site words before r) e in
    let a = and_parts (eqb (r.0 % 4) 0) _ g in
    let b = and_parts _ _ a.1 in
    let c = and_parts _ _ b.1 in
    record { aligned = eqb-true _ _ a.0; within = leb-true _ _ b.0; apart = not-true _ c.0; call = c.1 }
  where
    good : (l g : Bool) → cond l (cond g None (Some (errors.BadSite i r.0))) (Some (errors.UnsupportedReloc i r.0)) ≡ None → g ≡ true
    good true true e = refl
    good true false e = absurd cc
    good false g e = absurd cc

-- so many relocations of a unit were checked, and their sites' words are taken
pub record AreChecked (i : ℕ) (words : List ℕ) (rs : List Relocation) (k : ℕ) (taken : FinMap nat_cmp (Unit {0})) : Type 0 where
  pub rest : relocs_fault i words (take k rs) (drop k rs) ≡ relocs_fault i words [] rs
  pub taken_are : AreTaken (take k rs) taken

pub none_checked : (i : ℕ) (words : List ℕ) (rs : List Relocation) → AreChecked i words rs 0 empty
none_checked i words rs = record { rest = refl; taken_are = record { aligned = λ k d lt. absurd (omega arith); has = λ n. ap is_some (get-empty nat_cmp n) } }

module _ (i : ℕ) (words : List ℕ) (rs : List Relocation) (k : ℕ) (d x : Relocation) (within : k < length rs) (is : get_or rs k d ≡ x) (old : FinMap nat_cmp (Unit {0})) (h : AreChecked i words rs k old) where
  left : or_else (reloc_fault i words (take k rs) x) (relocs_fault i words (take k rs ++ x ∷ []) (drop (k + 1) rs)) ≡ relocs_fault i words [] rs
  left =
      ap (λ (y : Relocation). or_else (reloc_fault i words (take k rs) y) (relocs_fault i words (take k rs ++ y ∷ []) (drop (k + 1) rs))) (sym is)
      ∙ sym (at_drop_more (relocs_fault i words (take k rs)) rs k d within) ∙ h.rest

  taken_more : take (k + 1) rs ≡ take k rs ++ x ∷ []
  taken_more = take_more rs k d within ∙ ap (λ (y : Relocation). take k rs ++ y ∷ []) is

  pub one_checked : (new : FinMap nat_cmp (Unit {0})) → reloc_fault i words (take k rs) x ≡ None → HasTaken x old new → AreChecked i words rs (k + 1) new
  one_checked new fine took = record {
    rest = ap (λ (l : List Relocation). relocs_fault i words l (drop (k + 1) rs)) taken_more ∙ ap (λ (o : Option LinkError). or_else o (relocs_fault i words (take k rs ++ x ∷ []) (drop (k + 1) rs))) (sym fine) ∙ left;
    taken_are = subst (λ (l : List Relocation). AreTaken l new) (sym taken_more) (record {
      aligned = All-push (λ (r : Relocation). r.0 % 4 ≡ 0) (take k rs) x h.taken_are.aligned (reloc_fine i words (take k rs) x fine).aligned;
      has = λ n. took n ∙ ap₂ ◌||◌ (h.taken_are.has n) (end (takes n x)) ∙ sym (list_any-append (takes n) (take k rs) (x ∷ []));
    });
  }
    where
      end : (b : Bool) → b ≡ (b || false)
      end true = refl
      end false = refl

  pub one_bad : (e : LinkError) → reloc_fault i words (take k rs) x ≡ Some e → relocs_fault i words [] rs ≡ Some e
  one_bad e bad = sym left ∙ ap (λ (o : Option LinkError). or_else o (relocs_fault i words (take k rs ++ x ∷ []) (drop (k + 1) rs))) bad

pub all_checked : (i : ℕ) (words : List ℕ) (rs : List Relocation) (k : ℕ) (taken : FinMap nat_cmp (Unit {0})) → length rs ≤ k → AreChecked i words rs k taken → relocs_fault i words [] rs ≡ None
all_checked i words rs k taken le h = sym h.rest ∙ at_drop_all (relocs_fault i words (take k rs)) rs k le
