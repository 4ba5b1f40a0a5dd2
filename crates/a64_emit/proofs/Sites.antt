-- The uses of cells that stand one behind another.
use Rattle.std.proofs.Common.{ℕ, ◌≡◌, ◌+◌, ◌*◌, ◌<◌, suc, zero, List, [], ◌∷◌, ◌++◌, length, get_or, Option, None, Some, refl, sym, ap, ◌∙◌, subst, arith, append_assoc}
use Rattle.std.specs.List.{filter_map, cons_option}
use Rattle.std.proofs.lemmas.List.{append-nil}
use Rattle.a64_cells.specs.declared.site.Site.{Site}
use Rattle.a64_cells.specs.Shapes.{Cell}
use Rattle.a64_emit.specs.Layout.{placed, standing}

-- ---- from uses to cells, and back

-- the uses of cells that stand from a place on
abbrev pub sites_from : ℕ → List Cell → List (ℕ × Site)
sites_from place [] = []
sites_from place (c ∷ cs) = (elim c.site [ None ↦ [] | Some site ↦ (place, site) ∷ [] ]) ++ sites_from (place + 4) cs

-- a use of cells that stand from a place on: it is the use of one of them, at its place
pub record ComesFrom (place : ℕ) (cells : List Cell) (s : ℕ × Site) : Type 0 where
  pub index : ℕ
  pub within : index < length cells
  pub site_is : (d : Cell) → (get_or cells index d).site ≡ Some s.1
  pub place_is : s.0 ≡ place + 4 * index

pub comes_from : (place : ℕ) (cells : List Cell) (k : ℕ) (d : ℕ × Site) → k < length (sites_from place cells) → ComesFrom place cells (get_or (sites_from place cells) k d)
comes_from place [] k d h = absurd (omega arith)
comes_from place (c ∷ cs) k d h = case (λ j l. comes_from (place + 4) cs j d l) c.site refl k h
  where
    later : (s : ℕ × Site) → ComesFrom (place + 4) cs s → ComesFrom place (c ∷ cs) s
    later s r = record { index = suc r.index; within = omega (arith, r.within); site_is = λ e. r.site_is e; place_is = omega (arith, r.place_is) }

    case : ((j : ℕ) → j < length (sites_from (place + 4) cs) → ComesFrom (place + 4) cs (get_or (sites_from (place + 4) cs) j d)) → (o : Option Site) → c.site ≡ o → (j : ℕ) → j < length ((elim o [ None ↦ [] | Some site ↦ (place, site) ∷ [] ]) ++ sites_from (place + 4) cs) → ComesFrom place (c ∷ cs) (get_or ((elim o [ None ↦ [] | Some site ↦ (place, site) ∷ [] ]) ++ sites_from (place + 4) cs) j d)
    case ih None e j l = later (get_or (sites_from (place + 4) cs) j d) (ih j l)
    case ih (Some site) e zero l = record { index = 0; within = omega arith; site_is = λ f. e; place_is = omega arith }
    case ih (Some site) e (suc j) l = later (get_or (sites_from (place + 4) cs) j d) (ih j (omega arith))

-- a cell's use is among the uses
pub record HasSite (place : ℕ) (cells : List Cell) (k : ℕ) (site : Site) : Type 0 where
  pub index : ℕ
  pub within : index < length (sites_from place cells)
  pub is : (d : ℕ × Site) → get_or (sites_from place cells) index d ≡ (place + 4 * k, site)

-- the uses of a first cell, and of those behind it
abbrev pub with_first : ℕ → Option Site → List (ℕ × Site) → List (ℕ × Site)
with_first place None sites = sites
with_first place (Some site) sites = (place, site) ∷ sites

first_site : (place : ℕ) (o : Option Site) (sites : List (ℕ × Site)) → (elim o [ None ↦ [] | Some site ↦ (place, site) ∷ [] ]) ++ sites ≡ with_first place o sites
first_site place None sites = refl
first_site place (Some site) sites = refl

pub has_site : (place : ℕ) (cells : List Cell) (k : ℕ) (d : Cell) (site : Site) → k < length cells → (get_or cells k d).site ≡ Some site → HasSite place cells k site
has_site place [] k d site h e = absurd (omega arith)
has_site place (c ∷ cs) zero d site h e =
    let all : sites_from place (c ∷ cs) ≡ (place, site) ∷ sites_from (place + 4) cs = first_site place c.site (sites_from (place + 4) cs) ∙ ap (λ o. with_first place o (sites_from (place + 4) cs)) e in
    let here : place ≡ place + 4 * 0 = omega arith in
    record {
      index = 0;
      within = omega (arith, ap length all);
      is = λ f. ap (λ (t : List (ℕ × Site)). get_or t 0 f) all ∙ ap (λ n. (n, site)) here;
    }
has_site place (c ∷ cs) (suc k) d site h e =
    let r = has_site (place + 4) cs k d site (omega arith) e in
    go r c.site refl
  where
    go : HasSite (place + 4) cs k site → (o : Option Site) → c.site ≡ o → HasSite place (c ∷ cs) (suc k) site
    go r None f =
        let all : sites_from place (c ∷ cs) ≡ sites_from (place + 4) cs = first_site place c.site (sites_from (place + 4) cs) ∙ ap (λ o. with_first place o (sites_from (place + 4) cs)) f in
        let there : place + 4 + 4 * k ≡ place + 4 * suc k = omega arith in
        record {
          index = r.index;
          within = omega (arith, r.within, ap length all);
          is = λ g. ap (λ (t : List (ℕ × Site)). get_or t r.index g) all ∙ r.is g ∙ ap (λ n. (n, site)) there;
        }
    go r (Some first) f =
        let all : sites_from place (c ∷ cs) ≡ (place, first) ∷ sites_from (place + 4) cs = first_site place c.site (sites_from (place + 4) cs) ∙ ap (λ o. with_first place o (sites_from (place + 4) cs)) f in
        let there : place + 4 + 4 * k ≡ place + 4 * suc k = omega arith in
        record {
          index = suc r.index;
          within = omega (arith, r.within, ap length all);
          is = λ g. ap (λ (t : List (ℕ × Site)). get_or t (suc r.index) g) all ∙ r.is g ∙ ap (λ n. (n, site)) there;
        }

-- ---- what a test finds in a list

pub record IsFoundIn {X Y : Type 0} (f : X → Option Y) (xs : List X) (y : Y) : Type 0 where
  pub index : ℕ
  pub within : index < length (filter_map f xs)
  pub is : (d : Y) → get_or (filter_map f xs) index d ≡ y

found_at : {X Y : Type 0} (f : X → Option Y) (x : X) (xs : List X) (y : Y) (o : Option Y) → f x ≡ o → IsFoundIn f xs y → IsFoundIn f (x ∷ xs) y
found_at f x xs y None e r = record {
  index = r.index;
  within = subst (λ o. r.index < length (cons_option o (filter_map f xs))) (sym e) r.within;
  is = λ d. ap (λ o. get_or (cons_option o (filter_map f xs)) r.index d) e ∙ r.is d;
}
found_at f x xs y (Some z) e r = record {
  index = suc r.index;
  within = subst (λ o. suc r.index < length (cons_option o (filter_map f xs))) (sym e) (omega (arith, r.within));
  is = λ d. ap (λ o. get_or (cons_option o (filter_map f xs)) (suc r.index) d) e ∙ r.is d;
}

pub found_in : {X Y : Type 0} (f : X → Option Y) (xs : List X) (k : ℕ) (d : X) (y : Y) → k < length xs → f (get_or xs k d) ≡ Some y → IsFoundIn f xs y
found_in f [] k d y h e = absurd (omega arith)
found_in f (x ∷ xs) zero d y h e = record {
  index = 0;
  within = subst (λ o. 0 < length (cons_option o (filter_map f xs))) (sym e) (omega arith);
  is = λ g. ap (λ o. get_or (cons_option o (filter_map f xs)) 0 g) e;
}
found_in f (x ∷ xs) (suc k) d y h e = found_at f x xs y (f x) refl (found_in f xs k d y (omega arith) e)

-- ---- cells at their places

pub length-placed : (place : ℕ) (cells : List Cell) → length (placed place cells) ≡ length cells
length-placed place [] = refl
length-placed place (c ∷ cs) = ap suc (length-placed (place + 4) cs)

pub placed_at : (place : ℕ) (cells : List Cell) (k : ℕ) (d : ℕ × Cell) → k < length cells → get_or (placed place cells) k d ≡ (place + 4 * k, get_or cells k d.1)
placed_at place [] k d h = absurd (omega arith)
placed_at place (c ∷ cs) zero d h = ap (λ n. (n, c)) (omega arith)
placed_at place (c ∷ cs) (suc k) d h =
    let there : place + 4 + 4 * k ≡ place + 4 * suc k = omega arith in
    placed_at (place + 4) cs k d (omega arith) ∙ ap (λ n. (n, get_or cs k d.1)) there

-- the cells of one more list stand behind the others, at its place
pub standing-push : (css : List (List Cell)) (cs : List Cell) (places : List ℕ) (place : ℕ) → length places ≡ length css → standing (css ++ cs ∷ []) (places ++ place ∷ []) ≡ standing css places ++ placed place cs
standing-push [] cs [] place e = append-nil (placed place cs)
standing-push [] cs (p ∷ places) place e = absurd (omega (arith, e))
standing-push (ds ∷ css) cs [] place e = absurd (omega (arith, e))
standing-push (ds ∷ css) cs (p ∷ places) place e =
    ap (λ t. placed p ds ++ t) (standing-push css cs places place (omega (arith, e)))
    ∙ sym (append_assoc (placed p ds) (standing css places) (placed place cs))
