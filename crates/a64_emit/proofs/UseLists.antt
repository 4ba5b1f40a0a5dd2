-- The uses of an instruction's words: of the first two, or of the entries of a table behind those.
use Rattle.std.proofs.Common.{ℕ, ◌≡◌, ◌+◌, Bool, true, false, List, [], ◌∷◌, ◌++◌, map, Option, None, Some, refl, sym, ap, ◌∙◌}
use Rattle.std.specs.Prelude.{◌||◌}
use Rattle.std.specs.List.{filter_map, cons_option, list_any}
use Rattle.std.specs.Option.{option_or}
use Rattle.std.specs.Prelude.{option_and_then}
use Rattle.std.proofs.lemmas.List.{append-nil, map-append}
use Rattle.std.proofs.lemmas.List.Elements.{filter_map-append}
use Rattle.std.proofs.lemmas.List.Folds.{find-append, list_any-append}
use Rattle.a64_base.specs.declared.entity.MachLabel.{MachLabel}
use Rattle.a64_cells.specs.declared.site.Site.{Site}
use Rattle.a64_cells.specs.declared.site.CellUse.{CellUse}
use Rattle.a64_cells.specs.declared.site.Table.{Table}
use Rattle.a64_cells.specs.declared.site.Uses.{Uses}
use Rattle.a64_cells.specs.Shapes.{Cell, entry_site, table_labels}
use Rattle.a64_cells.specs.Cells.{use_of, uses_of, two_uses, sites_of, table_uses, listed_uses}
use Rattle.a64_emit.specs.Bounds.{veneer_range, ranges_in, lesser, least}
use Rattle.a64_emit.specs.Faults.{used_label, first_missing}
use Rattle.a64_emit.specs.Reach.{is_near, first_some}

-- the sites of uses
abbrev sites_in : List CellUse → List Site
sites_in uses = map (λ u. u.site) uses

-- these are the sites of the words
sites_in_uses : (n : ℕ) (cells : List Cell) → sites_in (uses_of n cells) ≡ sites_of cells
sites_in_uses n [] = refl
sites_in_uses n (c ∷ cs) = map-append (λ u. u.site) (use_of n c.site) (uses_of (n + 1) cs) ∙ ap (λ ss. map (λ u. u.site) (use_of n c.site) ++ ss) (sites_in_uses (n + 1) cs) ∙ one c.site
  where
    one : (o : Option Site) → map (λ u. u.site) (use_of n o) ++ sites_of cs ≡ cons_option o (sites_of cs)
    one None = refl
    one (Some s) = refl

-- the sites of two words
abbrev pub two_sites : Option Site → Option Site → List Site
two_sites first second = cons_option first (cons_option second [])

sites_in_two : (a b : Option Site) → sites_in (two_uses a b) ≡ two_sites a b
sites_in_two None None = refl
sites_in_two None (Some y) = refl
sites_in_two (Some x) None = refl
sites_in_two (Some x) (Some y) = refl

-- the labels of the table, where there is one
abbrev pub listed_labels : Option Table → List MachLabel
listed_labels None = []
listed_labels (Some table) = table_labels table.default table.targets.now

-- those of the entries of a table
sites_in_table : (n : ℕ) (labels : List MachLabel) → sites_in (table_uses n labels) ≡ map entry_site labels
sites_in_table n [] = refl
sites_in_table n (label ∷ labels) = ap (λ ss. entry_site label ∷ ss) (sites_in_table (n + 1) labels)

sites_in_listed : (uses : Uses) → sites_in (listed_uses uses) ≡ two_sites uses.first uses.second ++ map entry_site (listed_labels uses.table)
sites_in_listed uses = go uses.table
  where
    go : (o : Option Table) → sites_in (listed_uses (record uses { table = o })) ≡ two_sites uses.first uses.second ++ map entry_site (listed_labels o)
    go None = map-append (λ u. u.site) (two_uses uses.first uses.second) [] ∙ ap (λ ss. ss ++ []) (sites_in_two uses.first uses.second)
    go (Some table) =
        let labels = table_labels table.default table.targets.now in
        map-append (λ u. u.site) (two_uses uses.first uses.second) (table_uses table.first labels)
        ∙ ap (λ ss. ss ++ sites_in (table_uses table.first labels)) (sites_in_two uses.first uses.second)
        ∙ ap (λ ss. two_sites uses.first uses.second ++ ss) (sites_in_table table.first labels)

-- words with these uses have their sites
pub sites_listed : (cells : List Cell) (uses : Uses) → uses_of 0 cells ≡ listed_uses uses → sites_of cells ≡ two_sites uses.first uses.second ++ map entry_site (listed_labels uses.table)
sites_listed cells uses is = sym (sites_in_uses 0 cells) ∙ ap sites_in is ∙ sites_in_listed uses

-- one of them behind the other
apart : (a b : Option Site) → two_sites a b ≡ cons_option a [] ++ cons_option b []
apart None b = refl
apart (Some x) b = refl

pub sites_apart : (cells : List Cell) (uses : Uses) → uses_of 0 cells ≡ listed_uses uses → sites_of cells ≡ (cons_option uses.first [] ++ cons_option uses.second []) ++ map entry_site (listed_labels uses.table)
sites_apart cells uses is = sites_listed cells uses is ∙ ap (λ ss. ss ++ map entry_site (listed_labels uses.table)) (apart uses.first uses.second)

-- ---- where there is no table

pub listed_two : (a b : Option Site) → listed_uses (record { first = a; second = b; table = None }) ≡ two_uses a b
listed_two a b = append-nil (two_uses a b)

-- ---- the uses that may want veneers: no entry of a table does

entry_ranges : (labels : List MachLabel) → filter_map veneer_range (map entry_site labels) ≡ []
entry_ranges [] = refl
entry_ranges (label ∷ labels) = entry_ranges labels

ranges_of : (a b : Option Site) → filter_map veneer_range (two_sites a b) ≡ cons_option (option_and_then veneer_range a) (cons_option (option_and_then veneer_range b) [])
ranges_of None None = refl
ranges_of None (Some y) = refl
ranges_of (Some x) None = refl
ranges_of (Some x) (Some y) = refl

pub ranges_listed : (cells : List Cell) (uses : Uses) → uses_of 0 cells ≡ listed_uses uses → ranges_in cells ≡ cons_option (option_and_then veneer_range uses.first) (cons_option (option_and_then veneer_range uses.second) [])
ranges_listed cells uses is =
    let sites = two_sites uses.first uses.second in
    ap (filter_map veneer_range) (sites_listed cells uses is)
    ∙ filter_map-append veneer_range sites (map entry_site (listed_labels uses.table))
    ∙ ap (λ rs. filter_map veneer_range sites ++ rs) (entry_ranges (listed_labels uses.table))
    ∙ append-nil (filter_map veneer_range sites)
    ∙ ranges_of uses.first uses.second

pub least_two : (a b : Option ℕ) → lesser a b ≡ least (cons_option a (cons_option b []))
least_two None None = refl
least_two None (Some y) = refl
least_two (Some x) None = refl
least_two (Some x) (Some y) = refl

-- ---- the labels that are not bound

entry_labels : (labels : List MachLabel) → filter_map used_label (map entry_site labels) ≡ labels
entry_labels [] = refl
entry_labels (label ∷ labels) = ap (λ ls. label ∷ ls) (entry_labels labels)

pub missing_listed : (bound : List MachLabel) (cells : List Cell) (uses : Uses) → uses_of 0 cells ≡ listed_uses uses
    → first_missing bound (filter_map used_label (sites_of cells))
    ≡ option_or (option_or (first_missing bound (filter_map used_label (cons_option uses.first []))) (first_missing bound (filter_map used_label (cons_option uses.second [])))) (first_missing bound (listed_labels uses.table))
missing_listed bound cells uses is =
    let first = cons_option uses.first [] in
    let second = cons_option uses.second [] in
    ap (λ ss. first_missing bound (filter_map used_label ss)) (sites_apart cells uses is)
    ∙ ap (first_missing bound) (filter_map-append used_label (first ++ second) (map entry_site (listed_labels uses.table)) ∙ ap (λ ls. filter_map used_label (first ++ second) ++ ls) (entry_labels (listed_labels uses.table)))
    ∙ find-append _ (filter_map used_label (first ++ second)) (listed_labels uses.table)
    ∙ ap (λ o. option_or o (first_missing bound (listed_labels uses.table))) (ap (first_missing bound) (filter_map-append used_label first second) ∙ find-append _ (filter_map used_label first) (filter_map used_label second))

-- ---- the uses that need their labels near: no entry of a table does

entry_near : (labels : List MachLabel) → list_any is_near (map entry_site labels) ≡ false
entry_near [] = refl
entry_near (label ∷ labels) = entry_near labels

pub near_listed : (cells : List Cell) (uses : Uses) → uses_of 0 cells ≡ listed_uses uses → list_any is_near (sites_of cells) ≡ (list_any is_near (cons_option uses.first []) || list_any is_near (cons_option uses.second []))
near_listed cells uses is =
    let first = cons_option uses.first [] in
    let second = cons_option uses.second [] in
    ap (list_any is_near) (sites_apart cells uses is)
    ∙ list_any-append is_near (first ++ second) (map entry_site (listed_labels uses.table))
    ∙ ap (λ b. list_any is_near (first ++ second) || b) (entry_near (listed_labels uses.table))
    ∙ or_false (list_any is_near (first ++ second))
    ∙ list_any-append is_near first second
  where
    or_false : (b : Bool) → (b || false) ≡ b
    or_false true = refl
    or_false false = refl

-- ---- the first use of which a test has something, where it has nothing of entries of tables

pub first_listed : {Y : Type 0} (f : Site → Option Y) → ((label : MachLabel) → f (entry_site label) ≡ None) → (cells : List Cell) (uses : Uses) → uses_of 0 cells ≡ listed_uses uses
    → first_some f (sites_of cells) ≡ option_or (option_and_then f uses.first) (option_and_then f uses.second)
first_listed {Y = Y} f nothing cells uses is = ap (first_some f) (sites_listed cells uses is) ∙ go uses.first uses.second
  where
    entries : (labels : List MachLabel) → first_some f (map entry_site labels) ≡ None
    entries [] = refl
    entries (label ∷ labels) = ap (λ o. option_or o (first_some f (map entry_site labels))) (nothing label) ∙ entries labels

    last : (o : Option Y) → option_or o (first_some f (map entry_site (listed_labels uses.table))) ≡ o
    last None = entries (listed_labels uses.table)
    last (Some y) = refl

    go : (a b : Option Site) → first_some f (two_sites a b ++ map entry_site (listed_labels uses.table)) ≡ option_or (option_and_then f a) (option_and_then f b)
    go None None = entries (listed_labels uses.table)
    go None (Some y) = last (f y)
    go (Some x) None = ap (option_or (f x)) (entries (listed_labels uses.table))
    go (Some x) (Some y) = ap (option_or (f x)) (last (f y))
