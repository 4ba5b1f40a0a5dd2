-- What uses may want of islands, by what the items with these uses may want.
use Rattle.std.proofs.Common.{ℕ, ◌≡◌, ◌+◌, ◌*◌, ◌≤◌, ◌⊎◌, inl, inr, Bool, true, false, cond, List, [], ◌∷◌, ◌++◌, length, Option, None, Some, refl, sym, ap, subst, arith, nat_cmp}
use Rattle.std.specs.Prelude.{All, ◌&&◌, is_none}
use Rattle.std.specs.List.{cons_option}
use Rattle.std.specs.FinMap.{FinMap}
use Rattle.std.proofs.lemmas.List.Elements.{All-append, filter_map-append}
use Rattle.a64_inst.specs.declared.emission.EmitFlags.{EmitFlags}
use Rattle.a64_inst.specs.declared.frame.FrameLayout.{FrameLayout}
use Rattle.a64_inst.specs.declared.item.Item.{Item}
use Rattle.a64_inst.specs.declared.item.Item.TheVariants.{Bind, Emit}
use Rattle.a64_buffer.specs.declared.site.Use.{Use}
use Rattle.a64_buffer.specs.declared.site.Target.{Target}
use Rattle.a64_buffer.specs.declared.site.Target.TheVariants.{Label, Constant, Trap, IslandEnd}
use Rattle.a64_buffer.specs.Buffer.{made_use}
use Rattle.a64_buffer.specs.Sound.{IsKinded}
use Rattle.a64_buffer.specs.Classes.{third, cost, wants, class_of, is_open, weigh, burden}
use Rattle.a64_buffer.proofs.Costs.{weight-cons}
use Rattle.a64_label_use.specs.declared.label_use.LabelUse.{LabelUse}
use Rattle.a64_label_use.specs.declared.label_use.LabelUse.TheVariants as uses
use Rattle.a64_cells.specs.declared.site.Site.{Site}
use Rattle.a64_label_use.specs.LabelUses.{label_kinds, urgency_of, forward_range}
use Rattle.a64_cells.specs.Shapes.{Cell}
use Rattle.a64_cells.specs.Cells.{inst_cells, kept_by, cells_of, all_cells, sites_of}
use Rattle.a64_emit.specs.Bounds.{veneer_range, ranges_in, charge_of}
use Rattle.a64_emit.proofs.Keeping.{keep_sites}
use Rattle.a64_emit.proofs.Targets.{IsCodeTarget, IsCodeSite, inst_targets}
use Rattle.a64_emit.specs.Emission.{use_at, uses_from, site_of}

-- ---- what a use may want

half_open : (o : Bool) (n : ℕ) → cond o n 0 ≤ n
half_open true n = omega arith
half_open false n = omega arith

-- a use that is made wants 28 bytes at most, where it may want something
one_burden : (labels : FinMap nat_cmp ℕ) (place : ℕ) (t : Target) (kind : LabelUse) (rest : List ℕ) → weigh label_kinds (cost third) (made_use label_kinds labels place t kind) + 28 * length rest ≤ 28 * length (cons_option (veneer_range (record { kind = kind; target = t })) rest)
one_burden labels place (Label l) uses.Branch14 rest = let w = half_open (is_none (made_use label_kinds labels place (Label l) uses.Branch14).stop) 24 in omega (arith, w)
one_burden labels place (Label l) uses.Branch19 rest = let w = half_open (is_none (made_use label_kinds labels place (Label l) uses.Branch19).stop) 24 in omega (arith, w)
one_burden labels place (Label l) uses.Branch26 rest = let w = half_open (is_none (made_use label_kinds labels place (Label l) uses.Branch26).stop) 20 in omega (arith, w)
one_burden labels place (Label l) uses.Ldr19 rest = omega arith
one_burden labels place (Label l) uses.Adr21 rest = omega arith
one_burden labels place (Label l) uses.PCRel32 rest = omega arith
one_burden labels place (Constant n) kind rest = let w = half_open (is_none (made_use label_kinds labels place (Constant n) kind).stop) 28 in omega (arith, w)
one_burden labels place (Trap code) kind rest = let w = half_open (is_none (made_use label_kinds labels place (Trap code) kind).stop) 4 in omega (arith, w)
one_burden labels place IslandEnd kind rest = omega arith

-- the uses of cells want no more than the cells are charged for
pub new_burden : (labels : FinMap nat_cmp ℕ) (place : ℕ) (cells : List Cell) → burden label_kinds third (uses_from labels place cells) ≤ 28 * length (ranges_in cells)
new_burden labels place [] = omega arith
new_burden labels place (c ∷ cs) = go (new_burden labels (place + 4) cs) c.site
  where
    go : burden label_kinds third (uses_from labels (place + 4) cs) ≤ 28 * length (ranges_in cs) → (o : Option Site) → burden label_kinds third (use_at labels place o ++ uses_from labels (place + 4) cs) ≤ 28 * length (ranges_in (record { body = c.body; site = o; marks = c.marks } ∷ cs))
    go less None = less
    go less (Some site) = omega (arith, weight-cons label_kinds (cost third) (made_use label_kinds labels place site.target site.kind) (uses_from labels (place + 4) cs), one_burden labels place site.target site.kind (ranges_in cs), less)

pub charge_least : (cells : List Cell) → 28 * length (ranges_in cells) ≤ charge_of cells
charge_least [] = omega arith
charge_least (c ∷ cs) = omega arith

pub charge_some : (cells : List Cell) → 1 ≤ length cells → 4 + 28 * length (ranges_in cells) ≤ charge_of cells
charge_some [] some = absurd (omega arith)
charge_some (c ∷ cs) some = omega arith

-- cells are none, or some
pub none_or_some : (cells : List Cell) → (cells ≡ []) ⊎ (1 ≤ length cells)
none_or_some [] = inl refl
none_or_some (c ∷ cs) = inr (omega arith)

-- the range of a use that wants something is among those that count
pub open_range : (u : Use LabelUse) → is_open label_kinds u ≡ true → veneer_range (site_of u).1 ≡ Some (forward_range u.kind)
open_range u = go u.target u.kind (is_none u.stop)
  where
    go : (t : Target) (kind : LabelUse) (o : Bool) → (wants (class_of label_kinds t kind) && o) ≡ true → veneer_range (record { kind = kind; target = t }) ≡ Some (forward_range kind)
    go (Label l) uses.Branch14 o e = refl
    go (Label l) uses.Branch19 o e = refl
    go (Label l) uses.Branch26 o e = refl
    go (Label l) uses.Ldr19 o e = absurd (let z : false ≡ true = e in cc)
    go (Label l) uses.Adr21 o e = absurd (let z : false ≡ true = e in cc)
    go (Label l) uses.PCRel32 o e = absurd (let z : false ≡ true = e in cc)
    go (Constant n) kind o e = refl
    go (Trap code) kind o e = refl
    go IslandEnd kind o e = absurd (let z : false ≡ true = e in cc)

-- ---- the uses that exist

module _ (frame : FrameLayout) (flags : EmitFlags) where
  no_sites : All IsCodeSite []
  no_sites k d w = absurd (omega arith)

  item_targets : (item : Item) → All IsCodeSite (sites_of (cells_of frame flags item))
  item_targets (Bind label) = no_sites
  item_targets (Emit inst kept) = subst (All IsCodeSite) (sym (keep_sites (kept_by inst kept) (inst_cells frame flags inst))) (inst_targets frame flags inst)

  pub all_targets : (items : List Item) → All IsCodeSite (sites_of (all_cells frame flags items))
  all_targets [] = no_sites
  all_targets (x ∷ xs) = subst (All IsCodeSite) (sym (filter_map-append (λ cell. cell.site) (cells_of frame flags x) (all_cells frame flags xs)))
      (All-append IsCodeSite (sites_of (cells_of frame flags x)) (sites_of (all_cells frame flags xs)) (item_targets x) (all_targets xs))

-- are of the kinds that the buffer asks for
pub target_kinded : (t : Target) (kind : LabelUse) → IsCodeTarget t kind → IsKinded label_kinds t kind
target_kinded (Label l) kind p = tt
target_kinded (Constant n) kind p = ap urgency_of p
target_kinded (Trap code) kind p = ap urgency_of p
target_kinded IslandEnd kind p = absurd p
