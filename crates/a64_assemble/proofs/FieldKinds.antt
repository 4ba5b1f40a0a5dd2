-- Uses whose kinds replace a field of their word.
use Rattle.std.proofs.Common.{ℕ, pos, ◌≡◌, true, false, refl, sym, ◌∙◌, arith}
use Rattle.std.proofs.lemmas.Bool.{false≢true}
use Rattle.a64_buffer.specs.declared.site.Target.{Target}
use Rattle.a64_buffer.specs.declared.site.Target.TheVariants.{Label, Constant, Trap, IslandEnd}
use Rattle.a64_buffer.specs.Classes.{class_of, wants}
use Rattle.a64_buffer.specs.Sound.{IsKinded}
use Rattle.a64_label_use.specs.declared.label_use.LabelUse.{LabelUse}
use Rattle.a64_label_use.specs.declared.label_use.LabelUse.TheVariants as uses
use Rattle.a64_emit.specs.declared.code.Code.{Code}
use Rattle.a64_label_use.specs.LabelUses.{label_kinds, adds_distance}
use Rattle.a64_emit.specs.Leads.{StopsAt}

-- a use that replaces a field stops at one place
pub one_stop : (out : Code) (kind : LabelUse) (put place a b : ℕ) → adds_distance kind ≡ false → StopsAt out kind put place a → StopsAt out kind put place b → a ≡ b
one_stop out uses.Branch14 put place a b e x y = let z : pos a ≡ pos b = sym x ∙ y in cc
one_stop out uses.Branch19 put place a b e x y = let z : pos a ≡ pos b = sym x ∙ y in cc
one_stop out uses.Branch26 put place a b e x y = let z : pos a ≡ pos b = sym x ∙ y in cc
one_stop out uses.Ldr19 put place a b e x y = let z : pos a ≡ pos b = sym x ∙ y in cc
one_stop out uses.Adr21 put place a b e x y = let z : pos a ≡ pos b = sym x ∙ y in cc
one_stop out uses.PCRel32 put place a b e x y = absurd (false≢true (sym e))

-- a use that waits for something replaces a field
pub wanting_kind : (t : Target) (kind : LabelUse) → wants (class_of label_kinds t kind) ≡ true → IsKinded label_kinds t kind → adds_distance kind ≡ false
wanting_kind (Label l) uses.Branch14 w k = refl
wanting_kind (Label l) uses.Branch19 w k = refl
wanting_kind (Label l) uses.Branch26 w k = refl
wanting_kind (Label l) uses.Ldr19 w k = refl
wanting_kind (Label l) uses.Adr21 w k = refl
wanting_kind (Label l) uses.PCRel32 w k = absurd (false≢true w)
wanting_kind (Constant n) uses.Branch14 w k = refl
wanting_kind (Constant n) uses.Branch19 w k = refl
wanting_kind (Constant n) uses.Branch26 w k = refl
wanting_kind (Constant n) uses.Ldr19 w k = refl
wanting_kind (Constant n) uses.Adr21 w k = refl
wanting_kind (Constant n) uses.PCRel32 w k = absurd (let z : 0 ≡ 2 = k in omega (arith, z))
wanting_kind (Trap code) uses.Branch14 w k = refl
wanting_kind (Trap code) uses.Branch19 w k = refl
wanting_kind (Trap code) uses.Branch26 w k = refl
wanting_kind (Trap code) uses.Ldr19 w k = refl
wanting_kind (Trap code) uses.Adr21 w k = refl
wanting_kind (Trap code) uses.PCRel32 w k = absurd (let z : 0 ≡ 2 = k in omega (arith, z))
wanting_kind IslandEnd kind w k = absurd (false≢true w)
