-- How much memory is taken, and what buffers are by their parts.
use Rattle.std.proofs.Common.{ℕ, ℤ, ◌≡◌, ◌*◌, ◌≤◌, Bool, true, false, cond, List, [], ◌∷◌, refl, arith, nat_cmp}
use Rattle.std.specs.FinMap.{FinMap}
use Rattle.a64_base.specs.declared.entity.ExternalName.{ExternalName}
use Rattle.a64_base.specs.declared.entity.Reloc.{Reloc}
use Rattle.a64_base.specs.declared.entity.TrapCode.{TrapCode}
use Rattle.a64_base.specs.declared.entity.UserStackMap.{UserStackMap}
use Rattle.a64_buffer.specs.declared.site.Use.{Use}
use Rattle.a64_buffer.specs.declared.class.Class.{Class}
use Rattle.a64_buffer.specs.declared.class.Class.TheVariants.{Near, Middle, Load, Trapping, Far, Direct}
use Rattle.a64_buffer.specs.Kinds.{Kinds}
use Rattle.a64_buffer.specs.Buffer.{Records, Buffer}
use Rattle.a64_buffer.specs.Classes.{third, cost, veneer_uses, trap_words, class, is_open, weight_of}
use Rattle.a64_buffer.proofs.Costs.{weight-cons}

uses_cost : (c : Class) → 12 * veneer_uses c ≤ cost third c
uses_cost Near = omega arith
uses_cost Middle = omega arith
uses_cost Load = omega arith
uses_cost Trapping = omega arith
uses_cost Far = omega arith
uses_cost Direct = omega arith

traps_cost : (c : Class) → 4 * trap_words c ≤ cost third c
traps_cost Near = omega arith
traps_cost Middle = omega arith
traps_cost Load = omega arith
traps_cost Trapping = omega arith
traps_cost Far = omega arith
traps_cost Direct = omega arith

module _ {K : Type 0} (r : Kinds K) where
  -- a use that is added, or a trap word, is a part of the bytes that are owed
  pub few_uses : (us : List (Use K)) → 12 * weight_of r veneer_uses us ≤ weight_of r (cost third) us
  few_uses [] = omega arith
  few_uses (u ∷ us) = omega (arith, weight-cons r veneer_uses u us, weight-cons r (cost third) u us, few_uses us, one (is_open r u))
    where
      one : (o : Bool) → 12 * cond o (veneer_uses (class r u)) 0 ≤ cond o (cost third (class r u)) 0
      one true = uses_cost (class r u)
      one false = omega arith

  pub few_traps : (us : List (Use K)) → 4 * weight_of r trap_words us ≤ weight_of r (cost third) us
  few_traps [] = omega arith
  few_traps (u ∷ us) = omega (arith, weight-cons r trap_words u us, weight-cons r (cost third) u us, few_traps us, one (is_open r u))
    where
      one : (o : Bool) → 4 * cond o (trap_words (class r u)) 0 ≤ cond o (cost third (class r u)) 0
      one true = traps_cost (class r u)
      one false = omega arith

pub same_buffer : {K : Type 0} (words words' : List ℕ) (uses uses' : List (Use K)) (labels labels' : FinMap nat_cmp ℕ) (islands islands' : List (ℕ × ℕ)) (traps traps' : List (ℕ × TrapCode)) (constants constants' : FinMap nat_cmp (List ℕ)) (records records' : Records) → words ≡ words' → uses ≡ uses' → labels ≡ labels' → islands ≡ islands' → traps ≡ traps' → constants ≡ constants' → records ≡ records' → ◌≡◌ {A = Buffer K} (record { words = words; uses = uses; labels = labels; islands = islands; traps = traps; constants = constants; records = records }) (record { words = words'; uses = uses'; labels = labels'; islands = islands'; traps = traps'; constants = constants'; records = records' })
same_buffer words words' uses uses' labels labels' islands islands' traps traps' constants constants' records records' a b c d e f g = rw (a, b, c, d, e, f, g) refl

pub same_recorded : (relocs relocs' : List (ℕ × Reloc × ExternalName × ℤ)) (calls calls' : List ℕ) (patchable patchable' : List (ℕ × ℕ)) (maps maps' : List (ℕ × UserStackMap)) → relocs ≡ relocs' → calls ≡ calls' → patchable ≡ patchable' → maps ≡ maps' → ◌≡◌ {A = Records} (record { relocs = relocs; calls = calls; patchable = patchable; maps = maps }) (record { relocs = relocs'; calls = calls'; patchable = patchable'; maps = maps' })
same_recorded relocs relocs' calls calls' patchable patchable' maps maps' a b c d = rw (a, b, c, d) refl
