-- A register and something else, with = between.
use Rattle.std.proofs.Common.{Bor, ◌≡◌, ℕ, List, [], ◌∷◌, Option, Some, None, sym, ap, subst, ◌∙◌}
use Rattle.std.specs.List.{join_with_byte}
use Rattle.a64_base.specs.declared.reg.Reg.{Reg}
use Rattle.a64_inst.specs.declared.call.CallArgPair.{CallArgPair}
use Rattle.a64_inst.specs.declared.call.CallRetPair.{CallRetPair}
use Rattle.a64_inst.specs.declared.call.RetLocation.{RetLocation}
use Rattle.a64_inst.specs.declared.pair.ArgPair.{ArgPair}
use Rattle.a64_inst.specs.declared.pair.RetPair.{RetPair}
use Rattle.a64_tokens.specs.Fields.{HasNo, reg_text, IsReg}
use Rattle.a64_tokens.specs.Reads.{Reads}
use Rattle.a64_read.specs.RegisterLaws.{equals, reg_apart}
use Rattle.a64_tokens.specs.SplitLaws.{split-join, split_none}
use Rattle.a64_tokens.proofs.Splits.{heads, joined_some, split, IsFront}

-- `text` and `fits` are those of what stands behind the equals sign
module _ {B : Type 0} (text : B → List ℕ) (fits : B → Type 0) (apart : (b : B) → fits b → HasNo 61 (text b)) (token front : List ℕ) where
  abbrev pub both_text : Reg × B → List ℕ
  both_text x = join_with_byte 61 (reg_text x.0 ∷ text x.1 ∷ [])

  abbrev pub both_fit : Reg × B → Type 0
  both_fit x = IsReg x.0 × fits x.1

  -- the text is split at the equals sign
  split_is : (x : Reg × B) → both_fit x → token ≡ both_text x → split 61 token ≡ reg_text x.0 ∷ text x.1 ∷ []
  split_is x its e = ap (λ (t : List ℕ). split 61 t) e ∙ split-join 61 (reg_text x.0) (text x.1 ∷ []) (reg_apart 61 equals x.0 its.0, (apart x.1 its.1, tt))

  -- no equals sign
  pub no_equals : (more : Option (Bor (List ℕ))) → more ≡ None → IsFront 61 token front more → Reads both_fit both_text token None
  no_equals (Some rest) is cut = absurd cc
  no_equals None is cut = record {
    some = tt;
    only = λ x its e.
        let none : [] ≡ text x.1 ∷ [] = (heads front (reg_text x.0) [] (text x.1 ∷ []) (sym cut ∙ split_is x its e)).1 in
        absurd cc;
  }

  module _ (rest : List ℕ) (cut : split 61 token ≡ front ∷ split 61 rest) where
    its_parts : (x : Reg × B) → both_fit x → token ≡ both_text x → (front ≡ reg_text x.0) × (rest ≡ text x.1)
    its_parts x its e =
        let both = heads front (reg_text x.0) (split 61 rest) (text x.1 ∷ []) (sym cut ∙ split_is x its e) in
        (both.0, joined_some 61 rest (text x.1 ∷ []) both.1)

    pub no_front : Reads IsReg reg_text front None → Reads both_fit both_text token None
    no_front h = record { some = tt; only = λ x its e. let none : None ≡ Some x.0 = h.only x.0 its.0 (its_parts x its e).0 in absurd cc }

    pub no_back : Reads fits text rest None → Reads both_fit both_text token None
    no_back h = record { some = tt; only = λ x its e. let none : None ≡ Some x.1 = h.only x.1 its.1 (its_parts x its e).1 in absurd cc }

    pub both_read : (a : Reg) (b : B) → Reads IsReg reg_text front (Some a) → Reads fits text rest (Some b) → Reads both_fit both_text token (Some (a, b))
    both_read a b h k = record {
      some =
          let plain : HasNo 61 rest = subst (λ (t : List ℕ). HasNo 61 t) (sym k.some.1) (apart b k.some.0) in
          let texts : split 61 token ≡ reg_text a ∷ text b ∷ [] =
          cut ∙ ap (λ (ts : List (List ℕ)). front ∷ ts) (split_none 61 rest plain) ∙ ap (λ (t : List ℕ). t ∷ rest ∷ []) h.some.1 ∙ ap (λ (t : List ℕ). reg_text a ∷ t ∷ []) k.some.1 in
          ((h.some.0, k.some.0), joined_some 61 token (reg_text a ∷ text b ∷ []) texts);
      only = λ x its e.
          let parts = its_parts x its e in
          let one : Some a ≡ Some x.0 = h.only x.0 its.0 parts.0 in
          let two : Some b ≡ Some x.1 = k.only x.1 its.1 parts.1 in
          let same : a ≡ x.0 = cc in
          let same_back : b ≡ x.1 = cc in
          ap (λ (r : Reg). Some (r, b)) same ∙ ap (λ (r : B). Some (x.0, r)) same_back;
    }

-- ---- what is no more than its two parts

abbrev pub arg_registers : ArgPair → Reg × Reg
arg_registers arg = (arg.vreg, arg.preg)

abbrev pub arg_of : Reg × Reg → ArgPair
arg_of pair = record { vreg = pair.0; preg = pair.1 }

abbrev pub ret_registers : RetPair → Reg × Reg
ret_registers ret = (ret.vreg, ret.preg)

abbrev pub ret_of : Reg × Reg → RetPair
ret_of pair = record { vreg = pair.0; preg = pair.1 }

abbrev pub call_arg_registers : CallArgPair → Reg × Reg
call_arg_registers arg = (arg.vreg, arg.preg)

abbrev pub call_arg_of : Reg × Reg → CallArgPair
call_arg_of pair = record { vreg = pair.0; preg = pair.1 }

abbrev pub call_ret_parts : CallRetPair → Reg × RetLocation
call_ret_parts ret = (ret.vreg, ret.location)

abbrev pub call_ret_of : Reg × RetLocation → CallRetPair
call_ret_of parts = record { vreg = parts.0; location = parts.1 }

module _ {P X : Type 0} (fits : P → Type 0) (text : P → List ℕ) (make : P → X) (parts : X → P) (same : (x : X) → make (parts x) ≡ x) (back : (pair : P) → parts (make pair) ≡ pair) (token : List ℕ) where
  pub none_made : Reads fits text token None → Reads (λ x. fits (parts x)) (λ x. text (parts x)) token None
  none_made h = record { some = tt; only = λ x its e. let none : None ≡ Some (parts x) = h.only (parts x) its e in absurd cc }

  pub pair_made : (pair : P) → Reads fits text token (Some pair) → Reads (λ x. fits (parts x)) (λ x. text (parts x)) token (Some (make pair))
  pair_made pair h = record {
    some = rw back h.some;
    only = λ x its e.
        let one : Some pair ≡ Some (parts x) = h.only (parts x) its e in
        let its : pair ≡ parts x = cc in
        ap (λ (p : P). Some (make p)) its ∙ ap (λ (y : X). Some y) (same x);
  }
