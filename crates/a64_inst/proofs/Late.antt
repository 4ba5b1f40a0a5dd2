-- A value of an enum that owns memory, made at a variant past the 128th: `made_ccm`, where the first two fields are copied and the third is moved.
-- The code writes such a variant's tag as a negative byte, for which the check has no rule, so the walk is by hand.
-- It is one for all such variants: `n` is the negative byte, and `2 ^ 8 - n` the variant's place.
use mathlib.Core.Path.{◌≡◌, refl, subst}
use mathlib.Core.Bool.{◌&&◌}
use mathlib.Core.List.{List, [], ◌∷◌}
use Prim.Native.Nat.{ℕ, zero, suc, ◌-◌, ◌^◌}
use lib.Dec.{T as Tᵇ, ltb, leb}
use seplogic.Ra.Ura.{Ura}
use base.Logic.{ent, emp, id⊢, via}
use base.Fml.{Fml, ftrue, fsep, fex}
use mir.Syntax.{Fn, Callee, local, value_local, w8, place, copy, int_neg, aggregate, rv_opd, assign, seq, return}
use mir.Val.{Val, of_list, bits, has_ty, WT}
use prog.Wp.{Closed, WpFn}
use prog.Model.{Model}
use contract.Running.{Running, tables}
use contract.Monad.{fact}
use types.Logic.{Logic, sem}
use types.Kit.{‵, ◌⊛◌, ◌$◌, ◌∵◌, !, qed, move, keep, use0, use1, split, join, fjoin, done, suffices}
use types.Run.{enter, of_opd, neg_lit, no_more, and_then, returns}
use types.Part.{agg}
use types.Match.{live}
use types.ByLocal.{alloc_all, pass_all, free_all, look_at, get, sets}
use denote.Exit.{yes, Last, left, rest}
use denote.Laws.{Is, Are, Ises, Typed, shows}
use denote.Memory.{lone}
use denote.RattleType.{RattleType, Valss, owns, flat}
use denote.Enum.Enum.{Few, payload, in_a_row}
use denote.Enum.Declared.{Declared, row, shape, variants, tag_of}
use denote.Enum.Loose.{Loosess, loose_lawful}
use denote.Param.Laws.{Laws, row_loose}
use denote.Struct.Members.{Lone}
use denote.Struct.Field.{Field, rows, row_field}
use denote.Struct.Values.{Values, intos}
use denote.Signature.{Slot, plain}
use denote.Steps.{nothing, peeks}
use denote.Triple.Clauses.{Ended, Clauses, closing}
use denote.Triple.Spec.{Meets}
use denote.Triple.Walked.{Stays, Goes, walk_of, says, stay_dropped, ends_at}
use borrow.Enum.Open.{variant_shut}
use Rattle.std.proofs.raw_atomic.Walks.{proved_at}

-- A field's type, and what the walk needs of it.
pub record Kind : Type 2 where
  pub ty : RattleType
  pub laws : Laws ty
  pub silent : {M : Type 1} {𝓤 : Ura M} (𝓛 : Logic 𝓤) (x : ty.Denot) (f : Last (ty.exit yes) x) → ent 𝓤 (emp 𝓤) (sem 𝓛 (left (ty.exit yes) x f))

-- Nothing is said of a value at a return. For a struct whose parts are not all Copy the check writes this as a row of `k` times nothing and one more, and as nothing for any other type.
abbrev pub unsaid : ℕ → Fml
unsaid zero = ftrue
unsaid (suc k) = fsep ftrue (unsaid k)

pub quiet : (k : ℕ) {M : Type 1} {𝓤 : Ura M} (𝓛 : Logic 𝓤) → ent 𝓤 (emp 𝓤) (sem 𝓛 (unsaid k))
quiet zero {𝓤 = 𝓤} 𝓛 = id⊢ 𝓤 (emp 𝓤)
quiet (suc k) 𝓛 = qed 𝓛 [] ∵ use0 𝓛 (‵ (unsaid k)) (quiet k 𝓛) $ nothing ! $ fjoin ! $ done !

abbrev slot : Kind → Slot 0
slot K = plain (λ _. K.ty)

goes : {M : Type 1} {𝓤 : Ura M} (𝓛 : Logic 𝓤) (K : Kind) → Goes 𝓛 0 (slot K) yes (stay_dropped (slot K) yes)
goes {𝓤 = 𝓤} 𝓛 K κs x f vs u = via 𝓤 (sem 𝓛 (left (K.ty.exit yes) x f)) (K.silent 𝓛 x f) (𝓛.laws.⇛_intro (sem 𝓛 (left (K.ty.exit yes) x f)))

typed : {M : Type 1} {𝓤 : Ura M} (𝓛 : Logic 𝓤) (K : Kind) (x : K.ty.Denot) (v : Val) → Is K.ty x (v ∷ []) → Tᵇ (has_ty (lone K.ty.mir) v) × WT v
typed 𝓛 K x v is = (subst (λ τs. Typed τs (v ∷ [])) K.laws.one ((K.laws.lawful 𝓛).typed x (v ∷ []) is)).0

by_one : (P : List Val → Type 1) (vs : List Val) → Lone vs → ((v : Val) → P (v ∷ [])) → P vs
by_one P [] l f = absurd l
by_one P (v ∷ []) l f = f v
by_one P (v ∷ w ∷ vs) l f = absurd l

module _ (T : Declared) (ls : Loosess T.parts) (few : Few (shape T)) (K0 K1 K2 : Kind) where
  abbrev fields_ccc : List Field
  fields_ccc = row_field K0.ty ∷ row_field K1.ty ∷ row_field K2.ty ∷ []

  abbrev ended_ccc : Ended
  ended_ccc = record {
    signature = record { lifetimes = 0; outlives = []; params = slot K0 ∷ slot K1 ∷ slot K2 ∷ []; result = plain (λ _. row T) };
    kept = (yes, (yes, (yes, tt)));
  }

  abbrev function_ccc : ℕ → Fn
  function_ccc n = record {
    lifetimes = 0;
    outlives = [];
    ty_params = [];
    givens = 0;
    params = 3;
    locals = local (lone (row T).mir) value_local ∷ local (lone K0.ty.mir) value_local ∷ local (lone K1.ty.mir) value_local ∷ local (lone K2.ty.mir) value_local ∷ [];
    body = seq (assign (place 0 []) (aggregate (int_neg w8 n ∷ copy (place 1 []) ∷ copy (place 2 []) ∷ copy (place 3 []) ∷ []))) return;
  }

  abbrev stayed_ccc : Stays ended_ccc.signature.params ended_ccc.kept
  stayed_ccc = (stay_dropped _ yes, (stay_dropped _ yes, (stay_dropped _ yes, tt)))

  module _ (mk : Values fields_ccc → T.D) where
    abbrev clauses_ccc : {M : Type 1} {𝓤 : Ura M} → Clauses 𝓤 ended_ccc
    clauses_ccc {𝓤 = 𝓤} κs a = record { ghost = Unit {0}; requires = λ _. emp 𝓤; ensures = λ _ r _. fact 𝓤 (r ≡ mk a) }

    pub made_ccc : {M : Type 1} (𝓤 : Ura M) (𝓛 : Logic 𝓤) (𝓜 : Model 𝓤 𝓛.H) (𝓡 : Running 𝓤 𝓛.H 𝓜) (key : Callee) (n : ℕ)
        → Closed 𝓤 𝓛.H (tables 𝓤 𝓛.H 𝓜 𝓡 𝓡.env).C (tables 𝓤 𝓛.H 𝓜 𝓡 𝓡.env).Λ key (function_ccc n)
        → Tᵇ (ltb zero n && leb n (2 ^ bits w8))
        → ((v : Values fields_ccc) (us : List Val) → payload (variants T) (T.to (mk v)) us ≡ fex (Valss (rows fields_ccc)) (in_a_row (rows fields_ccc) (owns (rows fields_ccc) (intos fields_ccc v)) us))
        → ((v : Values fields_ccc) → tag_of T (mk v) ≡ 2 ^ bits w8 - n)
        → Meets 𝓛 ended_ccc.signature ((tables 𝓤 𝓛.H 𝓜 𝓡 𝓡.env).C key) (closing 𝓛 ended_ccc clauses_ccc)
    made_ccc 𝓤 𝓛 𝓜 𝓡 key n code small pay tag =
        let W = walk_of 𝓛 ended_ccc stayed_ccc clauses_ccc in
        proved_at 𝓛 ended_ccc stayed_ccc clauses_ccc 𝓜 𝓡
        (goes 𝓛 K0, (goes 𝓛 K1, (goes 𝓛 K2, tt)))
        key (function_ccc n) code (λ y ares. let a = y.0.3 in let uss = y.0.4 in
        let at : Valss (rows fields_ccc) → W.Ghost = λ vss. ((y.0.0, y.0.1, y.0.2, a, vss), y.1) in
        let Goal : Valss (rows fields_ccc) → Type 1 = λ vss. Are (rows fields_ccc) (Ises (rows fields_ccc)) a vss
        → ent 𝓤 (W.pre (at vss)) (WpFn 𝓤 𝓛.H (tables 𝓤 𝓛.H 𝓜 𝓡 𝓡.env).C (tables 𝓤 𝓛.H 𝓜 𝓡 𝓡.env).Λ (function_ccc n) (flat (rows fields_ccc) vss) (W.post (at vss))) in
        by_one (λ u. Goal (u, uss.1)) uss.0 (K0.laws.single a.0 uss.0 ares.0) (λ v0.
        by_one (λ u. Goal (v0 ∷ [], (u, uss.1.1))) uss.1.0 (K1.laws.single a.1.0 uss.1.0 ares.1.0) (λ v1.
        by_one (λ u. Goal (v0 ∷ [], (v1 ∷ [], (u, uss.1.1.1)))) uss.1.1.0 (K2.laws.single a.1.1.0 uss.1.1.0 ares.1.1.0) (λ v2.
        (λ are.
        let vss : Valss (rows fields_ccc) = (v0 ∷ [], (v1 ∷ [], (v2 ∷ [], tt))) in
        let w = live (2 ^ bits w8 - n) (of_list (flat (rows fields_ccc) vss)) in
        qed 𝓛 ((‵ ftrue ⊛ ‵ (owns (rows fields_ccc) (intos fields_ccc a) vss)) ∷ ‵ ftrue ∷ []) ∵ split ! $ move ! (1 ∷ []) $
        use1 𝓛 (‵ ((row T).own_val (mk a) (w ∷ []))) (variant_shut T (2 ^ bits w8 - n) fields_ccc (row_loose K0.ty K0.laws, (row_loose K1.ty K1.laws, (row_loose K2.ty K2.laws, tt))) mk pay tag 𝓛 a vss) $
        peeks ! (row T) (Is (row T)) (shows 𝓛 (row T)) (mk a) (w ∷ []) (λ is.
        enter ! _ _ _ _ _ $ alloc_all ! (λ l. pass_all ! refl (typed 𝓛 K0 a.0 v0 are.0, (typed 𝓛 K1 a.1.0 v1 are.1.0, (typed 𝓛 K2 a.1.1.0 v2 are.1.1.0, tt))) $
        sets ! (agg ! (and_then ! (neg_lit ! small) (and_then ! (get ! refl) (and_then ! (get ! refl) (and_then ! (get ! refl) (no_more !)))))) refl ((loose_lawful T ls few 𝓛).typed (mk a) (w ∷ []) is).0 $
        returns ! (look_at ! 0 refl) $ free_all ! refl $ keep ! (0 ∷ []) $
        suffices ! _ (ends_at 𝓛 ended_ccc stayed_ccc clauses_ccc (at vss) w (mk a) (rest (K0.ty.exit yes) a.0, (rest (K1.ty.exit yes) a.1.0, (rest (K2.ty.exit yes) a.1.1.0, tt))) (tt, (tt, (tt, tt)))) $ says ! refl $
        nothing ! $ nothing ! $ join ! $ nothing ! $ join ! $ nothing ! $ join ! $ nothing ! $ done !)))))) ares)
