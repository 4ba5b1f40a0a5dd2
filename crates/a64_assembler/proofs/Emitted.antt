-- Instructions that were emitted one after another.
use Rattle.std.proofs.Common.{ℕ, ◌≡◌, ◌+◌, ◌<◌, ◌≤◌, List, [], ◌∷◌, ◌++◌, length, take, drop, get_or, Result, Ok, Err, refl, sym, ap, subst, ◌∙◌}
use Rattle.std.proofs.lemmas.List.{take_more, drop_more, take_all, take-append-drop, append_assoc}
use Rattle.a64_inst.specs.declared.inst.Inst.{Inst}
use Rattle.a64_assembler.specs.declared.error.EmitterError.{EmitterError}
use Rattle.a64_assembler.specs.Emitting.{Emission, AreEmitted, EmitsAll, EmitsOne, IsEmitted, IsEmitCause, IsStopped}

-- one more behind them
pub one_more : (insts : List Inst) (inst : Inst) (e between e' : Emission) → AreEmitted insts e between → IsEmitted inst between e' → AreEmitted (insts ++ inst ∷ []) e e'
one_more [] inst e between e' before here = (e', subst (λ (b : Emission). IsEmitted inst b e') before here, refl)
one_more (first' ∷ insts) inst e between e' before here = (before.0, before.1, one_more insts inst before.0 between e' before.2 here)

module _ (insts : List Inst) (i : ℕ) (inst : Inst) (within : i < length insts) (is : inst ≡ get_or insts i inst) where
  -- the next one was emitted
  pub next : (e between e' : Emission) → AreEmitted (take i insts) e between → IsEmitted inst between e' → AreEmitted (take (i + 1) insts) e e'
  next e between e' before here =
      subst (λ xs. AreEmitted xs e e') (sym (take_more insts i inst within ∙ ap (λ (x : Inst). take i insts ++ x ∷ []) (sym is)))
      (one_more (take i insts) inst e between e' before here)

  -- the next one was not
  pub stopped : (e between e' : Emission) (error : EmitterError) → AreEmitted (take i insts) e between → IsEmitCause inst between e' error → IsStopped insts e e' error
  stopped e between e' error before cause = record {
    first' = take i insts;
    inst = inst;
    rest = drop (i + 1) insts;
    between = between;
    split =
        sym (take-append-drop i insts)
        ∙ ap (λ xs. take i insts ++ xs) (drop_more insts i inst within ∙ ap (λ (x : Inst). x ∷ drop (i + 1) insts) (sym is));
    emitted = before;
    cause = cause;
  }

-- some more are behind the one that was not
pub stopped_before : (insts more : List Inst) (e e' : Emission) (error : EmitterError) → IsStopped insts e e' error → IsStopped (insts ++ more) e e' error
stopped_before insts more e e' error h = record {
  first' = h.first';
  inst = h.inst;
  rest = h.rest ++ more;
  between = h.between;
  split = ap (λ xs. xs ++ more) h.split ∙ append_assoc h.first' (h.inst ∷ h.rest) more;
  emitted = h.emitted;
  cause = h.cause;
}

-- one more is tried behind those that were
pub one_behind : {T : Type 0} (insts : List Inst) (inst : Inst) (result : Result T EmitterError) (e between e' : Emission) → AreEmitted insts e between → EmitsOne inst result between e' → EmitsAll (insts ++ inst ∷ []) result e e'
one_behind insts inst (Ok value) e between e' before one = record { ok = one_more insts inst e between e' before one.ok; cause = tt }
one_behind insts inst (Err error) e between e' before one = record {
  ok = tt;
  cause = record { first' = insts; inst = inst; rest = []; between = between; split = refl; emitted = before; cause = one.cause };
}

-- all were
pub all_emitted : (insts : List Inst) (i : ℕ) (e e' : Emission) → length insts ≤ i → AreEmitted (take i insts) e e' → AreEmitted insts e e'
all_emitted insts i e e' all emitted = subst (λ xs. AreEmitted xs e e') (take_all i insts all) emitted
