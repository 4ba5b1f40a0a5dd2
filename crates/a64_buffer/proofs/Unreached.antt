-- How the first use is found that can have no veneer and does not reach its label, one use after another.
use Rattle.std.proofs.Common.{ℕ, ◌≡◌, ◌+◌, ◌<◌, ◌≤◌, [], ◌∷◌, ◌++◌, length, get_or, take, drop, All, Option, None, Some, is_some, true, false, sym, ◌∙◌, ap, subst}
use Rattle.std.proofs.Math.Seq.{split_at}
use Rattle.std.proofs.lemmas.Bool.{false≢true}
use Rattle.std.proofs.lemmas.List.{take_all, take_more}
use Rattle.std.proofs.lemmas.List.Elements.{All-push}
use native.Mathlib.Numerals.{unary_clauses}
use Rattle.a64_base.specs.declared.entity.MachLabel.{MachLabel}
use Rattle.a64_buffer.specs.declared.site.Use.{Use}
use Rattle.a64_buffer.specs.Buffer.{Buffer, label_of, IsDirect, IsUnreachedOf, IsFirstUnreached}
use Rattle.a64_buffer.specs.Kinds.{Kinds}

module _ {K : Type 0} (r : Kinds K) (b : Buffer K) where
  direct_of : (u : Use K) (o : Option MachLabel) → IsUnreachedOf r b.labels u o → is_some o ≡ false → IsDirect r b.labels u
  direct_of u None h e = h
  direct_of u (Some label) h e = absurd (false≢true (sym e))

  -- one more use that reaches its label, or may have a veneer
  pub direct_next : (n : ℕ) (d u : Use K) (o : Option MachLabel) → n < length b.uses → u ≡ get_or b.uses n d → IsUnreachedOf r b.labels u o → is_some o ≡ false
      → All (IsDirect r b.labels) (take n b.uses) → All (IsDirect r b.labels) (take (n + 1) b.uses)
  direct_next n d u o within is h e before =
      subst (All (IsDirect r b.labels)) (sym (take_more b.uses n d within ∙ ap (λ v. take n b.uses ++ v ∷ []) (sym is)))
      (All-push (IsDirect r b.labels) (take n b.uses) u before (direct_of u o h e))

  -- all uses do
  pub direct_all : (n : ℕ) → length b.uses ≤ n → All (IsDirect r b.labels) (take n b.uses) → All (IsDirect r b.labels) b.uses
  direct_all n past = subst (All (IsDirect r b.labels)) (take_all n b.uses past)

  -- a use that does not is the first, where those before it do
  pub unreached_here : (n : ℕ) (d u : Use K) (o : Option MachLabel) → n < length b.uses → u ≡ get_or b.uses n d → IsUnreachedOf r b.labels u o → is_some o ≡ true
      → All (IsDirect r b.labels) (take n b.uses) → IsFirstUnreached r b o
  unreached_here n d u None within is h e before = absurd (false≢true e)
  unreached_here n d u (Some label) within is h e before = record {
    before = take n b.uses;
    site = get_or b.uses n d;
    after = drop (n + 1) b.uses;
    split = simp unary_clauses (split_at b.uses n d within);
    direct = before;
    leads = subst (λ v. label_of v.target ≡ Some label.0) is h.0;
    unreached = subst (λ v. IsDirect r b.labels v → ⊥) is h.1;
  }
