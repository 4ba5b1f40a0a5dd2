-- What a far veneer is, and how long.
use Rattle.std.proofs.Common.{ℕ, ◌≡◌, ◌+◌, ◌*◌, cond, List, length, ap, subst}
use Rattle.std.specs.Prelude.{MatchBool}
use Rattle.std.proofs.lemmas.Bool.{eq-eqb}
use Rattle.a64_buffer.specs.Kinds.{Kinds, IsVeneer, IsFarVeneer, IsJumpVeneer, veneer_bytes}

pub far_of : {K : Type 0} (r : Kinds K) (kind : K) (offset : ℕ) (old new : List ℕ) (use' : ℕ × K) → r.urgency kind ≡ 3 → IsVeneer r kind offset old new use' → IsFarVeneer r offset old new use'
far_of r kind offset old new use' e h = subst (λ t. MatchBool t (IsFarVeneer r offset old new use') (IsJumpVeneer r offset new use')) (eq-eqb (r.urgency kind) 3 e) h

pub far_size : {K : Type 0} (r : Kinds K) (kind : K) → r.urgency kind ≡ 3 → veneer_bytes r kind ≡ 4 * length r.far_words + 4
far_size r kind e = ap (λ t. cond t (4 * length r.far_words + 4) 4) (eq-eqb (r.urgency kind) 3 e)
