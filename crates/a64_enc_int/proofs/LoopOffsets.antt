-- The offset of the branch at the end of a loop of exclusive accesses.
use Rattle.std.proofs.Common.{ℕ, pos, negsuc, zero, suc, ◌≡◌, ◌≤◌, ◌+◌, ◌*◌, w32, of_z, to_z, refl, arith}
use Rattle.std.specs.Prelude.{◌*ℤ◌, ◌+ℤ◌}

-- over so many words between, the store and the load
pub back_offset : (between : ℕ) → between ≤ 4 → to_z w32 (of_z w32 (negsuc 3 *ℤ to_z w32 (of_z w32 (to_z w32 between +ℤ pos 2)))) ≡ negsuc (4 * between + 7)
back_offset zero few = refl
back_offset (suc zero) few = refl
back_offset (suc (suc zero)) few = refl
back_offset (suc (suc (suc zero))) few = refl
back_offset (suc (suc (suc (suc zero)))) few = refl
back_offset (suc (suc (suc (suc (suc n))))) few = absurd (omega (arith, few))
