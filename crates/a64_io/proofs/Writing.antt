-- What several writes do together.
use Rattle.std.proofs.Common.{◌≡◌, ℕ, ◌+◌, ◌-◌, ◌≤◌, List, ◌++◌, length, take, drop, ap, ◌∙◌, arith, append_assoc, Option, None, Some, inl, inr, ⊎_elim}
use Rattle.std.proofs.lemmas.List.{take-append-drop, take-take, drop-take}
use Rattle.a64_io.specs.Streams.{HasFailed, Takes}

-- two parts, one behind the other
pub take_more_after : (m n : ℕ) (xs : List ℕ) → take m xs ++ take n (drop m xs) ≡ take (m + n) xs
take_more_after m n xs =
    let l : m ≤ m + n = omega arith in
    rw (← take-take m (m + n) xs l, ← drop-take m n xs) (take-append-drop m (take (m + n) xs))

-- what two writes took
pub takes_more : (old mid new : Option (List ℕ)) (m n : ℕ) (bytes : List ℕ) → n ≤ length bytes - m
    → Takes old mid (take m bytes) → Takes mid new (take n (take (length bytes - m) (drop m bytes))) → Takes old new (take (m + n) bytes)
takes_more None mid new m n bytes l h k = tt
takes_more (Some b) mid new m n bytes l h k =
    let k' = rw h at k in
    rw take-take at k' ∙ ap Some (append_assoc b (take m bytes) (take n (drop m bytes)) ∙ ap (λ t. b ++ t) (take_more_after m n bytes))

-- a failure after calls in which the count did not fall
pub failed_after : (old mid new : ℕ) → old ≤ mid → HasFailed mid new → HasFailed old new
failed_after old mid new l h = ⊎_elim (λ k. inl (omega arith)) (λ k. inr k) h
