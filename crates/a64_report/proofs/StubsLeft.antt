-- The lines of the stubs that are left.
use Rattle.std.proofs.Common.{◌≡◌, ◌⊎◌, inl, inr, ℕ, ◌+◌, ◌<◌, ◌≤◌, List, [], ◌∷◌, ◌++◌, length, drop, get_or, refl, drop_of_length-le}
use Rattle.std.proofs.lemmas.List.{drop_more}
use Rattle.a64_report.specs.StubLines.{stub_line, stub_lines}

-- they are the next line and those of the rest
pub stubs_left : (places addresses : List ℕ) (i d e : ℕ) → i < length places → i < length addresses
    → stub_lines i (drop i places) (drop i addresses) ≡ stub_line i (get_or places i d) (get_or addresses i e) ++ stub_lines (i + 1) (drop (i + 1) places) (drop (i + 1) addresses)
stubs_left places addresses i d e within within_too = rw (drop_more places i d within, drop_more addresses i e within_too) refl

no_addresses : (index : ℕ) (places : List ℕ) → stub_lines index places [] ≡ []
no_addresses index [] = refl
no_addresses index (place ∷ places) = refl

-- none are left
pub stubs_done : (places addresses : List ℕ) (i : ℕ) → (length places ≤ i) ⊎ (length addresses ≤ i) → stub_lines i (drop i places) (drop i addresses) ≡ []
stubs_done places addresses i (inl over) = rw (drop_of_length-le places over) refl
stubs_done places addresses i (inr over) = rw (drop_of_length-le addresses over) (no_addresses i (drop i places))
