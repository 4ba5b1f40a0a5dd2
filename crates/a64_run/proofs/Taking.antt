-- What several reads do together.
use Rattle.std.proofs.Common.{◌≡◌, ℕ, ◌+◌, ◌<◌, ◌≤◌, List, ◌++◌, length, take, drop, refl, ap, sym, ◌∙◌, arith, append-nil, Option, None, Some, IfSome}
use Rattle.std.proofs.lemmas.List.{take-append-drop, drop-drop}
use Rattle.a64_io.proofs.Writing.{take_more_after}
use Rattle.a64_run.specs.Stages.{HasTaken, HasRead, TakesBehind, TakesAtMost}

-- what two reads took
pub taken_more : (old left left' : Option (List ℕ)) (n : ℕ) (bytes bytes' : List ℕ)
    → length bytes' ≡ length bytes + n
    → IfSome old (λ text. HasTaken text bytes left)
    → IfSome left (λ text. TakesBehind text n bytes bytes' left')
    → IfSome old (λ text. HasTaken text bytes' left')
taken_more None left left' n bytes bytes' e h k = tt
taken_more (Some text) left left' n bytes bytes' e h k =
    let k' = rw h.rest at k in
    record {
      front = k'.moved ∙ ap (λ t. t ++ take n (drop (length bytes) text)) h.front ∙ take_more_after (length bytes) n text ∙ ap (λ m. take m text) (sym e);
      rest = k'.rest ∙ ap Some (drop-drop n (length bytes) text ∙ ap (λ m. drop m text) (sym e));
    }

-- where the last read found the end, all was read
pub read_whole : (old left left' : Option (List ℕ)) (bytes bytes' : List ℕ)
    → length bytes' ≡ length bytes + 0
    → IfSome old (λ text. HasTaken text bytes left)
    → IfSome left (λ text. TakesBehind text 0 bytes bytes' left')
    → IfSome old (λ text. HasRead text bytes' left')
read_whole None left left' bytes bytes' e h k = tt
read_whole (Some text) left left' bytes bytes' e h k =
    let k' = rw h.rest at k in
    let end = k'.ended refl in
    let taken : HasTaken text bytes' left' = taken_more (Some text) left left' 0 bytes bytes' e h k in
    record {
      taken = taken;
      ended = λ _. sym (take-append-drop (length bytes) text) ∙ ap (λ t. take (length bytes) text ++ t) end ∙ append-nil (take (length bytes) text) ∙ sym h.front ∙ sym (k'.moved ∙ append-nil bytes);
    }

-- where more than the limit was read, nothing is said of the end
pub read_past : (old left : Option (List ℕ)) (bytes : List ℕ) → 16777216 < length bytes
    → IfSome old (λ text. HasTaken text bytes left) → IfSome old (λ text. HasRead text bytes left)
read_past None left bytes l h = tt
read_past (Some text) left bytes l h = record { taken = h; ended = λ k. absurd (omega arith) }

-- what was read is few
pub taken_few : (old left : Option (List ℕ)) (bytes : List ℕ) (most : ℕ) → length bytes ≤ most
    → IfSome old (λ text. HasTaken text bytes left) → TakesAtMost most old left
taken_few None left bytes most l h = tt
taken_few (Some text) left bytes most l h = (length bytes, l, h.rest)

-- what was read, and some more, is few
pub taken_few_more : (old left left' : Option (List ℕ)) (bytes : List ℕ) (wanted most : ℕ) → length bytes + wanted ≤ most
    → IfSome old (λ text. HasTaken text bytes left) → TakesAtMost wanted left left' → TakesAtMost most old left'
taken_few_more None left left' bytes wanted most l h k = tt
taken_few_more (Some text) left left' bytes wanted most l h k =
    let k' = rw h.rest at k in
    (length bytes + k'.0, omega (arith, k'.1), k'.2 ∙ ap Some (drop-drop k'.0 (length bytes) text))
