-- What is a listing of the words that are left makes the text one of all.
use Rattle.std.proofs.Common.{ℕ, List, ◌++◌, drop}
use Rattle.std.specs.String.{string_bytes}
use Rattle.a64_formtext.specs.Shown.{IsListing}
use Rattle.a64_formtext.proofs.shown.shown_listing.Given as goal

abbrev pub invariant-loop-word : goal.invariant-loop-word
invariant-loop-word l = (rest : List ℕ) → IsListing (drop l.word-index l.words) rest → IsListing l.words (string_bytes l.text ++ rest)
