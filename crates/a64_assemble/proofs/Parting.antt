-- The first of the items before another behind which those before that one have less than 2^20 bytes.
use Rattle.std.proofs.Common.{ℕ, ◌≡◌, ◌+◌, ◌-◌, ◌^◌, ◌<◌, ◌≤◌, true, false, List, length, get_or, take, drop, ap, ◌∙◌, arith, length-drop}
use Rattle.std.specs.Prelude.{nat_le}
use Rattle.std.specs.List.Sorted.{IsPartitionPoint, IsPartitionedBy}
use Rattle.std.proofs.lemmas.Bool.{leb-true, leb-false, le-leb}
use Rattle.std.proofs.lemmas.Grind.{get_or_after_one}
use Rattle.std.proofs.lemmas.List.{get_or-take, get_or_default, length-take-le}
use Rattle.a64_assemble.specs.declared.marks.Mark.{Mark}
use Rattle.a64_assemble.specs.Tally.{mark_at, no_mark, AreRising, IsFirstWaiting}

-- the sums from the second to one of them, of so many items
module _ (marks : List Mark) (index count : ℕ) (is : count ≡ index) (within : index < length marks) where
  count_within : count ≤ length (drop 1 marks)
  count_within = omega (arith, is, within, length-drop 1 marks)

  part_length : length (take count (drop 1 marks)) ≡ index
  part_length = length-take-le count (drop 1 marks) count_within ∙ is

  part_size : (k : ℕ) (d : Mark) → k < index → (get_or (take count (drop 1 marks)) k d).size ≡ (mark_at marks (k + 1)).size
  part_size k d lt =
      ap (λ (m : Mark). m.size)
      (get_or-take count (drop 1 marks) k d (omega (arith, lt, is)) ∙ get_or_after_one marks k d ∙ ap (λ i. get_or marks i d) (let e : 1 + k ≡ k + 1 = omega arith in e) ∙ get_or_default marks (k + 1) d no_mark (omega (arith, lt, within)))

  -- those come first behind which there are more bytes
  pub parted : AreRising marks → IsPartitionedBy (λ m. nat_le (2 ^ 20) ((mark_at marks index).size - m.size)) (take count (drop 1 marks))
  parted rising i j d le lt far =
      let lt' : j < index = omega (arith, lt, part_length) in
      let least = leb-true (2 ^ 20) ((mark_at marks index).size - (get_or (take count (drop 1 marks)) j d).size) far in
      le-leb (2 ^ 20) ((mark_at marks index).size - (get_or (take count (drop 1 marks)) i d).size)
      (omega (arith, least, part_size j d lt', part_size i d (omega (arith, le, lt')), rising.sizes (i + 1) (j + 1) (omega (arith, le)) (omega (arith, lt', within))))

  pub first_at : (first : ℕ) → first ≤ length (take count (drop 1 marks)) → IsPartitionPoint (λ m. nat_le (2 ^ 20) ((mark_at marks index).size - m.size) ≡ true) (λ m. nat_le (2 ^ 20) ((mark_at marks index).size - m.size) ≡ false) (take count (drop 1 marks)) first → IsFirstWaiting marks index first
  first_at first le point = record {
    within = omega (arith, le, part_length);
    near = λ lt.
        let less = leb-false (2 ^ 20) ((mark_at marks index).size - (get_or (take count (drop 1 marks)) first no_mark).size) (point.1 first no_mark (omega arith) (omega (arith, lt, part_length))) in
        omega (arith, less, part_size first no_mark lt);
    far = λ some.
        let before : first - 1 + 1 ≡ first = omega (arith, some) in
        let least = leb-true (2 ^ 20) ((mark_at marks index).size - (get_or (take count (drop 1 marks)) (first - 1) no_mark).size) (point.0 (first - 1) no_mark (omega arith) (omega (arith, some))) in
        omega (arith, least, part_size (first - 1) no_mark (omega (arith, some, le, part_length)), ap (λ i. (mark_at marks i).size) before);
  }
