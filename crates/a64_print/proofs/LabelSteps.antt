-- The text of labels in a list, from one of them on.
use Rattle.std.proofs.Common.{ℕ, Bool, true, false, refl, if◌then◌else◌, ◌≡◌, ◌+◌, ◌<◌, ◌≤◌, List, [], ◌∷◌, ◌++◌, length, drop, get_or, add-one, codes}
use Rattle.std.specs.Fmt.{decimal}
use Rattle.std.specs.List.{flat_map}
use Rattle.std.proofs.Math.Seq.{drop-cons}
use Rattle.std.proofs.lemmas.List.{drop_all, append_assoc}
use Rattle.a64_base.specs.declared.entity.MachLabel.{MachLabel}
use Rattle.a64_operand_text.specs.SequenceTexts.{behind_label_text, labels_text}

-- a label, and the comma before each but the first
abbrev pub label_text : Bool → MachLabel → List ℕ
label_text is_first label = (if is_first then codes "label" else codes ", label") ++ decimal label.0

-- labels, from the first on or from another
unfoldable pub labels_left : Bool → List MachLabel → List ℕ
labels_left is_first [] = []
labels_left is_first (label ∷ labels) = label_text is_first label ++ flat_map behind_label_text labels

-- from another label on, each stands behind one
pub others : (labels : List MachLabel) → labels_left false labels ≡ flat_map behind_label_text labels
unfolding labels_left
others [] = refl
others (label ∷ labels) = refl

-- the list is the labels from the first on
pub whole_list : (labels : List MachLabel) → labels_left true labels ≡ labels_text labels
unfolding labels_left labels_text
whole_list [] = refl
whole_list (label ∷ labels) = rw append_assoc refl

pub labels_from : (is_first : Bool) (labels : List MachLabel) (i : ℕ) (d : MachLabel) → i < length labels → labels_left is_first (drop i labels) ≡ label_text is_first (get_or labels i d) ++ labels_left false (drop (i + 1) labels)
unfolding labels_left
labels_from is_first labels i d inside = rw (others, add-one, drop-cons labels i d)

pub labels_end : (is_first : Bool) (labels : List MachLabel) (i : ℕ) → length labels ≤ i → labels_left is_first (drop i labels) ≡ []
unfolding labels_left
labels_end is_first labels i past = rw (drop_all i labels past)

-- appending a label keeps the whole
pub one_label_more : (before after item rest whole : List ℕ) → after ≡ before ++ item → before ++ (item ++ rest) ≡ whole → after ++ rest ≡ whole
one_label_more before after item rest whole first h = rw first (simp append_assoc h)
