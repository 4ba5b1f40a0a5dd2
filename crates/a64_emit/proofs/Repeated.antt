-- The cells of things in a list, put for one thing after another.
use Rattle.std.proofs.Common.{ℕ, ◌≡◌, ◌+◌, ◌<◌, List, [], ◌∷◌, ◌++◌, length, take, drop, sym, ap, ◌∙◌, subst, append_assoc, get_or}
use Rattle.std.proofs.lemmas.List.{append-nil, take_more, take-append-drop}
use Rattle.a64_buffer.specs.Buffer.{Buffer}
use Rattle.a64_label_use.specs.declared.label_use.LabelUse.{LabelUse}
use Rattle.a64_cells.specs.Shapes.{Cell}
use Rattle.a64_emit.specs.Emission.{appended, IsAppendedInPart, CanPut}
use Rattle.a64_emit.proofs.Joined.{joined, part_first, part_second, can_first, can_second}

-- those of one thing, and of all in a list
module _ {X : Type 0} (one : X → List Cell) (all : List X → List Cell) (none : all [] ≡ []) (more : (x : X) (xs : List X) → all (x ∷ xs) ≡ one x ++ all xs) where
  all-append : (xs ys : List X) → all (xs ++ ys) ≡ all xs ++ all ys
  all-append [] ys = ap (λ cells. cells ++ all ys) (sym none)
  all-append (x ∷ xs) ys =
      more x (xs ++ ys) ∙ ap (λ cells. one x ++ cells) (all-append xs ys)
      ∙ sym (append_assoc (one x) (all xs) (all ys)) ∙ ap (λ cells. cells ++ all ys) (sym (more x xs))

  all-single : (x : X) → all (x ∷ []) ≡ one x
  all-single x = more x [] ∙ ap (λ cells. one x ++ cells) none ∙ append-nil (one x)

  module _ (b : Buffer LabelUse) (xs : List X) (i : ℕ) (d : X) (h : i < length xs) where
    one_more : all (take (i + 1) xs) ≡ all (take i xs) ++ one (get_or xs i d)
    one_more =
        ap all (take_more xs i d h) ∙ all-append (take i xs) (get_or xs i d ∷ [])
        ∙ ap (λ cells. all (take i xs) ++ cells) (all-single (get_or xs i d))

    whole : all xs ≡ (all (take i xs) ++ one (get_or xs i d)) ++ all (drop (i + 1) xs)
    whole =
        ap all (sym (take-append-drop (i + 1) xs)) ∙ all-append (take (i + 1) xs) (drop (i + 1) xs)
        ∙ ap (λ cells. cells ++ all (drop (i + 1) xs)) one_more

    -- where those of the things before stand at the end
    module _ (b1 : Buffer LabelUse) (e : b1 ≡ appended b (all (take i xs))) where
      pub can_one : CanPut b (all xs) → CanPut b1 (one (get_or xs i d))
      can_one can =
          can_second b (all (take i xs)) (one (get_or xs i d)) b1 e
          (can_first b (all (take i xs) ++ one (get_or xs i d)) (all (drop (i + 1) xs)) (subst (CanPut b) whole can))

      pub one_put : (b2 : Buffer LabelUse) → b2 ≡ appended b1 (one (get_or xs i d)) → b2 ≡ appended b (all (take (i + 1) xs))
      one_put b2 f = joined b (all (take i xs)) (one (get_or xs i d)) b1 b2 e f ∙ ap (appended b) (sym one_more)

      pub one_begun : (b2 : Buffer LabelUse) → IsAppendedInPart b1 b2 (one (get_or xs i d)) → IsAppendedInPart b b2 (all xs)
      one_begun b2 p =
          subst (IsAppendedInPart b b2) (sym whole)
          (part_first b (all (take i xs) ++ one (get_or xs i d)) (all (drop (i + 1) xs)) b2 (part_second b (all (take i xs)) (one (get_or xs i d)) b1 b2 e p))
