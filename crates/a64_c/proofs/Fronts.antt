-- Records at the front of a buffer.
use Rattle.std.proofs.Common.{◌≡◌, ℕ, ◌+◌, ◌<◌, List, [], ◌∷◌, ◌++◌, map, take, drop, length, get_or, set, min, ap, sym, ◌∙◌, arith, append_assoc}
use Rattle.std.proofs.Math.Nat.{min_comm}
use Rattle.std.proofs.lemmas.List.{map_more, drop_more, set-append_right, length-take-le, length-map, take-map, take_min, drop_min}

-- one record more
pub front_more : {X Y : Type 0} (f : X → Y) (xs : List X) (room : List Y) (i : ℕ) (x : X) → i < length xs → i < length room → x ≡ get_or xs i x → set (map f (take i xs) ++ drop i room) i (f x) ≡ map f (take (i + 1) xs) ++ drop (i + 1) room
front_more f xs room i x inside inside' is =
    let len : length (map f (take i xs)) ≡ i = length-map (take i xs) f ∙ length-take-le i xs (omega arith) in
    set-append_right (map f (take i xs)) (drop i room) i i (f x) len (omega arith)
    ∙ ap (λ k. map f (take i xs) ++ set (drop i room) k (f x)) (omega arith)
    ∙ ap (λ rest. map f (take i xs) ++ set rest 0 (f x)) (drop_more room i (f x) inside')
    ∙ sym (append_assoc (map f (take i xs)) (f x ∷ []) (drop (i + 1) room))
    ∙ ap (λ x'. (map f (take i xs) ++ f x' ∷ []) ++ drop (i + 1) room) is
    ∙ ap (λ front. front ++ drop (i + 1) room) (sym (map_more f xs i x inside))

-- all that there is room for
pub front_whole : {X Y : Type 0} (f : X → Y) (xs : List X) (room : List Y) (n : ℕ) → n ≡ min (length xs) (length room) → map f (take n xs) ++ drop n room ≡ take (length room) (map f xs) ++ drop (length (map f xs)) room
front_whole f xs room n is =
    let fewer : n ≡ min (length room) (length xs) = is ∙ min_comm (length xs) (length room) in
    let front : take n xs ≡ take (length room) xs = ap (λ k. take k xs) fewer ∙ take_min (length room) xs in
    let rest : drop n room ≡ drop (length xs) room = ap (λ k. drop k room) is ∙ drop_min (length xs) room in
    rw (front, rest, length-map xs f, take-map f (length room) xs)
