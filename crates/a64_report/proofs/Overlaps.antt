-- Two copies that may overlap.
use Rattle.std.proofs.Common.{◌≡◌, ℕ, ◌+◌, ◌-◌, ◌≤◌, List, ◌++◌, length, take, drop, sym, ap, ◌∙◌, arith, length-append, length-drop, take-append-drop, take-take, append-nil}
use Rattle.std.proofs.lemmas.List.{take-append-le, length-take-le, drop_all}
use Rattle.std.proofs.Math.Seq.{take-append-add}
use Rattle.std.proofs.lemmas.Slice.{take-put_mid, drop-put_mid}
use borrow.Rule.Slice.PartMut.{put_mid}

-- the front of a text stands there, and its back is put over that and behind it
pub overlapped : (n k : ℕ) (text front xs : List ℕ) → front ≡ take 16 text → length text ≡ n → 16 ≤ n → n ≤ 32 → length xs ≡ n - 16 → k ≡ 16
    → put_mid (n - 16) k (front ++ xs) (drop (n - 16) text) ≡ text
overlapped n k text front xs f e lo hi x s =
    let l : length front ≡ 16 = rw f (length-take-le 16 text (omega arith)) in
    let whole : length (front ++ xs) ≡ n = omega (arith, length-append front xs) in
    let back : length (drop (n - 16) text) ≡ 16 = omega (arith, length-drop (n - 16) text) in
    sym (take-append-drop n (put_mid (n - 16) k (front ++ xs) (drop (n - 16) text)))
    ∙ rw (take-put_mid (n - 16) k (front ++ xs) (drop (n - 16) text) n (omega arith) (omega arith), drop-put_mid (n - 16) k (front ++ xs) (drop (n - 16) text) n (omega arith) (omega arith) (omega arith), drop_all n (front ++ xs) (omega arith), append-nil, take-append-le (n - 16) front xs (omega arith), f, take-take (n - 16) 16 text (omega arith))
    (take-append-drop (n - 16) text)

-- the first bytes of a text that was put behind others, where more of it was
pub appended : (l n : ℕ) (xs text behind : List ℕ) → l ≤ length xs → n ≤ length text → take (l + n) (take l xs ++ (text ++ behind)) ≡ take l xs ++ take n text
appended l n xs text behind low few =
    ap (λ k. take (k + n) (take l xs ++ (text ++ behind))) (sym (length-take-le l xs low))
    ∙ take-append-add (take l xs) (text ++ behind) n
    ∙ ap (λ t. take l xs ++ t) (take-append-le n text behind few)
