-- What several puts do together, where text waits for a sink.
use Rattle.std.proofs.Common.{◌≡◌, ℕ, ◌+◌, List, [], ◌++◌, length, take, refl, ap, sym, ◌∙◌, subst, arith, append_assoc, append-nil, length-append, Option, None, Some, Result, Ok, Err, OnErr}
use Rattle.std.proofs.lemmas.List.{take-append-le}
use Rattle.std.proofs.Math.Seq.{take-append-add}
use Rattle.a64_io.specs.Streams.{Takes, TakesPart, Puts, IsCut}
use Rattle.a64_io.proofs.Writing.{failed_after}

-- a text that follows a part which was cut off
cut_more : (taken taken' : Option (List ℕ)) (faults faults' : ℕ) (waits a b : List ℕ)
    → IsCut taken faults waits taken' faults' a → IsCut taken faults waits taken' faults' (a ++ b)
cut_more None taken' faults faults' waits a b h = record { part = tt; cause = h.cause }
cut_more (Some before) taken' faults faults' waits a b h =
    let p = h.part in
    record {
      part = rw (← append_assoc waits a b)
          (p.0, omega (arith, length-append (waits ++ a) b, p.1), p.2 ∙ ap (λ t. Some (before ++ t)) (sym (take-append-le p.0 (waits ++ a) b (omega (arith, p.1)))));
      cause = h.cause;
    }

-- the bytes that went to the sink, those that wait, and two texts
regrouped : (more waits' waits a b : List ℕ) → more ++ waits' ≡ waits ++ a → more ++ (waits' ++ b) ≡ waits ++ (a ++ b)
regrouped more waits' waits a b e = sym (append_assoc more waits' b) ∙ ap (λ t. t ++ b) e ∙ append_assoc waits a b

-- two texts, one behind the other
puts_more : (taken mid taken' : Option (List ℕ)) (faults f faults' : ℕ) (waits w waits' a b : List ℕ)
    → Puts taken faults waits mid f w a → Puts mid f w taken' faults' waits' b → Puts taken faults waits taken' faults' waits' (a ++ b)
puts_more None mid taken' faults f faults' waits w waits' a b h k = record { told = tt; steady = omega (arith, h.steady, k.steady) }
puts_more (Some before) mid taken' faults f faults' waits w waits' a b h k =
    let p = h.told in
    let q = rw p.1 at k.told in
    record {
      told = (
        p.0 ++ q.0,
        q.1 ∙ ap Some (append_assoc before p.0 q.0),
        append_assoc p.0 q.0 waits' ∙ ap (λ t. p.0 ++ t) q.2 ∙ regrouped p.0 w waits a b p.2,
      );
      steady = omega (arith, h.steady, k.steady);
    }

-- a text, and one behind it that was cut off
puts_cut : (taken mid taken' : Option (List ℕ)) (faults f faults' : ℕ) (waits w a b : List ℕ)
    → Puts taken faults waits mid f w a → IsCut mid f w taken' faults' b → IsCut taken faults waits taken' faults' (a ++ b)
puts_cut None mid taken' faults f faults' waits w a b h k = record { part = tt; cause = failed_after faults f faults' (omega (arith, h.steady)) k.cause }
puts_cut (Some before) mid taken' faults f faults' waits w a b h k =
    let p = h.told in
    let q = rw p.1 at k.part in
    record {
      part = rw (← regrouped p.0 w waits a b p.2) (
        length p.0 + q.0,
        omega (arith, length-append p.0 (w ++ b), q.1),
        q.2 ∙ ap Some (append_assoc before p.0 (take q.0 (w ++ b)) ∙ ap (λ t. before ++ t) (sym (take-append-add p.0 (w ++ b) q.0))),
      );
      cause = failed_after faults f faults' (omega (arith, h.steady)) k.cause;
    }

-- a first part of a text is put, and the rest is still to come
pub record PutsFront (taken : Option (List ℕ)) (faults : ℕ) (waits : List ℕ) (taken' : Option (List ℕ)) (faults' : ℕ) (waits' rest whole : List ℕ) : Type 0 where
  pub done : List ℕ
  pub puts : Puts taken faults waits taken' faults' waits' done
  pub parts : done ++ rest ≡ whole

puts_nothing : (taken : Option (List ℕ)) (faults : ℕ) (waits : List ℕ) → Puts taken faults waits taken faults waits []
puts_nothing None faults waits = record { told = tt; steady = refl }
puts_nothing (Some before) faults waits = record { told = ([], ap Some (sym (append-nil before)), sym (append-nil waits)); steady = refl }

pub front_start : (taken : Option (List ℕ)) (faults : ℕ) (waits whole : List ℕ) → PutsFront taken faults waits taken faults waits whole whole
front_start taken faults waits whole =
    record { done = []; puts = puts_nothing taken faults waits; parts = refl }

-- the rest, said in another way
pub front_same : {taken taken' : Option (List ℕ)} {faults faults' : ℕ} {waits waits' rest rest' whole : List ℕ}
    → PutsFront taken faults waits taken' faults' waits' rest whole → rest ≡ rest' → PutsFront taken faults waits taken' faults' waits' rest' whole
front_same h e = record { done = h.done; puts = h.puts; parts = ap (λ t. h.done ++ t) (sym e) ∙ h.parts }

pub front_more : {taken mid taken' : Option (List ℕ)} {faults f faults' : ℕ} {waits w waits' a todo whole : List ℕ} (rest : List ℕ)
    → PutsFront taken faults waits mid f w todo whole → Puts mid f w taken' faults' waits' a → todo ≡ a ++ rest
    → PutsFront taken faults waits taken' faults' waits' rest whole
front_more {taken} {mid} {taken'} {faults} {f} {faults'} {waits} {w} {waits'} {a} rest h k e =
    record {
      done = h.done ++ a;
      puts = puts_more taken mid taken' faults f faults' waits w waits' h.done a h.puts k;
      parts = append_assoc h.done a rest ∙ ap (λ t. h.done ++ t) (sym e) ∙ h.parts;
    }

pub front_cut : {taken mid taken' : Option (List ℕ)} {faults f faults' : ℕ} {waits w a todo whole : List ℕ} (rest : List ℕ)
    → PutsFront taken faults waits mid f w todo whole → IsCut mid f w taken' faults' a → todo ≡ a ++ rest
    → IsCut taken faults waits taken' faults' whole
front_cut {taken} {mid} {taken'} {faults} {f} {faults'} {waits} {w} {a} rest h k e =
    rw (← h.parts, e, ← append_assoc h.done a rest)
    (cut_more taken taken' faults faults' waits (h.done ++ a) rest (puts_cut taken mid taken' faults f faults' waits w h.done a h.puts k))

-- none is to come, so all were put
pub all_put : {taken taken' : Option (List ℕ)} {faults faults' : ℕ} {waits waits' rest whole : List ℕ}
    → PutsFront taken faults waits taken' faults' waits' rest whole → rest ≡ [] → Puts taken faults waits taken' faults' waits' whole
all_put {taken} {taken'} {faults} {faults'} {waits} {waits'} {rest} {whole} h none =
    subst (λ (t : List ℕ). Puts taken faults waits taken' faults' waits' t) (sym (append-nil h.done) ∙ ap (λ (r : List ℕ). h.done ++ r) (sym none) ∙ h.parts) h.puts

-- what is put behind nothing is taken, where what waits of it is
pub puts_taken : (taken mid taken' : Option (List ℕ)) (faults f : ℕ) (waits whole : List ℕ)
    → Puts taken faults [] mid f waits whole → Takes mid taken' waits → Takes taken taken' whole
puts_taken None mid taken' faults f waits whole h k = tt
puts_taken (Some before) mid taken' faults f waits whole h k =
    let p = h.told in
    (rw p.1 at k) ∙ ap Some (append_assoc before p.0 waits ∙ ap (λ t. before ++ t) p.2)

pub puts_part : (taken mid taken' : Option (List ℕ)) (faults f : ℕ) (waits whole : List ℕ)
    → Puts taken faults [] mid f waits whole → TakesPart mid taken' waits → TakesPart taken taken' whole
puts_part None mid taken' faults f waits whole h k = tt
puts_part (Some before) mid taken' faults f waits whole h k =
    let p = h.told in
    let q = rw p.1 at k in
    rw (← p.2) (
      length p.0 + q.0,
      omega (arith, length-append p.0 waits, q.1),
      q.2 ∙ ap Some (append_assoc before p.0 (take q.0 waits) ∙ ap (λ t. before ++ t) (sym (take-append-add p.0 waits q.0))),
    )

-- a fact that holds whatever a call answers holds where it answers an error
pub on_err : {T E P : Type 0} (r : Result T E) → P → OnErr r P
on_err (Ok x) p = tt
on_err (Err e) p = p

-- ---- a text of which some is put, and the rest would stand behind what waits

-- nothing is put yet
pub left_start : (taken : Option (List ℕ)) (faults : ℕ) (waits whole : List ℕ) → Puts taken faults waits taken faults (waits ++ whole) whole
left_start None faults waits whole = record { told = tt; steady = refl }
left_start (Some before) faults waits whole = record { told = ([], ap Some (sym (append-nil before)), refl); steady = refl }

-- what waits may go on
pub left_moved : (taken : Option (List ℕ)) (left : List ℕ) {mid taken' : Option (List ℕ)} {faults f faults' : ℕ} {waits w w' whole : List ℕ}
    → Puts taken faults waits mid f (w ++ left) whole → Puts mid f w taken' faults' w' [] → Puts taken faults waits taken' faults' (w' ++ left) whole
left_moved None left {mid} {taken'} {faults} {f} {faults'} {waits} {w} {w'} {whole} h k = record { told = tt; steady = omega (arith, h.steady, k.steady) }
left_moved (Some before) left {mid} {taken'} {faults} {f} {faults'} {waits} {w} {w'} {whole} h k =
    let p = h.told in
    let q = rw p.1 at k.told in
    record {
      told = (
        p.0 ++ q.0,
        q.1 ∙ ap Some (append_assoc before p.0 q.0),
        append_assoc p.0 q.0 (w' ++ left)
            ∙ ap (λ t. p.0 ++ t) (sym (append_assoc q.0 w' left) ∙ ap (λ t. t ++ left) (q.2 ∙ append-nil w))
            ∙ p.2,
      );
      steady = omega (arith, h.steady, k.steady);
    }

-- a write of what waits was cut off
pub left_cut : (taken : Option (List ℕ)) (left : List ℕ) {mid taken' : Option (List ℕ)} {faults f faults' : ℕ} {waits w whole : List ℕ}
    → Puts taken faults waits mid f (w ++ left) whole → IsCut mid f w taken' faults' [] → IsCut taken faults waits taken' faults' whole
left_cut None left {mid} {taken'} {faults} {f} {faults'} {waits} {w} {whole} h k = record { part = tt; cause = failed_after faults f faults' (omega (arith, h.steady)) k.cause }
left_cut (Some before) left {mid} {taken'} {faults} {f} {faults'} {waits} {w} {whole} h k =
    let p = h.told in
    let q = rw p.1 at (cut_more mid taken' f faults' w [] left k).part in
    record {
      part = rw (← p.2) (
        length p.0 + q.0,
        omega (arith, length-append p.0 (w ++ left), q.1),
        q.2 ∙ ap Some (append_assoc before p.0 (take q.0 (w ++ left)) ∙ ap (λ t. before ++ t) (sym (take-append-add p.0 (w ++ left) q.0))),
      );
      cause = failed_after faults f faults' (omega (arith, h.steady)) k.cause;
    }

-- nothing is left
pub left_end : {taken taken' : Option (List ℕ)} {faults faults' : ℕ} {waits w left whole : List ℕ}
    → Puts taken faults waits taken' faults' (w ++ left) whole → left ≡ [] → Puts taken faults waits taken' faults' w whole
left_end {taken} {taken'} {faults} {faults'} {waits} {w} {left} {whole} h e =
    subst (λ t. Puts taken faults waits taken' faults' t whole) (ap (λ t. w ++ t) e ∙ append-nil w) h
