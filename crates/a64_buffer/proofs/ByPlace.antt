-- What is recorded of code, by place.
use Rattle.std.proofs.Common.{ℕ, ◌≡◌, ◌+◌, ◌-◌, ◌<◌, ◌≤◌, List, [], ◌∷◌, ◌++◌, length, get_or, refl, sym, ap, ◌∙◌, subst, arith, inl, inr}
use Rattle.std.proofs.lemmas.Bool.{cases_lt}
use Rattle.std.proofs.lemmas.List.{append-nil, append_assoc, length-append, get_or_append_left, get_or-append_right}
use Rattle.std.proofs.lemmas.List.Elements.{All-append, All-cons}
use Rattle.a64_base.specs.declared.entity.TrapCode.{TrapCode}
use Rattle.a64_buffer.specs.Buffer.{Buffer, end_of, no_records}
use Rattle.a64_buffer.specs.ByPlace.{AreByPlace, AreRecordedByPlace}
use Rattle.a64_buffer.specs.Later.{HasMoreTraps, IsLater}

pub none_placed : {A : Type 0} {place_of : A → ℕ} (from to : ℕ) → AreByPlace place_of from to []
none_placed from to = record { behind = λ k d h. absurd (omega arith); ahead = λ k d h. absurd (omega arith); in_order = λ j k d lt h. absurd (omega arith) }

pub one_placed :
    {A : Type 0} {place_of : A → ℕ} (from to : ℕ) (x : A)
    → from ≤ place_of x → place_of x ≤ to → AreByPlace place_of from to (x ∷ [])
one_placed {place_of} from to x low high = record {
  behind = All-cons (λ y. from ≤ place_of y) x [] low (λ k d h. absurd (omega arith));
  ahead = All-cons (λ y. place_of y ≤ to) x [] high (λ k d h. absurd (omega arith));
  in_order = λ j k d lt h. absurd (omega arith);
}

pub append_placed :
    {A : Type 0} {place_of : A → ℕ} (from mid to : ℕ) (xs ys : List A)
    → from ≤ mid → mid ≤ to → AreByPlace place_of from mid xs → AreByPlace place_of mid to ys
    → AreByPlace place_of from to (xs ++ ys)
append_placed {place_of} from mid to xs ys low high p q = record {
  behind = All-append (λ x. from ≤ place_of x) xs ys p.behind
      (λ k d h. let y : mid ≤ place_of (get_or ys k d) = q.behind k d h in omega arith);
  ahead = All-append (λ x. place_of x ≤ to) xs ys
      (λ k d h. let x : place_of (get_or xs k d) ≤ mid = p.ahead k d h in omega arith) q.ahead;
  in_order = λ j k d lt h. elim (cases_lt k (length xs)) [
    | inl below ↦
        let first : j < length xs = omega arith in
        let x : place_of (get_or xs j d) ≤ place_of (get_or xs k d) = p.in_order j k d lt below in
        omega (arith, x, ap place_of (get_or_append_left xs ys d j first), ap place_of (get_or_append_left xs ys d k below))
    | inr past ↦
        let n : length (xs ++ ys) ≡ length xs + length ys = length-append xs ys in
        let last = get_or-append_right xs ys (length xs) k d refl past in
        let y : mid ≤ place_of (get_or ys (k - length xs) d) = q.behind (k - length xs) d (omega arith) in
        elim (cases_lt j (length xs)) [
          | inl before ↦
              let x : place_of (get_or xs j d) ≤ mid = p.ahead j d before in
              omega (arith, x, y, ap place_of (get_or_append_left xs ys d j before), ap place_of last)
          | inr behind ↦
              let first = get_or-append_right xs ys (length xs) j d refl behind in
              let x : place_of (get_or ys (j - length xs) d) ≤ place_of (get_or ys (k - length xs) d) =
              q.in_order (j - length xs) (k - length xs) d (omega arith) (omega arith) in
              omega (arith, x, ap place_of first, ap place_of last)
        ]
  ];
}

-- the end of the code may be farther ahead
pub placed_before :
    {A : Type 0} {place_of : A → ℕ} (from to to' : ℕ) (xs : List A)
    → to ≤ to' → AreByPlace place_of from to xs → AreByPlace place_of from to' xs
placed_before {place_of} from to to' xs le p = record {
  behind = p.behind;
  ahead = λ k d h. let x : place_of (get_or xs k d) ≤ to = p.ahead k d h in omega arith;
  in_order = p.in_order;
}

-- one more at the end
pub placed_next :
    {A : Type 0} {place_of : A → ℕ} (end : ℕ) (xs : List A) (x : A)
    → place_of x ≡ end → AreByPlace place_of 0 end xs → AreByPlace place_of 0 end (xs ++ x ∷ [])
placed_next end xs x e p =
    append_placed 0 end end xs (x ∷ []) (omega arith) (omega arith) p
    (one_placed end end x (omega arith) (omega arith))

pub same_traps : (from to : ℕ) (ts : List (ℕ × TrapCode)) → HasMoreTraps from to ts ts
same_traps from to ts = record { more = []; are = sym (append-nil ts); stand = none_placed from to }

pub more_traps : (from mid to : ℕ) (ts us vs : List (ℕ × TrapCode)) → from ≤ mid → mid ≤ to → HasMoreTraps from mid ts us → HasMoreTraps mid to us vs → HasMoreTraps from to ts vs
more_traps from mid to ts us vs low high p q = record {
  more = p.more ++ q.more;
  are = q.are ∙ (ap (λ xs. xs ++ q.more) p.are ∙ append_assoc ts p.more q.more);
  stand = append_placed from mid to p.more q.more low high p.stand q.stand;
}

-- nothing is by place
pub none_recorded : (end : ℕ) → AreRecordedByPlace end [] no_records
none_recorded end = record {
  traps = none_placed 0 end;
  relocs = none_placed 0 end;
  calls = none_placed 0 end;
  patchable = none_placed 0 end;
  maps = none_placed 0 end;
}

-- what is recorded is so later on, where only traps come to it
pub recorded_later :
    {K : Type 0} (b b' : Buffer K) → IsLater b b' → b'.records ≡ b.records
    → AreRecordedByPlace (end_of b) b.traps b.records
    → AreRecordedByPlace (end_of b') b'.traps b'.records
recorded_later b b' later same p =
    subst (AreRecordedByPlace (end_of b') b'.traps) (sym same) (record {
      traps = subst (AreByPlace (λ t. t.0) 0 (end_of b')) (sym later.traps.are)
          (append_placed 0 (end_of b) (end_of b') b.traps later.traps.more (omega arith) later.end p.traps later.traps.stand);
      relocs = placed_before 0 (end_of b) (end_of b') b.records.relocs later.end p.relocs;
      calls = placed_before 0 (end_of b) (end_of b') b.records.calls later.end p.calls;
      patchable = placed_before 0 (end_of b) (end_of b') b.records.patchable later.end p.patchable;
      maps = placed_before 0 (end_of b) (end_of b') b.records.maps later.end p.maps;
    })
