-- Buffers later on.
use Rattle.std.proofs.Common.{ℕ, ℤ, ◌≡◌, ◌<◌, ◌≤◌, true, List, [], ◌∷◌, ◌++◌, length, get_or, None, Some, refl, sym, ap, ◌∙◌, subst, arith, inl, inr}
use Rattle.std.specs.Prelude.{◌&&◌, is_none}
use Rattle.std.proofs.lemmas.Bool.{cases_lt}
use Rattle.std.proofs.lemmas.List.{append-nil, append_assoc, get_or_default}
use Rattle.a64_base.specs.declared.entity.ExternalName.{ExternalName}
use Rattle.a64_base.specs.declared.entity.Reloc.{Reloc}
use Rattle.a64_base.specs.declared.entity.UserStackMap.{UserStackMap}
use Rattle.a64_buffer.specs.declared.site.Use.{Use}
use Rattle.a64_buffer.specs.Kinds.{Kinds}
use Rattle.a64_buffer.specs.Buffer.{Records, Buffer, end_of}
use Rattle.a64_buffer.specs.Classes.{wants, class, class_of, is_open}
use Rattle.a64_buffer.specs.Later.{IsSameUse, HasMore, HasMoreRecords, IsLaterFrom, IsLater}
use Rattle.a64_buffer.specs.Sound.{HasJump}
use Rattle.a64_buffer.proofs.Rooms.{open_wants, open_stop}
use Rattle.a64_buffer.proofs.ByPlace.{same_traps, more_traps}

pub same_use : {K : Type 0} (end : ℕ) (u : Use K) → IsSameUse end u u
same_use end u = record { offset = refl; target = refl; kind = refl; kept = λ t e. e; later = λ t e f. absurd (let z : None ≡ Some t = sym e ∙ f in cc) }

pub same_use_trans : {K : Type 0} (a b : ℕ) (u v w : Use K) → a ≤ b → IsSameUse a u v → IsSameUse b v w → IsSameUse a u w
same_use_trans a b u v w le p q = record {
  offset = q.offset ∙ p.offset;
  target = q.target ∙ p.target;
  kind = q.kind ∙ p.kind;
  kept = λ t e. q.kept t (p.kept t e);
  later = λ t e f. elim v.stop as (λ o. v.stop ≡ o → a ≤ t) [
    | None ↦ λ z. let x : b ≤ t = q.later t z f in omega arith
    | Some s ↦ λ z. let x : a ≤ s = p.later s e z in let h : s ≡ t = cc (sym (q.kept s z) ∙ f) in omega arith
  ] refl;
}

-- ---- records

same_items : {A : Type 0} (xs : List A) → HasMore xs xs
same_items xs = record { more = []; are = sym (append-nil xs) }

more_items : {A : Type 0} (xs ys zs : List A) → HasMore xs ys → HasMore ys zs → HasMore xs zs
more_items xs ys zs p q = record { more = p.more ++ q.more; are = q.are ∙ (ap (λ is. is ++ q.more) p.are ∙ append_assoc xs p.more q.more) }

pub same_records : (rs : Records) → HasMoreRecords rs rs
same_records rs = record { relocs = same_items rs.relocs; calls = same_items rs.calls; patchable = same_items rs.patchable; maps = same_items rs.maps }

pub more_records : (rs ss ts : Records) → HasMoreRecords rs ss → HasMoreRecords ss ts → HasMoreRecords rs ts
more_records rs ss ts p q = record {
  relocs = more_items rs.relocs ss.relocs ts.relocs p.relocs q.relocs;
  calls = more_items rs.calls ss.calls ts.calls p.calls q.calls;
  patchable = more_items rs.patchable ss.patchable ts.patchable p.patchable q.patchable;
  maps = more_items rs.maps ss.maps ts.maps p.maps q.maps;
}

pub one_reloc : (rs : Records) (reloc : ℕ × Reloc × ExternalName × ℤ) → HasMoreRecords rs (record rs { relocs = rs.relocs ++ reloc ∷ [] })
one_reloc rs reloc = record { relocs = record { more = reloc ∷ []; are = refl }; calls = same_items rs.calls; patchable = same_items rs.patchable; maps = same_items rs.maps }

pub one_call : (rs : Records) (place : ℕ) → HasMoreRecords rs (record rs { calls = rs.calls ++ place ∷ [] })
one_call rs place = record { relocs = same_items rs.relocs; calls = record { more = place ∷ []; are = refl }; patchable = same_items rs.patchable; maps = same_items rs.maps }

pub one_patchable : (rs : Records) (call : ℕ × ℕ) → HasMoreRecords rs (record rs { patchable = rs.patchable ++ call ∷ [] })
one_patchable rs call = record { relocs = same_items rs.relocs; calls = same_items rs.calls; patchable = record { more = call ∷ []; are = refl }; maps = same_items rs.maps }

pub one_map : (rs : Records) (map : ℕ × UserStackMap) → HasMoreRecords rs (record rs { maps = rs.maps ++ map ∷ [] })
one_map rs map = record { relocs = same_items rs.relocs; calls = same_items rs.calls; patchable = same_items rs.patchable; maps = record { more = map ∷ []; are = refl } }

-- ---- buffers

-- the same buffer, with other islands and more records
pub later_beside : {K : Type 0} (b : Buffer K) (islands : List (ℕ × ℕ)) (records : Records) → HasMoreRecords b.records records → IsLater b (record b { islands = islands; records = records })
later_beside b islands records more = record { end = omega arith; words = λ i h. refl; count = omega arith; uses = λ k d h. same_use (end_of b) (get_or b.uses k d); fresh = λ k d h w. absurd (omega arith); labels = λ l p e. e; constants = refl; traps = same_traps (end_of b) (end_of b) b.traps; records = more }

pub later_none : {K : Type 0} (b : Buffer K) → IsLater b b
later_none b = later_beside b b.islands b.records (same_records b.records)

pub later_from_trans : {K : Type 0} (from p q : ℕ) (a b c : Buffer K) → from ≤ p → from ≤ q → IsLaterFrom p a b → IsLaterFrom q b c → IsLaterFrom from a c
later_from_trans from p q a b c low high first' second' = record {
  end = omega (arith, first'.end, second'.end);
  words = λ i h. second'.words i (omega (arith, first'.end)) ∙ first'.words i h;
  count = omega (arith, first'.count, second'.count);
  uses = λ k d h. same_use_trans (end_of a) (end_of b) _ _ _ first'.end (first'.uses k d h) (second'.uses k d (omega (arith, first'.count)));
  fresh = λ k d h w. elim (cases_lt k (length b.uses)) [
    | inl lt ↦ let x : p ≤ (get_or b.uses k d).offset = first'.fresh k d h lt in let y : (get_or c.uses k d).offset ≡ (get_or b.uses k d).offset = (second'.uses k d lt).offset in omega arith
    | inr ge ↦ let x : q ≤ (get_or c.uses k d).offset = second'.fresh k d ge w in omega arith
  ];
  labels = λ l g e. second'.labels l g (first'.labels l g e);
  constants = second'.constants ∙ first'.constants;
  traps = more_traps (end_of a) (end_of b) (end_of c) a.traps b.traps c.traps first'.end second'.end first'.traps second'.traps;
  records = more_records a.records b.records c.records first'.records second'.records;
}

-- a jump over an island stays where the uses stay
pub front_stays : {K : Type 0} (b b' : Buffer K) (island : ℕ × ℕ) → length b.uses ≤ length b'.uses → ((k : ℕ) (d : Use K) → k < length b.uses → IsSameUse (end_of b) (get_or b.uses k d) (get_or b'.uses k d)) → HasJump b.uses island → HasJump b'.uses island
front_stays b b' island count uses (k, u, h, e, front) =
    let v = get_or b'.uses k u in
    let same = subst (λ (w : Use _). IsSameUse (end_of b) w (get_or b'.uses k u)) e (uses k u h) in
    let inside : k < length b'.uses = omega (arith, h, count) in
    (k, v, inside, get_or_default b'.uses k v u inside, (same.offset ∙ front.0, same.target ∙ front.1))

pub jump_stays : {K : Type 0} (b b' : Buffer K) (island : ℕ × ℕ) → IsLater b b' → HasJump b.uses island → HasJump b'.uses island
jump_stays b b' island l = front_stays b b' island l.count l.uses

pub later_trans : {K : Type 0} (a b c : Buffer K) → IsLater a b → IsLater b c → IsLater a c
later_trans a b c p q = later_from_trans (end_of a) (end_of a) (end_of b) a b c (omega arith) p.end p q

-- what is open was open before
pub was_open : {K : Type 0} (r : Kinds K) (end : ℕ) (u v : Use K) → IsSameUse end u v → is_open r v ≡ true → is_open r u ≡ true
was_open r end u v same o = elim u.stop as (λ s. u.stop ≡ s → is_open r u ≡ true) [
  | None ↦ λ e.
      let w : wants (class r u) ≡ true = ap wants (ap (class_of r u.target) (sym same.kind) ∙ ap (λ t. class_of r t v.kind) (sym same.target)) ∙ open_wants r v o in
      ap (λ s. wants (class r u) && is_none s) e ∙ ap (λ w. w && true) w
  | Some t ↦ λ e. absurd (let z : None ≡ Some t = sym (open_stop r v o) ∙ same.kept t e in cc)
] refl
