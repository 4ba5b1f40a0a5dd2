use Rattle.std.proofs.Common.{Bor, ◌≡◌, ℕ, zero, suc, ◌≤◌, ◌<◌, ◌+◌, Bool, true, false, List, [], ◌∷◌, ◌++◌, length, take, set, drop, get_or, Option, refl, ap, sym, subst, ◌∙◌, add-one, drop-cons, arith}
use Rattle.std.proofs.lemmas.List.{length-set, take_more_set}
use Rattle.arrayvec.specs.ArrayVec.{ArrayVec, with_items}
use Rattle.arrayvec.proofs.ArrayVecLemmas.{items-with_items}
use Rattle.a64_tokens.specs.declared.value.Kind.{Kind}
use Rattle.a64_tokens.specs.declared.value.Kind.TheVariants.{AluOp}
use Rattle.a64_tokens.specs.declared.value.Value.{Value}
use Rattle.a64_read.specs.Rows.{IsPut}
use Rattle.a64_tokens.specs.Splitting.{of_text, behind_text}
use Rattle.a64_read.specs.Values.{kind_of}
use Rattle.a64_read.proofs.Rest.{Rest, one_more, bad_token, all_read}
use Rattle.a64_read.proofs.fields.read_fields.Goals as goal

-- the kinds that are left, with the next in front
kinds_at : (kinds : List Kind) (i : ℕ) → i < length kinds → drop i kinds ≡ get_or kinds i AluOp ∷ drop (i + 1) kinds
kinds_at kinds i lt = drop-cons kinds i AluOp lt ∙ rw add-one refl

no_kinds : (kinds : List Kind) (i : ℕ) → length kinds ≤ i → drop i kinds ≡ []
no_kinds [] zero le = refl
no_kinds [] (suc i) le = refl
no_kinds (k ∷ kinds) zero le = absurd (omega (arith, le))
no_kinds (k ∷ kinds) (suc i) le = no_kinds kinds i (omega (arith, le))

-- some kinds and tokens are left, told in another way
told : (fits : Value → Type 0) (kinds : List Kind) (tokens : List (List ℕ)) (read : List Value) (left left' : List Kind) (others others' : List (List ℕ)) → left ≡ left' → others ≡ others' → Rest fits kinds tokens read left others → Rest fits kinds tokens read left' others'
told fits kinds tokens read left left' others others' e f r = subst (λ (ws : List (List ℕ)). Rest fits kinds tokens read left' ws) f (subst (λ (ks : List Kind). Rest fits kinds tokens read ks others) e r)

-- what was put, where the answer is known
at_answer : (fits : Value → Type 0) (kind : Kind) (token : List ℕ) (old new : Value) (result answer : Bool) → result ≡ answer → IsPut (λ v. (kind_of v ≡ kind) × fits v) token old new result → IsPut (λ v. (kind_of v ≡ kind) × fits v) token old new answer
at_answer fits kind token old new result answer is h = subst (λ (b : Bool). IsPut (λ v. (kind_of v ≡ kind) × fits v) token old new b) is h

-- a write at the place leaves the new value behind those in front of it
module _ (old now : ArrayVec Value) (lent : List Value) (place : ℕ) (new : Value) (front : take place now.items ≡ take place old.items) (some : place < length now.items) (same : lent ≡ now.items) where
  as_long : length (set lent place new) ≡ length now.items
  as_long = length-set lent place new ∙ ap (λ (t : List Value). length t) same

  written : (with_items now (set lent place new)).items ≡ set now.items place new
  written = items-with_items now (set lent place new) as_long ∙ ap (λ (t : List Value). set t place new) same

  one_longer : place + 1 ≤ length (with_items now (set lent place new)).items
  one_longer = omega (arith, some, ap (λ (t : List Value). length t) written, length-set now.items place new)

  last_written : take (place + 1) (with_items now (set lent place new)).items ≡ take place old.items ++ new ∷ []
  last_written = ap (λ (t : List Value). take (place + 1) t) written ∙ take_more_set now.items place new some ∙ ap (λ (t : List Value). t ++ new ∷ []) front

pub returns-then-not-put-clause-read : goal.returns-then-not-put-clause-read
returns-then-not-put-clause-read g c =
    let l = g.L.FieldRow in
    let kinds = c.args.kinds.now in
    let i = c.loop-place.place in
    let kind = get_or kinds i AluOp in
    let tokens = of_text l.tokens c.args.text in
    let left = of_text l.tokens c.loop-place.more in
    let token = c.cut-cut.result.token.now in
    let others = of_text l.tokens c.cut-cut.result.more in
    let cut : left ≡ token ∷ others = ap (of_text l.tokens) c.in_ok-more.was ∙ c.cut-cut.ensures.token_first in
    let put = at_answer l.fits kind token _ c.put.new.slot c.put.result false c.if-not-put.true c.put.ensures in
    let read = take i c.loop-place.values.items in
    bad_token l.fits kinds tokens read kind (drop (i + 1) kinds) token others
    (told l.fits kinds tokens read (drop i kinds) (kind ∷ drop (i + 1) kinds) left (token ∷ others) (kinds_at kinds i c.loop-place-test.true) cut c.loop-place.invariant.rest)
    put.1

pub loop-place-preserved : goal.loop-place-preserved
loop-place-preserved g c =
    let l = g.L.FieldRow in
    let kinds = c.args.kinds.now in
    let i = c.loop-place.place in
    let kind = get_or kinds i AluOp in
    let tokens = of_text l.tokens c.args.text in
    let left = of_text l.tokens c.loop-place.more in
    let token = c.cut-cut.result.token.now in
    let others = of_text l.tokens c.cut-cut.result.more in
    let cut : left ≡ token ∷ others = ap (of_text l.tokens) c.in_ok-more.was ∙ c.cut-cut.ensures.token_first in
    let read = take i c.loop-place.values.items in
    let value = c.put.new.slot in
    let put = at_answer l.fits kind token _ value c.put.result true c.if-not-put.false c.put.ensures in
    let some = c.add_slot.ensures.some in
    let values = last_written c.loop-place.values c.add_slot.new.values c.deref_mut.result.now i value c.add_slot.ensures.front some c.deref_mut.ensures.value in
    record {
      within = omega (arith, c.loop-place-test.true);
      count = one_longer c.loop-place.values c.add_slot.new.values c.deref_mut.result.now i value c.add_slot.ensures.front some c.deref_mut.ensures.value;
      rest = rw values (one_more l.fits kinds tokens read kind (drop (i + 1) kinds) token others value
          (told l.fits kinds tokens read (drop i kinds) (kind ∷ drop (i + 1) kinds) left (token ∷ others) (kinds_at kinds i c.loop-place-test.true) cut c.loop-place.invariant.rest)
          put);
      behind = sym c.cut-cut.ensures.same_lines ∙ ap (λ (m : Option (Bor (List ℕ))). behind_text l.behind m c.loop-place.left) (sym c.in_ok-more.was) ∙ c.loop-place.invariant.behind;
    }

pub returns-in-None-clause-read : goal.returns-in-None-clause-read
returns-in-None-clause-read g c =
    let l = g.L.FieldRow in
    let kinds = c.args.kinds.now in
    let i = c.loop-place.place in
    let tokens = of_text l.tokens c.args.text in
    let items = c.loop-place.values.items in
    let whole : i ≡ length kinds = omega (arith, c.loop-place.invariant.within, c.loop-place-test.false) in
    let kept : take i items ≡ c.truncate.new.self.items = ap (λ (n : ℕ). take n items) whole ∙ sym c.truncate.ensures.items in
    rw (← kept) (all_read l.fits kinds tokens (take i items) (told l.fits kinds tokens (take i items) (drop i kinds) [] (of_text l.tokens c.loop-place.more) [] (no_kinds kinds i c.loop-place-test.false) (ap (of_text l.tokens) c.in-None.is) c.loop-place.invariant.rest))
