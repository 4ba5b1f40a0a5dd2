-- What stands after relocations were put.
use Rattle.std.proofs.Common.{ℕ, pos, ◌≡◌, ◌≢◌, ◌⊎◌, ◌+◌, ◌*◌, ◌/◌, ◌<◌, ◌≤◌, ◌^◌, ◌+ℤ◌, cond, inl, inr, List, [], ◌∷◌, length, get_or, set, refl, sym, ap, ap₂, subst, ◌∙◌, arith, Bool, true, false, get_or-set_same, get_or-set_other}
use Rattle.std.specs.Prelude.{IsTrue, MatchBool}
use Rattle.std.proofs.Math.ListN.{length-set}
use Rattle.std.proofs.lemmas.List.{get_or_append_left, get_or-append-add, length-append}
use Rattle.a64_words.specs.Word.{signed}
use Rattle.a64_label_use.specs.FarJumps.{LeadFar}
use Rattle.a64_link.specs.declared.unit.Unit.{Unit}
use Rattle.a64_link.specs.declared.unit.Symbol.{Symbol}
use Rattle.a64_link.specs.Units.{Relocation, is_call}
use Rattle.a64_link.specs.Layout.{is_far, start_of, goal_of, thunk_of, stop_of}
use Rattle.a64_link.specs.Linking.{word_at, IsThunk, IsBranch, IsLed, IsThunkPut, IsFarPut, IsAddressPut, address_of, CallStands, AddressStands, SiteStands}

-- words that agree with others but at so many from one on
pub record KeepsBut (old new : List ℕ) (at n : ℕ) : Type 0 where
  pub longer : length old ≤ length new
  pub same : (q : ℕ) → q < length old → (q < at) ⊎ (at + n ≤ q) → get_or new q 0 ≡ get_or old q 0

pub led_keeps : (old new : List ℕ) (at place goal : ℕ) → IsLed old new at place goal → KeepsBut old new at 1
led_keeps old new at place goal l = record {
  longer = omega (arith, ap length l.is, length-set old at l.word);
  same = λ q lt apart. ap (λ ws. get_or ws q 0) l.is ∙ get_or-set_other old at q l.word 0 (not_at q apart);
}
  where
    not_at : (q : ℕ) → (q < at) ⊎ (at + 1 ≤ q) → q ≢ at
    not_at q (inl less) = λ e. omega (arith, e, less)
    not_at q (inr more) = λ e. omega (arith, e, more)

pub put_keeps : (old new : List ℕ) (goal : ℕ) → IsThunkPut old new goal → (q : ℕ) → q < length old → get_or new q 0 ≡ get_or old q 0
put_keeps old new goal t q lt = ap (λ ws. get_or ws q 0) t.is ∙ get_or_append_left old _ 0 q lt

pub put_length : (old new : List ℕ) (goal : ℕ) → IsThunkPut old new goal → length new ≡ length old + 5
put_length old new goal t = ap length t.is ∙ length-append old _

pub far_keeps : (old new : List ℕ) (at place goal : ℕ) → IsFarPut old new at place goal → KeepsBut old new at 1
far_keeps old new at place goal f =
    let k = led_keeps f.mid new at place (4 * length old) f.led in
    let long = put_length old f.mid goal f.put in
    record {
      longer = omega (arith, k.longer, long);
      same = λ q lt apart. k.same q (omega (arith, long)) apart ∙ put_keeps old f.mid goal f.put q lt;
    }

pub address_keeps : (old new : List ℕ) (at value : ℕ) → IsAddressPut old new at value → KeepsBut old new at 2
address_keeps old new at value a = record {
  longer = omega (arith, ap length a.is, length-set (set old at a.low) (at + 1) a.high, length-set old at a.low);
  same = λ q lt apart. ap (λ ws. get_or ws q 0) a.is ∙ get_or-set_other (set old at a.low) (at + 1) q a.high 0 (not_next q apart) ∙ get_or-set_other old at q a.low 0 (not_at q apart);
}
  where
    not_at : (q : ℕ) → (q < at) ⊎ (at + 2 ≤ q) → q ≢ at
    not_at q (inl less) = λ e. omega (arith, e, less)
    not_at q (inr more) = λ e. omega (arith, e, more)

    not_next : (q : ℕ) → (q < at) ⊎ (at + 2 ≤ q) → q ≢ at + 1
    not_next q (inl less) = λ e. omega (arith, e, less)
    not_next q (inr more) = λ e. omega (arith, e, more)

-- ---- sites that stay

pub thunk_stays : (old new : List ℕ) (thunk goal : ℕ) → ((place : ℕ) → thunk ≤ place → place ≤ thunk + 16 → word_at new place ≡ word_at old place) → IsThunk old thunk goal → IsThunk new thunk goal
thunk_stays old new thunk goal same t = record {
  first = same thunk (omega arith) (omega arith) ∙ t.first;
  second = same (thunk + 4) (omega arith) (omega arith) ∙ t.second;
  third = same (thunk + 8) (omega arith) (omega arith) ∙ t.third;
  fourth = same (thunk + 12) (omega arith) (omega arith) ∙ t.fourth;
  says = ap (λ w. pos (thunk + 16) +ℤ signed 32 w) (same (thunk + 16) (omega arith) (omega arith)) ∙ t.says;
  runs = subst (λ (w : ℕ). LeadFar (thunk + 16) w goal) (sym (same (thunk + 16) (omega arith) (omega arith))) t.runs;
}

module _ (units : List Unit) (base : ℕ) (starts : List ℕ) (i : ℕ) (unit : Unit) where
  pub site_stays : (old new : List ℕ) (k : ℕ) (r : Relocation) (s : Symbol) (b : Bool)
      → word_at new (start_of starts i + r.0) ≡ word_at old (start_of starts i + r.0)
      → (b ≡ false → word_at new (start_of starts i + r.0 + 4) ≡ word_at old (start_of starts i + r.0 + 4))
      → (IsTrue (is_far units i r) → (place : ℕ) → thunk_of units starts i unit k ≤ place → place ≤ thunk_of units starts i unit k + 16 → word_at new place ≡ word_at old place)
      → MatchBool b (CallStands units starts old i unit k r s) (AddressStands units base starts old i r s)
      → MatchBool b (CallStands units starts new i unit k r s) (AddressStands units base starts new i r s)
  site_stays old new k r s true here next behind h = record {
    branch = subst (λ (w : ℕ). IsBranch (word_at unit.words.items r.0) w (start_of starts i + r.0) (stop_of units starts i unit k r s)) (sym here) h.branch;
    thunk = λ far. thunk_stays old new (thunk_of units starts i unit k) (goal_of starts s) (behind far) (h.thunk far);
  }
  site_stays old new k r s false here next behind h = ap₂ (λ (a b : ℕ). a + 2 ^ 32 * b) here (next refl) ∙ h

  -- ---- the new site

  module _ (old new : List ℕ) (k : ℕ) (r : Relocation) (s : Symbol)
      (within : (start_of starts i + r.0) / 4 < length old)
      (before : get_or old ((start_of starts i + r.0) / 4) 0 ≡ word_at unit.words.items r.0) where
    abbrev at : ℕ
    at = (start_of starts i + r.0) / 4

    near_new : is_far units i r ≡ false → IsLed old new at (start_of starts i + r.0) (goal_of starts s) → CallStands units starts new i unit k r s
    near_new f l =
        let word_is : get_or new at 0 ≡ l.word = ap (λ ws. get_or ws at 0) l.is ∙ get_or-set_same old at l.word 0 within in
        let b1 : IsBranch (word_at unit.words.items r.0) l.word (start_of starts i + r.0) (goal_of starts s) =
        subst (λ (w : ℕ). IsBranch w l.word (start_of starts i + r.0) (goal_of starts s)) before l.branch
        in
        let b2 : IsBranch (word_at unit.words.items r.0) (get_or new at 0) (start_of starts i + r.0) (goal_of starts s) =
        subst (λ (w : ℕ). IsBranch (word_at unit.words.items r.0) w (start_of starts i + r.0) (goal_of starts s)) (sym word_is) b1
        in
        record {
          branch = subst (λ (x : Bool). IsBranch (word_at unit.words.items r.0) (get_or new at 0) (start_of starts i + r.0) (cond x (thunk_of units starts i unit k) (goal_of starts s))) (sym f) b2;
          thunk = λ far. absurd cc;
        }

    far_new : is_far units i r ≡ true → 4 * length old ≡ thunk_of units starts i unit k → IsFarPut old new at (start_of starts i + r.0) (goal_of starts s) → CallStands units starts new i unit k r s
    far_new f behind p =
        let goal : ℕ = goal_of starts s in
        let place : ℕ = start_of starts i + r.0 in
        let thunk : ℕ = thunk_of units starts i unit k in
        let long : length p.mid ≡ length old + 5 = put_length old p.mid goal p.put in
        let word_is : get_or new at 0 ≡ p.led.word = ap (λ ws. get_or ws at 0) p.led.is ∙ get_or-set_same p.mid at p.led.word 0 (omega (arith, long, within)) in
        let kept : get_or p.mid at 0 ≡ word_at unit.words.items r.0 = put_keeps old p.mid goal p.put at within ∙ before in
        let b1 : IsBranch (word_at unit.words.items r.0) p.led.word place (4 * length old) = subst (λ (w : ℕ). IsBranch w p.led.word place (4 * length old)) kept p.led.branch in
        let b2 : IsBranch (word_at unit.words.items r.0) (get_or new at 0) place (4 * length old) = subst (λ (w : ℕ). IsBranch (word_at unit.words.items r.0) w place (4 * length old)) (sym word_is) b1 in
        let b3 : IsBranch (word_at unit.words.items r.0) (get_or new at 0) place thunk = subst (λ (t : ℕ). IsBranch (word_at unit.words.items r.0) (get_or new at 0) place t) behind b2 in
        record {
          branch = subst (λ (x : Bool). IsBranch (word_at unit.words.items r.0) (get_or new at 0) place (cond x thunk goal)) (sym f) b3;
          thunk = λ _. subst (λ (t : ℕ). IsThunk new t goal) behind (thunk_new p);
        }
      where
        behind_at : (p : IsFarPut old new at (start_of starts i + r.0) (goal_of starts s)) (m place : ℕ) → place / 4 ≡ length old + m
            → word_at new place ≡ get_or (0x98000090 ∷ 0x10000071 ∷ 0x8b110210 ∷ 0xd61f0200 ∷ p.put.last ∷ []) m 0
        behind_at p m place e =
            ap (λ q. get_or new q 0) e
            ∙ ap (λ ws. get_or ws (length old + m) 0) p.led.is
            ∙ get_or-set_other p.mid at (length old + m) p.led.word 0 (λ same. omega (arith, same, within))
            ∙ ap (λ ws. get_or ws (length old + m) 0) p.put.is
            ∙ get_or-append-add old _ m 0

        thunk_new : (p : IsFarPut old new at (start_of starts i + r.0) (goal_of starts s)) → IsThunk new (4 * length old) (goal_of starts s)
        thunk_new p = record {
          first = behind_at p 0 (4 * length old) (omega arith);
          second = behind_at p 1 (4 * length old + 4) (omega arith);
          third = behind_at p 2 (4 * length old + 8) (omega arith);
          fourth = behind_at p 3 (4 * length old + 12) (omega arith);
          says = ap (λ w. pos (4 * length old + 16) +ℤ signed 32 w) (behind_at p 4 (4 * length old + 16) (omega arith)) ∙ p.put.says;
          runs = subst (λ (w : ℕ). LeadFar (4 * length old + 16) w (goal_of starts s)) (sym (behind_at p 4 (4 * length old + 16) (omega arith))) p.put.runs;
        }

    address_new : at + 1 < length old → IsAddressPut old new at (address_of units base starts r s) → AddressStands units base starts new i r s
    address_new more a =
        let here : get_or new at 0 ≡ a.low =
        ap (λ ws. get_or ws at 0) a.is ∙ get_or-set_other (set old at a.low) (at + 1) at a.high 0 (λ same. omega (arith, same)) ∙ get_or-set_same old at a.low 0 within
        in
        let e : (start_of starts i + r.0 + 4) / 4 ≡ at + 1 = omega arith in
        let next : get_or new ((start_of starts i + r.0 + 4) / 4) 0 ≡ a.high =
        ap (λ q. get_or new q 0) e ∙ ap (λ ws. get_or ws (at + 1) 0) a.is ∙ get_or-set_same (set old at a.low) (at + 1) a.high 0 (omega (arith, length-set old at a.low, more))
        in
        ap₂ (λ (x y : ℕ). x + 2 ^ 32 * y) here next ∙ a.value_is

    pub site_new : (b f : Bool) → is_call r.1 ≡ b → is_far units i r ≡ f → 4 * length old ≡ thunk_of units starts i unit k → (b ≡ false → at + 1 < length old)
        → MatchBool b (MatchBool f (IsFarPut old new at (start_of starts i + r.0) (goal_of starts s)) (IsLed old new at (start_of starts i + r.0) (goal_of starts s))) (IsAddressPut old new at (address_of units base starts r s))
        → SiteStands units base starts new i unit k r s
    site_new true true c f behind more p = subst (λ (x : Bool). MatchBool x (CallStands units starts new i unit k r s) (AddressStands units base starts new i r s)) (sym c) (far_new f behind p)
    site_new true false c f behind more p = subst (λ (x : Bool). MatchBool x (CallStands units starts new i unit k r s) (AddressStands units base starts new i r s)) (sym c) (near_new f p)
    site_new false f c e behind more p = subst (λ (x : Bool). MatchBool x (CallStands units starts new i unit k r s) (AddressStands units base starts new i r s)) (sym c) (address_new (more refl) p)
