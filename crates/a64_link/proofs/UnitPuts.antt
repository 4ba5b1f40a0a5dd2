-- One relocation more of a unit, and one unit more.
use Rattle.std.proofs.Common.{ℕ, ◌≡◌, ◌⊎◌, ◌+◌, ◌-◌, ◌*◌, ◌/◌, ◌%◌, ◌<◌, ◌≤◌, cond, inl, inr, List, ◌++◌, length, take, get_or, set, replicate, refl, sym, ap, subst, ◌∙◌, arith, Bool, true, false, Some, nat_cmp}
use Rattle.std.specs.Prelude.{MatchBool, ◌&&◌}
use Rattle.std.specs.FinMap.{FinMap}
use Rattle.std.specs.List.{count_by}
use Rattle.std.proofs.Math.ListN.{length-set}
use Rattle.std.proofs.lemmas.Bool.{cases_lt}
use Rattle.std.proofs.lemmas.List.{get_or_append_left, get_or-append_right, get_or-replicate, length-append, length-replicate, take_all, take-take, get_or_default}
use Rattle.std.proofs.lemmas.List.Sums.{sum_by-take-le}
use Rattle.a64_link.specs.declared.unit.Unit.{Unit}
use Rattle.a64_link.specs.declared.unit.Symbol.{Symbol}
use Rattle.a64_link.specs.Units.{Relocation, is_call, symbol_of}
use Rattle.a64_link.specs.Layout.{is_far, stands_far, IsUnit, start_of, thunk_of}
use Rattle.a64_link.specs.Linking.{word_at, site_size, IsReloc, AreSites, AreApart, IsLed, IsFarPut, IsAddressPut, IsPlan, SiteStands, IsPlain, IsPut, IsUnitPut}
use Rattle.a64_link.proofs.Rooms.{count_step}
use Rattle.a64_link.proofs.Ready.{IsHere, here, at_site, at_address}
use Rattle.a64_link.proofs.Stands.{KeepsBut, led_keeps, far_keeps, address_keeps, put_length, site_stays, site_new}

-- how many words a site has
abbrev pub site_words : Bool → ℕ
site_words b = cond b 4 8 / 4

whole_site : (b : Bool) → 4 * site_words b ≡ cond b 4 8
whole_site true = refl
whole_site false = refl

keeps_by : (old new : List ℕ) (at place goal value : ℕ) (b f : Bool)
    → MatchBool b (MatchBool f (IsFarPut old new at place goal) (IsLed old new at place goal)) (IsAddressPut old new at value)
    → KeepsBut old new at (site_words b)
keeps_by old new at place goal value true true p = far_keeps old new at place goal p
keeps_by old new at place goal value true false p = led_keeps old new at place goal p
keeps_by old new at place goal value false f p = address_keeps old new at value p

longer_by : (old new : List ℕ) (at place goal value : ℕ) (b f : Bool) → (f ≡ true → b ≡ true)
    → MatchBool b (MatchBool f (IsFarPut old new at place goal) (IsLed old new at place goal)) (IsAddressPut old new at value)
    → length new ≡ length old + cond f 5 0
longer_by old new at place goal value true true far p = omega (arith, ap length p.led.is, length-set p.mid at p.led.word, put_length old p.mid goal p.put)
longer_by old new at place goal value true false far p = omega (arith, ap length p.is, length-set old at p.word)
longer_by old new at place goal value false true far p = absurd (let e = far refl in cc)
longer_by old new at place goal value false false far p = omega (arith, ap length p.is, length-set (set old at p.low) (at + 1) p.high, length-set old at p.low)

module _ (units : List Unit) (base : ℕ) (sums : List ℕ) (symbols : FinMap nat_cmp Symbol) (starts : List ℕ) (p : IsPlan units sums symbols starts) where
  module _ (i : ℕ) (unit : Unit) (u : IsUnit units i unit) where
    sites : AreSites units unit
    sites = p.linkable.sites i unit u

    far_calls : (r : Relocation) → is_far units i r ≡ true → is_call r.1 ≡ true
    far_calls r far = at (is_call r.1) far
      where
        at : (b : Bool) → (b && stands_far units i (symbol_of units r.2)) ≡ true → b ≡ true
        at true e = refl
        at false e = e

    same_reloc : (k : ℕ) (a b : Relocation) → IsReloc unit k a → IsReloc unit k b → a ≡ b
    same_reloc k a b x y = sym (x.is a) ∙ y.is a

    -- a call before another one has its thunk before that of the other
    pub thunk_before : (j k : ℕ) (a : Relocation) → j < k → k ≤ length unit.relocs.items → IsReloc unit j a → is_far units i a ≡ true
        → thunk_of units starts i unit j + 20 ≤ thunk_of units starts i unit k
    thunk_before j k a less le q far =
        let step = count_step (is_far units i) unit.relocs.items j a true q.within (ap (is_far units i) (q.is a) ∙ far) in
        let part = sum_by-take-le (λ x. cond (is_far units i x) 1 0) (take k unit.relocs.items) (j + 1) in
        let both = ap (count_by (is_far units i)) (take-take (j + 1) k unit.relocs.items (omega arith)) in
        omega (arith, step, part, both)

    module _ (k : ℕ) (r : Relocation) (q : IsReloc unit k r) (old words new : List ℕ) (h : IsUnitPut units base starts i unit old words k) (put : IsPut units base starts i r words new) where
      at : ℕ
      at = (start_of starts i + r.0) / 4

      the_here : IsHere units base sums symbols starts p i unit u k r q
      the_here = here units base sums symbols starts p i unit u k r q

      keeps : KeepsBut words new ((start_of starts i + r.0) / 4) (site_words (is_call r.1))
      keeps = keeps_by words new _ _ _ _ (is_call r.1) (is_far units i r) put.put

      start : ℕ
      start = start_of starts i

      four : (r' : Relocation) → 4 ≤ site_size r'
      four r' = at_least (is_call r'.1)
        where
          at_least : (b : Bool) → 4 ≤ cond b 4 8
          at_least true = omega arith
          at_least false = omega arith

      -- a place that is none of the site stays
      stays : (place : ℕ) → place / 4 < length words → (place < start_of starts i + r.0) ⊎ (start_of starts i + r.0 + site_size r ≤ place) → word_at new place ≡ word_at words place
      stays place within (inl before) = keeps.same (place / 4) within (inl (omega (arith, the_here.aligned, the_here.whole)))
      stays place within (inr after) = keeps.same (place / 4) within (inr (omega (arith, the_here.aligned, the_here.whole, whole_site (is_call r.1))))

      -- words of the unit that are no site
      plain_more : (x : ℕ) → x < length unit.words.items → IsPlain units base starts unit (k + 1) (4 * x) → word_at new (start_of starts i + 4 * x) ≡ get_or unit.words.items x 0
      plain_more x lt plain =
          stays (start_of starts i + 4 * x) (omega (arith, h.long, the_here.whole)) (shifted (plain k r (omega arith) q))
          ∙ h.stands.plain x lt (λ j a less is. plain j a (omega arith) is)
        where
          shifted : (4 * x < r.0) ⊎ (r.0 + site_size r ≤ 4 * x) → (start_of starts i + 4 * x < start_of starts i + r.0) ⊎ (start_of starts i + r.0 + site_size r ≤ start_of starts i + 4 * x)
          shifted (inl l) = inl (omega arith)
          shifted (inr m) = inr (omega arith)

      -- the site has the word of the unit until then
      before_site : get_or words ((start_of starts i + r.0) / 4) 0 ≡ word_at unit.words.items r.0
      before_site =
          let e : start_of starts i + 4 * (r.0 / 4) ≡ start_of starts i + r.0 = omega (arith, the_here.aligned) in
          let lt : r.0 / 4 < length unit.words.items = omega (arith, the_here.within, four r) in
          ap (λ place. word_at words place) (sym e) ∙ h.stands.plain (r.0 / 4) lt (λ j a less is. plain_site a (sites.apart j k a r less is q) (four a) the_here.aligned)
        where
          plain_site : (a : Relocation) → AreApart a r → 4 ≤ site_size a → r.0 % 4 ≡ 0 → (4 * (r.0 / 4) < a.0) ⊎ (a.0 + site_size a ≤ 4 * (r.0 / 4))
          plain_site a (inl l) f w = inr (omega arith)
          plain_site a (inr m) f w = inl (omega (arith, four r))

      -- sites before
      site_before : (j : ℕ) (a : Relocation) (s : Symbol) → j < k → IsReloc unit j a → symbol_of units a.2 ≡ Some s → SiteStands units base starts new i unit j a s
      site_before j a s less is e =
          let apart = sites.apart j k a r less is q in
          let site = sites.sites j a is in
          site_stays units base starts i unit words new j a s (is_call a.1)
          (stays (start_of starts i + a.0) (omega (arith, h.long, site.within, four a, the_here.whole)) (here_apart apart (four a)))
          (λ no. stays (start_of starts i + a.0 + 4) (omega (arith, h.long, site.within, ap {B = ℕ} (λ (b : Bool). cond b 4 8) no, the_here.whole)) (next_apart apart (ap {B = ℕ} (λ (b : Bool). cond b 4 8) no)))
          (λ far place low high. stays place (omega (arith, thunk_before j k a less (omega (arith, q.within)) is far, h.long)) (inr (omega (arith, the_here.within))))
          (h.stands.sites j a s less is e)
        where
          here_apart : AreApart a r → 4 ≤ site_size a → (start_of starts i + a.0 < start_of starts i + r.0) ⊎ (start_of starts i + r.0 + site_size r ≤ start_of starts i + a.0)
          here_apart (inl l) f = inl (omega arith)
          here_apart (inr m) f = inr (omega arith)

          next_apart : AreApart a r → site_size a ≡ 8 → (start_of starts i + a.0 + 4 < start_of starts i + r.0) ⊎ (start_of starts i + r.0 + site_size r ≤ start_of starts i + a.0 + 4)
          next_apart (inl l) f = inl (omega arith)
          next_apart (inr m) f = inr (omega arith)

      -- the new one
      site_now : (s : Symbol) → symbol_of units r.2 ≡ Some s → SiteStands units base starts new i unit k r s
      site_now s e =
          let same : put.symbol ≡ s = (let a = put.known in cc) in
          subst (λ (t : Symbol). SiteStands units base starts new i unit k r t) same
          (site_new units base starts i unit words new k r put.symbol (at_site units base sums symbols starts p i unit u k r q (length words) h.long) before_site
          (is_call r.1) (is_far units i r) refl refl h.long (λ no. at_address units base sums symbols starts p i unit u k r q (length words) no h.long) put.put)

      site_any : (j : ℕ) (a : Relocation) (s : Symbol) → j < k + 1 → IsReloc unit j a → symbol_of units a.2 ≡ Some s → SiteStands units base starts new i unit j a s
      site_any j a s lt is e = elim (cases_lt j k) [
        | inl less ↦ site_before j a s less is e
        | inr more ↦
            let same : k ≡ j = omega arith in
            let is_a : r ≡ a = same_reloc j r a (subst (λ n. IsReloc unit n r) same q) is in
            subst (λ n. SiteStands units base starts new i unit n a s) same
            (subst (λ (b : Relocation). SiteStands units base starts new i unit k b s) is_a (site_now s (ap (λ (b : Relocation). symbol_of units b.2) is_a ∙ e)))
      ]

      pub put_more : IsUnitPut units base starts i unit old new (k + 1)
      put_more =
          let step = count_step (is_far units i) unit.relocs.items k r (is_far units i r) q.within (ap (is_far units i) (q.is r)) in
          let longer = longer_by words new _ _ _ _ (is_call r.1) (is_far units i r) (far_calls r) put.put in
          record {
            behind = h.behind;
            long = long_now (is_far units i r) step longer;
            front = λ x lt. keeps.same x (omega (arith, h.behind, h.long)) (inl (omega (arith, h.behind, the_here.whole, the_here.aligned))) ∙ h.front x lt;
            gap = λ x low high. keeps.same x (omega (arith, h.long)) (inl (omega (arith, the_here.whole, the_here.aligned))) ∙ h.gap x low high;
            stands = record { plain = plain_more; sites = site_any };
          }
        where
          long_now : (f : Bool) → count_by (is_far units i) (take (k + 1) unit.relocs.items) ≡ cond f (count_by (is_far units i) (take k unit.relocs.items) + 1) (count_by (is_far units i) (take k unit.relocs.items))
              → length new ≡ length words + cond f 5 0 → 4 * length new ≡ thunk_of units starts i unit (k + 1)
          long_now true a b = omega (arith, a, b, h.long)
          long_now false a b = omega (arith, a, b, h.long)

    -- before the first relocation
    pub put_begins : (old words : List ℕ) (n : ℕ) → 4 * n ≡ start_of starts i → length old ≤ n
        → words ≡ (take n old ++ replicate (n - length old) 0) ++ unit.words.items → IsUnitPut units base starts i unit old words 0
    put_begins old words n at_start le is =
        let all : take n old ≡ old = take_all n old le in
        let whole : words ≡ (old ++ replicate (n - length old) 0) ++ unit.words.items = is ∙ ap (λ xs. (xs ++ replicate (n - length old) 0) ++ unit.words.items) all in
        let zeros : length (old ++ replicate (n - length old) 0) ≡ n = omega (arith, length-append old (replicate (n - length old) 0), length-replicate {A = ℕ} (n - length old) 0) in
        record {
          behind = omega arith;
          long = omega (arith, ap length whole, length-append (old ++ replicate (n - length old) 0) unit.words.items, zeros);
          front = λ x lt. ap (λ ws. get_or ws x 0) whole ∙ get_or_append_left (old ++ replicate (n - length old) 0) unit.words.items 0 x (omega (arith, zeros)) ∙ get_or_append_left old _ 0 x lt;
          gap = λ x low high.
              ap (λ ws. get_or ws x 0) whole ∙ get_or_append_left (old ++ replicate (n - length old) 0) unit.words.items 0 x (omega (arith, zeros))
              ∙ get_or-append_right old (replicate (n - length old) 0) (length old) x 0 refl low ∙ get_or-replicate (n - length old) (x - length old) 0 0 (omega arith);
          stands = record {
            plain = λ x lt plain.
                let e : (start_of starts i + 4 * x) / 4 ≡ n + x = omega arith in
                ap (λ place. get_or words place 0) e ∙ ap (λ ws. get_or ws (n + x) 0) whole
                ∙ get_or-append_right (old ++ replicate (n - length old) 0) unit.words.items n (n + x) 0 zeros (omega arith)
                ∙ ap (λ place. get_or unit.words.items place 0) (omega arith);
            sites = λ j a s lt. absurd (omega arith);
          };
        }

-- the same of a relocation that was read
pub put_more_read : (units : List Unit) (base : ℕ) (sums : List ℕ) (symbols : FinMap nat_cmp Symbol) (starts : List ℕ) (p : IsPlan units sums symbols starts) (i : ℕ) (unit : Unit) (u : IsUnit units i unit)
    (k : ℕ) (xs : List Relocation) (d : Relocation) (old words new : List ℕ) → xs ≡ unit.relocs.items → k < length xs
    → IsUnitPut units base starts i unit old words k → IsPut units base starts i (get_or xs k d) words new → IsUnitPut units base starts i unit old new (k + 1)
put_more_read units base sums symbols starts p i unit u k xs d old words new is within h put =
    let q : IsReloc unit k (get_or xs k d) = record {
      within = omega (arith, ap (λ (l : List Relocation). length l) is);
      is = λ e. ap (λ (l : List Relocation). get_or l k e) (sym is) ∙ get_or_default xs k e d within;
    }
    in
    put_more units base sums symbols starts p i unit u k (get_or xs k d) q old words new h put
