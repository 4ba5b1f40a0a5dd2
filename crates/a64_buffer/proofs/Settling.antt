-- How the words of uses come to lead to their stops, one after another.
use Rattle.std.proofs.Common.{ℕ, zero, suc, ◌≡◌, ◌≢◌, ◌⊎◌, ◌+◌, ◌-◌, ◌*◌, ◌/◌, ◌%◌, ◌<◌, ◌≤◌, List, [], ◌∷◌, length, get_or, set, take, drop, Some, None, IfSome, All, refl, sym, ◌∙◌, ap, subst, arith, inl, inr}
use Rattle.std.specs.Int.{w32, from_le_bytes}
use Rattle.std.proofs.lemmas.Bool.{cases_eq, cases_lt}
use Rattle.std.proofs.lemmas.Slice.{take-put_mid_below, drop-put_mid, between-put_mid}
use borrow.Rule.Slice.PartMut.{put_mid}
use Rattle.std.proofs.lemmas.List.{get_or-take, length-take, take-take, get_or_default, drop-drop, drop-take, length-take-le, length-drop, length-set, get_or-set_same, get_or-set_other}
use Rattle.std.proofs.lemmas.List.Elements.{All-nil, All-more, All-take}
use Rattle.a64_words.specs.Word.{outside, word_at, words_of}
use Rattle.a64_buffer.specs.declared.site.Use.{Use}
use Rattle.a64_buffer.specs.Kinds.{Kinds, GoesTo}
use Rattle.a64_buffer.specs.Buffer.{IsFree}
use Rattle.a64_buffer.specs.Sound.{IsPlaced, AreApart}
use Rattle.a64_words.proofs.WordLists.{words_whole}
use Rattle.a64_buffer.specs.Settled.{IsCodeOf, Reaches, MayLead, Patches, PatchesCode, IsLed, AreSettled, IsSettledCode}

-- four bytes were written into code
pub word_here : (code four : List ℕ) (at : ℕ) → at + 4 ≤ length code → length four ≡ 4 → word_at (put_mid at 4 code four) at ≡ from_le_bytes w32 four
word_here code four at h n =
    let size : at + 4 - at ≡ 4 = omega arith in
    ap (λ m. from_le_bytes w32 (take m (drop at (put_mid at 4 code four)))) (sym size)
    ∙ ap (from_le_bytes w32) (between-put_mid at 4 code four (at + 4) (omega arith) (omega arith))

pub word_apart : (code four : List ℕ) (at p : ℕ) → at + 4 ≤ length code → length four ≡ 4 → (p + 4 ≤ at) ⊎ (at + 4 ≤ p) → word_at (put_mid at 4 code four) p ≡ word_at code p
word_apart code four at p h n (inl le) = ap (from_le_bytes w32) (sym (drop-take p 4 (put_mid at 4 code four)) ∙ (ap (drop p) (take-put_mid_below at 4 code four (p + 4) le (omega arith)) ∙ drop-take p 4 code))
word_apart code four at p h n (inr ge) = ap (λ bs. from_le_bytes w32 (take 4 bs)) (drop-put_mid at 4 code four p ge (omega arith) n)

-- bytes are code of the words that they are
words_stand : (bytes : List ℕ) (i : ℕ) → i < length (words_of bytes) → word_at bytes (4 * i) ≡ get_or (words_of bytes) i 0
words_stand [] i h = absurd (omega arith)
words_stand (a ∷ []) i h = absurd (omega arith)
words_stand (a ∷ b ∷ []) i h = absurd (omega arith)
words_stand (a ∷ b ∷ c ∷ []) i h = absurd (omega arith)
words_stand (a ∷ b ∷ c ∷ d ∷ bytes) zero h = refl
words_stand (a ∷ b ∷ c ∷ d ∷ bytes) (suc i) h =
    let e : 4 * suc i ≡ 4 + 4 * i = omega arith in
    ap (word_at (a ∷ b ∷ c ∷ d ∷ bytes)) e
    ∙ (ap (λ bs. from_le_bytes w32 (take 4 bs)) (sym (drop-drop (4 * i) 4 (a ∷ b ∷ c ∷ d ∷ bytes))) ∙ words_stand bytes i (omega arith))

pub code_of_words : (bytes : List ℕ) → length bytes % 4 ≡ 0 → IsCodeOf (words_of bytes) bytes
code_of_words bytes whole = record { same_length = sym (words_whole bytes whole); at = words_stand bytes }

-- uses on words of code
pub placed_words : {K : Type 0} (bytes : List ℕ) (uses : List (Use K)) → length bytes % 4 ≡ 0 → All (IsPlaced (length bytes)) uses → All (IsPlaced (4 * length (words_of bytes))) uses
placed_words bytes uses whole = subst (λ n. All (IsPlaced n) uses) (sym (words_whole bytes whole))

module _ {K : Type 0} (r : Kinds K) where
  module _ (put : List ℕ) (uses : List (Use K)) (placed : All (IsPlaced (4 * length put)) uses) (apart : AreApart uses) (n : ℕ) (d : Use K) (within : n < length uses) where
    -- the next use stands on no word of an earlier one
    fresh : IsFree (take n uses) (get_or uses n d).offset
    fresh k e h same =
        let below : k < n = omega (arith, length-take n uses) in
        apart k n d below within (ap (λ u. u.offset) (sym (get_or-take n uses k d below) ∙ get_or_default (take n uses) k d e h) ∙ same)

    -- what is free of the uses so far and of the next one
    sooner : (place : ℕ) → IsFree (take (n + 1) uses) place → IsFree (take n uses) place
    sooner place f = let le : n ≤ n + 1 = omega arith in subst (λ us. IsFree us place) (take-take n (n + 1) uses le) (All-take (λ (u : Use K). u.offset ≢ place) n (take (n + 1) uses) f)

    other : (place : ℕ) → IsFree (take (n + 1) uses) place → (get_or uses n d).offset ≢ place
    other place f same =
        let lt : n < length (take (n + 1) uses) = omega (arith, length-take (n + 1) uses) in
        let under : n < n + 1 = omega arith in
        f n d lt (ap (λ u. u.offset) (get_or-take (n + 1) uses n d under) ∙ same)

    next_placed : IsPlaced (4 * length put) (get_or uses n d)
    next_placed = placed n d within

    settled_more : (words words' : List ℕ) (place : ℕ) → (get_or uses n d).stop ≡ Some place → AreSettled r put (take n uses) words → length words' ≡ length words → Patches r (get_or uses n d).kind (get_or uses n d).offset place words words' → AreSettled r put (take (n + 1) uses) words'
    settled_more words words' place e t l p =
        let u : Use K = get_or uses n d in
        let whole : u.offset ≡ 4 * (u.offset / 4) = omega (arith, next_placed.aligned) in
        let as_put : get_or words (u.offset / 4) 0 ≡ get_or put (u.offset / 4) 0 = t.free (u.offset / 4) (omega (arith, next_placed.inside)) (subst (IsFree (take n uses)) whole fresh) in
        record {
          same_length = l ∙ t.same_length;
          free = λ i h f. p.others i (let ne : u.offset ≢ 4 * i = other (4 * i) f in omega (arith, next_placed.aligned)) ∙ t.free i h (sooner (4 * i) f);
          settled = All-more (λ (v : Use K). IsLed r (get_or put (v.offset / 4) 0) v (get_or words' (v.offset / 4) 0)) uses n d within
              (λ k e h.
              let ne : (get_or (take n uses) k e).offset ≢ u.offset = fresh k e h in
              let al : (get_or (take n uses) k e).offset % 4 ≡ 0 = (All-take (IsPlaced (4 * length put)) n uses placed k e h).aligned in
              let apart : (get_or (take n uses) k e).offset / 4 ≢ u.offset / 4 = omega (arith, next_placed.aligned) in
              subst (λ w. IsLed r (get_or put ((get_or (take n uses) k e).offset / 4) 0) (get_or (take n uses) k e) w) (sym (p.others _ apart)) (t.settled k e h))
              (record {
                rest = p.rest ∙ ap (outside (r.mask u.kind)) as_put;
                leads = subst (λ o. IfSome o (GoesTo r u.kind (get_or put (u.offset / 4) 0) (get_or words' (u.offset / 4) 0) u.offset)) (sym e)
                    (subst (λ w. GoesTo r u.kind w (get_or words' (u.offset / 4) 0) u.offset place) as_put p.leads);
              });
        }

    -- a use without a stop keeps its word
    settled_same : (words : List ℕ) → (get_or uses n d).stop ≡ None → AreSettled r put (take n uses) words → AreSettled r put (take (n + 1) uses) words
    settled_same words e t =
        let u : Use K = get_or uses n d in
        let whole : u.offset ≡ 4 * (u.offset / 4) = omega (arith, next_placed.aligned) in
        let as_put : get_or words (u.offset / 4) 0 ≡ get_or put (u.offset / 4) 0 = t.free (u.offset / 4) (omega (arith, next_placed.inside)) (subst (IsFree (take n uses)) whole fresh) in
        record {
          same_length = t.same_length;
          free = λ i h f. t.free i h (sooner (4 * i) f);
          settled = All-more (λ (v : Use K). IsLed r (get_or put (v.offset / 4) 0) v (get_or words (v.offset / 4) 0)) uses n d within t.settled
              (record {
                rest = ap (outside (r.mask u.kind)) as_put;
                leads = subst (λ o. IfSome o (GoesTo r u.kind (get_or put (u.offset / 4) 0) (get_or words (u.offset / 4) 0) u.offset)) (sym e) tt;
              });
        }

    -- one more use, as the loop reads it
    pub settled_skip : (u : Use K) → u ≡ get_or uses n d → (words : List ℕ) → u.stop ≡ None → AreSettled r put (take n uses) words → AreSettled r put (take (n + 1) uses) words
    settled_skip u is words e t = settled_same words (subst (λ (v : Use K). v.stop ≡ None) is e) t

    pub settled_step : (u : Use K) → u ≡ get_or uses n d → (words words' : List ℕ) (place : ℕ) → u.stop ≡ Some place → AreSettled r put (take n uses) words → length words' ≡ length words → Patches r u.kind u.offset place words words' → AreSettled r put (take (n + 1) uses) words'
    settled_step u is words words' place e t l p = settled_more words words' place (subst (λ (v : Use K). v.stop ≡ Some place) is e) t l (subst (λ (v : Use K). Patches r v.kind v.offset place words words') is p)

  -- ---- words in code

  -- four bytes of code were patched
  pub code_patched : (kind : K) (offset place k : ℕ) (code four : List ℕ) → k ≡ 4 → offset + 4 ≤ length code → length four ≡ length (take k (drop offset code)) → outside (r.mask kind) (from_le_bytes w32 four) ≡ outside (r.mask kind) (from_le_bytes w32 (take k (drop offset code))) → GoesTo r kind (from_le_bytes w32 (take k (drop offset code))) (from_le_bytes w32 four) offset place → PatchesCode r kind offset place code (put_mid offset k code four)
  code_patched kind offset place k code four size h =
      subst (λ m. length four ≡ length (take m (drop offset code)) → outside (r.mask kind) (from_le_bytes w32 four) ≡ outside (r.mask kind) (from_le_bytes w32 (take m (drop offset code))) → GoesTo r kind (from_le_bytes w32 (take m (drop offset code))) (from_le_bytes w32 four) offset place → PatchesCode r kind offset place code (put_mid offset m code four)) (sym size)
      (λ same rest leads.
      let n : length four ≡ 4 = same ∙ length-take-le 4 (drop offset code) (omega (arith, length-drop offset code)) in
      record {
        others = λ p a. word_apart code four offset p h n a;
        rest = subst (λ m. outside (r.mask kind) m ≡ outside (r.mask kind) (word_at code offset)) (sym (word_here code four offset h n)) rest;
        leads = subst (λ m. GoesTo r kind (word_at code offset) m offset place) (sym (word_here code four offset h n)) leads;
      })

  -- the word at an offset of code is a word of it
  code_word : (words code : List ℕ) (offset : ℕ) → IsCodeOf words code → offset % 4 ≡ 0 → offset < 4 * length words → word_at code offset ≡ get_or words (offset / 4) 0
  code_word words code offset c al w =
      let whole : offset ≡ 4 * (offset / 4) = omega (arith, al) in
      ap (word_at code) whole ∙ c.at (offset / 4) (omega arith)

  -- a word of code was patched
  patched_code : (words code code' : List ℕ) (kind : K) (offset place : ℕ) → IsCodeOf words code → offset % 4 ≡ 0 → offset < 4 * length words → length code' ≡ length code → PatchesCode r kind offset place code code' → IsCodeOf (set words (offset / 4) (word_at code' offset)) code'
  patched_code words code code' kind offset place c al w long p = record {
    same_length = omega (arith, long, c.same_length, length-set words (offset / 4) (word_at code' offset));
    at = λ i h. elim (cases_eq i (offset / 4)) [
      | inl e ↦
          let here : 4 * i ≡ offset = omega (arith, al, e) in
          ap (word_at code') here ∙ sym (ap (λ n. get_or (set words (offset / 4) (word_at code' offset)) n 0) e ∙ get_or-set_same words (offset / 4) (word_at code' offset) 0 (omega arith))
      | inr ne ↦
          p.others (4 * i) (elim (cases_lt i (offset / 4)) [ inl lt ↦ inl (omega (arith, al)) | inr ge ↦ inr (omega (arith, al)) ])
          ∙ (c.at i (omega (arith, h, length-set words (offset / 4) (word_at code' offset)))
          ∙ sym (get_or-set_other words (offset / 4) i (word_at code' offset) 0 ne))
    ];
  }

  patched_words : (words code code' : List ℕ) (kind : K) (offset place : ℕ) → IsCodeOf words code → offset % 4 ≡ 0 → offset < 4 * length words → PatchesCode r kind offset place code code' → Patches r kind offset place words (set words (offset / 4) (word_at code' offset))
  patched_words words code code' kind offset place c al w p =
      let old : word_at code offset ≡ get_or words (offset / 4) 0 = code_word words code offset c al w in
      let new : word_at code' offset ≡ get_or (set words (offset / 4) (word_at code' offset)) (offset / 4) 0 = sym (get_or-set_same words (offset / 4) (word_at code' offset) 0 (omega arith)) in
      record {
        others = λ i ne. get_or-set_other words (offset / 4) i (word_at code' offset) 0 ne;
        rest = subst (λ n. outside (r.mask kind) n ≡ outside (r.mask kind) (get_or words (offset / 4) 0)) new (p.rest ∙ ap (outside (r.mask kind)) old);
        leads = subst (λ n. GoesTo r kind (get_or words (offset / 4) 0) n offset place) new (subst (λ n. GoesTo r kind n (word_at code' offset) offset place) old p.leads);
      }

  pub code_step : (put : List ℕ) (uses : List (Use K)) → All (IsPlaced (4 * length put)) uses → AreApart uses → (n : ℕ) (d : Use K) → n < length uses → (u : Use K) → u ≡ get_or uses n d → (code code' : List ℕ) (place : ℕ) → u.stop ≡ Some place → IsSettledCode r put (take n uses) code → length code' ≡ length code → PatchesCode r u.kind u.offset place code code' → IsSettledCode r put (take (n + 1) uses) code'
  code_step put uses placed apart n d within u is code code' place e t long p =
      let stands : IsPlaced (4 * length put) u = subst (IsPlaced (4 * length put)) (sym is) (placed n d within) in
      let inside : u.offset < 4 * length t.words = omega (arith, stands.inside, t.settled.same_length) in
      record {
        words = set t.words (u.offset / 4) (word_at code' u.offset);
        settled = settled_step put uses placed apart n d within u is t.words (set t.words (u.offset / 4) (word_at code' u.offset)) place e t.settled (length-set t.words (u.offset / 4) (word_at code' u.offset)) (patched_words t.words code code' u.kind u.offset place t.bytes stands.aligned inside p);
        bytes = patched_code t.words code code' u.kind u.offset place t.bytes stands.aligned inside long p;
      }

  pub code_skip : (put : List ℕ) (uses : List (Use K)) → All (IsPlaced (4 * length put)) uses → AreApart uses → (n : ℕ) (d : Use K) → n < length uses → (u : Use K) → u ≡ get_or uses n d → (code : List ℕ) → u.stop ≡ None → IsSettledCode r put (take n uses) code → IsSettledCode r put (take (n + 1) uses) code
  code_skip put uses placed apart n d within u is code e t = record {
    words = t.words;
    settled = settled_skip put uses placed apart n d within u is t.words e t.settled;
    bytes = t.bytes;
  }

  pub code_none : (put : List ℕ) (uses : List (Use K)) (code : List ℕ) → uses ≡ [] → IsCodeOf put code → IsSettledCode r put uses code
  code_none put uses code e c = record {
    words = put;
    settled = record {
      same_length = refl;
      free = λ i h f. refl;
      settled = subst (λ us. All (λ (u : Use K). IsLed r (get_or put (u.offset / 4) 0) u (get_or put (u.offset / 4) 0)) us) (sym e) (All-nil (λ (u : Use K). IsLed r (get_or put (u.offset / 4) 0) u (get_or put (u.offset / 4) 0)));
    };
    bytes = c;
  }

  -- what the next use asks
  pub next_reaches : (uses : List (Use K)) → All (MayLead r) uses → (n : ℕ) (d : Use K) → n < length uses → (u : Use K) → u ≡ get_or uses n d → (place : ℕ) → u.stop ≡ Some place → Reaches r u.kind u.offset place
  next_reaches uses a n d h u is place e = subst (λ o. IfSome o (Reaches r u.kind u.offset)) e (subst (MayLead r) (sym is) (a n d h))
