-- Lines that lead from what was said before them to what is said with them.
use Rattle.std.proofs.Common.{Bor, ◌≡◌, ℕ, suc, ◌+◌, ◌<◌, ◌≤◌, inl, inr, Bool, true, false, eqb, List, [], ◌∷◌, ◌++◌, length, Option, Some, None, Ok, Err, refl, sym, ap, ◌∙◌, subst, arith, append_assoc, append-nil}
use Rattle.std.specs.Prelude.{MatchOption}
use Rattle.std.specs.List.{slice_split}
use Rattle.std.proofs.lemmas.List.{length-append}
use Rattle.std.proofs.lemmas.List.Splits.{length-slice_split}
use Rattle.std.proofs.lemmas.List.Sums.{count_by-le-length}
use Rattle.a64_lines.specs.declared.error.LinesError.TheVariants.{BadLine}
use Rattle.a64_lines.specs.Lines.{Leads, LeadAll, Takes, TakesAny, Answers}
use Rattle.a64_tokens.specs.Splitting.{is_blank, first, first_line, lines_of, of_text}

module _ {T : Type 0} (says : List ℕ → T → T → Type 0) where
  -- a line leads there, and nowhere else
  abbrev pub Knows : List ℕ → T → T → Type 0
  Knows line old new = Leads says line old new × ((other : T) → Leads says line old other → other ≡ new)

  abbrev pub KnowAll : List (List ℕ) → T → T → Type 0
  KnowAll [] old new = new ≡ old
  KnowAll (line ∷ lines) old new = (mid : T) × Knows line old mid × KnowAll lines mid new

  -- the line means something, and says nothing
  abbrev pub IsBad : List ℕ → T → Type 0
  IsBad line old = (is_blank line ≡ false) × ((other : T) → says line old other → ⊥)

  bad_leads : (line : List ℕ) (old new : T) → IsBad line old → Leads says line old new → ⊥
  bad_leads line old new bad (inl blank) = absurd cc
  bad_leads line old new bad (inr said) = bad.1 new said.1

  pub known_leads : (lines : List (List ℕ)) (old new : T) → KnowAll lines old new → LeadAll says lines old new
  known_leads [] old new h = h
  known_leads (line ∷ lines) old new h = (h.0, h.1.0, known_leads lines h.0 new h.2)

  pub known_same : (lines : List (List ℕ)) (old new other : T) → KnowAll lines old new → LeadAll says lines old other → other ≡ new
  known_same [] old new other h k = k ∙ sym h
  known_same (line ∷ lines) old new other h k =
      let same : k.0 ≡ h.0 = h.1.1 k.0 k.1 in
      known_same lines h.0 new other h.2 (subst (λ (mid : T). LeadAll says lines mid other) same k.2)

  known_push : (lines : List (List ℕ)) (line : List ℕ) (old mid new : T) → KnowAll lines old mid → Knows line mid new → KnowAll (lines ++ line ∷ []) old new
  known_push [] line old mid new h k = (new, subst (λ (t : T). Knows line t new) h k, refl)
  known_push (first ∷ lines) line old mid new h k = (h.0, h.1, known_push lines line h.0 mid new h.2 k)

  -- where a line behind known ones is bad, the lines are no file
  never : (before : List (List ℕ)) (line : List ℕ) (after : List (List ℕ)) (old mid new : T) → KnowAll before old mid → IsBad line mid → LeadAll says (before ++ line ∷ after) old new → ⊥
  never [] line after old mid new h bad k = bad_leads line old k.0 (subst (λ (t : T). IsBad line t) h bad) k.1
  never (first ∷ before) line after old mid new h bad k =
      let same : k.0 ≡ h.0 = h.1.1 k.0 k.1 in
      never before line after h.0 mid new h.2 bad (subst (λ (t : T). LeadAll says (before ++ line ∷ after) t new) same k.2)

  -- and it is the first that is bad
  one_bad : (before : List (List ℕ)) (line : List ℕ) (after : List (List ℕ)) (old mid : T) (before' : List (List ℕ)) (line' : List ℕ) (after' : List (List ℕ)) (mid' : T)
      → before ++ line ∷ after ≡ before' ++ line' ∷ after' → KnowAll before old mid → IsBad line mid → LeadAll says before' old mid' → IsBad line' mid' → length before ≡ length before'
  one_bad [] line after old mid [] line' after' mid' e h bad k bad' = refl
  one_bad [] line after old mid (x ∷ before') line' after' mid' e h bad k bad' =
      let same : line ≡ x = cc in
      absurd (bad_leads x old k.0 (subst (λ (t : T). IsBad x t) h (subst (λ (l : List ℕ). IsBad l mid) same bad)) k.1)
  one_bad (x ∷ before) line after old mid [] line' after' mid' e h bad k bad' =
      let same : line' ≡ x = cc in
      absurd (bad_leads x old h.0 (subst (λ (t : T). IsBad x t) k (subst (λ (l : List ℕ). IsBad l mid') same bad')) h.1.0)
  one_bad (x ∷ before) line after old mid (y ∷ before') line' after' mid' e h bad k bad' =
      let same : y ≡ x = cc in
      let others : before ++ line ∷ after ≡ before' ++ line' ∷ after' = cc in
      let mids : k.0 ≡ h.0 = h.1.1 k.0 (subst (λ (l : List ℕ). Leads says l old k.0) same k.1) in
      ap (λ (n : ℕ). suc n) (one_bad before line after h.0 mid before' line' after' mid' others h.2 bad (subst (λ (t : T). LeadAll says before' t mid') mids k.2) bad')

  -- a line that means nothing is taken, and leads nowhere else
  pub nothing_else : (line : List ℕ) (old : T) → is_blank line ≡ true → TakesAny says line old old true
  nothing_else line old blank = (inl (blank, refl), same)
    where
      same : (other : T) → Leads says line old other → other ≡ old
      same other (inl h) = h.1
      same other (inr h) = absurd cc

  -- what a line that means something says is taken
  pub takes_meant : (line : List ℕ) (old new : T) (b : Bool) → is_blank line ≡ false → Takes says line old new b → TakesAny says line old new b
  takes_meant line old new false meant h = (meant, h)
  takes_meant line old new true meant h = (inr (meant, h.0), same)
    where
      same : (other : T) → Leads says line old other → other ≡ new
      same other (inl k) = absurd cc
      same other (inr k) = h.1 other k.1

  -- ---- how far reading has come

  -- so many lines were taken, and nothing else could be said of them
  pub record Progress (start : T) (lines left : List (List ℕ)) (number : ℕ) (told : T) : Type 0 where
    pub before : List (List ℕ)
    pub parts : lines ≡ before ++ left
    pub count : number ≡ length before
    pub known : KnowAll before start told

  pub begins : (start : T) (lines : List (List ℕ)) → Progress start lines lines 0 start
  begins start lines = record { before = []; parts = refl; count = refl; known = refl }

  pub goes_on : (start : T) (lines : List (List ℕ)) (line : List ℕ) (left : List (List ℕ)) (number : ℕ) (old new : T) → Progress start lines (line ∷ left) number old → TakesAny says line old new true → Progress start lines left (number + 1) new
  goes_on start lines line left number old new p taken = record {
    before = p.before ++ line ∷ [];
    parts = p.parts ∙ sym (append_assoc p.before (line ∷ []) left);
    count = omega (arith, p.count, length-append p.before (line ∷ []));
    known = known_push p.before line start old new p.known taken;
  }

  pub ends : (start : T) (bytes : List ℕ) (number : ℕ) (told : T) → Progress start (lines_of bytes) [] number told → Answers says bytes start (Ok told)
  ends start bytes number told p =
      let whole : lines_of bytes ≡ p.before = p.parts ∙ append-nil p.before in
      let known : KnowAll (lines_of bytes) start told = subst (λ (ls : List (List ℕ)). KnowAll ls start told) (sym whole) p.known in
      record {
        ok = known_leads (lines_of bytes) start told known;
        bad = tt;
        only_ok = λ other leads. sym (known_same (lines_of bytes) start told other known leads);
        only_bad = λ n w. never_bad w.before w.line w.after start w.told told w.good w.meant w.bad (subst (λ (ls : List (List ℕ)). KnowAll ls start told) w.parts known);
      }
    where
      never_bad : (before : List (List ℕ)) (line : List ℕ) (after : List (List ℕ)) (old mid new : T) → LeadAll says before old mid → is_blank line ≡ false → ((other : T) → says line mid other → ⊥) → KnowAll (before ++ line ∷ after) old new → ⊥
      never_bad [] line after old mid new k meant bad h = bad_leads line old h.0 (meant, subst (λ (t : T). (other : T) → says line t other → ⊥) k bad) h.1.0
      never_bad (first ∷ before) line after old mid new k meant bad h =
          let same : k.0 ≡ h.0 = h.1.1 k.0 k.1 in
          never_bad before line after h.0 mid new (subst (λ (t : T). LeadAll says before t mid) same k.2) meant bad h.2

  pub stops : (start : T) (bytes line : List ℕ) (left : List (List ℕ)) (number : ℕ) (old new : T) → Progress start (lines_of bytes) (line ∷ left) number old → TakesAny says line old new false → Answers says bytes start (Err (BadLine (number + 1)))
  stops start bytes line left number old new p bad = record {
    ok = tt;
    bad = record { before = p.before; line = line; after = left; told = old; parts = p.parts; number = omega (arith, p.count); good = known_leads p.before start old p.known; meant = bad.0; bad = bad.1 };
    only_ok = λ told leads. never p.before line left start old told p.known bad (subst (λ (ls : List (List ℕ)). LeadAll says ls start told) p.parts leads);
    only_bad = λ n w.
        let same = one_bad p.before line left start old w.before w.line w.after w.told (sym p.parts ∙ w.parts) p.known bad w.good (w.meant, w.bad) in
        omega (arith, same, w.number, p.count);
  }

  -- there are no more lines than bytes, and one
  pub few_lines : (start : T) (bytes line : List ℕ) (left : List (List ℕ)) (number : ℕ) (told : T) → Progress start (lines_of bytes) (line ∷ left) number told → number ≤ length bytes
  few_lines start bytes line left number told p =
      omega (arith, length-slice_split (λ b. eqb b 10) bytes, count_by-le-length (λ b. eqb b 10) bytes, p.count, ap (λ (l : List (List ℕ)). length l) p.parts, length-append p.before (line ∷ left))

module _ {T : Type 0} (says : List ℕ → T → T → Type 0) (start : T) (bytes : List ℕ) (rest behind : Option (Bor (List ℕ))) (text : Bor (List ℕ)) (line : List ℕ) (number : ℕ) (old : T) where
  -- the line at which reading looks, and those behind it
  pub at_line : Progress says start (lines_of bytes) (of_text lines_of rest) number old → rest ≡ Some text → lines_of text.now ≡ line ∷ of_text lines_of behind → Progress says start (lines_of bytes) (line ∷ of_text lines_of behind) number old
  at_line p is cut = subst (λ (l : List (List ℕ)). Progress says start (lines_of bytes) l number old) (ap (of_text lines_of) is ∙ cut) p

-- the first line of a text
pub is_first : (text line : List ℕ) (others : List (List ℕ)) → lines_of text ≡ line ∷ others → line ≡ first_line text
is_first text line others e = sym (ap first e)

-- a line was cut off, and these are left
pub cut_lines : (text line : List ℕ) (behind : Option (Bor (List ℕ))) → MatchOption behind (slice_split (λ b. eqb b 10) text ≡ line ∷ []) (λ rest. (slice_split (λ b. eqb b 10) text ≡ line ∷ slice_split (λ b. eqb b 10) rest.now) × (length rest.now < length text)) → lines_of text ≡ line ∷ of_text lines_of behind
cut_lines text line None h = h
cut_lines text line (Some rest) h = h.0
