-- Lines and the entries that they are.
use Rattle.std.proofs.Common.{Bor, ◌≡◌, ℕ, ◌+◌, ◌<◌, ◌≤◌, true, false, not, eqb, List, [], ◌∷◌, ◌++◌, length, map, Option, Some, None, Ok, Err, refl, sym, ap, ◌∙◌, subst, arith, append_assoc, inl, inr}
use Rattle.std.specs.Prelude.{MatchOption}
use Rattle.std.specs.List.{slice_split, AllByRecursion, AllZip}
use Rattle.std.proofs.lemmas.List.Splits.{length-slice_split}
use Rattle.std.proofs.lemmas.List.Sums.{count_by-le-length}
use Rattle.std.proofs.lemmas.List.{length-append, append-nil}
use Rattle.std.proofs.lemmas.List.Elements.{filter-append}
use Rattle.a64_text.specs.declared.entry.Entry.{Entry}
use Rattle.a64_text.specs.declared.file.FileError.TheVariants.{BadLine}
use Rattle.a64_text.specs.declared.state.ReaderState.{ReaderState}
use Rattle.a64_tokens.specs.Reads.{Reads}
use Rattle.a64_tokens.specs.Splitting.{is_blank, lines_of, others, first_line, lines_behind, of_text}
use Rattle.a64_text.specs.Tokens.{line_of, IsEntry}
use Rattle.a64_text.specs.States.{State, start, MayStand, state_after, Chain}
use Rattle.a64_text.specs.FileText.{meaningful, AreEntries, IsFirstBad}
use Rattle.a64_text.specs.AddsLine.{Holds, Added, AddsNothing, AddsLine}
use Rattle.a64_text.specs.Reading.{Answers}
use Rattle.a64_tokens.proofs.Splits.{lines_whole}
use Rattle.a64_text.proofs.Sequences.{map_parts, zip_parts, zip_push, each_parts, Fronts, fronts}

-- the line is the entry, and no other
abbrev pub Knows : List ℕ → Entry → Type 0
Knows line e = Reads IsEntry line_of line (Some e)

-- no entry that the line is may stand in this state
abbrev pub Bad : State → List ℕ → Type 0
Bad state line = (e : Entry) → IsEntry e → line ≡ line_of e → ¬ MayStand state e

-- ---- entries one after another

-- they lead to one state
pub chain_same : (old : State) (es : List Entry) (one two : State) → Chain old es one → Chain old es two → one ≡ two
chain_same old [] one two h k = h ∙ sym k
chain_same old (e ∷ es) one two h k = chain_same (state_after old e) es one two h.1 k.1

chain_push : (old : State) (es : List Entry) (new : State) (e : Entry) → Chain old es new → MayStand new e → Chain old (es ++ e ∷ []) (state_after new e)
chain_push old [] new e h stands = (subst (λ (s : State). MayStand s e) h stands, ap (λ (s : State). state_after s e) h)
chain_push old (x ∷ es) new e h stands = (h.0, chain_push (state_after old x) es new e h.1 stands)

-- each of them may stand where those before it lead
chain_at : (old : State) (front : List Entry) (e : Entry) (back : List Entry) (new : State) → Chain old (front ++ e ∷ back) new → (mid : State) × Chain old front mid × MayStand mid e
chain_at old [] e back new h = (old, refl, h.0)
chain_at old (x ∷ front) e back new h = let r = chain_at (state_after old x) front e back new h.1 in (r.0, (h.0, r.1), r.2)

-- ---- what is known of lines that were read

pub known_texts : (ms : List (List ℕ)) (es : List Entry) → AllZip Knows ms es → AllByRecursion IsEntry es × (map line_of es ≡ ms)
known_texts [] [] h = (tt, refl)
known_texts [] (e ∷ es) h = absurd h
known_texts (m ∷ ms) [] h = absurd h
known_texts (m ∷ ms) (e ∷ es) h =
    let r = known_texts ms es h.1 in
    ((h.0.some.0, r.0), rw (← h.0.some.1, r.1) refl)

pub same_entries : (ms : List (List ℕ)) (es fs : List Entry) → AllZip Knows ms es → AllByRecursion IsEntry fs → map line_of fs ≡ ms → fs ≡ es
same_entries [] [] [] h each e = refl
same_entries [] [] (f ∷ fs) h each e = absurd cc
same_entries [] (x ∷ es) fs h each e = absurd h
same_entries (m ∷ ms) [] fs h each e = absurd h
same_entries (m ∷ ms) (x ∷ es) [] h each e = absurd cc
same_entries (m ∷ ms) (x ∷ es) (f ∷ fs) h each e =
    let first : line_of f ≡ m = cc in
    let others : map line_of fs ≡ ms = cc in
    let one : Some x ≡ Some f = h.0.only f each.0 (sym first) in
    let same : x ≡ f = cc in
    rw (same, same_entries ms es fs h.1 each.1 others) refl

meaningful_at : (before : List (List ℕ)) (line : List ℕ) (after : List (List ℕ)) → is_blank line ≡ false → meaningful (before ++ line ∷ after) ≡ meaningful before ++ line ∷ meaningful after
meaningful_at before line after meant = filter-append (λ l. not (is_blank l)) before (line ∷ after) ∙ rw meant refl

-- where a line is bad after these entries, the lines are no file
never : (before : List (List ℕ)) (line : List ℕ) (after : List (List ℕ)) (es fs : List Entry) (state end : State) → AllZip Knows (meaningful before) es → Chain start es state → is_blank line ≡ false → Bad state line → AreEntries (before ++ line ∷ after) fs → Chain start fs end → ⊥
never before line after es fs state end known chain meant bad are others =
    let m = map_parts line_of fs (meaningful before) (line ∷ meaningful after) (are.texts ∙ meaningful_at before line after meant) in
    let each = each_parts IsEntry m.front m.back (subst (λ (w : List Entry). AllByRecursion IsEntry w) m.parts are.each) in
    let same = same_entries (meaningful before) es m.front known each.0 m.is_front in
    go m.front m.back same each.1 m.is_back (subst (λ (w : List Entry). Chain start w end) m.parts others)
  where
    go : (front back : List Entry) → front ≡ es → AllByRecursion IsEntry back → map line_of back ≡ line ∷ meaningful after → Chain start (front ++ back) end → ⊥
    go front [] same each e other = absurd cc
    go front (b ∷ back) same each e other =
        let first : line_of b ≡ line = cc in
        let r = chain_at start front b back end other in
        let here : r.0 ≡ state = chain_same start es r.0 state (subst (λ (w : List Entry). Chain start w r.0) same r.1) chain in
        bad b each.0 (sym first) (subst (λ (s : State). MayStand s b) here r.2)

-- nor are they lines that were read
never_read : (before : List (List ℕ)) (line : List ℕ) (after : List (List ℕ)) (es fs : List Entry) (state end : State) → AreEntries before es → Chain start es state → is_blank line ≡ false → Bad state line → AllZip Knows (meaningful (before ++ line ∷ after)) fs → Chain start fs end → ⊥
never_read before line after es fs state end are chain meant bad known others =
    let m = zip_parts Knows (meaningful before) (line ∷ meaningful after) fs (subst (λ (w : List (List ℕ)). AllZip Knows w fs) (meaningful_at before line after meant) known) in
    let same = same_entries (meaningful before) m.front es m.is_front are.each are.texts in
    go m.front m.back same m.is_back (subst (λ (w : List Entry). Chain start w end) m.parts others)
  where
    go : (front back : List Entry) → es ≡ front → AllZip Knows (line ∷ meaningful after) back → Chain start (front ++ back) end → ⊥
    go front [] same h other = absurd h
    go front (b ∷ back) same h other =
        let r = chain_at start front b back end other in
        let here : r.0 ≡ state = chain_same start front r.0 state r.1 (subst (λ (w : List Entry). Chain start w state) same chain) in
        bad b h.0.some.0 h.0.some.1 (subst (λ (s : State). MayStand s b) here r.2)

-- ---- how far reading has come

-- so many lines are read, they are these entries, which lead to this state, and the reader holds it
pub record Progress (lines left : List (List ℕ)) (number : ℕ) (reader : ReaderState) : Type 0 where
  pub before : List (List ℕ)
  pub es : List Entry
  pub state : State
  pub parts : lines ≡ before ++ left
  pub count : number ≡ length before
  pub known : AllZip Knows (meaningful before) es
  pub chain : Chain start es state
  pub holds : Holds reader state

pub begins : (lines : List (List ℕ)) (reader : ReaderState) → Holds reader start → Progress lines lines 0 reader
begins lines reader holds = record { before = []; es = []; state = start; parts = refl; count = refl; known = tt; chain = refl; holds = holds }

one_on : (lines before : List (List ℕ)) (line : List ℕ) (left : List (List ℕ)) → lines ≡ before ++ line ∷ left → lines ≡ (before ++ line ∷ []) ++ left
one_on lines before line left e = e ∙ sym (append_assoc before (line ∷ []) left)

pub passes : (lines : List (List ℕ)) (line : List ℕ) (left : List (List ℕ)) (number : ℕ) (reader : ReaderState) → Progress lines (line ∷ left) number reader → is_blank line ≡ true → Progress lines left (number + 1) reader
passes lines line left number reader p blank = record {
  before = p.before ++ line ∷ [];
  es = p.es;
  state = p.state;
  parts = one_on lines p.before line left p.parts;
  count = omega (arith, p.count, length-append p.before (line ∷ []));
  known = rw (filter-append (λ l. not (is_blank l)) p.before (line ∷ []), blank, append-nil (meaningful p.before)) p.known;
  chain = p.chain;
  holds = p.holds;
}

adds : (lines : List (List ℕ)) (line : List ℕ) (left : List (List ℕ)) (number : ℕ) (old new : ReaderState) → Progress lines (line ∷ left) number old → is_blank line ≡ false → (e : Entry) → Added old new line e → Progress lines left (number + 1) new
adds lines line left number old new p meant e a = record {
  before = p.before ++ line ∷ [];
  es = p.es ++ e ∷ [];
  state = state_after p.state e;
  parts = one_on lines p.before line left p.parts;
  count = omega (arith, p.count, length-append p.before (line ∷ []));
  known = rw (meaningful_at p.before line [] meant) (zip_push Knows (meaningful p.before) p.es line e p.known a.read);
  chain = chain_push start p.es p.state e p.chain (a.stands p.state p.holds);
  holds = a.holds p.state p.holds;
}

read_entries : (ms : List (List ℕ)) (lines : List (List ℕ)) (es : List Entry) → ms ≡ meaningful lines → AllZip Knows ms es → AreEntries lines es
read_entries ms lines es e known = let k = known_texts ms es known in record { each = k.0; texts = k.1 ∙ e }

ends : (bytes : List ℕ) (number : ℕ) (reader : ReaderState) → Progress (lines_of bytes) [] number reader → Answers bytes (Ok reader.file)
ends bytes number reader p =
    let whole : lines_of bytes ≡ p.before = p.parts ∙ append-nil p.before in
    let known : AllZip Knows (meaningful (lines_of bytes)) p.es = rw whole p.known in
    record {
      ok = record { es = p.es; state = p.state; written = read_entries (meaningful (lines_of bytes)) (lines_of bytes) p.es refl known; chain = p.chain; holds = p.holds.file };
      bad = tt;
      only_ok = λ fs state are chain.
          let same = same_entries (meaningful (lines_of bytes)) p.es fs known are.each are.texts in
          p.holds.file ∙ ap (λ (s : State). s.file) (chain_same start p.es p.state state p.chain (subst (λ (w : List Entry). Chain start w state) same chain));
      only_bad = λ n w. never_read w.before w.line w.after w.es p.es w.state p.state w.good w.chain w.meant w.bad (subst (λ (t : List (List ℕ)). AllZip Knows (meaningful t) p.es) w.parts known) p.chain;
    }

same_number : (bytes : List ℕ) (before : List (List ℕ)) (line : List ℕ) (after : List (List ℕ)) (es : List Entry) (state : State) (m n : ℕ) → lines_of bytes ≡ before ++ line ∷ after → m ≡ length before + 1 → AllZip Knows (meaningful before) es → Chain start es state → is_blank line ≡ false → Bad state line → (w : IsFirstBad bytes n) → Fronts before line w.before w.line → m ≡ n
same_number bytes before line after es state m n parts number known chain meant bad w (inl e) = omega (arith, e, w.number, number)
same_number bytes before line after es state m n parts number known chain meant bad w (inr (inl f)) =
    absurd (never before line f.0 es w.es state w.state known chain meant bad (subst (λ (t : List (List ℕ)). AreEntries t w.es) f.1 w.good) w.chain)
same_number bytes before line after es state m n parts number known chain meant bad w (inr (inr f)) =
    absurd (never_read w.before w.line f.0 w.es es w.state state w.good w.chain w.meant w.bad (subst (λ (t : List (List ℕ)). AllZip Knows (meaningful t) es) f.1 known) chain)

stops : (bytes line : List ℕ) (left : List (List ℕ)) (number : ℕ) (old : ReaderState) → Progress (lines_of bytes) (line ∷ left) number old → is_blank line ≡ false → AddsNothing old line → Answers bytes (Err (BadLine (number + 1)))
stops bytes line left number old p meant nothing =
    let bad : Bad p.state line = λ e fits is. nothing e fits is p.state p.holds in
    record {
      ok = tt;
      bad = record { before = p.before; line = line; after = left; es = p.es; state = p.state; parts = p.parts; number = omega (arith, p.count); good = read_entries (meaningful p.before) p.before p.es refl p.known; chain = p.chain; meant = meant; bad = bad };
      only_ok = λ fs state are chain. never p.before line left p.es fs p.state state p.known p.chain meant bad (subst (λ (t : List (List ℕ)). AreEntries t fs) p.parts are) chain;
      only_bad = λ n w. same_number bytes p.before line left p.es p.state (number + 1) n p.parts (omega (arith, p.count)) p.known p.chain meant bad w (fronts p.before line left w.before w.line w.after (sym p.parts ∙ w.parts));
    }

-- the line at which the reader looks, and those behind it
pub at_line : (bytes : List ℕ) (rest : Option (Bor (List ℕ))) (text : Bor (List ℕ)) (number : ℕ) (reader : ReaderState) → Progress (lines_of bytes) (of_text lines_of rest) number reader → rest ≡ Some text → Progress (lines_of bytes) (first_line text.now ∷ lines_behind text.now) number reader
at_line bytes rest text number reader p is = subst (λ (l : List (List ℕ)). Progress (lines_of bytes) l number reader) (ap (of_text lines_of) is ∙ lines_whole text.now) p

-- there are no more lines than bytes, and one
pub few_lines : (bytes line : List ℕ) (left : List (List ℕ)) (number : ℕ) (reader : ReaderState) → Progress (lines_of bytes) (line ∷ left) number reader → number ≤ length bytes
few_lines bytes line left number reader p =
    omega (arith, length-slice_split (λ b. eqb b 10) bytes, count_by-le-length (λ b. eqb b 10) bytes, p.count, ap (λ (l : List (List ℕ)). length l) p.parts, length-append p.before (line ∷ left))

pub fewer : (rest after : Option (Bor (List ℕ))) (text : Bor (List ℕ)) → rest ≡ Some text → of_text lines_of after ≡ lines_behind text.now → length (of_text lines_of after) < length (of_text lines_of rest)
fewer rest after text is behind = omega (arith, ap (λ (l : List (List ℕ)). length l) behind, ap (λ (l : List (List ℕ)). length l) (ap (of_text lines_of) is ∙ lines_whole text.now))

-- a line that means nothing was cut off
pub cut_lines : (text line : List ℕ) (after : Option (Bor (List ℕ))) → MatchOption after (slice_split (λ b. eqb b 10) text ≡ line ∷ []) (λ rest. (slice_split (λ b. eqb b 10) text ≡ line ∷ slice_split (λ b. eqb b 10) rest.now) × (length rest.now < length text)) → of_text lines_of after ≡ lines_behind text
cut_lines text line None h = ap others (sym h)
cut_lines text line (Some rest) h = ap others (sym h.0)

module _ (bytes : List ℕ) (rest after : Option (Bor (List ℕ))) (text : Bor (List ℕ)) (number : ℕ) (old : ReaderState) (p : Progress (lines_of bytes) (of_text lines_of rest) number old) (is : rest ≡ Some text) where
  pub passes_blank : is_blank (first_line text.now) ≡ true → of_text lines_of after ≡ lines_behind text.now → Progress (lines_of bytes) (of_text lines_of after) (number + 1) old
  passes_blank blank behind = subst (λ (l : List (List ℕ)). Progress (lines_of bytes) l (number + 1) old) (sym behind) (passes (lines_of bytes) (first_line text.now) (lines_behind text.now) number old (at_line bytes rest text number old p is) blank)

  pub takes_entry : (new : ReaderState) → is_blank (first_line text.now) ≡ false → AddsLine old new text.now (Some after) → Progress (lines_of bytes) (of_text lines_of after) (number + 1) new
  takes_entry new meant a = subst (λ (l : List (List ℕ)). Progress (lines_of bytes) l (number + 1) new) (sym a.1) (adds (lines_of bytes) (first_line text.now) (lines_behind text.now) number old new (at_line bytes rest text number old p is) meant a.0.0 a.0.1)

  pub stops_at : (new : ReaderState) → is_blank (first_line text.now) ≡ false → AddsLine old new text.now None → Answers bytes (Err (BadLine (number + 1)))
  stops_at new meant a = stops bytes (first_line text.now) (lines_behind text.now) number old (at_line bytes rest text number old p is) meant a

pub finishes : (bytes : List ℕ) (rest : Option (Bor (List ℕ))) (number : ℕ) (reader : ReaderState) → Progress (lines_of bytes) (of_text lines_of rest) number reader → rest ≡ None → Answers bytes (Ok reader.file)
finishes bytes rest number reader p is = ends bytes number reader (subst (λ (l : List (List ℕ)). Progress (lines_of bytes) l number reader) (ap (of_text lines_of) is) p)
