-- Texts that are cut at a byte, and joined by it.
use Rattle.std.proofs.Common.{Bor, ◌≡◌, ℕ, ◌+◌, ◌<◌, Bool, true, false, eqb, List, [], ◌∷◌, ◌++◌, length, get_or, take, drop, Option, Some, None, refl, sym, ap, subst, ◌∙◌, arith, add-one}
use Rattle.std.specs.Prelude.{MatchOption}
use Rattle.std.specs.List.{slice_split, list_any, onto_first, join_with_byte}
use Rattle.std.proofs.lemmas.List.{take-append-drop}
use Rattle.std.proofs.Math.Seq.{drop-cons}
use Rattle.std.proofs.lemmas.List.Splits.{slice_split-cons_yes, slice_split-cons_no, length-slice_split, join_with_byte-slice_split}
use Rattle.a64_tokens.specs.Fields.{HasNo}
use Rattle.a64_tokens.specs.SplitLaws.{neither, split_none, split_at}
use Rattle.a64_tokens.specs.Splitting.{lines_of, first, others, first_line, line_tokens, lines_behind, IsCut}

-- a text in two parts, at a byte
parts_at : (c i : ℕ) (text : List ℕ) → i < length text → get_or text i 0 ≡ c → text ≡ take i text ++ (c ∷ drop (i + 1) text)
parts_at c i text lt e = sym (take-append-drop i text) ∙ ap (λ (t : List ℕ). take i text ++ t) (drop-cons text i 0 lt ∙ rw (e, add-one) refl)

pub cut_at : (c i : ℕ) (text : List ℕ) → i < length text → get_or text i 0 ≡ c → HasNo c (take i text) → slice_split (λ b. eqb b c) text ≡ take i text ∷ slice_split (λ b. eqb b c) (drop (i + 1) text)
cut_at c i text lt e h =
    ap (λ (t : List ℕ). slice_split (λ b. eqb b c) t) (parts_at c i text lt e) ∙ split_at c (take i text) (drop (i + 1) text) h

-- a text has a part at least
pub parts_left : (c : ℕ) (text : List ℕ) → 0 < length (slice_split (λ b. eqb b c) text)
parts_left c text = omega (arith, length-slice_split (λ b. eqb b c) text)

-- ---- the first part has no separator

pub heads : {A : Type 0} (a b : A) (xs ys : List A) → a ∷ xs ≡ b ∷ ys → (a ≡ b) × (xs ≡ ys)
heads a b xs ys e = (cc, cc)

module _ (c : ℕ) where
  abbrev pub split : List ℕ → List (List ℕ)
  split text = slice_split (λ b. eqb b c) text

  next_plain : (b : ℕ) (w name : List ℕ) (ws : List (List ℕ)) → ((v : List ℕ) (vs : List (List ℕ)) → split w ≡ v ∷ vs → HasNo c v) → split (b ∷ w) ≡ name ∷ ws → (test : Bool) → eqb b c ≡ test → (vs : List (List ℕ)) → split w ≡ vs → HasNo c name
  next_plain b w name ws plain e true is vs s = subst (λ (u : List ℕ). HasNo c u) (heads [] name (split w) ws (sym (slice_split-cons_yes (λ x. eqb x c) b w is) ∙ e)).0 refl
  next_plain b w name ws plain e false is [] s = absurd (omega (arith, parts_left c w, ap (λ (u : List (List ℕ)). length u) s))
  next_plain b w name ws plain e false is (v ∷ vs) s =
      let both = heads (b ∷ v) name vs ws (sym (slice_split-cons_no (λ x. eqb x c) b w is ∙ ap (λ (u : List (List ℕ)). onto_first b u) s) ∙ e) in
      subst (λ (u : List ℕ). HasNo c u) both.0 (rw (is, plain v vs s) refl)

  pub first_plain : (w name : List ℕ) (ws : List (List ℕ)) → split w ≡ name ∷ ws → HasNo c name
  first_plain [] name ws e = subst (λ (t : List ℕ). HasNo c t) (heads [] name [] ws e).0 refl
  first_plain (b ∷ w) name ws e = next_plain b w name ws (λ v vs s. first_plain w v vs s) e (eqb b c) refl (split w) refl

-- ---- what is cut off at the first separator, where there is one

abbrev pub IsFront : ℕ → List ℕ → List ℕ → Option (Bor (List ℕ)) → Type 0
IsFront c text front more = MatchOption more (split c text ≡ front ∷ []) (λ rest. (split c text ≡ front ∷ split c rest.now) × (length rest.now < length text))

-- and what stands behind it
pub behind : (c : ℕ) (text front : List ℕ) (more : Option (Bor (List ℕ))) (rest : Bor (List ℕ)) → more ≡ Some rest → IsFront c text front more → split c text ≡ front ∷ split c rest.now
behind c text front None rest is cut = absurd cc
behind c text front (Some other) rest is cut = let same : other ≡ rest = cc in cut.0 ∙ ap (λ (t : Bor (List ℕ)). front ∷ split c t.now) same

-- ---- lines and tokens of a text

whole : (ts : List (List ℕ)) → 0 < length ts → ts ≡ first ts ∷ others ts
whole [] h = absurd (omega (arith, h))
whole (t ∷ ts) h = refl

-- what has no separator stands in front of the first part
pub front_split : (c : ℕ) (xs ys : List ℕ) → HasNo c xs → slice_split (λ b. eqb b c) (xs ++ ys) ≡ (xs ++ first (slice_split (λ b. eqb b c) ys)) ∷ others (slice_split (λ b. eqb b c) ys)
front_split c [] ys h = whole (slice_split (λ b. eqb b c) ys) (parts_left c ys)
front_split c (x ∷ xs) ys h =
    let n = neither (eqb x c) (list_any (λ b. eqb b c) xs) h in
    slice_split-cons_no (λ b. eqb b c) x (xs ++ ys) n.0 ∙ ap (λ (ts : List (List ℕ)). onto_first x ts) (front_split c xs ys n.1)

-- the first line, and those behind it
pub lines_whole : (text : List ℕ) → lines_of text ≡ first_line text ∷ lines_behind text
lines_whole text = whole (lines_of text) (parts_left 10 text)

module _ (i : ℕ) (text : List ℕ) (no_space : HasNo 32 (take i text)) (no_feed : HasNo 10 (take i text)) where
  pub at_space : (rest : Bor (List ℕ)) → i < length text → get_or text i 0 ≡ 32 → rest.now ≡ drop (i + 1) text → IsCut line_tokens lines_behind text (take i text) (Some rest) None
  at_space rest lt e is =
      let front = take i text in
      let feeds = front_split 10 (32 ∷ []) (drop (i + 1) text) refl in
      let lines : lines_of text ≡ (front ++ 32 ∷ first_line (drop (i + 1) text)) ∷ lines_behind (drop (i + 1) text) =
      ap lines_of (parts_at 32 i text lt e) ∙ front_split 10 front (32 ∷ drop (i + 1) text) no_feed ∙ ap (λ (ts : List (List ℕ)). (front ++ first ts) ∷ others ts) feeds in
      record {
        token_first = ap (λ (ts : List (List ℕ)). slice_split (λ b. eqb b 32) (first ts)) lines ∙ split_at 32 front (first_line (drop (i + 1) text)) no_space ∙ ap (λ (t : List ℕ). front ∷ line_tokens t) (sym is);
        same_lines = ap others lines ∙ ap lines_behind (sym is);
      }

  pub at_feed : (rest : Bor (List ℕ)) → i < length text → get_or text i 0 ≡ 10 → rest.now ≡ drop (i + 1) text → IsCut line_tokens lines_behind text (take i text) None (Some rest)
  at_feed rest lt e is =
      let lines = cut_at 10 i text lt e no_feed in
      record {
        token_first = ap (λ (ts : List (List ℕ)). slice_split (λ b. eqb b 32) (first ts)) lines ∙ split_none 32 (take i text) no_space;
        same_lines = ap others lines ∙ ap lines_of (sym is);
      }

pub at_end : (text : List ℕ) → HasNo 32 text → HasNo 10 text → IsCut line_tokens lines_behind text text None None
at_end text no_space no_feed =
    let lines = split_none 10 text no_feed in
    record {
      token_first = ap (λ (ts : List (List ℕ)). slice_split (λ b. eqb b 32) (first ts)) lines ∙ split_none 32 text no_space;
      same_lines = ap others lines;
    }

-- a text is its parts, joined
pub joined_some : (c : ℕ) (token : List ℕ) (tokens : List (List ℕ)) → slice_split (λ b. eqb b c) token ≡ tokens → token ≡ join_with_byte c tokens
joined_some c token tokens e = sym (join_with_byte-slice_split c token) ∙ ap (λ (t : List (List ℕ)). join_with_byte c t) e
