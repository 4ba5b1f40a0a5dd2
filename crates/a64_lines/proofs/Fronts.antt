-- Lines that begin with one of some words.
use Rattle.std.proofs.Common.{◌≡◌, ℕ, zero, suc, ◌<◌, Bool, true, false, Bor, List, [], ◌∷◌, ◌++◌, length, map, take, drop, get_or, eqb, refl, sym, ap, subst, ◌∙◌, arith}
use Rattle.std.specs.Bool.{Decides}
use Rattle.std.specs.List.{AllByRecursion, list_any, starts_with}
use Rattle.std.specs.Prelude.{◌||◌}
use Rattle.std.specs.Cmp.Lexicographic.{bytes_decides}
use Rattle.std.proofs.Math.Seq.{take-append_seam}
use Rattle.std.proofs.lemmas.List.{take-append-drop}
use Rattle.a64_lines.specs.Entries.{BeginsWith}

abbrev Begins : List ℕ → List ℕ → Type 0
Begins line word = (rest : List ℕ) × (line ≡ word ++ rest)

begins : (line word : List ℕ) → Decides (starts_with eqb line word) (Begins line word)
begins line word = (
  λ t. (drop (length word) line, sym (take-append-drop (length word) line) ∙ ap (λ (u : List ℕ). u ++ drop (length word) line) (sym ((bytes_decides word (take (length word) line)).0 t))),
  λ w. (bytes_decides word (take (length word) line)).1 (sym (ap (take (length word)) w.1 ∙ take-append_seam word w.0)),
)

later : (line word : List ℕ) (words : List (List ℕ)) → (Begins line word → ⊥) → (x : List ℕ) (k : ℕ) → k < length (word ∷ words) → get_or (word ∷ words) k x ≡ x → Begins line x → BeginsWith line words
later line word words other x zero lt at b = absurd (other (subst (Begins line) (sym at) b))
later line word words other x (suc k) lt at b = (x, (k, omega arith, at), b)

-- the test of each word decides whether the line begins with one
pub begins_any : (line : List ℕ) (words : List (Bor (List ℕ))) → Decides (list_any (λ w. starts_with eqb line w.now) words) (BeginsWith line (map (λ w. w.now) words))
begins_any line [] = (λ t. absurd cc, λ w. absurd (omega (arith, w.1.1)))
begins_any line (word ∷ words) = each (starts_with eqb line word.now) (list_any (λ w. starts_with eqb line w.now) words) (begins line word.now) (begins_any line words)
  where
    each : (a b : Bool) → Decides a (Begins line word.now) → Decides b (BeginsWith line (map (λ w. w.now) words)) → Decides (a || b) (BeginsWith line (map (λ w. w.now) (word ∷ words)))
    each true b one more = (λ _. (word.now, (0, omega arith, refl), one.0 refl), λ _. refl)
    each false b one more = (
      λ t. (let w = more.0 t in (w.0, (suc w.1.0, (let lt = w.1.1 in omega arith), w.1.2), w.2)),
      λ w. more.1 (later line word.now (map (λ v. v.now) words) (λ b. let e = one.1 b in absurd cc) w.0 w.1.0 w.1.1 w.1.2 w.2),
    )

-- a line that begins with one of these words begins with a byte with which one of them begins
pub other_front : (tells : ℕ → Bool) (line : List ℕ) (words : List (List ℕ)) → AllByRecursion (λ word. (rest : List ℕ) → tells (get_or (word ++ rest) 0 0) ≡ false) words
    → BeginsWith line words → tells (get_or line 0 0) ≡ false
other_front tells line words are (word, (k, within, at), (rest, is)) = ap (λ (l : List ℕ). tells (get_or l 0 0)) is ∙ each words are k within at
  where
    each : (ws : List (List ℕ)) → AllByRecursion (λ w. (r : List ℕ) → tells (get_or (w ++ r) 0 0) ≡ false) ws → (i : ℕ) → i < length ws → get_or ws i word ≡ word → tells (get_or (word ++ rest) 0 0) ≡ false
    each [] all i lt e = absurd (omega arith)
    each (w ∷ ws) all zero lt e = ap (λ (v : List ℕ). tells (get_or (v ++ rest) 0 0)) (sym e) ∙ all.0 rest
    each (w ∷ ws) all (suc i) lt e = each ws all.1 i (omega arith) e
