use Rattle.std.proofs.Common.{◌≡◌, ◌+◌, ◌<◌, ◌^◌, ◌++◌, ◌∷◌, [], List, ℕ, take, get_or, length, refl, sym, ap, ◌∙◌, append_assoc, append-nil, add-one, arith}
use Rattle.std.specs.Int.{w32, to_le_bytes}
use Rattle.std.proofs.lemmas.List.{take_all}
use Rattle.std.proofs.lemmas.Nat.{from_le_bytes-to_le_bytes_4}
use Rattle.std.proofs.Math.Seq.{take-suc}
use Rattle.a64_report.specs.Report.{words_in}
use Rattle.a64_run.proofs.code_words.bytes_of.Goals as goal

-- one word more
one_more : (bytes bytes' words : List ℕ) (i : ℕ) → i < length words → get_or words i 0 < 2 ^ 32 → bytes' ≡ bytes ++ to_le_bytes w32 (get_or words i 0)
    → ((rest : List ℕ) → words_in (bytes ++ rest) ≡ take i words ++ words_in rest) → (rest : List ℕ) → words_in (bytes' ++ rest) ≡ take (i + 1) words ++ words_in rest
one_more bytes bytes' words i within fits is so rest =
    let word = get_or words i 0 in
    ap (λ (bs : List ℕ). words_in (bs ++ rest)) is
    ∙ ap words_in (append_assoc bytes (to_le_bytes w32 word) rest)
    ∙ so (to_le_bytes w32 word ++ rest)
    ∙ ap (λ (w : ℕ). take i words ++ w ∷ words_in rest) (from_le_bytes-to_le_bytes_4 word fits)
    ∙ sym (append_assoc (take i words) (word ∷ []) (words_in rest))
    ∙ ap (λ (ws : List ℕ). ws ++ words_in rest) (sym (rw (add-one) (take-suc words i 0 within)))

pub loop-word-init : goal.loop-word-init
loop-word-init c = rw c.new-bytes.ensures.items (λ rest. refl)

pub loop-word-preserved : goal.loop-word-preserved
loop-word-preserved c =
    one_more c.loop-word.bytes.items c.extend_from_slice.new.self.items c.args.words.now c.loop-word.word-index (omega arith) (omega arith)
    (c.in_ok-extend_from_slice.ensures.items ∙ ap (λ (bs : List ℕ). c.loop-word.bytes.items ++ bs) c.to_le_bytes.ensures) c.loop-word.invariant

pub returns : goal.returns
returns c =
    ap words_in (sym (append-nil c.loop-word.bytes.items)) ∙ c.loop-word.invariant [] ∙ append-nil (take c.loop-word.word-index c.args.words.now) ∙ take_all c.loop-word.word-index c.args.words.now (omega arith)
