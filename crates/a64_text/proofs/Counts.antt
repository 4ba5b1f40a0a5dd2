-- How many items a file has.
use Rattle.std.proofs.Common.{◌≡◌, ℕ, ◌+◌, ◌≤◌, List, [], ◌∷◌, length, sym, ap, ◌∙◌, arith, not, ◌==◌}
use Rattle.std.proofs.lemmas.List.{length-map, length-append}
use Rattle.std.proofs.lemmas.List.Sums.{length-filter, count_by-le-length}
use Rattle.std.proofs.lemmas.List.Splits.{length-slice_split}
use Rattle.a64_text.specs.declared.entry.Entry.{Entry}
use Rattle.a64_text.specs.declared.entry.Entry.TheVariants as entries
use Rattle.a64_text.specs.declared.file.File.{File}
use Rattle.a64_text.specs.FileText.{IsFile, meaningful}
use Rattle.a64_tokens.specs.Splitting.{is_blank, lines_of}
use Rattle.a64_text.specs.States.{Contents, State, start, said, state_after, Chain}
use Rattle.a64_text.specs.Tokens.{line_of}

-- an entry is one item at most
said_few : (e : Entry) (file : Contents) → length (said e file).items ≤ length file.items + 1
said_few (entries.Item item) file = omega (arith, length-append file.items (item ∷ []))
said_few (entries.Constant addr bytes) file = omega arith
said_few (entries.Frame field bytes) file = omega arith
said_few (entries.Flag flag) file = omega arith
said_few (entries.Restore inst) file = omega arith

chain_few : (old : State) (es : List Entry) (new : State) → Chain old es new → length new.file.items ≤ length old.file.items + length es
chain_few old [] new h = omega (arith, ap (λ (s : State). length s.file.items) h)
chain_few old (e ∷ es) new h = omega (arith, said_few e old.file, chain_few (state_after old e) es new h.1)

-- a file has no more items than lines
pub items_few : (bytes : List ℕ) (file : File) → IsFile bytes file → length file.items.items ≤ length bytes + 1
items_few bytes file f =
    let items : length file.items.items ≡ length f.state.file.items = ap (λ (c : Contents). length c.items) f.holds in
    let entries = chain_few start f.es f.state f.chain in
    let lines : length f.es ≡ length (meaningful (lines_of bytes)) = sym (length-map f.es line_of) ∙ ap length f.written.texts in
    let kept = length-filter (λ line. not (is_blank line)) (lines_of bytes) in
    let fewer = count_by-le-length (λ line. not (is_blank line)) (lines_of bytes) in
    let cuts = length-slice_split (λ b. b == 10) bytes in
    let breaks = count_by-le-length (λ b. b == 10) bytes in
    omega arith
