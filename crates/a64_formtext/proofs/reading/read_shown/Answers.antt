use Rattle.std.proofs.Common.{◌≡◌, ℕ, List, [], Ok, Err, sym, subst}
use Rattle.std.specs.Prelude.{Result}
use Rattle.std.specs.Result.{IsErr, IsErrAnd}
use Rattle.a64_formtext.specs.declared.file.ShownFile.{ShownFile}
use Rattle.a64_formtext.specs.Shown.{says, words_of}
use Rattle.a64_formtext.proofs.OneListing.{one_listing}
use Rattle.a64_formtext.proofs.ShownLines.{listing_leads}
use Rattle.a64_lines.specs.declared.error.LinesError.{LinesError}
use Rattle.a64_lines.specs.Lines.{Gives, LeadAll, told_by}
use Rattle.a64_tokens.specs.Splitting.{lines_of}
use Rattle.a64_formtext.proofs.reading.read_shown.Goals as goal

-- an error that is handed on
handed_on : (words : List ℕ) (result : Result ShownFile LinesError) (error : LinesError) → IsErr result → IsErrAnd result (λ other. other ≡ error) → Gives says words (Err error) → Gives says words (told_by words_of result)
handed_on words (Ok file) error err same gives = absurd cc
handed_on words (Err other) error err same gives = subst (λ (e : LinesError). Gives says words (Err e)) (sym same) gives

pub returns-in_err-read_lines-clause-back : goal.returns-in_err-read_lines-clause-back
returns-in_err-read_lines-clause-back c = λ words are is.
    let leads = subst (λ (start : List ℕ). LeadAll says (lines_of c.args.bytes.now) start words) (sym c.new.ensures.items) (listing_leads words c.args.bytes.now [] are is) in
    handed_on words c.from_residual.result c.in_err-read_lines.field-0.0 c.from_residual.ensures.0 c.from_residual.ensures.1 (c.in_err-read_lines.ensures.only_ok words leads)

pub returns-clause-listing : goal.returns-clause-listing
returns-clause-listing c =
    one_listing c.args.bytes.now (words_of c.read_lines.new.lines)
    (subst (λ (start : List ℕ). LeadAll says (lines_of c.args.bytes.now) start (words_of c.read_lines.new.lines)) c.new.ensures.items c.in_ok-read_lines.ensures.ok)

pub returns-clause-back : goal.returns-clause-back
returns-clause-back c = λ words are is.
    let leads = subst (λ (start : List ℕ). LeadAll says (lines_of c.args.bytes.now) start words) (sym c.new.ensures.items) (listing_leads words c.args.bytes.now [] are is) in
    c.in_ok-read_lines.ensures.only_ok words leads
