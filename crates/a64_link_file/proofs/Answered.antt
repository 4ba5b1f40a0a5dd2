-- What reading answers where it fails.
use Rattle.std.proofs.Common.{◌≡◌, ℕ, List, Err, sym, subst}
use Rattle.std.specs.Prelude.{Result}
use Rattle.a64_lines.specs.declared.error.LinesError.{LinesError}
use Rattle.a64_lines.specs.declared.error.LinesError.TheVariants.{OutOfMemory}
use Rattle.a64_lines.specs.Lines.{Answers}
use Rattle.a64_link_file.specs.declared.file.LinkFile.{LinkFile}
use Rattle.a64_link_file.specs.Entries.{AnswersFile, State, nothing, says}

module _ (bytes : List ℕ) (result : Result LinkFile LinesError) where
  -- where the lines are no file
  pub no_file : (start : State) (error : LinesError) → result ≡ Err error → start ≡ nothing → Answers says bytes start (Err error) → AnswersFile bytes result
  no_file start error is begins answers =
      subst (AnswersFile bytes) (sym is) (record { state = nothing; answers = subst (λ (s : State). Answers says bytes s (Err error)) begins answers; file = tt })

  -- where memory runs out behind them
  pub no_memory : result ≡ Err OutOfMemory → AnswersFile bytes result
  no_memory is =
      subst (AnswersFile bytes) (sym is) (record {
        state = nothing;
        answers = record { ok = tt; bad = tt; only_ok = λ _ _. tt; only_bad = λ _ _. tt };
        file = tt;
      })
