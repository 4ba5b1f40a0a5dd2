use Rattle.std.proofs.Common.{◌≡◌, ℕ, List, [], ◌++◌, refl, rules, sym, ◌∙◌, append_assoc, append-nil}
use Rattle.std.specs.List.{flat_map, enumerate_from}
use Rattle.std.proofs.lemmas.Result.{on_ok_weaker, on_err_weaker}
use Rattle.a64_report.specs.LinkLines.{unit_line, symbol_line, thunk_line, data_text}
use Rattle.a64_report.proofs.Gathering.{front_start, front_more, front_cut, all_put, puts_taken, puts_part, on_err}
use Rattle.a64_report.proofs.linked.write_linked.Goals as goal

in_order : (units symbols thunks words : List ℕ) → units ++ symbols ++ thunks ++ words ≡ units ++ (symbols ++ (thunks ++ words))
in_order units symbols thunks words = append_assoc (units ++ symbols) thunks words ∙ append_assoc units symbols (thunks ++ words)

pub returns-in_err-put_lines : goal.returns-in_err-put_lines
returns-in_err-put_lines g c =
    let units = flat_map unit_line (enumerate_from 0 c.args.starts.now) in
    let symbols = flat_map symbol_line c.args.symbols.now in
    let thunks = flat_map thunk_line c.args.thunks.now in
    let words = data_text c.args.words.now in
    let first = front_more (symbols ++ (thunks ++ words)) (front_start _ _ _ _) (rw c.requires at c.in_ok-put_units.ensures.ok) (in_order units symbols thunks words) in
    record {
      writes = record {
        all = search rules;
        part = on_err c.from_residual-in_err-put_lines.result (front_cut (thunks ++ words) first c.in_err-put_lines.ensures.err refl).part;
        steady = search rules;
        cause = search rules;
      };
    }

pub returns-in_err-put_lines-2 : goal.returns-in_err-put_lines-2
returns-in_err-put_lines-2 g c =
    let units = flat_map unit_line (enumerate_from 0 c.args.starts.now) in
    let symbols = flat_map symbol_line c.args.symbols.now in
    let thunks = flat_map thunk_line c.args.thunks.now in
    let words = data_text c.args.words.now in
    let first = front_more (symbols ++ (thunks ++ words)) (front_start _ _ _ _) (rw c.requires at c.in_ok-put_units.ensures.ok) (in_order units symbols thunks words) in
    let second = front_more (thunks ++ words) first c.in_ok-put_lines.ensures.ok refl in
    record {
      writes = record {
        all = search rules;
        part = on_err c.from_residual-in_err-put_lines-2.result (front_cut words second c.in_err-put_lines-2.ensures.err refl).part;
        steady = search rules;
        cause = search rules;
      };
    }

pub returns-in_err-put_data : goal.returns-in_err-put_data
returns-in_err-put_data g c =
    let units = flat_map unit_line (enumerate_from 0 c.args.starts.now) in
    let symbols = flat_map symbol_line c.args.symbols.now in
    let thunks = flat_map thunk_line c.args.thunks.now in
    let words = data_text c.args.words.now in
    let first = front_more (symbols ++ (thunks ++ words)) (front_start _ _ _ _) (rw c.requires at c.in_ok-put_units.ensures.ok) (in_order units symbols thunks words) in
    let second = front_more (thunks ++ words) first c.in_ok-put_lines.ensures.ok refl in
    let third = front_more words second c.in_ok-put_lines-2.ensures.ok refl in
    record {
      writes = record {
        all = search rules;
        part = on_err c.from_residual-in_err-put_data.result (front_cut [] third c.in_err-put_data.ensures.err (sym (append-nil words))).part;
        steady = search rules;
        cause = search rules;
      };
    }

pub returns : goal.returns
returns g c =
    let units = flat_map unit_line (enumerate_from 0 c.args.starts.now) in
    let symbols = flat_map symbol_line c.args.symbols.now in
    let thunks = flat_map thunk_line c.args.thunks.now in
    let words = data_text c.args.words.now in
    let first = front_more (symbols ++ (thunks ++ words)) (front_start _ _ _ _) (rw c.requires at c.in_ok-put_units.ensures.ok) (in_order units symbols thunks words) in
    let second = front_more (thunks ++ words) first c.in_ok-put_lines.ensures.ok refl in
    let third = front_more words second c.in_ok-put_lines-2.ensures.ok refl in
    let all = all_put (front_more [] third c.in_ok-put_data.ensures.ok (sym (append-nil words))) refl in
    record {
      writes = record {
        all = on_ok_weaker c.flush.result (puts_taken _ _ _ _ _ _ _ all) c.flush.ensures.writes.all;
        part = on_err_weaker c.flush.result (puts_part _ _ _ _ _ _ _ all) c.flush.ensures.writes.part;
        steady = search rules;
        cause = search rules;
      };
    }
