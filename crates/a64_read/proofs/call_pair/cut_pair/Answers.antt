use Rattle.a64_read.proofs.CommaPairs.{last_alone, pair_first, pair_size, some_more}
use Rattle.a64_read.proofs.call_pair.cut_pair.Goals as goal

pub returns-in_default : goal.returns-in_default
returns-in_default c = last_alone c.args.text.now c.cut_comma.result.0.now c.cut_comma.result.1 c.in_default.is c.cut_comma.ensures

pub slice_bounds-result-end : goal.slice_bounds-result-end
slice_bounds-result-end c =
    let front = c.cut_comma.result.0.now in
    pair_size c.args.text.now front c.in-Some.more.now c.cut_comma-2.result.0.now c.cut_comma-2.result.1
    (some_more c.args.text.now front c.cut_comma.result.1 c.in-Some.more c.in-Some.is c.cut_comma.ensures) c.cut_comma-2.ensures

pub returns : goal.returns
returns c =
    let front = c.cut_comma.result.0.now in
    pair_first c.args.text.now front c.in-Some.more.now c.cut_comma-2.result.0.now c.cut_comma-2.result.1
    (some_more c.args.text.now front c.cut_comma.result.1 c.in-Some.more c.in-Some.is c.cut_comma.ensures) c.cut_comma-2.ensures
