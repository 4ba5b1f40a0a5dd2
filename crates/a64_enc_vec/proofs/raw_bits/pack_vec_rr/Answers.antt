use Rattle.std.proofs.Common.{◌∙◌, arith}
use Rattle.a64_enc_vec.proofs.RawRows.{vec_shift, scalar_shift, scalar_copy, fp_one, vec_scalar_pair, vec_ins_elem, vec_two, vec_across}
use Rattle.a64_enc_vec.proofs.raw_bits.pack_vec_rr.Goals as goal

pub vec_shift_word-requires : goal.vec_shift_word-requires
vec_shift_word-requires c = (vec_shift c.args.top c.args.rd c.args.rn c.requires.below c.requires.form c.in-15.is).0

pub returns-in-15 : goal.returns-in-15
returns-in-15 c = c.vec_shift_word.ensures ∙ (vec_shift c.args.top c.args.rd c.args.rn c.requires.below c.requires.form c.in-15.is).1

pub scalar_shift_word-requires : goal.scalar_shift_word-requires
scalar_shift_word-requires c = (scalar_shift c.args.top c.args.rd c.args.rn c.requires.below c.requires.form c.in-31.is).0

pub returns-in-31 : goal.returns-in-31
returns-in-31 c = c.scalar_shift_word.ensures ∙ (scalar_shift c.args.top c.args.rd c.args.rn c.requires.below c.requires.form c.in-31.is).1

pub returns-then-top-eq0 : goal.returns-then-top-eq0
returns-then-top-eq0 c = c.scalar_copy_word.ensures ∙ (scalar_copy c.args.top c.args.rd c.args.rn c.requires.below c.requires.form c.in-30.is c.if-top-eq0.true).1

pub fp_one_word-requires : goal.fp_one_word-requires
fp_one_word-requires c = (fp_one c.args.top c.args.rd c.args.rn c.requires.below c.requires.form c.in-30.is (omega arith) c.if-q-eq0.true).0

pub returns-then-q-eq0 : goal.returns-then-q-eq0
returns-then-q-eq0 c = c.fp_one_word.ensures ∙ (fp_one c.args.top c.args.rd c.args.rn c.requires.below c.requires.form c.in-30.is (omega arith) c.if-q-eq0.true).1

pub returns-else-q-eq0 : goal.returns-else-q-eq0
returns-else-q-eq0 c = c.vec_scalar_pair_word.ensures ∙ (vec_scalar_pair c.args.top c.args.rd c.args.rn c.requires.below c.requires.form c.in-30.is (omega arith) (omega arith)).1

pub returns-then-top-eq0-2 : goal.returns-then-top-eq0-2
returns-then-top-eq0-2 c = c.vec_ins_elem_word.ensures ∙ (vec_ins_elem c.args.top c.args.rd c.args.rn c.requires.below c.requires.form (omega arith, omega arith, omega arith) c.if-top-eq0-2.true).1

pub returns-then-top-eq0-3 : goal.returns-then-top-eq0-3
returns-then-top-eq0-3 c = c.vec_two_word.ensures ∙ (vec_two c.args.top c.args.rd c.args.rn c.requires.below c.requires.form (omega arith, omega arith, omega arith) (omega arith) c.if-top-eq0-3.true).1

pub returns-else-top-eq0-3 : goal.returns-else-top-eq0-3
returns-else-top-eq0-3 c = c.vec_across_word.ensures ∙ (vec_across c.args.top c.args.rd c.args.rn c.requires.below c.requires.form (omega arith, omega arith, omega arith) (omega arith) (omega arith)).1
