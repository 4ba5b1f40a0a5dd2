use Rattle.std.proofs.Common.{◌∙◌, arith}
use Rattle.a64_enc_vec.proofs.RawRows.{vec_elem, fp_three, fp_two, fp_select, vec_three, vec_long3, vec_dot, vec_ext, vec_permute, vec_table}
use Rattle.a64_enc_vec.proofs.raw_bits.pack_vec_rrr.Goals as goal

pub returns-in-15 : goal.returns-in-15
returns-in-15 c = c.vec_elem_word.ensures ∙ (vec_elem c.args.top c.args.low c.args.rd c.args.rn c.args.rm c.requires.below c.requires.form c.in-15.is).1

pub fp_three_word-requires : goal.fp_three_word-requires
fp_three_word-requires c = (fp_three c.args.top c.args.low c.args.rd c.args.rn c.args.rm c.requires.below c.requires.form c.in-31.is).0

pub returns-in-31 : goal.returns-in-31
returns-in-31 c = c.fp_three_word.ensures ∙ (fp_three c.args.top c.args.low c.args.rd c.args.rn c.args.rm c.requires.below c.requires.form c.in-31.is).1

pub fp_two_word-requires : goal.fp_two_word-requires
fp_two_word-requires c = (fp_two c.args.top c.args.low c.args.rd c.args.rn c.args.rm c.requires.below c.requires.form c.in-30.is c.if-low-eq0.true).0

pub returns-then-low-eq0 : goal.returns-then-low-eq0
returns-then-low-eq0 c = c.fp_two_word.ensures ∙ (fp_two c.args.top c.args.low c.args.rd c.args.rn c.args.rm c.requires.below c.requires.form c.in-30.is c.if-low-eq0.true).1

pub fp_select_word-requires : goal.fp_select_word-requires
fp_select_word-requires c = (fp_select c.args.top c.args.low c.args.rd c.args.rn c.args.rm c.requires.below c.requires.form c.in-30.is (omega arith)).0

pub returns-else-low-eq0 : goal.returns-else-low-eq0
returns-else-low-eq0 c = c.fp_select_word.ensures ∙ (fp_select c.args.top c.args.low c.args.rd c.args.rn c.args.rm c.requires.below c.requires.form c.in-30.is (omega arith)).1

pub returns-then-low-eq1 : goal.returns-then-low-eq1
returns-then-low-eq1 c = c.vec_three_word.ensures ∙ (vec_three c.args.top c.args.low c.args.rd c.args.rn c.args.rm c.requires.below c.requires.form (omega arith, omega arith, omega arith) c.if-top-eq1.true c.if-low-eq1.true).1

pub returns-else-low-eq1 : goal.returns-else-low-eq1
returns-else-low-eq1 c = c.vec_long3_word.ensures ∙ (vec_long3 c.args.top c.args.low c.args.rd c.args.rn c.args.rm c.requires.below c.requires.form (omega arith, omega arith, omega arith) c.if-top-eq1.true (omega arith)).1

pub returns-then-low-eq1-2 : goal.returns-then-low-eq1-2
returns-then-low-eq1-2 c = c.vec_dot_word.ensures ∙ (vec_dot c.args.top c.args.low c.args.rd c.args.rn c.args.rm c.requires.below c.requires.form (omega arith, omega arith, omega arith) (omega arith) c.if-low-eq1-2.true).1

pub returns-then-u-eq1 : goal.returns-then-u-eq1
returns-then-u-eq1 c = c.vec_ext_word.ensures ∙ (vec_ext c.args.top c.args.low c.args.rd c.args.rn c.args.rm c.requires.below c.requires.form (omega arith, omega arith, omega arith) (omega arith, omega arith) c.if-u-eq1.true).1

pub vec_permute_word-requires : goal.vec_permute_word-requires
vec_permute_word-requires c = (vec_permute c.args.top c.args.low c.args.rd c.args.rn c.args.rm c.requires.below c.requires.form (omega arith, omega arith, omega arith) (omega arith, omega arith) (omega arith) c.if-low-eq1-3.true).0

pub returns-then-low-eq1-3 : goal.returns-then-low-eq1-3
returns-then-low-eq1-3 c = c.vec_permute_word.ensures ∙ (vec_permute c.args.top c.args.low c.args.rd c.args.rn c.args.rm c.requires.below c.requires.form (omega arith, omega arith, omega arith) (omega arith, omega arith) (omega arith) c.if-low-eq1-3.true).1

pub vec_table_word-requires : goal.vec_table_word-requires
vec_table_word-requires c = (vec_table c.args.top c.args.low c.args.rd c.args.rn c.args.rm c.requires.below c.requires.form (omega arith, omega arith, omega arith) (omega arith, omega arith) (omega arith) (omega arith)).0

pub returns-else-low-eq1-3 : goal.returns-else-low-eq1-3
returns-else-low-eq1-3 c = c.vec_table_word.ensures ∙ (vec_table c.args.top c.args.low c.args.rd c.args.rn c.args.rm c.requires.below c.requires.form (omega arith, omega arith, omega arith) (omega arith, omega arith) (omega arith) (omega arith)).1
