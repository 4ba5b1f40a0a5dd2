use Rattle.std.proofs.Common.{◌∙◌, arith}
use Rattle.a64_enc_int.proofs.RawRows.{logic_reg, add_sub_reg, add_sub_ext, extraction, mul_add_raw, mul_add_long_raw, mul_high, add_sub_carry, cond_select, data_proc2}
use Rattle.a64_enc_int.proofs.arith.pack_rrr.Goals as goal

pub logic_reg_word-requires : goal.logic_reg_word-requires
logic_reg_word-requires c = (logic_reg c.args.top c.args.low c.args.rd c.args.rn c.args.rm c.requires.below c.requires.form c.in-10.is).0

pub returns-in-10 : goal.returns-in-10
returns-in-10 c = c.logic_reg_word.ensures ∙ (logic_reg c.args.top c.args.low c.args.rd c.args.rn c.args.rm c.requires.below c.requires.form c.in-10.is).1

pub add_sub_reg_word-requires : goal.add_sub_reg_word-requires
add_sub_reg_word-requires c = (add_sub_reg c.args.top c.args.low c.args.rd c.args.rn c.args.rm c.requires.below c.requires.form c.in-11.is c.if-top-eq0.true).0

pub returns-then-top-eq0 : goal.returns-then-top-eq0
returns-then-top-eq0 c = c.add_sub_reg_word.ensures ∙ (add_sub_reg c.args.top c.args.low c.args.rd c.args.rn c.args.rm c.requires.below c.requires.form c.in-11.is c.if-top-eq0.true).1

pub returns-else-top-eq0 : goal.returns-else-top-eq0
returns-else-top-eq0 c = c.add_sub_ext_word.ensures ∙ (add_sub_ext c.args.top c.args.low c.args.rd c.args.rn c.args.rm c.requires.below c.requires.form c.in-11.is (omega arith)).1

pub extract_word-requires : goal.extract_word-requires
extract_word-requires c = (extraction c.args.top c.args.low c.args.rd c.args.rn c.args.rm c.requires.below c.requires.form c.in-19.is).0

pub returns-in-19 : goal.returns-in-19
returns-in-19 c = c.extract_word.ensures ∙ (extraction c.args.top c.args.low c.args.rd c.args.rn c.args.rm c.requires.below c.requires.form c.in-19.is).1

pub returns-in-0 : goal.returns-in-0
returns-in-0 c = c.mul_add_word.ensures ∙ (mul_add_raw c.args.top c.args.low c.args.rd c.args.rn c.args.rm c.requires.below c.requires.form c.in-27.is c.in-0.is).1

pub returns-in-1 : goal.returns-in-1
returns-in-1 c = c.mul_add_long_word.ensures ∙ (mul_add_long_raw c.args.top c.args.low c.args.rd c.args.rn c.args.rm c.requires.below c.requires.form c.in-27.is c.in-1.is).1

pub returns-in_default-2 : goal.returns-in_default-2
returns-in_default-2 c = c.mul_high_word.ensures ∙ (mul_high c.args.top c.args.low c.args.rd c.args.rn c.args.rm c.requires.below c.requires.form c.in-27.is (omega arith) (omega arith)).1

pub returns-in-0-2 : goal.returns-in-0-2
returns-in-0-2 c = c.add_sub_carry_word.ensures ∙ (add_sub_carry c.args.top c.args.low c.args.rd c.args.rn c.args.rm c.requires.below c.requires.form (omega arith, omega arith, omega arith, omega arith) c.in-0-2.is).1

pub returns-in-4 : goal.returns-in-4
returns-in-4 c = c.cond_select_word.ensures ∙ (cond_select c.args.top c.args.low c.args.rd c.args.rn c.args.rm c.requires.below c.requires.form (omega arith, omega arith, omega arith, omega arith) c.in-4.is).1

pub data_proc2_word-requires : goal.data_proc2_word-requires
data_proc2_word-requires c = (data_proc2 c.args.top c.args.low c.args.rd c.args.rn c.args.rm c.requires.below c.requires.form (omega arith, omega arith, omega arith, omega arith) (omega arith) (omega arith)).0

pub returns-in_default-3 : goal.returns-in_default-3
returns-in_default-3 c = c.data_proc2_word.ensures ∙ (data_proc2 c.args.top c.args.low c.args.rd c.args.rn c.args.rm c.requires.below c.requires.form (omega arith, omega arith, omega arith, omega arith) (omega arith) (omega arith)).1
