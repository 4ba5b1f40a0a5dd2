use Rattle.std.proofs.Common.{List, inr, sym, subst}
use Rattle.std.specs.Prelude.{All}
use Rattle.a64_plan.specs.declared.step.ConstStep.{ConstStep}
use Rattle.a64_cells.specs.Words.{CanStep}
use Rattle.a64_cells.proofs.Accesses.{can_steps}
use Rattle.a64_cells.proofs.Operands.{register_zero}
use Rattle.a64_cells.proofs.SequenceOperands.{table_parts}
use Rattle.a64_cells.proofs.word.sequence.table_words.Goals as goal

pub step_words-steps-requires-clause-steps : goal.step_words-steps-requires-clause-steps
step_words-steps-requires-clause-steps c =
    subst (λ (plan : List ConstStep). All CanStep plan) (sym c.as_slice.ensures.value)
    (can_steps c.const_plan-plan.result.items (inr c.const_plan-plan.ensures.shape))

pub step_words-steps-requires-clause-rd : goal.step_words-steps-requires-clause-rd
step_words-steps-requires-clause-rd c = register_zero c.args.rtmp2 (table_parts c.args.ridx c.args.rtmp1 c.args.rtmp2 c.requires).second

pub choice_word-requires-clause-ridx : goal.choice_word-requires-clause-ridx
choice_word-requires-clause-ridx c = (table_parts c.args.ridx c.args.rtmp1 c.args.rtmp2 c.requires).index

pub choice_word-requires-clause-rtmp2 : goal.choice_word-requires-clause-rtmp2
choice_word-requires-clause-rtmp2 c = (table_parts c.args.ridx c.args.rtmp1 c.args.rtmp2 c.requires).second

pub push_jump-requires-clause-rtmp1 : goal.push_jump-requires-clause-rtmp1
push_jump-requires-clause-rtmp1 c = (table_parts c.args.ridx c.args.rtmp1 c.args.rtmp2 c.requires).first

pub push_jump-requires-clause-rtmp2 : goal.push_jump-requires-clause-rtmp2
push_jump-requires-clause-rtmp2 c = (table_parts c.args.ridx c.args.rtmp1 c.args.rtmp2 c.requires).second
