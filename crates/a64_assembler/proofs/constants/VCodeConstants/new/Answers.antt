use Rattle.std.proofs.Common.{ℕ, List, ap, ◌∙◌, nat_cmp}
use Rattle.std.specs.FinMap.{FinMap, get, get-empty}
use Rattle.a64_assembler.proofs.constants.VCodeConstants.new.Goals as goal

pub invariant_of-result : goal.invariant_of-result
invariant_of-result c = λ k l. ap (λ (m : FinMap nat_cmp (List ℕ)). get m k) c.new.ensures ∙ get-empty nat_cmp k
