-- What the name of a conditional branch's test makes of the fields behind it.
use Rattle.std.specs.Prelude.{List, Option, Some, ◌≡◌}
use Rattle.a64_base.specs.declared.cond.CondBrKind.{CondBrKind}
use Rattle.a64_base.specs.declared.cond.CondBrKind.TheVariants as cond_brs
use Rattle.a64_read.specs.declared.branch_name.CondBrName.{CondBrName}
use Rattle.a64_read.specs.declared.branch_name.CondBrName.TheVariants as cond_br_names
use Rattle.a64_tokens.specs.declared.value.Value.{Value}
use Rattle.a64_read.specs.At.{cond_at, reg_at, size_at}

-- the test of this name with these fields
abbrev pub cond_br_of : CondBrName → List Value → CondBrKind
cond_br_of cond_br_names.Zero values = cond_brs.Zero (reg_at values 0) (size_at values 1)
cond_br_of cond_br_names.NotZero values = cond_brs.NotZero (reg_at values 0) (size_at values 1)
cond_br_of cond_br_names.Cond values = cond_brs.Cond (cond_at values 0)

unfoldable pub MakesCondBr : CondBrName → List Value → Option CondBrKind → Type 0
MakesCondBr name values result = result ≡ Some (cond_br_of name values)
