-- The fields of the words of loads and stores of one register, each by itself.
use Rattle.std.specs.Prelude.{ℕ}
use Rattle.a64_ops.specs.declared.access.AccessOp.{AccessOp}
use Rattle.a64_ops.specs.Accesses.{fields_of}

abbrev pub size_of : AccessOp → ℕ
size_of op = (fields_of op).size

abbrev pub vector_of : AccessOp → ℕ
vector_of op = (fields_of op).vector

abbrev pub opc_of : AccessOp → ℕ
opc_of op = (fields_of op).opc
