use Rattle.std.proofs.Common.{◌≡◌, ◌++◌, ◌∙◌, ap, List}
use Rattle.a64_role.specs.declared.role.Role.{Role}
use Rattle.a64_roles.specs.Roles.{roles_of}
use Rattle.a64_role_lines.proofs.listing.push_item.Goals as goal

pub returns-in_ok-get_operands-in-Emit : goal.returns-in_ok-get_operands-in-Emit
returns-in_ok-get_operands-in-Emit c =
    let told : c.roles.result.now ≡ roles_of c.in-Emit.inst = c.roles.ensures ∙ c.in_ok-get_operands-in-Emit.ensures.ok ∙ ap (λ (l : List Role). l ++ roles_of c.in-Emit.inst) c.clear.ensures.roles in
    rw c.in-Emit.is (rw told at c.push_line.ensures)
