use Rattle.std.proofs.Common.{◌≡◌, ◌++◌, drop}
use Rattle.std.specs.List.{flat_map}
use Rattle.std.specs.String.{string_bytes}
use Rattle.a64_role_lines.specs.RoleLines.{role_text}
use Rattle.a64_role_lines.specs.Words.{behind}
use Rattle.a64_role_lines.proofs.role.push_roles.Given as goal

-- the roles that are left make the text whole
abbrev pub invariant-loop-role : goal.invariant-loop-role
invariant-loop-role l =
    string_bytes l.out ++ flat_map (λ role. behind (role_text role)) (drop l.role-index l.roles)
    ≡ string_bytes l.fn.out ++ flat_map (λ role. behind (role_text role)) l.roles
