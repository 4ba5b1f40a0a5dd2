use Rattle.std.proofs.Common.{◌≡◌, ◌++◌}
use Rattle.std.specs.String.{string_bytes}
use Rattle.a64_read.specs.Clobbers.{clobbers_text}
use Rattle.a64_role_lines.proofs.Members.{members_left}
use Rattle.a64_role_lines.proofs.register.push_clobbers.Given as goal

-- the members that are left make the text whole
abbrev pub invariant-loop-place : goal.invariant-loop-place
invariant-loop-place l =
    string_bytes l.out ++ members_left l.is_first l.set l.place ≡ string_bytes l.fn.out ++ clobbers_text l.set
