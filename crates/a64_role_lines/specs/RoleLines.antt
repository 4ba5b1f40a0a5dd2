-- Lines of roles: what instructions do with their registers, and what queries answer of them.
use Rattle.std.specs.Prelude.{ℕ, List, [], ◌∷◌, ◌++◌, map, codes, Option, Some, None}
use Rattle.std.specs.Fmt.{decimal}
use Rattle.std.specs.List.{enumerate_from, flat_map, join_with_byte}
use Rattle.a64_base.specs.declared.reg.Reg.{Reg}
use Rattle.a64_inst.specs.declared.inst.Inst.{Inst}
use Rattle.a64_inst.specs.declared.item.Item.{Item}
use Rattle.a64_inst.specs.declared.item.Item.TheVariants.{Bind, Emit}
use Rattle.a64_read.specs.Clobbers.{clobbers_text}
use Rattle.a64_tokens.specs.Fields.{preg_text, reg_text}
use Rattle.a64_tokens.specs.Operators.{bool_text}
use Rattle.a64_role.specs.declared.query.CallType.{CallType}
use Rattle.a64_role.specs.declared.query.CallType.TheVariants as calls
use Rattle.a64_role.specs.declared.query.MachTerminator.{MachTerminator}
use Rattle.a64_role.specs.declared.query.MachTerminator.TheVariants as terms
use Rattle.a64_role.specs.declared.role.Role.{Role}
use Rattle.a64_role.specs.declared.role.Role.TheVariants.{RegUse, RegDef, RegEarlyDef, AnyDef}
use Rattle.a64_role.specs.declared.role.Role.TheVariants.{RegReuseDef, RegFixedUse, RegFixedDef}
use Rattle.a64_role.specs.declared.role.Role.TheVariants.{RegFixedNonallocatable, RegClobbers}
use Rattle.a64_role.specs.Marks.{call_type_of, is_args, is_safepoint, is_trap, term_of}
use Rattle.a64_role.specs.Queries.{is_mem_access, move_of}
use Rattle.a64_roles.specs.Roles.{roles_of}

-- a role, with its registers as files have them
abbrev pub role_text : Role → List ℕ
role_text (RegUse reg) = codes "use(" ++ reg_text reg ++ codes ")"
role_text (RegDef reg) = codes "def(" ++ reg_text reg ++ codes ")"
role_text (RegEarlyDef reg) = codes "early(" ++ reg_text reg ++ codes ")"
role_text (AnyDef reg) = codes "any(" ++ reg_text reg ++ codes ")"
role_text (RegReuseDef reg index) =
    codes "reuse(" ++ reg_text reg ++ codes "," ++ decimal index ++ codes ")"
role_text (RegFixedUse reg preg) =
    codes "fixed_use(" ++ reg_text reg ++ codes "," ++ reg_text preg ++ codes ")"
role_text (RegFixedDef reg preg) =
    codes "fixed_def(" ++ reg_text reg ++ codes "," ++ reg_text preg ++ codes ")"
role_text (RegFixedNonallocatable preg) = codes "fixed(" ++ preg_text preg ++ codes ")"
role_text (RegClobbers set) = codes "clobbers(" ++ clobbers_text set ++ codes ")"

-- whether an instruction ends a block, and whether it calls: the names of the variants
abbrev pub term_text : MachTerminator → List ℕ
term_text terms.None = codes "None"
term_text terms.Ret = codes "Ret"
term_text terms.RetCall = codes "RetCall"
term_text terms.Branch = codes "Branch"

abbrev pub call_text : CallType → List ℕ
call_text calls.None = codes "None"
call_text calls.Regular = codes "Regular"
call_text calls.TailCall = codes "TailCall"

-- the register that a move writes, and the one that it reads
abbrev pub move_text : Option (Reg × Reg) → List ℕ
move_text None = codes "-"
move_text (Some regs) = reg_text regs.0 ++ codes "," ++ reg_text regs.1

-- where an instruction leads: whether it ends a block, whether it calls, and what it moves where
abbrev pub course_words : Inst → List (List ℕ)
course_words inst =
    (codes "term=" ++ term_text (term_of inst))
    ∷ (codes "call=" ++ call_text (call_type_of inst))
    ∷ (codes "move=" ++ move_text (move_of inst))
    ∷ []

-- what it is
abbrev pub test_words : Inst → List (List ℕ)
test_words inst =
    (codes "trap=" ++ bool_text (is_trap inst))
    ∷ (codes "args=" ++ bool_text (is_args inst))
    ∷ (codes "mem=" ++ bool_text (is_mem_access inst))
    ∷ (codes "safepoint=" ++ bool_text (is_safepoint inst))
    ∷ []

-- what each query answers of an instruction
abbrev pub query_words : Inst → List (List ℕ)
query_words inst = course_words inst ++ test_words inst

-- words with one space between, and a line feed
abbrev pub line_of_words : List (List ℕ) → List ℕ
line_of_words words = join_with_byte 32 words ++ codes "\n"

-- the line of an instruction with its number: a word for each role, and then one for each query
abbrev pub role_line : ℕ → Inst → List ℕ
role_line number inst =
    line_of_words (decimal number ∷ (map role_text (roles_of inst) ++ query_words inst))

-- the line of an item with its number; a binding has none
abbrev pub item_line : ℕ × Item → List ℕ
item_line (number, Bind label) = []
item_line (number, Emit inst map) = role_line number inst

-- the lines of items, which are numbered from 0
abbrev pub role_listing_of : List Item → List ℕ
role_listing_of items = flat_map item_line (enumerate_from 0 items)
