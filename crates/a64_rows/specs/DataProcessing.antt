-- Written by `python3 tools/rows.py` from tables/rows.txt.
-- Data processing: the forms of "Data Processing -- Immediate" and "Data Processing -- Register"
-- (Arm Architecture Reference Manual, DDI 0487, C4.1), by the names of their fields.
use Rattle.std.specs.Prelude.{ℕ, [], ◌∷◌}
use Rattle.a64_rows.specs.declared.row_table.Row.TheVariants.{AddSubReg, LogicReg, AddSubExt}
use Rattle.a64_rows.specs.declared.row_table.Row.TheVariants.{AddSubCarry, DataProc2, MulHigh}
use Rattle.a64_rows.specs.declared.row_table.Row.TheVariants.{MulAdd, MulAddLong, AddSubImm}
use Rattle.a64_rows.specs.declared.row_table.Row.TheVariants.{LogicImm, Bitfield, Extract}
use Rattle.a64_rows.specs.declared.row_table.Row.TheVariants.{DataProc1, MoveWide, CondSelect}
use Rattle.a64_rows.specs.declared.row_table.Row.TheVariants.{CondCompare, Adr}
use Rattle.a64_rows.specs.Forms.{Form, form}

-- Data Processing -- Register, Add/subtract (shifted register)
pub record AddSubRegFields : Type 0 where
  pub sf : ℕ
  pub op : ℕ
  pub s : ℕ
  pub sh : ℕ
  pub rm : ℕ
  pub imm6 : ℕ
  pub rn : ℕ
  pub rd : ℕ

abbrev pub add_sub_reg : AddSubRegFields → Form
add_sub_reg f = form AddSubReg (f.sf ∷ f.op ∷ f.s ∷ f.sh ∷ f.rm ∷ f.imm6 ∷ f.rn ∷ f.rd ∷ [])

-- Data Processing -- Register, Logical (shifted register)
pub record LogicRegFields : Type 0 where
  pub sf : ℕ
  pub opc : ℕ
  pub sh : ℕ
  pub n : ℕ
  pub rm : ℕ
  pub imm6 : ℕ
  pub rn : ℕ
  pub rd : ℕ

abbrev pub logic_reg : LogicRegFields → Form
logic_reg f = form LogicReg (f.sf ∷ f.opc ∷ f.sh ∷ f.n ∷ f.rm ∷ f.imm6 ∷ f.rn ∷ f.rd ∷ [])

-- Data Processing -- Register, Add/subtract (extended register)
pub record AddSubExtFields : Type 0 where
  pub sf : ℕ
  pub op : ℕ
  pub s : ℕ
  pub rm : ℕ
  pub ext : ℕ
  pub rn : ℕ
  pub rd : ℕ

abbrev pub add_sub_ext : AddSubExtFields → Form
add_sub_ext f = form AddSubExt (f.sf ∷ f.op ∷ f.s ∷ f.rm ∷ f.ext ∷ f.rn ∷ f.rd ∷ [])

-- Data Processing -- Register, Add/subtract (with carry)
pub record AddSubCarryFields : Type 0 where
  pub sf : ℕ
  pub op : ℕ
  pub s : ℕ
  pub rm : ℕ
  pub rn : ℕ
  pub rd : ℕ

abbrev pub add_sub_carry : AddSubCarryFields → Form
add_sub_carry f = form AddSubCarry (f.sf ∷ f.op ∷ f.s ∷ f.rm ∷ f.rn ∷ f.rd ∷ [])

-- Data Processing -- Register, Data-processing (2 source)
pub record DataProc2Fields : Type 0 where
  pub sf : ℕ
  pub rm : ℕ
  pub op6 : ℕ
  pub rn : ℕ
  pub rd : ℕ

abbrev pub data_proc2 : DataProc2Fields → Form
data_proc2 f = form DataProc2 (f.sf ∷ f.rm ∷ f.op6 ∷ f.rn ∷ f.rd ∷ [])

-- Data Processing -- Register, Data-processing (3 source): SMULH and UMULH
pub record MulHighFields : Type 0 where
  pub u : ℕ
  pub rm : ℕ
  pub rn : ℕ
  pub rd : ℕ

abbrev pub mul_high : MulHighFields → Form
mul_high f = form MulHigh (f.u ∷ f.rm ∷ f.rn ∷ f.rd ∷ [])

-- Data Processing -- Register, Data-processing (3 source): MADD and MSUB
pub record MulAddFields : Type 0 where
  pub sf : ℕ
  pub rm : ℕ
  pub sub : ℕ
  pub ra : ℕ
  pub rn : ℕ
  pub rd : ℕ

abbrev pub mul_add : MulAddFields → Form
mul_add f = form MulAdd (f.sf ∷ f.rm ∷ f.sub ∷ f.ra ∷ f.rn ∷ f.rd ∷ [])

-- Data Processing -- Register, Data-processing (3 source): SMADDL and UMADDL
pub record MulAddLongFields : Type 0 where
  pub u : ℕ
  pub rm : ℕ
  pub ra : ℕ
  pub rn : ℕ
  pub rd : ℕ

abbrev pub mul_add_long : MulAddLongFields → Form
mul_add_long f = form MulAddLong (f.u ∷ f.rm ∷ f.ra ∷ f.rn ∷ f.rd ∷ [])

-- Data Processing -- Immediate, Add/subtract (immediate)
pub record AddSubImmFields : Type 0 where
  pub sf : ℕ
  pub op : ℕ
  pub s : ℕ
  pub sh : ℕ
  pub imm12 : ℕ
  pub rn : ℕ
  pub rd : ℕ

abbrev pub add_sub_imm : AddSubImmFields → Form
add_sub_imm f = form AddSubImm (f.sf ∷ f.op ∷ f.s ∷ f.sh ∷ f.imm12 ∷ f.rn ∷ f.rd ∷ [])

-- Data Processing -- Immediate, Logical (immediate)
pub record LogicImmFields : Type 0 where
  pub sf : ℕ
  pub opc : ℕ
  pub n : ℕ
  pub immr : ℕ
  pub imms : ℕ
  pub rn : ℕ
  pub rd : ℕ

abbrev pub logic_imm : LogicImmFields → Form
logic_imm f = form LogicImm (f.sf ∷ f.opc ∷ f.n ∷ f.immr ∷ f.imms ∷ f.rn ∷ f.rd ∷ [])

-- Data Processing -- Immediate, Bitfield
pub record BitfieldFields : Type 0 where
  pub sf : ℕ
  pub opc : ℕ
  pub immr : ℕ
  pub imms : ℕ
  pub rn : ℕ
  pub rd : ℕ

abbrev pub bitfield : BitfieldFields → Form
bitfield f = form Bitfield (f.sf ∷ f.opc ∷ f.immr ∷ f.imms ∷ f.rn ∷ f.rd ∷ [])

-- Data Processing -- Immediate, Extract
pub record ExtractFields : Type 0 where
  pub sf : ℕ
  pub rm : ℕ
  pub imms : ℕ
  pub rn : ℕ
  pub rd : ℕ

abbrev pub extract : ExtractFields → Form
extract f = form Extract (f.sf ∷ f.rm ∷ f.imms ∷ f.rn ∷ f.rd ∷ [])

-- Data Processing -- Register, Data-processing (1 source)
pub record DataProc1Fields : Type 0 where
  pub sf : ℕ
  pub op6 : ℕ
  pub rn : ℕ
  pub rd : ℕ

abbrev pub data_proc1 : DataProc1Fields → Form
data_proc1 f = form DataProc1 (f.sf ∷ f.op6 ∷ f.rn ∷ f.rd ∷ [])

-- Data Processing -- Immediate, Move wide (immediate)
pub record MoveWideFields : Type 0 where
  pub sf : ℕ
  pub opc : ℕ
  pub hw : ℕ
  pub imm16 : ℕ
  pub rd : ℕ

abbrev pub move_wide : MoveWideFields → Form
move_wide f = form MoveWide (f.sf ∷ f.opc ∷ f.hw ∷ f.imm16 ∷ f.rd ∷ [])

-- Data Processing -- Register, Conditional select, of 64 bits
pub record CondSelectFields : Type 0 where
  pub op : ℕ
  pub rm : ℕ
  pub cond : ℕ
  pub o2 : ℕ
  pub rn : ℕ
  pub rd : ℕ

abbrev pub cond_select : CondSelectFields → Form
cond_select f = form CondSelect (f.op ∷ f.rm ∷ f.cond ∷ f.o2 ∷ f.rn ∷ f.rd ∷ [])

-- Data Processing -- Register, Conditional compare, register and immediate: CCMP
pub record CondCompareFields : Type 0 where
  pub sf : ℕ
  pub rm : ℕ
  pub cond : ℕ
  pub imm : ℕ
  pub rn : ℕ
  pub nzcv : ℕ

abbrev pub cond_compare : CondCompareFields → Form
cond_compare f = form CondCompare (f.sf ∷ f.rm ∷ f.cond ∷ f.imm ∷ f.rn ∷ f.nzcv ∷ [])

-- Data Processing -- Immediate, PC-rel. addressing
pub record AdrFields : Type 0 where
  pub page : ℕ
  pub lo : ℕ
  pub hi : ℕ
  pub rd : ℕ

abbrev pub adr : AdrFields → Form
adr f = form Adr (f.page ∷ f.lo ∷ f.hi ∷ f.rd ∷ [])
