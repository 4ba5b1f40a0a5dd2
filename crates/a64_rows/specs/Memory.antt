-- Written by `python3 tools/rows.py` from tables/rows.txt.
-- Memory: the forms of "Loads and Stores"
-- (Arm Architecture Reference Manual, DDI 0487, C4.1), by the names of their fields.
use Rattle.std.specs.Prelude.{ℕ, [], ◌∷◌}
use Rattle.a64_rows.specs.declared.row_table.Row.TheVariants.{LdStImm9, LdStUnsigned, LdStReg}
use Rattle.a64_rows.specs.declared.row_table.Row.TheVariants.{LdLiteral, LdStPair, LdReplicate}
use Rattle.a64_rows.specs.declared.row_table.Row.TheVariants.{AtomicOp, LoadAcq, StoreRel, LoadEx}
use Rattle.a64_rows.specs.declared.row_table.Row.TheVariants.{StoreEx, Cas, Casp}
use Rattle.a64_rows.specs.Forms.{Form, form}

-- Loads and Stores, Load/store register (unscaled immediate, immediate post-indexed and
-- pre-indexed)
pub record LdStImm9Fields : Type 0 where
  pub sz : ℕ
  pub v : ℕ
  pub opc : ℕ
  pub imm9 : ℕ
  pub mode : ℕ
  pub rn : ℕ
  pub rt : ℕ

abbrev pub ld_st_imm9 : LdStImm9Fields → Form
ld_st_imm9 f = form LdStImm9 (f.sz ∷ f.v ∷ f.opc ∷ f.imm9 ∷ f.mode ∷ f.rn ∷ f.rt ∷ [])

-- Loads and Stores, Load/store register (unsigned immediate)
pub record LdStUnsignedFields : Type 0 where
  pub sz : ℕ
  pub v : ℕ
  pub opc : ℕ
  pub imm12 : ℕ
  pub rn : ℕ
  pub rt : ℕ

abbrev pub ld_st_unsigned : LdStUnsignedFields → Form
ld_st_unsigned f = form LdStUnsigned (f.sz ∷ f.v ∷ f.opc ∷ f.imm12 ∷ f.rn ∷ f.rt ∷ [])

-- Loads and Stores, Load/store register (register offset)
pub record LdStRegFields : Type 0 where
  pub sz : ℕ
  pub v : ℕ
  pub opc : ℕ
  pub rm : ℕ
  pub ext : ℕ
  pub s : ℕ
  pub rn : ℕ
  pub rt : ℕ

abbrev pub ld_st_reg : LdStRegFields → Form
ld_st_reg f = form LdStReg (f.sz ∷ f.v ∷ f.opc ∷ f.rm ∷ f.ext ∷ f.s ∷ f.rn ∷ f.rt ∷ [])

-- Loads and Stores, Load register (literal)
pub record LdLiteralFields : Type 0 where
  pub opc : ℕ
  pub v : ℕ
  pub imm19 : ℕ
  pub rt : ℕ

abbrev pub ld_literal : LdLiteralFields → Form
ld_literal f = form LdLiteral (f.opc ∷ f.v ∷ f.imm19 ∷ f.rt ∷ [])

-- Loads and Stores, Load/store register pair
pub record LdStPairFields : Type 0 where
  pub opc : ℕ
  pub v : ℕ
  pub idx : ℕ
  pub load : ℕ
  pub imm7 : ℕ
  pub rt2 : ℕ
  pub rn : ℕ
  pub rt : ℕ

abbrev pub ld_st_pair : LdStPairFields → Form
ld_st_pair f = form LdStPair (f.opc ∷ f.v ∷ f.idx ∷ f.load ∷ f.imm7 ∷ f.rt2 ∷ f.rn ∷ f.rt ∷ [])

-- Loads and Stores, Advanced SIMD load/store single structure: LD1R
pub record LdReplicateFields : Type 0 where
  pub q : ℕ
  pub sz : ℕ
  pub rn : ℕ
  pub rt : ℕ

abbrev pub ld_replicate : LdReplicateFields → Form
ld_replicate f = form LdReplicate (f.q ∷ f.sz ∷ f.rn ∷ f.rt ∷ [])

-- Loads and Stores, Atomic memory operations, with acquire and release
pub record AtomicOpFields : Type 0 where
  pub sz : ℕ
  pub rs : ℕ
  pub swp : ℕ
  pub op : ℕ
  pub rn : ℕ
  pub rt : ℕ

abbrev pub atomic_op : AtomicOpFields → Form
atomic_op f = form AtomicOp (f.sz ∷ f.rs ∷ f.swp ∷ f.op ∷ f.rn ∷ f.rt ∷ [])

-- Loads and Stores, Load/store ordered: LDAR
pub record LoadAcqFields : Type 0 where
  pub sz : ℕ
  pub rn : ℕ
  pub rt : ℕ

abbrev pub load_acq : LoadAcqFields → Form
load_acq f = form LoadAcq (f.sz ∷ f.rn ∷ f.rt ∷ [])

-- Loads and Stores, Load/store ordered: STLR
pub record StoreRelFields : Type 0 where
  pub sz : ℕ
  pub rn : ℕ
  pub rt : ℕ

abbrev pub store_rel : StoreRelFields → Form
store_rel f = form StoreRel (f.sz ∷ f.rn ∷ f.rt ∷ [])

-- Loads and Stores, Load/store exclusive register: LDAXR
pub record LoadExFields : Type 0 where
  pub sz : ℕ
  pub rn : ℕ
  pub rt : ℕ

abbrev pub load_ex : LoadExFields → Form
load_ex f = form LoadEx (f.sz ∷ f.rn ∷ f.rt ∷ [])

-- Loads and Stores, Load/store exclusive register: STLXR
pub record StoreExFields : Type 0 where
  pub sz : ℕ
  pub rs : ℕ
  pub rn : ℕ
  pub rt : ℕ

abbrev pub store_ex : StoreExFields → Form
store_ex f = form StoreEx (f.sz ∷ f.rs ∷ f.rn ∷ f.rt ∷ [])

-- Loads and Stores, Compare and swap: CASAL
pub record CasFields : Type 0 where
  pub sz : ℕ
  pub rs : ℕ
  pub rn : ℕ
  pub rt : ℕ

abbrev pub cas : CasFields → Form
cas f = form Cas (f.sz ∷ f.rs ∷ f.rn ∷ f.rt ∷ [])

-- Loads and Stores, Compare and swap pair: CASPAL, of 64 bits
pub record CaspFields : Type 0 where
  pub rs : ℕ
  pub rn : ℕ
  pub rt : ℕ

abbrev pub casp : CaspFields → Form
casp f = form Casp (f.rs ∷ f.rn ∷ f.rt ∷ [])
