-- Raw bits and registers that name a form: by the raw bits, its row, and the values of its fields.
use Rattle.std.proofs.Common.{ℕ, ◌≡◌, ◌≢◌, ◌+◌, ◌/◌, ◌%◌, ◌^◌, ◌<◌, List, [], ◌∷◌, true, refl, sym, ◌∙◌, ap, arith, map}
use Rattle.std.proofs.lemmas.Nat.{shr-shr}
use Rattle.a64_rows.specs.declared.row_table.Row.{Row}
use Rattle.a64_rows.specs.declared.row_table.Row.TheVariants.{AddSubReg, LogicReg, AddSubExt, AddSubCarry, DataProc2, MulHigh, MulAdd, MulAddLong, Extract, CondSelect}
use Rattle.a64_rows.specs.Rows.{slots_of}
use Rattle.a64_rows.specs.Forms.{value_in, IsWordOf}
use Rattle.a64_rows.proofs.Table.{every}
use Rattle.a64_rows.proofs.Telling.{Bits, bits, HasBits, LacksBits, tell, told_values}
use Rattle.a64_enc_int.specs.Named.{AreParts, AreProductParts, NamedForm, rows_of_rrr, rows_of_rrrr, rrr_number, rrrr_number}

-- the number is the word of a form of this row, with the values that it has in the row's fields
pub read : (rows : List Row) (number : ℕ) (has lacks : List Bits) (row : Row) → every (tell has lacks row) rows ≡ true → NamedForm rows number → HasBits number has → LacksBits number lacks → IsWordOf row (map (value_in number) (slots_of row)) number
read rows number has lacks row t named h l = told_values rows has lacks row named.form.row named.form.fields number t named.listed (named.within, named.word) h l

-- ---- the parts of a number of raw bits and three registers

pub record Parts (number top low rd rn rm : ℕ) : Type 0 where
  pub top_is : number / 2 ^ 21 ≡ top
  pub sf_is : number / 2 ^ 31 % 2 ^ 1 ≡ top / 2 ^ 10
  pub rm_is : number / 2 ^ 16 % 2 ^ 5 ≡ rm
  pub ext_is : number / 2 ^ 13 % 2 ^ 3 ≡ low / 2 ^ 3
  pub cond_is : number / 2 ^ 12 % 2 ^ 4 ≡ low / 2 ^ 2
  pub sub_is : number / 2 ^ 15 % 2 ^ 1 ≡ low / 2 ^ 5
  pub ra_is : number / 2 ^ 10 % 2 ^ 5 ≡ low % 32
  pub low_is : number / 2 ^ 10 % 2 ^ 6 ≡ low
  pub o2_is : number / 2 ^ 10 % 2 ^ 1 ≡ low % 2
  pub rn_is : number / 2 ^ 5 % 2 ^ 5 ≡ rn
  pub rd_is : number / 2 ^ 0 % 2 ^ 5 ≡ rd

pub parts : (top low rd rn rm : ℕ) → AreParts top low rd rn rm → Parts (rrr_number top low rd rn rm) top low rd rn rm
parts top low rd rn rm b =
    let t : top < 2 ^ 11 = b.0 in
    let l : low < 2 ^ 6 = b.1 in
    let d : rd < 2 ^ 5 = b.2 in
    let n : rn < 2 ^ 5 = b.3 in
    let m : rm < 2 ^ 5 = b.4 in
    record {
      top_is = omega arith;
      sf_is = omega arith;
      rm_is = omega arith;
      ext_is = omega arith;
      cond_is = omega arith;
      sub_is = omega arith;
      ra_is = omega arith;
      low_is = omega arith;
      o2_is = omega arith;
      rn_is = omega arith;
      rd_is = omega arith;
    }

-- what lies above bit 21
pub above : (number top k : ℕ) → number / 2 ^ 21 ≡ top → number / 2 ^ (21 + k) ≡ top / 2 ^ k
above number top k e = sym (shr-shr number 21 k) ∙ ap (λ x. x / 2 ^ k) e

-- ---- each row of three registers, as the upper bits tell it

module _ (top low rd rn rm : ℕ) (below : AreParts top low rd rn rm) (named : NamedForm rows_of_rrr (rrr_number top low rd rn rm)) where
  abbrev number : ℕ
  number = rrr_number top low rd rn rm

  p : Parts number top low rd rn rm
  p = parts top low rd rn rm below

  upper : (k : ℕ) → number / 2 ^ (21 + k) ≡ top / 2 ^ k
  upper k = above number top k p.top_is

  pub logic_reg : top / 2 ^ 3 % 2 ^ 5 ≡ 10 → IsWordOf LogicReg (top / 2 ^ 10 ∷ top / 2 ^ 8 % 4 ∷ top / 2 % 4 ∷ top % 2 ∷ rm ∷ low ∷ rn ∷ rd ∷ []) number
  logic_reg e = rw (p.sf_is, upper 8, upper 1, p.top_is, p.rm_is, p.low_is, p.rn_is, p.rd_is) at (read rows_of_rrr number (bits 24 5 10 ∷ []) [] LogicReg refl named (rw (upper 3) e, tt) tt)

  pub add_sub_reg : top / 2 ^ 3 % 2 ^ 5 ≡ 11 → top % 2 ≡ 0 → IsWordOf AddSubReg (top / 2 ^ 10 ∷ top / 2 ^ 9 % 2 ∷ top / 2 ^ 8 % 2 ∷ top / 2 % 4 ∷ rm ∷ low ∷ rn ∷ rd ∷ []) number
  add_sub_reg e f = rw (p.sf_is, upper 9, upper 8, upper 1, p.rm_is, p.low_is, p.rn_is, p.rd_is) at (read rows_of_rrr number (bits 24 5 11 ∷ bits 21 1 0 ∷ []) [] AddSubReg refl named (rw (upper 3) e, (rw p.top_is f, tt)) tt)

  pub add_sub_ext : top / 2 ^ 3 % 2 ^ 5 ≡ 11 → top % 2 ≡ 1 → IsWordOf AddSubExt (top / 2 ^ 10 ∷ top / 2 ^ 9 % 2 ∷ top / 2 ^ 8 % 2 ∷ rm ∷ low / 2 ^ 3 ∷ rn ∷ rd ∷ []) number
  add_sub_ext e f = rw (p.sf_is, upper 9, upper 8, p.rm_is, p.ext_is, p.rn_is, p.rd_is) at (read rows_of_rrr number (bits 24 5 11 ∷ bits 21 1 1 ∷ []) [] AddSubExt refl named (rw (upper 3) e, (rw p.top_is f, tt)) tt)

  pub extraction : top / 2 ^ 3 % 2 ^ 5 ≡ 19 → IsWordOf Extract (top / 2 ^ 10 ∷ rm ∷ low ∷ rn ∷ rd ∷ []) number
  extraction e = rw (p.sf_is, p.rm_is, p.low_is, p.rn_is, p.rd_is) at (read rows_of_rrr number (bits 24 5 19 ∷ []) [] Extract refl named (rw (upper 3) e, tt) tt)

  pub mul_add_raw : top / 2 ^ 3 % 2 ^ 5 ≡ 27 → top % 2 ^ 2 ≡ 0 → IsWordOf MulAdd (top / 2 ^ 10 ∷ rm ∷ low / 2 ^ 5 ∷ low % 32 ∷ rn ∷ rd ∷ []) number
  mul_add_raw e f = rw (p.sf_is, p.rm_is, p.sub_is, p.ra_is, p.rn_is, p.rd_is) at (read rows_of_rrr number (bits 24 5 27 ∷ bits 21 2 0 ∷ []) [] MulAdd refl named (rw (upper 3) e, (rw p.top_is f, tt)) tt)

  pub mul_add_long_raw : top / 2 ^ 3 % 2 ^ 5 ≡ 27 → top % 2 ^ 2 ≡ 1 → IsWordOf MulAddLong (top / 2 ^ 2 % 2 ∷ rm ∷ low % 32 ∷ rn ∷ rd ∷ []) number
  mul_add_long_raw e f = rw (upper 2, p.rm_is, p.ra_is, p.rn_is, p.rd_is) at (read rows_of_rrr number (bits 24 5 27 ∷ bits 21 2 1 ∷ []) [] MulAddLong refl named (rw (upper 3) e, (rw p.top_is f, tt)) tt)

  pub mul_high : top / 2 ^ 3 % 2 ^ 5 ≡ 27 → top % 2 ^ 2 ≢ 0 → top % 2 ^ 2 ≢ 1 → IsWordOf MulHigh (top / 2 ^ 2 % 2 ∷ rm ∷ rn ∷ rd ∷ []) number
  mul_high e f g = rw (upper 2, p.rm_is, p.rn_is, p.rd_is) at (read rows_of_rrr number (bits 24 5 27 ∷ []) (bits 21 2 0 ∷ bits 21 2 1 ∷ []) MulHigh refl named (rw (upper 3) e, tt) (rw p.top_is f, (rw p.top_is g, tt)))

  -- none of the rows above
  abbrev IsElsewhere : Type 0
  IsElsewhere = (top / 2 ^ 3 % 2 ^ 5 ≢ 10) × (top / 2 ^ 3 % 2 ^ 5 ≢ 11) × (top / 2 ^ 3 % 2 ^ 5 ≢ 19) × (top / 2 ^ 3 % 2 ^ 5 ≢ 27)

  abbrev elsewhere : List Bits
  elsewhere = bits 24 5 10 ∷ bits 24 5 11 ∷ bits 24 5 19 ∷ bits 24 5 27 ∷ []

  lacks_elsewhere : IsElsewhere → LacksBits number elsewhere
  lacks_elsewhere o = rw (upper 3) (o.0, (o.1, (o.2, (o.3, tt))))

  pub add_sub_carry : IsElsewhere → top % 2 ^ 3 ≡ 0 → IsWordOf AddSubCarry (top / 2 ^ 10 ∷ top / 2 ^ 9 % 2 ∷ top / 2 ^ 8 % 2 ∷ rm ∷ rn ∷ rd ∷ []) number
  add_sub_carry o e = rw (p.sf_is, upper 9, upper 8, p.rm_is, p.rn_is, p.rd_is) at (read rows_of_rrr number (bits 21 3 0 ∷ []) elsewhere AddSubCarry refl named (rw p.top_is e, tt) (lacks_elsewhere o))

  pub cond_select : IsElsewhere → top % 2 ^ 3 ≡ 4 → IsWordOf CondSelect (top / 2 ^ 9 % 2 ∷ rm ∷ low / 2 ^ 2 ∷ low % 2 ∷ rn ∷ rd ∷ []) number
  cond_select o e = rw (upper 9, p.rm_is, p.cond_is, p.o2_is, p.rn_is, p.rd_is) at (read rows_of_rrr number (bits 21 3 4 ∷ []) elsewhere CondSelect refl named (rw p.top_is e, tt) (lacks_elsewhere o))

  pub data_proc2 : IsElsewhere → top % 2 ^ 3 ≢ 0 → top % 2 ^ 3 ≢ 4 → IsWordOf DataProc2 (top / 2 ^ 10 ∷ rm ∷ low ∷ rn ∷ rd ∷ []) number
  data_proc2 o e f = rw (p.sf_is, p.rm_is, p.low_is, p.rn_is, p.rd_is) at (read rows_of_rrr number [] (bits 21 3 0 ∷ bits 21 3 4 ∷ elsewhere) DataProc2 refl named tt (rw p.top_is e, (rw p.top_is f, lacks_elsewhere o)))

-- ---- multiplications, as the lowest of the upper bits tells them

-- the parts of a number of raw bits and four registers
record ProductParts (number top bit15 rd rn ra rm : ℕ) : Type 0 where
  pub top_is : number / 2 ^ 21 ≡ top
  pub sf_is : number / 2 ^ 31 % 2 ^ 1 ≡ top / 2 ^ 10
  pub rm_is : number / 2 ^ 16 % 2 ^ 5 ≡ rm
  pub bit15_is : number / 2 ^ 15 % 2 ^ 1 ≡ bit15
  pub ra_is : number / 2 ^ 10 % 2 ^ 5 ≡ ra
  pub rn_is : number / 2 ^ 5 % 2 ^ 5 ≡ rn
  pub rd_is : number / 2 ^ 0 % 2 ^ 5 ≡ rd

product_parts : (top bit15 rd rn ra rm : ℕ) → AreProductParts top bit15 rd rn ra rm → ProductParts (rrrr_number top bit15 rd rn ra rm) top bit15 rd rn ra rm
product_parts top bit15 rd rn ra rm b =
    let t : top < 2 ^ 11 = b.0 in
    let f : bit15 < 2 = b.1 in
    let d : rd < 2 ^ 5 = b.2 in
    let n : rn < 2 ^ 5 = b.3 in
    let a : ra < 2 ^ 5 = b.4 in
    let m : rm < 2 ^ 5 = b.5 in
    record {
      top_is = omega arith;
      sf_is = omega arith;
      rm_is = omega arith;
      bit15_is = omega arith;
      ra_is = omega arith;
      rn_is = omega arith;
      rd_is = omega arith;
    }

module _ (top bit15 rd rn ra rm : ℕ) (below : AreProductParts top bit15 rd rn ra rm) (named : NamedForm rows_of_rrrr (rrrr_number top bit15 rd rn ra rm)) where
  abbrev product : ℕ
  product = rrrr_number top bit15 rd rn ra rm

  q : ProductParts product top bit15 rd rn ra rm
  q = product_parts top bit15 rd rn ra rm below

  pub mul_add : top % 2 ≡ 0 → IsWordOf MulAdd (top / 2 ^ 10 ∷ rm ∷ bit15 ∷ ra ∷ rn ∷ rd ∷ []) product
  mul_add e = rw (q.sf_is, q.rm_is, q.bit15_is, q.ra_is, q.rn_is, q.rd_is) at (read rows_of_rrrr product (bits 21 1 0 ∷ []) [] MulAdd refl named (rw q.top_is e, tt) tt)

  pub mul_add_long : top % 2 ≡ 1 → IsWordOf MulAddLong (top / 2 ^ 2 % 2 ∷ rm ∷ ra ∷ rn ∷ rd ∷ []) product
  mul_add_long e = rw (above product top 2 q.top_is, q.rm_is, q.ra_is, q.rn_is, q.rd_is) at (read rows_of_rrrr product (bits 21 1 1 ∷ []) [] MulAddLong refl named (rw q.top_is e, tt) tt)
