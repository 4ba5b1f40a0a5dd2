-- Raw bits and vector registers that name a form: by the raw bits, its row, and the values of its fields.
use Rattle.std.proofs.Common.{ℕ, ◌≡◌, ◌≢◌, ◌+◌, ◌/◌, ◌%◌, ◌^◌, ◌<◌, List, [], ◌∷◌, refl, sym, ◌∙◌, ap, arith}
use Rattle.std.proofs.lemmas.Nat.{shr-shr}
use Rattle.a64_rows.specs.declared.row_table.Row.TheVariants.{FpOne, FpTwo, FpThree, FpSelect, VecThree, VecPermute, VecDot, VecElem, VecTwo, VecScalarPair, VecAcross, VecLong3, VecShift, ScalarShift, ScalarCopy, VecInsElem, VecExt, VecTable}
use Rattle.a64_rows.specs.Forms.{IsWordOf}
use Rattle.a64_rows.proofs.Telling.{Bits, bits, LacksBits}
use Rattle.a64_enc_int.specs.Named.{AreParts, NamedForm, rrr_number}
use Rattle.a64_enc_int.proofs.RawRows.{Parts, parts, above, read}
use Rattle.a64_enc_vec.specs.Named.{rows_of_vec_rr, rows_of_vec_rrr, vec_rr_number, AreTwoParts}

-- ---- each row of three registers

module _ (top low rd rn rm : ℕ) (below : AreParts top low rd rn rm) (named : NamedForm rows_of_vec_rrr (rrr_number top low rd rn rm)) where
  abbrev number : ℕ
  number = rrr_number top low rd rn rm

  p : Parts number top low rd rn rm
  p = parts top low rd rn rm below

  upper : (k : ℕ) → number / 2 ^ (21 + k) ≡ top / 2 ^ k
  upper k = above number top k p.top_is

  -- the bits 28 to 24
  abbrev OfClass : ℕ → Type 0
  OfClass class = top / 2 ^ 3 % 2 ^ 5 ≡ class

  pub vec_elem : OfClass 15 → IsWordOf VecElem (top / 2 ^ 9 % 2 ∷ top / 2 % 2 ∷ top % 2 ∷ rm ∷ low / 2 ^ 4 % 2 ∷ low / 2 % 2 ∷ rn ∷ rd ∷ []) number
  vec_elem e =
      let o2 : number / 2 ^ 14 % 2 ≡ low / 2 ^ 4 % 2 = omega (arith, shr-shr number 10 4, p.low_is) in
      let h : number / 2 ^ 11 % 2 ≡ low / 2 % 2 = omega (arith, shr-shr number 10 1, p.low_is) in
      rw (upper 9, upper 1, p.top_is, p.rm_is, o2, h, p.rn_is, p.rd_is) at (read rows_of_vec_rrr number (bits 24 5 15 ∷ []) [] VecElem refl named (rw (upper 3) e, tt) tt)

  pub fp_three : OfClass 31 → IsWordOf FpThree (top / 2 % 4 ∷ top % 2 ∷ rm ∷ low / 2 ^ 5 ∷ low % 32 ∷ rn ∷ rd ∷ []) number
  fp_three e =
      rw (upper 1, p.top_is, p.rm_is, p.sub_is, p.ra_is, p.rn_is, p.rd_is) at (read rows_of_vec_rrr number (bits 24 5 31 ∷ []) [] FpThree refl named (rw (upper 3) e, tt) tt)

  pub fp_two : OfClass 30 → low % 2 ≡ 0 → IsWordOf FpTwo (top / 2 % 4 ∷ rm ∷ low / 2 ^ 2 ∷ rn ∷ rd ∷ []) number
  fp_two e f =
      rw (upper 1, p.rm_is, p.cond_is, p.rn_is, p.rd_is) at (read rows_of_vec_rrr number (bits 24 5 30 ∷ bits 10 1 0 ∷ []) [] FpTwo refl named (rw (upper 3) e, (rw p.o2_is f, tt)) tt)

  pub fp_select : OfClass 30 → low % 2 ≡ 1 → IsWordOf FpSelect (top / 2 % 4 ∷ rm ∷ low / 2 ^ 2 ∷ rn ∷ rd ∷ []) number
  fp_select e f =
      rw (upper 1, p.rm_is, p.cond_is, p.rn_is, p.rd_is) at (read rows_of_vec_rrr number (bits 24 5 30 ∷ bits 10 1 1 ∷ []) [] FpSelect refl named (rw (upper 3) e, (rw p.o2_is f, tt)) tt)

  -- none of the rows above
  abbrev IsElsewhere : Type 0
  IsElsewhere = (top / 2 ^ 3 % 2 ^ 5 ≢ 15) × (top / 2 ^ 3 % 2 ^ 5 ≢ 31) × (top / 2 ^ 3 % 2 ^ 5 ≢ 30)

  abbrev elsewhere : List Bits
  elsewhere = bits 24 5 15 ∷ bits 24 5 31 ∷ bits 24 5 30 ∷ []

  lacks_elsewhere : IsElsewhere → LacksBits number elsewhere
  lacks_elsewhere o = rw (upper 3) (o.0, (o.1, (o.2, tt)))

  pub vec_three : IsElsewhere → top % 2 ≡ 1 → low % 2 ≡ 1 → IsWordOf VecThree (top / 2 ^ 9 % 2 ∷ top / 2 ^ 8 % 2 ∷ top / 2 % 4 ∷ rm ∷ low / 2 ∷ rn ∷ rd ∷ []) number
  vec_three o e f =
      let op : number / 2 ^ 11 % 2 ^ 5 ≡ low / 2 = omega (arith, shr-shr number 10 1, p.low_is) in
      rw (upper 9, upper 8, upper 1, p.rm_is, op, p.rn_is, p.rd_is) at (read rows_of_vec_rrr number (bits 21 1 1 ∷ bits 10 1 1 ∷ []) elsewhere VecThree refl named (rw p.top_is e, (rw p.o2_is f, tt)) (lacks_elsewhere o))

  pub vec_long3 : IsElsewhere → top % 2 ≡ 1 → low % 2 ≡ 0 → IsWordOf VecLong3 (top / 2 ^ 9 % 2 ∷ top / 2 ^ 8 % 2 ∷ top / 2 % 4 ∷ low / 2 ^ 4 % 2 ∷ rm ∷ rn ∷ rd ∷ []) number
  vec_long3 o e f =
      let mul : number / 2 ^ 14 % 2 ≡ low / 2 ^ 4 % 2 = omega (arith, shr-shr number 10 4, p.low_is) in
      rw (upper 9, upper 8, upper 1, mul, p.rm_is, p.rn_is, p.rd_is) at (read rows_of_vec_rrr number (bits 21 1 1 ∷ bits 10 1 0 ∷ []) elsewhere VecLong3 refl named (rw p.top_is e, (rw p.o2_is f, tt)) (lacks_elsewhere o))

  pub vec_dot : IsElsewhere → top % 2 ≡ 0 → low % 2 ≡ 1 → IsWordOf VecDot (top / 2 ^ 9 % 2 ∷ low / 2 % 2 ∷ rm ∷ rn ∷ rd ∷ []) number
  vec_dot o e f =
      let us : number / 2 ^ 11 % 2 ≡ low / 2 % 2 = omega (arith, shr-shr number 10 1, p.low_is) in
      rw (upper 9, us, p.rm_is, p.rn_is, p.rd_is) at (read rows_of_vec_rrr number (bits 21 1 0 ∷ bits 10 1 1 ∷ []) elsewhere VecDot refl named (rw p.top_is e, (rw p.o2_is f, tt)) (lacks_elsewhere o))

  -- the bits 21 and 10 of the rows that are left
  abbrev IsRearranging : Type 0
  IsRearranging = (top % 2 ≡ 0) × (low % 2 ≡ 0)

  pub vec_ext : IsElsewhere → IsRearranging → top / 2 ^ 8 % 2 ≡ 1 → IsWordOf VecExt (rm ∷ low / 2 % 16 ∷ rn ∷ rd ∷ []) number
  vec_ext o r e =
      let imm4 : number / 2 ^ 11 % 2 ^ 4 ≡ low / 2 % 16 = omega (arith, shr-shr number 10 1, p.low_is) in
      rw (p.rm_is, imm4, p.rn_is, p.rd_is) at (read rows_of_vec_rrr number (bits 21 1 0 ∷ bits 10 1 0 ∷ bits 29 1 1 ∷ []) elsewhere VecExt refl named (rw p.top_is r.0, (rw p.o2_is r.1, (rw (upper 8) e, tt))) (lacks_elsewhere o))

  -- the bit 11
  bit11 : number / 2 ^ 11 % 2 ≡ low / 2 % 2
  bit11 = omega (arith, shr-shr number 10 1, p.low_is)

  pub vec_permute : IsElsewhere → IsRearranging → top / 2 ^ 8 % 2 ≡ 0 → low / 2 % 2 ≡ 1 → IsWordOf VecPermute (top / 2 % 4 ∷ rm ∷ low / 4 % 8 ∷ rn ∷ rd ∷ []) number
  vec_permute o r e f =
      let op : number / 2 ^ 12 % 2 ^ 3 ≡ low / 4 % 8 = omega (arith, shr-shr number 10 2, p.low_is) in
      rw (upper 1, p.rm_is, op, p.rn_is, p.rd_is) at (read rows_of_vec_rrr number (bits 21 1 0 ∷ bits 10 1 0 ∷ bits 29 1 0 ∷ bits 11 1 1 ∷ []) elsewhere VecPermute refl named (rw p.top_is r.0, (rw p.o2_is r.1, (rw (upper 8) e, (rw bit11 f, tt)))) (lacks_elsewhere o))

  pub vec_table : IsElsewhere → IsRearranging → top / 2 ^ 8 % 2 ≡ 0 → low / 2 % 2 ≡ 0 → IsWordOf VecTable (rm ∷ low / 8 % 4 ∷ low / 4 % 2 ∷ rn ∷ rd ∷ []) number
  vec_table o r e f =
      let len : number / 2 ^ 13 % 2 ^ 2 ≡ low / 8 % 4 = omega (arith, shr-shr number 10 3, p.low_is) in
      let ext : number / 2 ^ 12 % 2 ≡ low / 4 % 2 = omega (arith, shr-shr number 10 2, p.low_is) in
      rw (p.rm_is, len, ext, p.rn_is, p.rd_is) at (read rows_of_vec_rrr number (bits 21 1 0 ∷ bits 10 1 0 ∷ bits 29 1 0 ∷ bits 11 1 0 ∷ []) elsewhere VecTable refl named (rw p.top_is r.0, (rw p.o2_is r.1, (rw (upper 8) e, (rw bit11 f, tt)))) (lacks_elsewhere o))

-- ---- each row of two registers

-- the parts of a number of raw bits and two registers
record TwoParts (number top rd rn : ℕ) : Type 0 where
  pub top_is : number / 2 ^ 10 ≡ top
  pub rn_is : number / 2 ^ 5 % 2 ^ 5 ≡ rn
  pub rd_is : number / 2 ^ 0 % 2 ^ 5 ≡ rd

two_parts : (top rd rn : ℕ) → AreTwoParts top rd rn → TwoParts (vec_rr_number top rd rn) top rd rn
two_parts top rd rn b =
    let d : rd < 2 ^ 5 = b.1 in
    let n : rn < 2 ^ 5 = b.2 in
    record { top_is = omega arith; rn_is = omega arith; rd_is = omega arith }

module _ (top rd rn : ℕ) (below : AreTwoParts top rd rn) (named : NamedForm rows_of_vec_rr (vec_rr_number top rd rn)) where
  abbrev two : ℕ
  two = vec_rr_number top rd rn

  q : TwoParts two top rd rn
  q = two_parts top rd rn below

  -- what lies above bit 10
  raw : (k : ℕ) → two / 2 ^ (10 + k) ≡ top / 2 ^ k
  raw k = sym (shr-shr two 10 k) ∙ ap (λ x. x / 2 ^ k) q.top_is

  pub vec_shift : top / 2 ^ 14 % 2 ^ 5 ≡ 15 → IsWordOf VecShift (top / 2 ^ 20 % 2 ∷ top / 2 ^ 19 % 2 ∷ top / 2 ^ 6 % 128 ∷ top / 2 % 32 ∷ rn ∷ rd ∷ []) two
  vec_shift e =
      rw (raw 20, raw 19, raw 6, raw 1, q.rn_is, q.rd_is) at (read rows_of_vec_rr two (bits 24 5 15 ∷ []) [] VecShift refl named (rw (raw 14) e, tt) tt)

  pub scalar_shift : top / 2 ^ 14 % 2 ^ 5 ≡ 31 → IsWordOf ScalarShift (top / 2 ^ 6 % 128 ∷ top / 2 % 32 ∷ rn ∷ rd ∷ []) two
  scalar_shift e =
      rw (raw 6, raw 1, q.rn_is, q.rd_is) at (read rows_of_vec_rr two (bits 24 5 31 ∷ []) [] ScalarShift refl named (rw (raw 14) e, tt) tt)

  pub scalar_copy : top / 2 ^ 14 % 2 ^ 5 ≡ 30 → top / 2 ^ 11 % 2 ≡ 0 → IsWordOf ScalarCopy (top / 2 ^ 6 % 32 ∷ rn ∷ rd ∷ []) two
  scalar_copy e f =
      rw (raw 6, q.rn_is, q.rd_is) at (read rows_of_vec_rr two (bits 24 5 30 ∷ bits 21 1 0 ∷ []) [] ScalarCopy refl named (rw (raw 14) e, (rw (raw 11) f, tt)) tt)

  pub fp_one : top / 2 ^ 14 % 2 ^ 5 ≡ 30 → top / 2 ^ 11 % 2 ≡ 1 → top / 2 ^ 20 % 2 ≡ 0 → IsWordOf FpOne (top / 2 ^ 12 % 4 ∷ top / 2 ^ 5 % 64 ∷ rn ∷ rd ∷ []) two
  fp_one e f g =
      rw (raw 12, raw 5, q.rn_is, q.rd_is) at (read rows_of_vec_rr two (bits 24 5 30 ∷ bits 21 1 1 ∷ bits 30 1 0 ∷ []) [] FpOne refl named (rw (raw 14) e, (rw (raw 11) f, (rw (raw 20) g, tt))) tt)

  pub vec_scalar_pair : top / 2 ^ 14 % 2 ^ 5 ≡ 30 → top / 2 ^ 11 % 2 ≡ 1 → top / 2 ^ 20 % 2 ≡ 1 → IsWordOf VecScalarPair (rn ∷ rd ∷ []) two
  vec_scalar_pair e f g =
      rw (q.rn_is, q.rd_is) at (read rows_of_vec_rr two (bits 24 5 30 ∷ bits 21 1 1 ∷ bits 30 1 1 ∷ []) [] VecScalarPair refl named (rw (raw 14) e, (rw (raw 11) f, (rw (raw 20) g, tt))) tt)

  -- none of the rows above
  abbrev IsNoOther : Type 0
  IsNoOther = (top / 2 ^ 14 % 2 ^ 5 ≢ 15) × (top / 2 ^ 14 % 2 ^ 5 ≢ 31) × (top / 2 ^ 14 % 2 ^ 5 ≢ 30)

  abbrev others : List Bits
  others = bits 24 5 15 ∷ bits 24 5 31 ∷ bits 24 5 30 ∷ []

  lacks_others : IsNoOther → LacksBits two others
  lacks_others o = rw (raw 14) (o.0, (o.1, (o.2, tt)))

  pub vec_ins_elem : IsNoOther → top / 2 ^ 11 % 2 ≡ 0 → IsWordOf VecInsElem (top / 2 ^ 6 % 32 ∷ top / 2 % 16 ∷ rn ∷ rd ∷ []) two
  vec_ins_elem o e =
      rw (raw 6, raw 1, q.rn_is, q.rd_is) at (read rows_of_vec_rr two (bits 21 1 0 ∷ []) others VecInsElem refl named (rw (raw 11) e, tt) (lacks_others o))

  pub vec_two : IsNoOther → top / 2 ^ 11 % 2 ≡ 1 → top / 2 ^ 10 % 2 ≡ 0 → IsWordOf VecTwo (top / 2 ^ 20 % 2 ∷ top / 2 ^ 19 % 2 ∷ top / 2 ^ 12 % 4 ∷ top / 2 ^ 2 % 32 ∷ rn ∷ rd ∷ []) two
  vec_two o e f =
      rw (raw 20, raw 19, raw 12, raw 2, q.rn_is, q.rd_is) at (read rows_of_vec_rr two (bits 21 1 1 ∷ bits 20 1 0 ∷ []) others VecTwo refl named (rw (raw 11) e, (rw (raw 10) f, tt)) (lacks_others o))

  pub vec_across : IsNoOther → top / 2 ^ 11 % 2 ≡ 1 → top / 2 ^ 10 % 2 ≡ 1 → IsWordOf VecAcross (top / 2 ^ 20 % 2 ∷ top / 2 ^ 19 % 2 ∷ top / 2 ^ 12 % 4 ∷ top / 2 ^ 2 % 32 ∷ rn ∷ rd ∷ []) two
  vec_across o e f =
      rw (raw 20, raw 19, raw 12, raw 2, q.rn_is, q.rd_is) at (read rows_of_vec_rr two (bits 21 1 1 ∷ bits 20 1 1 ∷ []) others VecAcross refl named (rw (raw 11) e, (rw (raw 10) f, tt)) (lacks_others o))
