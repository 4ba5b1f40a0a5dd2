-- What is read of a token, and of tokens one behind another.
use Rattle.std.proofs.Common.{Bor, ◌≡◌, ℕ, suc, ◌+◌, ◌<◌, ◌≤◌, ◌^◌, true, false, eqb, List, [], ◌∷◌, ◌++◌, length, get_or, take, drop, Option, Some, None, refl, sym, ap, ◌∙◌, subst, arith, append_assoc, append-nil, add-one, drop_of_length-le}
use Rattle.std.specs.Prelude.{option_map}
use Rattle.std.specs.Fmt.{decimal}
use Rattle.std.specs.Cmp.Lexicographic.{pointwise}
use Rattle.std.proofs.lemmas.Bool.Decides.{Decides-eqb}
use Rattle.std.proofs.lemmas.List.{append_cancel_left, length-append}
use Rattle.std.proofs.Math.Seq.{drop-cons}
use Rattle.std.proofs.lemmas.Nat.{pow_below}
use Rattle.std.proofs.lemmas.Slice.Eq.{strip_prefix_is}
use Rattle.a64_formtext.specs.Tokens.{FitFields, HasBits, field_token, field_tokens, space_tokens}
use Rattle.a64_tokens.specs.Reads.{Reads, IsU32}
use Rattle.a64_tokens.specs.Splitting.{of_text}
use Rattle.a64_tokens.proofs.Splits.{IsFront}
use Rattle.a64_rows.specs.declared.slots.Slot.{Slot}
use Rattle.a64_rows.specs.declared.slots.Slot.TheVariants.{Bits, Doubled}
use Rattle.a64_rows.specs.declared.slots.FieldAt.{FieldAt}
use Rattle.a64_rows.specs.Fields.{text_of}
use Rattle.a64_rows.specs.Slots.{field_of}
use Rattle.a64_rows.specs.Forms.{width_of}
use Rattle.a64_rows.specs.Rows.{Field}

-- ---- a token

-- a number of fewer than 32 bits
pub few_bits : (width value : ℕ) → width < 32 → HasBits width value → IsU32 value
few_bits width value narrow fits = omega (arith, pow_below width 32 narrow)

-- a token that does not begin with the name
pub other_name : (name token : List ℕ) (width : ℕ) → pointwise eqb (take (length name) token) name ≡ false → Reads (HasBits width) (field_token name) token None
other_name name token width differs = record {
  some = tt;
  only = λ value fits is. absurd (strip_prefix_is Decides-eqb token name None differs (61 ∷ decimal value) is);
}

-- a token that begins with it
pub behind_name : (name token : List ℕ) (behind : Bor (List ℕ)) → (pointwise eqb (take (length name) token) name ≡ true) × (behind.now ≡ drop (length name) token) × (length behind.now + length name ≡ length token) → token ≡ name ++ behind.now
behind_name name token behind found = strip_prefix_is Decides-eqb token name (Some behind) found

module _ (name token digits : List ℕ) (width : ℕ) (narrow : width < 32) (parts : token ≡ name ++ 61 ∷ digits) where
  -- what stands behind the equals sign of a field
  behind_sign : (value : ℕ) → token ≡ field_token name value → digits ≡ decimal value
  behind_sign value is = let e : 61 ∷ digits ≡ 61 ∷ decimal value = append_cancel_left name (61 ∷ digits) (61 ∷ decimal value) (sym parts ∙ is) in cc

  -- which is no number
  pub no_number : (result : Option ℕ) → result ≡ None → Reads IsU32 decimal digits result → Reads (HasBits width) (field_token name) token None
  no_number result none r = record {
    some = tt;
    only = λ value fits is. absurd (let e : result ≡ Some value = r.only value (few_bits width value narrow fits) (behind_sign value is) in cc);
  }

  -- or is one, of few enough bits
  known : (result : Option ℕ) (value : ℕ) → result ≡ Some value → Reads IsU32 decimal digits result → Reads IsU32 decimal digits (Some value)
  known result value some r = subst (λ (o : Option ℕ). Reads IsU32 decimal digits o) some r

  pub a_number : (result : Option ℕ) (value : ℕ) → result ≡ Some value → value < 2 ^ width → Reads IsU32 decimal digits result → Reads (HasBits width) (field_token name) token (Some value)
  a_number result value some fits r =
      let k : Reads IsU32 decimal digits (Some value) = known result value some r in
      record {
        some = (fits, parts ∙ ap (λ (t : List ℕ). name ++ 61 ∷ t) k.some.1);
        only = λ other within is. k.only other (few_bits width other narrow within) (behind_sign other is);
      }

-- ---- tokens one behind another

-- what is read of the token of a field
abbrev pub ReadsField : Field → List ℕ → Option ℕ → Type 0
ReadsField field token result = Reads (HasBits (width_of field.1)) (field_token (text_of field.0)) token result

-- what is read of the tokens of fields
abbrev pub ReadsFields : List Field → List (List ℕ) → Option (List ℕ) → Type 0
ReadsFields fields tokens result = Reads (FitFields fields) (field_tokens fields) tokens result

module _ (field : Field) (fields : List Field) where
  -- the first field lacks its token
  pub no_token : (tokens : List (List ℕ)) → tokens ≡ [] → ReadsFields (field ∷ fields) tokens None
  no_token tokens none = record { some = tt; only = only }
    where
      only : (values : List ℕ) → FitFields (field ∷ fields) values → tokens ≡ field_tokens (field ∷ fields) values → None ≡ Some values
      only [] fits is = absurd fits
      only (value ∷ values) fits is = absurd cc

  -- it has none of its value
  pub bad_token : (token : List ℕ) (tokens : List (List ℕ)) → ReadsField field token None → ReadsFields (field ∷ fields) (token ∷ tokens) None
  bad_token token tokens bad = record { some = tt; only = only }
    where
      only : (values : List ℕ) → FitFields (field ∷ fields) values → token ∷ tokens ≡ field_tokens (field ∷ fields) values → None ≡ Some values
      only [] fits is = absurd fits
      only (value ∷ values) fits is =
          let here : token ≡ field_token (text_of field.0) value = cc in
          let none : None ≡ Some value = bad.only value fits.0 here in
          absurd cc

  -- it has one: the others are read on
  pub good_token : (token : List ℕ) (tokens : List (List ℕ)) (value : ℕ) (left : Option (List ℕ)) → ReadsField field token (Some value) → ReadsFields fields tokens left → ReadsFields (field ∷ fields) (token ∷ tokens) (option_map (λ values. value ∷ values) left)
  good_token token tokens value None good r = record { some = tt; only = only }
    where
      only : (values : List ℕ) → FitFields (field ∷ fields) values → token ∷ tokens ≡ field_tokens (field ∷ fields) values → None ≡ Some values
      only [] fits is = absurd fits
      only (other ∷ others) fits is =
          let rest : tokens ≡ field_tokens fields others = cc in
          let none : None ≡ Some others = r.only others fits.1 rest in
          absurd cc
  good_token token tokens value (Some values) good r = record {
    some = ((good.some.0, r.some.0), ap (λ (t : List ℕ). t ∷ tokens) good.some.1 ∙ ap (λ (ts : List (List ℕ)). field_token (text_of field.0) value ∷ ts) r.some.1);
    only = only;
  }
    where
      only : (more : List ℕ) → FitFields (field ∷ fields) more → token ∷ tokens ≡ field_tokens (field ∷ fields) more → Some (value ∷ values) ≡ Some more
      only [] fits is = absurd fits
      only (other ∷ others) fits is =
          let here : token ≡ field_token (text_of field.0) other = cc in
          let rest : tokens ≡ field_tokens fields others = cc in
          let one : Some value ≡ Some other = good.only other fits.0 here in
          let all : Some values ≡ Some others = r.only others fits.1 rest in
          cc

-- no field is left, and no token
pub nothing_left : (tokens : List (List ℕ)) → tokens ≡ [] → ReadsFields [] tokens (Some [])
nothing_left tokens none = record { some = (tt, none); only = only }
  where
    only : (values : List ℕ) → FitFields [] values → tokens ≡ field_tokens [] values → Some [] ≡ Some values
    only [] fits is = refl
    only (value ∷ values) fits is = absurd fits

-- no field is left, and a token is
pub more_left : (tokens : List (List ℕ)) → 0 < length tokens → ReadsFields [] tokens None
more_left tokens some = record { some = tt; only = only }
  where
    only : (values : List ℕ) → FitFields [] values → tokens ≡ field_tokens [] values → None ≡ Some values
    only [] fits is = absurd (omega (arith, ap (λ (ts : List (List ℕ)). length ts) is))
    only (value ∷ values) fits is = absurd fits

-- ---- how far reading has come

-- so many fields were read: reading those that are left reads all
pub record Progress (fields : List Field) (whole : List (List ℕ)) (i : ℕ) (values : List ℕ) (tokens : List (List ℕ)) : Type 0 where
  pub count : length values ≡ i
  pub rest : (left : Option (List ℕ)) → ReadsFields (drop i fields) tokens left → ReadsFields fields whole (option_map (λ more. values ++ more) left)

same_option : (left : Option (List ℕ)) → option_map (λ more. [] ++ more) left ≡ left
same_option None = refl
same_option (Some more) = refl

-- none is read at the start
pub begins : (fields : List Field) (whole : List (List ℕ)) → Progress fields whole 0 [] whole
begins fields whole = record {
  count = refl;
  rest = λ left r. subst (λ (o : Option (List ℕ)). ReadsFields fields whole o) (sym (same_option left)) r;
}

-- values that were read, one, and those behind it
then : (values : List ℕ) (value : ℕ) (left : Option (List ℕ)) → option_map (λ more. values ++ more) (option_map (λ more. value ∷ more) left) ≡ option_map (λ more. (values ++ value ∷ []) ++ more) left
then values value None = refl
then values value (Some more) = ap (λ (l : List ℕ). Some l) (sym (append_assoc values (value ∷ []) more))

module _ (fields : List Field) (whole : List (List ℕ)) (i : ℕ) (values : List ℕ) (tokens : List (List ℕ)) (default : Field) (p : Progress fields whole i values tokens) where
  abbrev Whole : Option (List ℕ) → Type 0
  Whole result = ReadsFields fields whole result

  abbrev Left : Option (List ℕ) → Type 0
  Left result = ReadsFields (drop i fields) tokens result

  next : i < length fields → get_or fields i default ∷ drop (i + 1) fields ≡ drop i fields
  next inside = sym (drop-cons fields i default inside ∙ rw add-one refl)

  at_next : (result : Option (List ℕ)) → i < length fields → ReadsFields (get_or fields i default ∷ drop (i + 1) fields) tokens result → Left result
  at_next result inside r = subst (λ (fs : List Field). ReadsFields fs tokens result) (next inside) r

  -- the next field has none of its value
  pub stops : (token : List ℕ) (others : List (List ℕ)) → tokens ≡ token ∷ others → i < length fields → ReadsField (get_or fields i default) token None → Whole None
  stops token others is inside bad =
      p.rest None (at_next None inside (subst (λ (ts : List (List ℕ)). ReadsFields (get_or fields i default ∷ drop (i + 1) fields) ts None) (sym is)
      (bad_token (get_or fields i default) (drop (i + 1) fields) token others bad)))

  -- or lacks its token
  pub lacks : tokens ≡ [] → i < length fields → Whole None
  lacks none inside = p.rest None (at_next None inside (no_token (get_or fields i default) (drop (i + 1) fields) tokens none))

  -- or is read
  pub goes_on : (token : List ℕ) (others : List (List ℕ)) (value : ℕ) → tokens ≡ token ∷ others → i < length fields → ReadsField (get_or fields i default) token (Some value) → Progress fields whole (i + 1) (values ++ value ∷ []) others
  goes_on token others value is inside good = record {
    count = omega (arith, p.count, length-append values (value ∷ []));
    rest = λ left r. subst Whole (then values value left) (p.rest (option_map (λ more. value ∷ more) left)
        (at_next (option_map (λ more. value ∷ more) left) inside
        (subst (λ (ts : List (List ℕ)). ReadsFields (get_or fields i default ∷ drop (i + 1) fields) ts (option_map (λ more. value ∷ more) left)) (sym is)
        (good_token (get_or fields i default) (drop (i + 1) fields) token others value left good r))));
  }

  at_end : (result : Option (List ℕ)) → length fields ≤ i → ReadsFields [] tokens result → Left result
  at_end result over r = subst (λ (fs : List Field). ReadsFields fs tokens result) (sym (drop_of_length-le fields over)) r

  -- all were read
  pub ends : length fields ≤ i → tokens ≡ [] → Whole (Some values)
  ends over none = subst (λ (l : List ℕ). Whole (Some l)) (append-nil values) (p.rest (Some []) (at_end (Some []) over (nothing_left tokens none)))

  -- and more is there
  pub goes_over : length fields ≤ i → 0 < length tokens → Whole None
  goes_over over some = p.rest None (at_end None over (more_left tokens some))

-- ---- the tokens of a text

-- the first token of a text, and those behind it
pub cut_tokens : (text token : List ℕ) (behind : Option (Bor (List ℕ))) → IsFront 32 text token behind → space_tokens text ≡ token ∷ of_text space_tokens behind
cut_tokens text token None cut = cut
cut_tokens text token (Some rest) cut = cut.0

-- how wide a field is
field_width : (slot : Slot) → (field_of slot).width ≡ width_of slot
field_width (Bits lowest width) = refl
field_width Doubled = refl

pub width_at : (at : FieldAt) (slot : Slot) → at ≡ field_of slot → at.width ≡ width_of slot
width_at at slot is = ap (λ (f : FieldAt). f.width) is ∙ field_width slot

-- the token of a field by what the table has of it
pub token_of : (field : Field) (name token : List ℕ) (width : ℕ) (result : Option ℕ) → name ≡ text_of field.0 → width ≡ width_of field.1 → Reads (HasBits width) (field_token name) token result → ReadsField field token result
token_of field name token width result named wide r = subst (λ (n : List ℕ). Reads (HasBits (width_of field.1)) (field_token n) token result) named (subst (λ (w : ℕ). Reads (HasBits w) (field_token name) token result) wide r)

-- as many values as fields
pub fit_long : (fields : List Field) (values : List ℕ) → FitFields fields values → length values ≡ length fields
fit_long [] [] fits = refl
fit_long [] (value ∷ values) fits = absurd fits
fit_long (field ∷ fields) [] fits = absurd fits
fit_long (field ∷ fields) (value ∷ values) fits = ap (λ (n : ℕ). suc n) (fit_long fields values fits.1)
