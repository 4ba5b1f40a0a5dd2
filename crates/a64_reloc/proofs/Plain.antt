-- The fields of a relocation's line that have no space, and the line itself.
use Rattle.std.proofs.Common.{◌≡◌, inl, ℕ, List, [], ◌∷◌, ◌++◌, Option, Some, None, refl, sym, ap, ◌∙◌, subst, append_assoc, arith, Bool, true, false}
use Rattle.std.specs.Prelude.{ℤ, IfSome, codes, option_map, nat_eq, if◌then◌else◌}
use Rattle.std.specs.Bool.{Decides}
use Rattle.std.specs.Fmt.{decimal, signed_decimal}
use Rattle.std.specs.Cmp.Lexicographic.{bytes_decides, pointwise}
use Rattle.std.specs.List.{find}
use Rattle.a64_base.specs.declared.entity.ExternalName.{ExternalName}
use Rattle.a64_base.specs.declared.entity.Reloc.{Reloc}
use Rattle.a64_base.specs.declared.entity.Reloc.TheVariants.{Arm64Call, Abs8, Aarch64AdrGotPage21, Aarch64Ld64GotLo12Nc, Aarch64AdrPrelPgHi21, Aarch64AddAbsLo12Nc}
use Rattle.a64_tokens.specs.DigitLaws.{decimal_apart}
use Rattle.a64_tokens.specs.Fields.{HasNo}
use Rattle.a64_tokens.specs.Reads.{Reads, Always, IsI64, IsU32}
use Rattle.a64_reloc.specs.Halves.{AreBoth, pair_text}
use Rattle.a64_reloc.specs.Relocs.{IsReloc, IsSymbol, reloc_line, reloc_text, symbol_text}

pub decimal_plain : (n : ℕ) → IsU32 n → HasNo 32 (decimal n)
decimal_plain n fits = decimal_apart 32 n (inl (omega arith)) (omega (arith, fits))

pub symbol_plain : (name : ExternalName) → IsSymbol name → HasNo 32 (symbol_text name)
symbol_plain name fits = decimal_plain name.0 fits

pub kind_plain : (kind : Reloc) → Always kind → HasNo 32 (reloc_text kind)
kind_plain Arm64Call fits = refl
kind_plain _ fits = refl

-- a relocation, as its fields are read
abbrev pub Fields : Type 0
Fields = ℕ × (Reloc × (ExternalName × ℤ))

abbrev pub relocation : Fields → ℕ × Reloc × ExternalName × ℤ
relocation fields = (fields.0, fields.1.0, fields.1.1.0, fields.1.1.1)

abbrev fields_text : Fields → List ℕ
fields_text = pair_text decimal (pair_text reloc_text (pair_text symbol_text signed_decimal))

abbrev AreFields : Fields → Type 0
AreFields = AreBoth IsU32 (AreBoth Always (AreBoth IsSymbol IsI64))

in_fields : (fields : Fields) → codes "reloc " ++ fields_text fields ≡ reloc_line (relocation fields)
in_fields fields = simp append_assoc

-- what is read of the fields is read of the line
pub line_read : (line fields : List ℕ) (result : Option Fields) → line ≡ codes "reloc " ++ fields → Reads AreFields fields_text fields result
    → Reads IsReloc reloc_line line (option_map relocation result)
line_read line fields result whole read = record {
  some = told result read.some;
  only = λ r fits is.
      let parts : Fields = (r.0, (r.1, (r.2, r.3))) in
      let behind : codes "reloc " ++ fields ≡ codes "reloc " ++ fields_text parts = sym whole ∙ is ∙ sym (in_fields parts) in
      ap (option_map relocation) (read.only parts (fits.0, (tt, (fits.1, fits.2))) cc);
}
  where
    told : (r : Option Fields) → IfSome r (λ p. AreFields p × (fields ≡ fields_text p)) → IfSome (option_map relocation r) (λ p. IsReloc p × (line ≡ reloc_line p))
    told None h = tt
    told (Some p) h = ((h.0.0, h.0.1.1.0, h.0.1.1.1), whole ∙ ap (λ (t : List ℕ). codes "reloc " ++ t) h.1 ∙ in_fields p)

-- ---- kinds

pub itself : (o : Option Reloc) → option_map (λ (k : Reloc). k) o ≡ o
itself None = refl
itself (Some k) = refl

abbrev pub kinds : List Reloc
kinds = Arm64Call ∷ Abs8 ∷ Aarch64AdrGotPage21 ∷ Aarch64Ld64GotLo12Nc ∷ Aarch64AdrPrelPgHi21 ∷ Aarch64AddAbsLo12Nc ∷ []

abbrev pub has_name : List ℕ → Reloc → Bool
has_name token kind = pointwise nat_eq (reloc_text kind) token

-- the first kind with the name of a kind is that kind
found : (kind : Reloc) → find (has_name (reloc_text kind)) kinds ≡ Some kind
found Arm64Call = refl
found Abs8 = refl
found Aarch64AdrGotPage21 = refl
found Aarch64Ld64GotLo12Nc = refl
found Aarch64AdrPrelPgHi21 = refl
found Aarch64AddAbsLo12Nc = refl

module _ (token : List ℕ) where
  abbrev IsNamed : Reloc → Type 0
  IsNamed kind = Always kind × (token ≡ reloc_text kind)

  each : (b : Bool) (kind : Reloc) (rest : Option Reloc) → Decides b (reloc_text kind ≡ token) → IfSome rest IsNamed → IfSome (if b then Some kind else rest) IsNamed
  each true kind rest decides h = (tt, sym (decides.0 refl))
  each false kind rest decides h = h

  named : (ks : List Reloc) → IfSome (find (has_name token) ks) IsNamed
  named [] = tt
  named (k ∷ ks) = each (has_name token k) k (find (has_name token) ks) (bytes_decides (reloc_text k) token) (named ks)

  -- the first kind that has a name
  pub kind_read : (result : Option Reloc) → result ≡ find (has_name token) kinds → Reads Always reloc_text token result
  kind_read result is = record {
    some = subst (λ (r : Option Reloc). IfSome r IsNamed) (sym is) (named kinds);
    only = λ kind fits name. is ∙ ap (λ (t : List ℕ). find (has_name t) kinds) name ∙ found kind;
  }
