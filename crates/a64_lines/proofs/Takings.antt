-- What a line says, and nothing else.
use Rattle.std.proofs.Common.{◌≡◌, inl, inr, ℕ, List, Some, None, true, false, refl, sym, ap, subst, ◌∙◌}
use Rattle.a64_lines.specs.Entries.{BeginsWith, SaysBut, SaysEntry}
use Rattle.a64_lines.specs.Lines.{Takes}
use Rattle.a64_tokens.specs.Reads.{Reads}

module _ {E T : Type 0} (fits : E → Type 0) (line_of : E → List ℕ) (stands_behind : T → E → Type 0) (said : E → T → T) (passed : List (List ℕ))
    (never_both : (line : List ℕ) (e : E) → BeginsWith line passed → line ≡ line_of e → ⊥) (line : List ℕ) (old : T) where
  abbrev says : List ℕ → T → T → Type 0
  says = SaysBut fits line_of stands_behind said passed

  -- a line that is passed says nothing
  pub passed_taken : BeginsWith line passed → Takes says line old old true
  passed_taken begins = (inl (begins, refl), same)
    where
      same : (other : T) → says line old other → other ≡ old
      same other (inl h) = h.1
      same other (inr s) = absurd (never_both line s.entry begins s.text)

  module _ (meant : BeginsWith line passed → ⊥) where
    -- a line of no entry says nothing
    pub no_entry : Reads fits line_of line None → Takes says line old old false
    no_entry read = never
      where
        never : (other : T) → says line old other → ⊥
        never other (inl h) = meant h.0
        never other (inr s) = let e = read.only s.entry s.fits_in s.text in absurd cc

    module _ (entry : E) (read : Reads fits line_of line (Some entry)) where
      only : (other : T) (s : SaysEntry fits line_of stands_behind said line old other) → entry ≡ s.entry
      only other s = let e = read.only s.entry s.fits_in s.text in cc

      -- nor does one of an entry that may not stand there
      pub no_room : (stands_behind old entry → ⊥) → Takes says line old old false
      no_room out = never
        where
          never : (other : T) → says line old other → ⊥
          never other (inl h) = meant h.0
          never other (inr s) = out (subst (λ (e : E). stands_behind old e) (sym (only other s)) s.stands)

      -- one that may stand there is said
      pub entry_taken : (new : T) → stands_behind old entry → new ≡ said entry old → Takes says line old new true
      entry_taken new stands is = (inr (record { entry = entry; fits_in = read.some.0; text = read.some.1; stands = stands; is = is }), same)
        where
          same : (other : T) → says line old other → other ≡ new
          same other (inl h) = absurd (meant h.0)
          same other (inr s) = s.is ∙ ap (λ (e : E). said e old) (sym (only other s)) ∙ sym is
