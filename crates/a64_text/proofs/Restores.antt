-- Lines of instructions that are restored.
use Rattle.std.proofs.Common.{◌≡◌, ◌==◌, ℕ, Bool, true, false, List, [], ◌∷◌, ◌++◌, get_or, drop, Option, Some, None, length, length-append, map, refl, sym, ap, subst, ◌∙◌, arith}
use Rattle.std.specs.Prelude.{codes, IfSome}
use Rattle.std.specs.List.{join_with_byte, slice_split}
use Rattle.std.proofs.lemmas.Bool.{false≢true}
use Rattle.std.proofs.lemmas.List.Splits.{join_with_byte-slice_split}
use Rattle.a64_inst.specs.declared.inst.Inst.{Inst}
use Rattle.a64_inst.specs.declared.item.Item.{Item}
use Rattle.a64_inst.specs.declared.item.Item.TheVariants.{Emit}
use Rattle.a64_text.specs.declared.entry.Entry.{Entry}
use Rattle.a64_text.specs.declared.entry.Entry.TheVariants as entries
use Rattle.a64_text.specs.declared.name.Name.{Name}
use Rattle.a64_text.specs.declared.state.ReaderState.{ReaderState}
use Rattle.a64_tokens.specs.declared.value.Value.{Value}
use Rattle.a64_text.specs.AddsLine.{Added, AddsEntry, AddsMade, AddsNamed, AddsNothing, AddsRestored, Holds, IsBehindRestore, PopsInst, RestoresLast}
use Rattle.a64_text.specs.Makers.{fields_kinds, made_only, made_some, name_first, IsMade}
use Rattle.a64_text.specs.Makes.{emitted, Makes}
use Rattle.a64_text.specs.Names.{kinds_of, name_text, names_inst}
use Rattle.a64_tokens.specs.Reads.{Reads}
use Rattle.a64_tokens.specs.SplitLaws.{split_at}
use Rattle.a64_tokens.specs.Splitting.{first, first_line, lines_behind, others}
use Rattle.a64_text.specs.States.{contents_of, once_name, said, Contents, State}
use Rattle.a64_text.specs.Tokens.{fields_of, line_of, name_of, plain_line, IsEntry, IsPlain}
use Rattle.a64_read.specs.Values.{kind_of}
use Rattle.a64_text.proofs.Givens.{added, at_answer}
use Rattle.a64_text.proofs.LineReads.{line_made, line_none, line_split, ReadsLine}
use Rattle.a64_tokens.proofs.Splits.{front_split, lines_whole}

-- ---- the word and the lines of a text

pub first_behind : (rest : List ℕ) → first_line (codes "restore " ++ rest) ≡ codes "restore " ++ first_line rest
first_behind rest = ap first (front_split 10 (codes "restore ") rest refl)

pub lines_same : (rest : List ℕ) → lines_behind (codes "restore " ++ rest) ≡ lines_behind rest
lines_same rest = ap others (front_split 10 (codes "restore ") rest refl)

-- a text whose first line begins with the word does too
module _ (text line : List ℕ) (other : IsBehindRestore text None) where
  no_word : (behind : List (List ℕ)) → text ≡ join_with_byte 10 (line ∷ behind) → (rest : List ℕ) → line ≡ codes "restore " ++ rest → ⊥
  no_word [] e rest is = other rest (e ∙ is)
  no_word (l ∷ ls) e rest is = other (rest ++ 10 ∷ join_with_byte 10 (l ∷ ls)) (e ∙ ap (λ (t : List ℕ). t ++ 10 ∷ join_with_byte 10 (l ∷ ls)) is)

pub other_line : (text : List ℕ) → IsBehindRestore text None → (rest : List ℕ) → first_line text ≡ codes "restore " ++ rest → ⊥
other_line text other = no_word text (first_line text) other (lines_behind text) (sym (join_with_byte-slice_split 10 text) ∙ ap (λ (ls : List (List ℕ)). join_with_byte 10 ls) (lines_whole text))

-- ---- other entries are no such lines

plain_no_word : (entry : Entry) → IsPlain entry → (rest : List ℕ) → plain_line entry ≡ codes "restore " ++ rest → ⊥
plain_no_word entry is rest e =
    let tokens : name_text (name_of entry) ∷ _ ≡ codes "restore" ∷ slice_split (λ b. b == 32) rest = sym (line_split (plain_line entry) entry is refl) ∙ ap (λ (t : List ℕ). slice_split (λ b. b == 32) t) e ∙ split_at 32 (codes "restore") rest refl in
    let name : name_text (name_of entry) ≡ codes "restore" = cc in
    false≢true (sym (name_first (name_of entry)) ∙ ap (λ (t : List ℕ). get_or t 0 0 == 114) name)

plain_is : (entry : Entry) → IsPlain entry → IsEntry entry × (plain_line entry ≡ line_of entry)
plain_is (entries.Item item) is = (is, refl)
plain_is (entries.Constant addr bytes) is = (is, refl)
plain_is (entries.Frame field bytes) is = (is, refl)
plain_is (entries.Flag flag) is = (is, refl)
plain_is (entries.Restore inst) is = absurd is.own

module _ (line : List ℕ) (other : (rest : List ℕ) → line ≡ codes "restore " ++ rest → ⊥) where
  some_plain : (r : Option Entry) → IfSome r (λ entry. IsPlain entry × (line ≡ plain_line entry)) → IfSome r (λ entry. IsEntry entry × (line ≡ line_of entry))
  some_plain None h = tt
  some_plain (Some entry) h = let is = plain_is entry h.0 in (is.0, h.1 ∙ is.1)

  only_plain : (r : Option Entry) → Reads IsPlain plain_line line r → (entry : Entry) → IsEntry entry → line ≡ line_of entry → r ≡ Some entry
  only_plain r h (entries.Item item) is e = h.only (entries.Item item) is e
  only_plain r h (entries.Constant addr bytes) is e = h.only (entries.Constant addr bytes) is e
  only_plain r h (entries.Frame field bytes) is e = h.only (entries.Frame field bytes) is e
  only_plain r h (entries.Flag flag) is e = h.only (entries.Flag flag) is e
  only_plain r h (entries.Restore inst) is e = absurd (other (plain_line (emitted inst)) e)

  pub plain_read : (r : Option Entry) → Reads IsPlain plain_line line r → Reads IsEntry line_of line r
  plain_read r h = record { some = some_plain r h.some; only = only_plain r h }

-- ---- behind the word stands an instruction

module _ (line : List ℕ) where
  -- what is restored has the line behind the word
  its_inst : (entry : Entry) → IsEntry entry → codes "restore " ++ line ≡ line_of entry → (inst : Inst) × (entry ≡ entries.Restore inst) × IsPlain (emitted inst) × (line ≡ plain_line (emitted inst))
  its_inst (entries.Restore inst) is e = (inst, refl, is, ap (λ (t : List ℕ). drop 8 t) e)
  its_inst (entries.Item item) is e = absurd (plain_no_word (entries.Item item) is line (sym e))
  its_inst (entries.Constant addr bytes) is e = absurd (plain_no_word (entries.Constant addr bytes) is line (sym e))
  its_inst (entries.Frame field bytes) is e = absurd (plain_no_word (entries.Frame field bytes) is line (sym e))
  its_inst (entries.Flag flag) is e = absurd (plain_no_word (entries.Flag flag) is line (sym e))

  restored_read : (inst : Inst) → Reads IsPlain plain_line line (Some (emitted inst)) → Reads IsEntry line_of (codes "restore " ++ line) (Some (entries.Restore inst))
  restored_read inst h = record {
    some = (h.some.0, ap (λ (t : List ℕ). codes "restore " ++ t) h.some.1);
    only = λ entry is e.
        let its = its_inst entry is e in
        let found : Some (emitted inst) ≡ Some (emitted its.0) = h.only (emitted its.0) its.2 its.3 in
        let same : inst ≡ its.0 = cc in
        ap (λ (i : Inst). Some (entries.Restore i)) same ∙ ap (λ (x : Entry). Some x) (sym its.1);
  }

  module _ (old new : ReaderState) where
    pub no_restored : ReadsLine line None → AddsNothing old (codes "restore " ++ line)
    no_restored h entry is e state holds stands =
        let its = its_inst entry is e in
        let found : None ≡ Some (emitted its.0) = (line_none line h).only (emitted its.0) its.2 its.3 in
        cc

    module _ (name : Name) (values fields : List Value) (reads : ReadsLine line (Some (name, values))) (same : fields ≡ values) where
      pub restored_added : AddsRestored name fields old new true → (entry : Entry) × Added old new (codes "restore " ++ line) entry
      restored_added h =
          let read = restored_read h.0 (line_made line name values fields (Some (emitted h.0)) (Some (emitted h.0)) reads same refl h.1) in
          added old new (codes "restore " ++ line) (entries.Restore h.0) None true read refl h.2.0 refl (h.2.1 refl)

      pub restored_refused : AddsRestored name fields old new false → AddsNothing old (codes "restore " ++ line)
      restored_refused h entry is e state holds stands =
          let its = its_inst entry is e in
          let tokens = sym (line_split (plain_line (emitted its.0)) (emitted its.0) its.2 refl) in
          let found : Some (name, values) ≡ Some (name_of (emitted its.0), fields_of (emitted its.0)) =
          reads.only (name_of (emitted its.0), fields_of (emitted its.0)) (fields_kinds (emitted its.0), its.2.fields) (ap (λ (t : List ℕ). slice_split (λ b. b == 32) t) its.3 ∙ sym tokens) in
          let both : (name, values) ≡ (name_of (emitted its.0), fields_of (emitted its.0)) = cc in
          h its.0 its.2 (sym (ap (λ (p : Name × List Value). p.0) both)) (sym (ap (λ (p : Name × List Value). p.1) both) ∙ sym same) state holds

-- ---- what was put behind the items is taken off again

last_same : {A : Type 0} (xs ys : List A) (x y : A) → xs ++ x ∷ [] ≡ ys ++ y ∷ [] → (xs ≡ ys) × (x ≡ y)
last_same [] [] x y e = let same : x ≡ y = cc in (refl, same)
last_same [] (b ∷ ys) x y e = absurd (omega (arith, ap (λ l. length l) e, length-append ys (y ∷ [])))
last_same (a ∷ xs) [] x y e = absurd (omega (arith, ap (λ l. length l) e, length-append xs (x ∷ [])))
last_same {A} (a ∷ xs) (b ∷ ys) x y e =
    let first : a ≡ b = cc in
    let others : xs ++ x ∷ [] ≡ ys ++ y ∷ [] = cc in
    let both = last_same xs ys x y others in
    (ap (λ (c : A). c ∷ xs) first ∙ ap (λ (l : List A). b ∷ l) both.0, both.1)

module _ (name : Name) (values : List Value) (old : ReaderState) where
  module _ (mid new : ReaderState) (inst : Inst) (plain : IsPlain (emitted inst)) (its_name : name_of (emitted inst) ≡ name) (its_fields : fields_of (emitted inst) ≡ values) where
    its_entry : (r : Option Entry) → Makes name values r → r ≡ Some (emitted inst)
    its_entry r makes = made_only (emitted inst) values r (subst (λ (n : Name). Makes n values r) (sym its_name) makes) plain.fields plain.own its_fields

    refused_twice : (r : Option Entry) (made : Bool) → AddsEntry r old mid made → made ≡ false → r ≡ Some (emitted inst) → (state : State) → ¬ Holds old state
    refused_twice None made adds failed is state holds = cc
    refused_twice (Some entry) made adds failed is state holds =
        let same : entry ≡ emitted inst = cc in
        at_answer old.given mid.given (once_name entry) None made false (ap once_name same) failed adds.0 state.given holds.given

    none_popped : (r : Option Entry) → AddsEntry r old mid true → r ≡ Some (emitted inst) → PopsInst mid.file.items.items new.file.items.items None → ⊥
    none_popped None adds is pops = cc
    none_popped (Some entry) adds is pops =
        let same : entry ≡ emitted inst = cc in
        pops old.file.items.items inst (ap (λ (c : Contents). c.items) (adds.1 refl ∙ ap (λ (e : Entry). said e (contents_of old.file)) same))

  not_made : (mid : ReaderState) (made : Bool) → made ≡ false → AddsMade name values old mid made → AddsRestored name values old mid false
  not_made mid made failed h inst plain its_name its_fields = refused_twice mid mid inst plain its_name its_fields h.0 made h.2 failed (its_entry mid mid inst plain its_name its_fields h.0 h.1)

  not_popped : (mid new : ReaderState) → AddsMade name values old mid true → PopsInst mid.file.items.items new.file.items.items None → AddsRestored name values old new false
  not_popped mid new h pops inst plain its_name its_fields state holds = none_popped mid new inst plain its_name its_fields h.0 h.2 (its_entry mid new inst plain its_name its_fields h.0 h.1) pops

  module _ (mid : ReaderState) (items : List Item) (inst : Inst) (named : names_inst name ≡ true) (are : map kind_of values ≡ kinds_of name) (pops : mid.file.items.items ≡ items ++ Emit inst None ∷ []) where
    its_item : (entry : Entry) → IsMade name values entry → contents_of mid.file ≡ said entry (contents_of old.file) → (items ≡ old.file.items.items) × (entry ≡ emitted inst)
    its_item (entries.Item item) m says =
        let both = last_same items old.file.items.items (Emit inst None) item (sym pops ∙ ap (λ (c : Contents). c.items) says) in
        (both.0, ap (λ (i : Item). entries.Item i) (sym both.1))
    its_item (entries.Constant addr bytes) m says = absurd (false≢true (ap names_inst m.0 ∙ named))
    its_item (entries.Frame field bytes) m says = absurd (false≢true (ap names_inst m.0 ∙ named))
    its_item (entries.Flag flag) m says = absurd (false≢true (ap names_inst m.0 ∙ named))
    its_item (entries.Restore i) m says = absurd m.2

    module _ (new : ReaderState) (given : new.given ≡ mid.given) (says : contents_of new.file ≡ said (entries.Restore inst) (record (contents_of mid.file) { items = items })) where
      popped : (r : Option Entry) → Makes name values r → AddsEntry r old mid true → AddsRestored name values old new true
      popped None makes adds = absurd (false≢true (sym adds))
      popped (Some entry) makes adds =
          let its = its_item entry (made_some name values (Some entry) makes are) (adds.1 refl) in
          let mid_is : contents_of mid.file ≡ said (emitted inst) (contents_of old.file) = adds.1 refl ∙ ap (λ (e : Entry). said e (contents_of old.file)) its.1 in (
            inst,
            ap_makes entry makes its.1,
            (
              λ names h. let m = at_answer old.given mid.given (once_name entry) None true true (ap once_name its.1) refl adds.0 names h in (tt, rw given m.1),
              λ yes. says ∙ ap (λ (c : Contents). said (entries.Restore inst) (record c { items = items })) mid_is
                  ∙ ap (λ (l : List Item). said (entries.Restore inst) (record (contents_of old.file) { items = l })) its.0,
            ),
          )
        where
          ap_makes : (entry : Entry) → Makes name values (Some entry) → entry ≡ emitted inst → Makes name values (Some (emitted inst))
          ap_makes entry makes is = subst (λ (e : Entry). Makes name values (Some e)) is makes

      is_restored : AddsMade name values old mid true → AddsRestored name values old new true
      is_restored h = popped h.0 h.1 h.2

-- ---- what a name adds, restored or not

module _ (name : Name) (values : List Value) (old mid : ReaderState) where
  pub none_made : (restored made : Bool) → made ≡ false → AddsMade name values old mid made → AddsNamed restored name values old mid false
  none_made false made failed h = subst (λ (b : Bool). AddsMade name values old mid b) failed h
  none_made true made failed h = not_made name values old mid made failed h

  module _ (named : names_inst name ≡ true) (are : map kind_of values ≡ kinds_of name) (h : AddsMade name values old mid true) (new : ReaderState) where
    last_restored : (made : Bool) → RestoresLast mid new made → AddsRestored name values old new made
    last_restored false none = not_popped name values old mid new h none
    last_restored true last = is_restored name values old mid last.0 last.1 named are last.2 new last.3 last.4 h

    pub named_restored : (restored made : Bool) → restored ≡ true → RestoresLast mid new made → AddsNamed restored name values old new made
    named_restored false made is last = absurd (false≢true is)
    named_restored true made is last = last_restored made last
