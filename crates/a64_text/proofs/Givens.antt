-- The names that a file gives at most once, as the reader keeps them.
use Rattle.std.proofs.Common.{◌≡◌, ℕ, ◌<◌, zero, suc, Bool, true, false, cond, not, List, [], ◌∷◌, length, get_or, refl, sym, ap, ◌∙◌, subst, arith, inl, inr, ◌⊎◌, ⊎_elim, Option, None, Some}
use Rattle.std.specs.Prelude.{IfSome, IsSomeAnd}
use Rattle.std.specs.BTreeSet.{BTreeSet, contains, Updates}
use Rattle.std.specs.BTreeMap.{is_at}
use Rattle.std.specs.Cmp.{Equal-is, tied_itself}
use Rattle.std.specs.FinMap.{nat_cmp-IsAntisymmetric}
use Rattle.std.specs.Ordering.{nat_cmp, is_eq}
use Rattle.std.specs.List.{Contains}
use Rattle.std.proofs.lemmas.Bool.{false≢true}
use Rattle.a64_text.specs.declared.entry.Entry.{Entry}
use Rattle.a64_text.specs.declared.entry.OnceName.{OnceName}
use Rattle.a64_text.specs.declared.entry.OnceName.TheVariants.{Constant, Frame, Flag}
use Rattle.a64_text.specs.contracts.entry.OnceNameOrd.TheImpl.Laws.{total-law}
use Rattle.a64_tokens.specs.declared.emit_flag.EmitFlag.{EmitFlag}
use Rattle.a64_tokens.specs.declared.emit_flag.EmitFlag.TheVariants as emit_flags
use Rattle.a64_tokens.specs.contracts.emit_flag.EmitFlagOrd.TheImpl as flag_order
use Rattle.a64_tokens.specs.declared.frame_field.FrameField.{FrameField}
use Rattle.a64_tokens.specs.declared.frame_field.FrameField.TheVariants as frame_fields
use Rattle.a64_tokens.specs.contracts.frame_field.FrameFieldOrd.TheImpl as field_order
use Rattle.a64_text.specs.declared.state.ReaderState.{ReaderState}
use Rattle.a64_tokens.specs.Reads.{Reads}
use Rattle.a64_text.specs.Tokens.{line_of, IsEntry}
use Rattle.a64_text.specs.States.{contents_of, once_name, said, MayStand}
use Rattle.a64_text.specs.AddsLine.{once_cmp, HasNames, AddsName, AddsNothing, Added}

-- ---- names tie where they are equal: a line for each

field_ties : (a b : FrameField) → is_at ((field_order.ghosts).cmp a) b ≡ true → a ≡ b
field_ties frame_fields.SetupAreaSize frame_fields.SetupAreaSize e = refl
field_ties frame_fields.TailArgsSize frame_fields.TailArgsSize e = refl
field_ties frame_fields.ClobberSize frame_fields.ClobberSize e = refl
field_ties frame_fields.FixedFrameStorageSize frame_fields.FixedFrameStorageSize e = refl
field_ties frame_fields.OutgoingArgsSize frame_fields.OutgoingArgsSize e = refl
field_ties _ _ e = absurd (false≢true e)

flag_ties : (a b : EmitFlag) → is_at ((flag_order.ghosts).cmp a) b ≡ true → a ≡ b
flag_ties emit_flags.EnableProbestack emit_flags.EnableProbestack e = refl
flag_ties emit_flags.EnableTableAccessSpectreMitigation emit_flags.EnableTableAccessSpectreMitigation e = refl
flag_ties emit_flags.UseCsdb emit_flags.UseCsdb e = refl
flag_ties _ _ e = absurd (false≢true e)

ties : (a b : OnceName) → is_at (once_cmp a) b ≡ true → a ≡ b
ties (Constant a) (Constant b) e = ap Constant (nat_cmp-IsAntisymmetric a b ((Equal-is (nat_cmp a b)).0 e))
ties (Frame a) (Frame b) e = ap Frame (field_ties a b e)
ties (Flag a) (Flag b) e = ap Flag (flag_ties a b e)
ties _ _ e = absurd (false≢true e)

ties_itself : (a : OnceName) → is_at (once_cmp a) a ≡ true
ties_itself a = ap is_eq (tied_itself total-law a)

-- ---- lists of names

there : (name : OnceName) (names : List OnceName) → Contains (name ∷ names) name
there name names = (zero, omega arith, refl)

behind : (first name : OnceName) (names : List OnceName) → Contains names name → Contains (first ∷ names) name
behind first name names h = (suc h.0, omega (arith, h.1), h.2)

at : (first name : OnceName) (names : List OnceName) (k : ℕ) → k < length (first ∷ names) → get_or (first ∷ names) k name ≡ name → (first ≡ name) ⊎ Contains names name
at first name names zero l e = inl e
at first name names (suc k) l e = inr (k, omega (arith, l), e)

first_or : (first name : OnceName) (names : List OnceName) → Contains (first ∷ names) name → (first ≡ name) ⊎ Contains names name
first_or first name names h = at first name names h.0 h.1 h.2

-- ---- a set that gets a name

passes : (tie old : Bool) (new : Bool) → new ≡ cond tie true old → (tie ≡ true) ⊎ (old ≡ true) → new ≡ true
passes true old new e h = e
passes false old new e (inl h) = absurd (false≢true h)
passes false old new e (inr h) = e ∙ h

passed : (tie old : Bool) (new : Bool) → new ≡ cond tie true old → new ≡ true → (tie ≡ true) ⊎ (old ≡ true)
passed true old new e h = inl refl
passed false old new e h = inr (sym e ∙ h)

has_more : (old new : BTreeSet OnceName) (name : OnceName) (names : List OnceName) → HasNames old names → Updates once_cmp old new name true → HasNames new (name ∷ names)
has_more old new name names h u q = (
  λ yes. ⊎_elim
      (λ tie. subst (λ (n : OnceName). Contains (name ∷ names) n) (ties name q tie) (there name names))
      (λ was. behind name q names ((h q).0 was))
      (passed (is_at (once_cmp name) q) (contains once_cmp old q) (contains once_cmp new q) (u.0 q) yes),
  λ c. passes (is_at (once_cmp name) q) (contains once_cmp old q) (contains once_cmp new q) (u.0 q)
      (⊎_elim
      (λ same. inl (subst (λ (n : OnceName). is_at (once_cmp name) n ≡ true) same (ties_itself name)))
      (λ was. inr ((h q).1 was))
      (first_or name q names c)),
)

new_name : (had : Bool) → true ≡ not had → had ≡ true → ⊥
new_name true e h = false≢true (sym e)
new_name false e h = false≢true h

old_name : (had : Bool) → false ≡ not had → had ≡ true
old_name true e = refl
old_name false e = absurd (false≢true e)

pub adds_name : (old new : BTreeSet OnceName) (name : OnceName) (added : Bool) → added ≡ not (contains once_cmp old name) → Updates once_cmp old new name true → AddsName old new (Some name) added
adds_name old new name true e u = λ names h. (λ c. new_name (contains once_cmp old name) e ((h name).1 c), has_more old new name names h u)
adds_name old new name false e u = λ names h. (h name).0 (old_name (contains once_cmp old name) e)

pub has_none : (set : BTreeSet OnceName) → set.keys ≡ [] → HasNames set []
has_none set e q = (λ yes. absurd (false≢true (rw e at yes)), λ c. absurd (omega (arith, c.1)))

-- ---- a line

pub at_answer : (old new : BTreeSet OnceName) (given name : Option OnceName) (answer want : Bool) → given ≡ name → answer ≡ want → AddsName old new given answer → AddsName old new name want
at_answer old new given name answer want same is h = subst (λ (n : Option OnceName). AddsName old new n want) same (subst (λ (b : Bool). AddsName old new given b) is h)

pub added : (old new : ReaderState) (line : List ℕ) (entry : Entry) (name : Option OnceName) (answer : Bool) → Reads IsEntry line_of line (Some entry) → name ≡ once_name entry → AddsName old.given new.given name answer → answer ≡ true → contents_of new.file ≡ said entry (contents_of old.file) → (e : Entry) × Added old new line e
added old new line entry name answer read same adds is says =
    let names = at_answer old.given new.given name (once_name entry) answer true same is adds in (
      entry,
      record {
        read = read;
        stands = λ state h. (names state.given h.given).0;
        holds = λ state h. record { file = says ∙ ap (said entry) h.file; given = (names state.given h.given).1 };
      },
    )

clash : (name : Option OnceName) (names : List OnceName) → IsSomeAnd name (Contains names) → IfSome name (λ n. ¬ Contains names n) → ⊥
clash None names h k = h
clash (Some name) names h k = k h

pub not_added : (old : ReaderState) (given : BTreeSet OnceName) (line : List ℕ) (entry : Entry) (name : Option OnceName) (answer : Bool) → Reads IsEntry line_of line (Some entry) → name ≡ once_name entry → AddsName old.given given name answer → answer ≡ false → AddsNothing old line
not_added old given line entry name answer read same adds is e fits text state h stands =
    let names = at_answer old.given given name (once_name entry) answer false same is adds in
    let one : Some entry ≡ Some e = read.only e fits text in
    let equal : entry ≡ e = cc in
    clash (once_name entry) state.given (names state.given h.given) (subst (λ (w : Entry). MayStand state w) (sym equal) stands)

-- the line is no entry
pub no_entry : (old : ReaderState) (line : List ℕ) → Reads IsEntry line_of line None → AddsNothing old line
no_entry old line read e fits text state h stands = let none : None ≡ Some e = read.only e fits text in cc
