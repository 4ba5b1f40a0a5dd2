-- What words are read as.
use Rattle.std.proofs.Common.{◌≡◌, ◌≢◌, ℕ, ◌+◌, ◌-◌, if◌then◌else◌, ◌==◌, ◌<◌, ◌≤◌, List, [], ◌∷◌, String, codes, map, length, get_or, take, drop, Option, None, Some, option_map, Result, Ok, Err, refl, sym, ap, ◌∙◌, subst, inl, inr, arith, length-drop}
use Rattle.std.specs.Fmt.{decimal}
use Rattle.std.specs.String.{string_bytes}
use Rattle.std.specs.Str.Parse.{AllDigits, digits_value, ParsesUnsigned}
use Rattle.std.proofs.lemmas.List.{take_all}
use Rattle.std.proofs.lemmas.Fmt.{parse-decimal, decimal-digits_value, first_decimal}
use Rattle.std.proofs.lemmas.Str.Parse.{IsNumeralModel, numerals_by_value, tells_digits, parse_plain}
use Rattle.a64_buffer.specs.declared.force.ForceVeneers.{ForceVeneers}
use Rattle.a64_buffer.specs.declared.force.ForceVeneers.TheVariants.{No, Yes}
use Rattle.a64_tokens.specs.Reads.{Reads, Always}
use Rattle.a64_run.specs.declared.command.Command.{Command}
use Rattle.a64_run.specs.declared.command.Command.TheVariants.{Asm, Gen}
use Rattle.a64_run.specs.declared.command.Command.TheVariants as commands
use Rattle.a64_run.specs.Commands.{alone_name, force_words, IsCount, IsCommand}
use Rattle.a64_run.specs.Stages.{ReadsCommand}

-- ---- the words behind a command

pub no_force : (words : List (List ℕ)) → words ≡ [] → Reads Always force_words words (Some No)
no_force words e = subst (λ ws. Reads Always force_words ws (Some No)) (sym e) (record { some = (tt, refl); only = only })
  where
    only : (force : ForceVeneers) → Always force → [] ≡ force_words force → Some No ≡ Some force
    only No a is = refl
    only Yes a is = absurd cc

pub with_force : (words : List (List ℕ)) → words ≡ codes "force" ∷ [] → Reads Always force_words words (Some Yes)
with_force words e = subst (λ ws. Reads Always force_words ws (Some Yes)) (sym e) (record { some = (tt, refl); only = only })
  where
    only : (force : ForceVeneers) → Always force → codes "force" ∷ [] ≡ force_words force → Some Yes ≡ Some force
    only No a is = absurd cc
    only Yes a is = refl

pub other_words : (words : List (List ℕ)) → words ≢ [] → words ≢ codes "force" ∷ [] → Reads Always force_words words None
other_words words some other = record { some = tt; only = only }
  where
    only : (force : ForceVeneers) → Always force → words ≡ force_words force → None ≡ Some force
    only No a is = absurd (some is)
    only Yes a is = absurd (other is)

-- ---- a number of turns

own : IsNumeralModel (AllDigits 10) (digits_value 10)
own = numerals_by_value (AllDigits 10) tells_digits

pub count_read : (token : List ℕ) (n : ℕ) → 48 < get_or token 0 0 → ParsesUnsigned {E = ℕ} 32 10 token (Ok n) → IsCount n → Reads IsCount decimal token (Some n)
count_read token n first parses count =
    let whole = parse_plain own {E = ℕ} 32 token (Ok n) parses (λ e. omega arith) in
    record {
      some = (count, sym (decimal-digits_value own token whole.0.0 whole.0.1 (λ e. absurd (omega arith)) (omega (arith, whole.0.2))) ∙ ap decimal (sym whole.1));
      only = λ m is e. let same : ◌≡◌ {A = Result ℕ ℕ} (Ok n) (Ok m) = parse-decimal 32 m token (Ok n) (omega (arith, is.1)) (omega (arith, is.1)) e parses in cc;
    }

-- text that is no number of 32 bits, and a number that is too small or too large
pub count_unread : (token : List ℕ) → ParsesUnsigned {E = ℕ} 32 10 token (Err 0) → Reads IsCount decimal token None
count_unread token parses =
    record {
      some = tt;
      only = λ m is e. absurd (let same : ◌≡◌ {A = Result ℕ ℕ} (Err 0) (Ok m) = parse-decimal 32 m token (Err 0) (omega (arith, is.1)) (omega (arith, is.1)) e parses in cc);
    }

pub count_outside : (token : List ℕ) (n : ℕ) → ParsesUnsigned {E = ℕ} 32 10 token (Ok n) → ¬ IsCount n → Reads IsCount decimal token None
count_outside token n parses outside =
    record {
      some = tt;
      only = λ m is e. absurd (
          let same : ◌≡◌ {A = Result ℕ ℕ} (Ok n) (Ok m) = parse-decimal 32 m token (Ok n) (omega (arith, is.1)) (omega (arith, is.1)) e parses in
          let equal : n ≡ m = cc in
          outside (subst IsCount (sym equal) is)
          );
    }

-- text that begins with no digit, or with a 0
pub count_begins : (token : List ℕ) → get_or token 0 0 ≤ 48 → Reads IsCount decimal token None
count_begins token h = record { some = tt; only = λ m is e. absurd (let f = first_decimal m is.0 (omega (arith, is.1)) in let g = ap (λ t. get_or t 0 0) e in omega arith) }

pub count_empty : (token : List ℕ) → length token < 1 → Reads IsCount decimal token None
count_empty [] h = count_begins [] (omega arith)
count_empty (byte ∷ token) h = absurd (omega arith)

-- ---- the command

-- a command whose name is `asm`, by the words behind the name
record IsAsm (rest : List (List ℕ)) (command : Command) : Type 0 where
  force : ForceVeneers
  is : command ≡ Asm force
  rest_is : rest ≡ force_words force

only_asm : (rest : List (List ℕ)) (command : Command) → IsCommand (codes "asm" ∷ rest) command → IsAsm rest command
only_asm rest (Asm force) (inl h) = absurd (let empty = h.1 in cc)
only_asm rest (Asm force) (inr h) = record { force = force; is = refl; rest_is = ap (drop 1) h }
only_asm rest (Gen count force) h = absurd (let first = ap (λ ws. get_or (get_or ws 0 []) 0 0) h.1 in omega arith)
only_asm rest commands.List h = absurd (let first = ap (λ ws. get_or (get_or ws 0 []) 0 0) h in omega arith)
only_asm rest commands.Roles h = absurd (let first = ap (λ ws. get_or (get_or ws 0 []) 0 0) h in omega arith)
only_asm rest commands.Audit h = absurd (let first = ap (λ ws. get_or (get_or ws 0 []) 1 0) h in omega arith)
only_asm rest commands.Dis h = absurd (let first = ap (λ ws. get_or (get_or ws 0 []) 0 0) h in omega arith)
only_asm rest commands.Undis h = absurd (let first = ap (λ ws. get_or (get_or ws 0 []) 0 0) h in omega arith)
only_asm rest commands.Link h = absurd (let first = ap (λ ws. get_or (get_or ws 0 []) 0 0) h in omega arith)
only_asm rest commands.Stubs h = absurd (let first = ap (λ ws. get_or (get_or ws 0 []) 0 0) h in omega arith)

pub asm_read : (rest : List (List ℕ)) (force : ForceVeneers) → Reads Always force_words rest (Some force) → ReadsCommand (codes "asm" ∷ rest) (Some (Asm force))
asm_read rest force h =
    record {
      some = inr (ap (λ ws. codes "asm" ∷ ws) h.some.1);
      only = λ command is. let a = only_asm rest command is in ap (option_map Asm) (h.only a.force tt a.rest_is) ∙ ap (λ c. Some c) (sym a.is);
    }

pub asm_unread : (rest : List (List ℕ)) → Reads Always force_words rest None → ReadsCommand (codes "asm" ∷ rest) None
asm_unread rest h =
    record { some = tt; only = λ command is. let a = only_asm rest command is in ap (option_map Asm) (h.only a.force tt a.rest_is) ∙ ap (λ c. Some c) (sym a.is) }

-- a command whose name is `gen`, by the words behind the name
record IsGen (rest : List (List ℕ)) (command : Command) : Type 0 where
  count : ℕ
  force : ForceVeneers
  is : command ≡ Gen count force
  fits : IsCount count
  rest_is : rest ≡ decimal count ∷ force_words force

only_gen : (rest : List (List ℕ)) (command : Command) → IsCommand (codes "gen" ∷ rest) command → IsGen rest command
only_gen rest (Asm force) (inl h) = absurd (let empty = h.1 in cc)
only_gen rest (Asm force) (inr h) = absurd (let first = ap (λ ws. get_or (get_or ws 0 []) 0 0) h in omega arith)
only_gen rest (Gen count force) h = record { count = count; force = force; is = refl; fits = h.0; rest_is = ap (drop 1) h.1 }
only_gen rest commands.List h = absurd (let first = ap (λ ws. get_or (get_or ws 0 []) 0 0) h in omega arith)
only_gen rest commands.Roles h = absurd (let first = ap (λ ws. get_or (get_or ws 0 []) 0 0) h in omega arith)
only_gen rest commands.Audit h = absurd (let first = ap (λ ws. get_or (get_or ws 0 []) 0 0) h in omega arith)
only_gen rest commands.Dis h = absurd (let first = ap (λ ws. get_or (get_or ws 0 []) 0 0) h in omega arith)
only_gen rest commands.Undis h = absurd (let first = ap (λ ws. get_or (get_or ws 0 []) 0 0) h in omega arith)
only_gen rest commands.Link h = absurd (let first = ap (λ ws. get_or (get_or ws 0 []) 0 0) h in omega arith)
only_gen rest commands.Stubs h = absurd (let first = ap (λ ws. get_or (get_or ws 0 []) 0 0) h in omega arith)

pub gen_read : (token : List ℕ) (rest : List (List ℕ)) (count : ℕ) (force : ForceVeneers) → Reads IsCount decimal token (Some count) → Reads Always force_words rest (Some force) → ReadsCommand (codes "gen" ∷ token ∷ rest) (Some (Gen count force))
gen_read token rest count force h k =
    record {
      some = (h.some.0, ap (λ t. codes "gen" ∷ t ∷ rest) h.some.1 ∙ ap (λ ws. codes "gen" ∷ decimal count ∷ ws) k.some.1);
      only = λ command is.
          let g = only_gen (token ∷ rest) command is in
          let count_is : ◌≡◌ {A = Option ℕ} (Some count) (Some g.count) = h.only g.count g.fits (ap (λ ws. get_or ws 0 []) g.rest_is) in
          let force_is : ◌≡◌ {A = Option ForceVeneers} (Some force) (Some g.force) = k.only g.force tt (ap (drop 1) g.rest_is) in
          let command_is = g.is in
          cc;
    }

pub gen_uncounted : (token : List ℕ) (rest : List (List ℕ)) → Reads IsCount decimal token None → ReadsCommand (codes "gen" ∷ token ∷ rest) None
gen_uncounted token rest h =
    record {
      some = tt;
      only = λ command is. absurd (
          let g = only_gen (token ∷ rest) command is in
          let none : ◌≡◌ {A = Option ℕ} None (Some g.count) = h.only g.count g.fits (ap (λ ws. get_or ws 0 []) g.rest_is) in
          cc
          );
    }

pub gen_unread : (token : List ℕ) (rest : List (List ℕ)) → Reads Always force_words rest None → ReadsCommand (codes "gen" ∷ token ∷ rest) None
gen_unread token rest h =
    record {
      some = tt;
      only = λ command is. absurd (
          let g = only_gen (token ∷ rest) command is in
          let none : ◌≡◌ {A = Option ForceVeneers} None (Some g.force) = h.only g.force tt (ap (drop 1) g.rest_is) in
          cc
          );
    }

pub gen_alone : ReadsCommand (codes "gen" ∷ []) None
gen_alone = record { some = tt; only = λ command is. absurd (let g = only_gen [] command is in let rest_is = g.rest_is in cc) }

-- ---- commands of one word alone

-- their names differ in the sum of the first letter and the third
abbrev tag : List ℕ → ℕ
tag name = get_or name 0 0 + get_or name 2 0

abbrev by_tag : ℕ → Option Command
by_tag n =
    if n == 223 then Some commands.List else
    if n == 222 then Some commands.Roles else
    if n == 197 then Some commands.Audit else
    if n == 215 then Some commands.Dis else
    if n == 217 then Some commands.Undis else
    if n == 218 then Some commands.Link else
    if n == 232 then Some commands.Stubs else None

found : (command : Command) (name : List ℕ) → alone_name command ≡ Some name → by_tag (tag name) ≡ Some command
found (Asm force) name is = absurd cc
found (Gen count force) name is = absurd cc
found commands.List name is = let same : codes "list" ≡ name = cc in ap (λ t. by_tag (tag t)) (sym same)
found commands.Roles name is = let same : codes "roles" ≡ name = cc in ap (λ t. by_tag (tag t)) (sym same)
found commands.Audit name is = let same : codes "audit" ≡ name = cc in ap (λ t. by_tag (tag t)) (sym same)
found commands.Dis name is = let same : codes "dis" ≡ name = cc in ap (λ t. by_tag (tag t)) (sym same)
found commands.Undis name is = let same : codes "undis" ≡ name = cc in ap (λ t. by_tag (tag t)) (sym same)
found commands.Link name is = let same : codes "link" ≡ name = cc in ap (λ t. by_tag (tag t)) (sym same)
found commands.Stubs name is = let same : codes "stubs" ≡ name = cc in ap (λ t. by_tag (tag t)) (sym same)

-- a command whose first word is that name is that one, and has no words behind the name
record IsThat (rest : List (List ℕ)) (command other : Command) : Type 0 where
  is : other ≡ command
  rest_is : rest ≡ []

module _ (name : List ℕ) (rest : List (List ℕ)) (command : Command) (is : alone_name command ≡ Some name) where
  -- two commands of one name are one
  one_name : (other : Command) (name' : List ℕ) → alone_name other ≡ Some name' → name ∷ rest ≡ name' ∷ [] → IsThat rest command other
  one_name other name' named h =
      let same : name ≡ name' = cc in
      let one : ◌≡◌ {A = Option Command} (Some other) (Some command) = sym (found other name' named) ∙ ap (λ t. by_tag (tag t)) (sym same) ∙ found command name is in
      record { is = cc; rest_is = ap (drop 1) h }

  -- and it is neither of these names
  no_tag : by_tag (tag name) ≡ None → ⊥
  no_tag none = let some = found command name is in absurd cc

  only_alone : (other : Command) → IsCommand (name ∷ rest) other → IsThat rest command other
  only_alone (Asm force) (inl h) = absurd (let empty = h.1 in cc)
  only_alone (Asm force) (inr h) = absurd (no_tag (ap (λ ws. by_tag (tag (get_or ws 0 []))) h))
  only_alone (Gen count force) h = absurd (no_tag (ap (λ ws. by_tag (tag (get_or ws 0 []))) h.1))
  only_alone commands.List h = one_name commands.List (codes "list") refl h
  only_alone commands.Roles h = one_name commands.Roles (codes "roles") refl h
  only_alone commands.Audit h = one_name commands.Audit (codes "audit") refl h
  only_alone commands.Dis h = one_name commands.Dis (codes "dis") refl h
  only_alone commands.Undis h = one_name commands.Undis (codes "undis") refl h
  only_alone commands.Link h = one_name commands.Link (codes "link") refl h
  only_alone commands.Stubs h = one_name commands.Stubs (codes "stubs") refl h

is_command : (name : List ℕ) (command : Command) → alone_name command ≡ Some name → IsCommand (name ∷ []) command
is_command name (Asm force) is = absurd cc
is_command name (Gen count force) is = absurd cc
is_command name commands.List is = let same : name ≡ codes "list" = cc in ap (λ t. t ∷ []) same
is_command name commands.Roles is = let same : name ≡ codes "roles" = cc in ap (λ t. t ∷ []) same
is_command name commands.Audit is = let same : name ≡ codes "audit" = cc in ap (λ t. t ∷ []) same
is_command name commands.Dis is = let same : name ≡ codes "dis" = cc in ap (λ t. t ∷ []) same
is_command name commands.Undis is = let same : name ≡ codes "undis" = cc in ap (λ t. t ∷ []) same
is_command name commands.Link is = let same : name ≡ codes "link" = cc in ap (λ t. t ∷ []) same
is_command name commands.Stubs is = let same : name ≡ codes "stubs" = cc in ap (λ t. t ∷ []) same

-- no words are `asm`
empty_read : ReadsCommand [] (Some (Asm No))
empty_read = record { some = inl (refl, refl); only = only }
  where
    only : (command : Command) → IsCommand [] command → Some (Asm No) ≡ Some command
    only (Asm force) (inl h) = ap (λ f. Some (Asm f)) (sym h.0)
    only (Asm force) (inr h) = absurd cc
    only (Gen count force) h = absurd (let is = h.1 in cc)
    only commands.List h = absurd cc
    only commands.Roles h = absurd cc
    only commands.Audit h = absurd cc
    only commands.Dis h = absurd cc
    only commands.Undis h = absurd cc
    only commands.Link h = absurd cc
    only commands.Stubs h = absurd cc

-- another name is no command's
pub name_unread : (name : List ℕ) (rest : List (List ℕ)) → name ≢ codes "asm" → name ≢ codes "gen" → name ≢ codes "list" → name ≢ codes "roles"
    → name ≢ codes "audit" → name ≢ codes "dis" → name ≢ codes "undis" → name ≢ codes "link" → name ≢ codes "stubs" → ReadsCommand (name ∷ rest) None
name_unread name rest no_asm no_gen no_list no_roles no_audit no_dis no_undis no_link no_stubs = record { some = tt; only = only }
  where
    only : (command : Command) → IsCommand (name ∷ rest) command → None ≡ Some command
    only (Asm force) (inl h) = absurd (let empty = h.1 in cc)
    only (Asm force) (inr h) = absurd (no_asm (ap (λ ws. get_or ws 0 []) h))
    only (Gen count force) h = absurd (no_gen (ap (λ ws. get_or ws 0 []) h.1))
    only commands.List h = absurd (no_list (ap (λ ws. get_or ws 0 []) h))
    only commands.Roles h = absurd (no_roles (ap (λ ws. get_or ws 0 []) h))
    only commands.Audit h = absurd (no_audit (ap (λ ws. get_or ws 0 []) h))
    only commands.Dis h = absurd (no_dis (ap (λ ws. get_or ws 0 []) h))
    only commands.Undis h = absurd (no_undis (ap (λ ws. get_or ws 0 []) h))
    only commands.Link h = absurd (no_link (ap (λ ws. get_or ws 0 []) h))
    only commands.Stubs h = absurd (no_stubs (ap (λ ws. get_or ws 0 []) h))

-- ---- words as they are held

module _ {A : Type 0} where
  pub first_read : (words : List (String A)) (word : String A) (result : Option Command) → 1 ≤ length words → word ≡ get_or words 0 word
      → ReadsCommand (string_bytes word ∷ map string_bytes (drop 1 words)) result → ReadsCommand (map string_bytes words) result
  first_read [] word result some is h = absurd (omega arith)
  first_read (first ∷ words) word result some is h = subst (λ w. ReadsCommand (string_bytes w ∷ map string_bytes words) result) is h

  -- all behind the first word
  pub rest_whole : (words : List (String A)) → take (length words - 1) (drop 1 words) ≡ drop 1 words
  rest_whole words = take_all (length words - 1) (drop 1 words) (omega (arith, length-drop 1 words))

  pub no_word_read : (words : List (String A)) → length words < 1 → ReadsCommand (map string_bytes words) (Some (Asm No))
  no_word_read [] h = empty_read
  no_word_read (word ∷ words) h = absurd (omega arith)

  -- the words behind a name that stands alone
  pub alone_read : (name : List ℕ) (command : Command) (words : List (String A)) → alone_name command ≡ Some name → length words < 1 → ReadsCommand (name ∷ map string_bytes words) (Some command)
  alone_read name command [] is h = record { some = is_command name command is; only = λ other k. ap (λ c. Some c) (sym (only_alone name [] command is other k).is) }
  alone_read name command (word ∷ words) is h = absurd (omega arith)

  pub more_read : (name : List ℕ) (command : Command) (words : List (String A)) → alone_name command ≡ Some name → 1 ≤ length words → ReadsCommand (name ∷ map string_bytes words) None
  more_read name command [] is h = absurd (omega arith)
  more_read name command (word ∷ words) is h = record { some = tt; only = λ other k. absurd (let rest_is = (only_alone name (map string_bytes (word ∷ words)) command is other k).rest_is in cc) }
