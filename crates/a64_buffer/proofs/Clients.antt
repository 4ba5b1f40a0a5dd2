-- What a client knows that asks for an island before each word that is a use.
use Rattle.std.proofs.Common.{ℕ, zero, suc, ◌≡◌, ◌⊎◌, ◌+◌, ◌*◌, ◌%◌, ◌^◌, ◌<◌, ◌≤◌, Bool, true, false, cond, List, [], ◌∷◌, ◌++◌, All, map, length, get_or, Option, None, Some, Result, Ok, Err, refl, sym, ap, ◌∙◌, subst, arith, inl, inr, nat_cmp}
use Rattle.std.specs.Prelude.{IfSome, IsSome, IsSomeAnd, OnOk}
use Rattle.std.specs.FinMap.{FinMap, get, insert, get-empty}
use Rattle.std.proofs.lemmas.Bool.{cases_lt, cases_eq, false≢true}
use Rattle.std.proofs.lemmas.List.{length_push, length-append}
use Rattle.std.proofs.lemmas.List.Elements.{All-push, All-map}
use Rattle.a64_buffer.specs.declared.site.Use.{Use}
use Rattle.a64_base.specs.declared.entity.VCodeConstant.{VCodeConstant}
use Rattle.a64_buffer.specs.declared.site.Target.{Target}
use Rattle.a64_buffer.specs.declared.site.Target.TheVariants.{Label, Constant}
use Rattle.a64_buffer.specs.declared.force.ForceVeneers.{ForceVeneers}
use Rattle.a64_buffer.specs.declared.force.ForceVeneers.TheVariants.{No}
use Rattle.a64_buffer.specs.declared.finish.Finished.{Finished}
use Rattle.a64_words.specs.Word.{words_of}
use Rattle.a64_buffer.specs.Kinds.{Kinds, IsLawful, IsWithin}
use Rattle.a64_buffer.specs.Buffer.{Records, Buffer, end_of, new_buffer, label_of, made_use, closed_at, IsFree, IsOutside, IsBound, IsReached}
use Rattle.a64_buffer.specs.Classes.{Level, first, second, third, level_of, cost, class, range_of, is_open, weigh, burden, HasRoom, Fits}
use Rattle.a64_buffer.specs.Sound.{IsPlaced, IsWhole}
use Rattle.a64_buffer.specs.Islands.{IsVeneerUse, HasIsland}
use Rattle.a64_buffer.specs.Finished.{IsFinished}
use Rattle.a64_buffer.specs.Grown.{MakesRoom, AddsUse, GrowsBy, AreThere, IsEasy, IsGrown}
use Rattle.a64_words.proofs.WordLists.{words_short}
use Rattle.a64_buffer.proofs.Labels.{get_here, get_other}
use Rattle.a64_buffer.proofs.Costs.{weight-append, weight-cons}
use Rattle.a64_buffer.proofs.Rooms.{few_bytes, less_room, use_room}
use Rattle.a64_buffer.proofs.Sounds.{bind_weight}

-- what holds where a call succeeds, turned into something else that holds there
pub on_ok : {T E : Type 0} (r : Result T E) (P Q : Type 0) → (P → Q) → OnOk r P → OnOk r Q
on_ok (Ok x) P Q f p = f p
on_ok (Err e) P Q f p = p

-- what holds of each number below four
pub below_four : (P : ℕ → Type 0) → P 0 → P 1 → P 2 → P 3 → (n : ℕ) → n < 4 → P n
below_four P a b c d zero lt = a
below_four P a b c d (suc zero) lt = b
below_four P a b c d (suc (suc zero)) lt = c
below_four P a b c d (suc (suc (suc zero))) lt = d
below_four P a b c d (suc (suc (suc (suc n)))) lt = absurd (omega (arith, lt))

module _ {K : Type 0} (r : Kinds K) where
  -- ---- the place at the end

  pub free_end : (b : Buffer K) → IsWhole r b → IsFree b.uses (end_of b)
  free_end b w k d h e = let p : IsPlaced (end_of b) (get_or b.uses k d) = w.sound.placed k d h in omega (arith, p.inside, e)

  pub outside_end : (b : Buffer K) → IsWhole r b → IsOutside b.islands (end_of b)
  outside_end b w k d h = inr (w.islands.each k d h).inside

  -- ---- what is owed

  weigh_few : (u : Use K) → weigh r (cost third) u ≤ 28
  weigh_few u = go (is_open r u) (few_bytes third (class r u))
    where
      go : (o : Bool) → cost third (class r u) ≤ 28 → cond o (cost third (class r u)) 0 ≤ 28
      go true h = h
      go false h = omega arith

  pub use_owed : (us : List (Use K)) (u : Use K) → burden r third (us ++ u ∷ []) ≤ burden r third us + 28
  use_owed us u = omega (arith, weight-append r (cost third) us (u ∷ []), weight-cons r (cost third) u [], weigh_few u)

  -- ---- room that was made

  pub made_room : (distance : ℕ) (b b' : Buffer K) → MakesRoom r distance b b' → Fits r b' distance
  made_room distance b b' (inl h) = subst (λ (x : Buffer K). Fits r x distance) (sym h.0) h.1
  made_room distance b b' (inr h) = h.fits

module _ {K : Type 0} (r : Kinds K) (law : IsLawful r) where
  -- ---- room for a word, and for a use of it

  shortest : (l : Level) → r.range 1 ≤ range_of r l
  shortest first = omega arith
  shortest second = law.range_second
  shortest third = omega (arith, law.range_second, law.range_third)

  pub word_fits : (b : Buffer K) (more less : ℕ) → less ≤ more → Fits r b more → Fits r b less
  word_fits b more less le h = less_room r law (end_of b) b.uses more less le h

  -- one more word at the end, which is a use: it has room, where there was room for the word and for what
  -- a use may be given, and its range is long enough
  pub use_fits : (b : Buffer K) (more word : ℕ) (target : Target) (kind : K) → IsWhole r b → more + 36 ≤ r.range 1 → Fits r b (more + 32) → HasRoom r (4 * length (b.words ++ word ∷ [])) (b.uses ++ made_use r b.labels (end_of b) target kind ∷ []) more
  use_fits b more word target kind w long h =
      let end : 4 * length (b.words ++ word ∷ []) ≡ end_of b + 4 = omega (arith, length_push b.words word) in
      let v : Use K = made_use r b.labels (end_of b) target kind in
      subst (λ (e : ℕ). HasRoom r e (b.uses ++ v ∷ []) more) (sym end)
      (use_room r law (end_of b + 4) b.uses more v (omega arith)
      (λ k d x. let p : IsPlaced (end_of b) (get_or b.uses k d) = w.sound.placed k d x in record { aligned = p.aligned; inside = omega (arith, p.inside) })
      (record { rooms = λ k d x o. let y = h.rooms k d x o in omega (arith, y) })
      refl
      (omega (arith, long, shortest (level_of (class r v)))))

  -- ---- uses of labels that are bound in the end

  easy_jump : (target : Target) (count : ℕ) (kind : K) → (kind ≡ r.jump) ⊎ (kind ≡ r.far_use) → IfSome (label_of target) (λ label. label < count) → IfSome (label_of target) (λ label. (label < count) × (r.veneers kind ≡ false → 2 ^ 31 ≤ r.forward kind + 1))
  easy_jump target count kind which = go (label_of target)
    where
      reaches : (kind ≡ r.jump) ⊎ (kind ≡ r.far_use) → r.veneers kind ≡ false → 2 ^ 31 ≤ r.forward kind + 1
      reaches (inl e) v = absurd (let z : true ≡ false = sym law.jump_veneers ∙ (sym (ap r.veneers e) ∙ v) in cc)
      reaches (inr e) v = omega (arith, ap r.forward e, law.far_forward)

      go : (o : Option ℕ) → IfSome o (λ label. label < count) → IfSome o (λ label. (label < count) × (r.veneers kind ≡ false → 2 ^ 31 ≤ r.forward kind + 1))
      go None h = h
      go (Some label) h = (h, reaches which)

  easy_label : (count : ℕ) (u : Use K) → IsEasy r count u → IfSome (label_of u.target) (λ label. label < count)
  easy_label count u = go (label_of u.target)
    where
      go : (o : Option ℕ) → IfSome o (λ label. (label < count) × (r.veneers u.kind ≡ false → 2 ^ 31 ≤ r.forward u.kind + 1)) → IfSome o (λ label. label < count)
      go None h = h
      go (Some label) h = h.0

  pub island_easy : (distance count : ℕ) (force : ForceVeneers) (b b' : Buffer K) → HasIsland r distance force true b b' → All (IsEasy r count) b.uses → All (IsEasy r count) b'.uses
  island_easy distance count force b b' i easy k d w = elim (cases_lt k (length b.uses)) [
    | inl lt ↦
        let same = i.later.uses k d lt in
        subst (λ (kind : K). IfSome (label_of (get_or b'.uses k d).target) (λ label. (label < count) × (r.veneers kind ≡ false → 2 ^ 31 ≤ r.forward kind + 1))) (sym same.kind)
        (subst (λ (t : Target). IfSome (label_of t) (λ label. (label < count) × (r.veneers (get_or b.uses k d).kind ≡ false → 2 ^ 31 ≤ r.forward (get_or b.uses k d).kind + 1))) (sym same.target) (easy k d lt))
    | inr ge ↦ elim (i.given k d ge w) [
      | inl over ↦ subst (λ (t : Target). IfSome (label_of t) (λ label. (label < count) × (r.veneers (get_or b'.uses k d).kind ≡ false → 2 ^ 31 ≤ r.forward (get_or b'.uses k d).kind + 1))) (sym over.0) tt
      | inr v ↦ veneer (get_or b'.uses k d) v
    ]
  ]
    where
      veneer : (v : Use K) → IsVeneerUse r b v → IsEasy r count v
      veneer v h = easy_jump v.target count v.kind h.kind (subst (λ (t : Target). IfSome (label_of t) (λ label. label < count)) (h.target v) (easy_label count (get_or b.uses h.parent v) (easy h.parent v h.within)))

  -- ---- a buffer that grows

  pub grown_none : (count : ℕ) (constants : FinMap nat_cmp (List ℕ)) → IsGrown r 0 0 count 0 (new_buffer constants)
  grown_none count constants = record {
    long = omega arith;
    short = omega arith;
    easy = λ k d w. absurd (omega arith);
    bound = λ label lt. absurd (omega arith);
    unbound = λ label ge. get-empty nat_cmp label;
  }

  pub grown_within : (least less most more count next : ℕ) (b : Buffer K) → less ≤ least → most ≤ more → IsGrown r least most count next b → IsGrown r less more count next b
  grown_within least less most more count next b low high g = record {
    long = omega (arith, g.long, low);
    short = omega (arith, g.short, high);
    easy = g.easy;
    bound = g.bound;
    unbound = g.unbound;
  }

  -- a buffer that grew without more uses of labels than the veneers of those before
  pub grows_none : (b : Buffer K) → GrowsBy r 0 b b
  grows_none b = record { long = omega arith; short = omega arith; easy = λ count h. h; labels = refl; constants = refl }

  pub grows_recorded : (records : Records) (b : Buffer K) → GrowsBy r 0 b (record b { records = records })
  grows_recorded records b = record { long = omega arith; short = omega arith; easy = λ count h. h; labels = refl; constants = refl }

  pub grows_on : (more more' sum : ℕ) (a b c : Buffer K) → more + more' ≤ sum → GrowsBy r more a b → GrowsBy r more' b c → GrowsBy r sum a c
  grows_on more more' sum a b c le g h = record {
    long = omega (arith, g.long, h.long);
    short = omega (arith, g.short, h.short, le);
    easy = λ count e. h.easy count (g.easy count e);
    labels = h.labels ∙ g.labels;
    constants = h.constants ∙ g.constants;
  }

  pub grows_room : (distance : ℕ) (b b' : Buffer K) → MakesRoom r distance b b' → GrowsBy r 4 b b'
  grows_room distance b b' (inl h) = subst (λ (x : Buffer K). GrowsBy r 4 b x) (sym h.0) (grows_on 0 0 4 b b b (omega arith) (grows_none b) (grows_none b))
  grows_room distance b b' (inr h) = record {
    long = omega (arith, h.long);
    short = omega (arith, h.owed);
    easy = λ count e. island_easy distance count No b b' h e;
    labels = h.labels;
    constants = h.later.constants;
  }

  pub grows_put : (added : List ℕ) (b : Buffer K) → GrowsBy r (4 * length added) b (record b { words = b.words ++ added })
  grows_put added b = record {
    long = omega (arith, length-append b.words added);
    short = omega (arith, length-append b.words added);
    easy = λ count e. e;
    labels = refl;
    constants = refl;
  }

  -- by a load of a constant
  pub grows_load : (word : ℕ) (constant : VCodeConstant) (kind : K) (b b' : Buffer K) → AddsUse r word (Constant constant) kind b b' → GrowsBy r 36 b b'
  grows_load word constant kind b b' a =
      subst (λ (x : Buffer K). GrowsBy r 36 b x) (sym a.is)
      (grows_on 4 32 36 b a.before (record a.before { words = a.before.words ++ word ∷ []; uses = a.before.uses ++ use' ∷ [] }) (omega arith) (grows_room 32 b a.before a.room) (record {
        long = omega (arith, length_push a.before.words word);
        short = omega (arith, length_push a.before.words word, use_owed r a.before.uses use');
        easy = λ count e. All-push (IsEasy r count) a.before.uses use' e tt;
        labels = refl;
        constants = refl;
      }))
    where
      use' : Use K
      use' = made_use r a.before.labels (end_of a.before) (Constant constant) kind

  pub there_still : (count more : ℕ) (b b' : Buffer K) → GrowsBy r more b b' → AreThere count b.constants → AreThere count b'.constants
  there_still count more b b' g known = subst (AreThere count) (sym g.constants) known

  pub grown_by : (more least most count next : ℕ) (b b' : Buffer K) → GrowsBy r more b b' → IsGrown r least most count next b → IsGrown r least (most + more) count next b'
  grown_by more least most count next b b' h g = record {
    long = omega (arith, g.long, h.long);
    short = omega (arith, g.short, h.short);
    easy = h.easy count g.easy;
    bound = λ label lt. subst (λ (m : FinMap nat_cmp ℕ). IsSome (get m label)) (sym h.labels) (g.bound label lt);
    unbound = λ label ge. ap (λ (m : FinMap nat_cmp ℕ). get m label) h.labels ∙ g.unbound label ge;
  }

  pub grown_room : (distance least most count next : ℕ) (b b' : Buffer K) → MakesRoom r distance b b' → IsGrown r least most count next b → IsGrown r least (most + 4) count next b'
  grown_room distance least most count next b b' m g = grown_by 4 least most count next b b' (grows_room distance b b' m) g

  -- a word that is a use
  pub grown_use : (least most count next word : ℕ) (target : Target) (kind : K) (offset : ℕ) (b : Buffer K) → IfSome (label_of target) (λ label. (label < count) × (r.veneers kind ≡ false → 2 ^ 31 ≤ r.forward kind + 1)) → IsGrown r least most count next b → IsGrown r (least + 4) (most + 32) count next (record b { words = b.words ++ word ∷ []; uses = b.uses ++ made_use r b.labels offset target kind ∷ [] })
  grown_use least most count next word target kind offset b easy g = record {
    long = omega (arith, g.long, length_push b.words word);
    short = omega (arith, g.short, length_push b.words word, use_owed r b.uses (made_use r b.labels offset target kind));
    easy = All-push (IsEasy r count) b.uses (made_use r b.labels offset target kind) g.easy easy;
    bound = g.bound;
    unbound = g.unbound;
  }

  pub grown_added : (least most count next word : ℕ) (target : Target) (kind : K) (b b' : Buffer K) → IfSome (label_of target) (λ label. (label < count) × (r.veneers kind ≡ false → 2 ^ 31 ≤ r.forward kind + 1)) → AddsUse r word target kind b b' → IsGrown r least most count next b → IsGrown r (least + 4) (most + 36) count next b'
  grown_added least most count next word target kind b b' easy a g =
      subst (λ (x : Buffer K). IsGrown r (least + 4) (most + 36) count next x) (sym a.is)
      (grown_within (least + 4) (least + 4) (most + 4 + 32) (most + 36) count next (record a.before { words = a.before.words ++ word ∷ []; uses = a.before.uses ++ made_use r a.before.labels (end_of a.before) target kind ∷ [] }) (omega arith) (omega arith)
      (grown_use least (most + 4) count next word target kind (end_of a.before) a.before easy (grown_room 32 least most count next b a.before a.room g)))

  -- other words
  pub grown_put : (least most count next : ℕ) (added : List ℕ) (b : Buffer K) → IsGrown r least most count next b → IsGrown r least (most + 4 * length added) count next (record b { words = b.words ++ added })
  grown_put least most count next added b g = grown_by (4 * length added) least most count next b (record b { words = b.words ++ added }) (grows_put added b) g

  -- the next label is bound
  pub grown_bind : (least most count next : ℕ) (b : Buffer K) → IsGrown r least most count next b → IsGrown r least most count (next + 1) (record b { uses = map (closed_at r next (end_of b)) b.uses; labels = insert b.labels next (end_of b) })
  grown_bind least most count next b g = record {
    long = g.long;
    short = omega (arith, g.short, bind_weight r next (end_of b) (cost third) b.uses);
    easy = All-map (IsEasy r count) (closed_at r next (end_of b)) b.uses g.easy;
    bound = λ label lt. elim (cases_eq label next) [
      | inl e ↦ subst (λ (n : ℕ). IsSome (get (insert b.labels next (end_of b)) n)) (sym e) (subst (λ (o : Option ℕ). IsSome o) (sym (get_here b.labels next (end_of b))) refl)
      | inr ne ↦ subst (λ (o : Option ℕ). IsSome o) (sym (get_other b.labels next (end_of b) label ne)) (g.bound label (omega (arith, lt, ne)))
    ];
    unbound = λ label ge. get_other b.labels next (end_of b) label (omega (arith, ge)) ∙ g.unbound label (omega (arith, ge));
  }

  -- ---- an item behind a label, and uses of the label behind that

  -- the label 0 is bound
  pub label_bound : (b b' : Buffer K) → b' ≡ record b { uses = map (closed_at r 0 (end_of b)) b.uses; labels = insert b.labels 0 (end_of b) } → IsGrown r 0 0 1 0 b → IsGrown r 0 0 1 1 b'
  label_bound b b' is g = subst (IsGrown r 0 0 1 1) (sym is) (grown_bind 0 0 1 0 b g)

  -- and room is made for an item
  pub label_room : (distance : ℕ) (b b' room : Buffer K) → b' ≡ record b { uses = map (closed_at r 0 (end_of b)) b.uses; labels = insert b.labels 0 (end_of b) } → MakesRoom r distance b' room → IsGrown r 0 0 1 0 b → IsGrown r 0 4 1 1 room
  label_room distance b b' room is m g = grown_room distance 0 0 1 1 b' room m (label_bound b b' is g)

  -- and the item stands
  pub label_item : (item : List ℕ) (b b' room put : Buffer K) → length item ≤ 4096 → b' ≡ record b { uses = map (closed_at r 0 (end_of b)) b.uses; labels = insert b.labels 0 (end_of b) } → MakesRoom r (length item) b' room → put ≡ record room { words = room.words ++ words_of item } → IsGrown r 0 0 1 0 b → IsGrown r 0 4100 1 1 put
  label_item item b b' room put short is m stands g =
      subst (IsGrown r 0 4100 1 1) (sym stands)
      (grown_within 0 0 (4 + 4 * length (words_of item)) 4100 1 1 (record room { words = room.words ++ words_of item }) (omega arith) (omega (arith, words_short item, short))
      (grown_put 0 4 1 1 (words_of item) room (label_room (length item) b b' room is m g)))

  -- and a use of the label is added
  pub label_used : (most next word : ℕ) (kind : K) (b b' : Buffer K) → r.veneers kind ≡ true → AddsUse r word (Label (record { 0 = 0 })) kind b b' → IsGrown r 0 most 1 next b → IsGrown r 0 (most + 36) 1 next b'
  label_used most next word kind b b' v a g =
      grown_within 4 0 (most + 36) (most + 36) 1 next b' (omega arith) (omega arith)
      (grown_added 0 most 1 next word (Label (record { 0 = 0 })) kind b b' (omega arith, λ w. absurd (false≢true (sym w ∙ v))) a g)

  -- all labels are bound: each use is of a bound label, and one without a veneer reaches it
  module _ (least most count : ℕ) (b : Buffer K) (whole : IsWhole r b) (g : IsGrown r least most count count b) where
    pub grown_bound : All (IsBound b.labels) b.uses
    grown_bound k d w = go (label_of (get_or b.uses k d).target) (g.easy k d w)
      where
        go : (o : Option ℕ) → IfSome o (λ label. (label < count) × (r.veneers (get_or b.uses k d).kind ≡ false → 2 ^ 31 ≤ r.forward (get_or b.uses k d).kind + 1)) → IfSome o (λ label. IsSome (get b.labels label))
        go None h = h
        go (Some label) h = g.bound label h.0

    pub grown_direct : All (λ u. r.veneers u.kind ≡ false → IsReached r b.labels u) b.uses
    grown_direct k d w v = go (label_of (get_or b.uses k d).target) (g.easy k d w)
      where
        near : (kind : K) (offset : ℕ) (o : Option ℕ) → offset < end_of b → 2 ^ 31 ≤ r.forward kind + 1 → IfSome o (λ p. (p % 4 ≡ 0) × (p ≤ end_of b)) → IsSome o → IsSomeAnd o (λ p. IsWithin (r.forward kind) (r.backward kind) offset p)
        near kind offset None inside far h s = absurd (let z : false ≡ true = s in cc)
        near kind offset (Some p) inside far h s = record {
          ahead = omega (arith, h.1, far, whole.sound.short);
          behind = omega (arith, inside, far, whole.sound.short, law.backward_more kind);
        }

        go : (o : Option ℕ) → IfSome o (λ label. (label < count) × (r.veneers (get_or b.uses k d).kind ≡ false → 2 ^ 31 ≤ r.forward (get_or b.uses k d).kind + 1)) → IfSome o (λ label. IsSomeAnd (get b.labels label) (λ p. IsWithin (r.forward (get_or b.uses k d).kind) (r.backward (get_or b.uses k d).kind) (get_or b.uses k d).offset p))
        go None h = h
        go (Some label) h = near (get_or b.uses k d).kind (get_or b.uses k d).offset (get b.labels label) (let p : IsPlaced (end_of b) (get_or b.uses k d) = whole.sound.placed k d w in p.inside) (h.1 v) (whole.sound.bound label) (g.bound label h.0)

    -- and the code is as long as the buffer at least
    pub grown_long : (code : Finished) → IsFinished r b code → least ≤ length code.bytes.items
    grown_long code f = omega (arith, g.long, f.same_length, f.later.end)
