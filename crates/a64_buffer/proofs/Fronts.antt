-- How an island without a jump begins.
use Rattle.std.proofs.Common.{ℕ, zero, suc, ◌≡◌, ◌≢◌, ◌-◌, ◌+◌, ◌*◌, ◌<◌, ◌≤◌, ◌&&◌, nat_le, true, false, List, [], ◌∷◌, ◌++◌, All, Any, map, length, get_or, replicate, Some, IfSome, refl, sym, ap, ◌∙◌, subst, arith, nat_cmp}
use Rattle.std.specs.List.{flat_map}
use Rattle.std.specs.FinMap.{FinMap}
use Rattle.std.proofs.lemmas.Bool.{false≢true, le-leb}
use Rattle.std.proofs.lemmas.List.{length-append, length-map, length-replicate, get_or-map, get_or-replicate, get_or_append_left, get_or-append-add}
use Rattle.std.proofs.lemmas.List.Elements.{All-append, All-map}
use Rattle.std.proofs.lemmas.List.Concat.{flat_map-cons}
use Rattle.a64_words.specs.Word.{words_of}
use Rattle.a64_buffer.specs.declared.site.Use.{Use}
use Rattle.a64_buffer.specs.declared.site.Target.{Target}
use Rattle.a64_buffer.specs.declared.class.Class.{Class}
use Rattle.a64_buffer.specs.declared.class.Class.TheVariants.{Near, Middle, Load, Trapping, Far, Direct}
use Rattle.a64_buffer.specs.Kinds.{Kinds, IsWithin}
use Rattle.a64_buffer.specs.Buffer.{Buffer, end_of, goal_of, is_within, IsFree}
use Rattle.a64_buffer.specs.Classes.{class}
use Rattle.a64_buffer.specs.Later.{IsLater}
use Rattle.a64_buffer.specs.Sound.{IsPlaced, IsStop, IsSound}
use Rattle.a64_buffer.specs.Pieces.{padding, content_of, site_of, words_for, stop_for, sites_for, piece_words, piece_sites, pieces, BeginsWith, Serves}
use Rattle.a64_buffer.proofs.Growth.{stands_there}
use Rattle.a64_buffer.proofs.OwnStops.{served_place}

module _ {K : Type 0} (r : Kinds K) where
  pub within_is : (kind : K) (offset g : ℕ) → IsWithin (r.forward kind) (r.backward kind) offset g → is_within r kind offset g ≡ true
  within_is kind offset g h = ap (λ t. t && nat_le offset (g + r.backward kind)) (le-leb g (offset + r.forward kind) h.ahead) ∙ le-leb offset (g + r.backward kind) h.behind

  -- the uses that the words of pieces are stand on these
  pub sites_from : (constants : FinMap nat_cmp (List ℕ)) (place : ℕ) (us : List (Use K)) → All (λ s. place ≤ s.0) (flat_map (piece_sites r constants) (pieces r constants place us))
  sites_from constants place [] = λ k d h. absurd (omega arith)
  sites_from constants place (u ∷ us) =
      let next : ℕ = place + 4 * length (words_for r constants (class r u) u.target place) in
      subst (All (λ (s : ℕ × Target × K). place ≤ s.0)) (sym (flat_map-cons (piece_sites r constants) (place, u) (pieces r constants next us)))
      (All-append (λ (s : ℕ × Target × K). place ≤ s.0) (sites_for r (class r u) u.target place) (flat_map (piece_sites r constants) (pieces r constants next us)) (own (class r u)) (λ k d h. let x = sites_from constants next us k d h in omega (arith, x)))
    where
      own : (c : Class) → All (λ (s : ℕ × Target × K). place ≤ s.0) (sites_for r c u.target place)
      own Near zero d h = omega arith
      own Near (suc k) d h = absurd (omega arith)
      own Middle zero d h = omega arith
      own Middle (suc k) d h = absurd (omega arith)
      own Far zero d h = omega arith
      own Far (suc k) d h = absurd (omega arith)
      own Load k d h = absurd (omega arith)
      own Trapping k d h = absurd (omega arith)
      own Direct k d h = absurd (omega arith)

  module _ (areas : List (ℕ × ℕ)) (u : Use K) (us : List (Use K)) (b b' : Buffer K) (s : Serves r b.labels b.constants (u ∷ us) b b') (later : IsLater b b') (labels_are : b'.labels ≡ b.labels) (sound : IsSound r b' areas) (placed : All (IsPlaced (end_of b)) b.uses) where
    abbrev first_words : List ℕ
    first_words = words_for r b.constants (class r u) u.target (end_of b)

    abbrev next : ℕ
    next = end_of b + 4 * length first_words

    abbrev other_words : List ℕ
    other_words = flat_map (piece_words r b.constants) (pieces r b.constants next us)

    abbrev other_sites : List (ℕ × Target × K)
    other_sites = flat_map (piece_sites r b.constants) (pieces r b.constants next us)

    words_are : b'.words ≡ b.words ++ (first_words ++ other_words)
    words_are = s.words ∙ ap (λ ws. b.words ++ ws) (flat_map-cons (piece_words r b.constants) (end_of b, u) (pieces r b.constants next us))

    sites_are : map site_of b'.uses ≡ map site_of b.uses ++ (sites_for r (class r u) u.target (end_of b) ++ other_sites)
    sites_are = s.uses_are ∙ ap (λ ss. map site_of b.uses ++ ss) (flat_map-cons (piece_sites r b.constants) (end_of b, u) (pieces r b.constants next us))

    -- in front of a copy stand zero words
    module _ (load : class r u ≡ Load) (i : ℕ) (from : end_of b ≤ 4 * i) where
      abbrev content : List ℕ
      content = content_of b.constants u.target

      abbrev pad : ℕ
      pad = padding (end_of b) (length content)

      first_is : first_words ≡ replicate pad 0 ++ words_of content
      first_is = ap (λ c. words_for r b.constants c u.target (end_of b)) load

      zero_word : 4 * i < end_of b + 4 * pad → get_or b'.words i 0 ≡ 0
      zero_word to =
          let j : ℕ = i - length b.words in
          let at : i ≡ length b.words + j = omega arith in
          let long : j < length (replicate {A = ℕ} pad 0) = omega (arith, length-replicate {A = ℕ} pad 0) in
          ap (λ ws. get_or ws i 0) (words_are ∙ ap (λ ws. b.words ++ (ws ++ other_words)) first_is)
          ∙ (ap (λ n. get_or (b.words ++ ((replicate pad 0 ++ words_of content) ++ other_words)) n 0) at
          ∙ (get_or-append-add b.words ((replicate pad 0 ++ words_of content) ++ other_words) j 0
          ∙ (get_or_append_left (replicate pad 0 ++ words_of content) other_words 0 j (omega (arith, long, length-append (replicate {A = ℕ} pad 0) (words_of content)))
          ∙ (get_or_append_left (replicate pad 0) (words_of content) 0 j long
          ∙ get_or-replicate {A = ℕ} pad j 0 0 (omega arith)))))

      no_use : 4 * i < end_of b + 4 * pad → IsFree b'.uses (4 * i)
      no_use to k d h e =
          let all : All (λ (t : ℕ × Target × K). t.0 ≢ 4 * i) (map site_of b'.uses) =
          subst (All (λ (t : ℕ × Target × K). t.0 ≢ 4 * i)) (sym (sites_are ∙ ap (λ c. map site_of b.uses ++ (sites_for r c u.target (end_of b) ++ other_sites)) load))
          (All-append (λ (t : ℕ × Target × K). t.0 ≢ 4 * i) (map site_of b.uses) other_sites
          (All-map (λ (t : ℕ × Target × K). t.0 ≢ 4 * i) site_of b.uses (λ m d l q. let p = (placed m d l).inside in omega (arith, p, q, from)))
          (λ m d l q. let x = sites_from b.constants next us m d l in omega (arith, x, q, to, ap length first_is, length-append (replicate {A = ℕ} pad 0) (words_of content), length-replicate {A = ℕ} pad 0))) in
          all k (site_of d) (omega (arith, h, length-map b'.uses (site_of {K = K}))) (ap (λ (t : ℕ × Target × K). t.0) (get_or-map site_of b'.uses k d (site_of d) h) ∙ e)

    zero_front : (c : Class) → class r u ≡ c → (i : ℕ) → end_of b ≤ 4 * i → 4 * i < stop_for r b.constants c u.target (end_of b) → (get_or b'.words i 0 ≡ 0) × IsFree b'.uses (4 * i)
    zero_front Near e i from to = absurd (omega arith)
    zero_front Middle e i from to = absurd (omega arith)
    zero_front Load e i from to = (zero_word e i from to, no_use e i from to)
    zero_front Trapping e i from to = absurd (omega arith)
    zero_front Far e i from to = absurd (omega arith)
    zero_front Direct e i from to = absurd (omega arith)

    pub begins_with_first : Any (BeginsWith r b' (end_of b, end_of b')) b'.uses
    begins_with_first =
        let q = s.waited 0 u (omega arith) in
        let stop : ℕ = stop_for r b.constants (class r u) u.target (end_of b) in
        let stops : u.stop ≡ Some stop = s.stops 0 (end_of b, u) (omega arith) in
        let is : get_or b'.uses q.index u ≡ u = q.is u in
        let here : IsStop r b' areas u.target u.kind u.offset stop = subst (λ (v : Use K). IsStop r b' areas v.target v.kind v.offset stop) is (stands_there r b' areas sound.stops q.index stop u q.within (ap (λ (v : Use K). v.stop) is ∙ stops)) in (
          q.index,
          u,
          q.within,
          is,
          record {
            wanted = q.wants_one;
            stop = stop;
            stops = stops;
            at_piece = ap (λ cs. stop_for r cs (class r u) u.target (end_of b)) (sym later.constants);
            inside = omega (arith, (served_place r areas (u ∷ us) b b' s later labels_are sound 0 stop u (omega arith) stops).1, ap length words_are, length-append b.words (first_words ++ other_words), length-append first_words other_words);
            elsewhere = λ g.
                let out : is_within r u.kind u.offset stop ≡ false = subst (λ o. IfSome o (λ p. is_within r u.kind u.offset p ≡ false)) (ap (λ ls. goal_of ls u.target) (sym labels_are) ∙ g) q.far_off in
                false≢true (sym out ∙ within_is u.kind u.offset stop here.within);
            zeros = zero_front (class r u) refl;
          },
        )

  -- so an island that is longer than nothing begins with the piece of a use
  pub begins_with : (areas : List (ℕ × ℕ)) (served : List (Use K)) (b b' : Buffer K) → Serves r b.labels b.constants served b b' → IsLater b b' → b'.labels ≡ b.labels → IsSound r b' areas → All (IsPlaced (end_of b)) b.uses → end_of b < end_of b' → Any (BeginsWith r b' (end_of b, end_of b')) b'.uses
  begins_with areas [] b b' s later labels_are sound placed long = absurd (omega (arith, long, ap length s.words, length-append b.words []))
  begins_with areas (u ∷ us) b b' s later labels_are sound placed long = begins_with_first areas u us b b' s later labels_are sound placed
