-- The links of a forest with one more place.
use Rattle.jump_pointers.proofs.Common.{◌≡◌, ◌≢◌, ◌==◌, ℕ, zero, suc, ◌+◌, ◌-◌, ◌^◌, ◌<◌, ◌≤◌, Bool, true, false, cond, Option, Some, None, ◌⊎◌, inl, inr, refl, sym, ap, subst, ◌∙◌, arith, eqb-true, eq-eqb, cases_lt, false≢true, same_Some, below_next, ancestor, AreLinked, HasRank, HasOneMore, IsNewLink, span, next_far, LinksGoOn}
use Rattle.jump_pointers.proofs.Ranks.{rank_span, same_rank, some_power, power_upto, exponent_below, twice}
use Rattle.jump_pointers.proofs.Walks.{ancestor_add, ancestor_parent, same_ancestor, walk_depth}

module _ (n : ℕ) (par par' : ℕ → Option ℕ) (dep dep' far far' : ℕ → ℕ) (links : AreLinked n par dep far)
    (same_par : (u : ℕ) → u < n → par' u ≡ par u) (same_dep : (u : ℕ) → u < n → dep' u ≡ dep u) (same_far : (u : ℕ) → u < n → far' u ≡ far u)
    (none_past : (u : ℕ) → n < u → par' u ≡ None) where
  split : (u : ℕ) → u < suc n → (u < n) ⊎ (u ≡ n)
  split u lt = below_next u n (omega (arith, lt))

  same_up : (k u : ℕ) → u < n → ancestor par' k u ≡ ancestor par k u
  same_up = same_ancestor n par par' links.low same_par

  far_made : (u : ℕ) → u < n → far u < n
  far_made u l = let b : far u ≤ u = links.far_low u l in omega arith

  kept_far_depth : (u : ℕ) → u < n → dep' (far' u) ≡ dep (far u)
  kept_far_depth u l = ap dep' (same_far u l) ∙ same_dep (far u) (far_made u l)

  kept_span : (u : ℕ) → u < n → span dep' far' u ≡ span dep far u
  kept_span u l =
      let a : dep' u ≡ dep u = same_dep u l in
      let b : dep' (far' u) ≡ dep (far u) = kept_far_depth u l in
      rw (a, b)

  kept_far_span : (u : ℕ) → u < n → span dep' far' (far' u) ≡ span dep far (far u)
  kept_far_span u l = ap (span dep' far') (same_far u l) ∙ kept_span (far u) (far_made u l)

  kept_rank : (rank u : ℕ) → u < n → HasRank par far rank u → HasRank par' far' rank u
  kept_rank zero u l has = same_par u l ∙ (has ∙ ap Some (sym (same_far u l)))
  kept_rank (suc rank) u l has =
      let p = has.0 in
      let lp : p < u = links.low u p has.1 in
      let made_p : p < n = omega arith in
      let lj : far p ≤ p = links.far_low p made_p in
      let made_j : far p < n = omega arith in
      let j : far' p ≡ far p = same_far p made_p in (
        p,
        same_par u l ∙ has.1,
        kept_rank rank p made_p has.2,
        subst (HasRank par' far' rank) (sym j) (kept_rank rank (far p) made_j has.3),
        same_far u l ∙ (has.4 ∙ (sym (same_far (far p) made_j) ∙ ap far' (sym j))),
      )

  far_up_old : (u : ℕ) → u < n → ancestor par' (dep' u - dep' (far' u)) u ≡ Some (far' u)
  far_up_old u l =
      let b : far u ≤ u = links.far_low u l in
      let j : far' u ≡ far u = same_far u l in
      let d : dep' (far u) ≡ dep (far u) = same_dep (far u) (omega arith) in
      let e : dep' u ≡ dep u = same_dep u l in
      rw (j, d, e) (same_up (dep u - dep (far u)) u l ∙ links.far_up u l)

  -- what has to be shown of the new place
  record Fits : Type 0 where
    top : par' n ≡ None → dep' n ≡ 0
    low : (p : ℕ) → par' n ≡ Some p → p < n
    deeper : (p : ℕ) → par' n ≡ Some p → dep' n ≡ dep' p + 1
    far_low : far' n ≤ n
    far_up : ancestor par' (dep' n - dep' (far' n)) n ≡ Some (far' n)
    far_rises : 0 < dep' n → dep' (far' n) < dep' n
    ranked : 0 < dep' n → (rank : ℕ) × HasRank par' far' rank n
    no_shorter : 0 < dep' (far' n) → span dep' far' n ≤ span dep' far' (far' n)
    longer : 0 < dep' (far' (far' n)) → span dep' far' (far' n) < span dep' far' (far' (far' n))

  module _ (fits : Fits) where
    top' : (u : ℕ) → u < suc n → par' u ≡ None → dep' u ≡ 0
    top' u lt none =
        elim (split u lt) [
          | inl l ↦ same_dep u l ∙ links.top u l (sym (same_par u l) ∙ none)
          | inr is ↦ ap dep' is ∙ fits.top (ap par' (sym is) ∙ none)
        ]

    low' : (u p : ℕ) → par' u ≡ Some p → p < u
    low' u p e =
        elim (cases_lt u n) [
          | inl l ↦ links.low u p (sym (same_par u l) ∙ e)
          | inr g ↦ elim (cases_lt n u) [
            | inl over ↦ let none = none_past u over in absurd cc
            | inr under ↦
                let is : u ≡ n = omega arith in
                let l : p < n = fits.low p (ap par' (sym is) ∙ e) in
                omega arith
          ]
        ]

    deeper' : (u p : ℕ) → par' u ≡ Some p → dep' u ≡ dep' p + 1
    deeper' u p e =
        elim (cases_lt u n) [
          | inl l ↦
              let old : par u ≡ Some p = sym (same_par u l) ∙ e in
              let lp : p < u = links.low u p old in
              let d : dep u ≡ dep p + 1 = links.deeper u p old in
              let a : dep' u ≡ dep u = same_dep u l in
              let b : dep' p ≡ dep p = same_dep p (omega arith) in
              omega arith
          | inr g ↦ elim (cases_lt n u) [
            | inl over ↦ let none = none_past u over in absurd cc
            | inr under ↦
                let is : u ≡ n = omega arith in
                ap dep' is ∙ fits.deeper p (ap par' (sym is) ∙ e)
          ]
        ]

    far_low' : (u : ℕ) → u < suc n → far' u ≤ u
    far_low' u lt =
        elim (split u lt) [
          | inl l ↦
              let a : far' u ≡ far u = same_far u l in
              let b : far u ≤ u = links.far_low u l in
              omega arith
          | inr is ↦ subst (λ (x : ℕ). far' x ≤ x) (sym is) fits.far_low
        ]

    far_up' : (u : ℕ) → u < suc n → ancestor par' (dep' u - dep' (far' u)) u ≡ Some (far' u)
    far_up' u lt =
        elim (split u lt) [
          | inl l ↦ far_up_old u l
          | inr is ↦ subst (λ (x : ℕ). ancestor par' (dep' x - dep' (far' x)) x ≡ Some (far' x)) (sym is) fits.far_up
        ]

    far_rises' : (u : ℕ) → u < suc n → 0 < dep' u → dep' (far' u) < dep' u
    far_rises' u lt pos =
        elim (split u lt) [
          | inl l ↦
              let d : dep' (far' u) ≡ dep (far u) = kept_far_depth u l in
              let e : dep' u ≡ dep u = same_dep u l in
              let r : dep (far u) < dep u = links.far_rises u l (omega arith) in
              omega arith
          | inr is ↦ subst (λ (x : ℕ). 0 < dep' x → dep' (far' x) < dep' x) (sym is) fits.far_rises pos
        ]

    ranked' : (u : ℕ) → u < suc n → 0 < dep' u → (rank : ℕ) × HasRank par' far' rank u
    ranked' u lt pos =
        elim (split u lt) [
          | inl l ↦
              let r = links.ranked u l (rw (same_dep u l) at pos) in
              (r.0, kept_rank r.0 u l r.1)
          | inr is ↦ subst (λ (x : ℕ). 0 < dep' x → (rank : ℕ) × HasRank par' far' rank x) (sym is) fits.ranked pos
        ]

    no_shorter' : (u : ℕ) → u < suc n → 0 < dep' (far' u) → span dep' far' u ≤ span dep' far' (far' u)
    no_shorter' u lt pos =
        elim (split u lt) [
          | inl l ↦ rw (kept_span u l, kept_far_span u l) (links.no_shorter u l (rw (kept_far_depth u l) at pos))
          | inr is ↦
              subst (λ (x : ℕ). 0 < dep' (far' x) → span dep' far' x ≤ span dep' far' (far' x)) (sym is) fits.no_shorter pos
        ]

    longer' : (u : ℕ) → u < suc n → 0 < dep' (far' (far' u)) → span dep' far' (far' u) < span dep' far' (far' (far' u))
    longer' u lt pos =
        elim (split u lt) [
          | inl l ↦
              let j : far' u ≡ far u = same_far u l in
              let m : far u < n = far_made u l in
              let d : dep' (far' (far' u)) ≡ dep (far (far u)) = ap (λ x. dep' (far' x)) j ∙ kept_far_depth (far u) m in
              let s : span dep' far' (far' (far' u)) ≡ span dep far (far (far u)) = ap (λ x. span dep' far' (far' x)) j ∙ kept_far_span (far u) m in
              rw (kept_far_span u l, s) (links.longer u l (rw d at pos))
          | inr is ↦
              subst (λ (x : ℕ). 0 < dep' (far' (far' x)) → span dep' far' (far' x) < span dep' far' (far' (far' x))) (sym is) fits.longer pos
        ]

    whole : AreLinked (suc n) par' dep' far'
    whole = record {
      top = top';
      low = low';
      deeper = deeper';
      far_low = far_low';
      far_up = far_up';
      far_rises = far_rises';
      ranked = ranked';
      no_shorter = no_shorter';
      longer = longer';
    }

  -- ---- a new root

  pub linked_root : dep' n ≡ 0 → far' n ≡ n → par' n ≡ None → AreLinked (suc n) par' dep' far'
  linked_root flat is none =
      let far_flat : dep' (far' n) ≡ 0 = ap dep' is ∙ flat in
      let last_flat : dep' (far' (far' n)) ≡ 0 = ap (λ u. dep' (far' u)) is ∙ far_flat in
      let here : dep' n - dep' (far' n) ≡ 0 = omega arith in
      whole (record {
        top = λ e. flat;
        low = λ p e. absurd (let h : None ≡ Some p = sym none ∙ e in cc);
        deeper = λ p e. absurd (let h : None ≡ Some p = sym none ∙ e in cc);
        far_low = omega arith;
        far_up = rw here (ap Some (sym is));
        far_rises = λ pos. absurd (omega arith);
        ranked = λ pos. absurd (omega arith);
        no_shorter = λ pos. absurd (omega arith);
        longer = λ pos. absurd (omega arith);
      })

  -- ---- a new child

  module _ (t : ℕ) (made : t < n) (its_par : par' n ≡ Some t) (its_dep : dep' n ≡ dep t + 1) (its_far : far' n ≡ next_far dep far t) where
    abbrev first : ℕ
    first = far t

    abbrev second : ℕ
    second = far (far t)

    first_low : first ≤ t
    first_low = links.far_low t made

    second_low : second ≤ first
    second_low = let l : first ≤ t = first_low in links.far_low first (omega arith)

    up_first : ancestor par (dep t - dep first) t ≡ Some first
    up_first = links.far_up t made

    up_second : ancestor par (dep first - dep second) first ≡ Some second
    up_second = let l : first ≤ t = first_low in links.far_up first (omega arith)

    -- the two possible targets of the new far link
    record Lands (j : ℕ) : Type 0 where
      low : j ≤ t
      rises : dep j ≤ dep t
      up : ancestor par (dep t - dep j) t ≡ Some j

    lands_on : (b : Bool) → Lands (cond b second t)
    lands_on false = record {
      low = omega arith;
      rises = omega arith;
      up = let z : dep t - dep t ≡ 0 = omega arith in rw z;
    }
    lands_on true =
        let l = first_low in
        let m = second_low in
        let d : dep t ≡ dep first + (dep t - dep first) = (walk_depth n par dep far links (dep t - dep first) t first up_first).0 in
        let f : dep first ≡ dep second + (dep first - dep second) = (walk_depth n par dep far links (dep first - dep second) first second up_second).0 in
        let whole : dep t - dep second ≡ (dep t - dep first) + (dep first - dep second) = omega arith in
        record {
          low = omega (arith, l, m);
          rises = omega arith;
          up = rw whole (ancestor_add par (dep t - dep first) (dep first - dep second) t first up_first ∙ up_second);
        }

    lands : Lands (far' n)
    lands = subst Lands (sym its_far) (lands_on _)

    far_up_new : ancestor par' (dep' n - dep' (far' n)) n ≡ Some (far' n)
    far_up_new =
        let low : far' n ≤ t = lands.low in
        let rises : dep (far' n) ≤ dep t = lands.rises in
        let d : dep' (far' n) ≡ dep (far' n) = same_dep (far' n) (omega arith) in
        let steps : dep' n - dep' (far' n) ≡ 1 + (dep t - dep (far' n)) = omega arith in
        rw steps
        (ancestor_add par' 1 (dep t - dep (far' n)) n t (ancestor_parent par' n t its_par)
        ∙ (same_up (dep t - dep (far' n)) t made ∙ lands.up))

    -- what has to be shown of the new far link
    record Ranks : Type 0 where
      ranked : (rank : ℕ) × HasRank par' far' rank n
      no_shorter : 0 < dep' (far' n) → span dep' far' n ≤ span dep' far' (far' n)
      longer : 0 < dep' (far' (far' n)) → span dep' far' (far' n) < span dep' far' (far' (far' n))

    ranks_at : (x : ℕ) → x < n → far' n ≡ x → (rank : ℕ) × HasRank par' far' rank n
        → (0 < dep x → dep t + 1 - dep x ≤ span dep far x) → (0 < dep (far x) → span dep far x < span dep far (far x)) → Ranks
    ranks_at x l is ranked wide wider =
        let far_dep : dep' (far' n) ≡ dep x = ap dep' is ∙ same_dep x l in
        let far_span : span dep' far' (far' n) ≡ span dep far x = ap (span dep' far') is ∙ kept_span x l in
        let last_dep : dep' (far' (far' n)) ≡ dep (far x) = ap (λ u. dep' (far' u)) is ∙ kept_far_depth x l in
        let last_span : span dep' far' (far' (far' n)) ≡ span dep far (far x) = ap (λ u. span dep' far' (far' u)) is ∙ kept_far_span x l in
        let new_span : span dep' far' n ≡ dep t + 1 - dep x = ap (λ m. m - dep' (far' n)) its_dep ∙ ap (λ m. dep t + 1 - m) far_dep in
        record {
          ranked = ranked;
          no_shorter = λ pos. rw (new_span, far_span) (wide (rw far_dep at pos));
          longer = λ pos. rw (far_span, last_span) (wider (rw last_dep at pos));
        }

    flat_far : (u : ℕ) → u < n → dep u ≡ 0 → u ≡ far u
    flat_far u l flat =
        let none : dep u - dep (far u) ≡ 0 = omega arith in
        same_Some u (far u) (ap (λ k. ancestor par k u) (sym none) ∙ links.far_up u l)

    to_parent : far' n ≡ t → (rank : ℕ) × HasRank par' far' rank n
    to_parent is = (0, its_par ∙ ap Some (sym is))

    ranks_short : span dep far t ≢ span dep far first → far' n ≡ t → Ranks
    ranks_short differ is =
        ranks_at t made is (to_parent is)
        (λ pos. let r : dep first < dep t = links.far_rises t made pos in let goal : dep t + 1 - dep t ≤ dep t - dep first = omega arith in goal)
        (λ pos.
        let le : dep t - dep first ≤ dep first - dep second = links.no_shorter t made pos in
        elim (cases_lt (dep t - dep first) (dep first - dep second)) [
          | inl lt ↦ lt
          | inr ge ↦ let same : dep t - dep first ≡ dep first - dep second = omega arith in absurd (differ same)
        ])

    ranks_flat : dep t ≡ 0 → far' n ≡ second → Ranks
    ranks_flat flat is =
        let a : t ≡ first = flat_far t made flat in
        let b : first ≡ second = ap far a in
        let to : far' n ≡ t = is ∙ (sym b ∙ sym a) in
        let flat' : dep first ≡ 0 = ap dep (sym a) ∙ flat in
        ranks_at t made to (to_parent to) (λ pos. absurd (omega arith)) (λ pos. absurd (omega arith))

    module _ (same : span dep far t ≡ span dep far first) (deep : 0 < dep t) (is : far' n ≡ second) where
      at_t : (rank : ℕ) × HasRank par far rank t
      at_t = links.ranked t made deep

      first_deep : 0 < dep first
      first_deep =
          let r : dep first < dep t = links.far_rises t made deep in
          let e : dep t - dep first ≡ dep first - dep second = same in
          omega arith

      made_first : first < n
      made_first = far_made t made

      at_first : HasRank par far at_t.0 first
      at_first =
          let r = links.ranked first made_first first_deep in
          subst (λ (k : ℕ). HasRank par far k first) (sym (same_rank n par dep far links at_t.0 r.0 t first at_t.1 r.1 same)) r.1

      rank_new : HasRank par' far' (suc at_t.0) n
      rank_new =
          let j : far' t ≡ first = same_far t made in (
            t,
            its_par,
            kept_rank at_t.0 t made at_t.1,
            subst (HasRank par' far' at_t.0) (sym j) (kept_rank at_t.0 first made_first at_first),
            is ∙ (sym (same_far first made_first) ∙ ap far' (sym j)),
          )

      wide_new : 0 < dep second → dep t + 1 - dep second ≤ dep second - dep (far second)
      wide_new pos =
          let made_second : second < n = far_made first made_first in
          let r = links.ranked second made_second pos in
          let a : dep t + 1 ≡ dep first + 2 ^ suc at_t.0 = rank_span n par dep far links at_t.0 t at_t.1 in
          let b : dep first + 1 ≡ dep second + 2 ^ suc at_t.0 = rank_span n par dep far links at_t.0 first at_first in
          let c : dep second + 1 ≡ dep (far second) + 2 ^ suc r.0 = rank_span n par dep far links r.0 second r.1 in
          let some : 1 ≤ 2 ^ suc at_t.0 = some_power (suc at_t.0) in
          let more : dep first - dep second < dep second - dep (far second) = links.longer t made pos in
          let higher : suc at_t.0 < suc r.0 = exponent_below (suc at_t.0) (suc r.0) (omega arith) in
          let power : 2 ^ suc (suc at_t.0) ≤ 2 ^ suc r.0 = power_upto (suc (suc at_t.0)) (suc r.0) (omega arith) in
          let double : 2 ^ suc (suc at_t.0) ≡ 2 ^ suc at_t.0 + 2 ^ suc at_t.0 = twice (suc at_t.0) in
          omega arith

      ranks_long : Ranks
      ranks_long = ranks_at second (far_made first made_first) is (suc at_t.0, rank_new) wide_new (links.longer first made_first)

    ranks_by : (b : Bool) → (span dep far t == span dep far first) ≡ b → far' n ≡ cond b second t → Ranks
    ranks_by false e is = ranks_short (λ same. false≢true (sym e ∙ eq-eqb (span dep far t) (span dep far first) same)) is
    ranks_by true e is =
        elim (cases_lt 0 (dep t)) [
          | inl deep ↦ ranks_long (eqb-true (span dep far t) (span dep far first) e) deep is
          | inr flat ↦ ranks_flat (omega arith) is
        ]

    ranks : Ranks
    ranks = ranks_by _ refl its_far

    far_rises_new : dep' (far' n) < dep' n
    far_rises_new =
        let low : far' n ≤ t = lands.low in
        let rises : dep (far' n) ≤ dep t = lands.rises in
        let d : dep' (far' n) ≡ dep (far' n) = same_dep (far' n) (omega arith) in
        omega arith

    its_only : (p : ℕ) → par' n ≡ Some p → t ≡ p
    its_only p e = same_Some t p (sym its_par ∙ e)

    pub linked_child : AreLinked (suc n) par' dep' far'
    linked_child = whole (record {
      top = λ none. absurd (let h : Some t ≡ None = sym its_par ∙ none in cc);
      low = λ p e. let same : t ≡ p = its_only p e in omega arith;
      deeper = λ p e. its_dep ∙ ap (λ m. m + 1) (sym (same_dep t made) ∙ ap dep' (its_only p e));
      far_low = let low : far' n ≤ t = lands.low in omega arith;
      far_up = far_up_new;
      far_rises = λ pos. far_rises_new;
      ranked = λ pos. ranks.ranked;
      no_shorter = ranks.no_shorter;
      longer = ranks.longer;
    })

-- ---- either case

goes_on : (n : ℕ) (par par' : ℕ → Option ℕ) (dep dep' far far' : ℕ → ℕ) → AreLinked n par dep far → HasOneMore n par par' dep dep' far far' → (m : Option ℕ) → par' n ≡ m → IsNewLink n dep far m (dep' n) (far' n) → AreLinked (suc n) par' dep' far'
goes_on n par par' dep dep' far far' links more None e new = linked_root n par par' dep dep' far far' links more.parents more.depths more.fars more.past new.0 new.1 e
goes_on n par par' dep dep' far far' links more (Some p) e new =
    linked_child n par par' dep dep' far far' links more.parents more.depths more.fars more.past p new.0 e new.1 new.2

pub links_go_on : LinksGoOn
links_go_on n par par' dep dep' far far' links more = goes_on n par par' dep dep' far far' links more (par' n) refl more.new
