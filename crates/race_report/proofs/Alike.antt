-- Of the accesses of one strand and kind the first is enough.
use Rattle.race_report.proofs.Common.{◌≡◌, ℕ, zero, suc, ◌<◌, Bool, true, false, cond, not, ◌==◌, ◌||◌, ◌&&◌, Some, None, List, [], ◌∷◌, ◌++◌, length, slice_get, filter, ◌⊎◌, inl, inr, refl, ap, sym, subst, ◌∙◌, append_assoc, append-nil, eqb-true, beq, or_cases, both_ways, and_parts, insert_key, In, in_append_left, in_append_right, in_append_cases, got_front, got_within, in_from_kept, FieldAccess, Seen, Open, Way, way_of, same_way, ways_of, has_alike, label_precedes, clashes, first_clash, with_first, with_access}

-- THE FIRST OF EACH

abbrev pub with_new : List Seen → Seen → List Seen
with_new es x = cond (has_alike es x.access) es (es ++ x ∷ [])

abbrev pub firsts_from : List Seen → List Seen → List Seen
firsts_from es [] = es
firsts_from es (x ∷ xs) = firsts_from (with_new es x) xs

pub firsts_push : (es xs : List Seen) (x : Seen) → firsts_from es (xs ++ x ∷ []) ≡ with_new (firsts_from es xs) x
firsts_push es [] x = refl
firsts_push es (y ∷ xs) x = firsts_push (with_new es y) xs x

pub access_earlier : (o : Open) (x : Seen) → (with_access o x).earlier ≡ with_new o.earlier x
access_earlier o x = access_earlier_by_cases (has_alike o.earlier x.access)
  where
    access_earlier_by_cases : (b : Bool) → (cond b o (with_first o x)).earlier ≡ cond b o.earlier (o.earlier ++ x ∷ [])
    access_earlier_by_cases true = refl
    access_earlier_by_cases false = refl

alike_in : (us : List Seen) (a : FieldAccess) → has_alike us a ≡ true → (u : Seen) × In us u × (same_way (way_of a) (way_of u.access) ≡ true)
alike_in [] a e = absurd cc
alike_in (u ∷ us) a e = alike_in_by_cases (or_cases (same_way (way_of a) (way_of u.access)) (has_alike us a) e) (alike_in us a)
  where
    alike_in_by_cases : ((same_way (way_of a) (way_of u.access) ≡ true) ⊎ (has_alike us a ≡ true)) → (has_alike us a ≡ true → (w : Seen) × In us w × (same_way (way_of a) (way_of w.access) ≡ true))
        → (w : Seen) × In (u ∷ us) w × (same_way (way_of a) (way_of w.access) ≡ true)
    alike_in_by_cases (inl h) rest = (u, inl refl, h)
    alike_in_by_cases (inr h) rest = let r = rest h in (r.0, inr r.1, r.2)

-- THE SET OF WAYS

ways_push : (us : List Seen) (v : Seen) → ways_of us ++ way_of v.access ∷ [] ≡ ways_of (us ++ v ∷ [])
ways_push [] v = refl
ways_push (u ∷ us) v = ap (λ (ws : List Way). way_of u.access ∷ ws) (ways_push us v)

pub pushed_ways : (us : List Seen) (v : Seen) (keys : List Way) (way : Way) → has_alike us v.access ≡ false → keys ≡ ways_of us → way ≡ way_of v.access → insert_key same_way keys way ≡ ways_of (us ++ v ∷ [])
pushed_ways us v keys way new is at =
    (λ i. insert_key same_way (is i) (at i)) ∙ ap (λ b. cond b (ways_of us) (ways_of us ++ way_of v.access ∷ [])) new ∙ ways_push us v

-- THE FIRST THAT RACES IS THE SAME

module _ (x : Seen) where
  -- of these, accesses of one kind race alike
  abbrev pub SameFor : List Seen → Type 0
  SameFor us = (u w : Seen) → In us u → In us w → same_way (way_of w.access) (way_of u.access) ≡ true → clashes u x ≡ clashes w x

  within : (es : List Seen) (u : Seen) → In es u → clashes u x ≡ true → (zs ws : List Seen) → first_clash (es ++ zs) x ≡ first_clash (es ++ ws) x
  within [] u i c zs ws = absurd i
  within (e ∷ es) u i c zs ws = within_by_cases (clashes e x) refl i (λ j. within es u j c zs ws)
    where
      within_by_cases : (b : Bool) → clashes e x ≡ b → In (e ∷ es) u → (In es u → first_clash (es ++ zs) x ≡ first_clash (es ++ ws) x)
          → cond b (Some e) (first_clash (es ++ zs) x) ≡ cond b (Some e) (first_clash (es ++ ws) x)
      within_by_cases true is at rest = refl
      within_by_cases false is (inl same) rest = absurd (both_ways (clashes e x) is (ap (λ (z : Seen). clashes z x) same ∙ c))
      within_by_cases false is (inr at) rest = rest at

  calm : (es : List Seen) (y : Seen) (ys : List Seen) → clashes y x ≡ false → first_clash (es ++ ys) x ≡ first_clash (es ++ y ∷ ys) x
  calm [] y ys c = sym (ap (λ b. cond b (Some y) (first_clash ys x)) c)
  calm (e ∷ es) y ys c = ap (cond (clashes e x) (Some e)) (calm es y ys c)

  skipped : (es : List Seen) (y : Seen) (ys : List Seen) → SameFor (es ++ y ∷ ys) → has_alike es y.access ≡ true → first_clash (es ++ ys) x ≡ first_clash (es ++ y ∷ ys) x
  skipped es y ys S has = skipped_by_cases (clashes y x) refl
    where
      skipped_by_cases : (b : Bool) → clashes y x ≡ b → first_clash (es ++ ys) x ≡ first_clash (es ++ y ∷ ys) x
      skipped_by_cases true c =
          let u = alike_in es y.access has in
          within es u.0 u.1 (S u.0 y (in_append_left es (y ∷ ys) u.0 u.1) (in_append_right es (y ∷ ys) y (inl refl)) u.2 ∙ c) ys (y ∷ ys)
      skipped_by_cases false c = calm es y ys c

  fewer : (es : List Seen) (y : Seen) (ys : List Seen) → SameFor (es ++ y ∷ ys) → SameFor (es ++ ys)
  fewer es y ys S u w i j h = S u w (more u i) (more w j) h
    where
      more : (v : Seen) → In (es ++ ys) v → In (es ++ y ∷ ys) v
      more v i = elim (in_append_cases es ys v i) [ inl l ↦ in_append_left es (y ∷ ys) v l | inr r ↦ in_append_right es (y ∷ ys) v (inr r) ]

  pub first_same : (es xs : List Seen) → SameFor (es ++ xs) → first_clash (firsts_from es xs) x ≡ first_clash (es ++ xs) x
  first_same es [] S = ap (λ us. first_clash us x) (sym (append-nil es))
  first_same es (y ∷ ys) S =
      first_same_by_cases (has_alike es y.access) refl (first_same es ys (fewer es y ys S))
      (first_same (es ++ y ∷ []) ys (subst SameFor (sym (append_assoc es (y ∷ []) ys)) S))
    where
      first_same_by_cases : (b : Bool) → has_alike es y.access ≡ b → first_clash (firsts_from es ys) x ≡ first_clash (es ++ ys) x
          → first_clash (firsts_from (es ++ y ∷ []) ys) x ≡ first_clash ((es ++ y ∷ []) ++ ys) x
          → first_clash (firsts_from (cond b es (es ++ y ∷ [])) ys) x ≡ first_clash (es ++ y ∷ ys) x
      first_same_by_cases true has skip push = skip ∙ skipped es y ys S has
      first_same_by_cases false has skip push = push ∙ ap (λ us. first_clash us x) (append_assoc es (y ∷ []) ys)

  pub all_free : (us : List Seen) → ((u : Seen) → In us u → clashes u x ≡ false) → first_clash us x ≡ None
  all_free [] free = refl
  all_free (u ∷ us) free = ap (λ b. cond b (Some u) (first_clash us x)) (free u (inl refl)) ∙ all_free us (λ w i. free w (inr i))

-- ONE STRAND

same_bool : (a b : Bool) → beq a b ≡ true → a ≡ b
same_bool true true e = refl
same_bool true false e = absurd cc
same_bool false true e = absurd cc
same_bool false false e = refl

-- in a list of accesses, those of one strand happen before the same later ones, by their labels
abbrev pub StrandsTell : List Seen → Type 0
StrandsTell zs =
    (i k j : ℕ) (u w v : Seen) → i < j → k < j → slice_get zs i ≡ Some u → slice_get zs k ≡ Some w → slice_get zs j ≡ Some v
    → u.access.strand ≡ w.access.strand → label_precedes u.label v.label ≡ label_precedes w.label v.label

alike_clashes : (u w x : Seen) → same_way (way_of w.access) (way_of u.access) ≡ true → (u.access.strand ≡ w.access.strand → label_precedes u.label x.label ≡ label_precedes w.label x.label) → clashes u x ≡ clashes w x
alike_clashes u w x h label =
    let p = and_parts ((w.access.strand.task == u.access.strand.task) && (w.access.strand.joins == u.access.strand.joins)) (beq w.access.writes u.access.writes && beq w.access.swaps u.access.swaps) h in
    let s = and_parts (w.access.strand.task == u.access.strand.task) (w.access.strand.joins == u.access.strand.joins) p.0 in
    let k = and_parts (beq w.access.writes u.access.writes) (beq w.access.swaps u.access.swaps) p.1 in
    let task : u.access.strand.task ≡ w.access.strand.task = sym (eqb-true w.access.strand.task u.access.strand.task s.0) in
    let joins : u.access.strand.joins ≡ w.access.strand.joins = sym (eqb-true w.access.strand.joins u.access.strand.joins s.1) in
    let strand : u.access.strand ≡ w.access.strand = (λ i. record { task = task i; joins = joins i }) in
    let writes : u.access.writes ≡ w.access.writes = sym (same_bool w.access.writes u.access.writes k.0) in
    let swaps : u.access.swaps ≡ w.access.swaps = sym (same_bool w.access.swaps u.access.swaps k.1) in
    λ i. ((writes i || x.access.writes) && not (swaps i && x.access.swaps)) && not (label strand i)

at_place : (us : List Seen) (u : Seen) → In us u → (i : ℕ) × (slice_get us i ≡ Some u)
at_place [] u h = absurd h
at_place (y ∷ us) u (inl e) = (zero, ap Some e)
at_place (y ∷ us) u (inr h) = let r = at_place us u h in (suc r.0, r.1)

got_next : (ss : List Seen) (x : Seen) (rest : List Seen) → slice_get (ss ++ x ∷ rest) (length ss) ≡ Some x
got_next [] x rest = refl
got_next (y ∷ ss) x rest = got_next ss x rest

pub same_for : (p : Seen → Bool) (ss : List Seen) (x : Seen) (rest : List Seen) → StrandsTell (ss ++ x ∷ rest) → SameFor x (filter p ss)
same_for p ss x rest T u w i k h =
    let a = at_place ss u (in_from_kept p ss u i).0 in
    let b = at_place ss w (in_from_kept p ss w k).0 in
    let la = got_within ss a.0 u a.1 in
    let lb = got_within ss b.0 w b.1 in
    alike_clashes u w x h (λ e. T a.0 b.0 (length ss) u w x la lb (got_front ss (x ∷ rest) a.0 la ∙ a.1) (got_front ss (x ∷ rest) b.0 lb ∙ b.1) (got_next ss x rest) e)
