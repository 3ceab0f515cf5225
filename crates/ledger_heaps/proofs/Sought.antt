-- A search that meets the roots, then follows the references of each name that it met, meets exactly what is reachable.
use Rattle.ledger_heaps.proofs.Common.{◌≡◌, ℕ, Bool, true, false, ◌&&◌, ◌||◌, not, List, [], ◌∷◌, ◌++◌, filter, length, inl, inr, refl, ap, sym, subst, ◌∙◌, zero, suc, cond, arith, list_any, false≢true, or_cases, or_left, or_right, not-true, and_from, and_parts, cases_Bool, and-false, and-true, In, in_from_contains, contains_from_in, in_kept, in_from_kept, Name, Object, refs_at, reached_within, holds_name, is_name, reached, reached_by, StartsWithin, LeadsWithin, in_from_holds, holds_from_in, is_name_itself, same_from_is_name, reached_root, reached_more, reached_is_walks, Meets}
use Rattle.ledger_heaps.proofs.Meets.{holds_append}

-- for these names and roots: u says which names weren't met yet, and those of w wait
pub record Sought (store : List (List Object)) (names roots : List Name) (u : Name → Bool) (w : List Name) : Type 0 where
  pub inside : (n : Name) → u n ≡ true → holds_name names n ≡ true
  pub start : (n : Name) → u n ≡ true → holds_name roots n ≡ false
  pub waits : (n : Name) → holds_name w n ≡ true → (holds_name names n ≡ true) × (u n ≡ false)
  pub sound : (n : Name) → holds_name names n ≡ true → u n ≡ false → holds_name (reached store names roots) n ≡ true
  pub closed : (m n : Name) → holds_name names m ≡ true → u m ≡ false → holds_name w m ≡ false → holds_name (refs_at store m) n ≡ true → u n ≡ false

module _ (store : List (List Object)) (names roots : List Name) where
  pub sought_start : (u v : Name → Bool) (w : List Name) → ((n : Name) → u n ≡ holds_name names n) → Meets roots u v [] w → Sought store names roots v w
  sought_start u v w all met = record {
    inside = λ n h. sym (all n) ∙ (and_parts (u n) (not (holds_name roots n)) (sym (met.unmet n) ∙ h)).0;
    start = λ n h. not-true (holds_name roots n) (and_parts (u n) (not (holds_name roots n)) (sym (met.unmet n) ∙ h)).1;
    waits = λ n h.
        let both : (u n && holds_name roots n) ≡ true = sym (met.waiting n) ∙ h in
        (sym (all n) ∙ (and_parts (u n) (holds_name roots n) both).0, met.unmet n ∙ ap (λ b. u n && not b) ((and_parts (u n) (holds_name roots n) both).1) ∙ and-false (u n));
    sound = λ n i h. is_root n i (met_at n i h);
    closed = λ m n i h out r. absurd (false≢true (sym out ∙ (met.waiting m ∙ and_from (u m) (holds_name roots m) (all m ∙ i) (met_at m i h))));
  }
    where
      by_test : (a b : Bool) → a ≡ true → (a && not b) ≡ false → b ≡ true
      by_test true true e k = refl
      by_test true false e k = absurd (false≢true (sym k))
      by_test false b e k = absurd (false≢true e)

      met_at : (n : Name) → holds_name names n ≡ true → v n ≡ false → holds_name roots n ≡ true
      met_at n i h = by_test (u n) (holds_name roots n) (all n ∙ i) (sym (met.unmet n) ∙ h)

      is_root : (n : Name) → holds_name names n ≡ true → holds_name roots n ≡ true → holds_name (reached store names roots) n ≡ true
      is_root n i r = holds_from_in (reached store names roots) n (reached_root store names roots n (in_from_holds names n i) (in_from_holds roots n r))

  module _ (name : Name) (u v : Name → Bool) (front w : List Name) (S : Sought store names roots u (front ++ name ∷ [])) (met : Meets (refs_at store name) u v front w) where
    waited : holds_name (front ++ name ∷ []) name ≡ true
    waited = holds_append front (name ∷ []) name ∙ or_right (holds_name front name) (is_name name name || false) (or_left (is_name name name) false (is_name_itself name))

    front_waits : (n : Name) → holds_name front n ≡ true → holds_name (front ++ name ∷ []) n ≡ true
    front_waits n h = holds_append front (name ∷ []) n ∙ or_left (holds_name front n) (is_name n name || false) h

    -- what was met is still met
    stays : (n : Name) → u n ≡ false → v n ≡ false
    stays n h = met.unmet n ∙ ap (λ b. b && not (holds_name (refs_at store name) n)) h

    was : (n : Name) → v n ≡ true → u n ≡ true
    was n h = (and_parts (u n) (not (holds_name (refs_at store name) n)) (sym (met.unmet n) ∙ h)).0

    gone : (n : Name) → holds_name (refs_at store name) n ≡ true → v n ≡ false
    gone n h = met.unmet n ∙ (ap (λ b. u n && not b) h ∙ and-false (u n))

    -- what is newly met
    newly : (n : Name) → u n ≡ true → v n ≡ false → holds_name (refs_at store name) n ≡ true
    newly n h k = by_test (u n) (holds_name (refs_at store name) n) h (sym (met.unmet n) ∙ k)
      where
        by_test : (a b : Bool) → a ≡ true → (a && not b) ≡ false → b ≡ true
        by_test true true e q = refl
        by_test true false e q = absurd (false≢true (sym q))
        by_test false b e q = absurd (false≢true e)

    waits_now : (n : Name) → holds_name w n ≡ true → (holds_name names n ≡ true) × (v n ≡ false)
    waits_now n h = elim (or_cases (holds_name front n) (u n && holds_name (refs_at store name) n) (sym (met.waiting n) ∙ h)) [
      | inl e ↦ let r = S.waits n (front_waits n e) in (r.0, stays n r.1)
      | inr e ↦ (
        S.inside n ((and_parts (u n) (holds_name (refs_at store name) n) e).0),
        gone n ((and_parts (u n) (holds_name (refs_at store name) n) e).1),
      )
    ]

    sound_now : (n : Name) → holds_name names n ≡ true → v n ≡ false → holds_name (reached store names roots) n ≡ true
    sound_now n i h = elim (cases_Bool (u n)) [
      | inl e ↦
          let at = S.waits name waited in
          holds_from_in (reached store names roots) n
          (reached_more store names roots name n
          (in_from_holds (reached store names roots) name (S.sound name at.0 at.1))
          (in_from_holds (refs_at store name) n (newly n e h)) (in_from_holds names n i))
      | inr e ↦ S.sound n i e
    ]

    met_before : (m : Name) → v m ≡ false → holds_name w m ≡ false → u m ≡ false
    met_before m h out = elim (cases_Bool (u m)) [
      | inl e ↦
          absurd (false≢true (sym out ∙ (met.waiting m ∙ or_right (holds_name front m) (u m && holds_name (refs_at store name) m) (and_from (u m) (holds_name (refs_at store name) m) e (newly m e h)))))
      | inr e ↦ e
    ]

    not_front : (m : Name) → holds_name w m ≡ false → holds_name front m ≡ false
    not_front m out = elim (cases_Bool (holds_name front m)) [
      | inl e ↦ absurd (false≢true (sym out ∙ (met.waiting m ∙ or_left (holds_name front m) (u m && holds_name (refs_at store name) m) e)))
      | inr e ↦ e
    ]

    neither : (m : Name) → holds_name front m ≡ false → is_name m name ≡ false → holds_name (front ++ name ∷ []) m ≡ false
    neither m f n = holds_append front (name ∷ []) m ∙ (ap (λ b. b || (is_name m name || false)) f ∙ ap (λ b. b || false) n)

    closed_now : (m n : Name) → holds_name names m ≡ true → v m ≡ false → holds_name w m ≡ false → holds_name (refs_at store m) n ≡ true → v n ≡ false
    closed_now m n i h out r = elim (cases_Bool (is_name m name)) [
      | inl e ↦ gone n (subst (λ x. holds_name (refs_at store x) n ≡ true) (same_from_is_name m name e) r)
      | inr e ↦ stays n (S.closed m n i (met_before m h out) (neither m (not_front m out) e) r)
    ]

    pub sought_step : Sought store names roots v w
    sought_step = record {
      inside = λ n h. S.inside n (was n h);
      start = λ n h. S.start n (was n h);
      waits = waits_now;
      sound = sound_now;
      closed = closed_now;
    }

  module _ (u : Name → Bool) (S : Sought store names roots u []) where
    abbrev Met : Name → Type 0
    Met n = (u n ≡ false) × (holds_name names n ≡ true)

    root_met : (n : Name) → StartsWithin names roots n → Met n
    root_met n s = (by_test (u n) refl, holds_from_in names n (in_from_contains names n s.0))
      where
        by_test : (b : Bool) → u n ≡ b → u n ≡ false
        by_test true e = absurd (false≢true (sym (S.start n e) ∙ holds_from_in roots n (in_from_contains roots n s.1)))
        by_test false e = e

    more_met : (m n : Name) → Met m → LeadsWithin store names m n → Met n
    more_met m n h l = (
      S.closed m n h.1 h.0 refl (holds_from_in (refs_at store m) n (in_from_contains (refs_at store m) n l.1)),
      holds_from_in names n (in_from_contains names n l.0),
    )

    met_all : (n : Name) → holds_name (reached store names roots) n ≡ true → u n ≡ false
    met_all n h =
        (reached_within (StartsWithin names roots) (LeadsWithin store names) Met root_met more_met n
        ((reached_is_walks store names roots n).0 (contains_from_in (reached store names roots) n (in_from_holds (reached store names roots) n h)))).0

    end_by : (n : Name) (a b c : Bool) → u n ≡ a → holds_name names n ≡ b → holds_name (reached store names roots) n ≡ c → u n ≡ (holds_name names n && not (holds_name (reached store names roots) n))
    end_by n true b true e k r = absurd (false≢true (sym (met_all n r) ∙ e))
    end_by n true b false e k r = e ∙ (sym (S.inside n e) ∙ (sym (and-true (holds_name names n)) ∙ ap (λ x. holds_name names n && not x) (sym r)))
    end_by n false false c e k r = e ∙ ap (λ x. x && not (holds_name (reached store names roots) n)) (sym k)
    end_by n false true c e k r = e ∙ (sym (and-false (holds_name names n)) ∙ ap (λ x. holds_name names n && not x) (sym (S.sound n k e)))

    pub sought_end : (n : Name) → u n ≡ (holds_name names n && not (holds_name (reached store names roots) n))
    sought_end n = end_by n (u n) (holds_name names n) (holds_name (reached store names roots) n) refl refl refl

-- WHAT WAS MET IS THE RESULT

same_on : (p q : Name → Bool) (ns : List Name) → ((n : Name) → In ns n → p n ≡ q n) → filter p ns ≡ filter q ns
same_on p q [] h = refl
same_on p q (n ∷ ns) h = by_test (p n) (q n) (h n (inl refl)) (same_on p q ns (λ m i. h m (inr i)))
  where
    by_test : (a b : Bool) → a ≡ b → filter p ns ≡ filter q ns → cond a (n ∷ filter p ns) (filter p ns) ≡ cond b (n ∷ filter q ns) (filter q ns)
    by_test true true e k = ap (λ ms. n ∷ ms) k
    by_test true false e k = absurd (false≢true (sym e))
    by_test false true e k = absurd (false≢true e)
    by_test false false e k = k

kept_again : (p : Name → Bool) (ns : List Name) → filter p ns ≡ filter (holds_name (filter p ns)) ns
kept_again p ns = same_on p (holds_name (filter p ns)) ns (λ n i. by_test n i (p n) (holds_name (filter p ns) n) refl refl)
  where
    by_test : (n : Name) → In ns n → (a b : Bool) → p n ≡ a → holds_name (filter p ns) n ≡ b → p n ≡ holds_name (filter p ns) n
    by_test n i true b e k = e ∙ sym (holds_from_in (filter p ns) n (in_kept p ns n i e))
    by_test n i false true e k = absurd (false≢true (sym e ∙ (in_from_kept p ns n (in_from_holds (filter p ns) n k)).1))
    by_test n i false false e k = e ∙ sym k

is_kept : (store : List (List Object)) (names roots : List Name) (k : ℕ) → (p : Name → Bool) × (reached_by store names roots k ≡ filter p names)
is_kept store names roots zero = (holds_name roots, refl)
is_kept store names roots (suc k) = ((λ n. holds_name (reached_by store names roots k) n || list_any (λ m. holds_name (refs_at store m) n) (reached_by store names roots k)), refl)

reached_again : (store : List (List Object)) (names roots : List Name) → reached store names roots ≡ filter (holds_name (reached store names roots)) names
reached_again store names roots =
    let r = is_kept store names roots (length names) in
    r.1 ∙ (kept_again r.0 names ∙ ap (λ ns. filter (holds_name ns) names) (sym r.1))

pub met_is_reached : (store : List (List Object)) (names roots : List Name) (u : Name → Bool) → ((n : Name) → u n ≡ (holds_name names n && not (holds_name (reached store names roots) n)))
    → filter (λ n. not (u n)) names ≡ reached store names roots
met_is_reached store names roots u all =
    same_on (λ n. not (u n)) (holds_name (reached store names roots)) names
    (λ n i. ap not (all n) ∙ by_test (holds_name names n) (holds_name (reached store names roots) n) (holds_from_in names n i)) ∙ sym (reached_again store names roots)
  where
    by_test : (a b : Bool) → a ≡ true → not (a && not b) ≡ b
    by_test true true e = refl
    by_test true false e = refl
    by_test false b e = absurd (false≢true e)

-- if no name is held, none is reachable
pub nothing_reached : (store : List (List Object)) (names roots : List Name) → ((n : Name) → holds_name names n ≡ false) → [] ≡ reached store names roots
nothing_reached store [] roots h = refl
nothing_reached store (n ∷ names) roots h = absurd (false≢true (sym (h n) ∙ or_left (is_name n n) (holds_name names n) (is_name_itself n)))

-- an empty table holds nothing
pub none_held : (test : Name → Bool) (keys : List Name) → length keys ≡ 0 → list_any test keys ≡ false
none_held test [] e = refl
none_held test (n ∷ keys) e = absurd (omega arith)
