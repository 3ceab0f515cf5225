-- The record of one field is exact: nothing if there is no access, no race while it waits, and otherwise its pair.
use Rattle.race_report.proofs.Common.{◌≡◌, ℕ, zero, suc, ◌<◌, ◌≤◌, Bool, true, false, cond, Option, Some, None, List, [], ◌∷◌, ◌++◌, length, slice_get, filter, ◌⊎◌, inl, inr, refl, ap, sym, subst, ◌∙◌, arith, append_assoc, append-nil, both_ways, same_Some, In, in_kept, got_front, got_within, got_in, got_last, Seen, Open, Watch, Found, allows, Key, bound_for, clashes, first_clash, found_by, watched_from, watched_with, key_of, nothing_yet, watch_or_none, race_between, same_key, watch_with, with_access}
use Rattle.race_report.specs.declared.data.Watch.TheVariants.{Open as Waits}
use Rattle.race_report.proofs.Alike.{SameFor, StrandsTell, access_earlier, all_free, first_same, firsts_from, firsts_push, same_for, with_new}
use Rattle.race_report.proofs.Keys.{same_key_is, same_key_itself}
use Rattle.race_report.proofs.BoundLaws.{Bounds, bound_tells, bounds_more, none_clashes}

abbrev pub key : Seen → Key
key v = key_of v.access.field

-- LISTS WITH ONE MORE ITEM

push_got : {A : Type 0} (xs : List A) (x z : A) (k : ℕ) → slice_get (xs ++ x ∷ []) k ≡ Some z → ((k < length xs) × (slice_get xs k ≡ Some z)) ⊎ ((k ≡ length xs) × (z ≡ x))
push_got [] x z zero e = inr (refl, sym (same_Some x z e))
push_got [] x z (suc k) e = absurd cc
push_got (y ∷ xs) x z zero e = inl (omega arith, e)
push_got (y ∷ xs) x z (suc k) e = elim (push_got xs x z k e) [ inl old ↦ inl (let lt = old.0 in omega arith, old.1) | inr new ↦ inr (let at = new.0 in omega arith, new.1) ]

filter_push : (p : Seen → Bool) (xs : List Seen) (x : Seen) → filter p (xs ++ x ∷ []) ≡ filter p xs ++ filter p (x ∷ [])
filter_push p [] x = refl
filter_push p (y ∷ xs) x = filter_push_by_cases (p y) (filter_push p xs x)
  where
    filter_push_by_cases : (b : Bool) → filter p (xs ++ x ∷ []) ≡ filter p xs ++ filter p (x ∷ []) → cond b (y ∷ filter p (xs ++ x ∷ [])) (filter p (xs ++ x ∷ [])) ≡ cond b (y ∷ filter p xs) (filter p xs) ++ filter p (x ∷ [])
    filter_push_by_cases true rest = ap (λ zs. y ∷ zs) rest
    filter_push_by_cases false rest = rest

filter_none : (p : Seen → Bool) (xs : List Seen) → ((i : ℕ) (v : Seen) → slice_get xs i ≡ Some v → p v ≡ false) → filter p xs ≡ []
filter_none p [] none = refl
filter_none p (y ∷ xs) none = ap (λ b. cond b (y ∷ filter p xs) (filter p xs)) (none 0 y refl) ∙ filter_none p xs (λ i v e. none (suc i) v e)

-- THE FIRST THAT RACES

no_clash : (us : List Seen) (x : Seen) → first_clash us x ≡ None → (u : Seen) → In us u → clashes u x ≡ false
no_clash [] x h u i = absurd i
no_clash (y ∷ us) x h u i = no_clash_by_cases (λ h' i'. no_clash us x h' u i') (clashes y x) refl h i
  where
    no_clash_by_cases : (first_clash us x ≡ None → In us u → clashes u x ≡ false) → (b : Bool) → clashes y x ≡ b → cond b (Some y) (first_clash us x) ≡ None → In (y ∷ us) u → clashes u x ≡ false
    no_clash_by_cases rest true e h i = absurd cc
    no_clash_by_cases rest false e h (inl same) = ap (λ (z : Seen). clashes z x) (sym same) ∙ e
    no_clash_by_cases rest false e h (inr i) = rest h i

-- the first of the chosen accesses that races with x
pub record IsFirst (chosen : Seen → Bool) (xs : List Seen) (x u : Seen) : Type 0 where
  pub i : ℕ
  pub is : slice_get xs i ≡ Some u
  pub has : chosen u ≡ true
  pub clash : clashes u x ≡ true
  pub first : (k : ℕ) (w : Seen) → slice_get xs k ≡ Some w → chosen w ≡ true → clashes w x ≡ true → i ≤ k

first_later : (chosen : Seen → Bool) (y : Seen) (xs : List Seen) (x u : Seen) → ((chosen y ≡ true) → (clashes y x ≡ true) → ⊥) → IsFirst chosen xs x u → IsFirst chosen (y ∷ xs) x u
first_later chosen y xs x u free F = record { i = suc F.i; is = F.is; has = F.has; clash = F.clash; first = first }
  where
    first : (k : ℕ) (w : Seen) → slice_get (y ∷ xs) k ≡ Some w → chosen w ≡ true → clashes w x ≡ true → suc F.i ≤ k
    first zero w e c h =
        let same : y ≡ w = same_Some y w e in
        absurd (free (ap chosen same ∙ c) (ap (λ (z : Seen). clashes z x) same ∙ h))
    first (suc k) w e c h = let le : F.i ≤ k = F.first k w e c h in omega arith

first_at : (chosen : Seen → Bool) (xs : List Seen) (x u : Seen) → first_clash (filter chosen xs) x ≡ Some u → IsFirst chosen xs x u
first_at chosen [] x u h = absurd cc
first_at chosen (y ∷ xs) x u h = first_at_by_cases (λ h'. first_at chosen xs x u h') (chosen y) refl h
  where
    clash_by : (first_clash (filter chosen xs) x ≡ Some u → IsFirst chosen xs x u) → (b : Bool) → chosen y ≡ true → clashes y x ≡ b → cond b (Some y) (first_clash (filter chosen xs) x) ≡ Some u → IsFirst chosen (y ∷ xs) x u
    clash_by rest true c e h =
        let same : y ≡ u = same_Some y u h in
        record { i = 0; is = h; has = ap chosen (sym same) ∙ c; clash = ap (λ (z : Seen). clashes z x) (sym same) ∙ e; first = λ k w ew cw hw. omega arith }
    clash_by rest false c e h = first_later chosen y xs x u (λ c' e'. both_ways (clashes y x) e e') (rest h)

    first_at_by_cases : (first_clash (filter chosen xs) x ≡ Some u → IsFirst chosen xs x u) → (b : Bool) → chosen y ≡ b → first_clash (cond b (y ∷ filter chosen xs) (filter chosen xs)) x ≡ Some u → IsFirst chosen (y ∷ xs) x u
    first_at_by_cases rest true e h = clash_by rest (clashes y x) e refl h
    first_at_by_cases rest false e h = first_later chosen y xs x u (λ c' e'. both_ways (chosen y) e c') (rest h)

-- RACES OF ONE FIELD, BY LABELS

module _ (q : Key) where
  pub record Clash (ss : List Seen) (i j : ℕ) (u v : Seen) : Type 0 where
    pub order : i < j
    pub first : slice_get ss i ≡ Some u
    pub second : slice_get ss j ≡ Some v
    pub key_u : key u ≡ q
    pub key_v : key v ≡ q
    pub clash : clashes u v ≡ true

  pub record Pair (ss : List Seen) (u v : Seen) : Type 0 where
    pub i : ℕ
    pub j : ℕ
    pub clash : Clash ss i j u v
    pub earliest_second : (k l : ℕ) (w z : Seen) → Clash ss k l w z → j ≤ l
    pub earliest_first : (k : ℕ) (w : Seen) → Clash ss k j w v → i ≤ k

  abbrev pub chosen : Seen → Bool
  chosen v = same_key (key v) q

  pub record Waiting (ss : List Seen) (o : Open) : Type 0 where
    pub none : (i j : ℕ) (u v : Seen) → Clash ss i j u v → ⊥
    pub earlier : o.earlier ≡ firsts_from [] (filter chosen ss)
    pub bounds : Bounds o

  abbrev pub GoodWatch : List Seen → Watch → Type 0
  GoodWatch ss (Waits o) = Waiting ss o
  GoodWatch ss (Found r) = (u : Seen) × (v : Seen) × Pair ss u v × (r ≡ race_between u.access v.access)

  abbrev pub Good : List Seen → Option Watch → Type 0
  Good ss None = (i : ℕ) (v : Seen) → slice_get ss i ≡ Some v → key v ≡ q → ⊥
  Good ss (Some w) = GoodWatch ss w

  choose : (v : Seen) → key v ≡ q → chosen v ≡ true
  choose v e = ap (λ k. same_key k q) e ∙ same_key_itself q

  -- a race of the longer list is an old one, or its later access is the new one
  clash_cases : (ss : List Seen) (x : Seen) (i j : ℕ) (u v : Seen) → Clash (ss ++ x ∷ []) i j u v → Clash ss i j u v ⊎ ((j ≡ length ss) × (v ≡ x) × (slice_get ss i ≡ Some u))
  clash_cases ss x i j u v C =
      elim (push_got ss x v j C.second) [
        | inl old ↦
            let lt : j < length ss = old.0 in
            let o : i < j = C.order in
            elim (push_got ss x u i C.first) [
              | inl before ↦ inl (record { order = C.order; first = before.1; second = old.1; key_u = C.key_u; key_v = C.key_v; clash = C.clash })
              | inr new ↦ let at : i ≡ length ss = new.0 in absurd (omega arith)
            ]
        | inr new ↦
            let at : j ≡ length ss = new.0 in
            let o : i < j = C.order in
            elim (push_got ss x u i C.first) [
              | inl before ↦ inr (new.0, new.1, before.1)
              | inr also ↦ let at' : i ≡ length ss = also.0 in absurd (omega arith)
            ]
      ]

  clash_longer : (ss : List Seen) (x : Seen) (i j : ℕ) (u v : Seen) → Clash ss i j u v → Clash (ss ++ x ∷ []) i j u v
  clash_longer ss x i j u v C = record {
    order = C.order;
    first = got_front ss (x ∷ []) i (got_within ss i u C.first) ∙ C.first;
    second = got_front ss (x ∷ []) j (got_within ss j v C.second) ∙ C.second;
    key_u = C.key_u;
    key_v = C.key_v;
    clash = C.clash;
  }

  pair_longer : (ss : List Seen) (x u v : Seen) → Pair ss u v → Pair (ss ++ x ∷ []) u v
  pair_longer ss x u v P =
      let lt : P.j < length ss = got_within ss P.j v P.clash.second in
      record {
        i = P.i;
        j = P.j;
        clash = clash_longer ss x P.i P.j u v P.clash;
        earliest_second = λ k l w z C. elim (clash_cases ss x k l w z C) [ inl old ↦ P.earliest_second k l w z old | inr new ↦ let at : l ≡ length ss = new.0 in omega arith ];
        earliest_first = λ k w C. elim (clash_cases ss x k P.j w v C) [ inl old ↦ P.earliest_first k w old | inr new ↦ let at : P.j ≡ length ss = new.0 in absurd (omega arith) ];
      }

  -- AN ACCESS OF ANOTHER FIELD

  other_none : (ss : List Seen) (x : Seen) → (key x ≡ q → ⊥) → Good ss None → Good (ss ++ x ∷ []) None
  other_none ss x ne G i v e k = elim (push_got ss x v i e) [ inl old ↦ G i v old.1 k | inr new ↦ ne (ap key (sym new.1) ∙ k) ]

  other_waits : (ss : List Seen) (x : Seen) (o : Open) → (key x ≡ q → ⊥) → chosen x ≡ false → Waiting ss o → Waiting (ss ++ x ∷ []) o
  other_waits ss x o ne un W = record {
    none = λ i j u v C. elim (clash_cases ss x i j u v C) [ inl old ↦ W.none i j u v old | inr new ↦ ne (ap key (sym new.1) ∙ C.key_v) ];
    earlier = W.earlier ∙ sym (ap (firsts_from []) (filter_push chosen ss x ∙ (ap (λ b. filter chosen ss ++ cond b (x ∷ []) []) un ∙ append-nil (filter chosen ss))));
    bounds = W.bounds;
  }

  other : (ss : List Seen) (x : Seen) → (key x ≡ q → ⊥) → chosen x ≡ false → (w : Option Watch) → Good ss w → Good (ss ++ x ∷ []) w
  other ss x ne un None G = other_none ss x ne G
  other ss x ne un (Some (Waits o)) W = other_waits ss x o ne un W
  other ss x ne un (Some (Found r)) G = (G.0, G.1, pair_longer ss x G.0 G.1 G.2, G.3)

  -- AN ACCESS OF THE FIELD

  module _ (ss : List Seen) (x : Seen) (kx : key x ≡ q) (same : SameFor x (filter chosen ss)) where
    -- the first that races with it is among those kept
    first_is : (o : Open) → Waiting ss o → first_clash o.earlier x ≡ first_clash (filter chosen ss) x
    first_is o W = ap (λ us. first_clash us x) W.earlier ∙ first_same x [] (filter chosen ss) same

    -- it races with none of the earlier ones
    goes_on : (o : Open) → Waiting ss o → first_clash (filter chosen ss) x ≡ None → Waiting (ss ++ x ∷ []) (with_access o x)
    goes_on o W free = record {
      none = λ i j u v C. elim (clash_cases ss x i j u v C) [
        | inl old ↦ W.none i j u v old
        | inr new ↦ both_ways (clashes u x) (no_clash (filter chosen ss) x free u (in_kept chosen ss u (got_in ss i u new.2) (choose u C.key_u))) (ap (clashes u) (sym new.1) ∙ C.clash)
      ];
      earlier =
          access_earlier o x ∙ ap (λ us. with_new us x) W.earlier ∙ sym (firsts_push [] (filter chosen ss) x)
          ∙ sym (ap (firsts_from []) (filter_push chosen ss x ∙ ap (λ b. filter chosen ss ++ cond b (x ∷ []) []) (choose x kx)));
      bounds = bounds_more o x W.bounds;
    }

    found : (o : Open) → Waiting ss o → (u : Seen) → first_clash (filter chosen ss) x ≡ Some u → GoodWatch (ss ++ x ∷ []) (Found (race_between u.access x.access))
    found o W u h =
        let F = first_at chosen ss x u h in
        let lt : F.i < length ss = got_within ss F.i u F.is in (
          u,
          x,
          record {
            i = F.i;
            j = length ss;
            clash = record {
              order = lt;
              first = got_front ss (x ∷ []) F.i lt ∙ F.is;
              second = got_last ss x;
              key_u = same_key_is (key u) q F.has;
              key_v = kx;
              clash = F.clash;
            };
            earliest_second = λ k l w z C. elim (clash_cases ss x k l w z C) [ inl old ↦ absurd (W.none k l w z old) | inr new ↦ let at : l ≡ length ss = new.0 in omega arith ];
            earliest_first = λ k w C. elim (clash_cases ss x k (length ss) w x C) [
              | inl old ↦ absurd (W.none k (length ss) w x old)
              | inr new ↦ F.first k w new.2 (choose w C.key_u) C.clash
            ];
          },
          refl,
        )

    by_first : (o : Open) → Waiting ss o → (a : Option Seen) → first_clash o.earlier x ≡ a → GoodWatch (ss ++ x ∷ []) (found_by a o x)
    by_first o W None h = goes_on o W (sym (first_is o W) ∙ h)
    by_first o W (Some u) h = found o W u (sym (first_is o W) ∙ h)

    by_bound : (o : Open) → Waiting ss o → (b : Bool) → allows (bound_for o x.access) x.label ≡ b → GoodWatch (ss ++ x ∷ []) (cond b (Waits (with_access o x)) (found_by (first_clash o.earlier x) o x))
    by_bound o W true h = goes_on o W (sym (first_is o W) ∙ all_free x o.earlier (none_clashes o.earlier x (sym (bound_tells o W.bounds x.access x.label) ∙ h)))
    by_bound o W false h = by_first o W (first_clash o.earlier x) refl

    with_watch : (w : Watch) → GoodWatch ss w → GoodWatch (ss ++ x ∷ []) (watch_with w x)
    with_watch (Waits o) W = by_bound o W (allows (bound_for o x.access) x.label) refl
    with_watch (Found r) G = (G.0, G.1, pair_longer ss x G.0 G.1 G.2, G.3)

    nothing_good : Good ss None → GoodWatch ss nothing_yet
    nothing_good G = record {
      none = λ i j u v C. G i u C.first C.key_u;
      earlier = sym (ap (firsts_from []) (filter_none chosen ss unchosen));
      bounds = record { all = λ label. refl; writes = λ label. refl; plain = λ label. refl; plain_writes = λ label. refl };
    }
      where
        unchosen : (i : ℕ) (v : Seen) → slice_get ss i ≡ Some v → chosen v ≡ false
        unchosen i v e = unchosen_by_cases (chosen v) refl
          where
            unchosen_by_cases : (b : Bool) → chosen v ≡ b → b ≡ false
            unchosen_by_cases true c = absurd (G i v e (same_key_is (key v) q c))
            unchosen_by_cases false c = refl

    or_good : (w : Option Watch) → Good ss w → GoodWatch ss (watch_or_none w)
    or_good None G = nothing_good G
    or_good (Some w) G = G

  good_step : (ss : List Seen) (x : Seen) (w : Option Watch) → SameFor x (filter chosen ss) → Good ss w → Good (ss ++ x ∷ []) (watched_with q w x)
  good_step ss x w same G = good_step_by_cases (chosen x) refl
    where
      good_step_by_cases : (b : Bool) → chosen x ≡ b → Good (ss ++ x ∷ []) (cond b (Some (watch_with (watch_or_none w) x)) w)
      good_step_by_cases true e = let kx = same_key_is (key x) q e in with_watch ss x kx same (watch_or_none w) (or_good ss x kx same w G)
      good_step_by_cases false e = other ss x (λ k. both_ways (chosen x) e (choose x k)) e w G

  good_from : (ss xs : List Seen) (w : Option Watch) → StrandsTell (ss ++ xs) → Good ss w → Good (ss ++ xs) (watched_from q w xs)
  good_from ss [] w T G = subst (λ zs. Good zs w) (sym (append-nil ss)) G
  good_from ss (x ∷ xs) w T G =
      subst (λ zs. Good zs (watched_from q (watched_with q w x) xs)) (append_assoc ss (x ∷ []) xs) (good_from (ss ++ x ∷ []) xs (watched_with q w x) (subst StrandsTell (sym (append_assoc ss (x ∷ []) xs)) T) (good_step ss x w (same_for chosen ss x xs T) G))

  pub kept_good : (xs : List Seen) → StrandsTell xs → Good xs (watched_from q None xs)
  kept_good xs T = good_from [] xs None T (λ i v e k. absurd (empty i v e))
    where
      empty : (i : ℕ) (v : Seen) → slice_get [] i ≡ Some v → ⊥
      empty i v e = absurd cc
