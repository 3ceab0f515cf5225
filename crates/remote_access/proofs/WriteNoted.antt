-- What the write of a reference notes, in the sets of the heaps.
use Rattle.std.proofs.Common.{ne_eqb}
use Rattle.remote_access.proofs.Common.{◌≡◌, ◌⊎◌, ℕ, ◌<◌, ◌==◌, ◌&&◌, ◌++◌, not, Bool, true, false, cond, Option, Some, None, List, [], ◌∷◌, length, slice_get, option_map, inl, inr, refl, ap, ap₂, sym, subst, ◌∙◌, eq-eqb, option_to_list, and_parts, cond-true, false≢true, both_ways, not-true, same_Some, append-nil, in_append_cases, in_append_left, in_append_right, got_none, Addr, PoolValue, owner_of, TaskNode, node_on_path, RefField, has_source, with_noted_source, source_in, SetOf, Content, content_after, content_at, content_of, is_down, with_source, option_is, held_is, In, Noted, noted_in, noted_is, noted_of}
use Rattle.step_commit.specs.below.write_barrier.{heap_of, noted_in as noted_heap}

-- ---- ONE SET

noted_there : (xs : List RefField) (s : RefField) → In (with_noted_source xs s) s
noted_there xs s = noted_there_by_cases (has_source xs s) refl
  where
    noted_there_by_cases : (b : Bool) → has_source xs s ≡ b → In (cond b xs (xs ++ s ∷ [])) s
    noted_there_by_cases true e = source_in xs s e
    noted_there_by_cases false e = in_append_right xs (s ∷ []) s (inl refl)

noted_grows : (xs : List RefField) (s y : RefField) → In xs y → In (with_noted_source xs s) y
noted_grows xs s y i = noted_grows_by_cases (has_source xs s)
  where
    noted_grows_by_cases : (b : Bool) → In (cond b xs (xs ++ s ∷ [])) y
    noted_grows_by_cases true = i
    noted_grows_by_cases false = in_append_left xs (s ∷ []) y i

noted_only : (xs : List RefField) (s y : RefField) → In (with_noted_source xs s) y → In xs y ⊎ (s ≡ y)
noted_only xs s y i = noted_only_by_cases (has_source xs s) i
  where
    noted_only_by_cases : (b : Bool) → In (cond b xs (xs ++ s ∷ [])) y → In xs y ⊎ (s ≡ y)
    noted_only_by_cases true j = inl j
    noted_only_by_cases false j = elim (in_append_cases xs (s ∷ []) y j) [ inl q ↦ inl q | inr q ↦ elim q [ inl e ↦ inr e | inr n ↦ absurd n ] ]

is_of_it : (t : ℕ) → option_is (Some t) t ≡ true
is_of_it t = eq-eqb t t refl

-- ---- THE WRITE
module _ (tree : List TaskNode) (pool : PoolValue) (sets sets' : List SetOf) (a : Addr) (i : ℕ) (overwritten value : Option Addr) (u : ℕ) (owner : owner_of pool a.chunk ≡ Some u)
    (C : (t : ℕ) → content_at sets' t ≡ option_map (content_after tree pool (record { object = a; field = i }) overwritten value t) (content_at sets t)) where
  abbrev source : RefField
  source = record { object = a; field = i }

  abbrev into : Option ℕ
  into = noted_heap tree pool a value

  abbrev after : ℕ → Content → Content
  after t c = content_after tree pool source overwritten value t c

  -- each part of it
  sources_by : (b d : Bool) (t : ℕ) (c : Content) → (cond d (record (cond b (record c { sources = with_noted_source c.sources source }) c) { kept = (cond b (record c { sources = with_noted_source c.sources source }) c).kept ++ option_to_list overwritten }) (cond b (record c { sources = with_noted_source c.sources source }) c)).sources
      ≡ cond b (with_noted_source c.sources source) c.sources
  sources_by true true t c = refl
  sources_by true false t c = refl
  sources_by false true t c = refl
  sources_by false false t c = refl

  sources_after : (t : ℕ) (c : Content) → (after t c).sources ≡ cond (option_is into t) (with_noted_source c.sources source) c.sources
  sources_after t c = sources_by (option_is into t) (option_is (heap_of pool overwritten) t && (with_source into source t c).keeps) t c

  kept_source : (t : ℕ) (c : Content) → (with_source into source t c).kept ≡ c.kept
  kept_source t c = kept_source_by_cases (option_is into t)
    where
      kept_source_by_cases : (b : Bool) → (cond b (record c { sources = with_noted_source c.sources source }) c).kept ≡ c.kept
      kept_source_by_cases true = refl
      kept_source_by_cases false = refl

  keeps_source : (t : ℕ) (c : Content) → (with_source into source t c).keeps ≡ c.keeps
  keeps_source t c = keeps_source_by_cases (option_is into t)
    where
      keeps_source_by_cases : (b : Bool) → (cond b (record c { sources = with_noted_source c.sources source }) c).keeps ≡ c.keeps
      keeps_source_by_cases true = refl
      keeps_source_by_cases false = refl

  keeps_after : (t : ℕ) (c : Content) → (after t c).keeps ≡ c.keeps
  keeps_after t c = keeps_after_by_cases (option_is (heap_of pool overwritten) t && (with_source into source t c).keeps) ∙ keeps_source t c
    where
      keeps_after_by_cases : (b : Bool) → (cond b (record (with_source into source t c) { kept = (with_source into source t c).kept ++ option_to_list overwritten }) (with_source into source t c)).keeps ≡ (with_source into source t c).keeps
      keeps_after_by_cases true = refl
      keeps_after_by_cases false = refl

  kept_after : (t : ℕ) (c : Content) → (after t c).kept ≡ cond (option_is (heap_of pool overwritten) t && c.keeps) (c.kept ++ option_to_list overwritten) c.kept
  kept_after t c =
      kept_after_by_cases (option_is (heap_of pool overwritten) t && (with_source into source t c).keeps)
      ∙ ap₂ (λ b ks. cond (option_is (heap_of pool overwritten) t && b) (ks ++ option_to_list overwritten) ks) (keeps_source t c) (kept_source t c)
    where
      kept_after_by_cases : (b : Bool) → (cond b (record (with_source into source t c) { kept = (with_source into source t c).kept ++ option_to_list overwritten }) (with_source into source t c)).kept
          ≡ cond b ((with_source into source t c).kept ++ option_to_list overwritten) (with_source into source t c).kept
      kept_after_by_cases true = refl
      kept_after_by_cases false = refl

  -- ---- WHAT IS NOTED OF THE HEAP OF t
  abbrev was : ℕ → Noted
  was t = noted_in (slice_get sets t)

  abbrev now : ℕ → Noted
  now t = noted_in (slice_get sets' t)

  now_is : (t : ℕ) → now t ≡ noted_of (option_map (after t) (content_at sets t))
  now_is t = noted_is (slice_get sets' t) ∙ ap noted_of (C t)

  was_is : (t : ℕ) → was t ≡ noted_of (content_at sets t)
  was_is t = noted_is (slice_get sets t)

  pub keeps_noted : (t : ℕ) → (now t).keeps ≡ (was t).keeps
  keeps_noted t = ap (λ (x : Noted). x.keeps) (now_is t) ∙ (keeps_noted_by_cases (content_at sets t) ∙ ap (λ (x : Noted). x.keeps) (sym (was_is t)))
    where
      keeps_noted_by_cases : (o : Option Content) → (noted_of (option_map (after t) o)).keeps ≡ (noted_of o).keeps
      keeps_noted_by_cases None = refl
      keeps_noted_by_cases (Some c) = keeps_after t c

  -- SOURCES
  pub sources_grow : (t : ℕ) (s : RefField) → In (was t).sources s → In (now t).sources s
  sources_grow t s j = subst (λ (x : Noted). In x.sources s) (sym (now_is t)) (sources_grow_by_cases (content_at sets t) (subst (λ (x : Noted). In x.sources s) (was_is t) j))
    where
      one : (b : Bool) (c : Content) → In c.sources s → In (cond b (with_noted_source c.sources source) c.sources) s
      one true c i' = noted_grows c.sources source s i'
      one false c i' = i'

      sources_grow_by_cases : (o : Option Content) → In (noted_of o).sources s → In (noted_of (option_map (after t) o)).sources s
      sources_grow_by_cases None i' = i'
      sources_grow_by_cases (Some c) i' = subst (λ xs. In xs s) (sym (sources_after t c)) (one (option_is into t) c i')

  -- if it points down it is noted
  pub notes_down : (b : Addr) (t : ℕ) → value ≡ Some b → owner_of pool b.chunk ≡ Some t → node_on_path tree u t ≡ true → (u ≡ t → ⊥) → t < length sets → In (now t).sources source
  notes_down b t ev eb path ne lt = subst (λ (x : Noted). In x.sources source) (sym (now_is t)) (notes_down_by_cases (slice_get sets t) refl)
    where
      into_is : into ≡ Some t
      into_is =
          ap (noted_heap tree pool a) ev
          ∙ (ap₂ (λ x y. cond (is_down tree x y) y None) owner eb
          ∙ cond-true (node_on_path tree u t && not (u == t)) (Some t) None (ap₂ (λ x y. x && not y) path (ne_eqb u t ne)))

      one : (c : Content) → In (after t c).sources source
      one c =
          subst (λ xs. In xs source)
          (sym (sources_after t c ∙ cond-true (option_is into t) (with_noted_source c.sources source) c.sources (ap (λ o. option_is o t) into_is ∙ is_of_it t)))
          (noted_there c.sources source)

      notes_down_by_cases : (o : Option SetOf) → slice_get sets t ≡ o → In (noted_of (option_map (after t) (option_map content_of o))).sources source
      notes_down_by_cases (Some s) e = one (content_of s)
      notes_down_by_cases None e = absurd (got_none sets t lt e)

  -- and nothing else is
  abbrev pub IsNew : ℕ → RefField → Type 0
  IsNew t s = (b : Addr) × (value ≡ Some b) × (owner_of pool b.chunk ≡ Some t) × (node_on_path tree u t ≡ true) × (u ≡ t → ⊥) × (s ≡ source)

  new_test : (t : ℕ) (s : RefField) (b : Addr) (d : ℕ) → value ≡ Some b → s ≡ source → owner_of pool b.chunk ≡ Some d → (x : Bool) → (node_on_path tree u d && not (u == d)) ≡ x → cond x (Some d) None ≡ Some t → IsNew t s
  new_test t s b d ev es q false y z = absurd cc
  new_test t s b d ev es q true y z =
      let same : d ≡ t = same_Some d t z in
      let parts = and_parts (node_on_path tree u d) (not (u == d)) y in
      (b, ev, q ∙ z, ap (node_on_path tree u) (sym same) ∙ parts.0, (λ k. both_ways (u == d) (not-true (u == d) parts.1) (eq-eqb u d (k ∙ sym same))), es)

  new_at : (t : ℕ) (s : RefField) (b : Addr) → value ≡ Some b → s ≡ source → (o : Option ℕ) → owner_of pool b.chunk ≡ o → cond (is_down tree (Some u) o) o None ≡ Some t → IsNew t s
  new_at t s b ev es None q z = absurd cc
  new_at t s b ev es (Some d) q z = new_test t s b d ev es q (node_on_path tree u d && not (u == d)) refl z

  new_by : (t : ℕ) (s : RefField) (v : Option Addr) → value ≡ v → s ≡ source → noted_heap tree pool a v ≡ Some t → IsNew t s
  new_by t s None ev es e = none_down (owner_of pool a.chunk) e
    where
      none_down : {A : Type 0} (o : Option ℕ) → cond (is_down tree o None) None None ≡ Some t → A
      none_down None q = absurd cc
      none_down (Some x) q = absurd cc
  new_by t s (Some b) ev es e = new_at t s b ev es (owner_of pool b.chunk) refl (ap (λ x. cond (is_down tree x (owner_of pool b.chunk)) (owner_of pool b.chunk) None) (sym owner) ∙ e)

  new_one : (t : ℕ) (s : RefField) (x : Bool) → option_is into t ≡ x → (c : Content) → In (cond x (with_noted_source c.sources source) c.sources) s → In c.sources s ⊎ IsNew t s
  new_one t s false e c k = inl k
  new_one t s true e c k =
      elim (noted_only c.sources source s k) [
        | inl old ↦ inl old
        | inr same ↦ inr (new_by t s value refl (sym same) (held_is into t e))
      ]

  pub notes_only : (t : ℕ) (s : RefField) → In (now t).sources s → In (was t).sources s ⊎ IsNew t s
  notes_only t s j = notes_only_by_cases (content_at sets t) refl (subst (λ (x : Noted). In x.sources s) (now_is t) j)
    where
      notes_only_by_cases : (o : Option Content) → content_at sets t ≡ o → In (noted_of (option_map (after t) o)).sources s → In (was t).sources s ⊎ IsNew t s
      notes_only_by_cases None e k = absurd k
      notes_only_by_cases (Some c) e k = elim (new_one t s (option_is into t) refl c (subst (λ xs. In xs s) (sources_after t c) k)) [
        | inl old ↦ inl (subst (λ (x : Noted). In x.sources s) (sym (was_is t ∙ ap noted_of e)) old)
        | inr n ↦ inr n
      ]

  -- WHAT IS KEPT: what was there, and more after it
  pub kept_more : (t : ℕ) → (more : List Addr) × ((now t).kept ≡ (was t).kept ++ more)
  kept_more t = kept_more_by_cases (content_at sets t) refl
    where
      one : (x : Bool) (c : Content) → (more : List Addr) × (cond x (c.kept ++ option_to_list overwritten) c.kept ≡ c.kept ++ more)
      one true c = (option_to_list overwritten, refl)
      one false c = ([], sym (append-nil c.kept))

      kept_more_by_cases : (o : Option Content) → content_at sets t ≡ o → (more : List Addr) × ((now t).kept ≡ (was t).kept ++ more)
      kept_more_by_cases None e = ([], ap (λ (x : Noted). x.kept) (now_is t ∙ ap (λ z. noted_of (option_map (after t) z)) e) ∙ ap (λ (x : Noted). x.kept ++ []) (sym (was_is t ∙ ap noted_of e)))
      kept_more_by_cases (Some c) e =
          let m = one (option_is (heap_of pool overwritten) t && c.keeps) c in
          (m.0, ap (λ (x : Noted). x.kept) (now_is t ∙ ap (λ z. noted_of (option_map (after t) z)) e) ∙ (kept_after t c ∙ (m.1 ∙ ap (λ (x : Noted). x.kept ++ m.0) (sym (was_is t ∙ ap noted_of e)))))

  -- the overwritten reference, if it points into t's heap while that keeps references
  pub keeps_old : (t : ℕ) (b : Addr) → (was t).keeps ≡ true → overwritten ≡ Some b → owner_of pool b.chunk ≡ Some t → In (now t).kept b
  keeps_old t b keeps eo eb = subst (λ (x : Noted). In x.kept b) (sym (now_is t)) (keeps_old_by_cases (content_at sets t) (ap (λ (x : Noted). x.keeps) (sym (was_is t)) ∙ keeps))
    where
      heap_is : option_is (heap_of pool overwritten) t ≡ true
      heap_is = ap (λ o. option_is (heap_of pool o) t) eo ∙ (ap (λ o. option_is o t) eb ∙ is_of_it t)

      one : (c : Content) → c.keeps ≡ true → In (cond (option_is (heap_of pool overwritten) t && c.keeps) (c.kept ++ option_to_list overwritten) c.kept) b
      one c k =
          subst (λ xs. In xs b)
          (sym (cond-true (option_is (heap_of pool overwritten) t && c.keeps) (c.kept ++ option_to_list overwritten) c.kept (ap₂ (λ x y. x && y) heap_is k) ∙ ap (λ o. c.kept ++ option_to_list o) eo))
          (in_append_right c.kept (b ∷ []) b (inl refl))

      keeps_old_by_cases : (o : Option Content) → (noted_of o).keeps ≡ true → In (noted_of (option_map (after t) o)).kept b
      keeps_old_by_cases None k = absurd (false≢true k)
      keeps_old_by_cases (Some c) k = subst (λ xs. In xs b) (sym (kept_after t c)) (one c k)

  -- and nothing else is
  pub kept_only : (t : ℕ) (b : Addr) → In (now t).kept b → In (was t).kept b ⊎ ((overwritten ≡ Some b) × (owner_of pool b.chunk ≡ Some t))
  kept_only t b j = kept_only_by_cases (content_at sets t) refl (subst (λ (x : Noted). In x.kept b) (now_is t) j)
    where
      held : (o : Option Addr) → overwritten ≡ o → In (option_to_list o) b → option_is (heap_of pool overwritten) t ≡ true → (overwritten ≡ Some b) × (owner_of pool b.chunk ≡ Some t)
      held None eo k h = absurd k
      held (Some y) eo (inl e) h =
          let is : overwritten ≡ Some b = eo ∙ ap Some e in
          (is, held_is (owner_of pool b.chunk) t (sym (ap (λ o. option_is (heap_of pool o) t) is) ∙ h))
      held (Some y) eo (inr n) h = absurd n

      one : (c : Content) (x : Bool) → (option_is (heap_of pool overwritten) t && c.keeps) ≡ x → In (cond x (c.kept ++ option_to_list overwritten) c.kept) b → In c.kept b ⊎ ((overwritten ≡ Some b) × (owner_of pool b.chunk ≡ Some t))
      one c false e k = inl k
      one c true e k = elim (in_append_cases c.kept (option_to_list overwritten) b k) [
        | inl old ↦ inl old
        | inr new ↦ inr (held overwritten refl new (and_parts (option_is (heap_of pool overwritten) t) c.keeps e).0)
      ]

      kept_only_by_cases : (o : Option Content) → content_at sets t ≡ o → In (noted_of (option_map (after t) o)).kept b → In (was t).kept b ⊎ ((overwritten ≡ Some b) × (owner_of pool b.chunk ≡ Some t))
      kept_only_by_cases None e k = absurd k
      kept_only_by_cases (Some c) e k = elim (one c (option_is (heap_of pool overwritten) t && c.keeps) refl (subst (λ xs. In xs b) (kept_after t c) k)) [
        | inl old ↦ inl (subst (λ (x : Noted). In x.kept b) (sym (was_is t ∙ ap noted_of e)) old)
        | inr n ↦ inr n
      ]
