-- The layout of a heap with one more, empty chunk, and what is known of it.
use Rattle.leaf_collections.proofs.Common.{◌≡◌, ◌⊎◌, ℕ, ◌*◌, ◌/◌, ◌<◌, ◌≤◌, ◌==◌, ◌&&◌, ◌++◌, not, arith, Bool, true, false, cond, Option, Some, None, List, [], ◌∷◌, length, length-append, inl, inr, refl, ap, sym, subst, ◌∙◌, ne_eqb, AllByRecursion, cases_lt, cond-true, cond-false, eqb-true, is_empty, map_in, chunk_at, ChunkValue, words_in, AreTidy, CellsFitInChunks, LeafHeapValue, IsFresh, IsTidy, added, with_places, at_push, at_last, AreLaidOut, reserved_chunks, reserved_units, Chunk, In, numbers, units_of, IsLastLarge, IsLastSmall, HeapIsShaped, OffsetsAreSmall, chunk_of, chunks_of, HeapForm, fresh_off}
use Rattle.std.specs.List.{IsDistinct}
use Rattle.leaf_collections.proofs.MoreChunksRead.{all_more, chunk_with, in_more, none_in, objects_more}

distinct_more : (ns : List ℕ) (n : ℕ) → IsDistinct (λ a b. a == b) ns → ((x : ℕ) → In ns x → x ≡ n → ⊥) → IsDistinct (λ a b. a == b) (ns ++ n ∷ [])
unfolding IsDistinct
distinct_more [] n d off = (tt, tt)
distinct_more (x ∷ xs) n d off = (all xs d.0 (ne_eqb x n (λ e. off x (inl refl) e)), distinct_more xs n d.1 (λ y i e. off y (inr i) e))
  where
    all : (xs : List ℕ) → AllByRecursion (λ y. (x == y) ≡ false) xs → (x == n) ≡ false → AllByRecursion (λ y. (x == y) ≡ false) (xs ++ n ∷ [])
    all [] a b = (b, tt)
    all (y ∷ ys) a b = (a.0, all ys a.1 b)

numbers_more : (ks : List ChunkValue) (k : ChunkValue) → numbers (chunks_of (ks ++ k ∷ [])) ≡ numbers (chunks_of ks) ++ k.number ∷ []
numbers_more [] k = refl
numbers_more (x ∷ xs) k = ap (λ ns. x.number ∷ ns) (numbers_more xs k)

reserved_more : (ks : List ChunkValue) (k : ChunkValue) → units_of (reserved_chunks (chunks_of (ks ++ k ∷ []))) ≡ units_of (reserved_chunks (chunks_of ks)) ++ units_of (reserved_chunks (chunk_of k ∷ []))
reserved_more [] k = refl
reserved_more (x ∷ xs) k = reserved_more_by_cases ((chunk_of x).large && is_empty (chunk_of x).objects) (reserved_more xs k)
  where
    reserved_more_by_cases : (b : Bool) → units_of (reserved_chunks (chunks_of (xs ++ k ∷ []))) ≡ units_of (reserved_chunks (chunks_of xs)) ++ units_of (reserved_chunks (chunk_of k ∷ []))
        → units_of (cond b (chunk_of x ∷ reserved_chunks (chunks_of (xs ++ k ∷ []))) (reserved_chunks (chunks_of (xs ++ k ∷ [])))) ≡ units_of (cond b (chunk_of x ∷ reserved_chunks (chunks_of xs)) (reserved_chunks (chunks_of xs))) ++ units_of (reserved_chunks (chunk_of k ∷ []))
    reserved_more_by_cases true e = ap (λ ns. (chunk_of x).units ∷ ns) e
    reserved_more_by_cases false e = e

pub small_units : (k : ChunkValue) → (chunk_of k).large ≡ false → (chunk_of k).units ≡ 1
small_units k e = small_units_by_cases (k.size == 1024) refl e
  where
    small_units_by_cases : (b : Bool) → (k.size == 1024) ≡ b → not b ≡ false → k.size / 1024 ≡ 1
    small_units_by_cases true q h = ap (λ n. n / 1024) (eqb-true k.size 1024 q)
    small_units_by_cases false q h = absurd cc

module _ (k : ChunkValue) (empty : k.cells ≡ []) (ks : List ChunkValue) (fresh : IsFresh ks k.number) where
  off : (x : ℕ) → In (numbers (chunks_of ks)) x → x ≡ k.number → ⊥
  off x i e =
      let c = map_in (λ (c : Chunk). c.number) (chunks_of ks) x i in
      let j = map_in chunk_of ks c.0 c.1 in
      fresh_off ks j.0 k.number fresh j.1 (ap (λ (c : Chunk). c.number) j.2 ∙ (c.2 ∙ e))

  pub laid_more : (spare spare' : ℕ) → AreLaidOut (chunks_of ks) spare → reserved_units spare ++ units_of (reserved_chunks (chunk_of k ∷ [])) ≡ reserved_units spare' → AreLaidOut (chunks_of (ks ++ k ∷ [])) spare'
  laid_more spare spare' L e = record {
    numbers = subst (IsDistinct (λ a b. a == b)) (sym (numbers_more ks k)) (distinct_more (numbers (chunks_of ks)) k.number L.numbers off);
    within = λ c o i j. elim (in_more ks k c i) [
      | inl a ↦ L.within c o a j
      | inr a ↦ absurd (subst (λ os. In os o) (none_in k empty) (subst (λ (z : Chunk). In z.objects o) (sym a) j))
    ];
    apart = λ o q i j. L.apart o q (subst (λ os. In os o) (objects_more k empty ks) i) (subst (λ os. In os q) (objects_more k empty ks) j);
    small = λ c i h. elim (in_more ks k c i) [
      | inl a ↦ L.small c a h
      | inr a ↦ ap (λ (z : Chunk). z.units) (sym a) ∙ small_units k (ap (λ (z : Chunk). z.large) a ∙ h)
    ];
    large = λ c i h. elim (in_more ks k c i) [
      | inl a ↦ L.large c a h
      | inr a ↦ inl (ap (λ (z : Chunk). z.objects) (sym a) ∙ none_in k empty)
    ];
    reserved = reserved_more ks k ∙ (ap (λ ns. ns ++ units_of (reserved_chunks (chunk_of k ∷ []))) L.reserved ∙ e);
  }

-- ---- WHAT IS KNOWN OF THE HEAP

in_longer : (ks : List ChunkValue) (k j : ChunkValue) → In (ks ++ k ∷ []) j → In ks j ⊎ (k ≡ j)
in_longer [] k j (inl e) = inr e
in_longer [] k j (inr i) = absurd i
in_longer (x ∷ xs) k j (inl e) = inl (inl e)
in_longer (x ∷ xs) k j (inr i) = elim (in_longer xs k j i) [ inl a ↦ inl (inr a) | inr e ↦ inr e ]

units_back : (u : ℕ) → (1024 * u) / 1024 ≡ u
units_back u = omega arith

module _ (h : LeafHeapValue) (F : HeapForm h) (number u slots spare : ℕ) (some : 1 ≤ u) where
  abbrev K : ChunkValue
  K = chunk_with number u

  abbrev g : LeafHeapValue
  g = with_places (added h K) slots spare

  -- a large one comes if none was reserved
  module _ (none : 2 ≤ u → h.reserved ≡ None) (shaped : HeapIsShaped g) (chunks : g.chunks ≡ h.chunks ++ K ∷ []) (last : IsLastSmall g.chunks g.current) (last_large : IsLastLarge g.chunks g.reserved) where
    since_same : g.since ≡ h.since
    since_same = since_same_by_cases (K.size == 1024)
      where
        since_same_by_cases : (b : Bool) → (with_places (cond b (record h { chunks = h.chunks ++ K ∷ []; current = Some (length h.chunks) }) (record h { chunks = h.chunks ++ K ∷ []; reserved = Some (length h.chunks) })) slots spare).since ≡ h.since
        since_same_by_cases true = refl
        since_same_by_cases false = refl

    reserved_small : u ≡ 1 → g.reserved ≡ h.reserved
    reserved_small e =
        ap (λ (z : LeafHeapValue). z.reserved) (cond-true (K.size == 1024) (record h { chunks = h.chunks ++ K ∷ []; current = Some (length h.chunks) }) (record h { chunks = h.chunks ++ K ∷ []; reserved = Some (length h.chunks) }) (ap (λ n. 1024 * n == 1024) e))

    reserved_large : 2 ≤ u → g.reserved ≡ Some (length h.chunks)
    reserved_large le =
        ap (λ (z : LeafHeapValue). z.reserved) (cond-false (K.size == 1024) (record h { chunks = h.chunks ++ K ∷ []; current = Some (length h.chunks) }) (record h { chunks = h.chunks ++ K ∷ []; reserved = Some (length h.chunks) }) (ne_eqb K.size 1024 (λ e. omega (arith, e, le))))

    whole_then : (k : ChunkValue) → In (h.chunks ++ K ∷ []) k → k.size ≡ 1024 * (k.size / 1024)
    whole_then k i = elim (in_longer h.chunks K k i) [
      | inl a ↦ F.whole k a
      | inr e ↦ subst (λ (z : ChunkValue). z.size ≡ 1024 * (z.size / 1024)) e (ap (λ n. 1024 * n) (sym (units_back u)))
    ]

    spare_front : (i : ℕ) → i < length h.chunks → ((chunk_at h.chunks i).size ≡ 1024 → ⊥) → (chunk_of (chunk_at h.chunks i)).objects ≡ [] → g.reserved ≡ Some i
    spare_front i lt big empty =
        let was : h.reserved ≡ Some i = F.spare i lt big empty in
        elim (cases_lt u 2) [
          | inl one ↦ reserved_small (omega (arith, one, some)) ∙ was
          | inr two ↦ absurd (none_some (sym (none two) ∙ was))
        ]
      where
        none_some : ◌≡◌ {A = Option ℕ} None (Some i) → ⊥
        none_some q = absurd cc

    spare_last : (i : ℕ) → i ≡ length h.chunks → ((chunk_at (h.chunks ++ K ∷ []) i).size ≡ 1024 → ⊥) → g.reserved ≡ Some i
    spare_last i e big = elim (cases_lt u 2) [
      | inl one ↦ absurd (big (ap (λ n. (chunk_at (h.chunks ++ K ∷ []) n).size) e ∙ (ap (λ (z : ChunkValue). z.size) (at_last h.chunks K) ∙ omega (arith, one, some))))
      | inr two ↦ reserved_large two ∙ ap Some (sym e)
    ]

    spare_then : (i : ℕ) → i < length (h.chunks ++ K ∷ []) → ((chunk_at (h.chunks ++ K ∷ []) i).size ≡ 1024 → ⊥) → (chunk_of (chunk_at (h.chunks ++ K ∷ []) i)).objects ≡ [] → g.reserved ≡ Some i
    spare_then i lt big empty = elim (cases_lt i (length h.chunks)) [
      | inl before ↦
          spare_front i before (λ e. big (ap (λ (z : ChunkValue). z.size) (at_push h.chunks K i before) ∙ e)) (ap (λ (z : ChunkValue). (chunk_of z).objects) (sym (at_push h.chunks K i before)) ∙ empty)
      | inr after ↦ spare_last i (omega (arith, lt, after, length-append h.chunks (K ∷ []))) big
    ]

    near_then : OffsetsAreSmall (h.chunks ++ K ∷ [])
    near_then o i = F.near o (subst (λ os. In os o) (objects_more K refl h.chunks) i)

    tidy_then : AreTidy (h.chunks ++ K ∷ [])
    tidy_then = all_more IsTidy h.chunks K F.tidy (record {
      unmoved = λ i d lt. absurd (omega (arith, lt));
      alone = λ i d lt. absurd (omega (arith, lt));
      exact = λ i d lt. absurd (omega (arith, lt));
      few = λ lt. omega arith;
    })

    within_then : CellsFitInChunks (h.chunks ++ K ∷ [])
    within_then = all_more (λ k. words_in k.cells ≤ k.size) h.chunks K F.within (omega arith)

    pub form_more : HeapForm g
    form_more = record {
      shaped = shaped;
      near = subst OffsetsAreSmall (sym chunks) near_then;
      tidy = subst AreTidy (sym chunks) tidy_then;
      within = subst CellsFitInChunks (sym chunks) within_then;
      last = last;
      last_large = last_large;
      since = let a = F.since in let b = since_same in omega (arith, a, b);
      whole = subst (λ ks. (k : ChunkValue) → In ks k → k.size ≡ 1024 * (k.size / 1024)) (sym chunks) whole_then;
      spare = subst (λ ks. (i : ℕ) → i < length ks → ((chunk_at ks i).size ≡ 1024 → ⊥) → (chunk_of (chunk_at ks i)).objects ≡ [] → g.reserved ≡ Some i) (sym chunks) spare_then;
    }
