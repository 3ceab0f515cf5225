-- How a join changes the belongings of two children and of their parent, in the terms of the relation.
use Rattle.fork_join_commit.proofs.Common.{◌≡◌, ◌⊎◌, ℕ, ℤ, ◌+◌, ◌<◌, ◌^◌, ◌++◌, arith, true, false, Option, Some, None, List, [], inl, inr, refl, ap, ap₂, sym, subst, ◌∙◌, eqb, eq-eqb, append_assoc, Contains, cases_Bool, false≢true, map-append, same_Some, any_from_in, contains_from_in, in_append_cases, in_append_left, in_append_right, in_from_contains, in_map, map_in, Ledger, Addr, has_chunk, ChunkValue, found_any, PoolValue, owner_of, LeafHeapValue, saturating_words, merged, room_of, with_places, Level, FramesValue, RefField, lifted, lifted_are_there, Content, AreRelabelled, with_results as with_both, joined_are_owned, Rests, own, Chunk, Belongings, no_belongings, In, Memory, sources, IsLifted, JoinsBelongings, top_with_results, MemoryStands, in_chunk, Work, Calls, Result, chunk_of, chunks_of, belongings_by, by_chunks, noted_of, chunk_in, owner_held, sources_by}

-- ---- CHUNKS BY NUMBER

pub in_has : (ks : List ChunkValue) (k : ChunkValue) → In ks k → has_chunk ks k.number ≡ true
in_has ks k i = found_any ks k.number ∙ any_from_in (λ (c : ChunkValue). eqb c.number k.number) ks k i (eq-eqb k.number k.number refl)

-- ---- BELONGINGS

pub by_since : (h : LeafHeapValue) (view : List Level) (n : ℕ) (x : Work) → (belongings_by h view n x).since ≡ h.since
by_since h view n (Calls s) = refl
by_since h view n (Result k r) = refl

-- the sources that a set holds, as they are seen
pub by_content : (o : Option Content) → (noted_of o).sources ≡ sources_by o
by_content None = refl
by_content (Some c) = refl

-- how the code changes the belongings of the task q and its children c and d
pub record Merges (v v' : Memory) (pool pool' : PoolValue) (q c d : ℕ) (al ar : ℤ × Option Addr) : Type 0 where
  pub own_heap : LeafHeapValue
  pub left_heap : LeafHeapValue
  pub right_heap : LeafHeapValue
  pub heap_then : LeafHeapValue
  pub own_view : List Level
  pub left_view : List Level
  pub right_view : List Level
  pub own_count : ℕ
  pub left_count : ℕ
  pub right_count : ℕ
  pub frames : FramesValue
  pub left_work : Work
  pub right_work : Work
  pub own_belongings : v.belongings q ≡ belongings_by own_heap own_view own_count (Calls frames)
  pub left_belongings : v.belongings c ≡ belongings_by left_heap left_view left_count left_work
  pub right_belongings : v.belongings d ≡ belongings_by right_heap right_view right_count right_work
  pub own_then : v'.belongings q ≡ belongings_by heap_then own_view own_count (Calls (with_both frames al ar))
  pub left_then : v'.belongings c ≡ no_belongings
  pub right_then : v'.belongings d ≡ no_belongings
  pub heap_is : heap_then ≡ with_places (merged own_heap left_heap right_heap) heap_then.slots heap_then.spare
  pub room_is : room_of heap_then ≡ room_of own_heap
  pub small : own_heap.since + (left_heap.since + right_heap.since) < 2 ^ 64
  pub others : (u : ℕ) → (u ≡ q → ⊥) → (u ≡ c → ⊥) → (u ≡ d → ⊥) → v'.belongings u ≡ v.belongings u
  pub owner : (n : ℕ) → v.owner n ≡ owner_of pool n
  pub owner_then : (n : ℕ) → v'.owner n ≡ owner_of pool' n
  pub relabelled : AreRelabelled pool pool' (left_heap.chunks ++ right_heap.chunks) q
  pub own_sources : List RefField
  pub left_sources : List RefField
  pub right_sources : List RefField
  pub own_noted : sources v q ≡ own_sources
  pub left_noted : sources v c ≡ left_sources
  pub right_noted : sources v d ≡ right_sources
  pub own_noted_then : sources v' q ≡ lifted (lifted own_sources left_sources own_heap.chunks) right_sources own_heap.chunks
  pub left_noted_then : sources v' c ≡ []
  pub right_noted_then : sources v' d ≡ []
  pub others_noted : (u : ℕ) → (u ≡ q → ⊥) → (u ≡ c → ⊥) → (u ≡ d → ⊥) → sources v' u ≡ sources v u

module _ (v v' : Memory) (l : Ledger) (V : MemoryStands v l) (pool pool' : PoolValue) (q c d : ℕ) (al ar : ℤ × Option Addr) (rq : Rests l q) (rc : Rests l c) (rd : Rests l d) (J : Merges v v' pool pool' q c d al ar) where
  abbrev ks : List ChunkValue
  ks = J.own_heap.chunks

  abbrev both : List ChunkValue
  both = J.left_heap.chunks ++ J.right_heap.chunks

  -- the chunks among a task's belongings are its own
  owned_at : (u n : ℕ) (h : LeafHeapValue) (view : List Level) (x : Work) → v.belongings u ≡ belongings_by h view n x → Rests l u → (k : ChunkValue) → In h.chunks k → v.owner k.number ≡ Some u
  owned_at u n h view x e r k i =
      (V.belongings u r).owned (chunk_of k) (subst (λ (ks : List Chunk). In ks (chunk_of k)) (sym (ap (λ (z : Belongings). z.chunks) e ∙ by_chunks h view n x)) (in_map chunk_of h.chunks k i))

  own_owned : (k : ChunkValue) → In ks k → v.owner k.number ≡ Some q
  own_owned k i = owned_at q J.own_count J.own_heap J.own_view (Calls J.frames) J.own_belongings rq k i

  left_owned : (k : ChunkValue) → In J.left_heap.chunks k → v.owner k.number ≡ Some c
  left_owned k i = owned_at c J.left_count J.left_heap J.left_view J.left_work J.left_belongings rc k i

  right_owned : (k : ChunkValue) → In J.right_heap.chunks k → v.owner k.number ≡ Some d
  right_owned k i = owned_at d J.right_count J.right_heap J.right_view J.right_work J.right_belongings rd k i

  -- the content of a chunk among a task's belongings
  content_at : (u n : ℕ) (h : LeafHeapValue) (view : List Level) (x : Work) → v.belongings u ≡ belongings_by h view n x → (k : Chunk) → In (v.belongings u).chunks k → (z : ChunkValue) × In h.chunks z × (z.number ≡ k.number)
  content_at u n h view x e k i =
      let z = map_in chunk_of h.chunks k (subst (λ (ks : List Chunk). In ks k) (ap (λ (z : Belongings). z.chunks) e ∙ by_chunks h view n x) i) in
      (z.0, z.1, ap (λ (y : Chunk). y.number) z.2)

  given : (n u : ℕ) → has_chunk both n ≡ true → v.owner n ≡ Some u → v'.owner n ≡ Some q
  given n u has e = J.owner_then n ∙ (joined_are_owned pool pool' both q J.relabelled n).0 has (owner_held pool n u (sym (J.owner n) ∙ e))

  stays : (n : ℕ) → has_chunk both n ≡ false → v'.owner n ≡ v.owner n
  stays n off = J.owner_then n ∙ ((joined_are_owned pool pool' both q J.relabelled n).1 off ∙ sym (J.owner n))

  pub owner_left : (k : Chunk) → In (v.belongings c).chunks k → v'.owner k.number ≡ Some q
  owner_left k i =
      let z = content_at c J.left_count J.left_heap J.left_view J.left_work J.left_belongings k i in
      ap v'.owner (sym z.2) ∙ given z.0.number c (in_has both z.0 (in_append_left J.left_heap.chunks J.right_heap.chunks z.0 z.1)) (left_owned z.0 z.1)

  pub owner_right : (k : Chunk) → In (v.belongings d).chunks k → v'.owner k.number ≡ Some q
  owner_right k i =
      let z = content_at d J.right_count J.right_heap J.right_view J.right_work J.right_belongings k i in
      ap v'.owner (sym z.2) ∙ given z.0.number d (in_has both z.0 (in_append_right J.left_heap.chunks J.right_heap.chunks z.0 z.1)) (right_owned z.0 z.1)

  -- the owner of a number that is relabelled
  was : (n : ℕ) → has_chunk both n ≡ true → (v.owner n ≡ Some c) ⊎ (v.owner n ≡ Some d)
  was n has =
      let k = chunk_in both n has in
      elim (in_append_cases J.left_heap.chunks J.right_heap.chunks k.0 k.1) [
        | inl i ↦ inl (ap v.owner (sym k.2) ∙ left_owned k.0 i)
        | inr i ↦ inr (ap v.owner (sym k.2) ∙ right_owned k.0 i)
      ]

  owners : (n u : ℕ) → (u ≡ c → ⊥) → (u ≡ d → ⊥) → v.owner n ≡ Some u → v'.owner n ≡ Some u
  owners n u nc nd e = elim (cases_Bool (has_chunk both n)) [
    | inl has ↦ absurd (elim (was n has) [ inl f ↦ nc (same_Some u c (sym e ∙ f)) | inr f ↦ nd (same_Some u d (sym e ∙ f)) ])
    | inr off ↦ stays n off ∙ e
  ]

  owned : (n u : ℕ) → v'.owner n ≡ Some u → (v.owner n ≡ Some u) ⊎ ((u ≡ q) × ((v.owner n ≡ Some c) ⊎ (v.owner n ≡ Some d)))
  owned n u e = elim (cases_Bool (has_chunk both n)) [
    | inl has ↦ elim (was n has) [
      | inl f ↦ inr (same_Some u q (sym e ∙ given n c has f), inl f)
      | inr f ↦ inr (same_Some u q (sym e ∙ given n d has f), inr f)
    ]
    | inr off ↦ inl (sym (stays n off) ∙ e)
  ]

  -- ---- REMEMBERED FIELDS

  -- an object of a source is in the parent's chunks if and only if the parent owns its chunk
  in_own : (s : RefField) → has_chunk ks s.object.chunk ≡ true → v.owner s.object.chunk ≡ Some q
  in_own s has = let k = chunk_in ks s.object.chunk has in ap v.owner (sym k.2) ∙ own_owned k.0 k.1

  own_in : (u : ℕ) (s : RefField) → In (sources v u) s → v.owner s.object.chunk ≡ Some q → has_chunk ks s.object.chunk ≡ true
  own_in u s i e =
      let K = V.sources u s i in
      let mine : own l K.name ≡ q = same_Some (own l K.name) q (sym K.place.chunk ∙ e) in
      let y = K.place.here K.rests in
      let k = in_chunk (v.belongings (own l K.name)).chunks y.0 y.1 in
      let z = content_at q J.own_count J.own_heap J.own_view (Calls J.frames) J.own_belongings k.0 (subst (λ u. In (v.belongings u).chunks k.0) mine k.1) in
      let number : k.0.number ≡ s.object.chunk = sym ((V.belongings (own l K.name) K.rests).inside k.0 y.0 k.1 k.2) ∙ ap (λ (b : Addr). b.chunk) y.2.at in
      ap (has_chunk ks) (sym (z.2 ∙ number)) ∙ in_has ks z.0 z.1

  to_lifted : (u : ℕ) (xs : List RefField) (s : RefField) → sources v u ≡ xs → Contains xs s → has_chunk ks s.object.chunk ≡ false → IsLifted v q u s
  to_lifted u xs s e i off =
      let j : In (sources v u) s = subst (λ ss. In ss s) (sym e) (in_from_contains xs s i) in
      (j, λ g. false≢true (sym off ∙ own_in u s j g))

  from_lifted : (u : ℕ) (xs : List RefField) (s : RefField) → sources v u ≡ xs → IsLifted v q u s → Contains xs s × (has_chunk ks s.object.chunk ≡ false)
  from_lifted u xs s e L = (contains_from_in xs s (subst (λ ss. In ss s) e L.0), elim (cases_Bool (has_chunk ks s.object.chunk)) [ inl has ↦ absurd (L.1 (in_own s has)) | inr off ↦ off ])

  abbrev one : List RefField
  one = lifted J.own_sources J.left_sources ks

  lifts_to : (s : RefField) → In (sources v' q) s → In (sources v q) s ⊎ (IsLifted v q c s ⊎ IsLifted v q d s)
  lifts_to s i = elim ((lifted_are_there one J.right_sources ks s).0 (contains_from_in (lifted one J.right_sources ks) s (subst (λ ss. In ss s) J.own_noted_then i))) [
    | inl a ↦ elim ((lifted_are_there J.own_sources J.left_sources ks s).0 a) [
      | inl b ↦ inl (subst (λ ss. In ss s) (sym J.own_noted) (in_from_contains J.own_sources s b))
      | inr b ↦ inr (inl (to_lifted c J.left_sources s J.left_noted b.0 b.1))
    ]
    | inr a ↦ inr (inr (to_lifted d J.right_sources s J.right_noted a.0 a.1))
  ]

  lifts_from : (s : RefField) → In (sources v q) s ⊎ (IsLifted v q c s ⊎ IsLifted v q d s) → In (sources v' q) s
  lifts_from s h =
      let found : Contains (lifted one J.right_sources ks) s =
      (lifted_are_there one J.right_sources ks s).1 (elim h [
        | inl a ↦ inl ((lifted_are_there J.own_sources J.left_sources ks s).1 (inl (contains_from_in J.own_sources s (subst (λ ss. In ss s) J.own_noted a))))
        | inr a ↦ elim a [
          | inl b ↦ inl ((lifted_are_there J.own_sources J.left_sources ks s).1 (inr (from_lifted c J.left_sources s J.left_noted b)))
          | inr b ↦ inr (from_lifted d J.right_sources s J.right_noted b)
        ]
      ]) in
      subst (λ ss. In ss s) (sym J.own_noted_then) (in_from_contains (lifted one J.right_sources ks) s found)

  -- ---- THE BELONGINGS

  chunks_then : (v'.belongings q).chunks ≡ (v.belongings c).chunks ++ (v.belongings d).chunks ++ (v.belongings q).chunks
  chunks_then =
      ap (λ (z : Belongings). z.chunks) J.own_then
      ∙ (ap (λ (h : LeafHeapValue). chunks_of h.chunks) J.heap_is
      ∙ (map-append chunk_of J.left_heap.chunks (J.right_heap.chunks ++ ks)
      ∙ (ap (λ zs. chunks_of J.left_heap.chunks ++ zs) (map-append chunk_of J.right_heap.chunks ks)
      ∙ (sym (append_assoc (chunks_of J.left_heap.chunks) (chunks_of J.right_heap.chunks) (chunks_of ks))
      ∙ sym (ap₂ (λ x y. x ++ y) (ap₂ (λ x y. x ++ y) (ap (λ (z : Belongings). z.chunks) J.left_belongings ∙ by_chunks J.left_heap J.left_view J.left_count J.left_work) (ap (λ (z : Belongings). z.chunks) J.right_belongings ∙ by_chunks J.right_heap J.right_view J.right_count J.right_work)) (ap (λ (z : Belongings). z.chunks) J.own_belongings))))))

  since_then : (v'.belongings q).since ≡ (v.belongings q).since + (v.belongings c).since + (v.belongings d).since
  since_then =
      let a : (v.belongings q).since ≡ J.own_heap.since = ap (λ (z : Belongings). z.since) J.own_belongings in
      let b : (v.belongings c).since ≡ J.left_heap.since = ap (λ (z : Belongings). z.since) J.left_belongings ∙ by_since J.left_heap J.left_view J.left_count J.left_work in
      let e : (v.belongings d).since ≡ J.right_heap.since = ap (λ (z : Belongings). z.since) J.right_belongings ∙ by_since J.right_heap J.right_view J.right_count J.right_work in
      let f : (v'.belongings q).since ≡ saturating_words (J.own_heap.since + (J.left_heap.since + J.right_heap.since)) = ap (λ (z : Belongings). z.since) J.own_then ∙ ap (λ (h : LeafHeapValue). h.since) J.heap_is in
      let small = J.small in
      omega (arith, a, b, e, f, small)

  pub joins_belongings : JoinsBelongings v v' q c d al ar
  joins_belongings = record {
    chunks = chunks_then;
    room = ap (λ (z : Belongings). z.room) J.own_then ∙ (J.room_is ∙ sym (ap (λ (z : Belongings). z.room) J.own_belongings));
    since = since_then;
    count = ap (λ (z : Belongings). z.count) J.own_then ∙ sym (ap (λ (z : Belongings). z.count) J.own_belongings);
    frames = ap (λ (z : Belongings). z.frames) J.own_then ∙ ap (λ (z : Belongings). top_with_results al ar z.frames) (sym J.own_belongings);
    view = ap (λ (z : Belongings). z.view) J.own_then ∙ sym (ap (λ (z : Belongings). z.view) J.own_belongings);
    begun = ap (λ (z : Belongings). z.begun) J.own_then ∙ sym (ap (λ (z : Belongings). z.begun) J.own_belongings);
    left = J.left_then;
    right = J.right_then;
    others = J.others;
    owner_left = owner_left;
    owner_right = owner_right;
    owners = owners;
    owned = owned;
    lifted = λ s. (lifts_to s, lifts_from s);
    left_noted = J.left_noted_then;
    right_noted = J.right_noted_then;
    sources = J.others_noted;
  }
