-- The names of a heap after its collection: as its account says.
use Rattle.copied_part_laws.proofs.Common.{◌≡◌, ◌⊎◌, ◌+◌, ◌*◌, ◌/◌, ◌<◌, ◌≤◌, ◌==◌, ◌&&◌, not, arith, Bool, true, false, cond, Option, None, List, [], ◌∷◌, ◌++◌, length, map, filter, nat_le, inl, inr, refl, ap, sym, subst, ◌∙◌, eq-eqb, reverse, flat_map, list_any, cases_Bool, cases_lt, cond-false, cond-true, eqb-true, false≢true, le-leb, leb-true, lt-leb, not-true, append-nil, in_append_cases, in_flat, in_from_kept, in_kept, in_map, map_in, read_in, Name, MachineState, Heap, laid_onto, large_survivors, room_behind, small_in, small_survivors, units, words_at, holds_name, holds_from_in, in_from_holds, Addr, Born, Cell, size_of, ChunkValue, cell_at, words_in, cell_of, Located, located, objects_from, Once, once_from, cell_in, LeafHeapValue, IsReserved, IsSettled, same_address, Survivor, olds, old_of, HaveRoom, Laying, nothing_laid, is_moved, laid_all, room_in, led_chunk, reserved_of, unreserved, AreSurvivors, keeps, large_of, laid_of, laying_of, CanTake, in_small, olds_small, small_ones, in_unreserved, new_reverse, any_here, any_none, first_of, Chunk, In, object_name, objects_of_chunks, words, ChunksHaveNames, chunk_names, small_chunks, from_flat, in_objects, large_names, names_in, small_lists, chunk_of, chunks_of, object_seen, seen_object, large_are, names_are, small_names, inside_from, NamedOnce}
use Rattle.leaf_collections.proofs.below.copying_gc.Moves as moves
use Rattle.collected_heap_laws.proofs.Reading as reading
use Rattle.copied_part_laws.proofs.SurvivorOrder.{single_names, small_survivors_are, sorted_names}
use Rattle.copied_part_laws.proofs.BeforeTheCopy.{Old, single_small}
use Rattle.copied_part_laws.proofs.LargeNames.{large_both, large_led, large_unreserved, none_large}
use Rattle.copied_part_laws.proofs.NamesLaid.{Told, birth_name, lay_all, lists_led, lists_of, none_small, room_told, small_both, told_large, told_led, told_small}
use Rattle.copied_part_laws.proofs.ObjectsApart.{held_by, once}
use Rattle.copied_part_laws.proofs.ObjectsMoved as moving

module _ (h : LeafHeapValue) (from : List (Option Addr)) (ss : List Survivor) (news : List ChunkValue) (S : AreSurvivors h.chunks from ss) (T : CanTake h.chunks news) (m : MachineState) (a : Heap) (O : Old h ss m a) where
  pub settled : IsSettled h.chunks
  settled = record { tidy = O.form.tidy; apart = O.form.shaped.apart }

  pub reserved : IsReserved h.chunks h.reserved
  reserved = O.form.shaped.reserved

  abbrev pub zs : List Survivor
  zs = small_ones h.chunks ss

  abbrev pub g : Option Addr → Option Addr
  g = moving.g h from ss news S T settled reserved

  abbrev y : Laying
  y = laying_of h.chunks ss (reverse news)

  abbrev L : List ChunkValue
  L = laid_of h ss (reverse news)

  abbrev K : List ChunkValue
  K = large_of h ss (reverse news)

  abbrev R : List ChunkValue
  R = reserved_of h.chunks h.reserved

  -- ---- THE OBJECT OF A SURVIVOR

  born : (s : Survivor) → In ss s → (cell_of h.chunks s.old).mark ≡ Born s.birth
  born s i = read_in (λ (x : Survivor). (cell_of h.chunks x.old).mark ≡ Born x.birth) ss s i S.names

  abbrev pub object_of : Survivor → Located
  object_of s = located s.old.chunk s.old.offset s.birth (cell_of h.chunks s.old)

  object_there : (s : Survivor) → In ss s → In (objects_of_chunks (chunks_of h.chunks)) (object_of s)
  object_there s i = object_seen h.chunks s.old s.birth (born s i)

  survivor_words : (s : Survivor) → In ss s → words_at m (birth_name s) ≡ size_of (cell_of h.chunks s.old)
  survivor_words s i = O.words (object_of s) (object_there s i) ∙ (let e : 2 + length (cell_of h.chunks s.old).refs + length (cell_of h.chunks s.old).ints ≡ size_of (cell_of h.chunks s.old) = omega arith in e)

  -- that is found by its address
  pub survivor_of : (o : Located) → In (objects_of_chunks (chunks_of h.chunks)) o → In (olds ss) o.at → (s : Survivor) × In ss s × (object_of s ≡ o)
  survivor_of o i j =
      let s = map_in old_of ss o.at j in
      (s.0, s.1, once h.chunks settled.apart (object_of s.0) o (object_there s.0 s.1) i s.2)

  pub cell_words : (o : Located) → In (objects_of_chunks (chunks_of h.chunks)) o → size_of (cell_of h.chunks o.at) ≡ words o
  cell_words o i =
      let y = seen_object h.chunks o settled.apart i in
      let r : length o.refs ≡ length (cell_of h.chunks o.at).refs = ap (λ (z : Located). length z.refs) y.is in
      let n : length o.ints ≡ length (cell_of h.chunks o.at).ints = ap (λ (z : Located). length z.ints) y.is in
      omega (arith, r, n)

  -- ---- SMALL OBJECTS ARE IN SMALL CHUNKS

  one_unit : (k : ChunkValue) → In h.chunks k → k.size / 1024 ≡ 1 → k.size ≡ 1024
  one_unit k i e = let w : k.size ≡ 1024 * (k.size / 1024) = O.form.whole k i in omega (arith, w, e)

  pub small_chunk : (o : Located) (k : ChunkValue) → In h.chunks k → In (objects_from k.number 0 k.cells) o → words o ≤ 1024 → (k.size == 1024) ≡ true
  small_chunk o k i j le = elim (cases_Bool (k.size == 1024)) [
    | inl e ↦ e
    | inr e ↦ elim (O.laid.large (chunk_of k) (in_map chunk_of h.chunks k i) (ap not e)) [
      | inl none ↦ absurd (subst (λ os. In os o) none j)
      | inr q ↦
          let same : q.0 ≡ o = elim (subst (λ os. In os o) q.1 j) [ inl d ↦ d | inr z ↦ absurd z ] in
          let w : words q.0 ≡ words o = ap words same in
          let u : k.size / 1024 ≡ units (words q.0) = q.3 in
          let two : 2 ≤ words o = omega arith in
          let one : k.size / 1024 ≡ 1 = omega (arith, u, w, le, two) in
          eq-eqb k.size 1024 (one_unit k i one)
    ]
  ]

  pub large_words : (o : Located) (k : ChunkValue) → In h.chunks k → In (objects_from k.number 0 k.cells) o → (k.size == 1024) ≡ false → 1024 < words o
  large_words o k i j e = elim (cases_lt 1024 (words o)) [ inl l ↦ l | inr le ↦ absurd (false≢true (sym e ∙ small_chunk o k i j le)) ]

  -- ---- SMALL NAMES

  small_is : (o : Located) → In (objects_of_chunks (chunks_of h.chunks)) o → is_moved h.chunks o.at ≡ true → In (small_in a) (object_name o)
  small_is o i e =
      let H = held_by h.chunks o i in
      let w = cell_words o i in
      let le : size_of (cell_of h.chunks o.at) ≤ 1024 = leb-true (size_of (cell_of h.chunks o.at)) 1024 e in
      let s : (H.chunk.size == 1024) ≡ true = small_chunk o H.chunk H.there H.object (omega (arith, w, le)) in
      let k : In (small_chunks (chunks_of h.chunks)) (chunk_of H.chunk) = in_kept (λ (c : Chunk). not c.large) (chunks_of h.chunks) (chunk_of H.chunk) (in_map chunk_of h.chunks H.chunk H.there) (ap (λ b. not (not b)) s) in
      let l : In a.chunks (chunk_names (chunk_of H.chunk)) = subst (λ ns. In ns (chunk_names (chunk_of H.chunk))) O.names.small (in_map chunk_names (small_chunks (chunks_of h.chunks)) (chunk_of H.chunk) k) in
      in_flat (λ ns. ns) a.chunks (chunk_names (chunk_of H.chunk)) (object_name o) l (in_map object_name (chunk_of H.chunk).objects o H.object)

  is_small_one : (n : Name) → In (small_in a) n → (o : Located) × In (objects_of_chunks (chunks_of h.chunks)) o × (object_name o ≡ n) × (is_moved h.chunks o.at ≡ true)
  is_small_one n i =
      let f = from_flat (λ ns. ns) a.chunks n i in
      let c = map_in chunk_names (small_chunks (chunks_of h.chunks)) f.0 (subst (λ ns. In ns f.0) (sym O.names.small) f.1) in
      let o = map_in object_name c.0.objects n (subst (λ ns. In ns n) (sym c.2) f.2) in
      let k = in_from_kept (λ (c : Chunk). not c.large) (chunks_of h.chunks) c.0 c.1 in
      let there : In (objects_of_chunks (chunks_of h.chunks)) o.0 = in_objects (chunks_of h.chunks) c.0 o.0 k.0 o.1 in
      let u : c.0.units ≡ 1 = O.laid.small c.0 k.0 (not-true c.0.large k.1) in
      let w : o.0.at.offset + words o.0 ≤ 1024 * c.0.units = O.laid.within c.0 o.0 k.0 o.1 in
      let s = cell_words o.0 there in
      (o.0, there, o.2, le-leb (size_of (cell_of h.chunks o.0.at)) 1024 (omega (arith, u, w, s)))

  single_here : NamedOnce (small_in a)
  single_here = subst (λ ls. NamedOnce (flat_map (λ ns. ns) ls)) (sym (small_names h.chunks) ∙ O.names.small) (single_small h.chunks settled.apart O.named)

  once_zs : Once (olds zs)
  once_zs = subst Once (sym (olds_small h.chunks ss)) (moves.once_smalls h.chunks (olds ss) (once_from (olds ss) S.once))

  -- the small survivors, in order of birth
  pub births : map birth_name zs ≡ small_survivors a
  births = small_survivors_are m a (map birth_name zs) (sorted_names (λ s. is_moved h.chunks s.old) ss S.order)
      (single_names zs once_zs (λ s t i j e. ap (λ (o : Located). o.at) (O.named (object_of s) (object_of t) (object_there s (in_small h.chunks ss s i)) (object_there t (in_small h.chunks ss t j)) e)))
      single_here
      (λ n i.
      let s = map_in birth_name zs n i in
      let k = in_from_kept (λ (s : Survivor). is_moved h.chunks s.old) ss s.0 s.1 in
      let there = object_there s.0 k.0 in (
        subst (In (small_in a)) s.2 (small_is (object_of s.0) there k.1),
        holds_from_in a.survivors n (subst (In a.survivors) s.2 (O.lives (object_of s.0) there (in_map old_of ss s.0 k.0))),
      ))
      (λ n i e.
      let o = is_small_one n i in
      let s = survivor_of o.0 o.1 (O.dies o.0 o.1 (subst (In a.survivors) (sym o.2) (in_from_holds a.survivors n e))) in
      let small : is_moved h.chunks s.0.old ≡ true = ap (λ (z : Located). is_moved h.chunks z.at) s.2 ∙ o.3 in
      let z : In zs s.0 = in_kept (λ (s : Survivor). is_moved h.chunks s.old) ss s.0 s.1 small in
      subst (In (map birth_name zs)) (ap object_name s.2 ∙ o.2) (in_map birth_name zs s.0 z))

  laid_all_lists : (lists_of y.laid ≡ laid_onto m [] (map birth_name zs)) × Told m y.laid
  laid_all_lists = subst (λ xs. (lists_of (laid_all (nothing_laid (reverse news)) h.chunks xs).laid ≡ laid_onto m [] (map birth_name zs)) × Told m (laid_all (nothing_laid (reverse news)) h.chunks xs).laid) (olds_small h.chunks ss)
      (lay_all m h.chunks zs (nothing_laid (reverse news)) tt (new_reverse news T.new)
      (subst (HaveRoom (nothing_laid (reverse news)) h.chunks) (sym (olds_small h.chunks ss)) (reading.room h from ss news S T))
      (λ s i. let j = in_small h.chunks ss s i in (born s j, survivor_words s j)))

  pub told : Told m L
  told = told_led g m y.laid laid_all_lists.1

  pub lists_now : lists_of L ≡ laid_onto m [] (small_survivors a)
  lists_now = lists_led g y.laid ∙ (laid_all_lists.0 ∙ ap (laid_onto m []) births)

  -- ---- CHUNKS THAT ARE NOT SMALL

  -- a chunk that is kept is large
  pub kept_big : (k : ChunkValue) → In (filter (keeps ss) (unreserved h.chunks h.reserved)) k → 1024 < k.size
  kept_big k i =
      let A = moving.alone h from ss news S T settled reserved k i in
      let w : words_in k.cells ≤ k.size = read_in (λ k. words_in k.cells ≤ k.size) h.chunks k A.there O.form.within in
      let e : words_in k.cells ≡ size_of (cell_at k.cells 0) + 0 = ap words_in A.one in
      let b : 1024 < size_of (cell_at k.cells 0) = A.big in
      omega (arith, w, e, b)

  pub big_behind : (k : ChunkValue) → In (K ++ R) k → 1024 < k.size
  big_behind k i = elim (in_append_cases K R k i) [
    | inl j ↦
        let x = map_in (led_chunk g) (filter (keeps ss) (unreserved h.chunks h.reserved)) k j in
        subst (λ (z : ChunkValue). 1024 < z.size) x.2 (kept_big x.0 x.1)
    | inr j ↦ (moving.of_reserved h.chunks h.reserved reserved k j).1
  ]

  pub small_now : small_lists (L ++ (K ++ R)) ≡ laid_onto m [] (small_survivors a)
  small_now =
      small_both L (K ++ R)
      ∙ (ap (λ zs. small_lists L ++ zs) (none_small (K ++ R) (λ k i e. let b = big_behind k i in omega (arith, b, e)))
      ∙ (append-nil (small_lists L) ∙ (told_small m L told ∙ lists_now)))

  -- ---- LARGE NAMES

  pub first_small : (k : ChunkValue) → In h.chunks k → (k.size == 1024) ≡ true → keeps ss k ≡ false
  first_small k i e =
      let w : words_in k.cells ≤ k.size = read_in (λ k. words_in k.cells ≤ k.size) h.chunks k i O.form.within in
      let s : k.size ≡ 1024 = eqb-true k.size 1024 e in
      ap (λ b. not b && list_any (λ (s : Survivor). same_address s.old (first_of k)) ss) (le-leb (size_of (cell_at k.cells 0)) 1024 (first_small_by_cases k.cells (omega (arith, w, s))))
    where
      first_small_by_cases : (cs : List Cell) → words_in cs ≤ 1024 → size_of (cell_at cs 0) ≤ 1024
      first_small_by_cases [] le = omega arith
      first_small_by_cases (c ∷ cs) le = omega (arith, le)

  module _ (k : ChunkValue) (i : In h.chunks k) (big : (k.size == 1024) ≡ false) (o : Located) (objects : objects_from k.number 0 k.cells ≡ o ∷ []) (zero' : o.at.offset ≡ 0) where
    in_k : In (objects_from k.number 0 k.cells) o
    in_k = subst (λ os. In os o) (sym objects) (inl refl)

    in_h : In (objects_of_chunks (chunks_of h.chunks)) o
    in_h = in_objects (chunks_of h.chunks) (chunk_of k) o (in_map chunk_of h.chunks k i) in_k

    o_first : o.at ≡ first_of k
    o_first = let c = inside_from h.chunks (chunk_of k) o (in_map chunk_of h.chunks k i) in_k in λ j. record { chunk = c j; offset = zero' j }

    first_big : nat_le (size_of (cell_at k.cells 0)) 1024 ≡ false
    first_big =
        let e : cell_of h.chunks o.at ≡ cell_at k.cells 0 = ap (cell_of h.chunks) o_first ∙ cell_in h.chunks k (first_of k) settled.apart i refl in
        let s : size_of (cell_at k.cells 0) ≡ words o = ap size_of (sym e) ∙ cell_words o in_h in
        let l = large_words o k i in_k big in
        lt-leb (size_of (cell_at k.cells 0)) 1024 (omega (arith, s, l))

    pub keeps_is : keeps ss k ≡ holds_name a.survivors (object_name o)
    keeps_is = ap (λ b. not b && list_any (λ (s : Survivor). same_address s.old (first_of k)) ss) first_big ∙ keeps_is_by_cases (holds_name a.survivors (object_name o)) refl
      where
        keeps_is_by_cases : (b : Bool) → holds_name a.survivors (object_name o) ≡ b → list_any (λ (s : Survivor). same_address s.old (first_of k)) ss ≡ b
        keeps_is_by_cases true e = any_here ss (first_of k) (subst (In (olds ss)) o_first (O.dies o in_h (in_from_holds a.survivors (object_name o) e)))
        keeps_is_by_cases false e = any_none ss (first_of k) (λ j. false≢true (sym e ∙ holds_from_in a.survivors (object_name o) (O.lives o in_h (subst (In (olds ss)) (sym o_first) j))))

  -- what a large chunk holds: nothing, or one object
  pub record One (k : ChunkValue) : Type 0 where
    pub object : Located
    pub objects : objects_from k.number 0 k.cells ≡ object ∷ []
    pub names : names_in k.cells ≡ object_name object ∷ []
    pub units : k.size / 1024 ≡ units (words object)
    pub kept : keeps ss k ≡ holds_name a.survivors (object_name object)

  pub one_of : (k : ChunkValue) → In h.chunks k → (k.size == 1024) ≡ false → (names_in k.cells ≡ []) ⊎ One k
  one_of k i big = elim (O.laid.large (chunk_of k) (in_map chunk_of h.chunks k i) (ap not big)) [
    | inl none ↦ inl (sym (names_are k.cells k.number 0) ∙ ap (map object_name) none)
    | inr q ↦ inr (record {
      object = q.0;
      objects = q.1;
      names = sym (names_are k.cells k.number 0) ∙ ap (map object_name) q.1;
      units = q.3;
      kept = keeps_is k i big q.0 q.1 q.2;
    })
  ]

  -- the large names of chunks that are kept are those of survivors
  pub large_kept : (us : List ChunkValue) → ((k : ChunkValue) → In us k → In h.chunks k) → large_names (filter (keeps ss) us) ≡ filter (holds_name a.survivors) (large_names us)
  large_kept [] f = refl
  large_kept (k ∷ us) f = large_kept_by_cases (k.size == 1024) refl (large_kept us (λ j i. f j (inr i)))
    where
      none : (b : Bool) → (k.size == 1024) ≡ false → names_in k.cells ≡ [] → large_names (filter (keeps ss) us) ≡ filter (holds_name a.survivors) (large_names us)
          → large_names (cond b (k ∷ filter (keeps ss) us) (filter (keeps ss) us)) ≡ filter (holds_name a.survivors) (names_in k.cells ++ large_names us)
      none true e z go =
          cond-false (k.size == 1024) (large_names (filter (keeps ss) us)) (names_in k.cells ++ large_names (filter (keeps ss) us)) e
          ∙ (ap (λ ns. ns ++ large_names (filter (keeps ss) us)) z ∙ (go ∙ ap (λ ns. filter (holds_name a.survivors) (ns ++ large_names us)) (sym z)))
      none false e z go = go ∙ ap (λ ns. filter (holds_name a.survivors) (ns ++ large_names us)) (sym z)

      some : (b : Bool) (n : Name) → (k.size == 1024) ≡ false → names_in k.cells ≡ n ∷ [] → holds_name a.survivors n ≡ b → large_names (filter (keeps ss) us) ≡ filter (holds_name a.survivors) (large_names us)
          → large_names (cond b (k ∷ filter (keeps ss) us) (filter (keeps ss) us)) ≡ filter (holds_name a.survivors) (names_in k.cells ++ large_names us)
      some true n e z h' go =
          cond-false (k.size == 1024) (large_names (filter (keeps ss) us)) (names_in k.cells ++ large_names (filter (keeps ss) us)) e
          ∙ (ap (λ ns. ns ++ large_names (filter (keeps ss) us)) z
          ∙ (ap (λ ns. n ∷ ns) go
          ∙ (sym (cond-true (holds_name a.survivors n) (n ∷ filter (holds_name a.survivors) (large_names us)) (filter (holds_name a.survivors) (large_names us)) h') ∙ ap (λ ns. filter (holds_name a.survivors) (ns ++ large_names us)) (sym z))))
      some false n e z h' go =
          go ∙ (sym (cond-false (holds_name a.survivors n) (n ∷ filter (holds_name a.survivors) (large_names us)) (filter (holds_name a.survivors) (large_names us)) h') ∙ ap (λ ns. filter (holds_name a.survivors) (ns ++ large_names us)) (sym z))

      large_kept_by_cases : (b : Bool) → (k.size == 1024) ≡ b → large_names (filter (keeps ss) us) ≡ filter (holds_name a.survivors) (large_names us)
          → large_names (filter (keeps ss) (k ∷ us)) ≡ filter (holds_name a.survivors) (cond b (large_names us) (names_in k.cells ++ large_names us))
      large_kept_by_cases true e go = ap (λ b. large_names (cond b (k ∷ filter (keeps ss) us) (filter (keeps ss) us))) (first_small k (f k (inl refl)) e) ∙ go
      large_kept_by_cases false e go = elim (one_of k (f k (inl refl)) e) [
        | inl z ↦ none (keeps ss k) e z go
        | inr o ↦
            ap (λ b. large_names (cond b (k ∷ filter (keeps ss) us) (filter (keeps ss) us))) o.kept
            ∙ some (holds_name a.survivors (object_name o.object)) (object_name o.object) e o.names refl go
      ]

  pub large_now : large_names (L ++ (K ++ R)) ≡ large_survivors a
  large_now =
      large_both L (K ++ R)
      ∙ (ap (λ zs. zs ++ large_names (K ++ R)) (told_large m L told)
      ∙ (large_both K R
      ∙ (ap (λ zs. large_names K ++ zs) (none_large R (λ k i. (moving.of_reserved h.chunks h.reserved reserved k i).2))
      ∙ (append-nil (large_names K)
      ∙ (large_led g (filter (keeps ss) (unreserved h.chunks h.reserved))
      ∙ (large_kept (unreserved h.chunks h.reserved) (λ k i. in_unreserved h.chunks h.reserved k i)
      ∙ (ap (filter (holds_name a.survivors)) (large_unreserved h.chunks h.reserved reserved)
      ∙ ap (filter (holds_name a.survivors)) (sym (large_are h.chunks) ∙ O.names.large))))))))

  -- ---- THE ACCOUNT

  abbrev Now : Heap
  Now = record a { chunks = laid_onto m [] (small_survivors a); large = large_survivors a; room = room_behind m (laid_onto m [] (small_survivors a)); since = 0; begun = None }

  pub names : ChunksHaveNames (chunks_of (L ++ (K ++ R))) Now
  names = record { small = small_names (L ++ (K ++ R)) ∙ small_now; large = large_are (L ++ (K ++ R)) ∙ large_now }

  -- the room of the last laid chunk
  pub room_now : room_in L ≡ room_behind m (laid_onto m [] (small_survivors a))
  room_now = sym (room_told m L told) ∙ ap (room_behind m) lists_now
