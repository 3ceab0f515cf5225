-- The objects of a heap after its collection: each survivor is read at its new address, and nothing else is there.
use Rattle.copied_part_laws.proofs.Common.{◌≡◌, ℕ, ◌<◌, ◌≤◌, not, arith, true, Option, Some, None, List, [], ◌∷◌, ◌++◌, map, filter, inl, inr, refl, ap, sym, subst, ◌∙◌, option_map, nat_le, reverse, unwrap_or, list_any, and_parts, cases_Bool, cases_lt, false≢true, le-leb, leb-true, contains_from_in, in_append_cases, in_append_left, in_from_any, in_from_kept, in_map, map_in, read_in, Addr, Birth, Born, Cell, size_of, ChunkValue, cell_at, cell_of, Located, led_object, located, located_by, objects_from, once_from, same_is, led_are_read, chunk_there, HaveDistinctNumbers, LeafHeapValue, IsReserved, IsSettled, IsTidy, same_address, Survivor, olds, old_of, Laying, nothing_laid, is_moved, smalls, led_cell, led_chunk, new_address, reserved_of, unreserved, AreSurvivors, keeps, large_of, laid_of, laying_of, moves_of, redirection, CanTake, within_at, first_in, firsts, in_first, first_of, none_at, in_unreserved, numbers, once_moves, some_by, In, copied_object, objects_of_chunks, in_objects, chunk_of, chunks_of, object_seen, seen_object}
use Rattle.address_laws.proofs.Extent as extent
use Rattle.leaf_collections.proofs.below.copying_gc.Moves as moves
use Rattle.leaf_collections.proofs.below.copying_gc.Naming as naming
use Rattle.address_laws.proofs.Numbers as nums
use Rattle.leaf_collections.proofs.below.copying_gc.NewNumbers as new_numbers
use Rattle.collected_heap_laws.proofs.Reading as reading
use Rattle.leaf_collections.proofs.below.copying_gc.Rebuilt as rebuilt
use Rattle.copied_part_laws.proofs.ObjectsApart.{Holds, held_by}
use Rattle.copied_part_laws.proofs.ObjectsPlaced.{laid_objects, seen_only}

-- ---- WHERE ADDRESSES LEAD

-- the reserved chunk is in the heap, and empty
pub of_reserved : (ks : List ChunkValue) (r : Option ℕ) → IsReserved ks r → (k : ChunkValue) → In (reserved_of ks r) k → In ks k × (1024 < k.size) × (k.cells ≡ [])
of_reserved ks None w k i = absurd i
of_reserved ks (Some j) w k (inl e) = (subst (In ks) e (chunk_there ks j w.0), subst (λ (z : ChunkValue). 1024 < z.size) e w.1.0, subst (λ (z : ChunkValue). z.cells ≡ []) e w.1.1)
of_reserved ks (Some j) w k (inr i) = absurd i

module _ (h : LeafHeapValue) (from : List (Option Addr)) (ss : List Survivor) (news : List ChunkValue) (S : AreSurvivors h.chunks from ss) (T : CanTake h.chunks news)
    (settled : IsSettled h.chunks) (reserved : IsReserved h.chunks h.reserved) where
  abbrev pub xs : List Addr
  xs = smalls h.chunks (olds ss)

  abbrev pub ms : List (Addr × Addr)
  ms = moves_of h.chunks ss (reverse news)

  abbrev pub g : Option Addr → Option Addr
  g = redirection h.chunks ss (reverse news)

  abbrev pub y : Laying
  y = laying_of h.chunks ss (reverse news)

  -- the new address of an address
  abbrev pub to : Addr → Addr
  to a = new_address (moves_of h.chunks ss (reverse news)) a

  -- the heap afterwards
  abbrev pub ks' : List ChunkValue
  ks' = laid_of h ss (reverse news) ++ (large_of h ss (reverse news) ++ reserved_of h.chunks h.reserved)

  g_same : (r : Option Addr) → g r ≡ option_map to r
  g_same None = refl
  g_same (Some a) = refl

  pub g_is : g ≡ option_map to
  g_is = λ i r. g_same r i

  -- ---- numbers

  -- the numbers of laid chunks are new ones
  pub laid_new : (n : ℕ) → In (numbers (laid_of h ss (reverse news))) n → In (numbers news) n
  laid_new n i = nums.in_reverse news n (subst (λ ns. In ns n) (reading.laid_parts h from ss news S T settled reserved) (in_append_left (numbers y.laid) (numbers y.spare) n (subst (λ ns. In ns n) (reading.laid_numbers h from ss news S T settled reserved) i)))

  pub apart_now : HaveDistinctNumbers ks'
  apart_now = nums.distinct_apart ks' (naming.goal_once h.chunks ss g h.reserved (laid_of h ss (reverse news)) settled.tidy (reading.once_h h from ss news S T settled reserved) (once_from (olds ss) S.once) S.names (reading.laid_apart h from ss news S T settled reserved) (reading.laid_once h from ss news S T settled reserved) (within_at h.chunks h.reserved reserved) (none_at h.chunks h.reserved reserved))

  -- ---- the new addresses of survivors

  pub in_xs : (a : Addr) → In xs a → In (olds ss) a × (is_moved h.chunks a ≡ true)
  in_xs a i = moves.in_smalls h.chunks (olds ss) a i

  firsts_are : map first_in ms ≡ xs
  firsts_are = firsts (nothing_laid (reverse news)) h.chunks xs

  pub to_new : (m : Addr × Addr) → In ms m → to m.0 ≡ m.1
  to_new m i = ap (λ (o : Option Addr). unwrap_or o m.0) (some_by ms m (once_moves h.chunks from ss (reverse news) S) i)

  pub to_itself : (a : Addr) → (In xs a → ⊥) → to a ≡ a
  to_itself a n = ap (λ (o : Option Addr). unwrap_or o a) (moves.new_none (nothing_laid (reverse news)) h.chunks xs a n)

  pub moved_small : (m : Addr × Addr) → In ms m → In xs m.0
  moved_small m i = subst (λ as'. In as' m.0) firsts_are (in_first ms m i)

  -- a survivor is read where it was
  pub seen_there : (a : Addr) → In (olds ss) a → (o : Located) × In (objects_of_chunks (chunks_of h.chunks)) o × (o.at ≡ a)
  seen_there a i =
      let s = map_in old_of ss a i in
      let born : (cell_of h.chunks s.0.old).mark ≡ Born s.0.birth = read_in (λ (x : Survivor). (cell_of h.chunks x.old).mark ≡ Born x.birth) ss s.0 s.1 S.names in
      (located s.0.old.chunk s.0.old.offset s.0.birth (cell_of h.chunks s.0.old), object_seen h.chunks s.0.old s.0.birth born, s.2)

  -- ---- what was there is still there

  there_now : (o : Located) (a : Addr) (b : Birth) → o ≡ located o.at.chunk o.at.offset b (cell_of h.chunks o.at) → (cell_of h.chunks o.at).mark ≡ Born b → to o.at ≡ a
      → cell_of ks' a ≡ led_cell g (cell_of h.chunks o.at) → In (objects_of_chunks (chunks_of ks')) (copied_object to o)
  there_now o a b is mark leads read =
      let i : In (objects_of_chunks (chunks_of ks')) (located a.chunk a.offset b (cell_of ks' a)) = object_seen ks' a b (ap (λ (c : Cell). c.mark) read ∙ mark) in
      let e : located a.chunk a.offset b (cell_of ks' a) ≡ located a.chunk a.offset b (led_cell (option_map to) (cell_of h.chunks o.at)) =
      ap (located a.chunk a.offset b) read ∙ ap (λ (w : Option Addr → Option Addr). located a.chunk a.offset b (led_cell w (cell_of h.chunks o.at))) g_is in
      let d : copied_object to (located o.at.chunk o.at.offset b (cell_of h.chunks o.at)) ≡ located a.chunk a.offset b (led_cell (option_map to) (cell_of h.chunks o.at)) = λ k. record (copied_object to (located o.at.chunk o.at.offset b (cell_of h.chunks o.at))) { at = leads k } in
      subst (In (objects_of_chunks (chunks_of ks'))) (e ∙ sym (ap (copied_object to) is ∙ d)) i

  pub copied : (o : Located) → In (objects_of_chunks (chunks_of h.chunks)) o → In (olds ss) o.at → In (objects_of_chunks (chunks_of ks')) (copied_object to o)
  copied o i j = elim (cases_Bool (is_moved h.chunks o.at)) [
    | inl small ↦
        let l = seen_object h.chunks o settled.apart i in
        let x : In xs o.at = moves.to_smalls h.chunks (olds ss) o.at j small in
        let m = map_in first_in ms o.at (subst (λ as'. In as' o.at) (sym firsts_are) x) in
        let e : to o.at ≡ m.0.1 = ap to (sym m.2) ∙ to_new m.0 m.1 in
        let read : cell_of ks' m.0.1 ≡ led_cell g (cell_of h.chunks o.at) = reading.moved_are_read h from ss news S T m.0.0 m.0.1 (contains_from_in ms m.0 m.1) ∙ ap (λ (z : Addr). led_cell g (cell_of h.chunks z)) m.2 in
        there_now o m.0.1 o.birth l.is l.mark e read
    | inr large ↦
        let l = seen_object h.chunks o settled.apart i in
        let e : to o.at ≡ o.at = to_itself o.at (λ x. false≢true (sym large ∙ (in_xs o.at x).1)) in
        there_now o o.at o.birth l.is l.mark e (reading.large_are_read h from ss news S T settled reserved o.at (contains_from_in (olds ss) o.at j) large)
  ]

  -- ---- and nothing else

  -- a survivor that an object came from
  pub record Came (o' : Located) : Type 0 where
    pub object : Located
    pub there : In (objects_of_chunks (chunks_of h.chunks)) object
    pub survives : In (olds ss) object.at
    pub is : o' ≡ copied_object to object

  -- an object of a chunk whose references were updated
  led_back : (k : ChunkValue) (o' : Located) → In (objects_from k.number 0 (map (led_cell g) k.cells)) o' → (q : Located) × In (objects_from k.number 0 k.cells) q × (led_object (option_map to) q ≡ o')
  led_back k o' i =
      let j : In (objects_from k.number 0 (map (led_cell (option_map to)) k.cells)) o' = subst (λ (w : Option Addr → Option Addr). In (objects_from k.number 0 (map (led_cell w) k.cells)) o') g_is i in
      map_in (led_object (option_map to)) (objects_from k.number 0 k.cells) o' (subst (λ os. In os o') (led_are_read (option_map to) k) j)

  from_laid : (k : ChunkValue) (o' : Located) → In y.laid k → In (objects_from k.number 0 (map (led_cell g) k.cells)) o' → Came o'
  from_laid k o' i j =
      let q = led_back k o' j in
      let there : In (objects_of_chunks (chunks_of y.laid)) q.0 = in_objects (chunks_of y.laid) (chunk_of k) q.0 (in_map chunk_of y.laid k i) q.1 in
      elim (laid_objects (nothing_laid (reverse news)) h.chunks xs q.0 (new_numbers.new_reverse news T.new) there) [
        | inl z ↦ absurd z
        | inr r ↦
            let m : Addr × Addr = r.0 in
            let b = seen_only m.1.chunk m.1.offset (cell_of h.chunks m.0) (cell_of h.chunks m.0).mark q.0 r.2 in
            let o : Located = located m.0.chunk m.0.offset b.0 (cell_of h.chunks m.0) in
            let e : led_object (option_map to) (located m.1.chunk m.1.offset b.0 (cell_of h.chunks m.0)) ≡ copied_object to o = λ k. record (copied_object to o) { at = sym (to_new m r.1) k } in
            record {
              object = o;
              there = object_seen h.chunks m.0 b.0 b.1;
              survives = (in_xs m.0 (moved_small m r.1)).0;
              is = sym q.2 ∙ (ap (led_object (option_map to)) (sym b.2) ∙ e);
            }
      ]

  -- a chunk that is kept holds only its large survivor
  pub record Alone (k : ChunkValue) : Type 0 where
    pub there : In h.chunks k
    pub one : k.cells ≡ cell_at k.cells 0 ∷ []
    pub big : 1024 < size_of (cell_at k.cells 0)
    pub survives : In (olds ss) (first_of k)

  pub alone : (k : ChunkValue) → In (filter (keeps ss) (unreserved h.chunks h.reserved)) k → Alone k
  alone k i =
      let p = in_from_kept (keeps ss) (unreserved h.chunks h.reserved) k i in
      let there : In h.chunks k = in_unreserved h.chunks h.reserved k p.0 in
      let both = and_parts (not (nat_le (size_of (cell_at k.cells 0)) 1024)) (list_any (λ (s : Survivor). same_address s.old (first_of k)) ss) p.1 in
      let big : 1024 < size_of (cell_at k.cells 0) = elim (cases_lt 1024 (size_of (cell_at k.cells 0))) [
        | inl b ↦ b
        | inr b ↦ absurd (false≢true (sym (ap not (le-leb (size_of (cell_at k.cells 0)) 1024 b)) ∙ both.0))
      ] in
      let s = in_from_any (λ (s : Survivor). same_address s.old (first_of k)) ss both.1 in
      record {
        there = there;
        one = rebuilt.one_cell k.cells (rebuilt.alone_first k (read_in IsTidy h.chunks k there settled.tidy) big);
        big = big;
        survives = subst (In (olds ss)) (same_is s.0.old (first_of k) s.2) (in_map old_of ss s.0 s.1);
      }

  -- and that is read there
  pub kept_some : (k : ChunkValue) → In (filter (keeps ss) (unreserved h.chunks h.reserved)) k → objects_from k.number 0 (map (led_cell g) k.cells) ≡ [] → ⊥
  kept_some k i e =
      let A = alone k i in
      let s = map_in old_of ss (first_of k) A.survives in
      let born : (cell_of h.chunks (first_of k)).mark ≡ Born s.0.birth = ap (λ (z : Addr). (cell_of h.chunks z).mark) (sym s.2) ∙ read_in (λ (x : Survivor). (cell_of h.chunks x.old).mark ≡ Born x.birth) ss s.0 s.1 S.names in
      let mark : (cell_at k.cells 0).mark ≡ Born s.0.birth = ap (λ (c : Cell). c.mark) (sym (extent.chunk_there h.chunks k (reading.once_h h from ss news S T settled reserved) A.there (first_of k) refl)) ∙ born in
      let c : Cell = led_cell g (cell_at k.cells 0) in
      let here : objects_from k.number 0 (map (led_cell g) k.cells) ≡ located k.number 0 s.0.birth c ∷ [] = ap (λ cs. objects_from k.number 0 (map (led_cell g) cs)) A.one ∙ ap (λ m. located_by k.number 0 c m []) mark in
      absurd (none_some (sym e ∙ here))
    where
      none_some : {o : Located} → [] ≡ o ∷ [] → ⊥
      none_some q = absurd cc

  from_kept : (k : ChunkValue) (o' : Located) → In (filter (keeps ss) (unreserved h.chunks h.reserved)) k → In (objects_from k.number 0 (map (led_cell g) k.cells)) o' → Came o'
  from_kept k o' i j =
      let A = alone k i in
      let q = led_back k o' j in
      let b = seen_only k.number 0 (cell_at k.cells 0) (cell_at k.cells 0).mark q.0 (subst (λ cs. In (objects_from k.number 0 cs) q.0) A.one q.1) in
      let at : q.0.at ≡ first_of k = ap (λ (z : Located). z.at) (sym b.2) in
      let cell : cell_of h.chunks (first_of k) ≡ cell_at k.cells 0 = extent.chunk_there h.chunks k (reading.once_h h from ss news S T settled reserved) A.there (first_of k) refl in
      let stays : to q.0.at ≡ q.0.at = to_itself q.0.at (λ x.
      let small : nat_le (size_of (cell_at k.cells 0)) 1024 ≡ true = ap (λ (c : Cell). nat_le (size_of c) 1024) (sym (ap (cell_of h.chunks) at ∙ cell)) ∙ (in_xs q.0.at x).1 in
      let big : 1024 < size_of (cell_at k.cells 0) = A.big in
      let le : size_of (cell_at k.cells 0) ≤ 1024 = leb-true (size_of (cell_at k.cells 0)) 1024 small in omega (arith, big, le)) in
      record {
        object = q.0;
        there = in_objects (chunks_of h.chunks) (chunk_of k) q.0 (in_map chunk_of h.chunks k A.there) q.1;
        survives = subst (In (olds ss)) (sym at) A.survives;
        is = sym q.2 ∙ (λ k. record (led_object (option_map to) q.0) { at = sym stays k });
      }

  pub came : (o' : Located) → In (objects_of_chunks (chunks_of ks')) o' → Came o'
  came o' i = came_by_cases (held_by ks' o' i)
    where
      came_by_cases : Holds ks' o' → Came o'
      came_by_cases H = elim (in_append_cases (laid_of h ss (reverse news)) (large_of h ss (reverse news) ++ reserved_of h.chunks h.reserved) H.chunk H.there) [
        | inl l ↦
            let k = map_in (led_chunk g) y.laid H.chunk l in
            from_laid k.0 o' k.1 (subst (λ (z : ChunkValue). In (objects_from z.number 0 z.cells) o') (sym k.2) H.object)
        | inr r ↦ elim (in_append_cases (large_of h ss (reverse news)) (reserved_of h.chunks h.reserved) H.chunk r) [
          | inl l ↦
              let k = map_in (led_chunk g) (filter (keeps ss) (unreserved h.chunks h.reserved)) H.chunk l in
              from_kept k.0 o' k.1 (subst (λ (z : ChunkValue). In (objects_from z.number 0 z.cells) o') (sym k.2) H.object)
          | inr z ↦ absurd (subst (λ cs. In (objects_from H.chunk.number 0 cs) o') (of_reserved h.chunks h.reserved reserved H.chunk z).2 H.object)
        ]
      ]
