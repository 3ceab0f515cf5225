-- The heap after a sweep has the form of a heap, and the room that its account says.
use Rattle.heap_marking.proofs.Common.{◌≡◌, ℕ, ◌-◌, ◌*◌, ◌/◌, ◌≤◌, ◌==◌, arith, Bool, true, false, cond, not, Option, Some, None, List, [], map, refl, ap, sym, subst, ◌∙◌, ne_eqb, false≢true, All-get_or, is_empty, in_from_kept, all_from, in_map, read_in, none_some, Heap, in_snapshot, is_last_empty, swept_heap, holds_name, Addr, chunk_at, no_chunk, place_in, ChunkValue, Located, chunk_there, CellsFitInChunks, LeafHeapValue, IsCurrent, IsSettled, IsTidy, room_at, room_of, gone_of, chunk_number_at, place_at, swept, HoldsLarge, In, objects_of_chunks, in_objects, IsLastSmall, chunk_of, chunks_of, HeapForm, Formed, place_there}
use Rattle.core_invariant.specs.below.object_layout.{words_in}
use Rattle.core_invariant.proofs.below.leaf_heap.HeapLemmas as heap
use Rattle.core_invariant.proofs.below.mark_sweep_gc.Kept as kept_chunks
use Rattle.heap_marking.proofs.SweptCells.{is_there, large_kept, words_kept}
use Rattle.heap_marking.proofs.SweptChunks.{AreFilled, Agrees, gone, has, has_is, has_names, kept_in, left, names, objects_left, swept_is}
use Rattle.heap_marking.proofs.SweptPlaces.{goes_off, last_empty, left_was, small_names_of, stays_before}

-- a large chunk holds one object
abbrev pub HoldLarge : List ChunkValue → Type 0
HoldLarge ks = (k : ChunkValue) → In ks k → (k.size == 1024) ≡ false → HoldsLarge (chunk_of k)

module _ (kept : List Addr) (h : LeafHeapValue) (F : HeapForm h) (none : h.reserved ≡ None) (L : HoldLarge h.chunks) where
  abbrev pub ks : List ChunkValue
  ks = h.chunks

  -- the heap with exactly what is kept
  abbrev pub plain : LeafHeapValue
  plain = record h { chunks = left kept h.chunks; current = place_at (left kept h.chunks) (chunk_number_at h.chunks h.current); reserved = None }

  pub swept_plain : swept h kept ≡ plain
  swept_plain = ap (λ o. let x : LeafHeapValue = record h { reserved = o } in swept x kept) none

  pub gone_plain : gone_of h kept ≡ gone kept h.chunks
  gone_plain = ap (λ o. let x : LeafHeapValue = record h { reserved = o } in gone_of x kept) none

  pub filled : AreFilled h.chunks
  filled k i = record {
    unmoved = (read_in IsTidy h.chunks k i F.tidy).unmoved;
    whole = F.whole k i;
    large = L k i;
    some = λ q e.
        let p = place_there h.chunks k i in
        none_some (sym none ∙ F.spare p.0 p.1 (λ z. false≢true (sym q ∙ ap (λ n. n == 1024) (ap (λ (x : ChunkValue). x.size) (sym p.2) ∙ z))) (ap (λ (x : ChunkValue). (chunk_of x).objects) p.2 ∙ e));
  }

  settled : IsSettled h.chunks
  settled = record { tidy = F.tidy; apart = F.shaped.apart }

  -- an object that is left was there
  was : (o : Located) → In (objects_of_chunks (chunks_of (left kept h.chunks))) o → In (objects_of_chunks (chunks_of h.chunks)) o
  was o i = (in_from_kept (is_there kept) (objects_of_chunks (chunks_of h.chunks)) o (subst (λ os. In os o) (objects_left kept h.chunks filled) i)).0

  within_left : CellsFitInChunks (left kept h.chunks)
  within_left = all_from (λ (k : ChunkValue). words_in k.cells ≤ k.size) (left kept h.chunks) (λ k i.
      let x = left_was kept h.chunks k i in
      let w : words_in x.0.cells ≤ x.0.size = read_in (λ (k : ChunkValue). words_in k.cells ≤ k.size) h.chunks x.0 x.1 F.within in
      subst (λ (z : ChunkValue). words_in z.cells ≤ z.size) x.3 (subst (λ n. n ≤ x.0.size) (sym (words_kept kept x.0.number x.0.cells 0)) w))

  large_left : HoldLarge (left kept h.chunks)
  large_left k i q =
      let x = left_was kept h.chunks k i in
      subst (λ (z : ChunkValue). HoldsLarge (chunk_of z)) x.3 (large_kept kept x.0 (L x.0 x.1 (ap (λ (z : ChunkValue). z.size == 1024) x.3 ∙ q)))

  -- each chunk that stays contains an object
  some_left : (k : ChunkValue) → In (left kept h.chunks) k → (chunk_of k).objects ≡ [] → ⊥
  some_left k i e =
      let x = left_was kept h.chunks k i in
      let empty : kept_in kept x.0 ≡ [] = sym (swept_is kept x.0) ∙ (ap (λ (z : ChunkValue). (chunk_of z).objects) x.3 ∙ e) in
      false≢true (sym (sym x.2 ∙ (has_is kept x.0 (filled x.0 x.1) ∙ ap (λ (os : List Located). not (is_empty os)) empty)))

  last_left : (o : Option ℕ) → IsCurrent h.chunks o → IsLastSmall h.chunks o → IsLastSmall (left kept h.chunks) (place_at (left kept h.chunks) (chunk_number_at h.chunks o))
  last_left None C last = tt
  last_left (Some i) C last = last_left_by_cases (has kept (chunk_at h.chunks i)) refl
    where
      last_left_by_cases : (b : Bool) → has kept (chunk_at h.chunks i) ≡ b → IsLastSmall (left kept h.chunks) (place_in (left kept h.chunks) (chunk_at h.chunks i).number)
      last_left_by_cases true e =
          let S = stays_before kept (λ k. k.size ≡ 1024 → ⊥) (λ k f. f) h.chunks F.shaped.apart i C.0 e last in
          let p = S.place in
          let w = S.within in
          subst (IsLastSmall (left kept h.chunks)) (sym (heap.place_there (left kept h.chunks) (chunk_at h.chunks i).number (omega (arith, p, w)) ∙ ap Some S.place)) S.behind
      last_left_by_cases false e = subst (IsLastSmall (left kept h.chunks)) (sym (goes_off kept h.chunks F.shaped.apart (chunk_at h.chunks i) (chunk_there h.chunks i C.0) e)) tt

  pub plain_form : HeapForm plain
  plain_form = record {
    shaped = record { apart = kept_chunks.now_apart kept None h.chunks settled; current = kept_chunks.now_current kept None h.chunks settled h.current F.shaped.current; reserved = tt };
    near = λ o i. F.near o (was o i);
    tidy = (kept_chunks.now_settled kept None h.chunks settled).tidy;
    within = within_left;
    last = last_left h.current F.shaped.current F.last;
    last_large = tt;
    since = F.since;
    whole = λ k i. (let x = left_was kept h.chunks k i in subst (λ (z : ChunkValue). z.size ≡ 1024 * (z.size / 1024)) x.3 (F.whole x.0 x.1));
    spare = λ i lt big empty. absurd (some_left (chunk_at (left kept h.chunks) i) (chunk_there (left kept h.chunks) i lt) empty);
  }

  pub plain_formed : Formed plain
  plain_formed = record {
    shaped = plain_form.shaped;
    each = λ i lt.
        let k = chunk_at (left kept h.chunks) i in
        let there = chunk_there (left kept h.chunks) i lt in record {
          tidy = All-get_or IsTidy (left kept h.chunks) i no_chunk lt plain_form.tidy;
          within = All-get_or (λ (x : ChunkValue). words_in x.cells ≤ x.size) (left kept h.chunks) i no_chunk lt within_left;
          whole = plain_form.whole k there;
          large = λ big. large_left k there (ne_eqb k.size 1024 big);
        };
    spare = plain_form.spare;
  }

  -- ITS ROOM
  module _ (a : Heap) (lists : small_names_of h.chunks ≡ a.chunks) (room : room_of h ≡ a.room) (agree : Agrees kept (holds_name a.snapshot) (objects_of_chunks (chunks_of h.chunks))) where
    module _ (i : ℕ) (C : IsCurrent h.chunks (Some i)) (last : IsLastSmall h.chunks (Some i)) (here : h.current ≡ Some i) where
      abbrev k : ChunkValue
      k = chunk_at h.chunks i

      current_is_there : In h.chunks k
      current_is_there = chunk_there h.chunks i C.0

      agreed : Agrees kept (holds_name a.snapshot) (chunk_of k).objects
      agreed o j = agree o (in_objects (chunks_of h.chunks) (chunk_of k) o (in_map chunk_of h.chunks k current_is_there) j)

      abbrev last_gone : Bool
      last_gone = is_last_empty (map (in_snapshot a) a.chunks)

      last_is : last_gone ≡ is_empty (names kept (holds_name a.snapshot) k)
      last_is = ap (λ z. is_last_empty (map (in_snapshot a) z)) (sym lists) ∙ last_empty (in_snapshot a) h.chunks i C.0 C.1 last

      has_last : has kept k ≡ not last_gone
      has_last = has_names kept (holds_name a.snapshot) k (filled k current_is_there) agreed ∙ ap not (sym last_is)

      room_k : k.size - words_in k.cells ≡ a.room
      room_k = ap (room_at h.chunks) (sym here) ∙ room

      full : (b : Bool) → true ≡ not b → a.room ≡ cond b 0 a.room
      full true q = absurd (false≢true (sym q))
      full false q = refl

      gone_by : (b : Bool) → false ≡ not b → 0 ≡ cond b 0 a.room
      gone_by true q = refl
      gone_by false q = absurd (false≢true q)

      room_of_some : (b : Bool) → has kept k ≡ b → room_at (left kept h.chunks) (place_in (left kept h.chunks) (chunk_at h.chunks i).number) ≡ (swept_heap a).room
      room_of_some true q =
          let S = stays_before kept (λ k. k.size ≡ 1024 → ⊥) (λ k f. f) h.chunks F.shaped.apart i C.0 q last in
          let p = S.place in
          let w = S.within in
          ap (room_at (left kept h.chunks)) (heap.place_there (left kept h.chunks) (chunk_at h.chunks i).number (omega (arith, p, w)) ∙ ap Some S.place)
          ∙ (ap (λ (z : ChunkValue). z.size - words_in z.cells) S.is
          ∙ (ap (λ n. (chunk_at h.chunks i).size - n) (words_kept kept (chunk_at h.chunks i).number (chunk_at h.chunks i).cells 0)
          ∙ (room_k ∙ full last_gone (sym q ∙ has_last))))
      room_of_some false q = ap (room_at (left kept h.chunks)) (goes_off kept h.chunks F.shaped.apart (chunk_at h.chunks i) current_is_there q) ∙ gone_by last_gone (sym q ∙ has_last)

    nothing : (b : Bool) → a.room ≡ 0 → 0 ≡ cond b 0 a.room
    nothing true e = refl
    nothing false e = sym e

    room_by : (o : Option ℕ) → h.current ≡ o → IsCurrent h.chunks o → IsLastSmall h.chunks o → room_at (left kept h.chunks) (place_at (left kept h.chunks) (chunk_number_at h.chunks o)) ≡ (swept_heap a).room
    room_by None e C last = nothing (is_last_empty (map (in_snapshot a) a.chunks)) (sym room ∙ ap (room_at h.chunks) e)
    room_by (Some i) e C last = room_of_some i C last e (has kept (chunk_at h.chunks i)) refl

    pub plain_room : room_of plain ≡ (swept_heap a).room
    plain_room = room_by h.current refl F.shaped.current F.last
