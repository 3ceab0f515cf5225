-- A leaf collection begins, as the call makes it.
use Rattle.leaf_collections.proofs.Common.{◌≡◌, ℕ, ◌+◌, ◌^◌, ◌<◌, ◌≤◌, ◌++◌, arith, Some, List, [], ◌∷◌, length, map, All, ap, sym, subst, ◌∙◌, vec_len, ReservedVecValue, all_from, map_in, Begin, EntryValue, Addr, IsBorn, cell_of, small_words, ChunkValue, number_of, IsSoundReference, PoolValue, TakesAll, units_in_use, HaveDistinctNumbers, IsFresh, saturating_words, with_places, ToChunks, AreNew, as_reference, born_live, In, Private, Begun, SharedValue, take_by, CopyingHasBegun, roots_of, seen_object, root_here, ap₂, HasReservedLists}
use Rattle.leaf_collections.proofs.LeafEntry as leaf
use Rattle.leaf_collections.proofs.LeafEntry.{AsksLeaf, LeafEntered}
use Rattle.leaf_collections.proofs.WhyNoCollection.{begin_within}
use Rattle.leaf_collections.proofs.CollectionBegins.{begin_entered, new_fresh}
use Rattle.leaf_collections.proofs.NewChunks.{new_of}

module _ {w : SharedValue} {k : ℕ} {p : Private} (asks : AsksLeaf Begin w k p) where
  open asks use {I, F}
  open (leaf.names asks) use {e}

  -- how many chunks it takes, as the code computes it
  pub begin_count : (n : ℕ) → n ≡ take_by (saturating_words (small_words p.heap.chunks)) → n ≡ take_by (small_words p.heap.chunks)
  begin_count n q =
      let h : units_in_use w.pool + take_by (small_words p.heap.chunks) ≤ w.settings.chunks = begin_within asks in
      let few : w.settings.chunks ≤ 65536 = I.settings.chunks.1 in
      omega (arith, q, h, few)

  pub begin_few : (n : ℕ) → n ≡ take_by (saturating_words (small_words p.heap.chunks)) → n < 2 ^ 22
  begin_few n q =
      let c = begin_count n q in
      let h : units_in_use w.pool + take_by (small_words p.heap.chunks) ≤ w.settings.chunks = begin_within asks in
      let few : w.settings.chunks ≤ 65536 = I.settings.chunks.1 in
      omega (arith, c, h, few)

  pub begin_free : (n : ℕ) → n ≡ take_by (saturating_words (small_words p.heap.chunks)) → w.pool.limit < units_in_use w.pool + n → ⊥
  begin_free n q lt =
      let c = begin_count n q in
      let h : units_in_use w.pool + take_by (small_words p.heap.chunks) ≤ w.settings.chunks = begin_within asks in
      let limit : w.pool.limit ≡ w.settings.chunks = I.limit in
      omega (arith, c, h, lt, limit)

  -- with the roots that it has found
  module _ {pool : PoolValue} {news : List ChunkValue} (T : TakesAll w.pool pool p.task (take_by (small_words p.heap.chunks)) [] news) (roots : List Addr) (found : roots ≡ roots_of w p) (j : ReservedVecValue EntryValue) where
    news_are : news ≡ T.numbers.chunks
    news_are = T.numbers.behind

    abbrev pub begun_so : Begun
    begun_so = record { roots = roots; news = map number_of news }

    pub begins : (a b : ℕ) → LeafEntered w (record w { pool = pool; journal = record { items = w.journal.items ++ e ∷ []; room = j.room } }) e (record p { heap = with_places p.heap a b; begun = Some begun_so })
    begins a b =
        subst (LeafEntered w (record w { pool = pool; journal = record { items = w.journal.items ++ e ∷ []; room = j.room } }) e)
        (ap₂ (λ rs ns. record p { heap = with_places p.heap a b; begun = Some (record { roots = rs; news = map number_of ns }) }) (sym found) (sym news_are)) (begin_entered asks T j a b)

    -- the roots are objects of the heap
    sound_root : (a : Addr) → In roots a → IsSoundReference p.heap.chunks (Some a)
    sound_root a i = λ lt.
        let q = root_here w k p I F (leaf.names asks).on a (subst (λ rs. In rs a) found i) in
        let y = seen_object p.heap.chunks q.0 F.form.shaped.apart q.1 in
        (subst (λ z. IsBorn (cell_of p.heap.chunks z).mark) q.2 (born_live (cell_of p.heap.chunks q.0.at).mark q.0.birth y.mark), subst (λ (z : Addr). z.offset < 1024) q.2 (F.form.near q.0 q.1))

    pub begins_with : (new : Private) (to : ToChunks) → to.chunks.items ≡ news → new ≡ record p { heap = with_places p.heap new.heap.slots new.heap.spare; begun = Some begun_so } → HasReservedLists new.heap (vec_len to.chunks) to → CopyingHasBegun p new roots to
    begins_with new to items part reserved = record {
      part = part ∙ ap (λ (cs : List ChunkValue). record p { heap = with_places p.heap new.heap.slots new.heap.spare; begun = Some (record { roots = roots; news = map number_of cs }) }) (sym items);
      sound = all_from (IsSoundReference p.heap.chunks) (map as_reference roots) (λ r i. let x = map_in as_reference roots r i in subst (IsSoundReference p.heap.chunks) x.2 (sound_root x.0 x.1));
      apart = subst HaveDistinctNumbers (sym (items ∙ news_are)) T.numbers.numbered.apart;
      fresh = subst (All (λ (z : ChunkValue). IsFresh p.heap.chunks z.number)) (sym (items ∙ news_are)) (all_from (λ (z : ChunkValue). IsFresh p.heap.chunks z.number) T.numbers.chunks (new_fresh asks T j));
      empty = subst AreNew (sym (items ∙ news_are)) (new_of T.numbers.chunks T.numbers.blank);
      count = ap length (items ∙ news_are) ∙ T.numbers.count;
      reserved = reserved;
    }
