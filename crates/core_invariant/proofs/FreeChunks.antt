-- Whether enough chunks are free for a leaf collection of a part.
use Rattle.core_invariant.proofs.Common.{◌≡◌, ℕ, suc, ◌+◌, ◌-◌, ◌^◌, ◌<◌, ◌≤◌, arith, Option, None, List, [], ◌∷◌, length, map, nat_le, inl, inr, refl, ap, ap₂, sym, subst, ◌∙◌, flat_map, cases_lt, lt-leb, in_map, Name, MachineState, object_at, Heap, Ledger, heap_of, let_go, small_in, take_of, object_words_of, words_sum, is_pool_enough, heap_machine, Addr, small_words, Located, units_in_use, saturating_words, aside, rested, rested_view, rested_worker, AreLaidOut, with_belongings, AllRead, BelongingsStand, MemoryStands, chunk_names, small_chunks, Belongings, In, Memory, object_name, objects_of_chunks, in_objects, at_belongings, Private, small_lists, chunk_of, SharedValue, accounts, value_of, IsSharedValue, WorkerPartFits, belongings_of_part, take_by}
use Rattle.core_invariant.proofs.HeapCounts.{small_names}
use Rattle.core_invariant.proofs.BeforeTheEnd.{used_now}
use Rattle.core_invariant.proofs.SmallWords.{SameWords, small_counted}

-- both lists have as many
pub refs_long : (at : Name → Addr → Type 0) (rs : List (Option Addr)) (xs : List (Option Name)) → AllRead at rs xs → length rs ≡ length xs
refs_long at [] [] h = refl
refs_long at [] (x ∷ xs) h = absurd h
refs_long at (r ∷ rs) [] h = absurd h
refs_long at (r ∷ rs) (x ∷ xs) h = ap suc (refs_long at rs xs h.1)

-- a part without fresh steps
module _ (w : SharedValue) (k : ℕ) (p : Private) (I : IsSharedValue w) (F : WorkerPartFits w k (record p { fresh = 0 })) where
  abbrev l : Ledger
  l = accounts w

  abbrev t : ℕ
  t = p.task

  abbrev h : Belongings
  h = belongings_of_part (record p { fresh = 0 })

  abbrev v' : Memory
  v' = with_belongings (value_of w) t h

  abbrev L : Ledger
  L = rested (aside l) t

  W : MemoryStands v' L
  W = F.fits.part.fits.stands

  at_rest : (heap_of L t).worker ≡ None
  at_rest = rested_worker (aside l) t

  H : BelongingsStand v' L t
  H = W.belongings t at_rest

  own_belongings : v'.belongings t ≡ h
  own_belongings = at_belongings (value_of w) t h

  store_is : L.machine.store ≡ l.machine.store
  store_is = ap (λ (m : MachineState). m.store) (heap_machine (aside l) t let_go)

  words_same : (o : Located) → In (objects_of_chunks h.chunks) o → SameWords l.machine o
  words_same o i =
      let c = W.contents t o at_rest (subst (λ (z : Belongings). In (objects_of_chunks z.chunks) o) (sym own_belongings) i) in
      ap (λ s. object_words_of (object_at s (object_name o))) (sym store_is)
      ∙ (ap object_words_of c.1 ∙ ap₂ (λ a b. 2 + a + b) (sym (refs_long _ o.refs c.0.refs c.2.refs)) (ap length (sym c.2.ints)))

  chunks_are : (heap_of l t).chunks ≡ small_lists p.heap.chunks
  chunks_are =
      sym (rested_view (λ (z : Heap). z.chunks) (λ z. refl) (aside l) t)
      ∙ (sym H.names.small ∙ (ap (λ (z : Belongings). map chunk_names (small_chunks z.chunks)) own_belongings ∙ small_names p.heap.chunks))

  laid : AreLaidOut h.chunks (heap_of L t).reserved
  laid = subst (λ (z : Belongings). AreLaidOut z.chunks (heap_of L t).reserved) own_belongings H.laid

  -- the words of its small objects are those of their names
  pub small_is : words_sum l.machine (small_in (heap_of l t)) ≡ small_words p.heap.chunks
  small_is =
      ap (λ ns. words_sum l.machine (flat_map (λ xs. xs) ns)) chunks_are
      ∙ small_counted l.machine p.heap.chunks F.form.tidy F.form.within F.form.whole (λ c i. laid.large (chunk_of c) (in_map chunk_of p.heap.chunks c i))
      (λ c o i j. words_same o (in_objects h.chunks (chunk_of c) o (in_map chunk_of p.heap.chunks c i) j))

  pub take_is : take_of l.machine (heap_of l t) ≡ take_by (small_words p.heap.chunks)
  take_is = ap take_by small_is

  enough_by : (used n limit : ℕ) → limit ≤ 65536 → nat_le (used + take_by (saturating_words n)) limit ≡ nat_le (used + take_by n) limit
  enough_by used n limit few = elim (cases_lt n (2 ^ 64 - 1)) [
    | inl lt ↦ ap (λ z. nat_le (used + take_by z) limit) (let q : saturating_words n ≡ n = omega (arith, lt) in q)
    | inr le ↦ lt-leb (used + take_by (saturating_words n)) limit (many (saturating_words n) (omega (arith, le))) ∙ sym (lt-leb (used + take_by n) limit (many n (omega (arith, le))))
  ]
    where
      many : (z : ℕ) → 2 ^ 40 ≤ z → limit < used + take_by z
      many z big = omega (arith, big, few)

  pub enough_is : nat_le (units_in_use w.pool + take_by (saturating_words (small_words p.heap.chunks))) w.settings.chunks ≡ is_pool_enough w.settings l t
  enough_is =
      enough_by (units_in_use w.pool) (small_words p.heap.chunks) w.settings.chunks I.settings.chunks.1
      ∙ ap₂ (λ a b. nat_le (a + b) w.settings.chunks) (used_now w I) (sym take_is)
