-- The words of a part's heap are those of the names that the accounts hold for it.
use Rattle.run_statistics.proofs.Common.{◌≡◌, ℕ, zero, suc, ◌+◌, ◌*◌, ◌^◌, ◌≤◌, arith, List, [], ◌∷◌, ◌++◌, slice_get, sum_by, refl, ap, sym, ◌∙◌, flat_map, sum_by-append, Name, MachineState, object_at, Heap, Ledger, heap_of, held, held_in, in_use, let_go, or_fresh, words_at, words_in, object_words_of, words_sum, heaps_fit, use_is_bounded, heap_machine, held_words, aside, rested, rested_view, rested_worker, with_belongings, Belongings, Memory, at_belongings, Private, WorkerPartFits, belongings_of_part, IsSharedValue, SharedValue, accounts, value_of, words_are}

-- A HEAP IS SMALL
heap_least : (g : List Name → ℕ) → ((xs ys : List Name) → g (xs ++ ys) ≡ g xs + g ys) → (heaps : List Heap) (t : ℕ) → g (held_in (or_fresh (slice_get heaps t))) ≤ g (flat_map held_in heaps) + g []
heap_least g add [] t = omega arith
heap_least g add (h ∷ hs) t = heap_least_by_cases t (λ u. heap_least g add hs u) (add (held_in h) (flat_map held_in hs))
  where
    heap_least_by_cases : (u : ℕ) → ((v : ℕ) → g (held_in (or_fresh (slice_get hs v))) ≤ g (flat_map held_in hs) + g []) → g (held_in h ++ flat_map held_in hs) ≡ g (held_in h) + g (flat_map held_in hs)
        → g (held_in (or_fresh (slice_get (h ∷ hs) u))) ≤ g (held_in h ++ flat_map held_in hs) + g []
    heap_least_by_cases zero rest both = omega (arith, both)
    heap_least_by_cases (suc u) rest both = let r = rest u in omega (arith, both, r)

pub words_small : (w : SharedValue) → IsSharedValue w → (t : ℕ) → words_in (accounts w).machine (heap_of (accounts w) t) ≤ 2 ^ 26
words_small w I t =
    let k : Ledger = accounts w in
    let u : in_use k ≤ w.settings.chunks = (use_is_bounded w.program w.settings w.journal.items I.legal).now in
    let c : w.settings.chunks ≤ 65536 = I.settings.chunks.1 in
    let f : words_sum k.machine (held k) ≤ 1024 * in_use k = (heaps_fit w.program w.settings w.journal.items I.legal).words in
    let a : words_in k.machine (heap_of k t) ≤ words_sum k.machine (held k) + words_sum k.machine [] = heap_least (words_sum k.machine) (sum_by-append (words_at k.machine)) k.heaps t in
    let z : words_sum k.machine [] ≡ 0 = refl in
    omega (arith, u, c, f, a, z)

-- a part without fresh steps
module _ (w : SharedValue) (k : ℕ) (p : Private) (F : WorkerPartFits w k (record p { fresh = 0 })) where
  abbrev l : Ledger
  l = accounts w

  abbrev t : ℕ
  t = p.task

  abbrev h : Belongings
  h = belongings_of_part (record p { fresh = 0 })

  abbrev v' : Memory
  v' = with_belongings (value_of w) t h

  abbrev L : Ledger
  L = rested (aside l) t

  same_words : (ns : List Name) → words_sum L.machine ns ≡ words_sum l.machine ns
  same_words ns = ap (λ s. sum_by (λ n. object_words_of (object_at s n)) ns) (ap (λ (m : MachineState). m.store) (heap_machine (aside l) t let_go))

  held_is : held_in (heap_of L t) ≡ held_in (heap_of l t)
  held_is = rested_view held_in (λ z. refl) (aside l) t

  pub part_words : words_in l.machine (heap_of l t) ≡ held_words p.heap.chunks
  part_words =
      sym (same_words (held_in (heap_of L t)) ∙ ap (words_sum l.machine) held_is)
      ∙ words_are v' L t p.heap.chunks F.fits.part.fits.stands (rested_worker (aside l) t) (ap (λ (z : Belongings). z.chunks) (at_belongings (value_of w) t h)) F.form.tidy
