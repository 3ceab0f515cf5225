-- Counts of what the heaps of tasks that don't run hold.
use Rattle.run_journal.proofs.Common.{◌≡◌, ℕ, zero, suc, ◌*◌, ◌≤◌, true, List, [], ◌∷◌, slice_get, length, sym, subst, arith, length-append, flat_map, sum_by-append, contains_from_in, EntryValue, SettingsValue, AreSettings, ProgramText, Heap, Ledger, heap_of, or_fresh, held, held_in, words_at, words_sum, in_use, ledger_of, is_legal, held_not_running, HoldsOnce, HeapsFitChunks, kept_least, stored_most, names_are_held_once, heaps_fit, use_is_bounded, IsCountable, IsLegalLedger}

-- COUNTS

-- one heap holds no more names than all heaps
one_of_all : (heaps : List Heap) (t : ℕ) → length (held_in (or_fresh (slice_get heaps t))) ≤ length (flat_map held_in heaps)
one_of_all [] t = omega arith
one_of_all (h ∷ heaps) zero = let a = length-append (held_in h) (flat_map held_in heaps) in omega arith
one_of_all (h ∷ heaps) (suc t) = let a = length-append (held_in h) (flat_map held_in heaps) in let b = one_of_all heaps t in omega arith

-- the accounts of legal journals
module _ (p : ProgramText) (s : SettingsValue) (A : AreSettings s) where
  legal_countable : (journal : List EntryValue) → is_legal p s journal ≡ true → IsCountable (ledger_of p s journal)
  legal_countable journal legal =
      let l : Ledger = ledger_of p s journal in
      let H : HoldsOnce l = names_are_held_once p s journal legal in
      let F : HeapsFitChunks l = heaps_fit p s journal legal in
      let u : in_use l ≤ s.chunks = (use_is_bounded p s journal legal).now in
      let c : s.chunks ≤ 65536 = A.chunks.1 in
      let w : words_sum l.machine (held l) ≤ 1024 * in_use l = F.words in
      let o : length (held l) ≤ words_sum l.machine (held l) = stored_most l.machine (held l) (λ n i. H.stored n (contains_from_in (held l) n i)) in
      record {
        each = λ t. let a : length (held_in (heap_of l t)) ≤ length (held l) = one_of_all l.heaps t in omega arith;
        objects = let a : length (held_not_running l) ≤ length (held l) = kept_least length length-append l.machine.tasks l.heaps 0 in omega arith;
        words = let a : words_sum l.machine (held_not_running l) ≤ words_sum l.machine (held l) = kept_least (words_sum l.machine) (sum_by-append (words_at l.machine)) l.machine.tasks l.heaps 0 in omega arith;
      }

  pub ledger_countable : (l : Ledger) → IsLegalLedger p s l → IsCountable l
  ledger_countable l L = subst IsCountable (sym L.2) (legal_countable L.0 L.1)
