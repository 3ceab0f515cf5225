-- Space by count in legal journals.
use Rattle.run_ledger.proofs.Common.{◌≡◌, ℕ, zero, suc, ◌+◌, ◌<◌, ◌≤◌, Bool, true, false, cond, Option, Some, None, List, [], ◌∷◌, ◌++◌, map, length, slice_get, slice_set, nat_lt, nat_le, ◌⊎◌, inl, inr, refl, ap, sym, subst, ◌∙◌, arith, is_some, is_none, length-append, filter, ◌*◌, false≢true, both_ways, cases_lt, and_parts, leb-true, leb-false, ltb-false, unwrap_or, length-map, same_Some, in_from_contains, got_same, in_from_kept, In, Kind, Took, Ran, Chunk, Begin, End as EndOf, PutOff, Mark, More, Sweep, Fuel, EntryValue, SettingsValue, ProgramText, Name, MachineState, asked, waiting, sum_by-cons, Heap, Ledger, Pool, chunk_words, units, is_small_size, words_at, units_sum, begun_in, units_in, fresh, heap_at, heap_of, or_fresh, with_heap, with_heap_at, in_use, within, lacks_room, take_of, collected, swept_heap, in_snapshot, is_last_empty, without_empty, laid_onto, small_survivors, small_in, held_in, words_sum, words_in, on_asked, is_due, is_in_need, refusal, after_kind, after, is_out, is_pool_enough, chunk_units, with_chunk, peak_from, opening, after_all, ledger_of, is_legal_from, is_legal, EachHasName, LeafCollectionsAreBounded, SweptWithin, SweepsAreBounded, UseIsBounded, last_words, FitsInChunks, HeapsFit, holds_name}
use Rattle.run_ledger.proofs.Sound.{collecting, SoundLedger}
use Rattle.run_ledger.proofs.Weights.{sum_flat, total, total_set, kept_weight}
use Rattle.run_ledger.proofs.Chunks.{Full, last_full, append_full, last_append, onto_full, room_full, small_full, swept_full, swept_last, heap_words}
use Rattle.run_ledger.proofs.Held.{birth_cases}
use Rattle.run_ledger.proofs.Laid.{HaveNames, onto_names, nonempty_names, collected_bound, room_some, nonempty_length, last_some}
use Rattle.run_ledger.proofs.Stocks.{StockedLedger, with_heap_any, kind_stocked, opening_stocked}
use Rattle.run_ledger.proofs.Bounds.{ran_tells}
use Rattle.run_ledger.proofs.Booked.{Booked, BookedLedger, no_begun, asked_runs, wait_run, task_steps_booked}
use Rattle.run_ledger.proofs.Cuts.{cut_legal}
use Rattle.run_ledger.proofs.Journals.{none_unless, none_where, out_tells, wait_tells, entry_tells, entry_sound, opening_sound, not_waiting}

-- without a collection no chunks are reserved for it
pub begun_none : (h : Heap) → is_some h.begun ≡ false → begun_in h ≡ 0
begun_none h e = begun_none_by_cases h.begun e
  where
    begun_none_by_cases : (o : Option ℕ) → is_some o ≡ false → unwrap_or o 0 ≡ 0
    begun_none_by_cases None q = refl
    begun_none_by_cases (Some c) q = absurd (false≢true (sym q))

module _ (p : ProgramText) (s : SettingsValue) where
  -- the account of one heap changes, and uses at most the extra chunks more
  set_booked : (l : Ledger) (t extra : ℕ) (f : Heap → Heap) → BookedLedger p s l
      → ((h : Heap) → slice_get l.heaps t ≡ Some h → Booked p s l.machine t h → Booked p s l.machine t (f h) × (units_in l.machine (f h) ≤ units_in l.machine h + extra))
      → in_use l + extra ≤ s.chunks → BookedLedger p s (with_heap l t f)
  set_booked l t extra f B each room = with_heap_any (BookedLedger p s) l t f B (λ h e.
      let q = each h e (B.each t h e) in
      let a = total_set (units_in l.machine) l.heaps t h (f h) e in
      let c = q.1 in
      let d : in_use l + extra ≤ s.chunks = room in
      record {
        each = λ u k is. elim (got_at l t h (f h) u k e is) [
          | inl here ↦ subst (λ v. Booked p s l.machine v k) (sym here.0) (subst (Booked p s l.machine t) (sym here.1) q.0)
          | inr old ↦ B.each u k old
        ];
        within = omega arith;
      })
    where
      got_at : (l : Ledger) (t : ℕ) (h h' : Heap) (u : ℕ) (k : Heap) → slice_get l.heaps t ≡ Some h → slice_get (slice_set l.heaps t h') u ≡ Some k → ((u ≡ t) × (k ≡ h')) ⊎ (slice_get l.heaps u ≡ Some k)
      got_at l t h h' u k e is = got_cases' l.heaps t u h' k is
        where
          got_cases' : (xs : List Heap) (i j : ℕ) (y z : Heap) → slice_get (slice_set xs i y) j ≡ Some z → ((j ≡ i) × (z ≡ y)) ⊎ (slice_get xs j ≡ Some z)
          got_cases' [] i j y z q = inr q
          got_cases' (x ∷ xs) zero zero y z q = inl (refl, sym (same_Some y z q))
          got_cases' (x ∷ xs) zero (suc j) y z q = inr q
          got_cases' (x ∷ xs) (suc i) zero y z q = inr q
          got_cases' (x ∷ xs) (suc i) (suc j) y z q = elim (got_cases' xs i j y z q) [ inl r ↦ inl (ap suc r.0, r.1) | inr r ↦ inr r ]

  -- changes that keep the chunks
  plain_booked : (l : Ledger) (t : ℕ) (f : Heap → Heap) → BookedLedger p s l
      → ((h : Heap) → Booked p s l.machine t h → Booked p s l.machine t (f h)) → ((h : Heap) → units_in l.machine (f h) ≡ units_in l.machine h) → BookedLedger p s (with_heap l t f)
  plain_booked l t f B each same =
      set_booked l t 0 f B (λ h e b. (each h b, let a = same h in omega arith)) (let a : in_use l ≤ s.chunks = B.within in omega arith)

  -- the heap of the entry's task
  heap_is : (l : Ledger) (t : ℕ) (h : Heap) → slice_get l.heaps t ≡ Some h → heap_of l t ≡ h
  heap_is l t h e = ap or_fresh e

  due_by : (o : Option ℕ) (b : Bool) → on_asked o (λ w. b) ≡ true → b ≡ true
  due_by None b e = absurd (false≢true e)
  due_by (Some w) b e = e

  due_since : (l : Ledger) (t : ℕ) → is_due s p l t ≡ true → s.leaf ≤ (heap_of l t).since
  due_since l t e = leb-true s.leaf (heap_of l t).since (due_by (asked p l.machine t) (nat_le s.leaf (heap_of l t).since) e)

  -- a chunk is asked for
  module _ (l : Ledger) (t : ℕ) (idle : collecting (slice_get l.heaps t) ≡ false) (undue : is_due s p l t ≡ false) (need : is_in_need p l t ≡ true) where
    chunk_by : (h : Heap) → slice_get l.heaps t ≡ Some h → Booked p s l.machine t h → (o : Option ℕ) → asked p l.machine t ≡ o → on_asked o (λ w. nat_le s.leaf h.since) ≡ false → on_asked o (lacks_room h) ≡ true
        → Booked p s l.machine t (with_chunk o h) × (units_in l.machine (with_chunk o h) ≤ units_in l.machine h + chunk_units o)
    chunk_by h e b None is no_due needs = absurd (false≢true needs)
    chunk_by h e b (Some w) is no_due needs = chunk_by_cases (is_small_size w) refl
      where
        none : is_some h.begun ≡ false
        none = ap collecting (sym e) ∙ idle

        one_empty : Full l.machine ([] ∷ [])
        one_empty ns (inl q) = subst (λ ys. words_sum l.machine ys ≤ chunk_words) q (omega arith)
        one_empty ns (inr i) = absurd i

        chunk_by_cases : (v : Bool) → is_small_size w ≡ v
            → Booked p s l.machine t (cond v (record h { chunks = h.chunks ++ [] ∷ []; room = chunk_words }) (record h { reserved = cond v 1 (units w) }))
            × (units_in l.machine (cond v (record h { chunks = h.chunks ++ [] ∷ []; room = chunk_words }) (record h { reserved = cond v 1 (units w) })) ≤ units_in l.machine h + cond v 1 (units w))
        chunk_by_cases true small = (
          record { begun = λ c q. no_begun h c none q; room = λ pos. omega (arith, length-append h.chunks ([] ∷ [])); reserved = b.reserved; full = append_full l.machine h.chunks ([] ∷ []) b.full one_empty; last = let a = last_append l.machine h.chunks ([] ∷ []) (omega arith) in omega arith },
          omega (arith, length-append h.chunks ([] ∷ [])),
        )
        chunk_by_cases false small = (
          record { begun = λ c q. no_begun h c none q; room = b.room; reserved = λ pos. (w, is, small, refl, leb-false s.leaf h.since no_due); full = b.full; last = b.last },
          omega arith,
        )

    chunk_booked : (full : Bool) (end : Ledger) → BookedLedger p s end → BookedLedger p s l → nat_lt s.chunks (in_use l + chunk_units (asked p l.machine t)) ≡ full → BookedLedger p s (cond full end (with_heap l t (with_chunk (asked p l.machine t))))
    chunk_booked true end E B is = E
    chunk_booked false end E B is =
        set_booked l t (chunk_units (asked p l.machine t)) (with_chunk (asked p l.machine t)) B
        (λ h e b. chunk_by h e b (asked p l.machine t) refl
        (subst (λ (g : Heap). on_asked (asked p l.machine t) (λ w. nat_le s.leaf g.since) ≡ false) (heap_is l t h e) undue)
        (subst (λ (g : Heap). on_asked (asked p l.machine t) (lacks_room g) ≡ true) (heap_is l t h e) need))
        (ltb-false s.chunks (in_use l + chunk_units (asked p l.machine t)) is)

  -- a leaf collection begins
  begin_booked : (l : Ledger) (t : ℕ) (f : Heap → Heap) → ((h : Heap) → f h ≡ record h { begun = Some (take_of l.machine h); survivors = within l t }) → BookedLedger p s l
      → collecting (slice_get l.heaps t) ≡ false → s.leaf ≤ (heap_of l t).since → in_use l + take_of l.machine (heap_of l t) ≤ s.chunks → BookedLedger p s (with_heap l t f)
  begin_booked l t f is B idle due enough = set_booked l t (take_of l.machine (heap_of l t)) f B (λ h e b.
      let none : is_some h.begun ≡ false = ap collecting (sym e) ∙ idle in
      let since : s.leaf ≤ h.since = subst (λ (g : Heap). s.leaf ≤ g.since) (heap_is l t h e) due in
      let h' : Heap = record h { begun = Some (take_of l.machine h); survivors = within l t } in
      let zero_reserved : h.reserved ≡ 0 = elim (cases_lt 0 h.reserved) [ inl pos ↦ absurd (let q : h.since < s.leaf = (b.reserved pos).4 in omega arith) | inr le ↦ omega arith ] in
      let z = begun_none h none in
      let same : take_of l.machine (heap_of l t) ≡ take_of l.machine h = ap (take_of l.machine) (heap_is l t h e) in
      subst (λ (g : Heap). Booked p s l.machine t g × (units_in l.machine g ≤ units_in l.machine h + take_of l.machine (heap_of l t))) (sym (is h)) (
        record { begun = λ c q. (sym (same_Some (take_of l.machine h) c q), zero_reserved); room = b.room; reserved = b.reserved; full = b.full; last = b.last },
        let u : units_in l.machine h' ≡ length h.chunks + units_sum l.machine h.large + h.reserved + take_of l.machine h = refl in omega arith,
      )) enough

  -- a small survivor is one of the small names
  survivor_in : (h : Heap) (n : Name) → In (small_survivors h) n → In (small_in h) n
  survivor_in h n i = (in_from_kept (holds_name h.survivors) (small_in h) n (birth_cases (filter (holds_name h.survivors) (small_in h)) n i)).0

  some_begun : (h : Heap) → is_some h.begun ≡ true → (c : ℕ) × (h.begun ≡ Some c)
  some_begun h e = some_begun_by_cases h.begun refl e
    where
      some_begun_by_cases : (o : Option ℕ) → h.begun ≡ o → is_some o ≡ true → (c : ℕ) × (h.begun ≡ Some c)
      some_begun_by_cases None is q = absurd (false≢true q)
      some_begun_by_cases (Some c) is q = (c, is)

  begun_is : (h : Heap) (c : ℕ) → h.begun ≡ Some c → begun_in h ≡ c
  begun_is h c e = ap (λ (o : Option ℕ). unwrap_or o 0) e

  -- and ends
  end_booked : (l : Ledger) (t : ℕ) → BookedLedger p s l → is_some (heap_of l t).begun ≡ true → BookedLedger p s (with_heap l t (collected l.machine))
  end_booked l t B going = set_booked l t 0 (collected l.machine) B (λ h e b.
      let c = some_begun h (subst (λ (g : Heap). is_some g.begun ≡ true) (heap_is l t h e) going) in
      let took = (b.begun c.0 c.1).0 in
      let is = begun_is h c.0 c.1 in
      let most = collected_bound l.machine h in
      let large = kept_weight (λ n. units (words_at l.machine n)) _ h.large in
      let lists : List (List Name) = laid_onto l.machine [] (small_survivors h) in
      let lists_full : Full l.machine lists = onto_full l.machine (small_survivors h) [] (λ ns i. absurd i) (λ n i. small_full l.machine h.chunks b.full n (survivor_in h n i)) in (
        record {
          begun = λ d q. no_begun (collected l.machine h) d refl q;
          room = room_some l.machine (laid_onto l.machine [] (small_survivors h));
          reserved = λ pos. (let r = b.reserved pos in (r.0, r.1, r.2, r.3, let lt : h.since < s.leaf = r.4 in omega arith));
          full = lists_full;
          last = room_full l.machine lists (last_full l.machine lists lists_full);
        },
        let large' : units_sum l.machine (collected l.machine h).large ≤ units_sum l.machine h.large = large in
            let none : begun_in (collected l.machine h) ≡ 0 = refl in
            omega arith,
      )) (let a : in_use l ≤ s.chunks = B.within in omega arith)

  -- a sweep
  sweep_booked : (l : Ledger) (t : ℕ) → SoundLedger l → BookedLedger p s l → waiting l.machine.tasks t ≡ true → BookedLedger p s (with_heap l t swept_heap)
  sweep_booked l t S B w = set_booked l t 0 swept_heap B (λ h e b.
      let lists : List (List Name) = map (in_snapshot h) h.chunks in
      let long : length lists ≡ length h.chunks = length-map h.chunks (in_snapshot h) in
      let less = nonempty_length lists in
      let large : units_sum l.machine (in_snapshot h h.large) ≤ units_sum l.machine h.large = kept_weight (λ n. units (words_at l.machine n)) _ h.large in (
        record {
          begun = λ c q. absurd (both_ways (waiting l.machine.tasks t) (not_waiting l S t (S.running t (ap collecting e ∙ ap is_some q))) w);
          room = room_by h b (is_last_empty (map (in_snapshot h) h.chunks)) refl;
          reserved = b.reserved;
          full = swept_full l.machine h h.chunks b.full;
          last = last_by h b (is_last_empty (map (in_snapshot h) h.chunks)) refl;
        },
        omega arith,
      )) (let a : in_use l ≤ s.chunks = B.within in omega arith)
    where
      last_by : (h : Heap) → Booked p s l.machine t h → (v : Bool) → is_last_empty (map (in_snapshot h) h.chunks) ≡ v → last_words l.machine (without_empty (map (in_snapshot h) h.chunks)) + cond v 0 h.room ≤ chunk_words
      last_by h b true is = let a = last_full l.machine (without_empty (map (in_snapshot h) h.chunks)) (swept_full l.machine h h.chunks b.full) in omega arith
      last_by h b false is = let a = swept_last l.machine h last_some h.chunks is in let c = b.last in omega arith

      room_by : (h : Heap) → Booked p s l.machine t h → (v : Bool) → is_last_empty (map (in_snapshot h) h.chunks) ≡ v → 0 < cond v 0 h.room → 0 < length (without_empty (map (in_snapshot h) h.chunks))
      room_by h b true is pos = absurd (omega arith)
      room_by h b false is pos = last_some (map (in_snapshot h) h.chunks) is (let a = b.room pos in let c = length-map h.chunks (in_snapshot h) in omega arith)

  kind_booked : (l : Ledger) (w : ℕ) (kind : Kind) → SoundLedger l → StockedLedger l → BookedLedger p s l → is_none (refusal p s l (record { worker = w; kind = kind })) ≡ true → BookedLedger p s (after_kind p s l w kind)
  kind_booked l w (Took t) S I B h = plain_booked l t _ B (λ g b. record { begun = b.begun; room = b.room; reserved = b.reserved; full = b.full; last = b.last }) (λ g. refl)
  kind_booked l w (Ran t k) S I B h =
      let r = (entry_tells p s l (record { worker = w; kind = Ran t k }) h).2 in
      task_steps_booked p s k l t (S, (out_tells l w t _ r).1) I B (ran_tells p s l w t k h).1
  kind_booked l w (Chunk t) S I B h =
      let r = (entry_tells p s l (record { worker = w; kind = Chunk t }) h).2 in
      let o = out_tells l w t _ r in
      let d = none_where (is_due s p l t) _ _ o.2 in
      let n = none_unless (is_in_need p l t) _ _ d.1 in
      chunk_booked l t o.1 d.0 n.0 (nat_lt s.chunks (in_use l + chunk_units (asked p l.machine t))) (record l { end = Some (Pool (in_use l)) }) (record { each = B.each; within = B.within }) B refl
  kind_booked l w (Begin t) S I B h =
      let r = (entry_tells p s l (record { worker = w; kind = Begin t }) h).2 in
      let o = out_tells l w t _ r in
      let d = none_unless (is_due s p l t) _ _ o.2 in
      let n = none_unless (is_pool_enough s l t) _ _ d.1 in
      begin_booked l t _ (λ g. refl) B o.1 (due_since l t d.0) (leb-true (in_use l + take_of l.machine (heap_of l t)) s.chunks n.0)
  kind_booked l w (EndOf t a g n) S I B h =
      let r = (entry_tells p s l (record { worker = w; kind = EndOf t a g n }) h).2 in
      let o = none_unless (is_out l w t) _ _ r in
      end_booked l t B (none_unless (is_some (heap_of l t).begun) _ _ o.1).0
  kind_booked l w (PutOff t) S I B h =
      plain_booked l t _ B (λ g b. record { begun = b.begun; room = b.room; reserved = λ pos. (let q = b.reserved pos in (q.0, q.1, q.2, q.3, let lt : g.since < s.leaf = q.4 in omega arith)); full = b.full; last = b.last }) (λ g. refl)
  kind_booked l w (Mark t) S I B h = plain_booked l t _ B (λ g b. record { begun = b.begun; room = b.room; reserved = b.reserved; full = b.full; last = b.last }) (λ g. refl)
  kind_booked l w (More t n) S I B h = plain_booked l t _ B (λ g b. record { begun = b.begun; room = b.room; reserved = b.reserved; full = b.full; last = b.last }) (λ g. refl)
  kind_booked l w (Sweep t g) S I B h =
      let r = (entry_tells p s l (record { worker = w; kind = Sweep t g }) h).2 in
      sweep_booked l t S B (wait_tells l t _ r).0
  kind_booked l w Fuel S I B h = record { each = B.each; within = B.within }

  journal_booked : (journal : List EntryValue) (l : Ledger) → SoundLedger l → StockedLedger l → BookedLedger p s l → is_legal_from p s l journal ≡ true → BookedLedger p s (after_all p s l journal)
  journal_booked [] l S I B h = B
  journal_booked (e ∷ es) l S I B h =
      let both = and_parts (is_none (refusal p s l e)) (is_legal_from p s (after p s l e) es) h in
      journal_booked es (after p s l e) (entry_sound p s l e S both.0) (kind_stocked p s l e.worker e.kind S (entry_tells p s l e both.0).2 I) (kind_booked l e.worker e.kind S I B both.0) both.1

  opening_booked : BookedLedger p s (opening p s)
  opening_booked = record { each = first; within = omega arith }
    where
      first : (u : ℕ) (h : Heap) → slice_get (fresh ∷ []) u ≡ Some h → Booked p s (opening p s).machine u h
      first zero h e = subst (Booked p s (opening p s).machine 0) (same_Some fresh h e) (record { begun = λ c q. no_begun fresh c refl q; room = λ pos. absurd (omega arith); reserved = λ pos. absurd (omega arith); full = λ ns i. absurd i; last = omega arith })
      first (suc u) h e = absurd cc

  pub legal_booked : (journal : List EntryValue) → is_legal p s journal ≡ true → BookedLedger p s (ledger_of p s journal)
  legal_booked journal legal = journal_booked journal (opening p s) (opening_sound p s) (opening_stocked p s) opening_booked legal

-- the words of all heaps
all_words : (m : MachineState) (heaps : List Heap) → ((u : ℕ) (h : Heap) → slice_get heaps u ≡ Some h → words_in m h ≤ chunk_words * units_in m h) → total (words_in m) heaps ≤ chunk_words * total (units_in m) heaps
all_words m [] each = omega arith
all_words m (h ∷ heaps) each =
    let a = sum_by-cons (words_in m) h heaps in
    let b = sum_by-cons (units_in m) h heaps in
    let c = each zero h refl in
    let d = all_words m heaps (λ u k e. each (suc u) k e) in
    omega arith

pub heaps_fit : HeapsFit
heaps_fit p s journal legal =
    let l : Ledger = ledger_of p s journal in
    let B = legal_booked p s journal legal in
    record {
      heaps = λ t. fits_by l t B (heap_at l t) refl;
      words = subst (λ w. w ≤ chunk_words * in_use l) (sym (sum_flat (words_at l.machine) held_in l.heaps)) (all_words l.machine l.heaps (λ u h e. let a = heap_words l.machine h (B.each u h e).full in omega arith));
    }
  where
    fits_by : (l : Ledger) (t : ℕ) → BookedLedger p s l → (o : Option Heap) → heap_at l t ≡ o → FitsInChunks l.machine (or_fresh o)
    fits_by l t B None e = record { each = λ ns c. absurd (in_from_contains [] ns c); last = omega arith }
    fits_by l t B (Some h) e = let b = B.each t h e in record { each = λ ns c. b.full ns (in_from_contains h.chunks ns c); last = b.last }

-- the most chunks in use
peak_bounded : (p : ProgramText) (s : SettingsValue) (journal : List EntryValue) (l : Ledger) → SoundLedger l → StockedLedger l → BookedLedger p s l → is_legal_from p s l journal ≡ true → peak_from p s l journal ≤ s.chunks
peak_bounded p s [] l S I B h = omega arith
peak_bounded p s (e ∷ es) l S I B h =
    let both = and_parts (is_none (refusal p s l e)) (is_legal_from p s (after p s l e) es) h in
    let B' = kind_booked p s l e.worker e.kind S I B both.0 in
    let now : in_use (after p s l e) ≤ s.chunks = B'.within in
    let later = peak_bounded p s es (after p s l e) (entry_sound p s l e S both.0) (kind_stocked p s l e.worker e.kind S (entry_tells p s l e both.0).2 I) B' both.1 in
    omega arith

pub use_is_bounded : UseIsBounded
use_is_bounded p s journal legal = record {
  now = (legal_booked p s journal legal).within;
  peak = peak_bounded p s journal (opening p s) (opening_sound p s) (opening_stocked p s) (opening_booked p s) legal;
}

-- an entry that isn't refused after a legal journal
legal_entry : (p : ProgramText) (s : SettingsValue) (before : List EntryValue) (e : EntryValue) (rest : List EntryValue) → is_legal p s (before ++ e ∷ rest) ≡ true → (is_legal p s before ≡ true) × (is_none (refusal p s (ledger_of p s before) e) ≡ true)
legal_entry p s before e rest legal =
    let c = cut_legal p s before (e ∷ rest) (opening p s) legal in
    (c.0, (and_parts (is_none (refusal p s (ledger_of p s before) e)) (is_legal_from p s (after p s (ledger_of p s before) e) rest) c.1).0)

heap_changed : (l : Ledger) (t : ℕ) (f : Heap → Heap) (h : Heap) → slice_get l.heaps t ≡ Some h → heap_of (with_heap l t f) t ≡ f h
heap_changed l t f h e = ap (λ (k : Ledger). heap_of k t) (ap (with_heap_at l t f) e) ∙ ap or_fresh (got_same l.heaps t h (f h) e)

each_named : (m : MachineState) (lists : List (List Name)) → HaveNames m lists → EachHasName lists
each_named m lists H ns c = H ns (in_from_contains lists ns c)

heap_from_begun : (l : Ledger) (t : ℕ) → is_some (heap_of l t).begun ≡ true → (h : Heap) × (slice_get l.heaps t ≡ Some h)
heap_from_begun l t e = heap_from_begun_by_cases (heap_at l t) refl e
  where
    heap_from_begun_by_cases : (o : Option Heap) → heap_at l t ≡ o → is_some (or_fresh o).begun ≡ true → (h : Heap) × (slice_get l.heaps t ≡ Some h)
    heap_from_begun_by_cases None is q = absurd (false≢true q)
    heap_from_begun_by_cases (Some h) is q = (h, is)

pub leaf_collections_are_bounded : LeafCollectionsAreBounded
leaf_collections_are_bounded p s before rest w t taken given left legal =
    let e : EntryValue = record { worker = w; kind = EndOf t taken given left } in
    let l : Ledger = ledger_of p s before in
    let q = legal_entry p s before e rest legal in
    let r = (entry_tells p s l e q.1).2 in
    let going = (none_unless (is_some (heap_of l t).begun) _ _ (none_unless (is_out l w t) _ _ r).1).0 in
    let h = heap_from_begun l t going in
    let B = (legal_booked p s before q.0).each t h.0 h.1 in
    let at : heap_of l t ≡ h.0 = ap or_fresh h.1 in
    let c = some_begun p s h.0 (subst (λ (g : Heap). is_some g.begun ≡ true) at going) in
    let now : heap_of (after p s l e) t ≡ collected l.machine h.0 = heap_changed l t (collected l.machine) h.0 h.1 in
    let took : begun_in h.0 ≡ take_of l.machine h.0 = begun_is p s h.0 c.0 c.1 ∙ (B.begun c.0 c.1).0 in
    record {
      took = ap begun_in at ∙ (took ∙ ap (take_of l.machine) (sym at));
      most = subst (λ (g : Heap). length g.chunks ≤ take_of l.machine (heap_of l t)) (sym now) (subst (λ (g : Heap). length (collected l.machine h.0).chunks ≤ take_of l.machine g) (sym at) (collected_bound l.machine h.0));
      each = subst (λ (g : Heap). EachHasName g.chunks) (sym now) (each_named l.machine (laid_onto l.machine [] (small_survivors h.0)) (onto_names l.machine (small_survivors h.0) [] (λ ns i. absurd i)));
      reserved = ap (λ (g : Heap). g.reserved) now ∙ (B.begun c.0 c.1).1;
    }

-- a waiting task has no reserved chunk
none_reserved : (p : ProgramText) (s : SettingsValue) (l : Ledger) (t : ℕ) (h : Heap) → waiting l.machine.tasks t ≡ true → Booked p s l.machine t h → h.reserved ≡ 0
none_reserved p s l t h w b = elim (cases_lt 0 h.reserved) [
  | inl pos ↦ let q = b.reserved pos in absurd (wait_run l.machine t w (asked_runs p l.machine t q.0 q.1))
  | inr le ↦ omega arith
]

swept_by : (p : ProgramText) (s : SettingsValue) (l : Ledger) (t : ℕ) → waiting l.machine.tasks t ≡ true → BookedLedger p s l → (o : Option Heap) → heap_at l t ≡ o → SweptWithin (with_heap l t swept_heap) t
swept_by p s l t w B None e =
    let now : heap_of (with_heap l t swept_heap) t ≡ fresh = ap (λ (k : Ledger). heap_of k t) (ap (with_heap_at l t swept_heap) e) ∙ ap or_fresh e in
    record {
      each = subst (λ (g : Heap). EachHasName g.chunks) (sym now) (each_named l.machine [] (λ ns i. absurd i));
      reserved = ap (λ (g : Heap). g.reserved) now;
    }
swept_by p s l t w B (Some h) e =
    let now : heap_of (with_heap l t swept_heap) t ≡ swept_heap h = heap_changed l t swept_heap h e in
    record {
      each = subst (λ (g : Heap). EachHasName g.chunks) (sym now) (each_named l.machine (without_empty (map (in_snapshot h) h.chunks)) (nonempty_names l.machine (map (in_snapshot h) h.chunks)));
      reserved = ap (λ (g : Heap). g.reserved) now ∙ none_reserved p s l t h w (B.each t h e);
    }

pub sweeps_are_bounded : SweepsAreBounded
sweeps_are_bounded p s before rest w t given legal =
    let e : EntryValue = record { worker = w; kind = Sweep t given } in
    let l : Ledger = ledger_of p s before in
    let q = legal_entry p s before e rest legal in
    let r = (entry_tells p s l e q.1).2 in
    let waits = (wait_tells l t _ r).0 in
    let B = legal_booked p s before q.0 in
    swept_by p s l t waits B (heap_at l t) refl
