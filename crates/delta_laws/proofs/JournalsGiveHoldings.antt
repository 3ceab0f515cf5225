-- What the entries of a legal journal tell of heaps gives what these hold.
use Rattle.delta_laws.proofs.Common.{◌≡◌, ◌<◌, ◌≤◌, ℕ, zero, suc, ◌+◌, ◌==◌, Bool, true, false, cond, Option, Some, None, List, [], ◌∷◌, ◌++◌, length, slice_get, slice_set, replicate, nat_lt, refl, ap, sym, subst, ◌∙◌, is_some, is_none, arith, ne_eqb, append_assoc, min, option_map, unwrap_or, cond-false, false≢true, and_parts, leb-false, same_Some, got_same, none_of, ProgramText, IsProgram, MachineState, asked, is_running, Counted, rows_from, runs_are_counted, packs_are_few, waiting, Kind, Took, Ran, Chunk, Begin, End as EndOf, PutOff, Mark, More, Sweep, Fuel, EntryValue, SettingsValue, field_limit, Heap, Ledger, Pool, chunk_words, units, is_small_size, begun_in, marked_in, left_in, heap_of, or_fresh, with_heap, with_heap_at, in_use, lacks_room, collected, swept_heap, is_due, is_in_need, task_steps, on_asked, refusal, kind_refusal, after_kind, after, with_chunk, chunk_units, after_all, ledger_of, is_legal, is_legal_from, tasks_of, machine_is_run, SoundLedger, collecting, wait_run, heap_end, none_where, none_unless, out_tells, wait_tells, entry_tells, legal_sound, chunks_are_used, journals_can_be_cut, changes, stepped, moved, children, delta, units_given, news_in, news_at, news_for, news, after_run, Marking, Holding, marking_with, holding, holdings, nothing_held, changed_in, changed_at, put_births, put_made, put_moves, put_delta, with_given, with_marked, put_news, held_after, DeltasGiveHoldings}
use Rattle.delta_laws.proofs.StepsGiveHoldings.{map_set, held_there, unchanged_now, one_moved, machine_at, steps_hold}

-- ENTRIES

module _ (p : ProgramText) (s : SettingsValue) (before : List EntryValue) (legal : is_legal p s before ≡ true) (packs : IsProgram p) where
  abbrev l : Ledger
  l = ledger_of p s before

  abbrev S : SoundLedger l
  S = legal_sound p s before legal

  abbrev TellsEntry : ℕ → Kind → Type 0
  TellsEntry w kind = put_news (put_delta (holdings l) (delta p l.machine kind)) (news kind (after_kind p s l w kind)) ≡ holdings (after_kind p s l w kind)

  rows : (t j : ℕ) → length (stepped p l.machine t j).store ≡ length (stepped p l.machine t j).tasks
  rows t j =
      subst (λ (q : MachineState). length q.store ≡ length q.tasks) (sym (after_run p l.machine (Ran t j)))
      (rows_from p l.machine (replicate j t) (length (tasks_of before)) S.fork_join
      (subst (λ (q : MachineState). Counted (length (tasks_of before)) q.tasks q.store) (sym (machine_is_run p s before)) (runs_are_counted p (field_limit s.version) (tasks_of before))))

  ran_told : (w t k : ℕ) → is_running (slice_get l.machine.tasks t) ≡ true → collecting (slice_get l.heaps t) ≡ false → TellsEntry w (Ran t k)
  ran_told w t k run idle =
      let q : Ledger = task_steps p l t k in
      let whole = (steps_hold p l t (packs_are_few p packs) (S, idle) run (rows t) k).0 in
      sym (subst (λ (z : MachineState). holdings q ≡ put_moves (put_made (put_births (holdings l) (changes p l.machine t k).all) (children z (length l.machine.tasks) (length z.tasks))) (moved p z (length l.machine.tasks) t (slice_get z.tasks t)))
      (machine_at p l t (packs_are_few p packs) (S, idle) run (rows t) k) whole)

  -- a chunk is given
  given_so : (t : ℕ) (asks : Option ℕ) (h : Heap) → slice_get l.heaps t ≡ Some h → asked p l.machine t ≡ asks → is_some asks ≡ true → holding (with_chunk asks h) ≡ with_given (units_given (with_chunk asks h)) (holding h)
  given_so t None h e q some = absurd (false≢true some)
  given_so t (Some w) h e q some = given_so_by_cases (is_small_size w) refl
    where
      free : is_small_size w ≡ true → (n : ℕ) → h.reserved ≡ n → n ≡ 0
      free small zero is = refl
      free small (suc n) is =
          let at : (heap_of l t).reserved ≡ suc n = ap (λ (o : Option Heap). (or_fresh o).reserved) e ∙ is in
          let r = (chunks_are_used p s before legal).reserved t (let lt : 0 < (heap_of l t).reserved = omega arith in lt) in
          let same : r.words ≡ w = same_Some r.words w (sym r.asks ∙ q) in
          absurd (false≢true (sym r.large ∙ (ap is_small_size same ∙ small)))

      many_units : is_small_size w ≡ false → 2 ≤ units w
      many_units large = let a : chunk_words < w = leb-false w chunk_words large in omega arith

      given_so_by_cases : (v : Bool) → is_small_size w ≡ v → holding (cond v (record h { chunks = h.chunks ++ [] ∷ []; room = chunk_words }) (record h { reserved = cond v 1 (units w) }))
          ≡ with_given (units_given (cond v (record h { chunks = h.chunks ++ [] ∷ []; room = chunk_words }) (record h { reserved = cond v 1 (units w) }))) (holding h)
      given_so_by_cases true small =
          let none : h.reserved ≡ 0 = free small h.reserved refl in
          sym (ap (λ n. with_given (cond (n == 0) 1 n) (holding h)) none)
      given_so_by_cases false large =
          let two : 2 ≤ units w = many_units large in
          sym (ap (λ n. with_given n (holding h)) (cond-false (units w == 0) 1 (units w) (ne_eqb (units w) 0 (λ z. omega arith)))
          ∙ cond-false (units w == 1) (record (holding h) { chunks = h.chunks ++ [] ∷ [] }) (record (holding h) { waiting = units w }) (ne_eqb (units w) 1 (λ z. omega arith)))

  -- an entry that changes the account of one heap, and tells of it
  kind_told : (t : ℕ) (f : Heap → Heap) (kind : Kind) (tell : Heap → Holding → Holding) → ((g : Heap) (hs : List Holding) → put_news hs (news_in kind g) ≡ changed_at t (tell g) hs)
      → ((h : Heap) → slice_get l.heaps t ≡ Some h → holding (f h) ≡ tell (f h) (holding h)) → put_news (holdings l) (news_at kind (slice_get (with_heap l t f).heaps t)) ≡ holdings (with_heap l t f)
  kind_told t f kind tell tells same = kind_told_by_cases (slice_get l.heaps t) refl
    where
      kind_told_by_cases : (o : Option Heap) → slice_get l.heaps t ≡ o → put_news (holdings l) (news_at kind (slice_get (with_heap_at l t f o).heaps t)) ≡ holdings (with_heap_at l t f o)
      kind_told_by_cases None e = ap (λ o. put_news (holdings l) (news_at kind o)) e
      kind_told_by_cases (Some h) e =
          ap (λ o. put_news (holdings l) (news_at kind o)) (got_same l.heaps t h (f h) e)
          ∙ (tells (f h) (holdings l)
          ∙ (ap (changed_in t (tell (f h)) (holdings l)) (held_there l t (Some h) e)
          ∙ (ap (slice_set (holdings l) t) (sym (same h e)) ∙ sym (map_set holding l.heaps t (f h)))))

  chunk_told : (t : ℕ) (asks : Option ℕ) (full : Bool) → asked p l.machine t ≡ asks → is_some asks ≡ true → l.end ≡ None
      → let k : Ledger = cond full (record l { end = Some (Pool (in_use l)) }) (with_heap l t (with_chunk asks)) in put_news (holdings l) (news (Chunk t) k) ≡ holdings k
  chunk_told t asks true q some on = refl
  chunk_told t asks false q some on =
      ap (λ o. put_news (holdings l) (news_for (Chunk t) (with_heap l t (with_chunk asks)).heaps (cond (is_some o) None (Some t)))) (heap_end l t (with_chunk asks) ∙ on)
      ∙ kind_told t (with_chunk asks) (Chunk t) (λ z. with_given (units_given z)) (λ g hs. refl) (λ h e. given_so t asks h e q some)

  -- a task that waits isn't amid a leaf collection
  none_taken : (t : ℕ) (h : Heap) → waiting l.machine.tasks t ≡ true → slice_get l.heaps t ≡ Some h → begun_in h ≡ 0
  none_taken t h waits e = none_taken_by_cases h.begun refl
    where
      none_taken_by_cases : (o : Option ℕ) → h.begun ≡ o → begun_in h ≡ 0
      none_taken_by_cases None q = ap (λ o. unwrap_or o 0) q
      none_taken_by_cases (Some c) q = absurd (wait_run l.machine t waits (S.running t (ap collecting e ∙ ap is_some q)))

  -- a marking goes on
  more_marked : (n : ℕ) (h : Heap) (o : Option ℕ) → h.marked ≡ o → is_some h.marked ≡ true
      → let f : Heap = record h { marked = Some (marked_in h + min n (left_in h)) } in holding f ≡ with_marked (marked_in f) (holding h)
  more_marked n h None e some = absurd (false≢true (sym (ap is_some e) ∙ some))
  more_marked n h (Some k) e some =
      let f : Heap = record h { marked = Some (marked_in h + min n (left_in h)) } in
      sym (ap (λ q. record (holding f) { marking = option_map (λ (m : Marking). marking_with m.snapshot (marked_in f)) (option_map (marking_with h.snapshot) q) }) e)

  asks_some : (t : ℕ) (o : Option ℕ) → on_asked o (lacks_room (heap_of l t)) ≡ true → is_some o ≡ true
  asks_some t None h = h
  asks_some t (Some w) h = refl

  entry_told : (w : ℕ) (kind : Kind) → l.end ≡ None → is_none (kind_refusal p s l w kind) ≡ true → TellsEntry w kind
  entry_told w (Took t) on h = one_moved p (holdings l) t true (slice_get l.machine.tasks t) ∙ sym (unchanged_now l t _ (λ g. refl))
  entry_told w (Ran t k) on h = let a = out_tells l w t _ h in ran_told w t k a.0 a.1
  entry_told w (Chunk t) on h =
      let a = out_tells l w t _ h in
      let n = none_unless (is_in_need p l t) _ _ (none_where (is_due s p l t) _ _ a.2).1 in
      chunk_told t (asked p l.machine t) (nat_lt s.chunks (in_use l + chunk_units (asked p l.machine t))) refl (asks_some t (asked p l.machine t) n.0) on
  entry_told w (Begin t) on h = kind_told t _ (Begin t) (λ z x. record x { taken = begun_in z }) (λ g hs. refl) (λ g e. refl)
  entry_told w (EndOf t a g n) on h = kind_told t (collected l.machine) (EndOf t a g n) (λ z x. record x { chunks = z.chunks; large = z.large; taken = 0 }) (λ z hs. refl) (λ z e. refl)
  entry_told w (PutOff t) on h = sym (unchanged_now l t _ (λ g. refl))
  entry_told w (Mark t) on h = kind_told t _ (Mark t) (λ z x. record x { marking = Some (marking_with z.snapshot 0) }) (λ z hs. refl) (λ z e. refl)
  entry_told w (More t n) on h =
      let marks = none_unless (is_some (heap_of l t).marked) _ _ (wait_tells l t _ h).2 in
      kind_told t _ (More t n) (λ z. with_marked (marked_in z)) (λ z hs. refl)
      (λ z e. more_marked n z z.marked refl (ap (λ (o : Option Heap). is_some (or_fresh o).marked) (sym e) ∙ marks.0))
  entry_told w (Sweep t g) on h =
      let waits = (wait_tells l t _ h).0 in
      kind_told t swept_heap (Sweep t g) (λ z x. record x { chunks = z.chunks; large = z.large; taken = 0; marking = None }) (λ z hs. refl)
      (λ z e. ap (λ n. record (holding (swept_heap z)) { taken = n }) (none_taken t z waits e))
  entry_told w Fuel on h = refl

-- JOURNALS

module _ (p : ProgramText) (s : SettingsValue) (packs : IsProgram p) where
  rest_held : (rest before : List EntryValue) (hs : List Holding) → is_legal p s (before ++ rest) ≡ true → hs ≡ holdings (ledger_of p s before)
      → held_after p s (ledger_of p s before) hs rest ≡ holdings (after_all p s (ledger_of p s before) rest)
  rest_held [] before hs legal is = is
  rest_held (e ∷ es) before hs legal is =
      let l : Ledger = ledger_of p s before in
      let cut = (journals_can_be_cut p s before (e ∷ es)).legal.0 legal in
      let one = (and_parts (is_none (refusal p s l e)) (is_legal_from p s (after p s l e) es) cut.1).0 in
      let tells = entry_tells p s l e one in
      let put : List Holding = put_news (put_delta hs (delta p l.machine e.kind)) (news e.kind (after p s l e)) in
      let now : put ≡ holdings (after p s l e) =
      ap (λ xs. put_news (put_delta xs (delta p l.machine e.kind)) (news e.kind (after p s l e))) is ∙ entry_told p s before cut.0 packs e.worker e.kind (none_of l.end tells.0) tells.2 in
      let next : ledger_of p s (before ++ e ∷ []) ≡ after p s l e = (journals_can_be_cut p s before (e ∷ [])).accounts in
      let legal' : is_legal p s ((before ++ e ∷ []) ++ es) ≡ true = ap (is_legal p s) (append_assoc before (e ∷ []) es) ∙ legal in
      ap (λ (q : Ledger). held_after p s q put es) (sym next)
      ∙ (rest_held es (before ++ e ∷ []) put legal' (now ∙ ap holdings (sym next)) ∙ ap (λ (q : Ledger). holdings (after_all p s q es)) next)

pub deltas_give_holdings : DeltasGiveHoldings
deltas_give_holdings p s journal packs legal = rest_held p s packs journal [] (nothing_held ∷ []) legal refl
