-- What an entry leaves unchanged that moves no object and keeps each task with its worker.
use Rattle.refinement_laws.proofs.Common.{◌≡◌, ◌⊎◌, ◌+◌, ◌++◌, ◌∷◌, [], ℕ, Bool, true, false, cond, Option, Some, nat_lt, slice_get, inl, inr, refl, ap, sym, ◌∙◌, both_ways, cases_eq, ProgramText, SettingsValue, Kind, Took, Ran, Chunk, Begin, End as EndOf, PutOff, Mark, More, Sweep, Fuel, asked, is_waiting, Heap, Ledger, Pool, chunk_words, is_small_size, in_use, heap_of, or_fresh, with_heap, on_asked, after_kind, chunk_units, with_chunk, kind_refusal, wait_tells, heap_view, is_none, SameTasks, with_off, same_tasks, IsQuiet, IsMarked, IsBy}
use Rattle.refinement_laws.proofs.whole.Counts.{chunk_worker, chunk_snapshot}

module _ (p : ProgramText) (s : SettingsValue) (l : Ledger) where
  -- what a quiet entry leaves unchanged
  abbrev pub NonMovingEntries : Ledger → Type 0
  NonMovingEntries l' = SameTasks l l' × ((u : ℕ) → (heap_of l' u).swept ≡ (heap_of l u).swept)

  quiet_heap : (t : ℕ) (f : Heap → Heap) → ((h : Heap) → (f h).worker ≡ h.worker) → ((h : Heap) → (f h).snapshot ≡ h.snapshot) → ((h : Heap) → (f h).swept ≡ h.swept) → NonMovingEntries (with_heap l t f)
  quiet_heap t f w n q = (same_tasks l t f w n, heap_view (λ h. h.swept) l t f q)

  chunk_swept : (o : Option ℕ) (h : Heap) → (with_chunk o h).swept ≡ h.swept
  chunk_swept o h = chunk_swept_by_cases (on_asked o is_small_size)
    where
      chunk_swept_by_cases : (b : Bool) → (cond b (record h { chunks = h.chunks ++ [] ∷ []; room = chunk_words }) (record h { reserved = chunk_units o })).swept ≡ h.swept
      chunk_swept_by_cases true = refl
      chunk_swept_by_cases false = refl

  quiet_end : (k : Ledger) → k.machine ≡ l.machine → k.heaps ≡ l.heaps → NonMovingEntries k
  quiet_end k m h = (
    record { machine = m; worker = λ u. ap (λ hs. (or_fresh (slice_get hs u)).worker) h; snapshot = λ u. ap (λ hs. (or_fresh (slice_get hs u)).snapshot) h },
    λ u. ap (λ hs. (or_fresh (slice_get hs u)).swept) h,
  )

  pub quiet_by : (w : ℕ) (kind : Kind) → IsQuiet kind → NonMovingEntries (after_kind p s l w kind)
  quiet_by w (Took t) q = absurd q
  quiet_by w (Ran t k) q = absurd q
  quiet_by w (Chunk t) q = quiet_by_cases (nat_lt s.chunks (in_use l + chunk_units (asked p l.machine t)))
    where
      quiet_by_cases : (b : Bool) → NonMovingEntries (cond b (record l { end = Some (Pool (in_use l)) }) (with_heap l t (with_chunk (asked p l.machine t))))
      quiet_by_cases true = quiet_end (record l { end = Some (Pool (in_use l)) }) refl refl
      quiet_by_cases false = quiet_heap t (with_chunk (asked p l.machine t)) (chunk_worker (asked p l.machine t)) (chunk_snapshot (asked p l.machine t)) (chunk_swept (asked p l.machine t))
  quiet_by w (Begin t) q = quiet_heap t _ (λ h. refl) (λ h. refl) (λ h. refl)
  quiet_by w (EndOf t a g n) q = absurd q
  quiet_by w (PutOff t) q = quiet_heap t _ (λ h. refl) (λ h. refl) (λ h. refl)
  quiet_by w (Mark t) q = quiet_heap t _ (λ h. refl) (λ h. refl) (λ h. refl)
  quiet_by w (More t n) q = quiet_heap t _ (λ h. refl) (λ h. refl) (λ h. refl)
  quiet_by w (Sweep t g) q = absurd q
  quiet_by w Fuel q = quiet_end (after_kind p s l w Fuel) refl refl

  -- the account of a heap is unchanged if its task runs and isn't that of the entry
  pub quiet_off : (w u : ℕ) (kind : Kind) → IsQuiet kind → (IsBy kind u → ⊥) → is_none (kind_refusal p s l w kind) ≡ true → is_waiting (slice_get l.machine.tasks u) ≡ false → slice_get (after_kind p s l w kind).heaps u ≡ slice_get l.heaps u
  quiet_off w u (Took t) q ne h idle = absurd q
  quiet_off w u (Ran t k) q ne h idle = absurd q
  quiet_off w u (Chunk t) q ne h idle = quiet_off_by_cases (nat_lt s.chunks (in_use l + chunk_units (asked p l.machine t)))
    where
      quiet_off_by_cases : (b : Bool) → slice_get (cond b (record l { end = Some (Pool (in_use l)) }) (with_heap l t (with_chunk (asked p l.machine t)))).heaps u ≡ slice_get l.heaps u
      quiet_off_by_cases true = refl
      quiet_off_by_cases false = with_off l t u (with_chunk (asked p l.machine t)) (λ e. ne (sym e))
  quiet_off w u (Begin t) q ne h idle = with_off l t u _ (λ e. ne (sym e))
  quiet_off w u (EndOf t a g n) q ne h idle = absurd q
  quiet_off w u (PutOff t) q ne h idle = with_off l t u _ (λ e. ne (sym e))
  quiet_off w u (Mark t) q ne h idle = with_off l t u _ (λ e. both_ways (is_waiting (slice_get l.machine.tasks u)) idle (ap (λ z. is_waiting (slice_get l.machine.tasks z)) e ∙ (wait_tells l t _ h).0))
  quiet_off w u (More t n) q ne h idle = with_off l t u _ (λ e. both_ways (is_waiting (slice_get l.machine.tasks u)) idle (ap (λ z. is_waiting (slice_get l.machine.tasks z)) e ∙ (wait_tells l t _ h).0))
  quiet_off w u (Sweep t g) q ne h idle = absurd q
  quiet_off w u Fuel q ne h idle = refl

  -- a heap is marked further, or the marks of its account are unchanged
  pub marked_or : (w : ℕ) (kind : Kind) → IsQuiet kind → (u : ℕ) → IsMarked kind u ⊎ ((IsMarked kind u → ⊥) × ((heap_of (after_kind p s l w kind) u).marked ≡ (heap_of l u).marked))
  marked_or w (Took t) q u = absurd q
  marked_or w (Ran t k) q u = absurd q
  marked_or w (Chunk t) q u = inr ((λ e. e), marked_or_by_cases (nat_lt s.chunks (in_use l + chunk_units (asked p l.machine t))))
    where
      chunk_marked : (o : Option ℕ) (h : Heap) → (with_chunk o h).marked ≡ h.marked
      chunk_marked o h = chunk_marked_by_cases (on_asked o is_small_size)
        where
          chunk_marked_by_cases : (b : Bool) → (cond b (record h { chunks = h.chunks ++ [] ∷ []; room = chunk_words }) (record h { reserved = chunk_units o })).marked ≡ h.marked
          chunk_marked_by_cases true = refl
          chunk_marked_by_cases false = refl

      marked_or_by_cases : (b : Bool) → (heap_of (cond b (record l { end = Some (Pool (in_use l)) }) (with_heap l t (with_chunk (asked p l.machine t)))) u).marked ≡ (heap_of l u).marked
      marked_or_by_cases true = refl
      marked_or_by_cases false = heap_view (λ h. h.marked) l t (with_chunk (asked p l.machine t)) (chunk_marked (asked p l.machine t)) u
  marked_or w (Begin t) q u = inr ((λ e. e), heap_view (λ h. h.marked) l t _ (λ h. refl) u)
  marked_or w (EndOf t a g n) q u = absurd q
  marked_or w (PutOff t) q u = inr ((λ e. e), heap_view (λ h. h.marked) l t _ (λ h. refl) u)
  marked_or w (Mark t) q u = elim (cases_eq u t) [ inl e ↦ inl (sym e) | inr ne ↦ inr ((λ e. ne (sym e)), ap (λ o. (or_fresh o).marked) (with_off l t u _ ne)) ]
  marked_or w (More t n) q u = elim (cases_eq u t) [ inl e ↦ inl (sym e) | inr ne ↦ inr ((λ e. ne (sym e)), ap (λ o. (or_fresh o).marked) (with_off l t u _ ne)) ]
  marked_or w (Sweep t g) q u = absurd q
  marked_or w Fuel q u = inr ((λ e. e), refl)
