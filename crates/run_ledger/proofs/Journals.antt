-- Invariants of legal journals: nothing reachable is freed.
use Rattle.run_ledger.proofs.Common.{◌≡◌, ℕ, zero, suc, ◌+◌, ◌&&◌, Bool, true, false, not, cond, Option, Some, None, List, [], ◌∷◌, ◌++◌, length, slice_get, slice_set, nat_lt, nat_le, inl, inr, refl, ap, sym, subst, ◌∙◌, is_some, is_none, cases_eq, both_ways, false≢true, and_parts, same_Some, In, in_from_contains, contains_from_in, none_of, ProgramText, Name, Task, refs_at, registers, task_names, is_running, is_waiting, is_joined, parents, joined, owner_of, is_on_path, root, start, asked, not_above, owner_not_joined, waiting, running_tells, start_is_fork_join_state, runs_is, run_names, Closed, start_disentangled, Kind, Took, Ran, Chunk, Begin, End, PutOff, Mark, More, Sweep, Fuel, EntryValue, SettingsValue, field_limit, reached_within, option_is, Heap, Ledger, Refused, Pool, held, held_in, heap_at, heap_of, or_fresh, frames_of, within, with_heap, with_heap_at, fresh, chunk_words, in_use, is_small_size, take_of, collected, swept_heap, on_asked, kind_refusal, refusal, refused_unless, refused_if, is_out, on_running, on_waiting, after_kind, after, chunk_units, is_fuel, opening, after_all, ledger_of, is_legal_from, is_legal, IsNamedByTask, Refers, KeepsReachable, NothingReachableIsFreed}
use Rattle.run_ledger.proofs.Held.{chunk_down, chunk_up, collected_down, collected_up, swept_down, swept_up}
use Rattle.run_ledger.proofs.Sound.{InHeaps, SomeHeapHas, Spares, collecting, snapshot_at, survivors_at, Sound, SoundLedger, closed_same, frozen, renewed, changed, cut, spares_kept, up_with, down, in_held, held_keeps}
use Rattle.run_ledger.proofs.Steps.{named_live, task_steps_sound}

-- a test that refuses nothing
pub none_where : (b : Bool) (c : Refused) (rest : Option Refused) → is_none (refused_if b c rest) ≡ true → (b ≡ false) × (is_none rest ≡ true)
none_where true c rest h = absurd (false≢true h)
none_where false c rest h = (refl, h)

pub none_unless : (b : Bool) (c : Refused) (rest : Option Refused) → is_none (refused_unless b c rest) ≡ true → (b ≡ true) × (is_none rest ≡ true)
none_unless true c rest h = (refl, h)
none_unless false c rest h = absurd (false≢true h)

pub collecting_is : (o : Option Heap) → is_some (or_fresh o).begun ≡ collecting o
collecting_is None = refl
collecting_is (Some h) = refl

-- a heap's account is changed, if there is one
with_heap_sound : (l : Ledger) (t : ℕ) (f : Heap → Heap) → SoundLedger l → ((h : Heap) → slice_get l.heaps t ≡ Some h → Sound l.machine.tasks l.machine.edges l.machine.store (slice_set l.heaps t (f h))) → SoundLedger (with_heap l t f)
with_heap_sound l t f S each = with_heap_sound_by_cases (heap_at l t) refl
  where
    with_heap_sound_by_cases : (o : Option Heap) → heap_at l t ≡ o → SoundLedger (with_heap_at l t f o)
    with_heap_sound_by_cases None e = S
    with_heap_sound_by_cases (Some h) e = each h e

-- changes that keep all names
plain : (l : Ledger) (t : ℕ) (f : Heap → Heap) → SoundLedger l → ((h : Heap) (n : Name) → In (held_in (f h)) n → In (held_in h) n) → ((h : Heap) (n : Name) → In (held_in h) n → In (held_in (f h)) n)
    → ((h : Heap) → (f h).begun ≡ h.begun) → ((h : Heap) → (f h).survivors ≡ h.survivors) → ((h : Heap) → (f h).snapshot ≡ h.snapshot) → SoundLedger (with_heap l t f)
plain l t f S dn up eb es en =
    with_heap_sound l t f S (λ h e. renewed l.machine.tasks l.machine.edges l.machine.store l.heaps S t h (f h) e (dn h) (up h) (eb h) (es h) (en h))

module _ (l : Ledger) (S : SoundLedger l) (t : ℕ) (run : is_running (slice_get l.machine.tasks t) ≡ true) where
  task : (o : Option Task) → slice_get l.machine.tasks t ≡ o → is_running o ≡ true → (x : Task) × (slice_get l.machine.tasks t ≡ Some x) × (is_running (Some x) ≡ true)
  task None e h = absurd (false≢true h)
  task (Some x) e h = (x, e, h)

  it : (x : Task) × (slice_get l.machine.tasks t ≡ Some x) × (is_running (Some x) ≡ true)
  it = task (slice_get l.machine.tasks t) refl run

  pub not_waiting : waiting l.machine.tasks t ≡ false
  not_waiting = ap is_waiting it.1 ∙ (running_tells (it.0).status it.2).1

  not_above_t : (u : ℕ) → joined l.machine.tasks u ≡ false → (t ≡ u → ⊥) → is_on_path l.machine.tasks t u ≡ false
  not_above_t u live ne = not_above (length l.machine.tasks) (parents l.machine.tasks) (joined l.machine.tasks) (waiting l.machine.tasks) _ l.machine.edges S.fork_join.tree t u live ne not_waiting

  regs : (u : ℕ) (z : Task) (r : Name) → slice_get l.machine.tasks u ≡ Some z → is_on_path l.machine.tasks t u ≡ true → In (task_names z) r → In (registers (frames_of (slice_get l.machine.tasks t))) r
  regs u z r e h i = elim (cases_eq u t) [
    | inl same ↦
        let x : Task = it.0 in
        let e' : z ≡ x = same_Some z x (sym e ∙ (ap (slice_get l.machine.tasks) same ∙ it.1)) in
        subst (λ o. In (registers (frames_of o)) r) (sym it.1) (run_names x r (runs_is x.status it.2) (subst (λ (w : Task). In (task_names w) r) e' i))
    | inr ne ↦ absurd (both_ways (is_on_path l.machine.tasks t u) (not_above_t u (ap is_joined e ∙ named_live z.status r z refl i) (λ e'. ne (sym e'))) h)
  ]

  alone : (n : Name) → SomeHeapHas l.heaps n → is_on_path l.machine.tasks t (owner_of l.machine.tasks n.task) ≡ true → owner_of l.machine.tasks n.task ≡ t
  alone n k h = elim (cases_eq t (owner_of l.machine.tasks n.task)) [
    | inl same ↦ sym same
    | inr ne ↦ absurd (both_ways (is_on_path l.machine.tasks t (owner_of l.machine.tasks n.task))
        (not_above_t (owner_of l.machine.tasks n.task) (owner_not_joined (length l.machine.tasks) (parents l.machine.tasks) (joined l.machine.tasks) (waiting l.machine.tasks) _ l.machine.edges S.fork_join.tree n.task) ne) h)
  ]

  pub spares_now : Spares l.machine.tasks l.machine.store l.heaps t (within l t)
  spares_now = frozen l t S.apart S.owners S.all regs alone

  -- a leaf collection begins
  pub begin_sound : (k : Heap → ℕ) → SoundLedger (with_heap l t (λ h. record h { begun = Some (k h); survivors = within l t }))
  begin_sound k = with_heap_sound l t _ S (λ h e.
      let h' : Heap = record h { begun = Some (k h); survivors = within l t } in
      let all' : Closed l.machine.tasks l.machine.store (SomeHeapHas (slice_set l.heaps t h')) =
      closed_same l.machine.tasks l.machine.store (SomeHeapHas l.heaps) (SomeHeapHas (slice_set l.heaps t h'))
      (λ n q. (q.0, up_with l.machine.tasks l.machine.edges l.machine.store l.heaps S t h h' e (λ m i. i) (λ m i. i) q.0 n q.1))
      (λ n q. (q.0, down l.machine.tasks l.machine.edges l.machine.store l.heaps S t h h' e (λ m i. i) q.0 n q.1)) S.all in
      changed l.machine.tasks l.machine.edges l.machine.store l.heaps S t h h' e (λ m i. i) all'
      (λ c. (run, spares_kept l.machine.tasks l.machine.edges l.machine.store l.heaps S t h h' e (λ m i. i) all' t (within l t) spares_now))
      (λ w. absurd (both_ways (waiting l.machine.tasks t) not_waiting w)))

  -- and ends
  pub end_sound : collecting (slice_get l.heaps t) ≡ true → SoundLedger (with_heap l t (collected l.machine))
  end_sound c = with_heap_sound l t _ S (λ h e.
      cut l.machine.tasks l.machine.edges l.machine.store l.heaps S t h (collected l.machine h) e (λ n i. (collected_down l.machine h n i).0) h.survivors
      (λ n i. (collected_down l.machine h n i).1) (collected_up l.machine h)
      (subst (λ o. Spares l.machine.tasks l.machine.store l.heaps t (survivors_at o)) e (S.collects t c))
      (λ q. false≢true q) (λ w. absurd (both_ways (waiting l.machine.tasks t) not_waiting w)))

-- a sweep
sweep_sound : (l : Ledger) → SoundLedger l → (t : ℕ) → waiting l.machine.tasks t ≡ true → SoundLedger (with_heap l t swept_heap)
sweep_sound l S t w = with_heap_sound l t _ S (λ h e.
    cut l.machine.tasks l.machine.edges l.machine.store l.heaps S t h (swept_heap h) e (λ n i. (swept_down h n i).0) h.snapshot
    (λ n i. (swept_down h n i).1) (swept_up h)
    (subst (λ o. Spares l.machine.tasks l.machine.store l.heaps t (snapshot_at o)) e (S.waits t w))
    (λ q. both_ways (waiting l.machine.tasks t) (not_waiting l S t (S.running t (ap collecting e ∙ q))) w) (λ v. refl))

chunk_sound : (p : ProgramText) (l : Ledger) (t : ℕ) → SoundLedger l → (full small : Bool) (end : Ledger) (units : ℕ) → SoundLedger end
    → SoundLedger (cond full end (with_heap l t (λ h. cond small (record h { chunks = h.chunks ++ [] ∷ []; room = chunk_words }) (record h { reserved = units }))))
chunk_sound p l t S true small end units E = E
chunk_sound p l t S false true end units E = plain l t _ S (λ h n i. chunk_down h chunk_words n i) (λ h n i. chunk_up h chunk_words n i) (λ h. refl) (λ h. refl) (λ h. refl)
chunk_sound p l t S false false end units E = plain l t _ S (λ h n i. i) (λ h n i. i) (λ h. refl) (λ h. refl) (λ h. refl)

pub out_runs : (l : Ledger) (w t : ℕ) → is_out l w t ≡ true → is_running (slice_get l.machine.tasks t) ≡ true
out_runs l w t h = (and_parts (is_running (slice_get l.machine.tasks t)) (option_is (heap_of l t).worker w) h).0

-- what an accepted entry implies about its task
pub out_tells : (l : Ledger) (w t : ℕ) (rest : Option Refused) → is_none (on_running l w t rest) ≡ true
    → (is_running (slice_get l.machine.tasks t) ≡ true) × (collecting (slice_get l.heaps t) ≡ false) × (is_none rest ≡ true)
out_tells l w t rest h =
    let a = none_unless (is_out l w t) _ _ h in
    let b = none_where (is_some (heap_of l t).begun) _ _ a.1 in
    (out_runs l w t a.0, sym (collecting_is (heap_at l t)) ∙ b.0, b.1)

pub wait_tells : (l : Ledger) (t : ℕ) (rest : Option Refused) → is_none (on_waiting l t rest) ≡ true → (waiting l.machine.tasks t ≡ true) × ((heap_of l t).swept ≡ false) × (is_none rest ≡ true)
wait_tells l t rest h =
    let a = none_unless (is_waiting (slice_get l.machine.tasks t)) _ _ h in
    let b = none_where (heap_of l t).swept _ _ a.1 in
    (a.0, b.0, b.1)

pub kind_sound : (p : ProgramText) (s : SettingsValue) (l : Ledger) (w : ℕ) (kind : Kind) → SoundLedger l → is_none (kind_refusal p s l w kind) ≡ true → SoundLedger (after_kind p s l w kind)
kind_sound p s l w (Took t) S h = plain l t _ S (λ h n i. i) (λ h n i. i) (λ h. refl) (λ h. refl) (λ h. refl)
kind_sound p s l w (Ran t k) S h = (task_steps_sound p k l t (S, (out_tells l w t _ h).1)).0
kind_sound p s l w (Chunk t) S h =
    chunk_sound p l t S (nat_lt s.chunks (in_use l + chunk_units (asked p l.machine t))) (on_asked (asked p l.machine t) is_small_size) (record l { end = Some (Pool (in_use l)) }) (chunk_units (asked p l.machine t)) S
kind_sound p s l w (Begin t) S h = begin_sound l S t (out_tells l w t _ h).0 (take_of l.machine)
kind_sound p s l w (End t x g n) S h =
    let a = none_unless (is_out l w t) _ _ h in
    let b = none_unless (is_some (heap_of l t).begun) _ _ a.1 in
    end_sound l S t (out_runs l w t a.0) (sym (collecting_is (heap_at l t)) ∙ b.0)
kind_sound p s l w (PutOff t) S h = plain l t _ S (λ h n i. i) (λ h n i. i) (λ h. refl) (λ h. refl) (λ h. refl)
kind_sound p s l w (Mark t) S h = plain l t _ S (λ h n i. i) (λ h n i. i) (λ h. refl) (λ h. refl) (λ h. refl)
kind_sound p s l w (More t n) S h = plain l t _ S (λ h n i. i) (λ h n i. i) (λ h. refl) (λ h. refl) (λ h. refl)
kind_sound p s l w (Sweep t g) S h = sweep_sound l S t (wait_tells l t _ h).0
kind_sound p s l w Fuel S h = S

-- what an accepted entry implies
pub entry_tells : (p : ProgramText) (s : SettingsValue) (l : Ledger) (e : EntryValue) → is_none (refusal p s l e) ≡ true
    → (is_some l.end ≡ false) × ((nat_le s.fuel l.steps && not (is_fuel e.kind)) ≡ false) × (is_none (kind_refusal p s l e.worker e.kind) ≡ true)
entry_tells p s l e h =
    let a = none_where (is_some l.end) _ _ h in
    let b = none_where (nat_le s.fuel l.steps && not (is_fuel e.kind)) _ _ a.1 in
    let c = none_unless (nat_lt e.worker s.workers) _ _ b.1 in
    (a.0, b.0, c.1)

-- it is made while the run goes on
pub accepted_on : (p : ProgramText) (s : SettingsValue) (l : Ledger) (e : EntryValue) → refusal p s l e ≡ None → l.end ≡ None
accepted_on p s l e accepted = none_of l.end (entry_tells p s l e (ap is_none accepted)).0

pub entry_sound : (p : ProgramText) (s : SettingsValue) (l : Ledger) (e : EntryValue) → SoundLedger l → is_none (refusal p s l e) ≡ true → SoundLedger (after p s l e)
entry_sound p s l e S h = kind_sound p s l e.worker e.kind S (entry_tells p s l e h).2

-- what each accepted entry keeps, every legal journal keeps
pub journal_keeps : (P : Ledger → Type 0) (p : ProgramText) (s : SettingsValue) → ((l : Ledger) (w : ℕ) (kind : Kind) → SoundLedger l → is_none (kind_refusal p s l w kind) ≡ true → P l → P (after_kind p s l w kind)) → (journal : List EntryValue) (l : Ledger) → SoundLedger l → P l
    → is_legal_from p s l journal ≡ true → P (after_all p s l journal)
journal_keeps P p s keeps [] l S I h = I
journal_keeps P p s keeps (e ∷ es) l S I h =
    let both = and_parts (is_none (refusal p s l e)) (is_legal_from p s (after p s l e) es) h in
    journal_keeps P p s keeps es (after p s l e) (entry_sound p s l e S both.0) (keeps l e.worker e.kind S (entry_tells p s l e both.0).2 I) both.1

pub journal_sound : (p : ProgramText) (s : SettingsValue) (journal : List EntryValue) (l : Ledger) → SoundLedger l → is_legal_from p s l journal ≡ true → SoundLedger (after_all p s l journal)
journal_sound p s [] l S h = S
journal_sound p s (e ∷ es) l S h =
    let both = and_parts (is_none (refusal p s l e)) (is_legal_from p s (after p s l e) es) h in
    journal_sound p s es (after p s l e) (entry_sound p s l e S both.0) both.1

-- at the start nothing is held
no_names : (p : ProgramText) (limit u : ℕ) (x : Task) (r : Name) → slice_get (start p limit).tasks u ≡ Some x → In (task_names x) r → ⊥
no_names p limit zero x r e h = subst (λ (w : Task). In (task_names w) r) (sym (same_Some (root p) x e)) h
no_names p limit (suc u) x r e h = absurd cc

fresh_names : (u : ℕ) (n : Name) → InHeaps (fresh ∷ []) u n → ⊥
fresh_names zero n i = i
fresh_names (suc u) n i = i

pub fresh_idle : (u : ℕ) → collecting (slice_get (fresh ∷ []) u) ≡ true → ⊥
fresh_idle zero c = false≢true c
fresh_idle (suc u) c = false≢true c

root_idle : (p : ProgramText) (limit u : ℕ) → waiting (start p limit).tasks u ≡ true → ⊥
root_idle p limit zero w = false≢true w
root_idle p limit (suc u) w = false≢true w

pub opening_sound : (p : ProgramText) (s : SettingsValue) → SoundLedger (opening p s)
opening_sound p s = record {
  fork_join = start_is_fork_join_state p (field_limit s.version);
  apart = start_disentangled p (field_limit s.version);
  lengths = refl;
  owners = λ u n i. absurd (fresh_names u n i);
  running = λ u c. absurd (fresh_idle u c);
  all = record { of_task = λ u x r e i. absurd (no_names p (field_limit s.version) u x r e i); of_object = λ n r k i. absurd (fresh_names k.0 n k.1) };
  waits = λ u w. absurd (root_idle p (field_limit s.version) u w);
  collects = λ u c. absurd (fresh_idle u c);
}

pub sound_keeps : (l : Ledger) → SoundLedger l → KeepsReachable l
sound_keeps l S = record {
  reachable = λ n w. contains_from_in (held l) n (in_held l n (reached_within (IsNamedByTask l.machine) (Refers l.machine) (SomeHeapHas l.heaps)
      (λ r i. S.all.of_task i.0 i.1 r i.2 (in_from_contains (task_names i.1) r i.3))
      (λ o r k i. S.all.of_object o r k (in_from_contains (refs_at l.machine.store o) r i)) n w));
  references = λ n r c f. contains_from_in (held l) r (in_held l r (S.all.of_object n r (held_keeps l n (in_from_contains (held l) n c)) (in_from_contains (refs_at l.machine.store n) r f)));
}

pub legal_sound : (p : ProgramText) (s : SettingsValue) (journal : List EntryValue) → is_legal p s journal ≡ true → SoundLedger (ledger_of p s journal)
legal_sound p s journal legal = journal_sound p s journal (opening p s) (opening_sound p s) legal

pub nothing_reachable_is_freed : NothingReachableIsFreed
nothing_reachable_is_freed p s journal legal = sound_keeps (ledger_of p s journal) (legal_sound p s journal legal)
