-- An entry is made: the shared value after it.
use Rattle.core_invariant.proofs.Common.{◌≡◌, ◌⊎◌, ℕ, ◌<◌, Option, Some, None, List, length, length-set, slice_get, slice_set, is_none, inl, inr, refl, ap, sym, subst, ◌∙◌, option_flatten, cases_eq, same_Some, got_other, got_set, none_of, none_some, IsProgram, Done, Trapped, Entangled, EntryValue, AreSettings, SettingsValue, field_limit, Ledger, RunEnd, heap_of, let_go, or_fresh, after, Fuel, Machine, Pool, is_legal, ledger_of, entry_tells, legal_then, PoolValue, Rests, rested, with_off, rested_worker, StandsForAll, by_end, WorkerFits, Private, ParkedTask, SharedValue, accounts, rest_at, tree_counts_of, value_of, AreMeasured, IsMeasured, IsFree, KeepsUnits, RestsAreMeasured, HeapForm, IsSharedValue, WorkerPartFits, part_of, Enters, refused}
use Rattle.core_invariant.proofs.JournalGoesOn.{accounts_then}
use Rattle.core_invariant.proofs.BeforeTheEnd.{end_now, stands_now}
use Rattle.core_invariant.proofs.UnitsMeasured.{measured_kept}

-- after the run's end every entry is refused with the cause `over`
pub entry_on : (w : SharedValue) (e : EntryValue) → refused w e ≡ None → (accounts w).end ≡ None
entry_on w e free = none_of (accounts w).end (entry_tells w.program w.settings (accounts w) e (ap is_none free)).0

-- the worker of a heap after the root is returned held it before
held_rested : (l : Ledger) (t u : ℕ) → (heap_of (rested l 0) t).worker ≡ Some u → (heap_of l t).worker ≡ Some u
held_rested l t u e = elim (cases_eq t 0) [
  | inl q ↦ none_some (sym (ap (λ z. (heap_of (rested l 0) z).worker) q ∙ rested_worker l 0) ∙ e)
  | inr ne ↦ sym (ap (λ o. (or_fresh o).worker) (with_off l 0 t let_go ne)) ∙ e
]

pub worker_by_end : (l : Ledger) (o : Option RunEnd) (t u : ℕ) → (heap_of (by_end l o) t).worker ≡ Some u → (heap_of l t).worker ≡ Some u
worker_by_end l None t u e = e
worker_by_end l (Some (Fuel n)) t u e = e
worker_by_end l (Some (Pool n)) t u e = e
worker_by_end l (Some (Machine Done)) t u e = held_rested l t u e
worker_by_end l (Some (Machine (Trapped kind a line))) t u e = e
worker_by_end l (Some (Machine (Entangled a b))) t u e = e

-- two workers hold two tasks
pub tasks_apart : (w : SharedValue) (k u : ℕ) (p q : Private) → WorkerPartFits w k p → WorkerPartFits w u q → (u ≡ k → ⊥) → p.task ≡ q.task → ⊥
tasks_apart w k u p q F G ne e = ne (same_Some u k (sym G.out ∙ (ap (λ t. (heap_of (accounts w) t).worker) (sym e) ∙ F.out)))

-- a worker that holds a part holds its task
pub task_is_out : (w : SharedValue) (k : ℕ) (p : Private) → IsSharedValue w → (accounts w).end ≡ None → WorkerPartFits w k p → option_flatten (slice_get w.tasks_out k) ≡ Some p.task
task_is_out w k p I on F = ((stands_now w I on).tree_counts.task_out k p.task).1 F.out

-- no task at rest is held by a worker, and one that no worker holds is at rest
pub free_at_rest : (w : SharedValue) (u : ℕ) → IsSharedValue w → (accounts w).end ≡ None → Rests (accounts w) u → IsFree w.tasks_out u
free_at_rest w u I on rests j h =
    let a : (heap_of (accounts w) u).worker ≡ None = rests in
    let b : (heap_of (accounts w) u).worker ≡ Some j = ((stands_now w I on).tree_counts.task_out j u).0 h in
    absurd cc

pub free_rests : (w : SharedValue) (u : ℕ) → IsSharedValue w → (accounts w).end ≡ None → IsFree w.tasks_out u → Rests (accounts w) u
free_rests w u I on none = free_rests_by_cases (heap_of (accounts w) u).worker refl
  where
    free_rests_by_cases : (o : Option ℕ) → (heap_of (accounts w) u).worker ≡ o → Rests (accounts w) u
    free_rests_by_cases None e = e
    free_rests_by_cases (Some j) e = absurd (none j (((stands_now w I on).tree_counts.task_out j u).1 e))

-- a task that no worker holds after one worker's task has changed, no worker held before
pub free_before : (tasks_out : List (Option ℕ)) (k : ℕ) (x : Option ℕ) (u : ℕ) → IsFree (slice_set tasks_out k x) u → (option_flatten (slice_get tasks_out k) ≡ Some u → ⊥) → IsFree tasks_out u
free_before tasks_out k x u none other j e = elim (cases_eq j k) [
  | inl q ↦ other (ap (λ z. option_flatten (slice_get tasks_out z)) (sym q) ∙ e)
  | inr ne ↦ none j (ap option_flatten (got_other tasks_out k j x ne) ∙ e)
]

-- THE FORM OF A VALUE: as many slots and sets as nodes, as many workers, and each heap that rests is well formed and
-- measured
pub record HasForm (w w' : SharedValue) : Type 0 where
  pub made : length w'.rests ≡ length w'.tree
  pub noted : length w'.sets ≡ length w'.tree
  pub workers : length w'.tasks_out ≡ length w.tasks_out
  pub limit : w'.pool.limit ≡ w.pool.limit
  pub heaps : (t : ℕ) (r : ParkedTask) → rest_at w'.rests t ≡ Some r → HeapForm r.heap
  pub measured : RestsAreMeasured w'.pool w'.rests w'.tasks_out

-- the values agree on the tasks
abbrev pub HasSameTasks : SharedValue → SharedValue → Type 0
HasSameTasks w w' = w' ≡ record w' { tree = w.tree; rests = w.rests; sets = w.sets; tasks_out = w.tasks_out }

pub same_form : {w w' : SharedValue} → IsSharedValue w → HasSameTasks w w' → w'.pool.limit ≡ w.pool.limit → ((t : ℕ) → KeepsUnits w.pool w'.pool t) → HasForm w w'
same_form {w} {w'} I same limit keeps = subst (HasForm w) (sym same) (record { made = I.made; noted = I.noted; workers = refl; limit = limit; heaps = I.heaps; measured = λ t r i f. measured_kept w.pool w'.pool t r.heap.chunks (keeps t) (I.measured t r i f) })

-- THE PARKED STATE OF A TASK STAYS: no worker held the task before if none does now, and its chunks are unchanged
pub record RestStays (w w' : SharedValue) (u : ℕ) : Type 0 where
  pub rest : rest_at w'.rests u ≡ rest_at w.rests u
  pub keeps : KeepsUnits w.pool w'.pool u
  pub free : IsFree w'.tasks_out u → IsFree w.tasks_out u

-- or it is well formed and measured
abbrev pub IsWell : PoolValue → ℕ → ParkedTask → Type 0
IsWell pool u r = HeapForm r.heap × AreMeasured pool u r.heap.chunks

abbrev pub RestIsWell : SharedValue → ℕ → Type 0
RestIsWell w' u = (r : ParkedTask) → rest_at w'.rests u ≡ Some r → IsWell w'.pool u r

pub well_at : (w' : SharedValue) (u t : ℕ) (s : ParkedTask) → u ≡ t → rest_at w'.rests t ≡ Some s → IsWell w'.pool t s → RestIsWell w' u
well_at w' u t s q there well r is = subst (λ z. IsWell w'.pool z r) (sym q) (subst (IsWell w'.pool t) (same_Some s r (sym there ∙ (ap (rest_at w'.rests) (sym q) ∙ is))) well)

pub none_at : (w' : SharedValue) (u t : ℕ) → u ≡ t → rest_at w'.rests t ≡ None → RestIsWell w' u
none_at w' u t q there r is = none_some (sym there ∙ (ap (rest_at w'.rests) (sym q) ∙ is))

pub each_form : {w w' : SharedValue} → IsSharedValue w → ((u : ℕ) → RestIsWell w' u ⊎ RestStays w w' u) → length w'.rests ≡ length w'.tree → length w'.sets ≡ length w'.tree → length w'.tasks_out ≡ length w.tasks_out → w'.pool.limit ≡ w.pool.limit → HasForm w w'
each_form {w} {w'} I each made noted workers limit = record {
  made = made;
  noted = noted;
  workers = workers;
  limit = limit;
  heaps = λ u r is. elim (each u) [
    | inl well ↦ (well r is).0
    | inr S ↦ I.heaps u r (sym S.rest ∙ is)
  ];
  measured = λ u r is f. elim (each u) [
    | inl well ↦ (well r is).1
    | inr S ↦ measured_kept w.pool w'.pool u r.heap.chunks S.keeps (I.measured u r (sym S.rest ∙ is) (S.free f))
  ];
}

-- ONE TASK'S PARKED STATE CHANGES: s is at t
pub record ChangesRest (w w' : SharedValue) (t : ℕ) (s : Option ParkedTask) : Type 0 where
  pub rests : w'.rests ≡ slice_set w.rests t s
  pub there : t < length w.rests
  pub keeps : (u : ℕ) → (u ≡ t → ⊥) → KeepsUnits w.pool w'.pool u
  pub free : (u : ℕ) → (u ≡ t → ⊥) → IsFree w'.tasks_out u → IsFree w.tasks_out u

module _ {w w' : SharedValue} {t : ℕ} {s : Option ParkedTask} (I : IsSharedValue w) (C : ChangesRest w w' t s) where
  pub rest_then : rest_at w'.rests t ≡ s
  rest_then = ap (λ rs. rest_at rs t) C.rests ∙ ap option_flatten (got_set w.rests t s C.there)

  pub rest_off : (u : ℕ) → (u ≡ t → ⊥) → rest_at w'.rests u ≡ rest_at w.rests u
  rest_off u ne = ap (λ rs. rest_at rs u) C.rests ∙ ap option_flatten (got_other w.rests t u s ne)

  pub changed_form : ((r : ParkedTask) → s ≡ Some r → IsWell w'.pool t r) → length w'.tree ≡ length w.tree → length w'.sets ≡ length w.sets → length w'.tasks_out ≡ length w.tasks_out → w'.pool.limit ≡ w.pool.limit → HasForm w w'
  changed_form well tree sets workers limit =
      each_form I (λ u. elim (cases_eq u t) [
        | inl q ↦ inl (λ r is. let there : rest_at w'.rests t ≡ Some r = ap (rest_at w'.rests) (sym q) ∙ is in subst (λ z. IsWell w'.pool z r) (sym q) (well r (sym rest_then ∙ there)))
        | inr ne ↦ inr (record { rest = rest_off u ne; keeps = C.keeps u ne; free = C.free u ne })
      ]) (ap length C.rests ∙ (length-set w.rests t s ∙ (I.made ∙ sym tree))) (sets ∙ (I.noted ∙ sym tree)) workers limit

-- the part goes on as another one, of the same task and with the same limits
abbrev pub GoesOnAs : Private → Private → Type 0
GoesOnAs p q = q ≡ record q { task = p.task; leaf_limit = p.leaf_limit; field_limit = p.field_limit }

-- THE ENTRY IS MADE: it isn't refused, and the journal of the value w' contains it
module _ {w w' : SharedValue} {e : EntryValue} (I : IsSharedValue w) (free : refused w e ≡ None) (N : Enters w w' e) where
  pub accounts_are : accounts w' ≡ after w.program w.settings (accounts w) e
  accounts_are =
      ap (λ p. ledger_of p w'.settings w'.journal.items) N.program
      ∙ (ap (λ s. ledger_of w.program s w'.journal.items) N.settings ∙ (ap (ledger_of w.program w.settings) N.journal ∙ accounts_then w.program w.settings w.journal.items e))

  pub entered_world : HasForm w w' → StandsForAll (value_of w') (tree_counts_of w') (after w.program w.settings (accounts w) e) → IsSharedValue w'
  entered_world H stands = record {
    settings = subst AreSettings (sym N.settings) I.settings;
    form = subst IsProgram (sym N.program) I.form;
    legal = ap (λ p. is_legal p w'.settings w'.journal.items) N.program
        ∙ (ap (λ s. is_legal w.program s w'.journal.items) N.settings ∙ (ap (is_legal w.program w.settings) N.journal ∙ legal_then w.program w.settings w.journal.items e I.legal free));
    made = H.made;
    noted = H.noted;
    workers = H.workers ∙ (I.workers ∙ ap (λ (s : SettingsValue). s.workers) (sym N.settings));
    limit = H.limit ∙ (I.limit ∙ ap (λ (s : SettingsValue). s.chunks) (sym N.settings));
    stands = subst (StandsForAll (value_of w') (tree_counts_of w')) (sym accounts_are) stands;
    heaps = H.heaps;
    measured = H.measured;
  }

  module _ (I' : IsSharedValue w') where
    -- the run goes on if it did
    pub still_goes : (accounts w).end ≡ None → w'.end ≡ w.end → (accounts w').end ≡ None
    still_goes on same = sym (end_now w' I') ∙ (same ∙ (end_now w I ∙ on))

    -- a worker holds the task that is out with it
    pub worker_when_out : (u t : ℕ) → option_flatten (slice_get w'.tasks_out u) ≡ Some t → (heap_of (accounts w') t).worker ≡ Some u
    worker_when_out u t q = worker_by_end (accounts w') (accounts w').end t u ((I'.stands.tree_counts.task_out u t).0 q)

    -- what a worker goes on with fits if it fits the accounts afterwards
    pub fits_then : (u : ℕ) (q : Private) → (heap_of (accounts w') q.task).worker ≡ Some u → q.leaf_limit ≡ w.settings.leaf → q.field_limit ≡ field_limit w.settings.version → HeapForm q.heap → IsMeasured w'.pool q
        → WorkerFits w.program w.settings (part_of w.settings q) (value_of w') (after w.program w.settings (accounts w) e) → WorkerPartFits w' u q
    fits_then u q out el ef form measured fits = record {
      out = out;
      fits = subst (λ p. WorkerFits p w'.settings (part_of w'.settings q) (value_of w') (accounts w')) (sym N.program)
          (subst (λ s. WorkerFits w.program s (part_of s q) (value_of w') (accounts w')) (sym N.settings) (subst (WorkerFits w.program w.settings (part_of w.settings q) (value_of w')) (sym accounts_are) fits));
      form = form;
      measured = measured;
      leaf_limit = el ∙ ap (λ (s : SettingsValue). s.leaf) (sym N.settings);
      field_limit = ef ∙ ap (λ (s : SettingsValue). field_limit s.version) (sym N.settings);
    }

    -- a part of a worker that goes on fits if its belongings do
    pub part_fits : (u : ℕ) (p q : Private) → option_flatten (slice_get w'.tasks_out u) ≡ option_flatten (slice_get w.tasks_out u) → WorkerPartFits w u p → GoesOnAs p q → HeapForm q.heap → IsMeasured w'.pool q
        → WorkerFits w.program w.settings (part_of w.settings q) (value_of w') (after w.program w.settings (accounts w) e) → WorkerPartFits w' u q
    part_fits u p q same F on_as form measured fits =
        fits_then u q
        (ap (λ (z : Private). (heap_of (accounts w') z.task).worker) on_as ∙ worker_when_out u p.task (same ∙ ((stands_now w I (entry_on w e free)).tree_counts.task_out u p.task).1 F.out))
        (ap (λ (z : Private). z.leaf_limit) on_as ∙ F.leaf_limit) (ap (λ (z : Private). z.field_limit) on_as ∙ F.field_limit) form measured fits
