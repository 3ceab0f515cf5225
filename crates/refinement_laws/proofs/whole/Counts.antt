-- An entry without steps changes the tree and the counts as it changes the accounts.
use Rattle.refinement_laws.proofs.Common.{◌≡◌, ℕ, ◌+◌, Bool, true, false, Option, Some, None, List, [], ◌∷◌, ◌++◌, cond, slice_get, nat_lt, option_map, is_none, inl, inr, refl, ap, ap₂, sym, subst, ◌∙◌, arith, cases_eq, and_parts, ProgramText, IsProgram, SettingsValue, EntryValue, Kind, Took, Ran, Chunk, Begin, End as EndOf, PutOff, Mark, More, Sweep, Fuel, TaskStatus, Running, Waiting, Ended, Joined, MachineState, Task, asked, is_running, runs, Heap, Ledger, Pool, chunk_words, is_small_size, take_of, heap_of, heap_at, with_heap, with_heap_at, in_use, collected, swept_heap, on_asked, refusal, after, after_kind, chunk_units, with_chunk, is_ready, out_from, ledger_of, is_legal, ChunkGoes, UseGoes, none_unless, entry_tells, legal_sound, heap_of_task, entries_use, none_holding, SameTasks, WorkerTakes, same_tasks, took_takes, same_Some, ◌↔◌, none_is, TaskNode, TreeCounts, TreeCountsStand, state_by, SameCounts, TakesNode, AsksUnits, CountsGo}
use Rattle.refinement.specs.below.run_ledger.{Fuel as FuelEnd}
use Rattle.refinement_laws.proofs.whole.TasksOut.{none_held}
use Rattle.refinement.specs.below.heap_tree.{Out}

-- the node of a task by the accounts, held by this worker or by none
abbrev pub node_of : Option ℕ → Option Task → Option TaskNode
node_of w o = option_map (λ (x : Task). record { parent = x.parent; state = state_by x.status w }) o

-- the machine and the workers of tasks are unchanged
same_totals : (c c' : TreeCounts) (l l' : Ledger) → SameTasks l l' → l'.steps ≡ l.steps → SameCounts c c' → c'.used ≡ in_use l' → c'.end ≡ l'.end → TreeCountsStand c l → TreeCountsStand c' l'
same_totals c c' l l' L steps C used end T = record {
  task_out = λ w t. (λ e. L.worker t ∙ (T.task_out w t).0 (sym (C.task_out w) ∙ e), λ e. C.task_out w ∙ (T.task_out w t).1 (sym (L.worker t) ∙ e));
  node = λ t. C.node t ∙ (T.node t ∙ ap₂ (λ w (m : MachineState). node_of w (slice_get m.tasks t)) (sym (L.worker t)) (sym L.machine));
  used = used;
  steps = C.steps ∙ (T.steps ∙ sym steps);
  outputs = C.outputs ∙ (T.outputs ∙ ap (λ (m : MachineState). m.outputs) (sym L.machine));
  end = end;
}

same_itself : (l l' : Ledger) → l'.machine ≡ l.machine → l'.heaps ≡ l.heaps → SameTasks l l'
same_itself l l' m h = record {
  machine = m;
  worker = λ u. ap (λ hs. (heap_of (record l { heaps = hs }) u).worker) h;
  snapshot = λ u. ap (λ hs. (heap_of (record l { heaps = hs }) u).snapshot) h;
}

pub with_steps : (l : Ledger) (t : ℕ) (f : Heap → Heap) → ((with_heap l t f).steps ≡ l.steps) × ((with_heap l t f).end ≡ l.end)
with_steps l t f = with_steps_by_cases (heap_at l t)
  where
    with_steps_by_cases : (o : Option Heap) → ((with_heap_at l t f o).steps ≡ l.steps) × ((with_heap_at l t f o).end ≡ l.end)
    with_steps_by_cases None = (refl, refl)
    with_steps_by_cases (Some h) = (refl, refl)

pub chunk_worker : (o : Option ℕ) (h : Heap) → (with_chunk o h).worker ≡ h.worker
chunk_worker o h = chunk_worker_by_cases (on_asked o is_small_size)
  where
    chunk_worker_by_cases : (b : Bool) → (cond b (record h { chunks = h.chunks ++ [] ∷ []; room = chunk_words }) (record h { reserved = chunk_units o })).worker ≡ h.worker
    chunk_worker_by_cases true = refl
    chunk_worker_by_cases false = refl

pub chunk_snapshot : (o : Option ℕ) (h : Heap) → (with_chunk o h).snapshot ≡ h.snapshot
chunk_snapshot o h = chunk_snapshot_by_cases (on_asked o is_small_size)
  where
    chunk_snapshot_by_cases : (b : Bool) → (cond b (record h { chunks = h.chunks ++ [] ∷ []; room = chunk_words }) (record h { reserved = chunk_units o })).snapshot ≡ h.snapshot
    chunk_snapshot_by_cases true = refl
    chunk_snapshot_by_cases false = refl

-- one heap's account changes, but not its worker
heap_totals : (c c' : TreeCounts) (l : Ledger) (t : ℕ) (f : Heap → Heap) → ((h : Heap) → (f h).worker ≡ h.worker) → ((h : Heap) → (f h).snapshot ≡ h.snapshot) → SameCounts c c' → c'.used ≡ in_use (with_heap l t f) → c'.end ≡ c.end → TreeCountsStand c l → TreeCountsStand c' (with_heap l t f)
heap_totals c c' l t f w s C used end T =
    let e = with_steps l t f in
    same_totals c c' l (with_heap l t f) (same_tasks l t f w s) e.0 C used (end ∙ (T.end ∙ sym e.1)) T

took_totals : (c c' : TreeCounts) (l : Ledger) (t w : ℕ) (h : Heap) → slice_get l.heaps t ≡ Some h → is_running (slice_get l.machine.tasks t) ≡ true → (heap_of l t).worker ≡ None → ((u : ℕ) → (heap_of l u).worker ≡ Some w → ⊥) → in_use (with_heap l t (λ h. record h { worker = Some w })) ≡ in_use l → TakesNode c c' w t → TreeCountsStand c l
    → TreeCountsStand c' (with_heap l t (λ h. record h { worker = Some w }))
took_totals c c' l t w h is run rests none used C T =
    let l' : Ledger = with_heap l t (λ h. record h { worker = Some w }) in
    let L = took_takes l t w h is in
    let e = with_steps l t (λ h. record h { worker = Some w }) in
    record {
      task_out = task_out;
      node = λ u. elim (cases_eq u t) [
        | inl same ↦
            subst (λ z. c'.node z ≡ node_of (heap_of l' z).worker (slice_get l'.machine.tasks z)) (sym same)
            (C.node ∙ (ap (option_map (λ (n : TaskNode). record n { state = Out })) (T.node t)
            ∙ (out (slice_get l.machine.tasks t) (heap_of l t).worker run ∙ ap₂ (λ k (m : MachineState). node_of k (slice_get m.tasks t)) (sym L.worker) (sym L.machine))))
        | inr ne ↦ C.others u ne ∙ (T.node u ∙ ap₂ (λ (g : Heap) (m : MachineState). node_of g.worker (slice_get m.tasks u)) (sym (L.heaps u ne)) (sym L.machine))
      ];
      used = C.used ∙ (T.used ∙ sym used);
      steps = C.steps ∙ (T.steps ∙ sym e.0);
      outputs = C.outputs ∙ (T.outputs ∙ ap (λ (m : MachineState). m.outputs) (sym L.machine));
      end = C.end ∙ (T.end ∙ sym e.1);
    }
  where
    abbrev_then : WorkerTakes l (with_heap l t (λ h. record h { worker = Some w })) t w
    abbrev_then = took_takes l t w h is

    none_some : {A : Type 0} {u : ℕ} → ◌≡◌ {A = Option ℕ} None (Some u) → A
    none_some e = absurd cc

    task_out : (u z : ℕ) → c'.task_out u ≡ Some z ↔ (heap_of (with_heap l t (λ h. record h { worker = Some w })) z).worker ≡ Some u
    task_out u z = elim (cases_eq z t) [
      | inl e ↦ subst (λ y. c'.task_out u ≡ Some y ↔ (heap_of (with_heap l t (λ h. record h { worker = Some w })) y).worker ≡ Some u) (sym e) (elim (cases_eq u w) [
        | inl f ↦ ((λ q. abbrev_then.worker ∙ ap Some (sym f)), (λ q. ap c'.task_out f ∙ C.task_out))
        | inr nu ↦ ((λ q. none_some (sym rests ∙ (T.task_out u t).0 (sym (C.tasks_out u nu) ∙ q))), (λ q. absurd (nu (same_Some u w (sym q ∙ abbrev_then.worker)))))
      ])
      | inr nt ↦ elim (cases_eq u w) [
        | inl f ↦ ((λ q. absurd (nt (same_Some z t (sym q ∙ (ap c'.task_out f ∙ C.task_out))))), (λ q. absurd (none z (ap (λ (g : Heap). g.worker) (sym (abbrev_then.heaps z nt)) ∙ (q ∙ ap Some f)))))
        | inr nu ↦ (
          (λ q. ap (λ (g : Heap). g.worker) (abbrev_then.heaps z nt) ∙ (T.task_out u z).0 (sym (C.tasks_out u nu) ∙ q)),
          (λ q. C.tasks_out u nu ∙ (T.task_out u z).1 (ap (λ (g : Heap). g.worker) (sym (abbrev_then.heaps z nt)) ∙ q)),
        )
      ]
    ]

    out : (o : Option Task) (k : Option ℕ) → is_running o ≡ true → option_map (λ (n : TaskNode). record n { state = Out }) (node_of k o) ≡ node_of (Some w) o
    out None k run = refl
    out (Some x) k run = ap (λ z. Some (record { parent = x.parent; state = z })) (out_by_cases x.status run)
      where
        out_by_cases : (st : TaskStatus) → runs st ≡ true → Out ≡ state_by st (Some w)
        out_by_cases Running h = refl
        out_by_cases Waiting h = absurd cc
        out_by_cases (Ended n r) h = absurd cc
        out_by_cases Joined h = absurd cc

module _ (p : ProgramText) (s : SettingsValue) (journal : List EntryValue) (program : IsProgram p) (legal : is_legal p s journal ≡ true) (c c' : TreeCounts) (T : TreeCountsStand c (ledger_of p s journal)) where
  abbrev l : Ledger
  l = ledger_of p s journal

  chunk_totals : (asks : ℕ) (l' : Ledger) (v : Bool) → SameTasks l l' → l'.steps ≡ l.steps → ChunkGoes v l l' asks → SameCounts c c' → AsksUnits v c c' asks → TreeCountsStand c' l'
  chunk_totals asks l' true L steps U C A = same_totals c c' l l' L steps C (A.0 ∙ (T.used ∙ ap in_use (sym U))) (A.1 ∙ (ap (λ k. Some (Pool k)) T.used ∙ ap (λ (z : Ledger). z.end) (sym U))) T
  chunk_totals asks l' false L steps U C A = same_totals c c' l l' L steps C (A.0 ∙ (ap (λ k. k + asks) T.used ∙ sym U.1)) (A.1 ∙ (T.end ∙ sym U.0)) T

  by_kind : (w : ℕ) (kind : Kind) → is_none (refusal p s l (record { worker = w; kind = kind })) ≡ true → UseGoes p s l (after_kind p s l w kind) kind → CountsGo p s l c c' w kind → TreeCountsStand c' (after_kind p s l w kind)
  by_kind w (Took t) h U C =
      let r = none_unless (is_ready l t) _ _ (entry_tells p s l (record { worker = w; kind = Took t }) h).2 in
      let run = (and_parts (is_running (slice_get l.machine.tasks t)) _ r.0).0 in
      let g = heap_of_task l t (legal_sound p s journal legal) run in
      took_totals c c' l t w g.0 g.1 run (none_is (heap_of l t).worker (and_parts (is_running (slice_get l.machine.tasks t)) _ r.0).1) (none_held l w (none_holding (out_from w 0 l.heaps) r.1)) U C T
  by_kind w (Ran t k) h U C = absurd C
  by_kind w (Chunk t) h U C =
      chunk_totals (chunk_units (asked p l.machine t)) (after_kind p s l w (Chunk t)) (nat_lt s.chunks (in_use l + chunk_units (asked p l.machine t)))
      (chunk_same (nat_lt s.chunks (in_use l + chunk_units (asked p l.machine t)))).0 (chunk_same (nat_lt s.chunks (in_use l + chunk_units (asked p l.machine t)))).1
      U C.0 (subst (λ k. AsksUnits (nat_lt s.chunks (k + chunk_units (asked p l.machine t))) c c' (chunk_units (asked p l.machine t))) T.used C.1)
    where
      chunk_same : (v : Bool) → SameTasks l (cond v (record l { end = Some (Pool (in_use l)) }) (with_heap l t (with_chunk (asked p l.machine t)))) × ((cond v (record l { end = Some (Pool (in_use l)) }) (with_heap l t (with_chunk (asked p l.machine t)))).steps ≡ l.steps)
      chunk_same true = (same_itself l (record l { end = Some (Pool (in_use l)) }) refl refl, refl)
      chunk_same false = (same_tasks l t (with_chunk (asked p l.machine t)) (chunk_worker (asked p l.machine t)) (chunk_snapshot (asked p l.machine t)), (with_steps l t (with_chunk (asked p l.machine t))).0)
  by_kind w (Begin t) h U C = heap_totals c c' l t _ (λ g. refl) (λ g. refl) C.0 (C.1 ∙ (ap (λ k. k + take_of l.machine (heap_of l t)) T.used ∙ sym U)) C.2 T
  by_kind w (EndOf t a g n) h U C = heap_totals c c' l t (collected l.machine) (λ g. refl) (λ g. refl) C.0 (let x : c'.used + g ≡ c.used = C.1 in let y : in_use (with_heap l t (collected l.machine)) + g ≡ in_use l = U in let z : c.used ≡ in_use l = T.used in omega (arith, x, y, z)) C.2 T
  by_kind w (PutOff t) h U C = heap_totals c c' l t _ (λ g. refl) (λ g. refl) C.0 (C.1 ∙ (T.used ∙ sym U)) C.2 T
  by_kind w (Mark t) h U C = heap_totals c c' l t _ (λ g. refl) (λ g. refl) C.0 (C.1 ∙ (T.used ∙ sym U)) C.2 T
  by_kind w (More t n) h U C = heap_totals c c' l t _ (λ g. refl) (λ g. refl) C.0 (C.1 ∙ (T.used ∙ sym U)) C.2 T
  by_kind w (Sweep t g) h U C = heap_totals c c' l t swept_heap (λ g. refl) (λ g. refl) C.0 (let x : c'.used + g ≡ c.used = C.1 in let y : in_use (with_heap l t swept_heap) + g ≡ in_use l = U in let z : c.used ≡ in_use l = T.used in omega (arith, x, y, z)) C.2 T
  by_kind w Fuel h U C = same_totals c c' l (after_kind p s l w Fuel) (same_itself l (after_kind p s l w Fuel) refl refl) refl C.0 (C.1 ∙ T.used) (C.2 ∙ ap (λ k. Some (FuelEnd k)) T.steps) T

  pub counts_stand : (e : EntryValue) → refusal p s l e ≡ None → CountsGo p s l c c' e.worker e.kind → TreeCountsStand c' (after p s l e)
  counts_stand e accepted C = by_kind e.worker e.kind (ap is_none accepted) (entries_use p s journal e program legal accepted) C
