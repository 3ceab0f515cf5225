-- The frame law: an entry of one worker keeps what another holds fitting.
use Rattle.refinement_laws.proofs.Common.{◌≡◌, ℕ, true, false, Some, slice_get, refl, ap, sym, subst, ◌∙◌, both_ways, same_Some, Addr, Located, Task, MachineState, is_waiting, is_joined, runs_idle, runs_live, Heap, Ledger, heap_of, SoundLedger, RefField, Belongings, Memory, In, objects, objects_of_chunks, sources, own, Rests, StepsAlone, ChangesHeap, MemoryStands, with_belongings, KeepsJust, Moves, EndsBeside, in_chunk, steps_alone, swept, released, at_belongings, off_belongings, with_both, heap_with, keeps_with, moves_with}
use Rattle.refinement.proofs.changes.Collect.{collected}
use Rattle.refinement_laws.proofs.parts.Assemble.{assembled}

-- a sweep of t's heap: the part of u, with belongings h, whose steps lead from l to k and from l' to k'
pub sweep_frame : (v v' : Memory) (l l' k k' : Ledger) (t u : ℕ) (h : Belongings) → (t ≡ u → ⊥) → StepsAlone l k u → StepsAlone l' k' u → k'.machine ≡ k.machine → heap_of k' u ≡ heap_of k u
    → SoundLedger k → is_waiting (slice_get l.machine.tasks t) ≡ true → Rests l t → ChangesHeap l l' t → KeepsJust v v' l l' t (heap_of l t).snapshot
    → MemoryStands (with_belongings v u h) k → MemoryStands (with_belongings v' u h) k'
sweep_frame v v' l l' k k' t u h apart A A' em eh S waits rests L C V =
    let heap : heap_of k t ≡ heap_of l t = A.heaps t apart in
    swept (with_belongings v u h) (with_belongings v' u h) k k' t (heap_of k t).snapshot S V (A.tree.waits t ∙ waits) (ap (λ (i : Heap). i.worker) heap ∙ rests)
    (heap_with v v' l l' k k' t u h apart A A' L em eh)
    (subst (λ (i : Heap). KeepsJust (with_belongings v u h) (with_belongings v' u h) k k' t i.snapshot) (sym heap) (keeps_with v v' l l' k k' t u h apart A A' (heap_of l t).snapshot C))

-- private steps of t, whose belongings aren't in the memory: those of u lead from l to k and from l' to k'
pub step_frame : (v : Memory) (k k' : Ledger) (t w u : ℕ) (h : Belongings) → SoundLedger k → StepsAlone k k' t → (heap_of k t).worker ≡ Some w → (heap_of k' t).worker ≡ Some w → is_waiting (slice_get k.machine.tasks t) ≡ false
    → MemoryStands (with_belongings v u h) k → MemoryStands (with_belongings v u h) k'
step_frame v k k' t w u h S A out out' runs V = steps_alone (with_belongings v u h) k k' t w S V A out out' runs

module _ (v v' : Memory) (lt lt' k k' K K' : Ledger) (t u w : ℕ) (g g' h : Belongings) (x : Task) (f : Addr → Addr) (E : EndsBeside v v' lt lt' k k' K K' t u w g g' h x f)
    (Vt : MemoryStands (with_belongings v t g) lt) (Vu : MemoryStands (with_belongings v u h) k) where
  abbrev both : Memory
  both = with_belongings (with_belongings v t g) u h

  abbrev both' : Memory
  both' = with_belongings (with_belongings v' t g') u h

  idle_t : is_waiting (slice_get K.machine.tasks t) ≡ false
  idle_t = runs_idle x E.collects.task E.collects.runs

  live_t : is_joined (slice_get K.machine.tasks t) ≡ false
  live_t = runs_live x E.collects.task E.collects.runs

  before : MemoryStands both K
  before =
      assembled both (with_belongings v t g) (with_belongings v u h) K lt k t u E.apart E.sound_t E.sound_u Vt Vu E.steps_t E.steps_u
      (record { belongings = λ z ne. off_belongings (with_belongings v t g) u h z ne; owner = λ i. refl; sources = λ z. refl })
      (record { belongings = λ z ne. with_both v t u g h E.apart z ∙ off_belongings (with_belongings v u h) t g z ne; owner = λ i. refl; sources = λ z. refl })
      idle_t E.idle live_t E.live

  none : (o : Located) (s : RefField) → In (objects_of_chunks h.chunks) o → In (sources v t) s → s.object.chunk ≡ o.at.chunk → ⊥
  none o s i j e =
      let q = before.sources t s j in
      let H = before.belongings u E.rests in
      let there : In (objects both u) o = subst (λ (y : Belongings). In (objects_of_chunks y.chunks) o) (sym (at_belongings (with_belongings v t g) u h)) i in
      let c = in_chunk (both.belongings u).chunks o there in
      let mine : v.owner o.at.chunk ≡ Some u = ap v.owner (H.inside c.0 o c.1 c.2) ∙ H.owned c.0 c.1 in
      let same : own K q.name ≡ u = same_Some (own K q.name) u (sym q.place.chunk ∙ (ap v.owner e ∙ mine)) in
      both_ways (is_waiting (slice_get K.machine.tasks u)) E.idle (ap (λ z. is_waiting (slice_get K.machine.tasks z)) (sym same) ∙ q.waits)

  moves : Moves both both' K K' t (heap_of K t).survivors f
  moves =
      subst (λ ns. Moves both both' K K' t ns f) (sym E.survivors)
      (moves_with (with_belongings v t g) (with_belongings v' t g') lt lt' K K' t u h E.apart E.steps_t E.steps_t' (heap_of lt t).survivors f none E.moves)

  after : MemoryStands both' K'
  after = collected both both' K K' t x f E.sound before E.collects (heap_with (with_belongings v t g) (with_belongings v' t g') lt lt' K K' t u h E.apart E.steps_t E.steps_t' E.ends E.machine E.heap) moves

  -- what the worker of t holds fits the memory after it, and so does the part of u
  pub collect_frame : MemoryStands (with_belongings v' u h) k'
  collect_frame =
      released both' (with_belongings v' u h) K' k' t w after (ap (λ (m : MachineState). is_waiting (slice_get m.tasks t)) E.machine ∙ idle_t) E.takes
      (record { belongings = λ z ne. sym (with_both v' t u g' h E.apart z ∙ off_belongings (with_belongings v' u h) t g' z ne); owner = λ i. refl; sources = λ z. refl })
