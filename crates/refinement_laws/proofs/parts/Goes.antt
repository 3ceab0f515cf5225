-- A step after which its worker goes on with the task keeps the parts of others fitting: a store of a reference or of a
-- number.
use Rattle.refinement_laws.proofs.Common.{◌≡◌, ℕ, ℤ, false, Option, Some, List, slice_get, inl, inr, refl, ap, sym, subst, ◌∙◌, cases_eq, same_Some, Addr, Located, ProgramText, SettingsValue, Name, Object, Running, Task, MachineState, is_waiting, is_joined, is_on_path, task_names, Heap, Ledger, heap_of, or_fresh, let_go, task_steps, heap_machine, CallFrame, ref_of, Belongings, Memory, In, objects, objects_of_chunks, own, Rests, ArePrivate, rested, StepsAlone, AlikeFor, LedgerIsKnown, StoresOne, StoresNumber, MemoryStands, Part, FitsAt, ahead, with_belongings, StoresAt, StoresNumberAt, IsSteady, RunsWithPart, Beside, SameOf, with_off, rested_worker, rested_knows, leaf_alone, stores_too, stores_with, numbers_too, numbers_with, in_chunk, released, at_belongings, off_belongings, with_both, steady_same}
use Rattle.refinement_laws.proofs.parts.Beside.{alike_writes}
use Rattle.refinement_laws.proofs.parts.Pair.{beside}
use Rattle.refinement_laws.proofs.parts.Parts.{ahead_alone, ahead_same}
use Rattle.refinement_laws.proofs.parts.Others.{private', out', alone', alike'}
use Rattle.refinement.proofs.changes.Numbers as numbers
use Rattle.refinement_laws.proofs.parts.Pair as pair
use Rattle.refinement.proofs.changes.Store as store

-- q's worker goes on with the task, with belongings g', and the memory stands for the accounts in which it rests
module _ (p : ProgramText) (s : SettingsValue) (q r : Part) (v : Memory) (l l' : Ledger) (x y : Task) (K : LedgerIsKnown l) (K' : LedgerIsKnown l') (F : FitsAt p s q v l) (G : FitsAt p s r v l) (O : RunsWithPart l q x) (P : RunsWithPart l r y) (ne : q.task ≡ r.task → ⊥)
    (w : ℕ) (out : (heap_of l' q.task).worker ≡ Some w) (limit : l'.machine.field_limit ≡ (ahead p q l).machine.field_limit) (end : l'.machine.end ≡ (ahead p q l).machine.end) (heap : slice_get l'.heaps r.task ≡ slice_get (ahead p q l).heaps r.task) where
  abbrev lq : Ledger
  lq = ahead p q l

  abbrev both : Ledger
  both = ahead p r lq

  abbrev lt' : Ledger
  lt' = rested l' q.task

  abbrev then_ : Ledger
  then_ = ahead p r lt'

  off : r.task ≡ q.task → ⊥
  off e = ne (sym e)

  abbrev BB : Beside lq (ahead p r l) both q.task r.task
  BB = beside p s q r v l x y K F G O P ne

  K2 : LedgerIsKnown lt'
  K2 = rested_knows l' q.task K'

  abbrev limit' : lt'.machine.field_limit ≡ lq.machine.field_limit
  limit' = ap (λ (m : MachineState). m.field_limit) (heap_machine l' q.task let_go) ∙ limit

  abbrev end' : lt'.machine.end ≡ lq.machine.end
  end' = ap (λ (m : MachineState). m.end) (heap_machine l' q.task let_go) ∙ end

  abbrev heap_r : slice_get lt'.heaps r.task ≡ slice_get lq.heaps r.task
  heap_r = with_off l' q.task r.task let_go off ∙ heap

  rests_both : Rests both q.task
  rests_both = ap (λ (h : Heap). h.worker) (BB.steps_t.heaps q.task ne) ∙ rested_worker (task_steps p l q.task q.fresh) q.task

  abbrev before : MemoryStands (with_belongings (with_belongings v q.task q.belongings) r.task r.belongings) both
  before = pair.fit_together p s q r v l x y K F G O P ne

  -- the part fits what is returned
  module _ (E : AlikeFor r.task lq lt') (v' : Memory) (g' : Belongings) (idle : is_waiting (slice_get then_.machine.tasks q.task) ≡ false) (V : MemoryStands (with_belongings (with_belongings v' q.task g') r.task r.belongings) then_) where
    at_l' : ArePrivate p s l' r.task r.fresh × SameOf r.task then_ (ahead p r l')
    at_l' = ahead_same p s r lt' l' (record { machine = sym (heap_machine l' q.task let_go); heap = sym (with_off l' q.task r.task let_go off) }) (private' p s q r v l lt' x y K K2 F G O P ne E)

    steady_l' : IsSteady r l'
    steady_l' = steady_same r l l' (heap ∙ (pair.alike p s q r v l x y K F G O P ne).heap) P.steady

    N0 : StepsAlone l' (ahead p r l') r.task
    N0 = ahead_alone p s r l' K'.sound steady_l' at_l'.0

    N1 : StepsAlone lt' then_ r.task
    N1 = alone' p s q r v l lt' x y K K2 F G O P ne E

    pub fits_goes : FitsAt p s r v' l'
    fits_goes = record {
      worker = G.worker;
      out = ap (λ o. (or_fresh o).worker) (sym (with_off l' q.task r.task let_go off)) ∙ out' p s q r v l lt' x y K K2 F G O P ne E;
      few = G.few;
      private = at_l'.0;
      stands = released (with_belongings (with_belongings v' q.task g') r.task r.belongings) (with_belongings v' r.task r.belongings) then_ (ahead p r l') q.task w V idle
          (record {
            machine = at_l'.1.machine;
            worker = ap (λ (h : Heap). h.worker) (N0.heaps q.task ne) ∙ out;
            heaps = λ u nu. elim (cases_eq u r.task) [
              | inl e ↦ ap (heap_of (ahead p r l')) e ∙ (ap or_fresh at_l'.1.heap ∙ ap (heap_of then_) (sym e))
              | inr nr ↦ N0.heaps u nr ∙ (ap or_fresh (sym (with_off l' q.task u let_go nu)) ∙ sym (N1.heaps u nr))
            ];
          })
          (record { belongings = λ z nz. sym (with_both v' q.task r.task g' r.belongings ne z ∙ off_belongings (with_belongings v' r.task r.belongings) q.task g' z nz); owner = λ k. refl; sources = λ u. refl });
    }

  -- a name that q's task holds isn't r's
  module _ (z : Task) (n : Name) (is : slice_get lq.machine.tasks q.task ≡ Some z) (runs : z.status ≡ Running) (holds : In (task_names z) n) where
    pub not_own : own lq n ≡ r.task → ⊥
    not_own e =
        let live : is_joined (slice_get lq.machine.tasks q.task) ≡ false = ap is_joined is ∙ ap (λ st. is_joined (Some (record z { status = st }))) runs in
        off (leaf_alone lq BB.sound_t r.task q.task (sym (BB.steps_t.tree.waits r.task) ∙ BB.idle_u) live
        (ap (λ k. is_on_path lq.machine.tasks k q.task) (sym e) ∙ (BB.sound_t.apart.of_task q.task z n is holds).1))

    none_there : (a : Addr) → v.owner a.chunk ≡ Some (own lq n) → (o : Located) → In (objects_of_chunks r.belongings.chunks) o → o.at.chunk ≡ a.chunk → ⊥
    none_there a owns o i e =
        let rests_r : Rests both r.task = rested_worker (task_steps p lq r.task r.fresh) r.task in
        let H = before.belongings r.task rests_r in
        let there : In (objects (with_belongings (with_belongings v q.task q.belongings) r.task r.belongings) r.task) o = subst (λ (h : Belongings). In (objects_of_chunks h.chunks) o) (sym (at_belongings (with_belongings v q.task q.belongings) r.task r.belongings)) i in
        let c = in_chunk ((with_belongings (with_belongings v q.task q.belongings) r.task r.belongings).belongings r.task).chunks o there in
        let mine : v.owner o.at.chunk ≡ Some r.task = ap v.owner (H.inside c.0 o c.1 c.2) ∙ H.owned c.0 c.1 in
        not_own (same_Some (own lq n) r.task (sym owns ∙ (ap v.owner (sym e) ∙ mine)))

  -- it stores a reference
  pub fits_store : (v' : Memory) (g' : Belongings) (z : Task) (n : Name) (yy : Object) (o b i : ℕ) (c : Option (ℕ × ℤ)) (f : CallFrame) (fs : List CallFrame) (a : Addr) → StoresOne lq lt' q.task z n yy o b i c
      → StoresAt (with_belongings v q.task q.belongings) (with_belongings v' q.task g') lq q.task f fs a b i c → ref_of f o ≡ Some a → FitsAt p s r v' l'
  fits_store v' g' z n yy o b i c f fs a L C at_a =
      let rests : Rests lq q.task = rested_worker (task_steps p l q.task q.fresh) q.task in
      let vt = with_belongings v q.task q.belongings in
      let vt' = with_belongings v' q.task g' in
      let holds = store.holds vt vt' lq lt' q.task z n yy o b i c f fs a BB.sound_t F.stands rests L C at_a o n L.object in
      let place = store.place vt vt' lq lt' q.task z n yy o b i c f fs a BB.sound_t F.stands rests L C at_a in
      let other = not_own z n L.task L.runs holds in
      let E = alike_writes lq lt' r.task q.task n yy _ off other L.mutable limit' end' heap_r L.writes in
      let A' = alone' p s q r v l lt' x y K K2 F G O P ne E in
      let EE = alike' p s q r v l lt' x y K K2 F G O P ne E in
      let L' = stores_too lq lt' both then_ r.task BB.steps_t A' EE q.task z n yy o b i c ne other BB.idle_u L in
      fits_goes E v' g' (A'.tree.waits q.task ∙ (L.writes.tree.waits q.task ∙ (sym (BB.steps_t.tree.waits q.task) ∙ BB.idle_t)))
      (store.stored (with_belongings vt r.task r.belongings) (with_belongings vt' r.task r.belongings) both then_ q.task z n yy o b i c f fs a BB.sound before rests_both L'
      (stores_with vt vt' r.task r.belongings lq both q.task f fs a b i c ne BB.steps_t.tree.paths (none_there z n L.task L.runs holds a place.chunk) C) at_a)

  -- or a number
  pub fits_number : (v' : Memory) (g' : Belongings) (z : Task) (n : Name) (yy : Object) (o b i : ℕ) (f : CallFrame) (fs : List CallFrame) (a : Addr) → StoresNumber lq lt' q.task z n yy o b i
      → StoresNumberAt (with_belongings v q.task q.belongings) (with_belongings v' q.task g') q.task f fs a b i → ref_of f o ≡ Some a → FitsAt p s r v' l'
  fits_number v' g' z n yy o b i f fs a L C at_a =
      let rests : Rests lq q.task = rested_worker (task_steps p l q.task q.fresh) q.task in
      let vt = with_belongings v q.task q.belongings in
      let vt' = with_belongings v' q.task g' in
      let holds = numbers.holds vt vt' lq lt' q.task z n yy o b i f fs a BB.sound_t F.stands rests L C at_a o n L.object in
      let place = numbers.place vt vt' lq lt' q.task z n yy o b i f fs a BB.sound_t F.stands rests L C at_a in
      let other = not_own z n L.task L.runs holds in
      let E = alike_writes lq lt' r.task q.task n yy _ off other L.mutable limit' end' heap_r L.writes in
      let A' = alone' p s q r v l lt' x y K K2 F G O P ne E in
      let EE = alike' p s q r v l lt' x y K K2 F G O P ne E in
      let L' = numbers_too lq lt' both then_ r.task BB.steps_t A' EE q.task z n yy o b i ne other BB.idle_u L in
      fits_goes E v' g' (A'.tree.waits q.task ∙ (L.writes.tree.waits q.task ∙ (sym (BB.steps_t.tree.waits q.task) ∙ BB.idle_t)))
      (numbers.numbered (with_belongings vt r.task r.belongings) (with_belongings vt' r.task r.belongings) both then_ q.task z n yy o b i f fs a BB.sound before rests_both L'
      (numbers_with vt vt' r.task r.belongings q.task f fs a b i ne (none_there z n L.task L.runs holds a place.chunk) C) at_a)
