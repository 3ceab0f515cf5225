-- A step that goes on and sets at most a number register: the part of its worker fits after it.
use Rattle.refinement_laws.proofs.Common.{◌≡◌, ℕ, ℤ, false, Some, List, ◌∷◌, length, slice_get, slice_set, refl, ap, sym, subst, ◌∙◌, same_Some, got_same, Addr, Located, ProgramText, SettingsValue, Name, Object, Running, Task, MachineState, object_at, row_of, is_waiting, Frame as ModelFrame, Ledger, heap_of, or_fresh, let_go, task_steps, SoundLedger, Rests, StepsAlone, rested, onward_with, stepped_by, both_rested, rest_heaps, rested_worker, rested_sound, Belongings, Memory, In, object_name, objects, objects_of_chunks, Lies, IsModelObject, FrameIsRead, FramesAreRead, HoldsRead, TaskIsRead, LiesWithOwner, FitsAt, with_belongings, part_for, StepsInBelongings, gone_on, object_kept, task_kept, belongings_alike, StepsTo, heap_machine, CallFrame, place_own, at_belongings, off_belongings, FramesGo, NumbersGo}
use Rattle.refinement_laws.proofs.whole.HandedBack.{alive_machine}
use Rattle.refinement_laws.proofs.parts.Workers.{part_now}
use Rattle.refinement.proofs.below.ledger_step_laws.BeforeLast as before_last
use Rattle.refinement.proofs.changes.Target.{goes_on}

module _ (p : ProgramText) (s : SettingsValue) (t k : ℕ) (h : Belongings) (v : Memory) (l l' : Ledger) (w : ℕ) (x : Task) (top : ModelFrame) (outs : List ℤ) (f gone : CallFrame) (fs : List CallFrame) (S : SoundLedger (task_steps p l t k)) (S' : SoundLedger l')
    (F : FitsAt p s (part_for s t h k) v l) (held : (heap_of (task_steps p l t k) t).worker ≡ Some w) (is : slice_get (task_steps p l t k).machine.tasks t ≡ Some x) (runs : x.status ≡ Running) (A : StepsAlone (task_steps p l t k) l' t)
    (goes : l' ≡ stepped_by (task_steps p l t k) (record (task_steps p l t k).machine { tasks = slice_set (task_steps p l t k).machine.tasks t (record x { top = top }); outputs = outs })) (frames : h.frames ≡ f ∷ fs)
    (reads : FrameIsRead (LiesWithOwner (with_belongings v t h) (rested (task_steps p l t k) t)) f x.top → FrameIsRead (LiesWithOwner (with_belongings v t h) (rested (task_steps p l t k) t)) gone top) where
  abbrev m : Ledger
  m = task_steps p l t k

  abbrev g : Belongings
  g = record h { frames = gone ∷ fs }

  abbrev vt : Memory
  vt = with_belongings v t h

  abbrev vt' : Memory
  vt' = with_belongings v t g

  abbrev lt : Ledger
  lt = rested m t

  abbrev lt' : Ledger
  lt' = rested l' t

  abbrev em : lt.machine ≡ m.machine
  em = heap_machine m t let_go

  abbrev el : lt'.machine ≡ l'.machine
  el = heap_machine l' t let_go

  store_same : (n : Name) → object_at lt'.machine.store n ≡ object_at lt.machine.store n
  store_same n = ap (λ (z : MachineState). object_at z.store n) el ∙ (ap (λ (z : Ledger). object_at z.machine.store n) goes ∙ sym (ap (λ (z : MachineState). object_at z.store n) em))

  abbrev alone : StepsAlone lt lt' t
  alone = both_rested m l' t A

  row_same : length (row_of (slice_get lt'.machine.store t)) ≡ length (row_of (slice_get lt.machine.store t))
  row_same = ap (λ (z : MachineState). length (row_of (slice_get z.store t))) el ∙ (ap (λ (z : Ledger). length (row_of (slice_get z.machine.store t))) goes ∙ sym (ap (λ (z : MachineState). length (row_of (slice_get z.store t))) em))

  heap_same : heap_of lt' t ≡ heap_of lt t
  heap_same = ap (λ hs. or_fresh (slice_get hs t)) (rest_heaps m l' t (ap (λ (z : Ledger). z.heaps) goes))

  rests : Rests lt t
  rests = rested_worker m t

  at_lt : slice_get lt.machine.tasks t ≡ Some x
  at_lt = ap (λ (z : MachineState). slice_get z.tasks t) em ∙ is

  idle : is_waiting (slice_get lt.machine.tasks t) ≡ false
  idle = ap is_waiting at_lt ∙ ap (λ st. is_waiting (Some (record x { status = st }))) runs

  -- a function of the belongings that doesn't depend on their frames
  seen : {B : Type 0} (view : Belongings → B) → view g ≡ view h → view (vt'.belongings t) ≡ view (vt.belongings t)
  seen view e = ap view (at_belongings v t g) ∙ (e ∙ sym (ap view (at_belongings v t h)))

  chunks_same : (vt'.belongings t).chunks ≡ (vt.belongings t).chunks
  chunks_same = seen (λ z. z.chunks) refl

  at_step : StepsInBelongings vt vt' t
  at_step = record {
    others = λ u ne. off_belongings v t g u ne ∙ sym (off_belongings v t h u ne);
    owner = λ n. refl;
    sources = λ u. refl;
    view = seen (λ z. z.view) refl;
    stays = λ n a i. subst (λ ks. Lies ks n a) (sym chunks_same) i;
  }

  place : (n : Name) (a : Addr) → LiesWithOwner vt lt n a → LiesWithOwner vt' lt' n a
  place n a = place_own vt vt' lt lt' t (rested_sound m t S) (rested_sound l' t S') F.stands alone rests (rested_worker l' t) idle at_step n a

  abbrev z' : Task
  z' = record x { top = top }

  at_lt' : slice_get lt'.machine.tasks t ≡ Some z'
  at_lt' = ap (λ (z : MachineState). slice_get z.tasks t) el ∙ (ap (λ (z : Ledger). slice_get z.machine.tasks t) goes ∙ got_same m.machine.tasks t x z' is)

  read_then : FramesAreRead (LiesWithOwner vt lt) (f ∷ fs) (x.top ∷ x.below)
  read_then = subst (λ gs. FramesAreRead (LiesWithOwner vt lt) gs (x.top ∷ x.below)) (ap (λ (z : Belongings). z.frames) (at_belongings v t h) ∙ frames) (subst (HoldsRead (LiesWithOwner vt lt) (vt.belongings t) x) runs (F.stands.tasks t x rests at_lt))

  read_now : TaskIsRead (LiesWithOwner vt lt) (vt'.belongings t) z'
  read_now =
      subst (HoldsRead (LiesWithOwner vt lt) (vt'.belongings t) z') (sym runs)
      (subst (λ gs. FramesAreRead (LiesWithOwner vt lt) gs (top ∷ x.below)) (sym (ap (λ (z : Belongings). z.frames) (at_belongings v t g))) (reads read_then.0, read_then.1))

  content : (o : Located) → In (objects vt' t) o → (y : Object) × (object_at lt'.machine.store (object_name o) ≡ Some y) × IsModelObject (LiesWithOwner vt' lt') o y
  content o i =
      let q = F.stands.contents t o rests (subst (λ ks. In (objects_of_chunks ks) o) chunks_same i) in
      (q.0, store_same (object_name o) ∙ q.1, object_kept (LiesWithOwner vt lt) (LiesWithOwner vt' lt') o q.0 (λ n j. place n) q.2)

  pub frames_step : StepsTo v l' t h g
  frames_step = (
    at_step,
    record {
      belongings = belongings_alike vt vt' lt lt' t chunks_same (seen (λ z. z.room) refl) (seen (λ z. z.since) refl) (seen (λ z. z.count) refl) (λ n e. e) heap_same row_same (alone.tree.joins t) (F.stands.belongings t rests);
      contents = content;
      task = λ y e. subst (λ (z : Task). TaskIsRead (LiesWithOwner vt' lt') (vt'.belongings t) z) (same_Some z' y (sym at_lt' ∙ e)) (task_kept (LiesWithOwner vt lt) (LiesWithOwner vt' lt') (vt'.belongings t) z' (λ n j. place n) read_now);
    },
    refl,
  )

pub frames_go : FramesGo
frames_go p s v l l' t w k h E Q f g fs top outs A goes frames reads =
    let known = before_last.known p s l l' t w k E in
    let F = (part_now p s (part_for s t h k) v l (alive_machine p s l l' t w k E) Q).fits in
    frames_step p s t k h v l l' w E.splits.task top outs f g fs known.sound E.knows_then.sound F E.out E.splits.at.task E.splits.at.runs A goes frames reads

-- the frame is read as before, except for the number register that is set
pub numbers_go : NumbersGo
numbers_go p s v l l' t w k h E Q f fs c outs A goes frames = frames_go p s v l l' t w k h E Q f (gone_on c f) fs (onward_with c E.splits.task.top) outs A goes frames (goes_on _ c f E.splits.task.top)
