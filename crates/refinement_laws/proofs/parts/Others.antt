-- What the worker of one task commits keeps the parts of others fitting: a fork, a join, a store.
use Rattle.refinement_laws.proofs.Common.{◌≡◌, ℕ, ℤ, pos, true, unwrap_or, Option, Some, List, ◌∷◌, slice_get, inl, inr, ap, ap₂, sym, subst, ◌∙◌, Addr, ProgramText, SettingsValue, Name, Running, Task, can_step, goes_on, is_running, Heap, Ledger, heap_of, or_fresh, task_steps, CallFrame, ref_of, Belongings, Memory, ReadsReference, FramesAreRead, HoldsRead, Rests, ArePrivate, StepsAlone, AlikeFor, LedgerIsKnown, ForksTask, JoinsTasks, TasksCanJoin, EndsTask, LiesWithOwner, MemoryStands, Part, FitsAt, ahead, with_belongings, ForksBelongings, JoinsBelongings, EndsBelongings, HasResult, IsSteady, RunsWithPart, Beside, alike_steps, rested_worker, field_of, can_too, ends_too, ends_with, finished, off_belongings, none_some, steady_same}
use Rattle.refinement_laws.proofs.parts.Along.{rested_alike, alone_ahead}
use Rattle.refinement_laws.proofs.parts.Beside.{together, fork_frame, join_frame}
use Rattle.refinement_laws.proofs.parts.Pair.{beside}
use Rattle.refinement_laws.proofs.parts.Parts.{ahead_alone, ahead_sound}
use Rattle.refinement_laws.proofs.parts.Pair as pair

-- RESULTS

pub result_read : (v : Memory) (l : Ledger) (c : ℕ) (r : ℤ × Option Name) (a : ℤ × Option Addr) → MemoryStands v l → Rests l c → HasResult v l c r a → (a.0 ≡ r.0) × ReadsReference (LiesWithOwner v l) a.1 r.1
result_read v l c r a V rests (inl E) =
    let k : ((v.belongings c).result.0 ≡ r.0) × ReadsReference (LiesWithOwner v l) (v.belongings c).result.1 r.1 = subst (HoldsRead (LiesWithOwner v l) (v.belongings c) E.task) E.ended (V.tasks c E.task rests E.is) in
    subst (λ (q : ℤ × Option Addr). (q.0 ≡ r.0) × ReadsReference (LiesWithOwner v l) q.1 r.1) E.result k
result_read v l c r a V rests (inr E) =
    let k : FramesAreRead (LiesWithOwner v l) (E.frame ∷ E.below) (E.task.top ∷ E.task.below) =
    subst (λ fs. FramesAreRead (LiesWithOwner v l) fs (E.task.top ∷ E.task.below)) E.frames (subst (HoldsRead (LiesWithOwner v l) (v.belongings c) E.task) E.runs (V.tasks c E.task rests E.is)) in
    subst (λ (q : ℤ × Option Addr). (q.0 ≡ r.0) × ReadsReference (LiesWithOwner v l) q.1 r.1) (sym E.result)
    (subst (λ (q : ℤ × Option Name). ((unwrap_or (slice_get E.frame.ints 0) (pos 0)) ≡ q.0) × ReadsReference (LiesWithOwner v l) (ref_of E.frame 0) q.1) (sym E.returns)
    (ap (λ is. unwrap_or (slice_get is 0) (pos 0)) k.0.ints, field_of (LiesWithOwner v l) E.frame.refs E.task.top.refs 0 k.0.refs))

-- THE PART OF r, IF ALL ON WHICH IT DEPENDS IS UNCHANGED: q's steps lead from l to lq, and the entry then leads to l'
module _ (p : ProgramText) (s : SettingsValue) (q r : Part) (v : Memory) (l l' : Ledger) (x y : Task) (K : LedgerIsKnown l) (K' : LedgerIsKnown l') (F : FitsAt p s q v l) (G : FitsAt p s r v l) (O : RunsWithPart l q x) (P : RunsWithPart l r y) (ne : q.task ≡ r.task → ⊥)
    (E : AlikeFor r.task (ahead p q l) l') where
  abbrev lq : Ledger
  lq = ahead p q l

  abbrev both : Ledger
  both = ahead p r lq

  abbrev lr' : Ledger
  lr' = ahead p r l'

  abbrev B : Beside lq (ahead p r l) both q.task r.task
  B = beside p s q r v l x y K F G O P ne

  abbrev N : StepsAlone l lq q.task
  N = pair.N p s q r v l x y K F G O P ne

  abbrev Q : AlikeFor r.task l lq
  Q = pair.alike p s q r v l x y K F G O P ne

  can : can_step lq.machine r.task ≡ true
  can = ap₂ (λ e o. goes_on e (is_running o)) Q.end Q.task ∙ P.can

  then' : ArePrivate p s l' r.task r.fresh × AlikeFor r.task (task_steps p lq r.task r.fresh) (task_steps p l' r.task r.fresh)
  then' = alike_steps p s r.task r.fresh lq l' y (pair.knows p s q r v l x y K F G O P ne) K' (pair.steady p s q r v l x y K F G O P ne) E (Q.task ∙ P.task) P.runs can (pair.then_ p s q r v l x y K F G O P ne).0

  pub alike' : AlikeFor r.task both lr'
  alike' = rested_alike p s r (task_steps p lq r.task r.fresh) (task_steps p l' r.task r.fresh) then'.1

  heap' : slice_get l'.heaps r.task ≡ slice_get l.heaps r.task
  heap' = E.heap ∙ Q.heap

  steady' : IsSteady r l'
  steady' = steady_same r l l' heap' P.steady

  pub alone' : StepsAlone l' lr' r.task
  alone' = ahead_alone p s r l' K'.sound steady' then'.0

  pub private' : ArePrivate p s l' r.task r.fresh
  private' = then'.0

  pub out_then : (heap_of lq r.task).worker ≡ Some G.worker
  out_then = ap (λ o. (or_fresh o).worker) Q.heap ∙ G.out

  pub out' : (heap_of l' r.task).worker ≡ Some G.worker
  out' = ap (λ o. (or_fresh o).worker) heap' ∙ G.out

  -- a task at rest isn't r's task
  pub apart_then : (z : ℕ) → Rests lq z → z ≡ r.task → ⊥
  apart_then z h e = absurd (none_some (sym h ∙ (ap (λ k. (heap_of lq k).worker) e ∙ out_then)))

  pub apart' : (z : ℕ) → Rests l' z → z ≡ r.task → ⊥
  apart' z h e = absurd (none_some (sym h ∙ (ap (λ k. (heap_of l' k).worker) e ∙ out')))

  pub fits_by : (v' : Memory) → MemoryStands (with_belongings v' r.task r.belongings) lr' → FitsAt p s r v' l'
  fits_by v' V = record { worker = G.worker; out = out'; few = G.few; private = then'.0; stands = V }

  -- q's task forks
  pub fits_fork : (v' : Memory) (a b f i : ℕ) (z : Task) → z.status ≡ Running → ForksTask lq l' q.task a b f i z → ForksBelongings (with_belongings v q.task q.belongings) v' q.task a b f i → FitsAt p s r v' l'
  fits_fork v' a b f i z runs L C =
      fits_by v' (fork_frame v v' lq l' (ahead p r l) lr' both q.task r.task a b f i q.belongings r.belongings z B (apart' a (ap (λ (h : Heap). h.worker) L.heap_left)) (apart' b (ap (λ (h : Heap). h.worker) L.heap_right)) alone' alike'
      runs (rested_worker (task_steps p l q.task q.fresh) q.task) L C F.stands G.stands)

  -- q's task ends, and joins with its sibling
  pub fits_join : (v' : Memory) (j c d : ℕ) (z : Task) (rl rr : ℤ × Option Name) (al ar : ℤ × Option Addr) → JoinsTasks lq l' j c d z rl rr → TasksCanJoin lq j c d z → JoinsBelongings (with_belongings v q.task q.belongings) v' j c d al ar
      → HasResult (with_belongings v q.task q.belongings) lq c rl al → HasResult (with_belongings v q.task q.belongings) lq d rr ar → FitsAt p s r v' l'
  fits_join v' j c d z rl rr al ar L T C gl gr =
      let nj = apart_then j T.rests in
      let nc = apart_then c T.left_rests in
      let nd = apart_then d T.right_rests in
      let A = B.steps_t in
      let T' = can_too lq l' both lr' r.task A alone' alike' j c d z nj nc nd T in
      let V = together v lq (ahead p r l) both q.task r.task q.belongings r.belongings B F.stands G.stands in
      fits_by v' (join_frame v v' lq l' (ahead p r l) lr' both q.task r.task j c d q.belongings r.belongings z rl rr al ar B nj nc nd alone' alike' L T' C
      (result_read (with_belongings (with_belongings v q.task q.belongings) r.task r.belongings) both c rl al V T'.left_rests (result_too c rl al nc gl))
      (result_read (with_belongings (with_belongings v q.task q.belongings) r.task r.belongings) both d rr ar V T'.right_rests (result_too d rr ar nd gr)) F.stands G.stands)
    where
      result_too : (c : ℕ) (k : ℤ × Option Name) (a : ℤ × Option Addr) → (c ≡ r.task → ⊥) → HasResult (with_belongings v q.task q.belongings) lq c k a → HasResult (with_belongings (with_belongings v q.task q.belongings) r.task r.belongings) both c k a
      result_too c k a nc (inl e) = inl (record { task = e.task; is = B.steps_t.tasks c nc ∙ e.is; ended = e.ended; result = ap (λ (h : Belongings). h.result) (off_belongings (with_belongings v q.task q.belongings) r.task r.belongings c nc) ∙ e.result })
      result_too c k a nc (inr e) = inr (record { task = e.task; is = B.steps_t.tasks c nc ∙ e.is; runs = e.runs; returns = e.returns; frame = e.frame; below = e.below; frames = ap (λ (h : Belongings). h.frames) (off_belongings (with_belongings v q.task q.belongings) r.task r.belongings c nc) ∙ e.frames; result = e.result })

  -- q's task ends, and its sibling goes on
  pub fits_finish : (v' : Memory) (z : Task) (f : CallFrame) (fs : List CallFrame) → EndsTask lq l' q.task z → EndsBelongings (with_belongings v q.task q.belongings) v' q.task f fs → FitsAt p s r v' l'
  fits_finish v' z f fs L C =
      let A = B.steps_t in
      let M : StepsAlone both lr' q.task = alone_ahead p s r lq l' both lr' q.task L.alone A alone' alike' in
      let rests : Rests both q.task = ap (λ (h : Heap). h.worker) (A.heaps q.task ne) ∙ rested_worker (task_steps p l q.task q.fresh) q.task in
      fits_by v' (finished (with_belongings (with_belongings v q.task q.belongings) r.task r.belongings) (with_belongings v' r.task r.belongings) both lr' q.task z f fs B.sound (ahead_sound p s r l' K'.sound steady')
      (together v lq (ahead p r l) both q.task r.task q.belongings r.belongings B F.stands G.stands) rests
      (ends_too lq l' both lr' r.task A alone' alike' q.task z ne M L) (ends_with (with_belongings v q.task q.belongings) v' r.task r.belongings q.task f fs ne C))
