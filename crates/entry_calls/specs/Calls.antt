-- The results of the calls that make an entry, stated for the shared value, and in the same words for the value that
-- counts its entries and for the one whose entries keep the pace. A call is refused if and only if the ledger refuses
-- it, and then changes nothing.
use Rattle.std.specs.Prelude.{◌≡◌, ℕ, Some, None, Result, Vec, IfErr, IfOk, OnErr, OnOk, min}
use Rattle.std.specs.declared.alloc.Global.{Global}
use Rattle.leaf_collections.specs.below.run_trace.{Took, Ran, Chunk, Begin, PutOff, Mark, More, Sweep, Fuel}
use Rattle.leaf_collections.specs.below.run_ledger.{Refused, heap_of, left_in}
use Rattle.leaf_collections.specs.below.object_layout.{Addr}
use Rattle.leaf_collections.specs.below.copying_gc.{Moved, ToChunks}
use Rattle.leaf_collections.specs.below.task_machine.{Private}
use Rattle.leaf_collections.specs.below.core_invariant.{NotEntered, SharedValue, accounts, rest_at, EachPartStillFits, WorkerPartFits, OthersFit, EntersOrRefuses, Enters, IsSamePart, refusal_of_result, refused, CopyingHasBegun}
use Rattle.leaf_collections.specs.below.task_slots.{ParkedTask}
use Rattle.fork_join_commit.specs.below.step_commit.{alone_entry}
use Rattle.fork_join_commit.specs.Joins.{IsUnchanged}
use Rattle.leaf_collections.specs.LeafEnd.{end_entry, without_collection}
use Rattle.entry_calls.specs.declared.answers.NotEnded.{NotEnded}
use Rattle.entry_calls.specs.declared.answers.NotLeft.{NotLeft}
use Rattle.entry_calls.specs.declared.answers.Ran.{Ran as RanOf}
use Rattle.entry_calls.specs.declared.answers.Lent.{Lent}
use Rattle.entry_calls.specs.Ends.{LeavingAnswers, end_cause}
use Rattle.entry_calls.specs.Ran.{LentTo, RanTo}

-- ---- A TASK AND ITS STEPS

-- the worker takes the task t, and gets its part, with its parked heap
pub record TakesTask (w after : SharedValue) (k t : ℕ) (answer : Result Private Refused) : Type 0 where
  pub refused : refusal_of_result answer ≡ refused w (record { worker = k; kind = Took t })
  pub same : OnErr answer (after ≡ w)
  pub enters : OnOk answer (Enters w after (record { worker = k; kind = Took t }))
  pub task : IfOk answer (λ (p : Private). p.task ≡ t)
  pub fresh : IfOk answer (λ (p : Private). p.fresh ≡ 0)
  pub heap : IfOk answer (λ (p : Private). (r : ParkedTask) × (rest_at w.rests t ≡ Some r) × (p.heap ≡ r.heap))
  pub idle : IfOk answer (λ (p : Private). p.begun ≡ None)
  pub fits : IfOk answer (λ (p : Private). WorkerPartFits after k p)
  pub others : OnOk answer (OthersFit w after k)

-- the fresh steps of the part p, all private, are committed: it becomes q, without any
pub record EntersSteps (w after : SharedValue) (k : ℕ) (p q : Private) (answer : Result (Unit {0}) Refused) : Type 0 where
  pub refused : refusal_of_result answer ≡ refused w (record { worker = k; kind = Ran p.task p.fresh })
  pub same : OnErr answer (after ≡ w)
  pub back : OnErr answer (q ≡ p)
  pub enters : OnOk answer (Enters w after (record { worker = k; kind = Ran p.task p.fresh }))
  pub end : OnOk answer (after.end ≡ w.end)
  pub goes : OnOk answer (q ≡ record p { fresh = 0 })
  pub fits : WorkerPartFits after k q
  pub others : OnOk answer (OthersFit w after k)

-- they are committed with its next one, which isn't private, unless that one gives the part up. If it does, or an
-- allocation fails, nothing is committed, though heaps and sets may have spare capacity
pub record EntersLent (w after : SharedValue) (k : ℕ) (p q : Private) (answer : Result Lent NotEntered) : Type 0 where
  pub refused : EntersOrRefuses answer (refused w (alone_entry k p))
  pub same : IfErr answer (λ (e : NotEntered). IsUnchanged e w after)
  pub still : OnErr answer (EachPartStillFits w after)
  pub back : OnErr answer (q ≡ p)
  pub answered : IfOk answer (LentTo w after k p q)

-- they are committed with its next one, which gives the part up: only an allocation can fail
pub record EntersLeaving (w after : SharedValue) (k : ℕ) (p : Private) (answer : Result RanOf NotLeft) : Type 0 where
  pub refused : LeavingAnswers answer None
  pub same : IfErr answer (λ (e : NotLeft). IsUnchanged e.cause w after)
  pub still : OnErr answer (EachPartStillFits w after)
  pub back : IfErr answer (λ (e : NotLeft). e.part ≡ p)
  pub answered : IfOk answer (RanTo w after k p)

-- the run ends because its fuel is used up
pub record EndsForFuel (w after : SharedValue) (k : ℕ) (answer : Result (Unit {0}) Refused) : Type 0 where
  pub refused : refusal_of_result answer ≡ refused w (record { worker = k; kind = Fuel })
  pub same : OnErr answer (after ≡ w)
  pub enters : OnOk answer (Enters w after (record { worker = k; kind = Fuel }))
  pub all : OnOk answer (EachPartStillFits w after)

-- ---- THE HEAP OF A RUNNING TASK

-- the part p gets a chunk, and becomes q; or the run ends without chunks
pub record GetsChunk (w after : SharedValue) (k : ℕ) (p q : Private) (answer : Result (Unit {0}) NotEntered) : Type 0 where
  pub refused : EntersOrRefuses answer (refused w (record { worker = k; kind = Chunk p.task }))
  pub same : OnErr answer (after ≡ w)
  pub back : OnErr answer (IsSamePart p q)
  pub rest : q ≡ record p { heap = q.heap }
  pub enters : OnOk answer (Enters w after (record { worker = k; kind = Chunk p.task }))
  pub fits : WorkerPartFits after k q
  pub others : OnOk answer (OthersFit w after k)

-- a leaf collection of the part p begins, which becomes q: the result is its roots, and new chunks with all that
-- copying needs
pub record BeginsLeaf (w after : SharedValue) (k : ℕ) (p q : Private) (answer : Result (Vec Addr Global × ToChunks) NotEntered) : Type 0 where
  pub refused : EntersOrRefuses answer (refused w (record { worker = k; kind = Begin p.task }))
  pub same : OnErr answer (after ≡ w)
  pub back : OnErr answer (IsSamePart p q)
  pub begun : IfOk answer (λ r. CopyingHasBegun p q r.0.items r.1)
  pub enters : OnOk answer (Enters w after (record { worker = k; kind = Begin p.task }))
  pub fits : WorkerPartFits after k q
  pub others : OnOk answer (OthersFit w after k)

-- the collection of the part p ends, whose heap was copied with the result m: it becomes q
pub record EndsLeaf (w after : SharedValue) (k : ℕ) (p q : Private) (m : Moved) (answer : Result (Unit {0}) NotEnded) : Type 0 where
  pub refused : end_cause answer ≡ refused w (end_entry k p m)
  pub same : OnErr answer (after ≡ w)
  pub back : OnErr answer (q ≡ p)
  pub moved : IfErr answer (λ (e : NotEnded). e.moved ≡ m)
  pub part : OnOk answer (q ≡ without_collection p)
  pub enters : OnOk answer (Enters w after (end_entry k p m))
  pub fits : OnOk answer (WorkerPartFits after k q)
  pub others : OnOk answer (OthersFit w after k)

-- a due collection of the part p is put off: its words are counted from 0 on in q
pub record PutsOff (w after : SharedValue) (k : ℕ) (p q : Private) (answer : Result (Unit {0}) Refused) : Type 0 where
  pub refused : refusal_of_result answer ≡ refused w (record { worker = k; kind = PutOff p.task })
  pub same : OnErr answer (after ≡ w)
  pub back : OnErr answer (q ≡ p)
  pub part : OnOk answer (q ≡ record p { heap = record p.heap { since = 0 } })
  pub enters : OnOk answer (Enters w after (record { worker = k; kind = PutOff p.task }))
  pub fits : WorkerPartFits after k q
  pub others : OnOk answer (OthersFit w after k)

-- ---- THE HEAP OF A WAITING TASK

-- the marking of the heap of t begins
pub record BeginsMarking (w after : SharedValue) (k t : ℕ) (answer : Result (Unit {0}) NotEntered) : Type 0 where
  pub refused : EntersOrRefuses answer (refused w (record { worker = k; kind = Mark t }))
  pub same : OnErr answer (after ≡ w)
  pub enters : OnOk answer (Enters w after (record { worker = k; kind = Mark t }))
  pub fits : OnOk answer (EachPartStillFits w after)

-- n more objects of it are marked, or all that are left: the result is how many
pub record MarksMore (w after : SharedValue) (k t n : ℕ) (answer : Result ℕ Refused) : Type 0 where
  pub refused : refusal_of_result answer ≡ refused w (record { worker = k; kind = More t n })
  pub same : OnErr answer (after ≡ w)
  pub count : IfOk answer (λ many. many ≡ min n (left_in (heap_of (accounts w) t)))
  pub enters : OnOk answer (Enters w after (record { worker = k; kind = More t n }))
  pub fits : OnOk answer (EachPartStillFits w after)

-- it is swept, and the given units are released
pub record SweepsHeap (w after : SharedValue) (k t given : ℕ) (answer : Result (Unit {0}) Refused) : Type 0 where
  pub refused : refusal_of_result answer ≡ refused w (record { worker = k; kind = Sweep t given })
  pub same : OnErr answer (after ≡ w)
  pub enters : OnOk answer (Enters w after (record { worker = k; kind = Sweep t given }))
  pub fits : OnOk answer (EachPartStillFits w after)
