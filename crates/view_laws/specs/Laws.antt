-- What tasks see of their ancestors' heaps: it is never written and refers only up; all of it is held; no level is
-- hidden where it would be looked up; and reads of it have the same result whatever others do.
use Rattle.std.specs.Prelude.{◌≡◌, ◌≢◌, ◌⊎◌, ℕ, suc, ◌<◌, ◌++◌, true, false, Some, None, List, [], ◌∷◌, drop, slice_get}
use Rattle.core_invariant.specs.below.plain_vec.{In as InList}
use Rattle.core_invariant.specs.below.hh_lang.{ProgramText}
use Rattle.core_invariant.specs.below.hh_model.{Name, Object, Task, object_at, task_names, run}
use Rattle.core_invariant.specs.below.run_trace.{EntryValue, SettingsValue}
use Rattle.core_invariant.specs.below.run_ledger.{Ledger, is_legal, ledger_of, SomeHeapHas, collecting, task_steps}
use Rattle.core_invariant.specs.below.object_layout.{Located}
use Rattle.core_invariant.specs.below.refinement.{Chunk, In, Memory, objects, LevelHasChunk}
use Rattle.core_invariant.specs.below.task_machine.{Private, Ran, RunsSteps}
use Rattle.core_invariant.specs.SharedValue.{SharedValue, accounts, value_of}
use Rattle.core_invariant.specs.Stands.{IsSharedValue}
use Rattle.core_invariant.specs.WorkerPartFits.{WorkerPartFits, OthersFit, beyond}
use Rattle.core_invariant.specs.Links.{above_of}

-- ---- IMMUTABLE OBJECTS

-- whatever steps follow, such an object doesn't change
abbrev pub FrozenStay : Type 0
FrozenStay =
    (p : ProgramText) (limit : ℕ) (ts more : List ℕ) (n : Name) (o : Object) → object_at (run p limit ts).store n ≡ Some o → o.mutable ≡ false → object_at (run p limit (ts ++ more)).store n ≡ Some o

-- ---- HELD NAMES

-- references lead from the one name to the other through these, one after another
abbrev pub LeadTo : List (List Object) → Name → List Name → Name → Type 0
LeadTo store n [] k = n ≡ k
LeadTo store n (m ∷ ms) k = (o : Object) × (object_at store n ≡ Some o) × InList o.refs (Some m) × LeadTo store m ms k

-- after a legal journal and further steps of a task (none if it is in a leaf collection), each name to which references
-- lead from those that the task holds is in some heap's account
abbrev pub SeenNamesAreHeld : Type 0
SeenNamesAreHeld =
    (p : ProgramText) (s : SettingsValue) (journal : List EntryValue) (t k : ℕ) → is_legal p s journal ≡ true → (k ≡ 0) ⊎ (collecting (slice_get (ledger_of p s journal).heaps t) ≡ false)
    → let l : Ledger = task_steps p (ledger_of p s journal) t k in
    (x : Task) (n m : Name) (by : List Name) → slice_get l.machine.tasks t ≡ Some x → InList (task_names x) n → LeadTo l.machine.store n by m → SomeHeapHas l.heaps m

-- ---- LEVELS

-- u, an ancestor of t that waits, has given a level of its view, after which come exactly those that u sees; an object
-- of u's is in no chunk that a nearer level has, and in none of t's own
pub record IsDisjointLevel (v : Memory) (u t : ℕ) : Type 0 where
  pub place : ℕ
  pub behind : drop (suc place) (v.belongings t).view ≡ (v.belongings u).view
  pub levels : (i : ℕ) (level : List Chunk) (o : Located) → i < place → slice_get (v.belongings t).view i ≡ Some level → LevelHasChunk level o.at.chunk → In (objects v u) o → ⊥
  pub own : (o : Located) → LevelHasChunk (v.belongings t).chunks o.at.chunk → In (objects v u) o → ⊥

-- ---- READS

-- the steps from p to q are those of the machine after this journal
abbrev pub AreSteps : SharedValue → Private → ℕ → Private → Type 0
AreSteps w p n q = Ran w.program p (beyond w.program (accounts w) p).machine (above_of (value_of w) (accounts w) p.task) n q

-- so they are before and after an entry of another worker
abbrev pub ReadsStay : Type 0
ReadsStay =
    (w after : SharedValue) (k other : ℕ) (p q : Private) (n : ℕ) → IsSharedValue w → IsSharedValue after → (accounts w).end ≡ None → (accounts after).end ≡ None → after.program ≡ w.program
    → OthersFit w after other → k ≢ other → WorkerPartFits w k p → RunsSteps w.program p n q → AreSteps w p n q × AreSteps after p n q
