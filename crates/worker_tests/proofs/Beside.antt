-- The states of two workers, and what they preserve.
use Rattle.std.proofs.Common.{◌≡◌, ◌<◌, List, [], ◌∷◌, length, get_or, remove, slice_get, sym, subst, arith, Some}
use Rattle.atomic_table.specs.Seated.{TableId}
use Rattle.journal_replay.specs.below.hh_lang.{ProgramText}
use Rattle.journal_replay.specs.below.run_trace.{SettingsValue}
use Rattle.worker_run.specs.below.core_invariant.{SharedValue}
use Rattle.worker_run.specs.below.turn_lock.{view}
use Rattle.worker_run.specs.declared.worker_state.WorkerState.{WorkerState}
use Rattle.worker_run.specs.below.turn_entries.{Ready, ComesWith}
use Rattle.worker_run.specs.WorkerStates.{AreAllWorkerStates, ChangesHand, IsWorkerState}
use Rattle.worker_run.proofs.Rows.{first_of}

-- what the worker comes with doesn't depend on its hand
pub comes_still : (p : ProgramText) (d e : WorkerState SharedValue) (ready : Ready) → ChangesHand d e → ComesWith p d.worker (view d.seat).part ready → ComesWith p e.worker (view e.seat).part ready
comes_still p d e ready C with_it = subst (λ (x : WorkerState SharedValue). ComesWith p x.worker (view x.seat).part ready) (sym C.rest) with_it

second_of : {A : Type 0} (l : List A) (x : A) → 0 < length l → x ≡ get_or l 0 x → (y : A) → slice_get (remove l 0) 0 ≡ Some y → slice_get l 1 ≡ Some y
second_of [] x h e y at = absurd (omega arith)
second_of (z ∷ zs) x h e y at = at

-- the first two worker states
module _ (z : TableId) (p : ProgramText) (s : SettingsValue) (worker_states : List (WorkerState SharedValue)) (first : WorkerState SharedValue) (all : AreAllWorkerStates z p s worker_states) (some : 0 < length worker_states) (is : first ≡ get_or worker_states 0 first) where
  pub first_worker_state : IsWorkerState z p first
  first_worker_state = (all.each_worker_state 0 first (first_of worker_states first some is)).0

  pub second_worker_state : (rest : List (WorkerState SharedValue)) (second : WorkerState SharedValue) → rest ≡ remove worker_states 0 → 0 < length rest → second ≡ get_or rest 0 second → IsWorkerState z p second
  second_worker_state rest second left more at = (all.each_worker_state 1 second (second_of worker_states first some is second (subst (λ (l : List (WorkerState SharedValue)). slice_get l 0 ≡ Some second) left (first_of rest second more at)))).0
