-- Why entries are refused, in terms of the shared value.
use Rattle.std.specs.Prelude.{ℕ, ◌&&◌, not, Bool, true, false, Option, Some, None, is_some, nat_le, nat_lt}
use Rattle.std.specs.Option.{option_flatten}
use Rattle.std.specs.Prelude.{slice_get}
use Rattle.core_invariant.specs.Common.{Kind, Took, Ran, Chunk, Begin, End, PutOff, Mark, More, Sweep, Fuel, SettingsValue, Refused, Collecting, Due, Over, Spent, NoWorker, NotNeeded, NotReady, NotSpent, RunEnd, refused_if, refused_unless, refused_holding, place_for, room_of, TaskState, Ready, Out, Waiting, Ended, Joined, state_of, Private}
use Rattle.core_invariant.specs.SharedValue.{SharedValue}

-- the causes that precede those of the entry's kind
abbrev pub first_cause : Option RunEnd → ℕ → SettingsValue → ℕ → Bool → Option Refused
first_cause end steps s worker fuel = refused_if (is_some end) Over (refused_if (nat_le s.fuel steps && not fuel) (Spent steps) (refused_unless (nat_lt worker s.workers) NoWorker None))

-- the first cause, or the next one
abbrev pub or_else : Option Refused → Option Refused → Option Refused
or_else None rest = rest
or_else (Some cause) rest = Some cause

abbrev pub is_state_ready : Option TaskState → Bool
is_state_ready None = false
is_state_ready (Some Ready) = true
is_state_ready (Some Out) = false
is_state_ready (Some Waiting) = false
is_state_ready (Some Ended) = false
is_state_ready (Some Joined) = false

abbrev pub took_cause : SharedValue → ℕ → ℕ → Option Refused
took_cause w k t = refused_unless (is_state_ready (state_of w.tree t)) NotReady (refused_holding (option_flatten (slice_get w.tasks_out k)) None)

abbrev pub fuel_cause : SharedValue → Option Refused
fuel_cause w = refused_unless (nat_le w.settings.fuel w.steps) (NotSpent w.steps) None

-- for a part that is in no leaf collection and allocates these words next, or nothing: why no chunk is given to it
abbrev pub need_cause : Private → Option ℕ → Option Refused
need_cause p None = Some (NotNeeded (room_of p.heap))
need_cause p (Some words) = refused_if (nat_le p.leaf_limit p.heap.since) (Due p.heap.since) (refused_if (is_some (place_for p.heap words)) (NotNeeded (room_of p.heap)) None)

-- of any part
abbrev pub chunk_cause : Private → Option ℕ → Option Refused
chunk_cause p asks = refused_if (is_some p.begun) Collecting (need_cause p asks)

-- the task that an entry's worker has to hold, if any
abbrev pub task_asked : Kind → Option ℕ
task_asked (Took t) = None
task_asked (Ran t k) = Some t
task_asked (Chunk t) = Some t
task_asked (Begin t) = Some t
task_asked (End t taken given left) = Some t
task_asked (PutOff t) = Some t
task_asked (Mark t) = None
task_asked (More t n) = None
task_asked (Sweep t given) = None
task_asked Fuel = None
