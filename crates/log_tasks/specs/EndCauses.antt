-- What is wrong with a task after its last turn, by what is known.
use Rattle.std.specs.Prelude.{◌≡◌, ◌<◌, ◌&&◌, ◌||◌, ◌==◌, ℕ, Bool, true, false, Option, Some, None, List, length, get_or, nat_lt, nat_le, if◌then◌else◌}
use Rattle.log_tasks.specs.Common.{GraphTurn, StrandCause, StrandFault, tasks_in, last_of}
use Rattle.fork_graph.specs.declared.fault.StrandCause.TheVariants as graph
use Rattle.log_tasks.specs.declared.ending.StrandEnd.{StrandEnd}
use Rattle.log_tasks.specs.declared.fault.TaskCause.{TaskCause}
use Rattle.log_tasks.specs.declared.fault.TaskCause.TheVariants.{JoinsNoOpenChild, HasNoEnd, LeavesUnjoined, IsUnreached, GoesOnAfterEnd}
use Rattle.log_tasks.specs.declared.fault.TaskFault.{TaskFault}
use Rattle.log_tasks.specs.declared.told.Told.{Told}
use Rattle.log_tasks.specs.Told.{end_told, top_told}
use Rattle.log_tasks.specs.Faults.{rank_of}

-- a strand past the last one does something
abbrev pub goes_past : ℕ → Option ℕ → Bool
goes_past last None = false
goes_past last (Some top) = nat_lt last top

abbrev pub end_cause_by : Option StrandEnd → Bool → Option TaskCause
end_cause_by None past = Some HasNoEnd
end_cause_by (Some e) true = Some GoesOnAfterEnd
end_cause_by (Some e) false = None

-- of the log's task n, whose last strand has this number
abbrev pub end_cause : Told → ℕ → ℕ → Option TaskCause
end_cause told n last = end_cause_by (end_told told n last) (goes_past last (top_told told n))

module _ (told : Told) (numbers : List ℕ) (rows : List (List GraphTurn)) where
  abbrev pub end_cause_of : ℕ → Option TaskCause
  end_cause_of t = end_cause told (get_or numbers t 0) (length (tasks_in rows t))

  abbrev pub NoneEndsBelow : ℕ → Type 0
  NoneEndsBelow t = (k : ℕ) → k < t → end_cause_of k ≡ None

  pub record IsFirstEndFault (fault : TaskFault) : Type 0 where
    pub there : fault.strand.task < length rows
    pub last : fault.strand ≡ last_of (tasks_in rows) fault.strand.task
    pub cause : end_cause_of fault.strand.task ≡ Some fault.cause
    pub none_below : NoneEndsBelow fault.strand.task

-- ONE OF TWO

abbrev pub task_cause : StrandCause → TaskCause
task_cause graph.SpawnsNoNewTask = JoinsNoOpenChild
task_cause graph.JoinsNoOpenChild = JoinsNoOpenChild
task_cause graph.LeavesUnjoined = LeavesUnjoined
task_cause graph.IsUnreached = IsUnreached

abbrev pub of_graph : StrandFault → TaskFault
of_graph fault = record { strand = fault.strand; cause = task_cause fault.cause }

abbrev pub is_sooner : TaskFault → TaskFault → Bool
is_sooner one other = nat_lt one.strand.task other.strand.task || ((one.strand.task == other.strand.task) && nat_le (rank_of one.cause) (rank_of other.cause))

abbrev pub sooner : TaskFault → TaskFault → TaskFault
sooner one other = if is_sooner one other then one else other

abbrev pub sooner_of : Option TaskFault → Option TaskFault → Option TaskFault
sooner_of None other = other
sooner_of (Some one) None = Some one
sooner_of (Some one) (Some other) = Some (sooner one other)
