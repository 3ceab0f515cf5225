-- What is wrong with the tasks of a log.
use Rattle.std.specs.Prelude.{◌≡◌, ◌<◌, ℕ, None, List, length}
use Rattle.log_tasks.specs.Common.{GraphTurn, GraphStrand, Extent, Whole, tasks_in, strand, last_of, IsFault, Event}
use Rattle.fork_graph.specs.declared.fault.StrandCause.TheVariants as graph
use Rattle.log_tasks.specs.declared.fault.TaskCause.{TaskCause}
use Rattle.log_tasks.specs.declared.fault.TaskCause.TheVariants.{JoinsNoOpenChild, HasNoEnd, LeavesUnjoined, IsUnreached, GoesOnAfterEnd}
use Rattle.log_tasks.specs.declared.fault.TaskFault.{TaskFault}
use Rattle.log_tasks.specs.Ends.{end_of, DoesSomething}
use Rattle.log_tasks.specs.Numbers.{AreNumbers, log_strand}
use Rattle.log_tasks.specs.Rows.{AreRows}

module _ (events : List Event) (extent : Extent) (numbers : List ℕ) (rows : List (List GraphTurn)) where
  -- in a whole log, at a task's last strand
  abbrev pub IsWholeAtEnd : GraphStrand → Type 0
  IsWholeAtEnd u = (extent ≡ Whole) × (u ≡ last_of (tasks_in rows) u.task)

  -- a strand has this fault; tasks are numbered without gaps
  abbrev pub HasCause : GraphStrand → TaskCause → Type 0
  HasCause u JoinsNoOpenChild = IsFault (tasks_in rows) (length rows) extent u graph.JoinsNoOpenChild
  HasCause u HasNoEnd = IsWholeAtEnd u × (end_of events (log_strand numbers u) ≡ None)
  HasCause u LeavesUnjoined = IsFault (tasks_in rows) (length rows) extent u graph.LeavesUnjoined
  HasCause u IsUnreached = IsFault (tasks_in rows) (length rows) extent u graph.IsUnreached
  HasCause u GoesOnAfterEnd = IsWholeAtEnd u × ((i : ℕ) × (u.index < i) × DoesSomething events (log_strand numbers (strand u.task i)))

  -- no task below one has a fault
  abbrev pub HasNoneBelow : ℕ → Type 0
  HasNoneBelow t = (u : GraphStrand) (cause : TaskCause) → u.task < t → HasCause u cause → ⊥

-- the order in which a task's faults are told
abbrev pub rank_of : TaskCause → ℕ
rank_of JoinsNoOpenChild = 0
rank_of HasNoEnd = 1
rank_of LeavesUnjoined = 2
rank_of IsUnreached = 3
rank_of GoesOnAfterEnd = 4

-- of the lowest task that has a fault it's the first one, by the order of causes, and at its earliest strand
pub record IsFirstOf (events : List Event) (extent : Extent) (numbers : List ℕ) (rows : List (List GraphTurn)) (fault : TaskFault) : Type 0 where
  pub there : fault.strand.task < length rows
  pub has : HasCause events extent numbers rows fault.strand fault.cause
  pub none_below : HasNoneBelow events extent numbers rows fault.strand.task
  pub none_before : (u : GraphStrand) (cause : TaskCause) → u.task ≡ fault.strand.task → rank_of cause < rank_of fault.cause → HasCause events extent numbers rows u cause → ⊥
  pub none_earlier : (u : GraphStrand) → u.task ≡ fault.strand.task → u.index < fault.strand.index → HasCause events extent numbers rows u fault.cause → ⊥

-- the fault, by the log's numbers
abbrev pub in_log : List ℕ → TaskFault → TaskFault
in_log numbers fault = record { strand = log_strand numbers fault.strand; cause = fault.cause }

-- a log's first fault of a task
pub record IsFirstTaskFault (events : List Event) (extent : Extent) (fault : TaskFault) : Type 0 where
  pub numbers : List ℕ
  pub rows : List (List GraphTurn)
  pub numbers_are : AreNumbers events numbers
  pub rows_are : AreRows events numbers rows
  pub found : TaskFault
  pub is_first : IsFirstOf events extent numbers rows found
  pub is : fault ≡ in_log numbers found
