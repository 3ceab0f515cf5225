-- The turns that a log tells.
use Rattle.std.specs.Prelude.{◌≡◌, ◌==◌, ℕ, true, List, [], ◌∷◌, ◌++◌, length, if◌then◌else◌}
use Rattle.std.specs.List.{flat_map}
use Rattle.run_log_laws.specs.below.fork_graph.{GraphTurn, Spawn, Join, TaskTurns}
use Rattle.log_lines.specs.declared.line.Act.{Act}
use Rattle.log_lines.specs.declared.line.Act.TheVariants as acts
use Rattle.log_form.specs.Events.{Event}
use Rattle.run_log_laws.specs.below.hh_lang.{ProgramText}
use Rattle.hh_model.specs.declared.data.Edge.{Edge}
use Rattle.run_log.specs.below.run_trace.{EntryValue, SettingsValue}
use Rattle.run_log.specs.below.run_ledger.{is_legal, machine_of}
use Rattle.run_log.specs.Log.{lines_of}
use Rattle.run_log_laws.specs.Graph.{turns_of}
use Rattle.run_turn_laws.specs.Events.{events_told}

-- the turn that an act is, if it is one
abbrev pub turn_by : Act → List GraphTurn
turn_by (acts.Access a) = []
turn_by (acts.Yield r) = []
turn_by (acts.Store r) = []
turn_by (acts.Birth block length) = []
turn_by (acts.Release block) = []
turn_by (acts.Work units) = []
turn_by (acts.Spawn c) = Spawn c ∷ []
turn_by (acts.Join c) = Join c ∷ []
turn_by acts.Finish = []

abbrev pub turns_by : ℕ → Event → List GraphTurn
turns_by t e = if e.strand.task == t then turn_by e.act else []

-- the turns of each task, in the order in which they are told
abbrev pub turns_told : List Event → TaskTurns
turns_told events t = flat_map (turns_by t) events

-- after what happened before, each event is on the strand to which its task's turns so far lead
abbrev pub FollowTurns : List Event → List Event → Type 0
FollowTurns before [] = Unit {0}
FollowTurns before (e ∷ rest) = (e.strand.index ≡ length (turns_told before e.strand.task)) × FollowTurns (before ++ e ∷ []) rest

-- the turns that are told are these edges, each on the strand to which the task's earlier ones lead
pub record TellEdges (edges : List Edge) (events : List Event) : Type 0 where
  pub turns : (t : ℕ) → turns_told events t ≡ turns_of edges t
  pub order : FollowTurns [] events

-- the log of a legal journal tells the edges of its run
abbrev pub LogsTellEdges : Type 0
LogsTellEdges = (p : ProgramText) (s : SettingsValue) (journal : List EntryValue) → is_legal p s journal ≡ true → TellEdges (machine_of p s journal).edges (events_told (lines_of p s journal))
