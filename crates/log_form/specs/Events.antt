-- What the strands of a log do: one event for each line that is an act, in the order of the lines.
use Rattle.std.specs.Prelude.{ℕ, ◌+◌, ◌==◌, ◌&&◌, ◌||◌, Bool, true, false, not, Option, Some, None, Result, Ok, Err, List, [], ◌∷◌, ◌++◌, map, filter}
use Rattle.std.specs.List.{list_any}
use Rattle.log_lines.specs.declared.cause.LogCause.{LogCause}
use Rattle.log_lines.specs.declared.line.Act.{Act}
use Rattle.log_lines.specs.declared.line.Act.TheVariants as acts
use Rattle.log_lines.specs.declared.line.LogLine.{LogLine}
use Rattle.log_lines.specs.declared.line.LogLine.TheVariants as lines
use Rattle.log_lines.specs.Grammar.{line_of}
use Rattle.fork_graph.specs.declared.graph.GraphStrand.{GraphStrand}
use Rattle.fork_graph.specs.Graph.{strand}
use Rattle.log_form.specs.Text.{lines_in}

-- a strand does something
pub record Event : Type 0 where
  pub strand : GraphStrand
  pub act : Act

abbrev pub event : GraphStrand → Act → Event
event u act = record { strand = u; act = act }

-- where the next line of a file stands: on which strand, if one is open; whether the file's end came; and all that
-- happened before, also in the files before
pub record Spot : Type 0 where
  pub here : Option GraphStrand
  pub closed : Bool
  pub events : List Event

-- behind a spawn or a join the task's next strand is open, and behind its end none
abbrev pub next_strand : GraphStrand → GraphStrand
next_strand u = strand u.task (u.index + 1)

abbrev pub strand_behind : GraphStrand → Act → Option GraphStrand
strand_behind u (acts.Spawn c) = Some (next_strand u)
strand_behind u (acts.Join c) = Some (next_strand u)
strand_behind u acts.Finish = None
strand_behind u _ = Some u

abbrev pub spot_behind_act : Spot → Option GraphStrand → Act → Spot
spot_behind_act spot None act = spot
spot_behind_act spot (Some u) act = record { here = strand_behind u act; closed = spot.closed; events = spot.events ++ event u act ∷ [] }

-- behind a line
abbrev pub spot_behind : Spot → LogLine → Spot
spot_behind spot lines.Version = spot
spot_behind spot (lines.Strand t i) = record { here = Some (strand t i); closed = spot.closed; events = spot.events }
spot_behind spot (lines.Act act) = spot_behind_act spot spot.here act
spot_behind spot (lines.Name site) = spot
spot_behind spot lines.Comment = spot
spot_behind spot lines.End = record { here = spot.here; closed = true; events = spot.events }

abbrev pub spot_behind_said : Spot → Result LogLine LogCause → Spot
spot_behind_said spot (Ok line) = spot_behind spot line
spot_behind_said spot (Err cause) = spot

abbrev pub spot_behind_all : Spot → List (List ℕ) → Spot
spot_behind_all spot [] = spot
spot_behind_all spot (l ∷ ls) = spot_behind_all (spot_behind_said spot (line_of l)) ls

-- where a file begins
abbrev pub file_begin : List Event → Spot
file_begin before = record { here = None; closed = false; events = before }

-- where a file ends
abbrev pub file_end : List Event → List ℕ → Spot
file_end before text = spot_behind_all (file_begin before) (lines_in text)

-- all that happens in the texts of files, behind what happened before
abbrev pub events_behind : List Event → List (List ℕ) → List Event
events_behind before [] = before
events_behind before (text ∷ texts) = events_behind (file_end before text).events texts

abbrev pub events_of : List (List ℕ) → List Event
events_of texts = events_behind [] texts

-- a file was cut off where its end is missing
abbrev pub is_cut_behind : List Event → List (List ℕ) → Bool
is_cut_behind before [] = false
is_cut_behind before (text ∷ texts) = not (file_end before text).closed || is_cut_behind (file_end before text).events texts

abbrev pub is_cut : List (List ℕ) → Bool
is_cut texts = is_cut_behind [] texts

-- OF ONE STRAND

abbrev pub is_on : GraphStrand → Event → Bool
is_on u e = (e.strand.task == u.task) && (e.strand.index == u.index)

-- what a strand does, in its order
abbrev pub acts_on : List Event → GraphStrand → List Act
acts_on events u = map (λ e. e.act) (filter (is_on u) events)

-- the act ends its strand
abbrev pub is_last : Act → Bool
is_last (acts.Spawn c) = true
is_last (acts.Join c) = true
is_last acts.Finish = true
is_last _ = false

abbrev pub has_ended : List Event → GraphStrand → Bool
has_ended events u = list_any (λ e. is_on u e && is_last e.act) events
