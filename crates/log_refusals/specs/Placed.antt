-- The lines at which the events of a log stand.
use Rattle.std.specs.Prelude.{◌≡◌, ℕ, ◌+◌, ◌==◌, ◌&&◌, Bool, Option, Some, None, Result, Ok, Err, List, [], ◌∷◌, ◌++◌, map, fold, if◌then◌else◌}
use Rattle.log_lines.specs.declared.cause.LogCause.{LogCause}
use Rattle.log_lines.specs.declared.line.Act.{Act}
use Rattle.log_lines.specs.declared.line.LogLine.{LogLine}
use Rattle.log_lines.specs.declared.line.LogLine.TheVariants as lines
use Rattle.log_lines.specs.Grammar.{line_of}
use Rattle.fork_graph.specs.declared.graph.GraphStrand.{GraphStrand}
use Rattle.fork_graph.specs.Graph.{strand}
use Rattle.log_form.specs.declared.fault.LogPosition.{LogPosition}
use Rattle.log_form.specs.Text.{lines_in}
use Rattle.log_form.specs.Events.{Event, event, events_of, is_on, strand_behind}

-- an event, and the line that says it
pub record Placed : Type 0 where
  pub at : LogPosition
  pub event : Event

abbrev pub position : ℕ → ℕ → LogPosition
position file line = record { file = file; line = line }

-- what the open strand does, if one is open
abbrev pub placed_act : LogPosition → Option GraphStrand → Act → List Placed
placed_act at None act = []
placed_act at (Some u) act = record { at = at; event = event u act } ∷ []

abbrev pub placed_said : LogPosition → Option GraphStrand → Result LogLine LogCause → List Placed
placed_said at here (Ok (lines.Act act)) = placed_act at here act
placed_said at here (Ok lines.Version) = []
placed_said at here (Ok (lines.Strand t i)) = []
placed_said at here (Ok (lines.Name site)) = []
placed_said at here (Ok lines.Comment) = []
placed_said at here (Ok lines.End) = []
placed_said at here (Err cause) = []

-- which strand is open behind an act, and behind a line
abbrev pub here_behind_act : Option GraphStrand → Act → Option GraphStrand
here_behind_act None act = None
here_behind_act (Some u) act = strand_behind u act

abbrev pub here_behind : Option GraphStrand → Result LogLine LogCause → Option GraphStrand
here_behind here (Ok (lines.Act act)) = here_behind_act here act
here_behind here (Ok (lines.Strand t i)) = Some (strand t i)
here_behind here (Ok lines.Version) = here
here_behind here (Ok (lines.Name site)) = here
here_behind here (Ok lines.Comment) = here
here_behind here (Ok lines.End) = here
here_behind here (Err cause) = here

-- what happens at the lines of a file from one on
abbrev pub placed_lines : ℕ → Option GraphStrand → ℕ → List (List ℕ) → List Placed
placed_lines file here line [] = []
placed_lines file here line (l ∷ ls) =
    placed_said (position file line) here (line_of l) ++ placed_lines file (here_behind here (line_of l)) (line + 1) ls

-- of the files from one on
abbrev pub placed_files : ℕ → List (List ℕ) → List Placed
placed_files file [] = []
placed_files file (text ∷ texts) = placed_lines file None 1 (lines_in text) ++ placed_files (file + 1) texts

-- all that happens in a log
abbrev pub placed_events : List (List ℕ) → List Placed
placed_events texts = placed_files 0 texts

abbrev pub EventsHaveLines : Type 0
EventsHaveLines = (texts : List (List ℕ)) → map (λ p. p.event) (placed_events texts) ≡ events_of texts

-- OF ONE STRAND

-- the last line at which the strand does something
abbrev pub later_of : GraphStrand → Option LogPosition → Placed → Option LogPosition
later_of u before p = if is_on u p.event then Some p.at else before

abbrev pub last_line : List (List ℕ) → GraphStrand → Option LogPosition
last_line texts u = fold (later_of u) None (placed_events texts)
