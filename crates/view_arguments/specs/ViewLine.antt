-- What the command-line arguments ask for.
use Rattle.std.specs.Prelude.{ℕ, List, [], ◌∷◌, Option, Some, None, codes, option_map, option_and_then, unwrap_or, if◌then◌else◌}
use Rattle.std.specs.Str.{bytes_eq}
use Rattle.clap.specs.Words.{Row, Text, fault_of, first_of, matches_of}
use Rattle.clap.specs.Walk.{is_empty}
use Rattle.image_check.specs.Line.{short_number}
use Rattle.command_line.specs.CommandLine.{command_line, file_in}
use Rattle.command_line.specs.declared.line.CommandLine.{CommandLine}
use Rattle.command_line.specs.declared.line.CommandLine.TheVariants.{Races}
use Rattle.view_arguments.specs.declared.line.RunView.{RunView}
use Rattle.view_arguments.specs.declared.line.RunView.TheVariants.{Timeline, Tasks, Schedules, Races as RacesView, Log}
use Rattle.view_arguments.specs.declared.line.Picture.TheVariants.{Heaps, Run}
use Rattle.view_arguments.specs.declared.line.ViewCall.{ViewCall}
use Rattle.view_arguments.specs.declared.line.ViewCall.TheVariants.{Usage, Of}
use Rattle.view_arguments.specs.App.{heaps_app}
use Rattle.view_arguments.specs.FaultsLine.{faults_line}
use Rattle.view_arguments.specs.PageLine.{page_line}

-- HEAPS

-- a 32-bit number, if a text is given
abbrev pub maybe_number : Option Text → Option (Option ℕ)
maybe_number None = Some None
maybe_number (Some t) = option_map Some (short_number t)

abbrev pub usual_limit : ℕ
usual_limit = 300

abbrev pub heaps_by : Option Text → Option (Option ℕ) → Option (Option ℕ) → Option ViewCall
heaps_by file (Some path) (Some limit) = Some (Of file (Heaps path (unwrap_or limit usual_limit)))
heaps_by file _ _ = None

abbrev pub heaps_in : List Row → Option ViewCall
heaps_in rows = heaps_by (file_in rows) (maybe_number (first_of (codes "path") rows)) (maybe_number (first_of (codes "limit") rows))

abbrev pub heaps_line : List Text → Option ViewCall
heaps_line words = if is_empty (fault_of heaps_app words) then heaps_in (matches_of heaps_app words) else None

-- RUNS

-- the view of a run with this name
abbrev pub run_view : Text → Option RunView
run_view name =
    if bytes_eq name (codes "timeline") then Some Timeline
    else if bytes_eq name (codes "tasks") then Some Tasks
    else if bytes_eq name (codes "schedules") then Some Schedules
    else if bytes_eq name (codes "races") then Some RacesView
    else if bytes_eq name (codes "log") then Some Log
    else None

-- it takes what `races` of hheap takes
abbrev pub run_in : RunView → Option CommandLine → Option ViewCall
run_in view (Some (Races file settings)) = Some (Of file (Run view settings))
run_in view _ = None

abbrev pub run_line : List Text → RunView → Option ViewCall
run_line words view = run_in view (command_line (codes "races" ∷ words))

-- ALL

abbrev pub usage_line : List Text → Option ViewCall
usage_line [] = Some Usage
usage_line _ = None

abbrev pub named_line : Text → List Text → Option ViewCall
named_line name words =
    if bytes_eq name (codes "heaps") then heaps_line words
    else if bytes_eq name (codes "page") then page_line words
    else if bytes_eq name (codes "faults") then faults_line words
    else if bytes_eq name (codes "--help") then usage_line words
    else option_and_then (run_line words) (run_view name)

-- what the words after the program's name ask for; None if they are no command line
abbrev pub view_arguments : List Text → Option ViewCall
view_arguments [] = None
view_arguments (name ∷ words) = named_line name words
