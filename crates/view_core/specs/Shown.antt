-- What is shown of an input: a picture, or why the input is refused, in the words of hheap.
use Rattle.std.specs.Prelude.{ℕ, Option, Some, None, List, [], ◌∷◌, codes}
use Rattle.view_core.specs.Common.{ProgramText, SettingsValue, EntryValue, RefusedAt, refused_as_run, end_line, ImageFault, image_fault, InputFault, TraceInput, input_fault, settings_for, IsInput, Entry, Image, refusal_of, RepliesRefusal, graph_of, timeline, table, log_of, Clashes, Verdict, Agree, AgreeButForPrints, MayDiffer, IsAnswer, verdict_of, clashes_text, RunView, Timeline, Tasks, Schedules, Log, AnswerStatus, Done, Trace, Races, Reply, Says}
use Rattle.view_arguments.specs.declared.line.RunView.TheVariants.{Races as RacesView}
use Rattle.view_core.specs.Races.{ShowsRaces}

-- HEAPS

-- the graph of a sound image, or its first fault
abbrev pub ShowsImage : Option ℕ → ℕ → List ℕ → Option ImageFault → Reply → Type 0
ShowsImage p limit input None = Says Done (graph_of p limit input)
ShowsImage p limit input (Some f) = RepliesRefusal (Image f)

abbrev pub ShowsHeaps : Option ℕ → ℕ → List ℕ → Reply → Type 0
ShowsHeaps p limit input = ShowsImage p limit input (image_fault input)

-- RUNS

-- the run didn't end by the return of main
abbrev pub not_whole : List ℕ
not_whole = end_line (codes "no whole run" ∷ [])

abbrev pub status_of_verdict : Verdict → AnswerStatus
status_of_verdict Agree = Done
status_of_verdict AgreeButForPrints = Done
status_of_verdict (MayDiffer n) = Races

-- the pairs of a whole run that aren't in order, and what they say of all schedules
abbrev pub SaysSchedules : Option Clashes → Reply → Type 0
SaysSchedules None = Says Trace not_whole
SaysSchedules (Some c) = Says (status_of_verdict (verdict_of c)) (clashes_text c)

abbrev pub ShowsSchedules : ProgramText → SettingsValue → List EntryValue → Reply → Type 0
ShowsSchedules p s journal w = (answer : Option Clashes) × IsAnswer p s journal answer × SaysSchedules answer w

-- what each view shows of a run, whose program's text stands at the beginning of the input
abbrev pub ShowsJournal : RunView → List ℕ → ProgramText → SettingsValue → List EntryValue → Reply → Type 0
ShowsJournal Timeline input p s journal = Says Done (timeline p s journal)
ShowsJournal Tasks input p s journal = Says Done (table p s journal)
ShowsJournal Schedules input p s journal = ShowsSchedules p s journal
ShowsJournal RacesView input p s journal = ShowsRaces input p s journal
ShowsJournal Log input p s journal = Says Done (log_of p s journal)

-- that of a journal that has an end, or its first refused entry, or that it is short
abbrev pub ShowsWhole : (Reply → Type 0) → Option RefusedAt → Reply → Type 0
ShowsWhole P None = P
ShowsWhole P (Some r) = RepliesRefusal (Entry r)

abbrev pub ShowsTrace : RunView → SettingsValue → List ℕ → TraceInput → Reply → Type 0
ShowsTrace v s input t = ShowsWhole (ShowsJournal v input t.program (settings_for s t) t.trace.entries) (refused_as_run t.program (settings_for s t) t.trace.entries)

-- of a program with a trace, or its first fault
abbrev pub ShowsInput : RunView → SettingsValue → List ℕ → Option InputFault → Reply → Type 0
ShowsInput v s input None w = (t : TraceInput) × IsInput input t × ShowsTrace v s input t w
ShowsInput v s input (Some f) w = RepliesRefusal (refusal_of f) w

abbrev pub ShowsRun : RunView → SettingsValue → List ℕ → Reply → Type 0
ShowsRun v s input = ShowsInput v s input (input_fault input)
