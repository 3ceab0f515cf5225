-- The first fault of a log.
use Rattle.std.specs.Prelude.{ℕ, ◌+◌, ◌==◌, ◌||◌, Bool, true, false, Option, Some, None, Result, Ok, Err, List, [], ◌∷◌, nat_lt, if◌then◌else◌}
use Rattle.std.specs.List.{list_any}
use Rattle.log_lines.specs.declared.cause.LogCause.{LogCause}
use Rattle.log_lines.specs.declared.cause.LogCause.TheVariants as causes
use Rattle.log_lines.specs.declared.line.Act.{Act}
use Rattle.log_lines.specs.declared.line.Act.TheVariants as acts
use Rattle.log_lines.specs.declared.line.LogLine.{LogLine}
use Rattle.log_lines.specs.declared.line.LogLine.TheVariants as lines
use Rattle.log_lines.specs.Grammar.{line_of}
use Rattle.log_lines.specs.Limits.{strand_limit}
use Rattle.fork_graph.specs.declared.graph.GraphStrand.{GraphStrand}
use Rattle.log_form.specs.declared.fault.LogFault.{LogFault}
use Rattle.log_form.specs.declared.fault.LogFault.TheVariants as faults
use Rattle.log_form.specs.declared.fault.LogPosition.{LogPosition}
use Rattle.log_form.specs.declared.fault.LocatedFault.{LocatedFault}
use Rattle.log_form.specs.Text.{lines_in}
use Rattle.log_form.specs.Events.{Event, Spot, has_ended, spot_behind_said, file_begin, file_end}

-- WHAT WAS SAID BEFORE

abbrev pub spawns : ℕ → Act → Bool
spawns c (acts.Spawn d) = d == c
spawns c _ = false

abbrev pub bears : ℕ → Act → Bool
bears b (acts.Birth d length) = d == b
bears b _ = false

abbrev pub releases : ℕ → Act → Bool
releases b (acts.Release d) = d == b
releases b _ = false

-- the root runs unspawned
abbrev pub is_spawned : List Event → ℕ → Bool
is_spawned events c = (c == 0) || list_any (λ e. spawns c e.act) events

abbrev pub is_born : List Event → ℕ → Bool
is_born events b = list_any (λ e. bears b e.act) events

abbrev pub is_released : List Event → ℕ → Bool
is_released events b = list_any (λ e. releases b e.act) events

-- OF ONE LINE

abbrev pub where_true : Bool → LogFault → Option LogFault → Option LogFault
where_true test fault otherwise = if test then Some fault else otherwise

-- the number of the task's next strand is within the limit
abbrev pub turn_fault : GraphStrand → Option LogFault
turn_fault u = if nat_lt (u.index + 1) strand_limit then None else Some (faults.NoLine causes.OverLimit)

abbrev pub claim_fault : List Event → GraphStrand → Act → Option LogFault
claim_fault before u (acts.Spawn c) = where_true (is_spawned before c) faults.SpawnedTwice (turn_fault u)
claim_fault before u (acts.Join c) = turn_fault u
claim_fault before u (acts.Birth b length) = where_true (is_born before b) faults.BornTwice None
claim_fault before u (acts.Release b) = where_true (is_released before b) faults.ReleasedTwice None
claim_fault before u _ = None

abbrev pub act_fault : List Event → Option GraphStrand → Act → Option LogFault
act_fault before None act = Some faults.NoStrand
act_fault before (Some u) act = where_true (has_ended before u) faults.StrandEnded (claim_fault before u act)

abbrev pub said_fault : Spot → Result LogLine LogCause → Option LogFault
said_fault spot (Err cause) = Some (faults.NoLine cause)
said_fault spot (Ok lines.Version) = Some faults.NoVersion
said_fault spot (Ok (lines.Act act)) = act_fault spot.events spot.here act
said_fault spot (Ok (lines.Strand t i)) = None
said_fault spot (Ok (lines.Name site)) = None
said_fault spot (Ok lines.Comment) = None
said_fault spot (Ok lines.End) = None

abbrev pub line_fault : Spot → Result LogLine LogCause → Option LogFault
line_fault spot said = where_true spot.closed faults.AfterEnd (said_fault spot said)

-- the first line of a file is its version
abbrev pub first_fault : Result LogLine LogCause → Option LogFault
first_fault (Ok lines.Version) = None
first_fault (Ok _) = Some faults.NoVersion
first_fault (Err causes.UnknownVersion) = Some (faults.NoLine causes.UnknownVersion)
first_fault (Err _) = Some faults.NoVersion

-- OF ALL LINES

abbrev pub found_at : ℕ → ℕ → Option LogFault → Option LocatedFault → Option LocatedFault
found_at file line None later = later
found_at file line (Some fault) later = Some (record { at = record { file = file; line = line }; fault = fault })

-- the first fault of the lines of a file from one on
abbrev pub fault_from : ℕ → Spot → ℕ → List (List ℕ) → Option LocatedFault
fault_from file spot line [] = None
fault_from file spot line (l ∷ ls) =
    found_at file line (line_fault spot (line_of l)) (fault_from file (spot_behind_said spot (line_of l)) (line + 1) ls)

-- of a file
abbrev pub fault_of_lines : ℕ → List Event → List (List ℕ) → Option LocatedFault
fault_of_lines file before [] = found_at file 1 (Some faults.NoVersion) None
fault_of_lines file before (l ∷ ls) = found_at file 1 (first_fault (line_of l)) (fault_from file (file_begin before) 2 ls)

abbrev pub or_later : Option LocatedFault → Option LocatedFault → Option LocatedFault
or_later None later = later
or_later (Some found) later = Some found

-- of the files from one on, by their texts, behind what happened before
abbrev pub fault_behind : ℕ → List Event → List (List ℕ) → Option LocatedFault
fault_behind file before [] = None
fault_behind file before (text ∷ texts) =
    or_later (fault_of_lines file before (lines_in text)) (fault_behind (file + 1) (file_end before text).events texts)

-- of a log
abbrev pub log_fault : List (List ℕ) → Option LocatedFault
log_fault texts = fault_behind 0 [] texts
