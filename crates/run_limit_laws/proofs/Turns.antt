-- A task of a run's log takes few turns.
use Rattle.run_limit_laws.proofs.Common.{◌≡◌, ◌<◌, ◌≤◌, ℕ, Bool, true, false, List, length, ap, arith, run, waiting, runs_are_counted, open_turns, run_rows, ProgramText, events_told, turns_told, is_legal, tasks_of, EntryValue, SettingsValue, field_limit, logs_tell_edges}
use Rattle.run_turn_laws.specs.below.run_log.{lines_of}
use Rattle.run_limit_laws.proofs.Steps.{few_joins}

few_open : (b : Bool) → open_turns b ≤ 2
few_open true = omega arith
few_open false = omega arith

-- four for each of its joins, and two where it waits
pub few_turns : (p : ProgramText) (s : SettingsValue) (journal : List EntryValue) → is_legal p s journal ≡ true → length (tasks_of journal) < 500000000
    → (t : ℕ) → length (turns_told (events_told (lines_of p s journal)) t) < 2000000002
few_turns p s journal legal few t =
    let limit = field_limit s.version in
    let ts = tasks_of journal in
    let same = ap length ((logs_tell_edges p s journal legal).turns t) in
    let count = (run_rows p limit ts).count t in
    let joins = few_joins (run p limit ts) (length ts) (runs_are_counted p limit ts) few t in
    let waits = few_open (waiting (run p limit ts).tasks t) in
    omega (arith, same, count, joins, waits)
