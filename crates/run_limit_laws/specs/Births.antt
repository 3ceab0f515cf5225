-- The blocks that are born in a run's log.
use Rattle.std.specs.Prelude.{◌≡◌, ◌≤◌, ℕ, true, List, [], ◌∷◌, length}
use Rattle.std.specs.List.{flat_map}
use Rattle.run_log_laws.specs.below.hh_lang.{ProgramText}
use Rattle.run_race_laws.specs.below.log_places.{AreDifferent}
use Rattle.run_turn_laws.specs.Events.{events_told}
use Rattle.run_turn_laws.specs.below.log_form.{Event}
use Rattle.run_turn_laws.specs.below.log_lines.{Act}
use Rattle.run_turn_laws.specs.below.log_lines as acts
use Rattle.run_turn_laws.specs.below.run_ledger.{is_legal, tasks_of}
use Rattle.run_turn_laws.specs.below.run_log.{lines_of}
use Rattle.run_turn_laws.specs.below.run_trace.{EntryValue, SettingsValue}

-- the block that an act bears, if it is a birth
abbrev pub born_by : Act → List ℕ
born_by (acts.Birth block length) = block ∷ []
born_by _ = []

-- all that are born, in their order
abbrev pub blocks_born : List Event → List ℕ
blocks_born events = flat_map (λ e. born_by e.act) events

abbrev pub BlocksAreBornOnce : Type 0
BlocksAreBornOnce =
    (p : ProgramText) (s : SettingsValue) (journal : List EntryValue) → is_legal p s journal ≡ true → length (tasks_of journal) ≤ 1000000000
    → AreDifferent (blocks_born (events_told (lines_of p s journal)))
