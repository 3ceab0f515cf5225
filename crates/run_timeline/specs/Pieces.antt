-- Pieces of the texts of events.
use Rattle.std.specs.Prelude.{ℕ, List, ◌∷◌, ◌++◌, codes}
use Rattle.std.specs.List.{flat_map}
use Rattle.json_text.specs.Json.{Number, Word, json, further, first_member, more_member}
use Rattle.run_timeline.specs.Events.{end_time, process}
use Rattle.run_timeline.specs.Timeline.{lanes}

-- an event in front of the members of its own
abbrev pub event_head : List ℕ → List ℕ → List ℕ → ℕ → ℕ → List ℕ
event_head name category phase time lane =
    123 ∷ (first_member (codes "name") (Word name) ++ more_member (codes "cat") (Word category) ++ more_member (codes "ph") (Word phase)
    ++ more_member (codes "ts") (Number time) ++ more_member (codes "pid") (Number 1) ++ more_member (codes "tid") (Number lane))

-- a span in front of the members of its own, behind a comma
abbrev pub span_head : List ℕ → List ℕ → List ℕ → ℕ → ℕ → ℕ → List ℕ
span_head phase name category id n lane =
    44 ∷ 10 ∷ (event_head name category phase (end_time n) lane ++ more_member (codes "id") (Number id))

-- the text in front of the events of entries, and behind them
abbrev pub beginning : ℕ → List ℕ
beginning workers = codes "{\"traceEvents\":[" ++ json process ++ flat_map further (lanes workers)

abbrev pub event_ending : List ℕ
event_ending = codes "],\"displayTimeUnit\":\"ms\"}\n"
