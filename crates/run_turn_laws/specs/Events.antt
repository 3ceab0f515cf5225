-- What the lines of a log tell.
use Rattle.std.specs.Prelude.{List, [], ◌∷◌}
use Rattle.log_lines.specs.declared.line.LogLine.{LogLine}
use Rattle.log_form.specs.Events.{Event, Spot, spot_behind, file_begin}

-- behind lines
abbrev pub spot_after : Spot → List LogLine → Spot
spot_after spot [] = spot
spot_after spot (l ∷ ls) = spot_after (spot_behind spot l) ls

-- what the lines of a file tell
abbrev pub events_told : List LogLine → List Event
events_told ls = (spot_after (file_begin []) ls).events
