-- Each event stands at a line.
use Rattle.log_refusals.proofs.Common.{◌≡◌, ◌∙◌, ℕ, ◌+◌, List, [], ◌∷◌, ◌++◌, map, refl, ap, sym, append-nil, append_assoc, Option, Some, None, Result, Ok, Err, map-append, LogCause, Act, LogLine, line_of, GraphStrand, LogPosition, lines_in, Event, Spot, spot_behind_act, spot_behind_said, spot_behind_all, file_begin, file_end, events_behind, Placed, position, placed_act, placed_said, placed_lines, placed_files, here_behind_act, here_behind, EventsHaveLines}
use Rattle.log_lines.specs.declared.line.LogLine.TheVariants as lines

abbrev events : List Placed → List Event
events ps = map (λ p. p.event) ps

-- A LINE

act_here : (spot : Spot) (here : Option GraphStrand) (act : Act) → spot.here ≡ here → (spot_behind_act spot here act).here ≡ here_behind_act here act
act_here spot None act e = e
act_here spot (Some u) act e = refl

said_here : (spot : Spot) (said : Result LogLine LogCause) → (spot_behind_said spot said).here ≡ here_behind spot.here said
said_here spot (Ok lines.Version) = refl
said_here spot (Ok (lines.Strand t i)) = refl
said_here spot (Ok (lines.Act act)) = act_here spot spot.here act refl
said_here spot (Ok (lines.Name site)) = refl
said_here spot (Ok lines.Comment) = refl
said_here spot (Ok lines.End) = refl
said_here spot (Err cause) = refl

act_events : (at : LogPosition) (spot : Spot) (here : Option GraphStrand) (act : Act) → (spot_behind_act spot here act).events ≡ spot.events ++ events (placed_act at here act)
act_events at spot None act = sym (append-nil spot.events)
act_events at spot (Some u) act = refl

said_events : (at : LogPosition) (spot : Spot) (said : Result LogLine LogCause) → (spot_behind_said spot said).events ≡ spot.events ++ events (placed_said at spot.here said)
said_events at spot (Ok lines.Version) = sym (append-nil spot.events)
said_events at spot (Ok (lines.Strand t i)) = sym (append-nil spot.events)
said_events at spot (Ok (lines.Act act)) = act_events at spot spot.here act
said_events at spot (Ok (lines.Name site)) = sym (append-nil spot.events)
said_events at spot (Ok lines.Comment) = sym (append-nil spot.events)
said_events at spot (Ok lines.End) = sym (append-nil spot.events)
said_events at spot (Err cause) = sym (append-nil spot.events)

-- LINES

join : (before : List Event) (xs ys : List Placed) → (before ++ events xs) ++ events ys ≡ before ++ events (xs ++ ys)
join before xs ys = simp append_assoc (ap (λ es. before ++ es) (sym (map-append (λ (p : Placed). p.event) xs ys)))

lines_events : (file : ℕ) (ls : List (List ℕ)) (spot : Spot) (line : ℕ) → (spot_behind_all spot ls).events ≡ spot.events ++ events (placed_lines file spot.here line ls)
lines_events file [] spot line = sym (append-nil spot.events)
lines_events file (l ∷ ls) spot line =
    let said = line_of l in
    lines_events file ls (spot_behind_said spot said) (line + 1)
    ∙ ap (λ (here : Option GraphStrand). (spot_behind_said spot said).events ++ events (placed_lines file here (line + 1) ls)) (said_here spot said)
    ∙ ap (λ (before : List Event). before ++ events (placed_lines file (here_behind spot.here said) (line + 1) ls)) (said_events (position file line) spot said)
    ∙ join spot.events (placed_said (position file line) spot.here said) (placed_lines file (here_behind spot.here said) (line + 1) ls)

-- FILES

files_events : (texts : List (List ℕ)) (file : ℕ) (before : List Event) → events_behind before texts ≡ before ++ events (placed_files file texts)
files_events [] file before = sym (append-nil before)
files_events (text ∷ texts) file before =
    files_events texts (file + 1) (file_end before text).events
    ∙ ap (λ (es : List Event). es ++ events (placed_files (file + 1) texts)) (lines_events file (lines_in text) (file_begin before) 1)
    ∙ join before (placed_lines file None 1 (lines_in text)) (placed_files (file + 1) texts)

pub have_lines : EventsHaveLines
have_lines texts = sym (files_events texts 0 [])
