-- In a log without a faulty line, the lines of acts say what happens.
use Rattle.act_lines.proofs.Common.{◌≡◌, ◌+◌, ◌++◌, ◌∷◌, ◌∙◌, ℕ, Bool, true, false, Option, Some, None, Result, Ok, Err, List, [], map, refl, sym, ap, append_assoc, append-nil, map-append, some_none, LogCause, Act, LogLine, line_of, GraphStrand, LogFault, LocatedFault, LogPosition, lines_in, Event, Spot, event, spot_behind_act, spot_behind_said, spot_behind_all, file_begin, file_end, events_behind, where_true, act_fault, said_fault, line_fault, first_fault, found_at, fault_from, fault_of_lines, or_later, fault_behind, ActLine, act_line_at, act_lines_from, act_lines_behind, LinesSayWhatHappens}
use Rattle.log_lines.specs.declared.cause.LogCause.TheVariants as causes
use Rattle.log_lines.specs.declared.line.LogLine.TheVariants as lines
use Rattle.log_form.specs.declared.fault.LogFault.TheVariants as faults

abbrev acts_told : List ActLine → List Act
acts_told ls = map (λ l. l.act) ls

abbrev acts_done : List Event → List Act
acts_done es = map (λ e. e.act) es

-- NO FAULT

no_found : (file line : ℕ) (fault : Option LogFault) (later : Option LocatedFault) → found_at file line fault later ≡ None → (fault ≡ None) × (later ≡ None)
no_found file line None later e = (refl, e)
no_found file line (Some fault) later e = some_none e

not_where : (b : Bool) (fault : LogFault) (otherwise : Option LogFault) → where_true b fault otherwise ≡ None → otherwise ≡ None
not_where true fault otherwise e = some_none e
not_where false fault otherwise e = e

no_later : (first later : Option LocatedFault) → or_later first later ≡ None → (first ≡ None) × (later ≡ None)
no_later None later e = (refl, e)
no_later (Some found) later e = some_none e

-- ONE LINE

one_act : (spot : Spot) (here : Option GraphStrand) (act : Act) → act_fault spot.events here act ≡ None → acts_done (spot_behind_act spot here act).events ≡ acts_done spot.events ++ act ∷ []
one_act spot None act e = some_none e
one_act spot (Some u) act e = map-append (λ (x : Event). x.act) spot.events (event u act ∷ [])

one_said : (spot : Spot) (at : LogPosition) (said : Result LogLine LogCause) → said_fault spot said ≡ None → acts_done (spot_behind_said spot said).events ≡ acts_done spot.events ++ acts_told (act_line_at at said)
one_said spot at (Ok lines.Version) e = some_none e
one_said spot at (Ok (lines.Strand t i)) e = sym (append-nil (acts_done spot.events))
one_said spot at (Ok (lines.Act act)) e = one_act spot spot.here act e
one_said spot at (Ok (lines.Name site)) e = sym (append-nil (acts_done spot.events))
one_said spot at (Ok lines.Comment) e = sym (append-nil (acts_done spot.events))
one_said spot at (Ok lines.End) e = sym (append-nil (acts_done spot.events))
one_said spot at (Err cause) e = some_none e

-- ALL LINES

all_said : (file : ℕ) (spot : Spot) (line : ℕ) (ls : List (List ℕ)) → fault_from file spot line ls ≡ None → acts_done (spot_behind_all spot ls).events ≡ acts_done spot.events ++ acts_told (act_lines_from file line ls)
all_said file spot line [] e = sym (append-nil (acts_done spot.events))
all_said file spot line (l ∷ ls) e =
    let at : LogPosition = record { file = file; line = line } in
    let f = no_found file line (line_fault spot (line_of l)) (fault_from file (spot_behind_said spot (line_of l)) (line + 1) ls) e in
    all_said file (spot_behind_said spot (line_of l)) (line + 1) ls f.1
    ∙ (ap (λ xs. xs ++ acts_told (act_lines_from file (line + 1) ls)) (one_said spot at (line_of l) (not_where spot.closed faults.AfterEnd (said_fault spot (line_of l)) f.0))
    ∙ (append_assoc (acts_done spot.events) (acts_told (act_line_at at (line_of l))) (acts_told (act_lines_from file (line + 1) ls))
    ∙ ap (λ xs. acts_done spot.events ++ xs) (sym (map-append (λ (x : ActLine). x.act) (act_line_at at (line_of l)) (act_lines_from file (line + 1) ls)))))

-- the first line of a file is its version, which is no act
is_version : (spot : Spot) (at : LogPosition) (said : Result LogLine LogCause) → first_fault said ≡ None → (spot_behind_said spot said ≡ spot) × (act_line_at at said ≡ [])
is_version spot at (Ok lines.Version) e = (refl, refl)
is_version spot at (Ok (lines.Strand t i)) e = some_none e
is_version spot at (Ok (lines.Act act)) e = some_none e
is_version spot at (Ok (lines.Name site)) e = some_none e
is_version spot at (Ok lines.Comment) e = some_none e
is_version spot at (Ok lines.End) e = some_none e
is_version spot at (Err causes.BadWord) e = some_none e
is_version spot at (Err causes.BadNumber) e = some_none e
is_version spot at (Err causes.WrongCount) e = some_none e
is_version spot at (Err causes.OverLimit) e = some_none e
is_version spot at (Err causes.RunsOverlap) e = some_none e
is_version spot at (Err causes.UnknownVersion) e = some_none e

file_said : (file : ℕ) (before : List Event) (ls : List (List ℕ)) → fault_of_lines file before ls ≡ None → acts_done (spot_behind_all (file_begin before) ls).events ≡ acts_done before ++ acts_told (act_lines_from file 1 ls)
file_said file before [] e = some_none e
file_said file before (l ∷ ls) e =
    let at : LogPosition = record { file = file; line = 1 } in
    let f = no_found file 1 (first_fault (line_of l)) (fault_from file (file_begin before) 2 ls) e in
    let v = is_version (file_begin before) at (line_of l) f.0 in
    ap (λ (s : Spot). acts_done (spot_behind_all s ls).events) v.0
    ∙ (all_said file (file_begin before) 2 ls f.1 ∙ ap (λ (xs : List ActLine). acts_done before ++ acts_told (xs ++ act_lines_from file 2 ls)) (sym v.1))

-- ALL FILES

files_said : (file : ℕ) (before : List Event) (texts : List (List ℕ)) → fault_behind file before texts ≡ None → acts_done (events_behind before texts) ≡ acts_done before ++ acts_told (act_lines_behind file texts)
files_said file before [] e = sym (append-nil (acts_done before))
files_said file before (text ∷ texts) e =
    let f = no_later (fault_of_lines file before (lines_in text)) (fault_behind (file + 1) (file_end before text).events texts) e in
    files_said (file + 1) (file_end before text).events texts f.1
    ∙ (ap (λ xs. xs ++ acts_told (act_lines_behind (file + 1) texts)) (file_said file before (lines_in text) f.0)
    ∙ (append_assoc (acts_done before) (acts_told (act_lines_from file 1 (lines_in text))) (acts_told (act_lines_behind (file + 1) texts))
    ∙ ap (λ xs. acts_done before ++ xs) (sym (map-append (λ (x : ActLine). x.act) (act_lines_from file 1 (lines_in text)) (act_lines_behind (file + 1) texts)))))

pub lines_say_what_happens : LinesSayWhatHappens
lines_say_what_happens texts e = sym (files_said 0 [] texts e)
