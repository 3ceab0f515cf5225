-- What a line of a log says, or why it is none.
use Rattle.std.specs.Prelude.{ℕ, ◌*◌, ◌==◌, ◌&&◌, Bool, Option, Some, None, Result, Ok, Err, List, [], ◌∷◌, codes, length, nat_lt, nat_le, slice_index, if◌then◌else◌}
use Rattle.std.specs.Str.{bytes_eq}
use Rattle.log_lines.specs.declared.cause.LogCause.{LogCause}
use Rattle.log_lines.specs.declared.cause.LogCause.TheVariants as causes
use Rattle.log_lines.specs.declared.line.LogPlace.{LogPlace}
use Rattle.log_lines.specs.declared.line.AccessKind.{AccessKind}
use Rattle.log_lines.specs.declared.line.AccessKind.TheVariants as kinds
use Rattle.log_lines.specs.declared.line.Reference.{Reference}
use Rattle.log_lines.specs.declared.line.Act.{Act}
use Rattle.log_lines.specs.declared.line.Act.TheVariants as acts
use Rattle.log_lines.specs.declared.line.LogLine.{LogLine}
use Rattle.log_lines.specs.declared.line.LogLine.TheVariants as lines
use Rattle.log_lines.specs.declared.verb.LogVerb.{LogVerb}
use Rattle.log_lines.specs.declared.verb.LogVerb.TheVariants as verbs
use Rattle.log_lines.specs.declared.verb.ActVerb.{ActVerb}
use Rattle.log_lines.specs.declared.verb.ActVerb.TheVariants as act_verbs
use Rattle.log_lines.specs.Words.{◌>>=◌, words_of, number_at, has_word, nothing_left, site_at, goes_on}
use Rattle.log_lines.specs.Limits.{task_limit, strand_limit, access_limit, location_limit, place_end}

-- POSITIONS

abbrev pub is_small : LogPlace → Bool
is_small p = nat_le 1 p.length && nat_le 1 p.runs && nat_le (p.length * p.runs) access_limit && nat_le (place_end p) location_limit

abbrev pub checked_place : LogPlace → Result LogPlace LogCause
checked_place p =
    if is_small p then (if nat_le p.length p.apart then Ok p else Err causes.RunsOverlap)
    else Err causes.OverLimit

-- the number of runs and how far apart they are
abbrev pub place_of_runs : ℕ → ℕ → ℕ → List (List ℕ) → Result (LogPlace × List (List ℕ)) LogCause
place_of_runs block offset length ws = do
  runs ← number_at ws
  apart ← number_at runs.1
  place ← checked_place (record { block = block; offset = offset; length = length; runs = runs.0; apart = apart.0 })
  Ok (place, apart.1)

-- one run
abbrev pub place_of_run : ℕ → ℕ → ℕ → List (List ℕ) → Result (LogPlace × List (List ℕ)) LogCause
place_of_run block offset length ws = do
  place ← checked_place (record { block = block; offset = offset; length = length; runs = 1; apart = length })
  Ok (place, ws)

-- the length of the runs, and what follows it
abbrev pub place_of_length : ℕ → ℕ → List (List ℕ) → Result (LogPlace × List (List ℕ)) LogCause
place_of_length block offset ws = do
  length ← number_at ws
  if goes_on length.1 then place_of_runs block offset length.0 length.1 else place_of_run block offset length.0 length.1

-- a place is a block and an offset, and, where the words go on, a length, and then the number of runs and how far apart
-- they are
abbrev pub place_at : List (List ℕ) → Result (LogPlace × List (List ℕ)) LogCause
place_at ws = do
  block ← number_at ws
  offset ← number_at block.1
  if goes_on offset.1 then place_of_length block.0 offset.0 offset.1 else place_of_run block.0 offset.0 1 offset.1

-- ACTS

abbrev pub act_of_access : AccessKind → List (List ℕ) → Result Act LogCause
act_of_access kind ws = do
  place ← place_at ws
  site ← site_at place.1
  Ok (acts.Access (record { kind = kind; place = place.0; site = site }))

abbrev pub reference_of : List (List ℕ) → Result Reference LogCause
reference_of ws = do
  block ← number_at ws
  offset ← number_at block.1
  target ← number_at offset.1
  site ← site_at target.1
  Ok (record { block = block.0; offset = offset.0; target = target.0; site = site })

abbrev pub act_of_birth : List (List ℕ) → Result Act LogCause
act_of_birth ws = do
  block ← number_at ws
  length ← number_at block.1
  none ← nothing_left length.1
  Ok (acts.Birth block.0 length.0)

-- the only number
abbrev pub number_alone : List (List ℕ) → Result ℕ LogCause
number_alone ws = do
  number ← number_at ws
  none ← nothing_left number.1
  Ok number.0

abbrev pub below : ℕ → ℕ → Result ℕ LogCause
below limit n = if nat_lt n limit then Ok n else Err causes.OverLimit

-- a task alone
abbrev pub task_alone : List (List ℕ) → Result ℕ LogCause
task_alone ws = do
  number ← number_alone ws
  below task_limit number

-- LINES

abbrev pub line_of_strand : List (List ℕ) → Result LogLine LogCause
line_of_strand ws = do
  task ← number_at ws
  strand ← number_alone task.1
  t ← below task_limit task.0
  s ← below strand_limit strand
  Ok (lines.Strand t s)

abbrev pub name_behind : ℕ → List (List ℕ) → Result LogLine LogCause
name_behind site ws = if has_word ws then Ok (lines.Name site) else Err causes.WrongCount

-- behind a site's number its name follows, which may have spaces in it
abbrev pub line_of_name : List (List ℕ) → Result LogLine LogCause
line_of_name ws = do
  site ← number_at ws
  name_behind site.0 site.1

abbrev pub line_of_version : List (List ℕ) → Result LogLine LogCause
line_of_version ws = do
  version ← number_alone ws
  if version == 1 then Ok lines.Version else Err causes.UnknownVersion

-- the words that are one letter
abbrev pub letter_is : ℕ → List ℕ → LogVerb → Option LogVerb → Option LogVerb
letter_is c letter verb otherwise = if c == slice_index letter 0 then Some verb else otherwise

abbrev pub letter_verb : ℕ → Option LogVerb
letter_verb c =
    letter_is c (codes "r") (verbs.Act (act_verbs.Access kinds.Read)) (
    letter_is c (codes "w") (verbs.Act (act_verbs.Access kinds.Write)) (
    letter_is c (codes "R") (verbs.Act (act_verbs.Access kinds.AtomicRead)) (
    letter_is c (codes "W") (verbs.Act (act_verbs.Access kinds.AtomicWrite)) (
    letter_is c (codes "g") (verbs.Act act_verbs.Yield) (
    letter_is c (codes "p") (verbs.Act act_verbs.Store) (
    letter_is c (codes "a") (verbs.Act act_verbs.Birth) (
    letter_is c (codes "f") (verbs.Act act_verbs.Release) (
    letter_is c (codes "k") (verbs.Act act_verbs.Work) (
    letter_is c (codes "s") verbs.Strand (
    letter_is c (codes "+") (verbs.Act act_verbs.Spawn) (
    letter_is c (codes "-") (verbs.Act act_verbs.Join) (
    letter_is c (codes ".") (verbs.Act act_verbs.Finish) (
    letter_is c (codes "@") verbs.Name None)))))))))))))

abbrev pub long_verb : List ℕ → Option LogVerb
long_verb w = if bytes_eq w (codes "end") then Some verbs.End else if bytes_eq w (codes "hhlog") then Some verbs.Version else None

-- what the first word of a line announces
abbrev pub verb_of : List ℕ → Option LogVerb
verb_of [] = None
verb_of (c ∷ []) = letter_verb c
verb_of (c ∷ d ∷ ds) = long_verb (c ∷ d ∷ ds)

-- the words behind the first one
abbrev pub act_by : ActVerb → List (List ℕ) → Result Act LogCause
act_by (act_verbs.Access kind) ws = act_of_access kind ws
act_by act_verbs.Yield ws = reference_of ws >>= λ r. Ok (acts.Yield r)
act_by act_verbs.Store ws = reference_of ws >>= λ r. Ok (acts.Store r)
act_by act_verbs.Birth ws = act_of_birth ws
act_by act_verbs.Release ws = number_alone ws >>= λ block. Ok (acts.Release block)
act_by act_verbs.Work ws = number_alone ws >>= λ units. Ok (acts.Work units)
act_by act_verbs.Spawn ws = task_alone ws >>= λ task. Ok (acts.Spawn task)
act_by act_verbs.Join ws = task_alone ws >>= λ task. Ok (acts.Join task)
act_by act_verbs.Finish ws = nothing_left ws >>= λ none. Ok acts.Finish

abbrev pub line_by : LogVerb → List (List ℕ) → Result LogLine LogCause
line_by (verbs.Act verb) ws = act_by verb ws >>= λ a. Ok (lines.Act a)
line_by verbs.Strand ws = line_of_strand ws
line_by verbs.Name ws = line_of_name ws
line_by verbs.End ws = nothing_left ws >>= λ none. Ok lines.End
line_by verbs.Version ws = line_of_version ws

abbrev pub line_behind : Option LogVerb → List (List ℕ) → Result LogLine LogCause
line_behind None ws = Err causes.BadWord
line_behind (Some verb) ws = line_by verb ws

abbrev pub line_of_words : List (List ℕ) → Result LogLine LogCause
line_of_words [] = Err causes.BadWord
line_of_words (w ∷ ws) = line_behind (verb_of w) ws

-- a line that is empty or begins with a number sign is a comment
abbrev pub line_of : List ℕ → Result LogLine LogCause
line_of [] = Ok lines.Comment
line_of (c ∷ cs) = if c == 35 then Ok lines.Comment else line_of_words (words_of (c ∷ cs))
