-- What a line of a trace text means, and how an entry is written.
use Rattle.std.specs.Prelude.{ℕ, ◌+◌, ◌^◌, ◌&&◌, Bool, Option, Some, None, List, [], ◌∷◌, ◌++◌, codes, nat_le, nat_lt, if◌then◌else◌}
use Rattle.std.specs.List.{join_with_byte}
use Rattle.std.specs.Str.{bytes_eq, is_utf8}
use Rattle.std.specs.Str.Parse.{digits_value}
use Rattle.std.specs.Fmt.{decimal}
use Rattle.hh_lang.specs.Number.{is_numeral, onto_number}
use Rattle.text_lines.specs.Lines.{words_of}
use Rattle.run_trace.specs.declared.entry.Kind.{Kind}
use Rattle.run_trace.specs.declared.entry.Kind.TheVariants.{Took, Ran, Chunk, Begin, End, PutOff, Mark, More, Sweep, Fuel}
use Rattle.run_trace.specs.declared.line.TraceLine.{TraceLine}
use Rattle.run_trace.specs.declared.line.TraceLine.TheVariants.{Nothing, Says, Wrong}
use Rattle.run_trace.specs.Entry.{EntryValue, private_limit, mark_limit}
use Rattle.run_trace.specs.Settings.{worker_limit}

-- READING

-- decimal digits without a sign, of a number of 32 bits
abbrev pub unsigned_number : List ℕ → Option ℕ
unsigned_number bs = if is_numeral bs && nat_lt (digits_value 10 bs) (2 ^ 32) then Some (digits_value 10 bs) else None

-- the numbers that words denote, if each of them denotes one
abbrev pub numbers_in : List (List ℕ) → Option (List ℕ)
numbers_in [] = Some []
numbers_in (w ∷ ws) = onto_number (unsigned_number w) (numbers_in ws)

abbrev pub where_said : List ℕ → List ℕ → Kind → Option Kind → Option Kind
where_said verb word kind otherwise = if bytes_eq verb word then Some kind else otherwise

-- entries that name only a task
abbrev pub kind_of_task : List ℕ → ℕ → Option Kind
kind_of_task verb t =
    where_said verb (codes "took") (Took t) (
    where_said verb (codes "chunk") (Chunk t) (
    where_said verb (codes "begin") (Begin t) (
    where_said verb (codes "putoff") (PutOff t) (
    where_said verb (codes "mark") (Mark t) None))))

abbrev pub within : ℕ → ℕ → ℕ → Bool
within least most n = nat_le least n && nat_le n most

-- entries that name a task and a count
abbrev pub kind_of_count : List ℕ → ℕ → ℕ → Option Kind
kind_of_count verb t n =
    if bytes_eq verb (codes "ran") then (if within 1 (private_limit + 1) n then Some (Ran t n) else None)
    else if bytes_eq verb (codes "some") then (if within 1 mark_limit n then Some (More t n) else None)
    else where_said verb (codes "sweep") (Sweep t n) None

-- the entry of a word and the numbers after it
abbrev pub kind_of_words : List ℕ → List ℕ → Option Kind
kind_of_words verb [] = where_said verb (codes "fuel") Fuel None
kind_of_words verb (t ∷ []) = kind_of_task verb t
kind_of_words verb (t ∷ n ∷ []) = kind_of_count verb t n
kind_of_words verb (t ∷ taken ∷ given ∷ left ∷ []) = where_said verb (codes "end") (End t taken given left) None
kind_of_words verb _ = None

abbrev pub kind_by : List ℕ → Option (List ℕ) → Option Kind
kind_by verb None = None
kind_by verb (Some ns) = kind_of_words verb ns

abbrev pub entry_by : Option ℕ → Option Kind → TraceLine
entry_by (Some w) (Some kind) = if nat_lt w worker_limit then Says (record { worker = w; kind = kind }) else Wrong
entry_by _ _ = Wrong

-- the meaning of words: nothing if there are none; an entry if they are a worker's number, a word and its numbers
abbrev pub said_by_words : List (List ℕ) → TraceLine
said_by_words [] = Nothing
said_by_words (w ∷ []) = Wrong
said_by_words (w ∷ verb ∷ ws) = entry_by (unsigned_number w) (kind_by verb (numbers_in ws))

-- the meaning of a line
abbrev pub trace_line : List ℕ → TraceLine
trace_line l = if is_utf8 l then said_by_words (words_of l) else Wrong

-- WRITING

-- the word of an entry
abbrev pub kind_name : Kind → List ℕ
kind_name (Took t) = codes "took"
kind_name (Ran t k) = codes "ran"
kind_name (Chunk t) = codes "chunk"
kind_name (Begin t) = codes "begin"
kind_name (End t taken given left) = codes "end"
kind_name (PutOff t) = codes "putoff"
kind_name (Mark t) = codes "mark"
kind_name (More t n) = codes "some"
kind_name (Sweep t given) = codes "sweep"
kind_name Fuel = codes "fuel"

abbrev pub kind_words : Kind → List (List ℕ)
kind_words (Took t) = codes "took" ∷ decimal t ∷ []
kind_words (Ran t k) = codes "ran" ∷ decimal t ∷ decimal k ∷ []
kind_words (Chunk t) = codes "chunk" ∷ decimal t ∷ []
kind_words (Begin t) = codes "begin" ∷ decimal t ∷ []
kind_words (End t taken given left) = codes "end" ∷ decimal t ∷ decimal taken ∷ decimal given ∷ decimal left ∷ []
kind_words (PutOff t) = codes "putoff" ∷ decimal t ∷ []
kind_words (Mark t) = codes "mark" ∷ decimal t ∷ []
kind_words (More t n) = codes "some" ∷ decimal t ∷ decimal n ∷ []
kind_words (Sweep t given) = codes "sweep" ∷ decimal t ∷ decimal given ∷ []
kind_words Fuel = codes "fuel" ∷ []

-- words with single spaces between them
abbrev pub spaced : List (List ℕ) → List ℕ
spaced ws = join_with_byte 32 ws

-- the same, and a line feed
abbrev pub line : List (List ℕ) → List ℕ
line ws = spaced ws ++ 10 ∷ []

-- an entry's line, with its line feed
abbrev pub entry_line : EntryValue → List ℕ
entry_line e = line (decimal e.worker ∷ kind_words e.kind)
