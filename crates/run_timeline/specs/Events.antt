-- Events as viewers of traces want them. The axis is the number of entries: an entry is a millisecond, which is 1,000
-- units.
use Rattle.std.specs.Prelude.{ℕ, ◌*◌, ◌-◌, List, ◌++◌, codes}
use Rattle.std.specs.Fmt.{decimal}
use Rattle.json_text.specs.Json.{Json, Members, Number, Word, Object, NoMember, Member}

-- an event of this name, category and phase, at this time in a worker's lane, with members of its own
abbrev pub event : List ℕ → List ℕ → List ℕ → ℕ → ℕ → Members → Json
event name category phase time lane more =
    Object (
    Member (codes "name") (Word name) (
    Member (codes "cat") (Word category) (
    Member (codes "ph") (Word phase) (
    Member (codes "ts") (Number time) (
    Member (codes "pid") (Number 1) (
    Member (codes "tid") (Number lane) more))))))

abbrev pub arguments : Members → Members
arguments ms = Member (codes "args") (Object ms) NoMember

abbrev pub one_number : List ℕ → ℕ → Members
one_number name n = Member name (Number n) NoMember

abbrev pub two_numbers : List ℕ → ℕ → List ℕ → ℕ → Members
two_numbers name n other m = Member name (Number n) (one_number other m)

-- where the entry of this number ends; entries are counted from 1, and 0 is where the run begins
abbrev pub end_time : ℕ → ℕ
end_time n = n * 1000

-- inside the entry of this number
abbrev pub middle_time : ℕ → ℕ
middle_time n = n * 1000 - 500

-- a span that may overlap others begins (phase b) or ends (phase e); both are of one name, category and number
abbrev pub span : List ℕ → List ℕ → List ℕ → ℕ → ℕ → ℕ → Members → Json
span phase name category id n lane more = event name category phase (end_time n) lane (Member (codes "id") (Number id) more)

-- an arrow begins, or ends, in the entry of this number
abbrev pub arrow_begins : List ℕ → ℕ → ℕ → ℕ → Json
arrow_begins name id n lane = event name name (codes "s") (middle_time n) lane (one_number (codes "id") id)

abbrev pub arrow_ends : List ℕ → ℕ → ℕ → ℕ → Json
arrow_ends name id n lane = event name name (codes "f") (middle_time n) lane (Member (codes "id") (Number id) (Member (codes "bp") (Word (codes "e")) NoMember))

-- the name of the whole, and of a worker's lane
abbrev pub process : Json
process = event (codes "process_name") (codes "__metadata") (codes "M") 0 0 (arguments (Member (codes "name") (Word (codes "hheap: a millisecond is one entry")) NoMember))

abbrev pub lane : ℕ → Json
lane w = event (codes "thread_name") (codes "__metadata") (codes "M") 0 w (arguments (Member (codes "name") (Word (codes "worker " ++ decimal w)) NoMember))
