-- The events of one entry.
use Rattle.std.specs.Prelude.{ℕ, ◌+◌, ◌-◌, ◌==◌, Option, Some, None, List, [], ◌∷◌, ◌++◌, codes, length, slice_get, if◌then◌else◌}
use Rattle.std.specs.List.{join_with_byte}
use Rattle.std.specs.Fmt.{decimal}
use Rattle.run_timeline.specs.Common.{line_number, ProgramText, line_at, TaskStatus, Ended, Joined, Entangled, Task, MachineState, Kind, Took, Ran, Chunk, Begin, End, PutOff, Mark, More, Sweep, Fuel, EntryValue, kind_name, RunEnd, Machine, Ledger, in_use, end_words, function_name, task_name, Json, Members, Number, Word, NoMember, Member}
use Rattle.run_timeline.specs.declared.words.AccountCounts.{AccountCounts}
use Rattle.run_timeline.specs.Words.{words_held}
use Rattle.run_timeline.specs.Events.{event, arguments, one_number, two_numbers, end_time, span, arrow_begins, arrow_ends}

-- THE STATUS OF A TASK

-- the line of the instruction that comes next
abbrev pub next_line : ProgramText → Option Task → ℕ
next_line p None = 0
next_line p (Some x) = line_number (line_at p x.top.function x.top.next)

-- THE ENTRY ITSELF

abbrev pub of_task : ℕ → Members → Members
of_task t more = Member (codes "task") (Number t) more

-- what it says
abbrev pub numbers_of : Kind → Members
numbers_of (Took t) = of_task t NoMember
numbers_of (Ran t k) = of_task t (one_number (codes "steps") k)
numbers_of (Chunk t) = of_task t NoMember
numbers_of (Begin t) = of_task t NoMember
numbers_of (End t taken given left) = of_task t (Member (codes "kept") (Number taken) (two_numbers (codes "given") given (codes "words") left))
numbers_of (PutOff t) = of_task t NoMember
numbers_of (Mark t) = of_task t NoMember
numbers_of (More t n) = of_task t (one_number (codes "objects") n)
numbers_of (Sweep t given) = of_task t (one_number (codes "given") given)
numbers_of Fuel = NoMember

-- the function that a task is in, and the line of its next step
abbrev pub task_place : ProgramText → Option Task → List ℕ
task_place p None = []
task_place p (Some x) = 32 ∷ (function_name p x.top.function ++ 58 ∷ decimal (next_line p (Some x)))

-- steps begin where their task stands in front of them
abbrev pub begins_at : ProgramText → MachineState → Kind → List ℕ
begins_at p m (Ran t k) = task_place p (slice_get m.tasks t)
begins_at p m _ = []

-- the name of an entry in front of which the machine is this: its kind, and where its steps begin
abbrev pub slice_name : ProgramText → MachineState → Kind → List ℕ
slice_name p m kind = kind_name kind ++ begins_at p m kind

-- an entry is a slice at its place, one entry wide
abbrev pub slice : List ℕ → ℕ → EntryValue → Json
slice name n e =
    event name (codes "entry") (codes "X") (end_time (n - 1)) e.worker (
    Member (codes "dur") (Number 1000) (
    arguments (numbers_of e.kind)))

-- TASKS

abbrev pub task_begins : ℕ → ℕ → ℕ → Members → Json
task_begins t n w more = span (codes "b") (task_name t) (codes "task") t n w more

abbrev pub task_ends : ℕ → ℕ → ℕ → Json
task_ends t n w = span (codes "e") (task_name t) (codes "task") t n w NoMember

-- the line of a waiting task's fork, which stands in front of the instruction that comes next
abbrev pub fork_line : ProgramText → Option Task → ℕ
fork_line p None = 0
fork_line p (Some x) = line_number (line_at p x.top.function (x.top.next - 1))

-- a task is taken first: its span begins, and the arrow from its fork ends
abbrev pub first_taken : ProgramText → MachineState → ℕ → ℕ → ℕ → Option ℕ → List Json
first_taken p m t n w None = task_begins t n w NoMember ∷ []
first_taken p m t n w (Some q) =
    task_begins t n w (arguments (two_numbers (codes "parent") q (codes "line") (fork_line p (slice_get m.tasks q))))
    ∷ (arrow_ends (codes "fork") t n w ∷ [])

-- or it is taken again, behind the join of its children
abbrev pub taken : ProgramText → MachineState → ℕ → ℕ → ℕ → Option Task → List Json
taken p m t n w None = []
taken p m t n w (Some x) = if x.joins == 0 then first_taken p m t n w x.parent else arrow_ends (codes "join") t n w ∷ []

-- where there are more tasks than were made before, two are forked
abbrev pub fork_events : ℕ → ℕ → ℕ → ℕ → List Json
fork_events made now n w = if now == made then [] else arrow_begins (codes "fork") made n w ∷ (arrow_begins (codes "fork") (made + 1) n w ∷ [])

abbrev pub join_events : ℕ → ℕ → Option ℕ → List Json
join_events n w None = []
join_events n w (Some q) = arrow_begins (codes "join") q n w ∷ []

-- a task ends, alone or as the later one of two that join
abbrev pub end_events : ℕ → ℕ → ℕ → Option ℕ → TaskStatus → List Json
end_events t n w parent (Ended k name) = task_ends t n w ∷ []
end_events t n w parent Joined = task_ends t n w ∷ join_events n w parent
end_events t n w parent _ = []

abbrev pub task_end_events : ℕ → ℕ → ℕ → Option Task → List Json
task_end_events t n w None = []
task_end_events t n w (Some x) = end_events t n w x.parent x.status

-- COLLECTIONS

abbrev pub collection : List ℕ → ℕ → ℕ → ℕ → Json
collection phase t n w = span phase (codes "leaf collection") (codes "leaf") t n w NoMember

abbrev pub marking : List ℕ → ℕ → ℕ → ℕ → Json
marking phase t n w = span phase (codes "marking") (codes "inner") t n w NoMember

-- what begins and ends with an entry, in front of which so many tasks were made, and behind which the machine is this
abbrev pub begins_and_ends : ProgramText → ℕ → MachineState → ℕ → ℕ → Kind → List Json
begins_and_ends p made m n w (Took t) = taken p m t n w (slice_get m.tasks t)
begins_and_ends p made m n w (Ran t k) = fork_events made (length m.tasks) n w ++ task_end_events t n w (slice_get m.tasks t)
begins_and_ends p made m n w (Begin t) = collection (codes "b") t n w ∷ []
begins_and_ends p made m n w (End t taken given left) = collection (codes "e") t n w ∷ []
begins_and_ends p made m n w (Mark t) = marking (codes "b") t n w ∷ []
begins_and_ends p made m n w (Sweep t given) = marking (codes "e") t n w ∷ []
begins_and_ends p made m n w _ = []

-- COUNTERS

-- of this name, in these units: the chunks in use, or the words held
abbrev pub counter : List ℕ → List ℕ → ℕ → ℕ → Json
counter name unit now n = event name (codes "pool") (codes "C") (end_time n) 0 (arguments (one_number unit now))

-- it is told where it became another
abbrev pub counter_events : List ℕ → List ℕ → ℕ → ℕ → ℕ → List Json
counter_events name unit before now n = if now == before then [] else counter name unit now n ∷ []

abbrev pub chunks_counted : ℕ → ℕ → ℕ → List Json
chunks_counted = counter_events (codes "chunks in use") (codes "chunks")

abbrev pub words_counted : ℕ → ℕ → ℕ → List Json
words_counted = counter_events (codes "words held") (codes "words")

-- THE END

abbrev pub end_name : RunEnd → List ℕ
end_name e = join_with_byte 32 (codes "end:" ∷ end_words e)

-- of a stopped read the line
abbrev pub end_members : ProgramText → MachineState → RunEnd → Members
end_members p m (Machine (Entangled reader owner)) = arguments (one_number (codes "line") (next_line p (slice_get m.tasks reader)))
end_members p m _ = arguments NoMember

abbrev pub run_end : ProgramText → MachineState → ℕ → ℕ → RunEnd → Json
run_end p m n w e = event (end_name e) (codes "end") (codes "i") (end_time n) w (Member (codes "s") (Word (codes "g")) (end_members p m e))

abbrev pub run_ended : ProgramText → MachineState → ℕ → ℕ → Option RunEnd → List Json
run_ended p m n w None = []
run_ended p m n w (Some e) = run_end p m n w e ∷ []

-- ALL OF AN ENTRY

-- of the entry of this name and number: in front of it the accounts had these counts, and behind it they are these
abbrev pub entry_events : ProgramText → List ℕ → AccountCounts → Ledger → ℕ → EntryValue → List Json
entry_events p name was l n e =
    (slice name n e ∷ begins_and_ends p was.tasks l.machine n e.worker e.kind)
    ++ chunks_counted was.chunks (in_use l) n
    ++ words_counted was.words (words_held l) n
    ++ run_ended p l.machine n e.worker l.end
