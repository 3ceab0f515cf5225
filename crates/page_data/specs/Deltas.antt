-- A delta in the page's data.
use Rattle.std.specs.Prelude.{ℕ, Bool, true, false, Option, Some, None, List, [], ◌∷◌, ◌++◌, codes, length, if◌then◌else◌}
use Rattle.std.specs.List.{flat_map}
use Rattle.std.specs.Fmt.{decimal}
use Rattle.hh_lang.specs.Form.{ProgramText}
use Rattle.hh_lang.specs.declared.instr.Instr.{Instr}
use Rattle.hh_lang.specs.declared.instr.Instr.TheVariants.{Set, Mov, Movr, Nil, Calc, Same, Jmp, Jz, Newm, Pack, Getr, Geti, Putr, Puti, Cntr, Cnti, Freeze, Cas, Call, Par, Ret, Out}
use Rattle.hh_lang.specs.declared.instr.Operator.{Operator}
use Rattle.hh_lang.specs.declared.instr.Operator.TheVariants.{Add, Sub, Mul, Div, Rem, Lt, Eq}
use Rattle.run_trace.specs.declared.entry.Kind.{Kind}
use Rattle.run_trace.specs.declared.entry.Kind.TheVariants.{Took, Ran, Chunk, Begin, End, PutOff, Mark, More, Sweep, Fuel}
use Rattle.run_trace.specs.Entry.{EntryValue}
use Rattle.run_trace.specs.Line.{kind_name}
use Rattle.run_names.specs.Names.{function_name}
use Rattle.run_deltas.specs.declared.data.Deed.{Deed}
use Rattle.run_deltas.specs.declared.data.Deed.TheVariants.{Allocates, Reads, Counts, Writes, Swaps, Freezes, Prints}
use Rattle.run_deltas.specs.declared.data.StepAct.{StepAct}
use Rattle.run_deltas.specs.declared.data.NewObject.{NewObject}
use Rattle.run_deltas.specs.declared.data.Change.{Change}
use Rattle.run_deltas.specs.declared.data.Change.TheVariants.{New, Set as IsSet, Froze, Print}
use Rattle.run_deltas.specs.declared.data.Standing.{Standing}
use Rattle.run_deltas.specs.declared.data.Standing.TheVariants.{Ready, Out as IsOut, Waits, HasEnded, HasJoined}
use Rattle.run_deltas.specs.declared.data.TaskNow.{TaskNow}
use Rattle.run_deltas.specs.declared.data.NewTask.{NewTask}
use Rattle.run_deltas.specs.declared.data.Delta.{Delta}
use Rattle.page_data.specs.Values.{name, reference, number, value, more, member}

-- a further word, in quotes
abbrev pub word : List ℕ → List ℕ
word w = 34 ∷ (w ++ 34 ∷ [])

abbrev pub more_number : ℕ → List ℕ
more_number n = more (decimal n)

-- THE LAST STEP

abbrev pub operator_word : Operator → List ℕ
operator_word Add = codes "add"
operator_word Sub = codes "sub"
operator_word Mul = codes "mul"
operator_word Div = codes "div"
operator_word Rem = codes "rem"
operator_word Lt = codes "lt"
operator_word Eq = codes "eq"

-- the word that an instruction begins with
abbrev pub instr_word : Instr → List ℕ
instr_word (Set d k) = codes "set"
instr_word (Mov d a) = codes "mov"
instr_word (Movr d a) = codes "movr"
instr_word (Nil d) = codes "nil"
instr_word (Calc op d a b) = operator_word op
instr_word (Same d a b) = codes "same"
instr_word (Jmp to) = codes "jmp"
instr_word (Jz a to) = codes "jz"
instr_word (Newm d a b) = codes "newm"
instr_word (Pack d r i) = codes "pack"
instr_word (Getr d o k) = codes "getr"
instr_word (Geti d o k) = codes "geti"
instr_word (Putr o k v) = codes "putr"
instr_word (Puti o k v) = codes "puti"
instr_word (Cntr d o) = codes "cntr"
instr_word (Cnti d o) = codes "cnti"
instr_word (Freeze o) = codes "freeze"
instr_word (Cas d o k e v) = codes "cas"
instr_word (Call f) = codes "call"
instr_word (Par f g) = codes "par"
instr_word Ret = codes "ret"
instr_word (Out a) = codes "out"

abbrev pub flag_digit : Bool → List ℕ
flag_digit true = 49 ∷ []
flag_digit false = 48 ∷ []

-- what a step does: the object's name; then the field and the value that is read or written, or would be
abbrev pub deed : Option Deed → List ℕ
deed None = []
deed (Some (Allocates n)) = more (name n)
deed (Some (Reads n at v)) = more (name n) ++ more_number at ++ more (value v)
deed (Some (Counts n)) = more (name n)
deed (Some (Writes n at v)) = more (name n) ++ more_number at ++ more (value v)
deed (Some (Swaps n at r swapped)) = more (name n) ++ more_number at ++ more (reference r) ++ more (flag_digit swapped)
deed (Some (Freezes n)) = more (name n)
deed (Some (Prints k)) = []

-- the last step: its line, its instruction's word, and what it does
abbrev pub last : Option StepAct → List ℕ
last None = []
last (Some a) = codes ",\"at\":[" ++ decimal a.line ++ more (word (instr_word a.instr)) ++ deed a.deed ++ 93 ∷ []

-- TASKS

-- a task that was made: its number, its parent's, and the function that it begins in
unfoldable pub child : ProgramText → NewTask → List ℕ
child p c = 91 ∷ (decimal c.task ++ more_number c.parent ++ more (word (function_name p c.function)) ++ 93 ∷ [])

abbrev pub standing_word : Standing → List ℕ
standing_word Ready = codes "ready"
standing_word IsOut = codes "out"
standing_word Waits = codes "waiting"
standing_word HasEnded = codes "ended"
standing_word HasJoined = codes "joined"

-- where a task stands: its number, a word and a line; and what it holds
unfoldable pub task_now : TaskNow → List ℕ
task_now t = 91 ∷ (decimal t.task ++ more (word (standing_word t.standing)) ++ more_number t.line ++ flat_map (λ n. more (name n)) t.holds ++ 93 ∷ [])

-- OBJECTS

-- what the fields hold of a new object that is immutable; a mutable one holds nil and 0 everywhere
abbrev pub fields : NewObject → List ℕ
fields b = if b.mutable then [] else flat_map (λ r. more (reference r)) b.refs ++ flat_map (λ k. more (number k)) b.ints

-- what a step changes: a word, and then what is new
abbrev pub change : Change → List ℕ
change (New b) =
    codes "[\"new\"," ++ name b.name ++ more (flag_digit b.mutable) ++ more_number (length b.refs) ++ more_number (length b.ints) ++ fields b ++ 93 ∷ []
change (IsSet w) = codes "[\"set\"," ++ name w.name ++ more_number w.field ++ more (value w.value) ++ 93 ∷ []
change (Froze n) = codes "[\"froze\"," ++ name n ++ 93 ∷ []
change (Print k) = codes "[\"print\"," ++ number k ++ 93 ∷ []

-- ENTRIES

-- an entry's numbers, as its line has them
abbrev pub kind_numbers : Kind → List ℕ
kind_numbers (Took t) = more_number t
kind_numbers (Ran t k) = more_number t ++ more_number k
kind_numbers (Chunk t) = more_number t
kind_numbers (Begin t) = more_number t
kind_numbers (End t taken given left) = more_number t ++ more_number taken ++ more_number given ++ more_number left
kind_numbers (PutOff t) = more_number t
kind_numbers (Mark t) = more_number t
kind_numbers (More t n) = more_number t ++ more_number n
kind_numbers (Sweep t given) = more_number t ++ more_number given
kind_numbers Fuel = []

unfoldable pub entry_head : EntryValue → List ℕ
entry_head e = codes "{\"e\":[" ++ decimal e.worker ++ more (word (kind_name e.kind)) ++ kind_numbers e.kind ++ 93 ∷ []

-- what an entry changes, member by member
unfoldable pub members : ProgramText → Delta → List ℕ
members p d =
    last d.changes.last
    ++ member (codes ",\"made\":[") (child p) d.children
    ++ member (codes ",\"task\":[") task_now d.tasks
    ++ member (codes ",\"did\":[") change d.changes.all

-- an entry with its delta, on a line of its own behind what stands before it; it isn't ended yet
unfoldable pub opening : ProgramText → EntryValue → Delta → List ℕ
opening p e d = 44 ∷ 10 ∷ (entry_head e ++ members p d)
