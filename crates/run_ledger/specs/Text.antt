-- What is written of a journal: the outputs, the report, the trace and the end line; and the exit status.
use Rattle.std.specs.Prelude.{ℕ, ℤ, Bool, Option, Some, None, List, [], ◌∷◌, ◌++◌, codes, if◌then◌else◌}
use Rattle.std.specs.List.{flat_map}
use Rattle.std.specs.Fmt.{decimal, signed_decimal}
use Rattle.run_ledger.specs.Common.{EntryValue, SettingsValue, trace_text, ProgramText, Trap, Nil, Range, Frozen, Div, Size, Depth, Done, Trapped, Entangled}
pub use Rattle.run_trace.specs.Line.{line}
use Rattle.path_laws.specs.below.hh_model.{End}
use Rattle.run_ledger.specs.declared.data.RunEnd.{RunEnd}
use Rattle.run_ledger.specs.declared.data.RunEnd.TheVariants.{Machine, Fuel, Pool}
use Rattle.run_ledger.specs.declared.data.Report.{Report}
use Rattle.run_ledger.specs.declared.data.Refused.{Refused}
use Rattle.run_ledger.specs.declared.data.Refused.TheVariants.{Over, Spent, NoWorker, NotReady, Holding, NotOut, Collecting, NotCollecting, NotWaiting, Swept, Marking, NotMarking, Long, Due, NotNeeded, NotDue, PoolShort, PoolEnough, Marked, Left, Count, NotSpent, Short, Stopped}
use Rattle.run_ledger.specs.declared.data.RefusedAt.{RefusedAt}
use Rattle.run_ledger.specs.Journals.{machine_of, end_of}
use Rattle.run_ledger.specs.Report.{report_of}

-- OUTPUTS

abbrev pub output_lines : List ℤ → List ℕ
output_lines outputs = flat_map (λ k. signed_decimal k ++ 10 ∷ []) outputs

-- THE REPORT

abbrev pub report_lines : Report → List ℕ
report_lines r =
    line (codes "report tasks" ∷ decimal r.tasks ∷ codes "steps" ∷ decimal r.steps ∷ codes "turns" ∷ decimal r.turns ∷ [])
    ++ line (codes "report leaf" ∷ decimal r.leaf ∷ codes "putoff" ∷ decimal r.putoff ∷ codes "freed" ∷ decimal r.leaf_freed ∷ [])
    ++ line (codes "report inner" ∷ decimal r.inner ∷ codes "freed" ∷ decimal r.inner_freed ∷ [])
    ++ line (codes "report chunks" ∷ decimal r.chunks ∷ codes "peak" ∷ decimal r.peak ∷ [])
    ++ line (codes "report held" ∷ decimal r.held ∷ codes "words" ∷ decimal r.words ∷ [])

-- ENDS

abbrev pub trap_word : Trap → List ℕ
trap_word Nil = codes "nil"
trap_word Range = codes "range"
trap_word Frozen = codes "frozen"
trap_word Div = codes "div"
trap_word Size = codes "size"
trap_word Depth = codes "depth"

abbrev pub machine_end_words : End → List (List ℕ)
machine_end_words Done = codes "done" ∷ []
machine_end_words (Trapped kind t at) = codes "trap" ∷ trap_word kind ∷ codes "task" ∷ decimal t ∷ codes "line" ∷ decimal at ∷ []
machine_end_words (Entangled reader owner) = codes "entangled reader" ∷ decimal reader ∷ codes "owner" ∷ decimal owner ∷ []

abbrev pub end_words : RunEnd → List (List ℕ)
end_words (Machine e) = machine_end_words e
end_words (Fuel steps) = codes "fuel" ∷ decimal steps ∷ []
end_words (Pool chunks) = codes "pool" ∷ decimal chunks ∷ []

-- the last line that is written
abbrev pub end_line : List (List ℕ) → List ℕ
end_line words = line (codes "end:" ∷ words)

abbrev pub end_line_of : Option RunEnd → List ℕ
end_line_of None = []
end_line_of (Some e) = end_line (end_words e)

abbrev pub machine_status : End → ℕ
machine_status Done = 0
machine_status (Trapped kind t at) = 4
machine_status (Entangled reader owner) = 5

-- the exit status of a run
abbrev pub end_status : RunEnd → ℕ
end_status (Machine e) = machine_status e
end_status (Fuel steps) = 6
end_status (Pool chunks) = 7

-- REFUSED ENTRIES

-- a cause and its numbers
abbrev pub cause_words : Refused → List (List ℕ)
cause_words Over = codes "over" ∷ []
cause_words (Spent steps) = codes "spent" ∷ decimal steps ∷ []
cause_words NoWorker = codes "noworker" ∷ []
cause_words NotReady = codes "notready" ∷ []
cause_words (Holding t) = codes "holding" ∷ decimal t ∷ []
cause_words NotOut = codes "notout" ∷ []
cause_words Collecting = codes "collecting" ∷ []
cause_words NotCollecting = codes "notcollecting" ∷ []
cause_words NotWaiting = codes "notwaiting" ∷ []
cause_words Swept = codes "swept" ∷ []
cause_words Marking = codes "marking" ∷ []
cause_words NotMarking = codes "notmarking" ∷ []
cause_words (Long steps) = codes "long" ∷ decimal steps ∷ []
cause_words (Due since) = codes "due" ∷ decimal since ∷ []
cause_words (NotNeeded room) = codes "notneeded" ∷ decimal room ∷ []
cause_words (NotDue words) = codes "notdue" ∷ decimal words ∷ []
cause_words (PoolShort chunks) = codes "poolshort" ∷ decimal chunks ∷ []
cause_words (PoolEnough chunks) = codes "poolenough" ∷ decimal chunks ∷ []
cause_words Marked = codes "marked" ∷ []
cause_words (Left marked) = codes "left" ∷ decimal marked ∷ []
cause_words (Count said is) = codes "count" ∷ decimal said ∷ decimal is ∷ []
cause_words (NotSpent steps) = codes "notspent" ∷ decimal steps ∷ []
cause_words Short = codes "short" ∷ []
cause_words Stopped = codes "stopped" ∷ []

-- a journal without an end is refused at no entry
abbrev pub refused_words : ℕ → Refused → List (List ℕ)
refused_words index Short = codes "short" ∷ []
refused_words index cause = codes "entry" ∷ decimal index ∷ cause_words cause

-- the end line if an entry is refused
abbrev pub refused_line : RefusedAt → List ℕ
refused_line r = end_line (codes "trace refused" ∷ refused_words r.index r.cause)

-- ALL THAT IS WRITTEN

-- the outputs of a journal that has an end, the report and the trace if they are asked for, and the end line
abbrev pub out_text : ProgramText → SettingsValue → Bool → Bool → List EntryValue → List ℕ
out_text p s report trace journal =
    output_lines (machine_of p s journal).outputs
    ++ (if report then report_lines (report_of p s journal) else [])
    ++ (if trace then trace_text s.version journal else [])
    ++ end_line_of (end_of p s journal)
