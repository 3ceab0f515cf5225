-- What a step of a run does, as an act of a log.
use Rattle.std.specs.Prelude.{ℕ, ◌+◌, ◌*◌, Bool, true, false, Option, Some, None, length}
use Rattle.run_log.specs.Common.{Name, Object, MachineState, object_at, Value, Deed, LogPlace, AccessKind, Reference, Act}
use Rattle.run_deltas.specs.declared.data.Value.TheVariants as values
use Rattle.run_deltas.specs.declared.data.Deed.TheVariants as deeds
use Rattle.log_lines.specs.declared.line.AccessKind.TheVariants as kinds
use Rattle.log_lines.specs.declared.line.Act.TheVariants as acts

-- the block of an object by its birth: the objects of a task have numbers one after the other, the first one's ends in 1
abbrev pub block_of : Name → ℕ
block_of n = n.task * 1000000000 + n.count + 1

-- 0 stands for nil
abbrev pub target_of : Option Name → ℕ
target_of None = 0
target_of (Some n) = block_of n

-- a field's location is its index among all fields, of which the references come first
abbrev pub location : Name → ℕ → LogPlace
location n at = record { block = block_of n; offset = at; length = 1; runs = 1; apart = 1 }

-- an access on a line of the program, which is its site
abbrev pub access : AccessKind → Name → ℕ → ℕ → Act
access kind n at line = acts.Access (record { kind = kind; place = location n at; site = Some line })

abbrev pub reference : Name → ℕ → Option Name → ℕ → Reference
reference n at r line = record { block = block_of n; offset = at; target = target_of r; site = Some line }

abbrev pub read_act : Name → ℕ → Value → ℕ → Act
read_act n at (values.Reference r) line = acts.Yield (reference n at r line)
read_act n at (values.Number k) line = access kinds.Read n at line

abbrev pub write_act : Name → ℕ → Value → ℕ → Act
write_act n at (values.Reference r) line = acts.Store (reference n at r line)
write_act n at (values.Number k) line = access kinds.Write n at line

-- a compare and swap is atomic, and writes if the field was what was expected
abbrev pub swap_kind : Bool → AccessKind
swap_kind true = kinds.AtomicWrite
swap_kind false = kinds.AtomicRead

-- a block has a location for each field
abbrev pub field_count : Option Object → ℕ
field_count None = 0
field_count (Some x) = length x.refs + length x.ints

-- the act of what a step does on a line, after which the state is this; counting fields, freezing and printing are none
abbrev pub act_of_deed : MachineState → ℕ → Deed → Option Act
act_of_deed m line (deeds.Allocates n) = Some (acts.Birth (block_of n) (field_count (object_at m.store n)))
act_of_deed m line (deeds.Reads n at v) = Some (read_act n at v line)
act_of_deed m line (deeds.Counts n) = None
act_of_deed m line (deeds.Writes n at v) = Some (write_act n at v line)
act_of_deed m line (deeds.Swaps n at r swapped) = Some (access (swap_kind swapped) n at line)
act_of_deed m line (deeds.Freezes n) = None
act_of_deed m line (deeds.Prints k) = None
