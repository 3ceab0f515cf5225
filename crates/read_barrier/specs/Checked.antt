-- The result of a read of a reference.
use Rattle.std.specs.Prelude.{ℕ, Bool, true, false, List, Result, Ok, Err}
use Rattle.object_layout.specs.declared.word.Addr.{Addr}
use Rattle.heap_tree.specs.TaskNode.{TaskNode, node_on_path}
use Rattle.read_barrier.specs.declared.barrier.Stop.{Stop}

abbrev pub passed : Bool → ℕ → ℕ → Addr → Result Addr Stop
passed true reader owner to = Ok to
passed false reader owner to = Err (record { reader = reader; owner = owner })

-- the address if its owner is the reader or an ancestor, otherwise the stop
abbrev pub checked_read : List TaskNode → ℕ → ℕ → Addr → Result Addr Stop
checked_read nodes reader owner to = passed (node_on_path nodes owner reader) reader owner to
