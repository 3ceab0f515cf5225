-- The contents of a block for a part.
use Rattle.std.specs.Prelude.{Option, Some, None, [], pos, replicate}
use Rattle.entry_calls.specs.below.task_machine.{Private}

-- one without objects, which stands for a missing part
pub no_part : Private
no_part = record {
  task = 0;
  frames = record { below = []; top = record { function = 0; next = 0; ints = replicate 16 (pos 0); refs = replicate 16 None } };
  heap = record { chunks = []; current = None; reserved = None; since = 0; slots = 0; spare = 0 };
  view = [];
  allocations = 0;
  leaf_limit = 0;
  field_limit = 0;
  fresh = 0;
  begun = None;
}

-- the part in it
abbrev pub part_in : Option Private → Private
part_in (Some part) = part
part_in None = no_part
