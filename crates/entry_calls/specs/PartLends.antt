-- The final value of a part of which a `&mut` is returned.
use Rattle.std.specs.Borrow.{Fml, Lends, MutBor}
use Rattle.entry_calls.specs.below.task_machine.{Private, the_row as part_row}
use Rattle.entry_calls.specs.contracts.part_block.PartInBlock.{the_row}

-- once the borrow r ends, the part is the last one written through r
abbrev pub lends_part : MutBor Private → MutBor Private → Fml
lends_part s r = Lends the_row part_row s r (λ part. part)
