use Rattle.chunk_pool.proofs.Common.{◌≡◌, length, All, IsBlank}
use Rattle.chunk_pool.proofs.numbers.blank_chunks.Given as goal

abbrev pub invariant-loop : goal.invariant-loop
invariant-loop l = record { count : length l.blank.items ≡ l.counter; blank : All IsBlank l.blank.items; kept : All IsBlank l.kept.items }
