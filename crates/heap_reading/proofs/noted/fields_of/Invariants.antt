use Rattle.heap_reading.proofs.Common.{◌≡◌, map, take, field_of}
use Rattle.heap_reading.proofs.noted.fields_of.Given as goal

abbrev pub invariant-loop-source : goal.invariant-loop-source
invariant-loop-source l = record {
  fields : l.fields.items ≡ map field_of (take l.source-index l.sources);
}
