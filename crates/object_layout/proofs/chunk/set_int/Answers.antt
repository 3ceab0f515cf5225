use Rattle.object_layout.proofs.Common.{ap, Header}
use Rattle.object_layout.proofs.PlaceLemmas as place
use Rattle.object_layout.proofs.chunk.set_int.Goals as goal

pub header_at-nrefs-requires : goal.header_at-nrefs-requires
header_at-nrefs-requires c = place.object_with_int c.args.chunk.now.cells c.args.at c.args.field c.requires

pub set_int_behind-requires-clause-refs : goal.set_int_behind-requires-clause-refs
set_int_behind-requires-clause-refs c = ap (λ (h : Header). h.nrefs) c.header_at-nrefs.ensures.kind
