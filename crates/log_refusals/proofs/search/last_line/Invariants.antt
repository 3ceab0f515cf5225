use Rattle.std.proofs.Common.{◌≡◌, None}
use Rattle.log_refusals.proofs.Lines.{found_in}
use Rattle.log_refusals.proofs.search.last_line.Given as goal

abbrev pub invariant-loop-file : goal.invariant-loop-file
invariant-loop-file l = record {
  found : found_in l.fn.strand l.texts l.file l.search.found ≡ found_in l.fn.strand l.texts 0 None;
  strand : l.search.strand ≡ l.fn.strand;
}
