use Rattle.log_refusals.proofs.Common.{◌≡◌, ◌≤◌, ◌+◌, ◌^◌, length, None, option_map, open_strand, IsUpTo}
use Rattle.log_refusals.proofs.Lines.{found_from}
use Rattle.log_refusals.proofs.search.Search.take_text.Given as goal

abbrev pub invariant-lines : goal.invariant-lines
invariant-lines l = record {
  found : found_from l.fn.self.strand l.file (option_map open_strand l.self.here) l.line l.left l.self.found ≡ found_from l.fn.self.strand l.file None 1 l.fn.text l.fn.self.found;
  strand : l.self.strand ≡ l.fn.self.strand;
  below : IsUpTo (2 ^ 31 + l.line) l.self.here;
  count : l.line + length l.left ≤ length l.fn.text + 1;
}

abbrev pub decreases-lines : goal.decreases-lines
decreases-lines l = length l.left
