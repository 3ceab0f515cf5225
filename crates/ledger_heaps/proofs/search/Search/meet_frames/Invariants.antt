use Rattle.ledger_heaps.proofs.Common.{◌≡◌, ◌+◌, length, take, contains, hash_set_len, registers, is_name, Meets}
use Rattle.ledger_heaps.proofs.search.Search.meet_frames.Given as goal

abbrev pub invariant-loop-frame : goal.invariant-loop-frame
invariant-loop-frame l = record {
  met : Meets (registers (take l.frame-index l.frames)) (contains is_name l.fn.self.unmet) (contains is_name l.self.unmet) l.fn.self.waiting l.self.waiting;
  left : hash_set_len l.self.unmet + length l.self.waiting ≡ hash_set_len l.fn.self.unmet + length l.fn.self.waiting;
}
