use Rattle.ledger_heaps.proofs.Common.{◌≡◌, ◌+◌, length, take, contains, hash_set_len, names_of_references, is_name, Meets}
use Rattle.ledger_heaps.proofs.search.Search.meet_references.Given as goal

abbrev pub invariant-loop-reference : goal.invariant-loop-reference
invariant-loop-reference l = record {
  met : Meets (names_of_references (take l.reference-index l.refs)) (contains is_name l.fn.self.unmet) (contains is_name l.self.unmet) l.fn.self.waiting l.self.waiting;
  left : hash_set_len l.self.unmet + length l.self.waiting ≡ hash_set_len l.fn.self.unmet + length l.fn.self.waiting;
}
