use Rattle.ledger_heaps.proofs.Common.{◌≡◌, ◌+◌, length, take, flat_map, contains, hash_set_len, refs_at, is_name, Meets}
use Rattle.ledger_heaps.proofs.search.Search.follow_heap.Given as goal

abbrev pub invariant-loop-names : goal.invariant-loop-names
invariant-loop-names l = record {
  met : Meets (flat_map (refs_at l.machine.store) (flat_map (λ ns. ns) (take l.names-index l.heap.chunks))) (contains is_name l.fn.self.unmet) (contains is_name l.self.unmet) l.fn.self.waiting l.self.waiting;
  left : hash_set_len l.self.unmet + length l.self.waiting ≡ hash_set_len l.fn.self.unmet + length l.fn.self.waiting;
}
