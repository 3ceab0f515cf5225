use Rattle.ledger_heaps.proofs.Common.{◌≡◌, ◌+◌, length, take, flat_map, contains, hash_set_len, refs_at, is_name, Meets}
use Rattle.ledger_heaps.proofs.search.Search.follow_all.Given as goal

abbrev pub invariant-loop-name : goal.invariant-loop-name
invariant-loop-name l = record {
  met : Meets (flat_map (refs_at l.machine.store) (take l.name-index l.names)) (contains is_name l.fn.self.unmet) (contains is_name l.self.unmet) l.fn.self.waiting l.self.waiting;
  left : hash_set_len l.self.unmet + length l.self.waiting ≡ hash_set_len l.fn.self.unmet + length l.fn.self.waiting;
}
