use Rattle.copying_gc.proofs.Common.{◌≡◌, ◌≤◌, length, take, drop, fold, copied, CanBeCopied}
use Rattle.copying_gc.proofs.collector.Collector.copy_all.Given as goal

abbrev pub invariant-loop-next : goal.invariant-loop-next
invariant-loop-next l = record {
  copied : l.self ≡ fold copied l.fn.self (take l.next l.fn.self.found);
  found : l.self.found ≡ l.fn.self.found;
  ready : CanBeCopied l.self (drop l.next l.fn.self.found);
  few : length l.self.moved ≤ l.next;
}
