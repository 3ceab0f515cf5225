use Rattle.copying_gc.proofs.Common.{◌+◌, ◌-◌, length, live_count, outside}
use Rattle.copying_gc.proofs.Discovered.{Going, Searches}
use Rattle.copying_gc.proofs.collector.Collector.discover.Given as goal

abbrev pub invariant-loop-next : goal.invariant-loop-next
invariant-loop-next l = record {
  going : Going l.fn.self.heap.chunks (outside l.frames l.roots) l.self l.next;
  searches : Searches l.fn.self l.self;
}

abbrev pub decreases-loop-next : goal.decreases-loop-next
decreases-loop-next l = (length l.self.found + live_count l.self.heap.chunks) - l.next
