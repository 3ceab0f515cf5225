use Rattle.fork_graph.proofs.Common.{◌≡◌, take, meet_children}
use Rattle.fork_graph.proofs.reached.SpawnSearch.meet_children.Given as goal

abbrev pub invariant-loop-turn : goal.invariant-loop-turn
invariant-loop-turn l = l.self ≡ meet_children l.fn.self (take l.turn-index l.turns)
