use Rattle.fork_graph.proofs.Common.{◌≡◌, false, take, list_any, spawns_open}
use Rattle.fork_graph.proofs.children.leaves_open.Given as goal

abbrev pub invariant-loop-turn : goal.invariant-loop-turn
invariant-loop-turn l = list_any (spawns_open l.states) (take l.turn-index l.turns) ≡ false
