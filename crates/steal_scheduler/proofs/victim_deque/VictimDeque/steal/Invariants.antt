use Rattle.steal_scheduler.proofs.Common.{◌≡◌, view, stealer_deque, SamePass}
use Rattle.steal_scheduler.proofs.victim_deque.VictimDeque.steal.Given as goal

abbrev pub invariant-loop : goal.invariant-loop
invariant-loop g l = (goal.iterator-loop g).can_next l.iterator' × (goal.iterator-loop g).is_finite l.iterator' × (stealer_deque l.self.stealer ≡ stealer_deque l.initial.self.stealer) × SamePass l.initial.self.pass l.self.pass × (view l.self.pass ≡ view l.initial.self.pass) × (l.self.vain_thefts ≡ l.initial.self.vain_thefts)
