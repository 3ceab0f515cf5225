use Rattle.log_heaps.proofs.Common.{◌≡◌, ◌+◌, List, length, GraphStrand, acts_in, LogTasks, IsPlaceOf, Event, IsScene, IsPart, HasFew, AreTallied}
use Rattle.log_heaps.proofs.tally.Tally.take_text.Given as goal

abbrev pub invariant-loop-act : goal.invariant-loop-act
invariant-loop-act l = record {
  number : l.line + length (acts_in l.left) ≡ l.first + length (acts_in l.fn.text);
  few : HasFew l.self l.line;
  part : (events : List Event) (s : GraphStrand) → IsPart events l.first s (acts_in l.fn.text) → IsPart events l.line s (acts_in l.left);
  tallied : (tasks : LogTasks) (events : List Event) (s : GraphStrand) → IsScene tasks events l.walk l.lines → IsPlaceOf tasks l.walk.order s l.place → IsPart events l.first s (acts_in l.fn.text)
      → AreTallied events tasks l.first l.fn.self → AreTallied events tasks l.line l.self;
}

abbrev pub decreases-loop-act : goal.decreases-loop-act
decreases-loop-act l = length l.left
