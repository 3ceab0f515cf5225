use Rattle.log_births.proofs.Common.{◌≡◌, ◌+◌, List, length, GraphStrand, acts_in, LogTasks, IsPlaceOf, Event, IsPart, KnowAll}
use Rattle.log_births.proofs.lines.Lifetimes.take_text.Given as goal

abbrev pub invariant-loop-act : goal.invariant-loop-act
invariant-loop-act l = record {
  number : l.line + length (acts_in l.left) ≡ l.first + length (acts_in l.fn.text);
  part : (events : List Event) (s : GraphStrand) → IsPart events l.first s (acts_in l.fn.text) → IsPart events l.line s (acts_in l.left);
  known : (tasks : LogTasks) (order : List GraphStrand) (events : List Event) (s : GraphStrand) → IsPlaceOf tasks order s l.place → IsPart events l.first s (acts_in l.fn.text) → KnowAll tasks order events l.first l.fn.self
      → KnowAll tasks order events l.line l.self;
}

abbrev pub decreases-loop-act : goal.decreases-loop-act
decreases-loop-act l = length l.left
