use Rattle.run_statistics.specs.below.core_invariant.{accounts}
use Rattle.gc_pacer.proofs.Noted.{mark_noted}
use Rattle.gc_pacer.proofs.noting.after_mark.Goals as goal

pub returns : goal.returns
returns c = λ x K. mark_noted (accounts c.args.shared.now) c.args.task _ c.in-Some.fork c.forget.new.pace c.after_mark.new.self x c.in-Some.ensures c.requires.marked c.after_mark.ensures (c.forget.ensures.keeps x K)
