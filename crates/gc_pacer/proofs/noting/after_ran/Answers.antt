use Rattle.run_statistics.specs.below.core_invariant.{accounts}
use Rattle.gc_pacer.proofs.Noted.{steps_noted}
use Rattle.gc_pacer.proofs.noting.after_ran.Goals as goal

pub returns : goal.returns
returns c = λ k x K. steps_noted (accounts c.args.shared.now) c.args.task k c.fork_of-fork.result c.forget.new.pace c.after_steps.new.self x c.fork_of-fork.ensures c.after_steps.ensures (c.forget.ensures.keeps x K)
