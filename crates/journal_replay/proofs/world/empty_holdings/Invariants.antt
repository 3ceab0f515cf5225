use Rattle.journal_replay.proofs.Common.{◌≡◌, replicate, Nothing}
use Rattle.journal_replay.proofs.world.empty_holdings.Given as goal

abbrev pub invariant-loop : goal.invariant-loop
invariant-loop l = l.holdings ≡ replicate l.counter Nothing
