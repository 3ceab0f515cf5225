use Rattle.delta_laws.proofs.JournalsGiveHoldings as proved
use Rattle.delta_laws.proofs.laws.deltas_give_holdings.Goals as goal

pub returns : goal.returns
returns c = proved.deltas_give_holdings
