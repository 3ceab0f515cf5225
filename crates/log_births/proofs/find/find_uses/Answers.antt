use Rattle.log_births.proofs.Common.{sym, ◌∙◌}
use Rattle.log_births.proofs.Unborn.{nothing_is}
use Rattle.log_births.proofs.find.find_uses.Goals as goal

pub returns-then-not-have_lifetimes-clause-found : goal.returns-then-not-have_lifetimes-clause-found
returns-then-not-have_lifetimes-clause-found c = nothing_is c.args.texts.now c.args.pieces.now c.args.tasks.now c.new.result c.requires.pieces (sym c.have_lifetimes.ensures ∙ c.if-not-have_lifetimes.true) c.new.ensures
