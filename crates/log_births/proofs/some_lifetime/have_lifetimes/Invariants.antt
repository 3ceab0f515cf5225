use Rattle.log_births.proofs.Common.{◌≡◌, false, take, list_any, events_of_pieces, is_lifetime}
use Rattle.log_births.proofs.some_lifetime.have_lifetimes.Given as goal

abbrev pub invariant-loop-piece : goal.invariant-loop-piece
invariant-loop-piece l = list_any (λ e. is_lifetime e.act) (events_of_pieces l.texts (take l.piece-index l.pieces)) ≡ false
