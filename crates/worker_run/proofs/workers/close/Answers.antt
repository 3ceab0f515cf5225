use Rattle.worker_run.proofs.Common.{List, sym, subst, AreAllSeats, identity}
use Rattle.worker_run.proofs.Rows.{Chair, have_seen, of_each, program_at_end, settings_at_end}
use Rattle.worker_run.proofs.workers.close.Goals as goal

pub close-paced-requires : goal.close-paced-requires
close-paced-requires g c = subst (λ (l : List (Chair g.row.P.Denot)). AreAllSeats (identity c.args.turn) l) (sym c.seats_of.ensures) c.requires.all.2.seats

pub returns-clause-of_each : goal.returns-clause-of_each
returns-clause-of_each g c = of_each g.P.EntryCalls.value (identity c.args.turn) c.requires.all.0 c.requires.all.1 c.args.worker_states.items c.seats_of.result.items c.close-paced.result c.requires.all.2 c.seats_of.ensures c.close-paced.ensures.own

pub returns-clause-seen : goal.returns-clause-seen
returns-clause-seen g c = have_seen g.P.EntryCalls.value (identity c.args.turn) c.requires.all.0 c.requires.all.1 c.args.worker_states.items c.seats_of.result.items c.close-paced.result c.requires.all.2 c.seats_of.ensures c.close-paced.ensures.value

pub returns-clause-setup : goal.returns-clause-setup
returns-clause-setup g c = λ p s all. (
  program_at_end g.P.EntryCalls.value (identity c.args.turn) p s c.args.worker_states.items c.seats_of.result.items c.close-paced.result all c.seats_of.ensures c.close-paced.ensures.value,
  settings_at_end g.P.EntryCalls.value (identity c.args.turn) p s c.args.worker_states.items c.seats_of.result.items c.close-paced.result all c.seats_of.ensures c.close-paced.ensures.value,
)
