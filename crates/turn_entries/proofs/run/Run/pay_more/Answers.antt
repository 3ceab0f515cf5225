use Rattle.turn_entries.proofs.Common.{ap, sym, ◌∙◌, Kind, More, not_refused, refusal_of_result}
use Rattle.turn_entries.proofs.Free.{more_free}
use Rattle.turn_entries.proofs.Paying.{pays_more}
use Rattle.turn_entries.proofs.Turning.{one_of_all}
use Rattle.turn_entries.proofs.run.Run.pay_more.Goals as goal

pub unreachable-requires : goal.unreachable-requires
unreachable-requires g c = not_refused _ c.in-Err.field-0 (more_free (g.P.EntryCalls.value c.args.self.now.paced) c.args.worker c.args.task c.stands.ensures.stands c.requires.enter.free c.requires.enter.owed) (sym c.mark_objects.ensures.refused ∙ ap refusal_of_result c.in-Err.is)

pub returns : goal.returns
returns g c =
    let kind : Kind = More c.args.task 64 in
    c.paid.ensures (g.P.EntryCalls.value c.args.self.now.paced) c.args.worker kind c.stands.ensures.stands c.requires.enter.goes c.requires.met c.requires.brings
    (one_of_all (g.P.EntryCalls.value c.args.self.now.paced) (g.P.EntryCalls.value c.mark_objects.new.self) c.args.worker kind c.in-Ok.ensures.enters c.in-Ok.ensures.fits) c.in-Ok.ensures.fits c.requires.enter.on

pub mark_objects-requires-clause-room : goal.mark_objects-requires-clause-room
mark_objects-requires-clause-room g c = c.requires.enter.room

pub mark_objects-requires-clause-pays : goal.mark_objects-requires-clause-pays
mark_objects-requires-clause-pays g c = pays_more (g.P.EntryCalls.value c.args.self.now.paced) c.args.worker c.args.task c.requires.enter.owed
