use Rattle.turn_entries.proofs.Common.{Some, Kind, Mark}
use Rattle.turn_entries.proofs.Free.{mark_free, only_memory}
use Rattle.turn_entries.proofs.Paying.{pays_mark}
use Rattle.turn_entries.proofs.Turning.{not_over, one_of_all, unchanged}
use Rattle.turn_entries.proofs.run.Run.pay_mark.Goals as goal

pub out_of_memory-requires : goal.out_of_memory-requires
out_of_memory-requires g c = record {
  cause =
      only_memory c.in-Err.cause _ (mark_free (g.P.EntryCalls.value c.args.self.now.paced) c.args.worker c.args.task c.stands.ensures.stands c.requires.enter.free c.requires.enter.owed) c.in-Err.ensures.refused;
}

pub returns-in-Ok : goal.returns-in-Ok
returns-in-Ok g c =
    let kind : Kind = Mark c.args.task in
    c.paid.ensures (g.P.EntryCalls.value c.args.self.now.paced) c.args.worker kind c.stands.ensures.stands c.requires.enter.goes c.requires.met c.requires.brings
    (one_of_all (g.P.EntryCalls.value c.args.self.now.paced) (g.P.EntryCalls.value c.mark.new.self) c.args.worker kind c.in-Ok.ensures.enters c.in-Ok.ensures.fits) c.in-Ok.ensures.fits c.requires.enter.on

pub returns-in-Err : goal.returns-in-Err
returns-in-Err g c =
    c.out_of_memory.ensures (g.P.EntryCalls.value c.args.self.now.paced) c.args.worker c.args.ready (Some (Mark c.args.task)) (unchanged (g.P.EntryCalls.value c.args.self.now.paced) (g.P.EntryCalls.value c.mark.new.self) c.in-Err.ensures.same) (not_over (g.P.EntryCalls.value c.args.self.now.paced) c.requires.enter.on c.requires.enter.goes)

pub mark-requires-clause-room : goal.mark-requires-clause-room
mark-requires-clause-room g c = c.requires.enter.room

pub mark-requires-clause-pays : goal.mark-requires-clause-pays
mark-requires-clause-pays g c = pays_mark (g.P.EntryCalls.value c.args.self.now.paced) c.args.worker c.args.task c.requires.enter.owed
