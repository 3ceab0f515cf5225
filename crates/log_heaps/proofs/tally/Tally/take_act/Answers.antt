use Rattle.std.proofs.lemmas.Result.{on_ok_weaker}
use Rattle.log_heaps.proofs.Few.{few_more, few_kept}
use Rattle.log_heaps.proofs.tally.Tally.take_act.Goals as goal

pub returns-in-Some-clause-few : goal.returns-in-Some-clause-few
returns-in-Some-clause-few c =
    on_ok_weaker c.take.result (few_more c.args.walk.now c.args.births.now c.args.act c.in-Some.place c.args.line c.args.self.now c.take.new.self c.requires.few) c.take.ensures

pub returns-in-None-clause-few : goal.returns-in-None-clause-few
returns-in-None-clause-few c = few_kept c.args.self.now c.args.line c.requires.few
