use Rattle.std.proofs.Common.{arith}
use Rattle.log_places.proofs.Cutting.{cut_next, cut_at_last, keeps_through}
use Rattle.log_places.proofs.places.Places.mark_run.Goals as goal
use Rattle.log_places.proofs.Along.{marked_below, all_marked}

pub loop-page-preserved : goal.loop-page-preserved
loop-page-preserved c = record {
  keeps = keeps_through c.args.self.now c.loop-page.self c.mark_part.new.self c.loop-page.invariant.keeps c.mark_part.ensures.keeps;
  cut = cut_next c.loop-page.self c.mark_part.new.self c.args.block c.args.start c.args.end c.loop-page.page c.mark_part.ensures.keeps c.loop-page.invariant.cut
      c.in_ok-mark_part.ensures.cut;
  run = marked_below c.args.self.now c.loop-page.self c.mark_part.new.self c.args.block c.args.start c.args.end c.loop-page.page (omega arith) (omega arith) (omega arith) c.loop-page.invariant.run
      c.in_ok-mark_part.ensures.page c.mark_part.ensures.others;
  different = λ d. c.in_ok-mark_part.ensures.different (c.loop-page.invariant.different d);
  from = omega arith;
}

pub returns-clause-cut : goal.returns-clause-cut
returns-clause-cut c =
    cut_at_last c.loop-page.self c.args.block c.args.start c.args.end c.loop-page.page (omega (arith, c.loop-page-test.false)) c.loop-page.invariant.cut

pub returns-clause-run : goal.returns-clause-run
returns-clause-run c =
    all_marked c.args.self.now c.loop-page.self c.args.block c.args.start c.args.end c.loop-page.page (omega (arith, c.loop-page-test.false)) c.loop-page.invariant.run
