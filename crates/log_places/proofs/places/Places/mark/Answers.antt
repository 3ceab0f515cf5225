use Rattle.log_places.proofs.Common.{◌≡◌, ◌+◌, ℕ, refl, subst, arith, AreMarked, IsRunMarked}
use Rattle.log_places.proofs.Cutting.{runs_next, keeps_through}
use Rattle.log_places.proofs.Along.{no_run, run_marked, first_runs, and_region}
use Rattle.log_places.proofs.places.Places.mark.Goals as goal

pub loop-run-preserved : goal.loop-run-preserved
loop-run-preserved c = record {
  keeps = keeps_through c.args.self.now c.loop-run.self c.mark_run.new.self c.loop-run.invariant.keeps c.mark_run.ensures.keeps;
  cut = runs_next c.loop-run.self c.mark_run.new.self c.args.region c.loop-run.run c.run_start-start.result c.mark_run.ensures.keeps c.loop-run.invariant.cut
      c.run_start-start.ensures.value c.in_ok-mark_run.ensures.cut;
  marked = λ past are.
      let m = c.loop-run.invariant.marked past are in
      run_marked past c.args.region c.loop-run.run c.requires.some c.loop-run.self c.mark_run.new.self
      (subst (λ (x : ℕ). IsRunMarked c.loop-run.self c.mark_run.new.self c.args.region.block x (x + c.args.region.length)) c.run_start-start.ensures.value c.in_ok-mark_run.ensures.run)
      m (c.in_ok-mark_run.ensures.different m.different);
}

pub returns-clause-marked : goal.returns-clause-marked
returns-clause-marked c = λ past are.
    let all : c.loop-run.run ≡ c.args.region.runs = omega (arith, c.loop-run-test.false, c.loop-run.auto.run-end) in
    subst (λ (n : ℕ). AreMarked (and_region past (first_runs c.args.region n)) c.loop-run.self) all (c.loop-run.invariant.marked past are)

pub loop-run-init : goal.loop-run-init
loop-run-init c = record {
  keeps = λ k a b cut. cut;
  cut = λ i lt. absurd (omega arith);
  marked = λ past are. no_run past c.args.region 0 c.args.self.now refl are;
}
