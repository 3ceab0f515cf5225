use Rattle.log_heaps.proofs.Common.{◌∙◌, ◌≡◌, ◌<◌, ℕ, Bool, List, length, get_or, ap, sym, subst, arith, not, slice_set, length-set, slice_get-get_or, BlockBirth, DepthSums, added, AreAbove}
use Rattle.log_heaps.proofs.Sums.{blocks_fit, own_fits, words_over, sums_next}
use Rattle.log_heaps.proofs.rows.sums_of.Goals as goal

above_there : (births : List BlockBirth) (i n : ℕ) → i < length births → AreAbove births n → (get_or births i (record { block = 0; line = 0; words = 0; depth = 0 })).depth < n
above_there births i n lt above = above i (get_or births i (record { block = 0; line = 0; words = 0; depth = 0 })) (slice_get-get_or births i (record { block = 0; line = 0; words = 0; depth = 0 }) lt)

pub added-requires-clause-blocks : goal.added-requires-clause-blocks
added-requires-clause-blocks c =
    let fit =
    blocks_fit c.args.births.now _ c.loop-birth.birth-index (record { block = 0; line = 0; words = 0; depth = 0 }) c.loop-birth-test.true c.loop-birth.sums c.loop-birth.invariant.has c.at.result.now c.at.ensures
    (above_there c.args.births.now c.loop-birth.birth-index (length c.loop-birth.sums) c.loop-birth-test.true c.loop-birth.invariant.above) in
    omega (arith, fit)

pub added-requires-clause-own : goal.added-requires-clause-own
added-requires-clause-own c =
    own_fits c.args.births.now _ c.loop-birth.birth-index (record { block = 0; line = 0; words = 0; depth = 0 }) c.loop-birth-test.true c.loop-birth.sums c.loop-birth.invariant.has c.at.result.now c.at.ensures
    (above_there c.args.births.now c.loop-birth.birth-index (length c.loop-birth.sums) c.loop-birth-test.true c.loop-birth.invariant.above)

pub set-requires : goal.set-requires
set-requires c = above_there c.args.births.now c.loop-birth.birth-index (length c.loop-birth.sums) c.loop-birth-test.true c.loop-birth.invariant.above

pub returns-in-None-clause-too_many : goal.returns-in-None-clause-too_many
returns-in-None-clause-too_many c =
    words_over c.args.births.now _ c.loop-birth.birth-index (record { block = 0; line = 0; words = 0; depth = 0 }) c.loop-birth-test.true c.loop-birth.sums c.loop-birth.invariant.has c.at.result.now c.at.ensures
    (above_there c.args.births.now c.loop-birth.birth-index (length c.loop-birth.sums) c.loop-birth-test.true c.loop-birth.invariant.above) c.in-None.ensures

pub loop-birth-preserved : goal.loop-birth-preserved
loop-birth-preserved c =
    let size : length c.set.new.self ≡ length c.loop-birth.sums = ap length c.set.ensures ∙ length-set c.loop-birth.sums _ _ in
    record {
      above = subst (AreAbove c.args.births.now) (sym size) c.loop-birth.invariant.above;
      small = (let small = c.loop-birth.invariant.small in omega (arith, size, small));
      has =
          sums_next c.args.births.now _ c.loop-birth.birth-index (record { block = 0; line = 0; words = 0; depth = 0 }) c.loop-birth-test.true c.loop-birth.sums c.loop-birth.invariant.has c.at.result.now c.at.ensures
          (above_there c.args.births.now c.loop-birth.birth-index (length c.loop-birth.sums) c.loop-birth-test.true c.loop-birth.invariant.above) c.set.new.self
          (c.set.ensures ∙ ap (λ (x : DepthSums). slice_set c.loop-birth.sums (get_or c.args.births.now c.loop-birth.birth-index (record { block = 0; line = 0; words = 0; depth = 0 })).depth x)
          (c.in-Some.ensures ∙ ap (λ (t : Bool). added c.at.result.now (get_or c.args.births.now c.loop-birth.birth-index (record { block = 0; line = 0; words = 0; depth = 0 })) (not t)) c.has-own.ensures)) size;
    }
