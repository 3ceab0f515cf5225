use Rattle.worker_run.proofs.Common.{ℕ, ◌≡◌, ◌+◌, ◌%◌, ap, ap₂, sym, subst, ◌∙◌, length, arith, List, Theft, ChangesAt, thefts, StoleNone, TriedBefore, after_it}
use Rattle.worker_run.proofs.Finding.{none_then, none_tried, same_then, tried_all, tried_more}
use Rattle.worker_run.proofs.tasks.find.Goals as goal

pub loop-k-init : goal.loop-k-init
loop-k-init g c = record {
  same = c.next_own.ensures.same;
  own = c.in_default.ensures.none;
  tried = subst (λ (ts : List Theft). TriedBefore c.args.worker 1 (thefts c.args.hand.now) ts) (sym c.next_own.ensures.thefts) (none_tried c.args.worker (thefts c.args.hand.now));
  workers = c.workers-workers.ensures ∙ ap length c.next_own.ensures.thefts;
}

pub loop-k-preserved : goal.loop-k-preserved
loop-k-preserved g c =
    let inv = c.loop-k.invariant in
    let old = thefts c.args.hand.now in
    let mid = thefts c.loop-k.hand in
    let new = thefts c.steal_from.new.self in
    let k = c.loop-k.k in
    let from = c.loop-k.auto.k in
    let more = c.loop-k-test.true in
    let many = inv.workers in
    let at : (c.from.result + k) % c.workers-workers.result ≡ after_it c.args.worker (length old) k = ap₂ (λ (x n : ℕ). (x + k) % n) c.from.ensures many in
    record {
      same = same_then c.args.hand.now c.loop-k.hand c.steal_from.new.self inv.same c.steal_from.ensures.same;
      own = none_then c.args.hand.now c.loop-k.hand c.steal_from.new.self inv.own c.steal_from.ensures.own c.steal_from.ensures.counted;
      tried = tried_more c.args.worker k old mid new inv.tried (omega (arith, from)) (omega (arith, more, many)) c.steal_from.ensures.same.workers
          (subst (λ (v : ℕ). ChangesAt mid new v StoleNone) at c.in_default-steal_from.ensures.none);
      workers = inv.workers;
    }

pub returns : goal.returns
returns g c =
    let inv = c.loop-k.invariant in
    record {
      same = inv.same;
      own = inv.own;
      tried = (let n = inv.workers in let k = c.loop-k-test.false in let a = c.loop-k.auto.k-end in tried_all c.args.worker c.loop-k.k (thefts c.args.hand.now) (thefts c.loop-k.hand) inv.tried (omega (arith, n, k)) (λ some. omega (arith, some, n, a)));
    }
