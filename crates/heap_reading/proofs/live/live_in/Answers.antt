use Rattle.heap_reading.proofs.Common.{◌≡◌, ℕ, ◌+◌, ◌<◌, ◌≤◌, List, refl, subst, sym, ◌∙◌, arith, length, slice_get_within, TaskNode, LiveTask, AreAll, IsLiveIn, LiveBefore}
use Rattle.heap_reading.proofs.LiveRead.{all_below, live_once, one_below, skip_below}
use Rattle.heap_reading.proofs.live.live_in.Goals.{in-Some+in_ok-push, in_default}
use Rattle.heap_reading.proofs.live.live_in.Goals as goal

abbrev number_of : LiveTask → ℕ
number_of x = x.number

pub loop-number-preserved : goal.loop-number-preserved
loop-number-preserved c =
    let tree : List TaskNode = c.args.tree.now in
    let k = c.loop-number.number in
    let Next : List LiveTask → Type 0 = AreAll LiveBefore (λ x. IsLiveIn tree x × (x.number < k + 1)) in
    elim c.match-live_task.branch [
      | in-Some+in_ok-push b ↦
          subst Next (sym (b.tasks-is ∙ b.in_ok-push.ensures.ok))
          (one_below number_of (IsLiveIn tree) (live_once tree) k c.loop-number.tasks b.in-Some.task c.loop-number.invariant b.in-Some.ensures.there b.in-Some.ensures.number)
      | in_default b ↦
          subst Next (sym b.tasks-is)
          (skip_below number_of (IsLiveIn tree) (live_once tree) k c.loop-number.tasks c.loop-number.invariant (λ x e h. b.in_default.ensures.none refl x e h))
    ]

pub returns : goal.returns
returns c =
    let tree : List TaskNode = c.args.tree.now in
    let made : c.made-number-end.result ≡ length tree = c.made-number-end.ensures.count in
    let past : c.made-number-end.result ≤ c.loop-number.number = c.loop-number-test.false in
    all_below number_of (IsLiveIn tree) (live_once tree) c.loop-number.number c.loop-number.tasks c.loop-number.invariant
    (λ x h. (let lt : x.number < length tree = slice_get_within tree x.number _ h.is in let few : x.number < c.loop-number.number = omega (arith, lt, made, past) in few))
