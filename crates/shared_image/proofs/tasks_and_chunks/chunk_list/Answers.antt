use Rattle.shared_image.proofs.Common.{ℕ, ◌+◌, ◌<◌, List, refl, subst, sym, ◌∙◌, SharedValue, InUse, AreAll, InUseBefore, IsInUse, chunk_once, one_below, skip_below}
use Rattle.shared_image.proofs.tasks_and_chunks.chunk_list.Goals.{in-Some+in_ok-push, in_default}
use Rattle.shared_image.proofs.tasks_and_chunks.chunk_list.Goals as goal

abbrev number_of : InUse → ℕ
number_of c = c.number

pub loop-number-preserved : goal.loop-number-preserved
loop-number-preserved c =
    let w : SharedValue = c.args.shared.now in
    let k = c.loop-number.number in
    let Next : List InUse → Type 0 = AreAll InUseBefore (λ x. IsInUse w x × (x.number < k + 1)) in
    elim c.match-chunk_in_use.branch [
      | in-Some+in_ok-push b ↦
          subst Next (sym (b.chunks-is ∙ b.in_ok-push.ensures.ok))
          (one_below number_of (IsInUse w) (chunk_once w) k c.loop-number.chunks b.in-Some.chunk c.loop-number.invariant b.in-Some.ensures.there b.in-Some.ensures.number)
      | in_default b ↦
          subst Next (sym b.chunks-is)
          (skip_below number_of (IsInUse w) (chunk_once w) k c.loop-number.chunks c.loop-number.invariant (λ x e h. b.in_default.ensures.none refl x e h))
    ]
