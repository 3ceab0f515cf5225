use Rattle.shared_image.proofs.Common.{List, IfOk, subst, TaskNode, AreAll, IsLiveIn, LiveBefore}
use Rattle.shared_image.proofs.tasks_and_chunks.live.Goals as goal

pub returns : goal.returns
returns c = subst (λ (ns : List TaskNode). IfOk c.live_in.result (λ tasks. AreAll LiveBefore (IsLiveIn ns) tasks)) c.tree.ensures c.live_in.ensures
