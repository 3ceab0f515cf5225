use Rattle.worker_run.proofs.Common.{All, sym, subst, ◌∙◌, IsCollected, IsSoundReference, outside, Moved, Private, FitsCopied, Collecting, MayCopy}
use Rattle.worker_run.proofs.Copying.{can_copy, copied, may_copy_at, may_copy_out, takes}
use Rattle.worker_run.proofs.local.copy_part.Goals as goal

pub copy-moved-requires-clause-closed : goal.copy-moved-requires-clause-closed
copy-moved-requires-clause-closed g c κs within =
    let k : Collecting = record { part = c.take_out-part.result.0; lists = c.into_inner-lists.result } in
    (can_copy c.requires.0 c.requires.1.0 c.args.worker k c.requires.1.1 (may_copy_out c.requires.1.0 c.args.worker c.args.collecting k.part k.lists c.take_out-part.ensures c.into_inner-lists.ensures c.requires.1.2)).closed

pub copy-moved-requires-clause-outside : goal.copy-moved-requires-clause-outside
copy-moved-requires-clause-outside g c κs within =
    let k : Collecting = record { part = c.take_out-part.result.0; lists = c.into_inner-lists.result } in
    subst (λ rs. All (IsSoundReference k.part.heap.chunks) (outside k.part.frames rs)) (sym c.deref.ensures.value)
    (can_copy c.requires.0 c.requires.1.0 c.args.worker k c.requires.1.1 (may_copy_out c.requires.1.0 c.args.worker c.args.collecting k.part k.lists c.take_out-part.ensures c.into_inner-lists.ensures c.requires.1.2)).outside

pub copy-moved-requires-clause-enough : goal.copy-moved-requires-clause-enough
copy-moved-requires-clause-enough g c κs within =
    let k : Collecting = record { part = c.take_out-part.result.0; lists = c.into_inner-lists.result } in
    (takes c.requires.0 c.requires.1.0 c.args.worker k c.requires.1.1 (may_copy_out c.requires.1.0 c.args.worker c.args.collecting k.part k.lists c.take_out-part.ensures c.into_inner-lists.ensures c.requires.1.2)).enough

pub returns-clause-begun : goal.returns-clause-begun
returns-clause-begun g c = c.of-begun.ensures ∙ c.take_out-part.ensures

pub returns-clause-copied : goal.returns-clause-copied
returns-clause-copied g c = λ p w G f.
    let k : Collecting = record { part = c.take_out-part.result.0; lists = c.into_inner-lists.result } in
    let M : MayCopy c.requires.1.0 c.args.worker k = may_copy_out c.requires.1.0 c.args.worker c.args.collecting k.part k.lists c.take_out-part.ensures c.into_inner-lists.ensures c.requires.1.2 in
    subst (λ (m : Moved). FitsCopied w c.args.worker c.fill-part.result m) (sym c.put.ensures)
    (subst (λ (q : Private). FitsCopied w c.args.worker q c.copy-moved.result) (sym c.fill-part.ensures)
    (copied p w c.args.worker k G (may_copy_at c.requires.1.0 w c.args.worker k c.of-begun.result.value M c.of-begun.ensures f) c.copy-moved.new.heap c.copy-moved.new.frames c.copy-moved.result
    (subst (λ rs. IsCollected k.part.heap k.part.frames rs k.lists.to_chunks.chunks.items c.copy-moved.new.heap c.copy-moved.new.frames c.copy-moved.result) c.deref.ensures.value c.copy-moved.ensures)))
