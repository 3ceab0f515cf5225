use Rattle.std.proofs.Common.{◌≡◌, arith, length, sym, ap, ◌∙◌, ◌∷◌, [], ◌++◌, set}
use Rattle.task_frames.specs.declared.frames.CallFrame.{CallFrame}
use Rattle.task_frames.specs.declared.frames.Stack.{Stack}
use Rattle.task_frames.specs.FramesValue.{references_written}
use Rattle.task_frames.proofs.StackLemmas as stack
use Rattle.task_frames.proofs.frames.Frames.set_references_in.Goals as goal

pub returns-then-frame-len : goal.returns-then-frame-len
returns-then-frame-len c =
    let now : Stack = c.deref_mut.result.now in
    let was : length c.deref.result.now.below.items ≡ length c.self.inside.stack.value.below.items = ap (λ (s : Stack). length s.below.items) c.deref.ensures in
    let same : length now.below.items ≡ length c.self.inside.stack.value.below.items = ap (λ (s : Stack). length s.below.items) c.deref_mut.ensures.value in
    rw (← c.self.view_is)
    (sym (stack.references_written-before now.below.items (now.top ∷ []) c.args.frame c.index_mut.result.now c.args.refs.now (omega (arith, was, same))
    ∙ ap (λ (f : CallFrame). set now.below.items c.args.frame (record f { refs = c.args.refs.now }) ++ now.top ∷ []) (sym c.index_mut.ensures.value))
    ∙ ap (λ (s : Stack). references_written (s.below.items ++ s.top ∷ []) c.args.frame c.args.refs.now) c.deref_mut.ensures.value)

pub returns-else-frame-len : goal.returns-else-frame-len
returns-else-frame-len c =
    let now : Stack = c.deref_mut-else-frame-len.result.now in
    let depth = rw (← c.self.view_is) at c.requires in
    let same : length now.below.items ≡ length c.self.inside.stack.value.below.items = ap (λ (s : Stack). length s.below.items) c.deref_mut-else-frame-len.ensures.value in
    let was : length c.deref.result.now.below.items ≡ length c.self.inside.stack.value.below.items = ap (λ (s : Stack). length s.below.items) c.deref.ensures in
    rw (← c.self.view_is)
    (sym (stack.references_written-last now.below.items now.top c.args.frame c.args.refs.now (omega (arith, was, same)))
    ∙ ap (λ (s : Stack). references_written (s.below.items ++ s.top ∷ []) c.args.frame c.args.refs.now) c.deref_mut-else-frame-len.ensures.value)
