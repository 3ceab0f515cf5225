use Rattle.std.proofs.Common.{◌≡◌, ◌++◌, arith, length, sym, ap, ◌∙◌, ◌∷◌, []}
use Rattle.task_frames.specs.declared.frames.CallFrame.{CallFrame}
use Rattle.task_frames.specs.declared.frames.Stack.{Stack}
use Rattle.task_frames.specs.FramesValue.{references_of}
use Rattle.task_frames.proofs.StackLemmas as stack
use Rattle.task_frames.proofs.frames.Frames.references_in.Goals as goal

pub returns-then-frame-len : goal.returns-then-frame-len
returns-then-frame-len c =
    let now : Stack = c.deref-stack.result.now in
    rw (← c.self.view_is)
    (ap (λ (f : CallFrame). f.refs) c.index.ensures ∙ sym (stack.references_of-before now.below.items (now.top ∷ []) c.args.frame c.index.result.now (omega arith))
    ∙ ap (λ (s : Stack). references_of (s.below.items ++ s.top ∷ []) c.args.frame) c.deref-stack.ensures)

pub returns-else-frame-len : goal.returns-else-frame-len
returns-else-frame-len c =
    let now : Stack = c.deref-stack.result.now in
    let depth = rw (← c.self.view_is) at c.requires in
    let same : length now.below.items ≡ length c.self.inside.stack.value.below.items = ap (λ (s : Stack). length s.below.items) c.deref-stack.ensures in
    rw (← c.self.view_is)
    (sym (stack.references_of-last now.below.items now.top c.args.frame (omega (arith, same)))
    ∙ ap (λ (s : Stack). references_of (s.below.items ++ s.top ∷ []) c.args.frame) c.deref-stack.ensures)
