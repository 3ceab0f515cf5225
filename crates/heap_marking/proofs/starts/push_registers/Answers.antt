use Rattle.heap_marking.proofs.Common.{ℕ, ◌<◌, ◌++◌, List, Option, arith, length, length-append, append_assoc, take, ap, sym, ◌∙◌, flat_map, Addr, CallFrame, frames_of, references_of, into, frame_references}
use Rattle.heap_marking.proofs.FrameReferences.{frames_more}
use Rattle.heap_marking.proofs.starts.push_registers.Goals as goal

pub loop-frame-preserved : goal.loop-frame-preserved
loop-frame-preserved c =
    let g : Option Addr → List Addr = into c.args.heap.now.chunks in
    let fs : List CallFrame = frames_of c.args.frames.now in
    let k : ℕ = c.loop-frame.frame in
    let within : k < length fs = omega (arith, length-append c.args.frames.now.below) in
    c.in_ok-push_all_own.ensures
    ∙ (ap (λ rs. c.loop-frame.starts.items ++ flat_map g rs) c.references_in-references.ensures
    ∙ (ap (λ xs. xs ++ flat_map g (references_of fs k)) c.loop-frame.invariant
    ∙ (append_assoc c.args.starts.now.items (flat_map g (frame_references (take k fs))) (flat_map g (references_of fs k))
    ∙ ap (λ ys. c.args.starts.now.items ++ ys) (sym (frames_more g fs k within)))))
