use Rattle.copying_gc.proofs.Common.{◌<◌, length, ap, ◌∙◌, sym, subst, arith, length-append, List, Option, All, all_from, read_in, Addr, CallFrame, frames_of, references_of, frame_references, IsTarget, followed_ref}
use Rattle.copying_gc.proofs.FrameLemmas as frames
use Rattle.copying_gc.proofs.ListLemmas as lists
use Rattle.copying_gc.proofs.redirect.follow_frames.Goals as goal

pub follow_all-requires : goal.follow_all-requires
follow_all-requires c =
    let fs = frames_of c.args.frames.now in
    let within : c.loop-frame.frame < length fs = omega (arith, length-append c.args.frames.now.below) in
    let same = c.references_in-references.ensures
    ∙ (ap (λ (xs : List CallFrame). references_of xs c.loop-frame.frame) c.loop-frame.invariant ∙ frames.next_frame (followed_ref c.args.heap.now.chunks) fs c.loop-frame.frame within) in
    subst (λ (rs : List (Option Addr)). All (IsTarget c.args.heap.now.chunks) rs) (sym same)
    (all_from (IsTarget c.args.heap.now.chunks) (references_of fs c.loop-frame.frame)
    (λ r i. read_in (IsTarget c.args.heap.now.chunks) (frame_references fs) r (lists.in_frames fs c.loop-frame.frame r i) c.requires))

pub loop-frame-preserved : goal.loop-frame-preserved
loop-frame-preserved c =
    let fs = frames_of c.args.frames.now in
    let f = followed_ref c.args.heap.now.chunks in
    let within : c.loop-frame.frame < length fs = omega (arith, length-append c.args.frames.now.below) in
    let same = c.references_in-references.ensures
    ∙ (ap (λ (xs : List CallFrame). references_of xs c.loop-frame.frame) c.loop-frame.invariant ∙ frames.next_frame f fs c.loop-frame.frame within) in
    rw (c.set_references_in.ensures, c.follow_all.ensures, same, c.loop-frame.invariant) (frames.more_frames f fs c.loop-frame.frame within)
