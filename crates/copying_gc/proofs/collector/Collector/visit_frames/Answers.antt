use Rattle.copying_gc.proofs.Common.{◌≡◌, ◌<◌, length, List, Option, sym, ap, ◌∙◌, subst, fold, All, arith, length-append, all_from, read_in, Addr, frames_of, references_of, frame_references, CollectorValue, visited_reference, IsTarget}
use Rattle.copying_gc.proofs.FoundLemmas as founds
use Rattle.copying_gc.proofs.ListLemmas as lists
use Rattle.copying_gc.proofs.collector.Collector.visit_frames.Goals as goal

pub visit_all-requires : goal.visit_all-requires
visit_all-requires c =
    let same = c.references_in-references.ensures in
    subst (λ (rs : List (Option Addr)). All (IsTarget c.loop-frame.self.heap.chunks) rs) (sym same)
    (all_from (IsTarget c.loop-frame.self.heap.chunks) (references_of (frames_of c.args.frames.now) c.loop-frame.frame)
    (λ r i. read_in (IsTarget c.loop-frame.self.heap.chunks) (frame_references (frames_of c.args.frames.now)) r (lists.in_frames (frames_of c.args.frames.now) c.loop-frame.frame r i) c.loop-frame.invariant.targets))

pub loop-frame-preserved : goal.loop-frame-preserved
loop-frame-preserved c =
    let s : CollectorValue = c.loop-frame.self in
    let fs = frames_of c.args.frames.now in
    let refs = references_of fs c.loop-frame.frame in
    let step : c.visit_all.new.self ≡ fold visited_reference s refs = c.visit_all.ensures ∙ ap (fold visited_reference s) c.references_in-references.ensures in
    let within : c.loop-frame.frame < length fs = omega (arith, length-append c.args.frames.now.below) in
    record {
      visited = step ∙ (ap (λ (t : CollectorValue). fold visited_reference t refs) c.loop-frame.invariant.visited ∙ sym (lists.fold_frames visited_reference c.args.self.now fs c.loop-frame.frame within));
      targets = founds.fold_all_targets s refs c.visit_all.new.self.heap.chunks (ap (λ (t : CollectorValue). t.heap.chunks) step) (frame_references fs) c.loop-frame.invariant.targets;
    }
