use Rattle.copying_gc.proofs.Common.{List, map, sym, subst, ap, All, ChunkValue, as_reference, frames_of, frame_references, outside, CollectorValue, IsTarget, CanBeFollowed}
use Rattle.copying_gc.proofs.FrameLemmas as frames
use Rattle.copying_gc.proofs.Phases as phases
use Rattle.copying_gc.proofs.Phases.{AreFound}
use Rattle.copying_gc.proofs.collector.Collector.evacuate.Goals.{After-sort_found}
use Rattle.copying_gc.proofs.collector.Collector.evacuate.Goals as goal

are_found : (c : After-sort_found) → AreFound c.args.self.now (outside c.args.frames.now c.args.roots.now) c.discover.new.self c.sort_found.new.self
are_found c = record {
  begins = c.requires.begins;
  exactly = c.discover.ensures.survivors;
  distinct = c.discover.ensures.once;
  names = c.discover.ensures.names;
  marked = c.discover.ensures.marked;
  rest = c.sort_found.ensures.rest;
  permuted = c.sort_found.ensures.permutation;
  ordered = c.sort_found.ensures.order;
}

pub discover-requires-clause-none : goal.discover-requires-clause-none
discover-requires-clause-none c = c.requires.begins.found

pub copy_all-requires-clause-ready : goal.copy_all-requires-clause-ready
copy_all-requires-clause-ready c = phases.can_copy _ _ c.requires.closed c.requires.outside _ _ (are_found (goal.at.copy_all-requires-clause-ready c).After-sort_found)

pub copy_all-requires-clause-none : goal.copy_all-requires-clause-none
copy_all-requires-clause-none c = phases.none_moved _ _ c.requires.closed c.requires.outside _ _ (are_found (goal.at.copy_all-requires-clause-none c).After-sort_found)

pub lead_chunks-requires : goal.lead_chunks-requires
lead_chunks-requires c = phases.chunks_have _ _ c.requires.closed c.requires.outside _ _ (are_found (goal.at.lead_chunks-requires c).After-sort_found) c.copy_all.new.self c.copy_all.ensures

pub lead_frames-requires : goal.lead_frames-requires
lead_frames-requires c =
    let same = ap (λ (z : CollectorValue). z.heap.chunks) c.lead_chunks.ensures in
    frames.first_part (IsTarget c.lead_chunks.new.self.heap.chunks) (frame_references (frames_of c.args.frames.now)) (map as_reference c.args.roots.now)
    (subst (λ (ks : List ChunkValue). All (IsTarget ks) (outside c.args.frames.now c.args.roots.now)) (sym same)
    (phases.from_targets _ _ c.requires.closed c.requires.outside _ _ (are_found (goal.at.lead_frames-requires c).After-sort_found) c.copy_all.new.self c.copy_all.ensures))

pub lead_larges-requires : goal.lead_larges-requires
lead_larges-requires c =
    subst (λ (z : CollectorValue). CanBeFollowed z.heap.chunks z.found) (sym c.lead_chunks.ensures)
    (phases.can_follow _ _ c.requires.closed c.requires.outside _ _ (are_found (goal.at.lead_larges-requires c).After-sort_found) c.copy_all.new.self c.copy_all.ensures)

pub returns : goal.returns
returns c =
    phases.is_evacuated c.args.self.now c.args.frames.now c.args.roots.now c.requires.closed c.requires.outside _ _ (are_found (goal.at.returns c).After-sort_found) c.copy_all.new.self c.copy_all.ensures c.lead_chunks.new.self c.lead_chunks.ensures
    c.lead_frames.new.frames c.lead_frames.ensures c.lead_larges.new.self c.lead_larges.ensures
