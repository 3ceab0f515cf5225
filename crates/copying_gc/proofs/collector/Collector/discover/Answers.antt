use Rattle.copying_gc.proofs.Common.{◌≡◌, ◌+◌, ◌<◌, ◌≤◌, get_or, List, length, sym, ap, ◌∙◌, subst, arith, map, distinct_from, ChunkValue, cell_of, frames_of, Survivor, as_reference, frame_references, live_count, olds, outside, with_chunks, CollectorValue}
use Rattle.copying_gc.proofs.Discovered as founds
use Rattle.copying_gc.proofs.Discovered.{Going}
use Rattle.copying_gc.proofs.Places as places
use Rattle.copying_gc.proofs.collector.Collector.discover.Goals as goal

pub visit_frames-requires : goal.visit_frames-requires
visit_frames-requires c = founds.frames_targets c.args.self.now c.requires.none (frames_of c.args.frames.now) c.args.roots.now c.requires.outside

pub visit_roots-requires : goal.visit_roots-requires
visit_roots-requires c = founds.roots_targets c.args.self.now c.requires.none (frames_of c.args.frames.now) c.args.roots.now c.requires.outside c.visit_frames.new.self c.visit_frames.ensures

pub loop-next-init : goal.loop-next-init
loop-next-init c =
    let b : CollectorValue = c.args.self.now in
    let s : CollectorValue = c.visit_frames.new.self in
    let t : CollectorValue = c.visit_roots.new.self in
    let fs = frames_of c.args.frames.now in
    record {
      going = founds.begun b c.requires.none fs c.args.roots.now c.requires.outside s t c.visit_frames.ensures c.visit_roots.ensures;
      searches = founds.searches_then b s t (founds.searches_by b s (frame_references fs) c.visit_frames.ensures) (founds.searches_by s t (map as_reference c.args.roots.now) c.visit_roots.ensures);
    }

pub visit_refs-requires-clause-object : goal.visit_refs-requires-clause-object
visit_refs-requires-clause-object c =
    let h : List ChunkValue = c.args.self.now.heap.chunks in
    let from = outside c.args.frames.now c.args.roots.now in
    let s : CollectorValue = c.loop-next.self in
    let g : Going h from s c.loop-next.next = c.loop-next.invariant.going in
    let within : c.loop-next.next < length c.self.inside.found.items = omega arith in
    let l : c.loop-next.next < length s.found = subst (λ (z : CollectorValue). c.loop-next.next < length z.found) c.self.view_is within in
    let x : Survivor = c.index.result.now in
    let read : x ≡ get_or c.self.inside.found.items c.loop-next.next x = c.index.ensures in
    let is : x ≡ get_or s.found c.loop-next.next x = subst (λ (z : CollectorValue). x ≡ get_or z.found c.loop-next.next x) c.self.view_is read in
    founds.object_now h from c.requires.closed s g.discovered x.old (founds.next_live h from s c.loop-next.next g x l is)

pub visit_refs-requires-clause-targets : goal.visit_refs-requires-clause-targets
visit_refs-requires-clause-targets c =
    let h : List ChunkValue = c.args.self.now.heap.chunks in
    let from = outside c.args.frames.now c.args.roots.now in
    let s : CollectorValue = c.loop-next.self in
    let g : Going h from s c.loop-next.next = c.loop-next.invariant.going in
    let within : c.loop-next.next < length c.self.inside.found.items = omega arith in
    let l : c.loop-next.next < length s.found = subst (λ (z : CollectorValue). c.loop-next.next < length z.found) c.self.view_is within in
    let x : Survivor = c.index.result.now in
    let read : x ≡ get_or c.self.inside.found.items c.loop-next.next x = c.index.ensures in
    let is : x ≡ get_or s.found c.loop-next.next x = subst (λ (z : CollectorValue). x ≡ get_or z.found c.loop-next.next x) c.self.view_is read in
    founds.refs_now h from c.requires.closed s g.discovered x.old (founds.next_live h from s c.loop-next.next g x l is)

pub loop-next-preserved : goal.loop-next-preserved
loop-next-preserved c =
    let h : List ChunkValue = c.args.self.now.heap.chunks in
    let from = outside c.args.frames.now c.args.roots.now in
    let s : CollectorValue = c.loop-next.self in
    let g : Going h from s c.loop-next.next = c.loop-next.invariant.going in
    let within : c.loop-next.next < length c.self.inside.found.items = omega arith in
    let l : c.loop-next.next < length s.found = subst (λ (z : CollectorValue). c.loop-next.next < length z.found) c.self.view_is within in
    let x : Survivor = c.index.result.now in
    let read : x ≡ get_or c.self.inside.found.items c.loop-next.next x = c.index.ensures in
    let is : x ≡ get_or s.found c.loop-next.next x = subst (λ (z : CollectorValue). x ≡ get_or z.found c.loop-next.next x) c.self.view_is read in
    record {
      going = subst (λ (t : CollectorValue). Going h from t (c.loop-next.next + 1)) (sym c.visit_refs.ensures) (founds.going_more h from s c.loop-next.next g x l is);
      searches = founds.searches_then c.args.self.now s c.visit_refs.new.self c.loop-next.invariant.searches (founds.searches_by s c.visit_refs.new.self (cell_of s.heap.chunks c.index.result.now.old).refs c.visit_refs.ensures);
    }

pub loop-next-smaller : goal.loop-next-smaller
loop-next-smaller c =
    let s : CollectorValue = c.loop-next.self in
    let within : c.loop-next.next < length c.self.inside.found.items = omega arith in
    let l : c.loop-next.next < length s.found = subst (λ (z : CollectorValue). c.loop-next.next < length z.found) c.self.view_is within in
    let same : length c.visit_refs.new.self.found + live_count c.visit_refs.new.self.heap.chunks ≡ length s.found + live_count s.heap.chunks =
    ap (λ (z : CollectorValue). length z.found + live_count z.heap.chunks) c.visit_refs.ensures ∙ places.count_all s (cell_of s.heap.chunks c.index.result.now.old).refs in
    omega arith

pub returns-clause-survivors : goal.returns-clause-survivors
returns-clause-survivors c =
    let h : List ChunkValue = c.args.self.now.heap.chunks in
    let from = outside c.args.frames.now c.args.roots.now in
    let s : CollectorValue = c.loop-next.self in
    let all : length c.self.inside.found.items ≤ c.loop-next.next = omega arith in
    founds.going_all h from s c.loop-next.next c.loop-next.invariant.going (subst (λ (z : CollectorValue). length z.found ≤ c.loop-next.next) c.self.view_is all)

pub returns-clause-names : goal.returns-clause-names
returns-clause-names c =
    let h : List ChunkValue = c.args.self.now.heap.chunks in
    let from = outside c.args.frames.now c.args.roots.now in
    let s : CollectorValue = c.loop-next.self in
    let g : Going h from s c.loop-next.next = c.loop-next.invariant.going in
    founds.found_births h from s g.discovered

pub returns-clause-once : goal.returns-clause-once
returns-clause-once c =
    let h : List ChunkValue = c.args.self.now.heap.chunks in
    let from = outside c.args.frames.now c.args.roots.now in
    let s : CollectorValue = c.loop-next.self in
    let g : Going h from s c.loop-next.next = c.loop-next.invariant.going in
    distinct_from (olds s.found) g.discovered.once

pub returns-clause-marked : goal.returns-clause-marked
returns-clause-marked c =
    let h : List ChunkValue = c.args.self.now.heap.chunks in
    let from = outside c.args.frames.now c.args.roots.now in
    let s : CollectorValue = c.loop-next.self in
    let g : Going h from s c.loop-next.next = c.loop-next.invariant.going in
    c.loop-next.invariant.searches ∙ ap (λ (ks : List ChunkValue). let w : CollectorValue = record c.args.self.now { heap = with_chunks c.args.self.now.heap ks; found = s.found } in w) g.discovered.marked
