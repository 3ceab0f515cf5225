use Rattle.copying_gc.proofs.Common.{List, arith, subst, sym, ap, ◌∙◌, option_map, Birth, Cell, Moved, with_mark, ChunkValue, cell_of, length-put, CollectorValue, IsTarget, Live}
use Rattle.object_layout.proofs.ChunkLaws as laws
use Rattle.copying_gc.proofs.FoundLemmas as founds
use Rattle.address_laws.proofs.Puts as puts
use Rattle.copying_gc.proofs.FoundCounts as counts
use Rattle.copying_gc.proofs.collector.Collector.visit.Goals as goal

abbrev name : Live → Birth
name l = l.birth

pub forward_in-requires-clause-object : goal.forward_in-requires-clause-object
forward_in-requires-clause-object c =
    let h : List ChunkValue = c.self.inside.heap.chunks in
    let live = founds.visit_live h c.in-Some.address c.in-Some-live_at.live.birth (option_map name c.live_at.result) c.live_at.ensures.birth (ap (option_map name) c.in-Some-live_at.is) in
    let t = subst (IsTarget h) c.in-Some.is (subst (λ (z : CollectorValue). IsTarget z.heap.chunks c.args.reference) (sym c.self.view_is) c.requires) in
    (t (puts.live_chunk h c.in-Some.address live)).0

pub forward_in-requires-clause-to : goal.forward_in-requires-clause-to
forward_in-requires-clause-to c =
    let h : List ChunkValue = c.self.inside.heap.chunks in
    let live = founds.visit_live h c.in-Some.address c.in-Some-live_at.live.birth (option_map name c.live_at.result) c.live_at.ensures.birth (ap (option_map name) c.in-Some-live_at.is) in
    let t = subst (IsTarget h) c.in-Some.is (subst (λ (z : CollectorValue). IsTarget z.heap.chunks c.args.reference) (sym c.self.view_is) c.requires) in
    (t (puts.live_chunk h c.in-Some.address live)).1

pub push_reserved-requires : goal.push_reserved-requires
push_reserved-requires c =
    let h : List ChunkValue = c.self.inside.heap.chunks in
    let live = founds.visit_live h c.in-Some.address c.in-Some-live_at.live.birth (option_map name c.live_at.result) c.live_at.ensures.birth (ap (option_map name) c.in-Some-live_at.is) in
    let count = counts.count_found h c.in-Some.address c.in-Some.address live in
    omega arith

pub invariant_of-self : goal.invariant_of-self
invariant_of-self c =
    let h : List ChunkValue = c.self.inside.heap.chunks in
    let live = founds.visit_live h c.in-Some.address c.in-Some-live_at.live.birth (option_map name c.live_at.result) c.live_at.ensures.birth (ap (option_map name) c.in-Some-live_at.is) in
    let count = counts.count_found h c.in-Some.address c.in-Some.address live in
    let found : Cell = with_mark (cell_of h c.in-Some.address) (Moved c.in-Some.address) in
    let same = length-put h c.in-Some.address found in
    let len = c.push_reserved.ensures.len in
    let places = c.self.invariant.0 in
    rw c.forward_in.ensures (
      record { found = omega arith; moved = omega arith; laid = omega arith },
      (
        laws.place_in-put h c.in-Some.address found c.self.inside.object.number ∙ c.self.invariant.1.0,
        laws.place_in-put h c.in-Some.address found c.place_of-place.new.self.number ∙ c.place_of-place.ensures.known,
      ),
    )
