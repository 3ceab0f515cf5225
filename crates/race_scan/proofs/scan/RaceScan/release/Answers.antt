use Rattle.race_scan.proofs.Common.{◌<◌, length, slice_index_or, ap, sym, subst, ◌∙◌, on_ok_weaker, ScanValue}
use Rattle.race_scan.proofs.Releasing.{block_counted, released_more}
use Rattle.race_scan.proofs.scan.RaceScan.release.Goals as goal

pub visit_all-requires : goal.visit_all-requires
visit_all-requires g c = λ k d lt.
    let few = block_counted c.args.numbers.now c.args.block c.deref.result.now (c.deref.ensures.value ∙ c.in_ok-slots_of_block.ensures) k d lt in
    subst (λ n. (slice_index_or c.deref.result.now k d).number < n) (sym (ap (λ (s : ScanValue). length s.cells) c.self.view_is ∙ c.requires.size)) few

pub returns-clause-ok : goal.returns-clause-ok
returns-clause-ok g c =
    on_ok_weaker c.visit_all.result
    (λ grown regions past are seen. released_more (g.S.Strands.order c.args.order.now) c.args.numbers.now regions past c.args.block c.args.strand c.args.line c.args.self.now c.self.inside.cells
    c.visit_all.new.self c.slots_of_block.new.slots.items c.deref.result.now c.requires.known c.self.view_is c.deref.ensures.value c.in_ok-slots_of_block.ensures grown are seen)
    c.visit_all.ensures.ok
