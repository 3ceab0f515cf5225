use Rattle.race_scan.proofs.Common.{◌<◌, List, length, slice_index_or, ap, sym, subst, ◌∙◌, on_ok_weaker, LocationSlot, covers, AreSlots, ScanValue}
use Rattle.race_scan.proofs.Scanning.{seen_more, slots_counted}
use Rattle.race_scan.proofs.scan.RaceScan.touch.Goals as goal

pub visit_all-requires : goal.visit_all-requires
visit_all-requires g c = λ k d lt.
    let v = c.args.numbers.now in
    let few = slots_counted v c.args.touch.region c.deref.result.now
    (subst (λ (l : List LocationSlot). AreSlots v c.args.touch.region.block (covers c.args.touch.region c.args.touch.region.block) l) (sym c.deref.ensures.value) c.in_ok-slots_of.ensures) k d lt in
    subst (λ n. (slice_index_or c.deref.result.now k d).number < n) (sym (ap (λ (s : ScanValue). length s.cells) c.self.view_is ∙ c.requires.size)) few

pub returns-clause-ok : goal.returns-clause-ok
returns-clause-ok g c =
    on_ok_weaker c.visit_all.result
    (λ grown past seen. seen_more (g.S.Strands.order c.args.order.now) c.args.numbers.now past c.args.touch c.args.self.now c.self.inside.cells c.visit_all.new.self
    c.slots_of.new.slots.items c.deref.result.now c.self.view_is c.deref.ensures.value c.in_ok-slots_of.ensures grown seen)
    c.visit_all.ensures.ok
