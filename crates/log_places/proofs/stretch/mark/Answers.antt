use Rattle.log_places.proofs.Common.{◌≡◌, ◌++◌, take, ap, sym, ◌∙◌, marked}
use Rattle.log_places.proofs.Ends.{tiled_rest, marked_rest, on_ok}
use Rattle.log_places.proofs.Gaps.{gap_filled}
use Rattle.log_places.proofs.stretch.mark.Goals as goal

pub returns-then-is_gap-clause-ok : goal.returns-then-is_gap-clause-ok
returns-then-is_gap-clause-ok c =
    on_ok c.insert.result _ (c.insert.new.stretches.items ≡ marked c.args.start c.args.end c.args.stretches.now.items)
    (λ is. is ∙ gap_filled c.args.stretches.now.items c.deref.result.now c.deref-2.result.now c.ended-kept.result c.args.start c.args.end
    c.deref.ensures.value c.deref-2.ensures.value c.requires.order c.requires.some c.ended-kept.ensures.ended (sym c.is_gap.ensures ∙ c.if-is_gap.true)) c.insert.ensures.ok

pub returns-then-tiles-clause-ok : goal.returns-then-tiles-clause-ok
returns-then-tiles-clause-ok c =
    tiled_rest c.args.stretches.now.items c.deref.result.now c.deref-3.result.now c.ended-kept.result c.args.start c.args.end
    c.deref.ensures.value c.deref-3.ensures.value c.requires.order c.requires.some c.ended-kept.ensures.ended (sym c.tiles.ensures ∙ c.if-tiles.true)

pub returns-clause-ok : goal.returns-clause-ok
returns-clause-ok c =
    let put = marked_rest c.args.stretches.now.items c.deref.result.now c.deref-3.result.now c.clear.new.self.items c.push_marked.new.into.items
    c.ended-kept.result c.args.start c.args.end c.deref.ensures.value c.deref-3.ensures.value c.requires.order c.requires.some c.ended-kept.ensures.ended
    c.clear.ensures.items c.in_ok-push_marked.ensures.ok in
    on_ok c.put_behind.result _ (c.put_behind.new.stretches.items ≡ marked c.args.start c.args.end c.args.stretches.now.items)
    (λ is. is ∙ (ap (λ l. take c.ended-kept.result c.args.stretches.now.items ++ l) c.deref-4.ensures.value ∙ put)) c.put_behind.ensures.ok
