use Rattle.mark_sweep_gc.proofs.Common.{◌≡◌, ◌+◌, get_or, refl, sym, ap, ◌∙◌, subst, get_or_default, Addr, RefersTo, MarkingValue}
use Rattle.mark_sweep_gc.proofs.Finding as finding
use Rattle.mark_sweep_gc.proofs.marking.Marking.mark_next.Goals as goal

pub returns-clause-finds : goal.returns-clause-finds
returns-clause-finds c = λ none.
    let finds = c.visit_refs.ensures.finds in
    let object : Addr = c.index-object.result.now in
    let v = c.self-2.view_is in
    let here = ap (λ (m : MarkingValue). get_or m.found m.marked object) c.self.view_is in
    let next : object ≡ get_or c.args.self.now.found c.args.self.now.marked none = c.index-object.ensures ∙ (here ∙ get_or_default c.args.self.now.found c.args.self.now.marked object none c.requires.next) in
    finding.finds_counted (RefersTo c.args.heap.now.chunks object) (RefersTo c.args.heap.now.chunks (get_or c.args.self.now.found c.args.self.now.marked none)) c.args.self.now c.visit_refs.new.self _ _
    (λ a i. subst (λ (b : Addr). RefersTo c.args.heap.now.chunks b a) next i) (λ a i. subst (λ (b : Addr). RefersTo c.args.heap.now.chunks b a) (sym next) i)
    finds refl (ap (λ (m : MarkingValue). m.found) v) (ap (λ (m : MarkingValue). m.marked + 1) v ∙ ap (λ n. n + 1) finds.marked) (ap (λ (m : MarkingValue). m.followed) v ∙ finds.followed)
