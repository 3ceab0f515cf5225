use Rattle.log_places.proofs.Common.{◌≡◌, ap, subst, ◌∙◌, List, arith, Stretch, marked, Ascending}
use Rattle.log_places.proofs.Ends.{on_ok}
use Rattle.log_places.proofs.Finding.{page_there, page_was, page_is, others_are, on_ok_too}
use Rattle.log_places.proofs.places.Places.mark_page.Goals as goal

pub index_mut-requires : goal.index_mut-requires
index_mut-requires c =
    let h = page_there c.args.self.now c.page.new.self c.self.inside.known.keys c.self.inside.pages.items c.args.key c.in_ok-i.i c.self.view_is c.in_ok-i.ensures.ok c.self.invariant.0 in
    omega (arith, h, c.self.inside.pages.ok.0)

pub returns-clause-ok : goal.returns-clause-ok
returns-clause-ok c =
    let was = page_was c.args.self.now c.page.new.self c.self.inside.known.keys c.self.inside.pages.items c.args.key c.in_ok-i.i c.self.view_is c.in_ok-i.ensures.ok c.self.invariant.0
    c.in_ok-i.ensures.kept c.index_mut.result.now c.index_mut.ensures.value in
    let is = page_is c.args.self.now c.page.new.self c.self.inside.known.keys c.self.inside.pages.items c.args.key c.in_ok-i.i c.self.view_is c.in_ok-i.ensures.ok c.self.invariant.0
    c.in_ok-i.ensures.kept c.mark.new.self in
    on_ok c.mark.result (c.mark.new.self ≡ marked c.args.start c.args.end c.index_mut.result.now) _
    (λ done. is ∙ (done ∙ ap (marked c.args.start c.args.end) was)) c.mark.ensures.ok

pub returns-clause-others : goal.returns-clause-others
returns-clause-others c = λ k differ.
    others_are c.args.self.now c.page.new.self c.self.inside.known.keys c.self.inside.pages.items c.args.key c.in_ok-i.i c.self.view_is c.in_ok-i.ensures.ok c.self.invariant.0
    c.in_ok-i.ensures.kept c.mark.new.self k differ

pub returns-clause-order : goal.returns-clause-order
returns-clause-order c =
    let was = page_was c.args.self.now c.page.new.self c.self.inside.known.keys c.self.inside.pages.items c.args.key c.in_ok-i.i c.self.view_is c.in_ok-i.ensures.ok c.self.invariant.0
    c.in_ok-i.ensures.kept c.index_mut.result.now c.index_mut.ensures.value in
    on_ok_too c.mark.result _ (subst (λ (l : List Stretch). Ascending 0 l) was c.mark.ensures.order)
