use Rattle.shared_tree.proofs.Common.{without_fresh, chunk_answer, SharedValue, WorkerPartFits, refused, first_cause, chunk_cause, Chunk, the_view, ◌≡◌, sym, subst, ◌∙◌, is_some, ap, Private, false}
use Rattle.shared_tree.proofs.Asked.{by_first_cause}
use Rattle.shared_tree.proofs.shared.Shared.chunk_refused.Goals as goal

pub returns-then-is_some : goal.returns-then-is_some
returns-then-is_some c =
    by_first_cause c.self.view_is c.self.invariant (record { worker = c.args.worker; kind = Chunk c.args.part.now.task }) c.first_cause-first.result c.first_cause-first.ensures (sym c.is_some.ensures ∙ c.if-is_some.true)

pub returns : goal.returns
returns c =
    let w : SharedValue = the_view c.self.inside in
    let p : Private = c.args.part.now in
    let h : is_some (first_cause w.end w.steps w.settings c.args.worker false) ≡ false = ap is_some (sym c.first_cause-first.ensures) ∙ (sym c.is_some.ensures ∙ c.if-is_some.false) in
    let F : WorkerPartFits w c.args.worker p = subst (λ (z : SharedValue). WorkerPartFits z c.args.worker p) (sym c.self.view_is) c.requires.fits in
    c.cause_by.ensures
    ∙ (ap (chunk_cause p) c.words_asked.ensures.asked
    ∙ (sym (chunk_answer w c.args.worker p c.self.invariant (without_fresh w c.args.worker p F c.requires.fresh) h) ∙ ap (λ (z : SharedValue). refused z (record { worker = c.args.worker; kind = Chunk p.task })) c.self.view_is))
