use Rattle.copying_gc.proofs.Common.{ap, sym, ◌∙◌, subst, Cell, IsObject, moved_to, place_within}
use Rattle.copying_gc.proofs.OwnObjects.{followed_in, target_object}
use Rattle.copying_gc.proofs.redirect.follow_in.Goals as goal

pub chunk_in-requires : goal.chunk_in-requires
chunk_in-requires c = place_within c.args.heap.now.chunks c.args.address.chunk c.in-Some.place (sym c.requires.place ∙ c.in-Some.is)

pub forwarded_at-requires : goal.forwarded_at-requires
forwarded_at-requires c =
    let there = sym c.requires.place ∙ c.in-Some.is in
    subst (λ (x : Cell). IsObject x.mark) (sym (c.chunk_in.ensures c.args.address there)) (target_object c.args.heap.now.chunks c.args.address c.in-Some.place there c.requires.target)

pub returns-in-Some-clause-value : goal.returns-in-Some-clause-value
returns-in-Some-clause-value c =
    let there = sym c.requires.place ∙ c.in-Some.is in
    c.forwarded_at.ensures.value ∙ ap (λ (x : Cell). moved_to x.mark) (c.chunk_in.ensures c.args.address there) ∙ sym (followed_in c.args.heap.now.chunks c.args.address c.in-Some.place there)
