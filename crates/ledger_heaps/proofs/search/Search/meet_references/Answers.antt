use Rattle.ledger_heaps.proofs.Common.{[], ◌∷◌, refl, ◌∙◌, names_of_references}
use Rattle.ledger_heaps.proofs.Meets.{more_met, named_append, named_one}
use Rattle.ledger_heaps.proofs.search.Search.meet_references.Goals as goal

pub loop-reference-preserved : goal.loop-reference-preserved
loop-reference-preserved c = record {
  met = more_met names_of_references (λ r. names_of_references (r ∷ [])) named_append named_one c.args.refs.now c.loop-reference.reference-index _ _ c.loop-reference-test.true refl _ _ _ _ _ _ c.loop-reference.invariant.met c.in_ok-meet_reference.ensures.met;
  left = c.in_ok-meet_reference.ensures.left ∙ c.loop-reference.invariant.left;
}
