use Rattle.run_deltas.proofs.Common.{[], ◌∷◌, refl, names_of_references}
use Rattle.run_deltas.proofs.Held.{more_roots, named_append}
use Rattle.run_deltas.proofs.roots.add_references.Goals as goal

pub loop-reference-preserved : goal.loop-reference-preserved
loop-reference-preserved c =
    more_roots names_of_references (λ r. names_of_references (r ∷ [])) named_append (λ r. refl) c.args.refs.now c.loop-reference.reference-index _ _ c.loop-reference-test.true refl
    c.args.found.now c.loop-reference.found _ c.loop-reference.invariant c.in_ok-add_reference.ensures
