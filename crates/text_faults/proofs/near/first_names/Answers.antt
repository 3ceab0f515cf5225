use Rattle.text_faults.proofs.Common.{arith, ap, sym, ◌∙◌, ◌++◌, ◌∷◌, [], map, map-append}
use Rattle.text_faults.proofs.FirstNames.{none_named, taken_more}
use Rattle.text_faults.proofs.near.first_names.Goals as goal

pub returns-in_default : goal.returns-in_default
returns-in_default c = c.loop-place.invariant ∙ none_named c.args.table.now c.loop-place.place 100 (sym c.in_default.ensures) (omega arith)

pub loop-place-preserved : goal.loop-place-preserved
loop-place-preserved c =
    ap (map (λ n. n.now)) c.in_ok-push.ensures.items
    ∙ map-append (λ n. n.now) c.loop-place.names.items (c.in-Some.name ∷ [])
    ∙ ap (λ x. x ++ c.in-Some.name.now ∷ []) c.loop-place.invariant
    ∙ sym (taken_more c.args.table.now c.loop-place.place _ (sym c.in-Some.ensures))
