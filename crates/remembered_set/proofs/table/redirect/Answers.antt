use Rattle.remembered_set.proofs.Common.{◌∙◌, None, sym, get_or_from_slice_get}
use Rattle.remembered_set.proofs.MovedLemmas as lemma
use Rattle.remembered_set.proofs.table.redirect.Goals as goal

pub set_ref_field-requires-clause-place : goal.set_ref_field-requires-clause-place
set_ref_field-requires-clause-place g c =
    lemma.place_of_new c.args.moved.now c.in-Some.old c.in-Some-new_of.new c.requires.places (sym c.new_of.ensures ∙ c.in-Some-new_of.is)

pub returns : goal.returns
returns g c =
    let held = get_or_from_slice_get _ c.args.source.field _ None c.ref_field.ensures.value ∙ c.in-Some.is in
    let new = sym c.new_of.ensures ∙ c.in-Some-new_of.is in
    rw (held, new) c.set_ref_field.ensures
