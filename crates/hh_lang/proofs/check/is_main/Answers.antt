use Rattle.hh_lang.proofs.Common.{◌≡◌, Some, codes, sym, ap, ◌∙◌, slice_get-get_or, slice_get_past, bytes_eq-Decides, Fun}
use Rattle.hh_lang.proofs.Programs.{some_and, none_and}
use Rattle.hh_lang.proofs.check.is_main.Goals as goal

pub returns-in-Some : goal.returns-in-Some
returns-in-Some c =
    let fun : Fun = c.in-Some.fun.now in
    let there = slice_get-get_or c.args.functions.now c.args.main fun c.in-Some.ensures.lookup.3.0 ∙ ap Some (sym c.in-Some.ensures.lookup.1) in
    let named = some_and (λ (f : Fun). f.name ≡ codes "main") _ fun there in
    let eq = bytes_eq-Decides c.as_slice.result.now c.as_slice-in-Some.result.now in (
      λ h. named.1 (sym c.as_slice.ensures ∙ (eq.0 (sym c.eq.ensures ∙ h) ∙ c.as_slice-in-Some.ensures)),
      λ h. c.eq.ensures ∙ eq.1 (c.as_slice.ensures ∙ (named.0 h ∙ sym c.as_slice-in-Some.ensures)),
    )

pub returns-in-None : goal.returns-in-None
returns-in-None c = (λ h. absurd cc, λ h. absurd (none_and (λ (f : Fun). f.name ≡ codes "main") _ (slice_get_past c.args.functions.now c.args.main c.in-None.ensures.lookup.3) h))
