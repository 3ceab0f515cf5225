use Rattle.view_arguments.proofs.Common.{◌≡◌, ◌∙◌, ap, subst, true, [], List, map, string_bytes, Global, IfOk-weaker, App, HasMatchesOf, Text, fault_of, matches_of, found_of, rows_of, HasKind, heaps_app, heaps_in}
use Rattle.clap.specs.Faults.{is_simple_and_free}
use Rattle.view_arguments.proofs.Refused.{is_good, is_plain, line_of, no_line}
use Rattle.view_arguments.proofs.read.heaps_line.Goals as goal

pub returns-in-Ok : goal.returns-in-Ok
returns-in-Ok c =
    let words : List Text = map (string_bytes {Z = Global}) c.args.words.now in
    let no_fault : fault_of heaps_app words ≡ [] = subst (λ (a : App). is_simple_and_free a ≡ true → fault_of a words ≡ []) c.in_ok-heaps_command.ensures c.in-Ok.ensures.kinds is_good in
    let rows : rows_of (found_of c.in-Ok.matches) ≡ matches_of heaps_app words = (subst (λ (a : App). HasMatchesOf a words c.in-Ok.matches) c.in_ok-heaps_command.ensures c.in-Ok.ensures.matches is_plain).0 in
    IfOk-weaker c.heaps_of.result _ _ (λ v e. e ∙ ap heaps_in rows ∙ line_of words no_fault) c.heaps_of.ensures

pub returns-in-Err : goal.returns-in-Err
returns-in-Err c =
    let words : List Text = map (string_bytes {Z = Global}) c.args.words.now in
    let kinds : HasKind (fault_of heaps_app words) c.in-Err.error = subst (λ (a : App). is_simple_and_free a ≡ true → HasKind (fault_of a words) c.in-Err.error) c.in_ok-heaps_command.ensures c.in-Err.ensures.kinds is_good in
    IfOk-weaker c.refused.result _ _ (λ v h. h.0 ∙ no_line words _ (λ e. h.1 (c.kind.ensures ∙ e)) kinds) c.refused.ensures
