use Rattle.command_line.proofs.Common.{◌≡◌, ◌∙◌, ap, sym, subst, true, [], List, map, is_some, string_bytes, Global, IfOk-weaker, App, HasMatchesOf, subcommand_rows_of, HasKind, is_simple_and_free, is_empty, app, HasSize, FitsFound}
use Rattle.clap.specs.Words.{Text, fault_of, subcommand_of}
use Rattle.command_line.proofs.Ranges.{found_size}
use Rattle.command_line.proofs.Taken.{asked_at, is_good, is_plain_app, line_of, no_line, taken}
use Rattle.command_line.proofs.read.read_command_line.Goals as goal

pub found-requires : goal.found-requires
found-requires c =
    let words : List Text = map (string_bytes {Z = Global}) c.args.words.now in
    let no_fault : fault_of app words ≡ [] = subst (λ (a : App). is_simple_and_free a ≡ true → fault_of a words ≡ []) c.in_ok-command.ensures c.in-Ok.ensures.kinds is_good in
    let rows : subcommand_rows_of c.in-Ok.matches ≡ subcommand_of app words = (subst (λ (a : App). HasMatchesOf a words c.in-Ok.matches) c.in_ok-command.ensures c.in-Ok.ensures.matches is_plain_app).1 in
    subst FitsFound (sym rows) (taken words no_fault).fits

pub returns-in-Ok-clause-meaning : goal.returns-in-Ok-clause-meaning
returns-in-Ok-clause-meaning c =
    let words : List Text = map (string_bytes {Z = Global}) c.args.words.now in
    let no_fault : fault_of app words ≡ [] = subst (λ (a : App). is_simple_and_free a ≡ true → fault_of a words ≡ []) c.in_ok-command.ensures c.in-Ok.ensures.kinds is_good in
    let rows : subcommand_rows_of c.in-Ok.matches ≡ subcommand_of app words = (subst (λ (a : App). HasMatchesOf a words c.in-Ok.matches) c.in_ok-command.ensures c.in-Ok.ensures.matches is_plain_app).1 in
    c.found.ensures ∙ ap asked_at rows ∙ line_of words no_fault

pub returns-in-Ok-clause-taken : goal.returns-in-Ok-clause-taken
returns-in-Ok-clause-taken c =
    let words : List Text = map (string_bytes {Z = Global}) c.args.words.now in
    let no_fault : fault_of app words ≡ [] = subst (λ (a : App). is_simple_and_free a ≡ true → fault_of a words ≡ []) c.in_ok-command.ensures c.in-Ok.ensures.kinds is_good in
    let rows : subcommand_rows_of c.in-Ok.matches ≡ subcommand_of app words = (subst (λ (a : App). HasMatchesOf a words c.in-Ok.matches) c.in_ok-command.ensures c.in-Ok.ensures.matches is_plain_app).1 in
    ap is_some (c.found.ensures ∙ ap asked_at rows) ∙ (taken words no_fault).is_asked ∙ ap is_empty (sym no_fault)

pub returns-in-Ok-clause-size : goal.returns-in-Ok-clause-size
returns-in-Ok-clause-size c =
    let words : List Text = map (string_bytes {Z = Global}) c.args.words.now in
    let no_fault : fault_of app words ≡ [] = subst (λ (a : App). is_simple_and_free a ≡ true → fault_of a words ≡ []) c.in_ok-command.ensures c.in-Ok.ensures.kinds is_good in
    let rows : subcommand_rows_of c.in-Ok.matches ≡ subcommand_of app words = (subst (λ (a : App). HasMatchesOf a words c.in-Ok.matches) c.in_ok-command.ensures c.in-Ok.ensures.matches is_plain_app).1 in
    subst HasSize (sym (c.found.ensures ∙ ap asked_at rows)) (found_size (subcommand_of app words) (taken words no_fault).fits)

pub returns-in-Err-clause-meaning : goal.returns-in-Err-clause-meaning
returns-in-Err-clause-meaning c =
    let words : List Text = map (string_bytes {Z = Global}) c.args.words.now in
    let kinds : HasKind (fault_of app words) c.in-Err.error = subst (λ (a : App). is_simple_and_free a ≡ true → HasKind (fault_of a words) c.in-Err.error) c.in_ok-command.ensures c.in-Err.ensures.kinds is_good in
    IfOk-weaker c.refused.result _ _ (λ x h. h.0 ∙ (no_line words _ (λ e. h.1 (c.kind.ensures ∙ e)) kinds).0) c.refused.ensures

pub returns-in-Err-clause-taken : goal.returns-in-Err-clause-taken
returns-in-Err-clause-taken c =
    let words : List Text = map (string_bytes {Z = Global}) c.args.words.now in
    let kinds : HasKind (fault_of app words) c.in-Err.error = subst (λ (a : App). is_simple_and_free a ≡ true → HasKind (fault_of a words) c.in-Err.error) c.in_ok-command.ensures c.in-Err.ensures.kinds is_good in
    IfOk-weaker c.refused.result _ _ (λ x h. ap is_some h.0 ∙ (no_line words _ (λ e. h.1 (c.kind.ensures ∙ e)) kinds).1) c.refused.ensures
