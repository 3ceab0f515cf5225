use Rattle.view_arguments.proofs.Common.{◌≡◌, ◌+◌, ap, ap₂, sym, ◌∙◌, map, string_bytes, Global, take-map, drop-map, take_rest, IfOk-weaker, page_by, titled}
use Rattle.view_arguments.proofs.page.page_line.Goals as goal

pub returns-in-Some : goal.returns-in-Some
returns-in-Some c =
    IfOk-weaker c.titled.result _ _
    (λ v e. e
    ∙ ap₂ titled (sym (take-map (string_bytes {Z = Global}) c.in-Some.at c.args.words.now))
    (ap (map (string_bytes {Z = Global})) (take_rest c.args.words.now (c.in-Some.at + 1)) ∙ sym (drop-map (string_bytes {Z = Global}) (c.in-Some.at + 1) c.args.words.now))
    ∙ ap (λ o. page_by o (map (string_bytes {Z = Global}) c.args.words.now)) c.in-Some.ensures.place)
    c.titled.ensures
