use Rattle.std.proofs.Common.{append-nil}
use Rattle.act_lines.proofs.Common.{◌≡◌, ◌++◌, ◌∙◌, ℕ, List, [], get_or, slice_get, map, ap, sym, subst, drop_all, get_or_read, IfOk-weaker, lines_in, ActLine, act_lines, act_lines_from, act_lines_behind}
use Rattle.act_lines.proofs.Lines.{files_next}
use Rattle.act_lines.proofs.find.lines_of_acts.Goals as goal

pub loop-file-preserved : goal.loop-file-preserved
loop-file-preserved c =
    let d = c.loop-file.invariant in
    let text = c.as_slice.result.now in
    let file = c.loop-file.file in
    let is : text ≡ get_or c.args.texts.now file [] = c.as_slice.ensures ∙ get_or_read c.args.texts.now file c.index-texts-file.result c.loop-file-test.true c.index-texts-file.is [] in
    (d.0 ++ act_lines_from file 1 (lines_in text), files_next file (act_lines c.args.texts.now) d.0 c.args.texts.now text c.loop-file-test.true is d.1, c.in_ok-take_text.ensures d.0 d.2)

pub returns : goal.returns
returns c =
    let d = c.loop-file.invariant in
    let all : d.0 ≡ act_lines c.args.texts.now =
    sym (append-nil d.0) ∙ (ap (λ (ts : List (List ℕ)). d.0 ++ act_lines_behind c.loop-file.file ts) (sym (drop_all c.loop-file.file c.args.texts.now c.loop-file-test.false)) ∙ d.1) in
    IfOk-weaker c.finish.result _ _
    (λ lines found. subst (λ (seen : List ActLine). lines ≡ map (slice_get seen) c.args.numbers.now) all (found d.0 d.2)) c.finish.ensures
