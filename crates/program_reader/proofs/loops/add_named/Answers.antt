use Rattle.program_reader.proofs.Common.{◌≡◌, ◌++◌, ap, ◌∙◌, codes, Fun, whole_code, left_code, right_code, function_of, loop_from, function_number}
use Rattle.program_reader.proofs.LoopFunctions.{three_added}
use Rattle.program_reader.proofs.loops.add_named.Goals as goal

pub returns : goal.returns
returns c =
    let a : Fun = function_of (c.args.name.now ++ codes "?") c.args.number (whole_code (loop_from (function_number c.args.outline.now c.args.name.now) c.args.first)) in
    let b : Fun = function_of (c.args.name.now ++ codes "<") c.args.number (left_code c.args.first) in
    let d : Fun = function_of (c.args.name.now ++ codes ">") c.args.number (right_code c.args.first) in
    let whole : c.in_ok-whole_function.field-0 ≡ function_of (c.args.name.now ++ codes "?") c.args.number (whole_code (loop_from c.number_in-function.result c.args.first)) = c.in_ok-whole_function.ensures in
    three_added c.args.functions.now c.push.new.self c.push-2.new.self c.push-3.new.self c.in_ok-whole_function.field-0 c.in_ok-left_function.field-0 c.in_ok-right_function.field-0 a b d
    c.in_ok-push.ensures.ok c.in_ok-push-2.ensures.ok c.in_ok-push-3.ensures.ok
    (whole ∙ ap (λ f. function_of (c.args.name.now ++ codes "?") c.args.number (whole_code (loop_from f c.args.first))) c.number_in-function.ensures)
    c.in_ok-left_function.ensures c.in_ok-right_function.ensures
