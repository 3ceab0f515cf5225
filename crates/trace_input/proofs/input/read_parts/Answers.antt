use Rattle.trace_input.proofs.Common.{Err, ap, subst, sym, ◌∙◌, IfErr, err_from_is_err_and, parts_fault, Reports}
use Rattle.trace_input.proofs.Fails.{fails}
use Rattle.trace_input.proofs.input.read_parts.Goals as goal

pub returns-in_err-trace-in-Some-clause-fault : goal.returns-in_err-trace-in-Some-clause-fault
returns-in_err-trace-in-Some-clause-fault c =
    let cuts = rw c.in-Some.is at c.cut.ensures.trace in
    let reads = rw c.in-Ok.is at c.in_ok-program.ensures in
    let given = err_from_is_err_and c.from_residual-in_err-trace-in-Some.result c.from_residual-in_err-trace-in-Some.ensures.1 in
    subst (λ r. IfErr r (Reports (parts_fault c.args.input.now))) (sym (given.1 ∙ ap Err given.2))
    (fails c.args.input.now c.cut.result.0.now c.in-Some.text.now c.in-Some.number _ c.in_err-trace-in-Some.field-0.0
    c.cut.ensures.program reads cuts.0 cuts.1 c.in_err-trace-in-Some.ensures.bad)
