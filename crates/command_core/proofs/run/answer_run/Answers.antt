use Rattle.command_core.proofs.Common.{◌≡◌, rules, sym, subst, Err, Result, ProgramText, TextFault, AnswersProgram, WhereProgram, program_in}
use Rattle.command_core.proofs.run.answer_run.Goals as goal

pub returns-in_ok-refused-in-Err-clause-answer : goal.returns-in_ok-refused-in-Err-clause-answer
returns-in_ok-refused-in-Err-clause-answer g c =
    let is : program_in c.args.input.now ≡ Err c.in-Err.fault = search rules in
    subst (λ (r : Result ProgramText TextFault). WhereProgram (AnswersProgram c.args.options) r c.in_ok-refused-in-Err.field-0) (sym is) c.in_ok-refused-in-Err.ensures
