use Rattle.task_machine.proofs.Common.{◌≡◌, ℕ, Some, ap, sym, ◌∙◌, option_copied, slice_get, code_of, line_at, CalculatesInFrame}
use Rattle.task_machine.proofs.Calculated.{leads_more}
use Rattle.task_machine.proofs.calculations.calculate_on.Goals as goal

pub loop-done-preserved : goal.loop-done-preserved
loop-done-preserved c =
    let function : slice_get c.args.program.now.functions c.args.frame.now.function ≡ Some c.in-Some.function.now =
    ap (λ fs. slice_get fs c.args.frame.now.function) (sym c.functions.ensures) ∙ (sym c.get.ensures ∙ ap option_copied c.in-Some.is) in
    let next : line_at c.args.program.now c.loop-done.frame.function c.loop-done.frame.next ≡ Some c.in-Some-get.line.now =
    ap (λ (n : ℕ). line_at c.args.program.now n c.loop-done.frame.next) c.loop-done.invariant.function
    ∙ (ap (λ o. slice_get (code_of o) c.loop-done.frame.next) function ∙ (sym c.get-in-loop-done.ensures ∙ ap option_copied c.in-Some-get.is)) in
    let makes : CalculatesInFrame c.in-Some-get.line.now.instr c.loop-done.frame c.calculate_once.new.frame = (sym c.calculate_once.ensures.only ∙ c.if-not-calculate_once.false, c.calculate_once.ensures.makes) in
    record {
      leads = leads_more c.args.program.now c.args.frame.now c.loop-done.frame c.calculate_once.new.frame c.loop-done.done c.in-Some-get.line.now c.loop-done.invariant.leads next makes;
      function = c.calculate_once.ensures.function ∙ c.loop-done.invariant.function;
    }
