use Rattle.task_machine.proofs.Common.{◌≡◌, sym, subst, Instr, calculation}
use Rattle.task_machine.proofs.calculations.calculate_once.Goals as goal

pub returns-in-Calc-clause-makes : goal.returns-in-Calc-clause-makes
returns-in-Calc-clause-makes c = subst (λ (i : Instr). c.calc.new.frame ≡ calculation i c.args.frame.now) (sym c.in-Calc.is) c.calc.ensures.makes

pub returns-in-Jz-clause-makes : goal.returns-in-Jz-clause-makes
returns-in-Jz-clause-makes c = subst (λ (i : Instr). c.jump_at_zero.new.frame ≡ calculation i c.args.frame.now) (sym c.in-Jz.is) c.jump_at_zero.ensures.makes
