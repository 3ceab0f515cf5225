use Rattle.hh_model.proofs.Common.{◌≡◌, true, sym, subst, Instr, Calculates}
use Rattle.hh_model.proofs.data.Frame.calculate.Goals as goal

pub returns-in-Calc-clause-makes : goal.returns-in-Calc-clause-makes
returns-in-Calc-clause-makes c = subst (λ (i : Instr). c.calc.result ≡ true → Calculates i c.args.self.now c.calc.new.self) (sym c.in-Calc.is) c.calc.ensures.makes
