use Rattle.command_line.proofs.Common.{refl, IfOk-weaker}
use Rattle.command_line.proofs.Plain.{shaped}
use Rattle.command_line.proofs.command.make.Goals as goal

pub returns : goal.returns
returns c =
    let a1 = c.with_argument-whole.ensures _ _ c.new.ensures.app c.number.ensures.rule in
    let a2 = c.with_argument-whole-2.ensures _ _ a1 c.number-2.ensures.rule in
    let a3 = c.with_argument.ensures _ _ a2 c.flag.ensures.rule in
    IfOk-weaker c.with_argument.result _ _ (λ m e. shaped m _ e refl) a3
