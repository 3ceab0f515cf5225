use Rattle.command_line.proofs.Common.{refl, IfOk-weaker}
use Rattle.command_line.proofs.Plain.{shaped}
use Rattle.command_line.proofs.command.runner.Goals as goal

pub returns : goal.returns
returns c =
    let a1 = c.with_argument-whole.ensures _ _ c.new.ensures.app c.file.ensures.rule in
    let a2 = c.with_argument-whole-2.ensures _ _ a1 c.workers.ensures.rule in
    let a3 = c.with_argument-whole-3.ensures _ _ a2 c.fuel.ensures.rule in
    let a4 = c.with_argument-whole-4.ensures _ _ a3 c.chunks.ensures.rule in
    let a5 = c.with_argument-whole-5.ensures _ _ a4 c.leaf.ensures.rule in
    let a6 = c.with_argument-whole-6.ensures _ _ a5 c.inner.ensures.rule in
    let a7 = c.with_argument-whole-7.ensures _ _ a6 c.flag.ensures.rule in
    let a8 = c.with_argument.ensures _ _ a7 c.flag-2.ensures.rule in
    IfOk-weaker c.with_argument.result _ _ (λ m e. shaped m _ e refl) a8
