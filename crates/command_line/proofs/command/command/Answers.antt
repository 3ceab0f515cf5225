use Rattle.command_line.specs.App.{bare_app, check, run, replay, model, races, image, make, verify}
use Rattle.command_line.proofs.command.command.Goals as goal

pub returns : goal.returns
returns c =
    let a1 = c.with_command-whole.ensures bare_app check c.bare_app.ensures c.check.ensures in
    let a2 = c.with_command-whole-2.ensures _ run a1 c.run.ensures in
    let a3 = c.with_command-whole-3.ensures _ replay a2 c.replay.ensures in
    let a4 = c.with_command-whole-4.ensures _ model a3 c.model.ensures in
    let a5 = c.with_command-whole-5.ensures _ races a4 c.races.ensures in
    let a6 = c.with_command-whole-6.ensures _ image a5 c.image.ensures in
    let a7 = c.with_command-whole-7.ensures _ make a6 c.make.ensures in
    c.with_command.ensures _ verify a7 c.verify.ensures
