use Rattle.view_arguments.proofs.command.heaps_command.Goals as goal

pub returns : goal.returns
returns c =
    let a1 = c.with_argument-whole.ensures _ _ c.bare_view.ensures c.file.ensures.rule in
    let a2 = c.with_argument-whole-2.ensures _ _ a1 c.option.ensures.rule in
    c.with_argument.ensures _ _ a2 c.option-2.ensures.rule
