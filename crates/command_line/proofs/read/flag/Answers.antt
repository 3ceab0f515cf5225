use Rattle.command_line.proofs.Common.{◌∙◌, inl, inr, found_of, one_text-rows}
use Rattle.command_line.proofs.read.flag.Goals as goal

pub returns : goal.returns
returns c =
    let f = found_of c.args.matches.now in
    elim c.requires [
      | inl e ↦ rw e (c.get_flag.ensures.value (one_text-rows f c.args.id.now ∙ e))
      | inr e ↦ rw e (c.get_flag.ensures.other (one_text-rows f c.args.id.now ∙ e))
    ]
