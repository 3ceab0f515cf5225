use Rattle.std.proofs.Common.{rules, filter, ap, ◌∙◌}
use Rattle.std.proofs.lemmas.Fn.{filter_same}
use Rattle.log_report.specs.declared.told.ToldUse.{ToldUse}
use Rattle.log_replies.specs.Blocks.{is_shown}
use Rattle.log_replies.proofs.blocks.uses_of.Goals as goal

pub returns : goal.returns
returns c =
    c.from_vec.ensures
    ∙ (filter_same _ (λ (told : ToldUse). is_shown c.args.blocks.now told.block) _ (λ x b f' k. search rules) _ _ c.retain.ensures.filtered
    ∙ ap (filter (λ (told : ToldUse). is_shown c.args.blocks.now told.block)) c.into_vec-shown.ensures)
