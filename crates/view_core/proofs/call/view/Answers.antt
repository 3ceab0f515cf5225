use Rattle.std.proofs.Common.{◌∙◌, sym}
use Rattle.view_core.proofs.Ends.{refused_words, unread_words}
use Rattle.view_core.proofs.call.view.Goals as goal

pub returns-in-Err : goal.returns-in-Err
returns-in-Err g c = unread_words _ _ _ _

pub returns-in-Ok-None : goal.returns-in-Ok-None
returns-in-Ok-None g c = refused_words _ c.refused.result c.give.result _ _ _ _ (sym c.in-Ok-None.ensures ∙ c.in-Ok-None.field-0-is) c.refused.ensures c.give.ensures.given c.give.ensures.read c.give.ensures.fault
