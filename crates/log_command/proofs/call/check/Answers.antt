use Rattle.log_command.proofs.Common.{◌∙◌, sym, refl, map, string_bytes, Global, None, Some, Nothing, Usage, Check, asked_of_log}
use Rattle.log_command.proofs.Answered.{answered_unread, answered_words_without_memory, answered_as, usage_asked, names_asked}
use Rattle.log_command.proofs.call.check.Goals as goal

pub returns-then-is_usage : goal.returns-then-is_usage
returns-then-is_usage g c =
    answered_as (asked_of_log (map (string_bytes {Z = Global}) c.args.words.now)) Usage _ _ _ _ _ _ (usage_asked (map (string_bytes {Z = Global}) c.args.words.now) (sym c.is_usage.ensures ∙ c.if-is_usage.true))
    (answered_unread Usage c.usage.result c.give.result _ _ _ _ refl c.usage.ensures c.give.ensures.given c.give.ensures.read c.give.ensures.fault)

pub returns-in-Err : goal.returns-in-Err
returns-in-Err g c = answered_words_without_memory (asked_of_log (map (string_bytes {Z = Global}) c.args.words.now)) _ _ _

pub returns-in-Ok-None : goal.returns-in-Ok-None
returns-in-Ok-None g c =
    answered_as (asked_of_log (map (string_bytes {Z = Global}) c.args.words.now)) Nothing _ _ _ _ _ _ (names_asked (map (string_bytes {Z = Global}) c.args.words.now) None (sym c.is_usage.ensures ∙ c.if-is_usage.false) (rw c.in-Ok-None.field-0-is at c.in-Ok-None.ensures))
    (answered_unread Nothing c.words_refusal.result c.give-in-Ok-None.result _ _ _ _ refl c.words_refusal.ensures c.give-in-Ok-None.ensures.given c.give-in-Ok-None.ensures.read c.give-in-Ok-None.ensures.fault)

pub returns-in-Ok-Some : goal.returns-in-Ok-Some
returns-in-Ok-Some g c =
    answered_as (asked_of_log (map (string_bytes {Z = Global}) c.args.words.now)) (Check c.in-Ok-Some.view (map (string_bytes {Z = Global}) c.in-Ok-Some.names.now)) _ _ _ _ _ _
    (names_asked (map (string_bytes {Z = Global}) c.args.words.now) (Some (c.in-Ok-Some.view, map (string_bytes {Z = Global}) c.in-Ok-Some.names.now)) (sym c.is_usage.ensures ∙ c.if-is_usage.false) (rw c.in-Ok-Some.field-0-is at c.in-Ok-Some.ensures)) c.answer.ensures
