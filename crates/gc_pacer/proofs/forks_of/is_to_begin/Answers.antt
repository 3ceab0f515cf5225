use Rattle.gc_pacer.proofs.Common.{Option, List, nat_le, is_some, ap, ap₂, sym, ◌∙◌, some_map, SettingsValue, MarkingValue, marks_at, begin_stops, begin_counted, begin_marked}
use Rattle.gc_pacer.proofs.forks_of.is_to_begin.Goals as goal

pub returns-then-is_going : goal.returns-then-is_going
returns-then-is_going c =
    ap₂ nat_le (c.inner-least.ensures.value ∙ ap (λ (s : SettingsValue). s.inner) c.settings.ensures) c.words_at.ensures
    ∙ sym (begin_counted c.args.shared.now c.stands.ensures c.requires c.args.fork (sym c.is_going.ensures ∙ c.if-is_going.true) (ap (λ (ms : List (Option MarkingValue)). is_some (marks_at ms c.args.fork.task)) (sym c.heaps.ensures.marks) ∙ (ap is_some (sym c.marking.ensures) ∙ some_map (λ m. m.now) c.marking.result) ∙ (sym c.is_some.ensures ∙ c.if-is_some.false)))

pub returns : goal.returns
returns c = sym (begin_stops c.args.shared.now c.stands.ensures c.requires c.args.fork (sym c.is_going.ensures ∙ c.if-is_going.false))

pub returns-then-is_some : goal.returns-then-is_some
returns-then-is_some c = sym (begin_marked c.args.shared.now c.stands.ensures c.requires c.args.fork (sym c.is_going.ensures ∙ c.if-is_going.true) (ap (λ (ms : List (Option MarkingValue)). is_some (marks_at ms c.args.fork.task)) (sym c.heaps.ensures.marks) ∙ (ap is_some (sym c.marking.ensures) ∙ some_map (λ m. m.now) c.marking.result) ∙ (sym c.is_some.ensures ∙ c.if-is_some.true)))
