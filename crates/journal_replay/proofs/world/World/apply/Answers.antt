use Rattle.journal_replay.proofs.Common.{Err, refl, subst, true, AnswersAll, Applies, IsStoppedBy, WorldValue}
use Rattle.journal_replay.proofs.world.World.apply.Goals as goal

pub returns-in-Ok : goal.returns-in-Ok
returns-in-Ok g c =
    let y : WorldValue = record { shared = g.S.LegalCalls.value c.make_entry.new.shared; holdings = c.make_entry.new.holdings; stopped = c.self.inside.stopped } in
    subst (λ (x : WorldValue). Applies x y c.args.entry) c.self.view_is
    (record { went = c.if-self.false; free = c.in-Ok.ensures.made.free; enters = c.in-Ok.ensures.made.enters; goes = c.if-self.false })

pub returns-in-Err-Refuses : goal.returns-in-Err-Refuses
returns-in-Err-Refuses g c =
    let y : WorldValue = record { shared = g.S.LegalCalls.value c.make_entry.new.shared; holdings = c.make_entry.new.holdings; stopped = true } in
    let made = subst (λ z. AnswersAll (g.S.LegalCalls.value c.self.inside.shared) (g.S.LegalCalls.value c.make_entry.new.shared) c.args.entry c.make_entry.new.holdings (Err z)) c.in-Err-Refuses.field-0-is c.in-Err-Refuses.ensures.made in
    subst (λ (x : WorldValue). IsStoppedBy x y c.args.entry c.in-Err-Refuses.cause) c.self.view_is (record { went = c.if-self.false; cause_is = made.cause_is; same = made.same; stops = refl })
