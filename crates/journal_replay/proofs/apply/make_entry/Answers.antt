use Rattle.journal_replay.proofs.Applying.{all_mid, from_room, wants_room}
use Rattle.journal_replay.proofs.apply.make_entry.Goals as goal

pub returns-in-Err-clause-made : goal.returns-in-Err-clause-made
returns-in-Err-clause-made g c = wants_room (g.S.LegalCalls.value c.args.shared.now) (g.S.LegalCalls.value c.reserve.new.self) c.reserve.ensures.same c.reserve.ensures.fit c.args.holdings.now c.requires.hold

pub make-requires-clause-hold : goal.make-requires-clause-hold
make-requires-clause-hold g c = all_mid (g.S.LegalCalls.value c.args.shared.now) (g.S.LegalCalls.value c.reserve.new.self) c.reserve.ensures.same c.reserve.ensures.fit c.args.holdings.now c.requires.hold

pub returns-in-Ok-clause-made : goal.returns-in-Ok-clause-made
returns-in-Ok-clause-made g c =
    from_room (g.S.LegalCalls.value c.args.shared.now) (g.S.LegalCalls.value c.reserve.new.self) c.reserve.ensures.same c.reserve.ensures.fit (g.S.LegalCalls.value c.make.new.shared) c.args.entry c.make.new.holdings c.make.result c.make.ensures.made
