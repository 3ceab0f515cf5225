use Rattle.turn_entries.proofs.Common.{ap, sym, ◌∙◌, is_some, Fuel, Ledger, not_refused, refusal_of_result, entered_accounts}
use Rattle.turn_entries.proofs.Free.{fuel_free}
use Rattle.turn_entries.proofs.Turning.{one_of_all}
use Rattle.turn_entries.proofs.run.Run.end_for_fuel.Goals as goal

pub unreachable-requires : goal.unreachable-requires
unreachable-requires g c =
    not_refused _ c.in-Err.field-0 (fuel_free (g.P.EntryCalls.value c.args.self.now.paced) c.args.worker c.stands.ensures.stands c.requires.end.goes c.requires.end.worker c.requires.end.spent) (sym c.fuel.ensures.refused ∙ ap refusal_of_result c.in-Err.is)

pub returns : goal.returns
returns g c = λ ready.
    c.entered.ensures (g.P.EntryCalls.value c.args.self.now.paced) c.args.worker ready Fuel (one_of_all (g.P.EntryCalls.value c.args.self.now.paced) (g.P.EntryCalls.value c.fuel.new.self) c.args.worker Fuel c.in-Ok.ensures.enters c.in-Ok.ensures.all) c.requires.end.on
    (λ on. ap (λ (l : Ledger). is_some l.end) (entered_accounts (g.P.EntryCalls.value c.args.self.now.paced) (g.P.EntryCalls.value c.fuel.new.self) (record { worker = c.args.worker; kind = Fuel }) c.in-Ok.ensures.enters))
