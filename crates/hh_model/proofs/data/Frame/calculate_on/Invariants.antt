use Rattle.hh_model.proofs.Common.{◌≡◌, Leads}
use Rattle.hh_model.proofs.data.Frame.calculate_on.Given as goal

abbrev pub invariant-loop-done : goal.invariant-loop-done
invariant-loop-done l = record {
  leads : Leads l.initial.program l.initial.self l.done l.self;
  function : l.self.function ≡ l.initial.self.function;
}
