use Rattle.race_report.proofs.Common.{◌≡◌, ◌∙◌, ℕ, ◌<◌, ◌^◌, Some, ap, sym, subst, MachineState, parents, reached_sound, FieldsAreIndexable}
use Rattle.race_report.proofs.Few.{reached_few}
use Rattle.race_report.proofs.scan.look.Goals as goal

pub looked_of-requires : goal.looked_of-requires
looked_of-requires c =
    subst (λ (s : MachineState). FieldsAreIndexable s.store) (sym c.state-state.ensures) (reached_few c.sizes_are_bounded.ensures c.args.machine.now c.reached.ensures (let e : c.field_limit.result ≡ c.args.machine.now.state.field_limit = c.field_limit.ensures.value ∙ ap (λ (s : MachineState). s.field_limit) c.state-state.ensures in subst (λ n. n < 2 ^ 32) e c.field_limit.ensures.below))

pub label_of-requires : goal.label_of-requires
label_of-requires c =
    subst (λ (s : MachineState). (u p : ℕ) → parents s.tasks u ≡ Some p → p < u) (sym c.state-state.ensures) (reached_sound c.args.machine.now c.reached.ensures c.requires).above
