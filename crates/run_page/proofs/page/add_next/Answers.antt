use Rattle.run_page.proofs.Common.{ap, ap₂, sym, ◌∙◌, on_ok_weaker, ProgramText, MachineState, Kind, after, BookValue, machine_after, machine_moves}
use Rattle.run_page.proofs.page.add_next.Goals as goal

pub returns-clause-state : goal.returns-clause-state
returns-clause-state c =
    let p = c.args.program.now in
    let b = c.args.book.now in
    let e = c.args.of in
    on_ok_weaker c.close_entry.result
    (λ closed. c.in_ok-delta.ensures.state
    ∙ (ap₂ (λ (m : MachineState) (k : Kind). machine_after p m k) c.requires.state c.kind.ensures.value
    ∙ (machine_moves p b.settings b.ledger e.worker e.kind
    ∙ (ap (λ (q : ProgramText). (after q b.settings b.ledger e).machine) (sym c.requires.same) ∙ sym (ap (λ (n : BookValue). n.ledger.machine) c.in_ok-enter.ensures)))))
    c.close_entry.ensures
