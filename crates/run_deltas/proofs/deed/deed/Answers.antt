use Rattle.run_deltas.proofs.Common.{◌∙◌, ap, sym, Instr, deed}
use Rattle.run_deltas.proofs.deed.deed.Goals as goal

pub returns-in-Newm : goal.returns-in-Newm
returns-in-Newm c = rw c.in-Newm.is (c.newm.ensures c.in-Newm.field-0)

pub returns-in-Pack : goal.returns-in-Pack
returns-in-Pack c = rw c.in-Pack.is (c.pack.ensures c.args.top.now c.in-Pack.field-0 c.in-Pack.field-1 c.in-Pack.field-2)

pub returns-in-Getr : goal.returns-in-Getr
returns-in-Getr c = c.getr.ensures c.args.t c.in-Getr.field-0 ∙ ap (λ (i : Instr). deed c.args.state.now c.args.t c.args.top.now i) (sym c.in-Getr.is)

pub returns-in-Geti : goal.returns-in-Geti
returns-in-Geti c = c.geti.ensures c.args.t c.in-Geti.field-0 ∙ ap (λ (i : Instr). deed c.args.state.now c.args.t c.args.top.now i) (sym c.in-Geti.is)

pub returns-in-Putr : goal.returns-in-Putr
returns-in-Putr c = c.putr.ensures c.args.t ∙ ap (λ (i : Instr). deed c.args.state.now c.args.t c.args.top.now i) (sym c.in-Putr.is)

pub returns-in-Puti : goal.returns-in-Puti
returns-in-Puti c = c.puti.ensures c.args.t ∙ ap (λ (i : Instr). deed c.args.state.now c.args.t c.args.top.now i) (sym c.in-Puti.is)

pub returns-in-Cas : goal.returns-in-Cas
returns-in-Cas c = c.cas.ensures c.args.t c.in-Cas.field-0 ∙ ap (λ (i : Instr). deed c.args.state.now c.args.t c.args.top.now i) (sym c.in-Cas.is)

pub returns-in-Cntr : goal.returns-in-Cntr
returns-in-Cntr c = c.count.ensures.references c.args.t c.in-Cntr.field-0 ∙ ap (λ (i : Instr). deed c.args.state.now c.args.t c.args.top.now i) (sym c.in-Cntr.is)

pub returns-in-Cnti : goal.returns-in-Cnti
returns-in-Cnti c = c.count-in-Cnti.ensures.numbers c.args.t c.in-Cnti.field-0 ∙ ap (λ (i : Instr). deed c.args.state.now c.args.t c.args.top.now i) (sym c.in-Cnti.is)
