use Rattle.run_accounts.proofs.Common.{◌≡◌, None, OnOk, sym, subst, IfErr, after_kind, kind_refusal, Reports, taken_after, went_on}
use Rattle.run_accounts.proofs.accounts.Accounts.enter_kind.Goals as goal

pub returns-in-Mark-clause-none : goal.returns-in-Mark-clause-none
returns-in-Mark-clause-none c = subst (λ k. OnOk c.enter_mark.result (kind_refusal c.args.self.now.program c.args.self.now.settings c.args.self.now.ledger c.args.worker k ≡ None)) (sym c.in-Mark.is) (c.enter_mark.ensures.none c.args.worker)

pub returns-in-Mark-clause-ok : goal.returns-in-Mark-clause-ok
returns-in-Mark-clause-ok c =
    subst (λ k. OnOk c.enter_mark.result (c.enter_mark.new.self ≡ record (went_on c.args.self.now (after_kind c.args.self.now.program c.args.self.now.settings c.args.self.now.ledger c.args.worker k)) { taken = taken_after c.args.self.now.taken c.args.worker k })) (sym c.in-Mark.is)
    (c.enter_mark.ensures.ok c.args.worker)

pub returns-in-Mark-clause-err : goal.returns-in-Mark-clause-err
returns-in-Mark-clause-err c = subst (λ k. IfErr c.enter_mark.result (Reports (kind_refusal c.args.self.now.program c.args.self.now.settings c.args.self.now.ledger c.args.worker k))) (sym c.in-Mark.is) (c.enter_mark.ensures.err c.args.worker)

pub returns-in-More-clause-none : goal.returns-in-More-clause-none
returns-in-More-clause-none c = subst (λ k. OnOk c.enter_more.result (kind_refusal c.args.self.now.program c.args.self.now.settings c.args.self.now.ledger c.args.worker k ≡ None)) (sym c.in-More.is) (c.enter_more.ensures.none c.args.worker)

pub returns-in-More-clause-ok : goal.returns-in-More-clause-ok
returns-in-More-clause-ok c =
    subst (λ k. OnOk c.enter_more.result (c.enter_more.new.self ≡ record (went_on c.args.self.now (after_kind c.args.self.now.program c.args.self.now.settings c.args.self.now.ledger c.args.worker k)) { taken = taken_after c.args.self.now.taken c.args.worker k })) (sym c.in-More.is)
    (c.enter_more.ensures.ok c.args.worker)

pub returns-in-More-clause-err : goal.returns-in-More-clause-err
returns-in-More-clause-err c = subst (λ k. IfErr c.enter_more.result (Reports (kind_refusal c.args.self.now.program c.args.self.now.settings c.args.self.now.ledger c.args.worker k))) (sym c.in-More.is) (c.enter_more.ensures.err c.args.worker)

pub returns-in-Sweep-clause-none : goal.returns-in-Sweep-clause-none
returns-in-Sweep-clause-none c = subst (λ k. OnOk c.enter_sweep.result (kind_refusal c.args.self.now.program c.args.self.now.settings c.args.self.now.ledger c.args.worker k ≡ None)) (sym c.in-Sweep.is) (c.enter_sweep.ensures.none c.args.worker)

pub returns-in-Sweep-clause-ok : goal.returns-in-Sweep-clause-ok
returns-in-Sweep-clause-ok c =
    subst (λ k. OnOk c.enter_sweep.result (c.enter_sweep.new.self ≡ record (went_on c.args.self.now (after_kind c.args.self.now.program c.args.self.now.settings c.args.self.now.ledger c.args.worker k)) { taken = taken_after c.args.self.now.taken c.args.worker k })) (sym c.in-Sweep.is)
    (c.enter_sweep.ensures.ok c.args.worker)

pub returns-in-Sweep-clause-err : goal.returns-in-Sweep-clause-err
returns-in-Sweep-clause-err c = subst (λ k. IfErr c.enter_sweep.result (Reports (kind_refusal c.args.self.now.program c.args.self.now.settings c.args.self.now.ledger c.args.worker k))) (sym c.in-Sweep.is) (c.enter_sweep.ensures.err c.args.worker)

pub returns-in-Fuel-clause-none : goal.returns-in-Fuel-clause-none
returns-in-Fuel-clause-none c = subst (λ k. OnOk c.enter_fuel.result (kind_refusal c.args.self.now.program c.args.self.now.settings c.args.self.now.ledger c.args.worker k ≡ None)) (sym c.in-Fuel.is) (c.enter_fuel.ensures.none c.args.worker)

pub returns-in-Fuel-clause-ok : goal.returns-in-Fuel-clause-ok
returns-in-Fuel-clause-ok c =
    subst (λ k. OnOk c.enter_fuel.result (c.enter_fuel.new.self ≡ record (went_on c.args.self.now (after_kind c.args.self.now.program c.args.self.now.settings c.args.self.now.ledger c.args.worker k)) { taken = taken_after c.args.self.now.taken c.args.worker k })) (sym c.in-Fuel.is)
    (c.enter_fuel.ensures.ok c.args.worker)

pub returns-in-Fuel-clause-err : goal.returns-in-Fuel-clause-err
returns-in-Fuel-clause-err c = subst (λ k. IfErr c.enter_fuel.result (Reports (kind_refusal c.args.self.now.program c.args.self.now.settings c.args.self.now.ledger c.args.worker k))) (sym c.in-Fuel.is) (c.enter_fuel.ensures.err c.args.worker)
