use Rattle.journal_replay.proofs.Common.{arith, ◌+◌, ◌-◌, ◌≤◌, sym, IfOk-at_ok, PausesBy, few_more, fits_on, next_on, PausesNext}
use Rattle.journal_replay.proofs.HoldingCauses.{on}
use Rattle.journal_replay.proofs.Entries.{if_ok}
use Rattle.journal_replay.proofs.apply_ran.run_more.Goals as goal

pub returns-clause-fits : goal.returns-clause-fits
returns-clause-fits g c =
    let n = c.run_local.new.part.fresh - c.args.part.now.fresh in
    let few : c.args.part.now.fresh + n ≤ 257 = (let h = c.run_local.ensures.ran.within in let m = c.run_local.ensures.ran.more in let k = c.requires.few in omega (arith, h, m, k)) in
    fits_on (g.S.LegalCalls.value c.args.shared.now) c.program.result.now (sym c.program.ensures) c.args.worker c.stands.ensures c.args.part.now c.run_local.new.part c.requires.fits
    (on (g.S.LegalCalls.value c.args.shared.now) c.args.worker c.stands.ensures c.requires.first) c.may_run.ensures c.requires.idle n c.run_local.ensures.ran.runs c.run_local.ensures.ran.accounts c.run_local.ensures.ran.rest few

pub returns-clause-counted : goal.returns-clause-counted
returns-clause-counted g c =
    let n = c.run_local.new.part.fresh - c.args.part.now.fresh in
    let few : c.args.part.now.fresh + n ≤ 257 = (let h = c.run_local.ensures.ran.within in let m = c.run_local.ensures.ran.more in let k = c.requires.few in omega (arith, h, m, k)) in
    let most =
    few_more (g.S.LegalCalls.value c.args.shared.now) c.program.result.now (sym c.program.ensures) c.args.worker c.stands.ensures c.args.part.now c.run_local.new.part c.requires.fits
    (on (g.S.LegalCalls.value c.args.shared.now) c.args.worker c.stands.ensures c.requires.first) c.may_run.ensures c.requires.idle n c.run_local.ensures.ran.runs c.run_local.ensures.ran.accounts c.run_local.ensures.ran.rest few in
    let h = c.run_local.ensures.ran.within in
    omega (arith, most, h)

pub returns-clause-next : goal.returns-clause-next
returns-clause-next g c =
    let n = c.run_local.new.part.fresh - c.args.part.now.fresh in
    let few : c.args.part.now.fresh + n ≤ 257 = (let h = c.run_local.ensures.ran.within in let m = c.run_local.ensures.ran.more in let k = c.requires.few in omega (arith, h, m, k)) in
    if_ok c.run_local.result (PausesNext (g.S.LegalCalls.value c.args.shared.now) c.run_local.new.part)
    (λ why is.
    next_on (g.S.LegalCalls.value c.args.shared.now) c.program.result.now (sym c.program.ensures) c.args.worker c.stands.ensures c.args.part.now c.run_local.new.part c.requires.fits
    (on (g.S.LegalCalls.value c.args.shared.now) c.args.worker c.stands.ensures c.requires.first) c.may_run.ensures c.requires.idle n c.run_local.ensures.ran.runs c.run_local.ensures.ran.accounts c.run_local.ensures.ran.rest few why
    (IfOk-at_ok (PausesBy c.program.result.now c.args.part.now n c.run_local.new.part) is c.run_local.ensures.paused))
