use Rattle.turn_entries.proofs.Common.{Some, subst, Fuel, Mark, More, Sweep, heap_of, sweep_number, SharedValue, accounts, next_kind, marked_at_once, ComesFirst, First}
use Rattle.turn_entries.proofs.Turning.{acts_now}
use Rattle.turn_entries.proofs.run.Run.act_first.Goals as goal

pub returns-in-OutOfMemory : goal.returns-in-OutOfMemory
returns-in-OutOfMemory g c = λ w S C.
    c.halted.ensures w c.args.worker c.args.ready (next_kind w c.args.worker c.args.ready) S (subst (λ (f : First). ComesFirst w (g.P.EntryCalls.value c.args.self.now.paced) c.args.worker c.args.ready (Some f)) c.in-OutOfMemory.is C)

pub returns-in-Fuel : goal.returns-in-Fuel
returns-in-Fuel g c = λ w S C.
    let v : SharedValue = (g.P.EntryCalls.value c.args.self.now.paced) in
    let first = subst (λ (f : First). ComesFirst w v c.args.worker c.args.ready (Some f)) c.in-Fuel.is C in
    acts_now w v c.args.worker c.args.ready (Some Fuel) first.0 S (g.P.EntryCalls.value c.end_for_fuel.new.self.paced) c.end_for_fuel.result (c.end_for_fuel.ensures c.args.ready)

pub returns-in-Mark : goal.returns-in-Mark
returns-in-Mark g c = λ w S C.
    let v : SharedValue = (g.P.EntryCalls.value c.args.self.now.paced) in
    let first = subst (λ (f : First). ComesFirst w v c.args.worker c.args.ready (Some f)) c.in-Mark.is C in
    acts_now w v c.args.worker c.args.ready (Some (Mark c.in-Mark.task)) first.0 S (g.P.EntryCalls.value c.pay_mark.new.self.paced) c.pay_mark.result c.pay_mark.ensures

pub returns-in-More : goal.returns-in-More
returns-in-More g c = λ w S C.
    let v : SharedValue = (g.P.EntryCalls.value c.args.self.now.paced) in
    let first = subst (λ (f : First). ComesFirst w v c.args.worker c.args.ready (Some f)) c.in-More.is C in
    acts_now w v c.args.worker c.args.ready (Some (More c.in-More.task marked_at_once)) first.0 S (g.P.EntryCalls.value c.pay_more.new.self.paced) c.pay_more.result c.pay_more.ensures

pub returns-in-Sweep : goal.returns-in-Sweep
returns-in-Sweep g c = λ w S C.
    let v : SharedValue = (g.P.EntryCalls.value c.args.self.now.paced) in
    let first = subst (λ (f : First). ComesFirst w v c.args.worker c.args.ready (Some f)) c.in-Sweep.is C in
    acts_now w v c.args.worker c.args.ready (Some (Sweep c.in-Sweep.task (sweep_number (accounts v).machine (heap_of (accounts v) c.in-Sweep.task)))) first.0 S (g.P.EntryCalls.value c.pay_sweep.new.self.paced) c.pay_sweep.result c.pay_sweep.ensures
