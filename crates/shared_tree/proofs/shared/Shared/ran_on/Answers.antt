use Rattle.shared_tree.proofs.Common.{◌≡◌, ℕ, ℤ, SFits, w64, rules, None, Result, Err, refl, sym, subst, ◌∙◌, to_z-of_z, Private, NotEntered, NoMemory, Ending, Beyond, Returns, Prints, SharedValue, EntersLent, EntersOrRefuses, EndingTells, AsksAlone, is_safe, runs_on, tells, trap_is, Lent, refused, alone_entry}
use Rattle.shared_tree.proofs.HandedOn.{for_memory}
use Rattle.shared_tree.proofs.Joints.{at_other, fit_by, results_fit, results_unchanged, returns_by, same_by}
use Rattle.shared_tree.proofs.shared.Shared.ran_on.Goals as goal
use Rattle.shared_tree.proofs.shared.Shared.ran_on.Goals.{After-last_step, After-stands}

asks : (c : After-stands) → AsksAlone c.args.self.now c.args.worker c.args.part.now
asks c = record { I = c.stands.ensures; F = c.requires.fits; shared = c.requires.shared; free = c.requires.free }

-- what the step does, by its line
told : (c : After-last_step) → (e : Ending) → c.last_step.result ≡ e → EndingTells c.args.self.now c.args.part.now e c.args.number
told c e is =
    let A : AsksAlone c.args.self.now c.args.worker c.args.part.now = record { I = c.stands.ensures; F = c.requires.fits; shared = c.requires.shared; free = c.requires.free } in
    subst (λ (x : Ending). EndingTells c.args.self.now c.args.part.now x c.args.number) (sym c.last_step.ensures ∙ is) (tells c.args.self.now c.args.worker c.args.part.now A.I A.F A.shared (runs_on A) (record { instr = c.args.instr.now; number = c.args.number }) c.requires.next)

-- an entry that isn't refused
entered : (w : SharedValue) (k : ℕ) (p : Private) (r : Result Lent NotEntered) → refused w (alone_entry k p) ≡ None → EntersOrRefuses r None → EntersOrRefuses r (refused w (alone_entry k p))
entered w k p r free h = subst (EntersOrRefuses r) (sym free) h

pub last_step-requires : goal.last_step-requires
last_step-requires c = is_safe (asks (goal.at.last_step-requires c).After-stands)

pub unreachable-requires : goal.unreachable-requires
unreachable-requires c =
    let a = goal.at.unreachable-requires c in
    c.requires.no_return (returns_by (asks a.After-stands) c.args.instr.now c.args.number c.requires.next (told a.After-last_step Returns c.in-Returns.is))

pub enter_output-requires-clause-prints : goal.enter_output-requires-clause-prints
enter_output-requires-clause-prints c =
    let v : ℤ = c.in-Prints.value in
    let fits : SFits w64 v = search rules in
    (c.args.number, subst (λ (z : ℤ). EndingTells c.args.self.now c.args.part.now (Prints z) c.args.number) (sym (to_z-of_z w64 v fits)) (told (goal.at.enter_output-requires-clause-prints c).After-last_step (Prints v) c.in-Prints.is))

pub enter_halt-requires-clause-ends : goal.enter_halt-requires-clause-ends
enter_halt-requires-clause-ends c =
    trap_is c.args.self.now c.args.part.now c.in-Traps.kind c.args.number (told (goal.at.enter_halt-requires-clause-ends c).After-last_step _ c.in-Traps.is)

pub enter_halt-requires-clause-other : goal.enter_halt-requires-clause-other
enter_halt-requires-clause-other c = λ e. cc

pub next_other-does-requires-clause-out : goal.next_other-does-requires-clause-out
next_other-does-requires-clause-out c = record { worker = c.args.worker; fits = c.requires.fits; free = c.requires.free }

pub next_other-does-requires-clause-other : goal.next_other-does-requires-clause-other
next_other-does-requires-clause-other c =
    let a = goal.at.next_other-does-requires-clause-other c in
    at_other (asks a.After-stands) c.args.instr.now c.args.number c.requires.next (told a.After-last_step Beyond c.in-Beyond.is) c.requires.no_fork c.requires.no_return

pub next_other-does-requires-clause-next : goal.next_other-does-requires-clause-next
next_other-does-requires-clause-next c = (c.args.number, c.requires.next)

pub enter_other-requires-clause-tells : goal.enter_other-requires-clause-tells
enter_other-requires-clause-tells c = c.next_other-does.ensures c.args.number c.requires.next

pub returns-in_ok-enter_output-in-Prints : goal.returns-in_ok-enter_output-in-Prints
returns-in_ok-enter_output-in-Prints c = record { refused = c.requires.free; same = tt; still = tt; back = tt; answered = c.in_ok-enter_output-in-Prints.ensures.goes }

pub returns-in_err-enter_output-in-Prints : goal.returns-in_err-enter_output-in-Prints
returns-in_err-enter_output-in-Prints c =
    let w : SharedValue = c.args.self.now in
    let v : SharedValue = c.enter_output.new.self in
    let p : Private = c.args.part.now in
    let none : EntersLent w v c.args.worker p c.enter_output.new.part (Err NoMemory) = record {
      refused = entered w c.args.worker p (Err NoMemory) c.requires.free refl;
      same = same_by w v NoMemory c.in_err-enter_output-in-Prints.ensures.same;
      still = fit_by w v c.in_err-enter_output-in-Prints.ensures.same;
      back = c.in_err-enter_output-in-Prints.ensures.back;
      answered = tt;
    } in
    for_memory (EntersLent w v c.args.worker p c.enter_output.new.part) none c.from_residual.result c.from_residual.ensures.1

pub returns-in-Traps : goal.returns-in-Traps
returns-in-Traps c = record { refused = c.requires.free; same = tt; still = tt; back = tt; answered = c.enter_halt.ensures }

pub returns-in-Beyond : goal.returns-in-Beyond
returns-in-Beyond c =
    let w : SharedValue = c.args.self.now in
    let v : SharedValue = c.enter_other.new.self in
    record {
      refused = entered w c.args.worker c.args.part.now c.enter_other.result c.requires.free c.enter_other.ensures.refused;
      same = results_unchanged w v c.enter_other.result c.enter_other.ensures.refused c.enter_other.ensures.same;
      still = results_fit w v c.enter_other.result c.enter_other.ensures.same;
      back = c.enter_other.ensures.back;
      answered = c.enter_other.ensures.answered;
    }
