use Rattle.shared_tree.proofs.Common.{ℤ, SFits, w64, rules, ap, sym, subst, ◌∙◌, to_z-of_z, Trapped, ended_by, then_accounts, OtherStep, SetsNumber, Stops, StoresNumber, Traps, TellsOther}
use Rattle.shared_tree.proofs.shared.Shared.enter_other.Goals as goal

pub enter_reference-requires-clause-reads : goal.enter_reference-requires-clause-reads
enter_reference-requires-clause-reads c = (c.args.line, subst (λ (d : OtherStep). TellsOther c.args.self.now c.args.part.now d c.args.line) c.in-SetsReference.is c.requires.tells)

pub enter_number-requires-clause-reads : goal.enter_number-requires-clause-reads
enter_number-requires-clause-reads c =
    let v : ℤ = c.in-SetsNumber.value in
    let fits : SFits w64 v = search rules in (
      c.args.line,
      subst (λ (z : ℤ). TellsOther c.args.self.now c.args.part.now (SetsNumber c.in-SetsNumber.register z) c.args.line) (sym (to_z-of_z w64 v fits))
          (subst (λ (d : OtherStep). TellsOther c.args.self.now c.args.part.now d c.args.line) c.in-SetsNumber.is c.requires.tells),
    )

pub enter_store_number-requires-clause-stores : goal.enter_store_number-requires-clause-stores
enter_store_number-requires-clause-stores c =
    let v : ℤ = c.in-StoresNumber.value in
    let fits : SFits w64 v = search rules in (
      c.args.line,
      subst (λ (z : ℤ). TellsOther c.args.self.now c.args.part.now (StoresNumber c.in-StoresNumber.object c.in-StoresNumber.field z) c.args.line) (sym (to_z-of_z w64 v fits))
          (subst (λ (d : OtherStep). TellsOther c.args.self.now c.args.part.now d c.args.line) c.in-StoresNumber.is c.requires.tells),
    )

pub store_other-requires-clause-stores : goal.store_other-requires-clause-stores
store_other-requires-clause-stores c = (c.args.line, subst (λ (d : OtherStep). TellsOther c.args.self.now c.args.part.now d c.args.line) c.in-StoresReference.is c.requires.tells)

pub store_other-requires-in-Swaps-clause-stores : goal.store_other-requires-in-Swaps-clause-stores
store_other-requires-in-Swaps-clause-stores c = (c.args.line, subst (λ (d : OtherStep). TellsOther c.args.self.now c.args.part.now d c.args.line) c.in-Swaps.is c.requires.tells)

pub enter_halt-requires-clause-ends : goal.enter_halt-requires-clause-ends
enter_halt-requires-clause-ends c =
    let T : TellsOther c.args.self.now c.args.part.now (Stops c.in-Stops.owner) c.args.line = subst (λ (d : OtherStep). TellsOther c.args.self.now c.args.part.now d c.args.line) c.in-Stops.is c.requires.tells in
    T.says

pub enter_halt-requires-in-Traps-clause-ends : goal.enter_halt-requires-in-Traps-clause-ends
enter_halt-requires-in-Traps-clause-ends c =
    let T : TellsOther c.args.self.now c.args.part.now (Traps c.in-Traps.kind) c.args.line = subst (λ (d : OtherStep). TellsOther c.args.self.now c.args.part.now d c.args.line) c.in-Traps.is c.requires.tells in
    T.says ∙ ap (λ n. ended_by (then_accounts c.args.self.now c.args.part.now).machine (Trapped c.in-Traps.kind c.args.part.now.task n)) T.number_is

pub enter_halt-requires-clause-other : goal.enter_halt-requires-clause-other
enter_halt-requires-clause-other c = λ e. cc

pub enter_halt-requires-in-Traps-clause-other : goal.enter_halt-requires-in-Traps-clause-other
enter_halt-requires-in-Traps-clause-other c = λ e. cc

pub returns-in-SetsNumber-clause-answered : goal.returns-in-SetsNumber-clause-answered
returns-in-SetsNumber-clause-answered c = c.enter_number.ensures

pub returns-in-SetsReference-clause-answered : goal.returns-in-SetsReference-clause-answered
returns-in-SetsReference-clause-answered c = c.enter_reference.ensures

pub returns-in-StoresNumber-clause-answered : goal.returns-in-StoresNumber-clause-answered
returns-in-StoresNumber-clause-answered c = c.enter_store_number.ensures

pub returns-in-Stops-clause-answered : goal.returns-in-Stops-clause-answered
returns-in-Stops-clause-answered c = c.enter_halt.ensures

pub returns-in-StoresReference-clause-answered : goal.returns-in-StoresReference-clause-answered
returns-in-StoresReference-clause-answered c = c.store_other.ensures.answered

pub returns-in-StoresReference-clause-same : goal.returns-in-StoresReference-clause-same
returns-in-StoresReference-clause-same c = c.store_other.ensures.same

pub returns-in-StoresReference-clause-refused : goal.returns-in-StoresReference-clause-refused
returns-in-StoresReference-clause-refused c = c.store_other.ensures.refused

pub returns-in-StoresReference-clause-back : goal.returns-in-StoresReference-clause-back
returns-in-StoresReference-clause-back c = c.store_other.ensures.back
