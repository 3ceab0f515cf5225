use Rattle.shared_tree.proofs.Common.{ℕ, option_copied, ap, sym, subst, ◌∙◌, Line, Private, SharedValue, AsksAlone, asks_alone, runs_on, OtherStep, IsOther, TellsOther, HasNextLine, the_view, none_some}
use Rattle.remote_access.proofs.NextOtherLine as lines
use Rattle.shared_tree.proofs.shared.Shared.next_other.Goals as goal
use Rattle.shared_tree.proofs.shared.Shared.next_other.Goals.{After-self}

-- What is known before the step: the line that comes next, and that it works on an object of another task.
module _ (c : After-self) where
  abbrev w : SharedValue
  w = the_view c.self.inside

  abbrev k : ℕ
  k = c.requires.out.worker

  abbrev p : Private
  p = c.args.part.now

  asks : AsksAlone w k p
  asks = asks_alone c.self.view_is c.self.invariant c.requires.out.fits c.requires.shared c.requires.out.free

  other : IsOther w p
  other = subst (λ (z : SharedValue). IsOther z p) (sym c.self.view_is) c.requires.other

  abbrev line : Line
  line = record { instr = c.args.instr.now; number = c.requires.next.0 }

  next : HasNextLine w p c.args.instr.now c.requires.next.0
  next = subst (λ (z : SharedValue). HasNextLine z p c.args.instr.now c.requires.next.0) (sym c.self.view_is) c.requires.next.1

pub unreachable-requires : goal.unreachable-requires
unreachable-requires c =
    let b = (goal.at.unreachable-requires c).After-self in
    none_some (sym c.in_default.is ∙ (c.named.ensures ∙ lines.named (w b) (k b) (p b) (asks b).I (asks b).F (asks b).shared (other b) (runs_on (asks b)) (line b) (next b)))

pub owner-owner-requires : goal.owner-owner-requires
owner-owner-requires c =
    let b = (goal.at.owner-owner-requires c).After-self in
    lines.used_there (w b) (k b) (p b) (asks b).I (asks b).F (asks b).shared (other b) (runs_on (asks b)) (line b) (next b) c.in-Some.object (sym c.named.ensures ∙ c.in-Some.is)

pub unreachable-requires-in_default-rest : goal.unreachable-requires-in_default-rest
unreachable-requires-in_default-rest c =
    let b = (goal.at.unreachable-requires-in_default-rest c).After-self in
    let there = lines.rest_is (w b) (k b) (p b) (asks b).I (asks b).F (asks b).shared (other b) (runs_on (asks b)) (line b) (next b) c.in-Some.object (sym c.named.ensures ∙ c.in-Some.is) c.owner-owner.result c.owner-owner.ensures in
    none_some (ap option_copied (sym c.in_default-rest.is) ∙ (c.rest.ensures ∙ there))

pub step_on-requires : goal.step_on-requires
step_on-requires c =
    let b = (goal.at.step_on-requires c).After-self in
    lines.can_read (w b) (k b) (p b) (asks b).I (asks b).F (asks b).shared (other b) (runs_on (asks b)) (line b) (next b) c.in-Some.object (sym c.named.ensures ∙ c.in-Some.is) c.owner-owner.result c.owner-owner.ensures c.in-Some-rest.rest.now (sym c.rest.ensures ∙ ap option_copied c.in-Some-rest.is)

pub returns : goal.returns
returns c = λ number is.
    let b = (goal.at.returns c).After-self in
    let here : HasNextLine (w b) (p b) c.args.instr.now number = subst (λ (z : SharedValue). HasNextLine z (p b) c.args.instr.now number) (sym c.self.view_is) is in
    subst (λ (z : SharedValue). TellsOther z (p b) c.step_on.result number) c.self.view_is
    (subst (λ (e : OtherStep). TellsOther (w b) (p b) e number) (sym c.step_on.ensures)
    (lines.does_so (w b) (k b) (p b) (asks b).I (asks b).F (asks b).shared (other b) (runs_on (asks b)) (record { instr = c.args.instr.now; number = number }) here c.in-Some.object (sym c.named.ensures ∙ c.in-Some.is) c.owner-owner.result c.owner-owner.ensures c.in-Some-rest.rest.now (sym c.rest.ensures ∙ ap option_copied c.in-Some-rest.is)))
