use Rattle.shared_tree.proofs.Common.{◌≡◌, None, refl, sym, ◌∙◌, AsksAlone, refused, alone_entry}
use Rattle.shared_tree.proofs.Joints.{at_end, at_fork, at_root_end, fit_by}
use Rattle.shared_tree.proofs.shared.Shared.ran_lent.Goals as goal
use Rattle.shared_tree.proofs.shared.Shared.ran_lent.Goals.{After-stands}

-- What is known of the entry if it isn't refused.
module _ (c : After-stands) where
  free : refused c.args.self.now (alone_entry c.args.worker c.args.part.now) ≡ None
  free = sym c.alone_refused.ensures ∙ c.in_default.is

  asks : AsksAlone c.args.self.now c.args.worker c.args.part.now
  asks = record { I = c.stands.ensures; F = c.requires.fits; shared = c.requires.shared; free = free }

pub next_line-instr-requires-clause-out : goal.next_line-instr-requires-clause-out
next_line-instr-requires-clause-out c = record { worker = c.args.worker; fits = c.requires.fits; free = free c }

pub returns-in-Some : goal.returns-in-Some
returns-in-Some c = record { refused = sym c.alone_refused.ensures ∙ c.in-Some.is; same = refl; still = fit_by c.args.self.now c.args.self.now refl; back = refl; answered = tt }

pub returns-in-Par : goal.returns-in-Par
returns-in-Par c =
    let b = (goal.at.returns-in-Par c).After-stands in
    record {
      refused = free b;
      same = tt;
      still = tt;
      back = tt;
      answered = record { same = refl; part = refl; leaves = at_fork (asks b) c.next_line-instr.result.0 c.next_line-instr.result.1 c.next_line-instr.ensures c.in-Par.field-0 c.in-Par.field-1 c.in-Par.is };
    }

pub returns-in-Ret : goal.returns-in-Ret
returns-in-Ret c =
    let b = (goal.at.returns-in-Ret c).After-stands in
    record {
      refused = free b;
      same = tt;
      still = tt;
      back = tt;
      answered = record { same = refl; part = refl; leaves = at_root_end (asks b) c.next_line-instr.result.0 c.next_line-instr.result.1 c.next_line-instr.ensures c.in-Ret.is c.if-part-eq0.true };
    }

pub returns-in-Ret-2 : goal.returns-in-Ret-2
returns-in-Ret-2 c =
    let b = (goal.at.returns-in-Ret-2 c).After-stands in
    record {
      refused = free b;
      same = tt;
      still = tt;
      back = tt;
      answered = record { same = refl; part = refl; leaves = at_end (asks b) c.next_line-instr.result.0 c.next_line-instr.result.1 c.next_line-instr.ensures c.in-Ret-2.is c.if-part-eq0.false };
    }
