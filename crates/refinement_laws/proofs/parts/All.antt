-- All parts that fit a memory fit it together.
use Rattle.refinement_laws.proofs.Common.{None, ◌≡◌, List, [], ◌∷◌, ap, ap₂, ◌∙◌, ProgramText, SettingsValue, Task, goes_on, is_running, Ledger, or_fresh, LedgerIsKnown, Memory, MemoryStands, Part, FitsAt, with_belongings, ahead, WorkersFit, RunsWithPart, NotOf, AllFitAt, with_all_belongings, all_ahead, AllFitTogether}
use Rattle.refinement_laws.proofs.parts.Workers.{out, part_now}
use Rattle.refinement_laws.proofs.parts.Pair as pair

-- a part fits the memory with another's belongings in it, by the accounts with the other's steps
module _ (p : ProgramText) (s : SettingsValue) (q r : Part) (v : Memory) (l : Ledger) (x y : Task) (K : LedgerIsKnown l) (F : FitsAt p s q v l) (G : FitsAt p s r v l) (O : RunsWithPart l q x) (P : RunsWithPart l r y) (ne : q.task ≡ r.task → ⊥) where
  pub fits_on_top : FitsAt p s r (with_belongings v q.task q.belongings) (ahead p q l)
  fits_on_top = record {
    worker = G.worker;
    out = ap (λ o. (or_fresh o).worker) (pair.alike p s q r v l x y K F G O P ne).heap ∙ G.out;
    few = G.few;
    private = (pair.then_ p s q r v l x y K F G O P ne).0;
    stands = pair.fit_together p s q r v l x y K F G O P ne;
  }

  pub out_on_top : RunsWithPart (ahead p q l) r y
  out_on_top = record {
    task = (pair.alike p s q r v l x y K F G O P ne).task ∙ P.task;
    runs = P.runs;
    can = ap₂ (λ e o. goes_on e (is_running o)) (pair.alike p s q r v l x y K F G O P ne).end (pair.alike p s q r v l x y K F G O P ne).task ∙ P.can;
    steady = pair.steady p s q r v l x y K F G O P ne;
  }

module _ (p : ProgramText) (s : SettingsValue) where
  rest_on_top : (q : Part) (v : Memory) (l : Ledger) (x : Task) → LedgerIsKnown l → FitsAt p s q v l → RunsWithPart l q x → (rs : List Part) → NotOf q.task rs → AllFitAt p s rs v l → AllFitAt p s rs (with_belongings v q.task q.belongings) (ahead p q l)
  rest_on_top q v l x K F O [] N A = tt
  rest_on_top q v l x K F O (r ∷ rs) N A = (
    fits_on_top p s q r v l x A.1 K F A.0 O A.2 N.0,
    A.1,
    out_on_top p s q r v l x A.1 K F A.0 O A.2 N.0,
    A.3,
    rest_on_top q v l x K F O rs N.1 A.4,
  )

  pub all_stand : (qs : List Part) (v : Memory) (l : Ledger) → LedgerIsKnown l → MemoryStands v l → AllFitAt p s qs v l → MemoryStands (with_all_belongings v qs) (all_ahead p qs l)
  all_stand [] v l K V A = V
  all_stand (q ∷ qs) v l K V A =
      all_stand qs (with_belongings v q.task q.belongings) (ahead p q l) (pair.knows_ahead p s q v l A.1 K A.0 A.2) A.0.stands (rest_on_top q v l A.1 K A.0 A.2 qs A.3 A.4)

-- parts that fit, by the current accounts
by_accounts : (p : ProgramText) (s : SettingsValue) (qs : List Part) (v : Memory) (l : Ledger) → l.machine.end ≡ None → WorkersFit p s qs v l → AllFitAt p s qs v l
by_accounts p s [] v l on A = tt
by_accounts p s (q ∷ qs) v l on A = ((part_now p s q v l on A.0).fits, A.0.task, out p s q v l on A.0, A.1, by_accounts p s qs v l on A.2)

pub all_fit_together : AllFitTogether
all_fit_together p s qs v l K on V A = all_stand p s qs v l K V (by_accounts p s qs v l on A)
