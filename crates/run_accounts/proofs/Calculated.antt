-- Steps that only calculate, with their accounts.
use Rattle.run_accounts.proofs.Common.{◌≡◌, ℕ, zero, suc, ◌+◌, ◌-◌, ◌<◌, ◌≤◌, ◌||◌, true, false, Option, Some, None, slice_get, nat_le, is_some, refl, ap, ap₂, sym, subst, ◌∙◌, arith, false≢true, Task, TaskStatus, Running, Waiting, Ended, Joined, MachineState, advanced_by, calculates, MachineValue, asked, is_running, step, Ledger, heap_of, in_use, lacks_room, is_due, is_in_need, moved_on, moved_to, on_asked, settled, standing, task_step, task_steps, task_step_machine, Calculation, found, AccountsValue, StaysSteady, stood, used_after, went_on}
use Rattle.next_steps.proofs.Calculating as calculating
use Rattle.run_accounts.specs.declared.ran.Stood.TheVariants.{More}
use Rattle.run_accounts.proofs.Standings.{Ran, ran_more, ran_none, ran_used, stood_is}
use Rattle.run_accounts.proofs.Stepped.{advanced, allocates_nothing, counts_nothing, steps_by}

-- if the task runs on, nothing else changes
settles_nothing : (l : Ledger) (t : ℕ) (o : Option Task) → is_running o ≡ true → moved_to l t o ≡ l
settles_nothing l t None e = absurd (false≢true e)
settles_nothing l t (Some x) e = settles_nothing_by_cases x.status e
  where
    settles_nothing_by_cases : (s : TaskStatus) → is_running (Some (record x { status = s })) ≡ true → moved_on l t x.parent s ≡ l
    settles_nothing_by_cases Running e = refl
    settles_nothing_by_cases Waiting e = absurd (false≢true e)
    settles_nothing_by_cases (Ended k n) e = absurd (false≢true e)
    settles_nothing_by_cases Joined e = absurd (false≢true e)

-- how they change the machine
pub steps_taken : (g : MachineValue) (t k : ℕ) → (advanced_by g t k).steps ≡ g.steps + k
steps_taken g t zero = omega arith
steps_taken g t (suc k) = let e = steps_taken g t k in omega arith

pub same_program : (g : MachineValue) (t k : ℕ) → (advanced_by g t k).program ≡ g.program
same_program g t zero = refl
same_program g t (suc k) = same_program g t k

-- ONE OF THEM

module _ (s : AccountsValue) (t : ℕ) (is : calculates s.program s.ledger.machine t ≡ true) where
  C : Calculation s.program s.ledger.machine t
  C = found s.program s.ledger.machine t is

  none : asked s.program s.ledger.machine t ≡ None
  none = calculating.asks_nothing s.program s.ledger.machine t C

  not_due : is_due s.settings s.program s.ledger t ≡ false
  not_due = ap (λ o. on_asked o (λ w. nat_le s.settings.leaf (heap_of s.ledger t).since)) none

  not_in_need : is_in_need s.program s.ledger t ≡ false
  not_in_need = ap (λ o. on_asked o (lacks_room (heap_of s.ledger t))) none

  stands : (is_due s.settings s.program s.ledger t || is_in_need s.program s.ledger t) ≡ false
  stands = ap₂ (λ a b. a || b) not_due not_in_need

  -- a further one fits after it
  more : More ≡ stood s.settings s.program s.ledger t
  more =
      let ended : false ≡ is_some (task_step s.program s.ledger t).machine.end =
      sym (ap (λ (m : MachineState). is_some m.end) (task_step_machine s.program s.ledger t) ∙ ap is_some (calculating.ends_not s.program s.ledger.machine t C)) in
      stood_is s.settings s.program s.ledger t true false not_due not_in_need (sym (calculating.is_own_matter s.program s.ledger.machine t C)) ended

  -- the machine goes on, and nothing else changes
  went : s.used ≡ in_use s.ledger → used_after s.program s.ledger t ≡ in_use (task_step s.program s.ledger t)
      → record s { ledger = advanced s.program s.ledger t } ≡ went_on s (task_step s.program s.ledger t)
  went used next =
      let after : AccountsValue = record s { ledger = advanced s.program s.ledger t } in
      let end : after.ledger.machine.end ≡ None = calculating.ends_not s.program s.ledger.machine t C in
      let runs : is_running (slice_get after.ledger.machine.tasks t) ≡ true = calculating.runs_on s.program s.ledger.machine t C in
      steps_by s s after after after t C.can used next (allocates_nothing s t none) refl (counts_nothing s after t (heap_of s.ledger t).reserved none)
      (ap (λ (l : Ledger). record after { ledger = l }) (sym (ap (settled after.ledger t) end ∙ settles_nothing after.ledger t (slice_get after.ledger.machine.tasks t) runs)))

-- ONE AFTER THE OTHER

module _ (a : AccountsValue) (g : MachineValue) (t most n : ℕ) (program : g.program ≡ a.program) (state : g.state ≡ a.ledger.machine) (used : a.used ≡ in_use a.ledger)
    (S : StaysSteady a.settings a.program a.ledger t most) (le : n ≤ most) (only : (k : ℕ) → k < n → calculates g.program (advanced_by g t k).state t ≡ true) where
  -- the accounts whose machine has taken n of them
  abbrev moved : ℕ → Ledger
  moved k = record a.ledger { machine = (advanced_by g t k).state; steps = a.ledger.steps + k }

  -- they are those after n steps of the entry, all of which fit
  record Along (k : ℕ) : Type 0 where
    pub of : (advanced_by g t k).program ≡ a.program
    pub ran : Ran a.settings a.program a.ledger t most k (moved k)
    pub uses : a.used ≡ in_use (moved k)

  at_first : Along 0
  at_first =
      let same : a.ledger ≡ moved 0 = ap₂ (λ m k. let z : Ledger = record a.ledger { machine = m; steps = k } in z) (sym state) (omega arith) in
      record { of = program; ran = subst (Ran a.settings a.program a.ledger t most 0) same (ran_none a.settings a.program a.ledger t most); uses = used ∙ ap in_use same }

  one_more : (k : ℕ) → k < n → Along k → Along (suc k)
  one_more k lt A =
      let now : AccountsValue = record a { ledger = moved k } in
      let is : calculates a.program (moved k).machine t ≡ true = ap (λ p. calculates p (moved k).machine t) (sym program) ∙ only k lt in
      let within : k < most = omega arith in
      let next : used_after a.program (moved k) t ≡ in_use (task_step a.program (moved k) t) = ran_used a.settings a.program a.ledger t most k (moved k) A.ran within S (stands now t is) in
      let w = went now t is A.uses next in
      let same : moved (suc k) ≡ task_step a.program (moved k) t =
      ap₂ (λ p i. let z : Ledger = record a.ledger { machine = step p (advanced_by g t k).state t; steps = i } in z) A.of (omega arith) ∙ ap (λ (q : AccountsValue). q.ledger) w in
      let r : Ran a.settings a.program a.ledger t most (k + 1) (task_step a.program (moved k) t) = ran_more a.settings a.program a.ledger t most k (moved k) A.ran within (more now t is) in
      record {
        of = A.of;
        ran = subst (λ i. Ran a.settings a.program a.ledger t most i (moved (suc k))) (let e : k + 1 ≡ suc k = omega arith in e) (subst (Ran a.settings a.program a.ledger t most (k + 1)) (sym same) r);
        uses = ap (λ (q : AccountsValue). q.used) w ∙ ap in_use (sym same);
      }

  along : (k : ℕ) → k ≤ n → Along k
  along zero le = at_first
  along (suc k) le = one_more k (omega (arith, le)) (along k (omega (arith, le)))

  at_last : Along n
  at_last = along n (omega arith)

  pub calculated_standing : standing a.settings a.program a.ledger t most ≡ n + standing a.settings a.program (task_steps a.program a.ledger t n) t (most - n)
  calculated_standing = at_last.ran.rest ∙ ap (λ l. n + standing a.settings a.program l t (most - n)) at_last.ran.is

  pub calculated_is : record a { ledger = moved n } ≡ went_on a (task_steps a.program a.ledger t n)
  calculated_is = ap (λ u. let z : AccountsValue = record a { ledger = moved n; used = u } in z) at_last.uses ∙ ap (went_on a) at_last.ran.is
