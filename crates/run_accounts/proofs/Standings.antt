-- The steps of one entry, one after the other.
use Rattle.run_accounts.proofs.Common.{◌≡◌, ℕ, ◌+◌, ◌-◌, ◌<◌, ◌≤◌, ◌&&◌, ◌||◌, not, Bool, true, false, cond, zero, suc, Option, Some, None, slice_get, is_none, is_some, refl, ap, ap₂, sym, subst, ◌∙◌, arith, false≢true, Line, ProgramText, SettingsValue, Task, MachineState, End, step, fetched, Ledger, task_step, task_steps, is_due, is_in_need, is_private, is_private_by, is_private_line, standing, is_open, works_alone, task_step_machine, task_steps_more, steps_last, in_use, is_own, is_own_by, is_own_line, Stood, Not, Last, AccountsValue, Steady, StaysSteady, stood, after_stood, used_after, went_on}
use Rattle.run_accounts.specs.declared.ran.Stood.TheVariants.{More}

-- PRIVATE STEPS

three_and : (a b c : Bool) → (a && b && c) ≡ (a && (b && c))
three_and true b c = refl
three_and false b c = refl

private_line : (p : ProgramText) (m : MachineState) (t : ℕ) (x : Task) (o : Option Line) → is_private_line p m t x o ≡ (is_own_line m t x o && is_none (step p m t).end)
private_line p m t x None = refl
private_line p m t x (Some line) = sym (three_and (not (is_open x line.instr)) (works_alone m t x.top line.instr) (is_none (step p m t).end))

private_by : (p : ProgramText) (m : MachineState) (t : ℕ) (o : Option Task) → is_private_by p m t o ≡ (is_own_by p m t o && is_none (step p m t).end)
private_by p m t None = refl
private_by p m t (Some x) = private_line p m t x (fetched p x.top)

pub private_is : (p : ProgramText) (m : MachineState) (t : ℕ) → is_private p m t ≡ (is_own p m t && is_none (step p m t).end)
private_is p m t = private_by p m t (slice_get m.tasks t)

-- the machine after a step tells whether the step was private
pub private_after : (p : ProgramText) (l : Ledger) (t : ℕ) → is_private p l.machine t ≡ (is_own p l.machine t && is_none (task_step p l t).machine.end)
private_after p l t = private_is p l.machine t ∙ ap (λ (m : MachineState). is_own p l.machine t && is_none m.end) (sym (task_step_machine p l t))

-- MANY STEPS

pub steps_more : (p : ProgramText) (l : Ledger) (t k : ℕ) → task_steps p l t (k + 1) ≡ task_step p (task_steps p l t k) t
steps_more p l t k = ap (task_steps p l t) (let e : k + 1 ≡ suc k = omega arith in e) ∙ steps_last p l t k

module _ (s : SettingsValue) (p : ProgramText) (t : ℕ) where
  pub stands_not : (l : Ledger) (k : ℕ) → Not ≡ stood s p l t → standing s p l t k ≡ 0
  stands_not l zero e = refl
  stands_not l (suc k) e = stands_not_by_cases (is_due s p l t || is_in_need p l t) (is_private p l.machine t) e
    where
      stands_not_by_cases : (b c : Bool) → Not ≡ cond b Not (cond c More Last) → cond b 0 (cond c (suc (standing s p (task_step p l t) t k)) 1) ≡ 0
      stands_not_by_cases true c e = refl
      stands_not_by_cases false true e = absurd cc
      stands_not_by_cases false false e = absurd cc

  pub stands_last : (l : Ledger) (k : ℕ) → Last ≡ stood s p l t → standing s p l t (suc k) ≡ 1
  stands_last l k e = stands_last_by_cases (is_due s p l t || is_in_need p l t) (is_private p l.machine t) e
    where
      stands_last_by_cases : (b c : Bool) → Last ≡ cond b Not (cond c More Last) → cond b 0 (cond c (suc (standing s p (task_step p l t) t k)) 1) ≡ 1
      stands_last_by_cases true c e = absurd cc
      stands_last_by_cases false true e = absurd cc
      stands_last_by_cases false false e = refl

  pub stands_more : (l : Ledger) (k : ℕ) → More ≡ stood s p l t → standing s p l t (suc k) ≡ suc (standing s p (task_step p l t) t k)
  stands_more l k e = stands_more_by_cases (is_due s p l t || is_in_need p l t) (is_private p l.machine t) e
    where
      stands_more_by_cases : (b c : Bool) → More ≡ cond b Not (cond c More Last) → cond b 0 (cond c (suc (standing s p (task_step p l t) t k)) 1) ≡ suc (standing s p (task_step p l t) t k)
      stands_more_by_cases true c e = absurd cc
      stands_more_by_cases false true e = refl
      stands_more_by_cases false false e = absurd cc

  pub stands_some : (l : Ledger) (k : ℕ) → (is_due s p l t || is_in_need p l t) ≡ false → 1 ≤ standing s p l t (suc k)
  stands_some l k e = stands_some_by_cases (is_due s p l t || is_in_need p l t) (is_private p l.machine t) e
    where
      stands_some_by_cases : (b c : Bool) → b ≡ false → 1 ≤ cond b 0 (cond c (suc (standing s p (task_step p l t) t k)) 1)
      stands_some_by_cases true c e = absurd (false≢true (sym e))
      stands_some_by_cases false true e = omega arith
      stands_some_by_cases false false e = omega arith

-- the progress of the steps: n were taken, all of them fit, and what remains to be decided is about the rest
pub record Ran (s : SettingsValue) (p : ProgramText) (l : Ledger) (t k done : ℕ) (now : Ledger) : Type 0 where
  pub is : now ≡ task_steps p l t done
  pub rest : standing s p l t k ≡ done + standing s p now t (k - done)

module _ (s : SettingsValue) (p : ProgramText) (l : Ledger) (t k done : ℕ) (now : Ledger) (R : Ran s p l t k done now) (lt : done < k) where
  left_is : k - done ≡ suc (k - (done + 1))
  left_is = omega arith

  rest_is : standing s p now t (k - done) ≡ standing s p now t (suc (k - (done + 1)))
  rest_is = ap (standing s p now t) left_is

  pub ran_steady : StaysSteady s p l t k → Steady now
  ran_steady S = subst Steady (sym R.is) (S.steady done (let e = R.rest in omega arith))

  pub ran_used : StaysSteady s p l t k → (is_due s p now t || is_in_need p now t) ≡ false → used_after p now t ≡ in_use (task_step p now t)
  ran_used S fine =
      subst (λ q. used_after p q t ≡ in_use (task_step p q t)) (sym R.is)
      (S.used done (let e = R.rest in omega arith) (ap (λ q. is_due s p q t || is_in_need p q t) (sym R.is) ∙ fine))

  pub ran_steady_after : StaysSteady s p l t k → (is_due s p now t || is_in_need p now t) ≡ false → Steady (task_step p now t)
  ran_steady_after S fine =
      subst Steady (steps_more p l t done ∙ ap (λ q. task_step p q t) (sym R.is))
      (S.steady (done + 1) (let e = R.rest in let f = stands_some s p t now (k - (done + 1)) fine in let g = rest_is in omega arith))

  pub ran_not : Not ≡ stood s p now t → done ≡ standing s p l t k
  ran_not e = let a = stands_not s p t now (k - done) e in let b = R.rest in omega arith

  pub ran_last : Last ≡ stood s p now t → done + 1 ≡ standing s p l t k
  ran_last e = let a = stands_last s p t now (k - (done + 1)) e in let b = R.rest in let g = rest_is in omega arith

  pub ran_next : task_step p now t ≡ task_steps p l t (done + 1)
  ran_next = ap (λ q. task_step p q t) R.is ∙ sym (steps_more p l t done)

  pub ran_more : More ≡ stood s p now t → Ran s p l t k (done + 1) (task_step p now t)
  ran_more e = record {
    is = ran_next;
    rest = let a = stands_more s p t now (k - (done + 1)) e in let b = R.rest in let g = rest_is in omega arith;
  }

-- before the first step
pub ran_none : (s : SettingsValue) (p : ProgramText) (l : Ledger) (t k : ℕ) → Ran s p l t k 0 l
ran_none s p l t k = record { is = refl; rest = let e : standing s p l t k ≡ standing s p l t (k - 0) = ap (standing s p l t) (omega arith) in omega arith }

-- n steps, and then k of the rest
module _ (s : SettingsValue) (p : ProgramText) (l : Ledger) (t k done : ℕ) (now : Ledger) (R : Ran s p l t k done now) (le : done ≤ k) where
  pub ran_on : (count : ℕ) (later : Ledger) → Ran s p now t (k - done) count later → Ran s p l t k (done + count) later
  ran_on count later Q = record {
    is = Q.is ∙ (ap (λ q. task_steps p q t count) R.is ∙ sym (task_steps_more p t done count l));
    rest =
        let rest : standing s p later t (k - done - count) ≡ standing s p later t (k - (done + count)) = ap (standing s p later t) (omega arith) in
        let a = R.rest in
        let b = Q.rest in
        omega arith;
  }

  at_rest : (i : ℕ) → task_steps p l t (done + i) ≡ task_steps p now t i
  at_rest i = task_steps_more p t done i l ∙ ap (λ q. task_steps p q t i) (sym R.is)

  pub rest_steady : StaysSteady s p l t k → StaysSteady s p now t (k - done)
  rest_steady S = record {
    steady = λ i lt. subst Steady (at_rest i) (S.steady (done + i) (let a = R.rest in omega (arith, lt)));
    used = λ i lt. subst (λ q. (is_due s p q t || is_in_need p q t) ≡ false → used_after p q t ≡ in_use (task_step p q t)) (at_rest i) (S.used (done + i) (let a = R.rest in omega (arith, lt)));
  }

-- the same, by the accounts at the entry and those in the loop
module _ (a b : AccountsValue) (t k done : ℕ) (is : b ≡ went_on a b.ledger) (R : Ran a.settings a.program a.ledger t k done b.ledger) (lt : done < k) where
  el : b.settings ≡ a.settings
  el = ap (λ (q : AccountsValue). q.settings) is

  ep : b.program ≡ a.program
  ep = ap (λ (q : AccountsValue). q.program) is

  pub used_at : b.used ≡ in_use b.ledger
  used_at = ap (λ (q : AccountsValue). q.used) is

  pub steady_at : StaysSteady a.settings a.program a.ledger t k → Steady b.ledger
  steady_at S = ran_steady a.settings a.program a.ledger t k done b.ledger R lt S

  stands_as : (is_due b.settings b.program b.ledger t || is_in_need b.program b.ledger t) ≡ false → (is_due a.settings a.program b.ledger t || is_in_need a.program b.ledger t) ≡ false
  stands_as fine = ap₂ (λ s p. is_due s p b.ledger t || is_in_need p b.ledger t) (sym el) (sym ep) ∙ fine

  pub steady_after_at : StaysSteady a.settings a.program a.ledger t k → (is_due b.settings b.program b.ledger t || is_in_need b.program b.ledger t) ≡ false → Steady (task_step b.program b.ledger t)
  steady_after_at S fine =
      subst (λ p. Steady (task_step p b.ledger t)) (sym ep) (ran_steady_after a.settings a.program a.ledger t k done b.ledger R lt S (stands_as fine))

  pub used_after_at : StaysSteady a.settings a.program a.ledger t k → (is_due b.settings b.program b.ledger t || is_in_need b.program b.ledger t) ≡ false → used_after b.program b.ledger t ≡ in_use (task_step b.program b.ledger t)
  used_after_at S fine =
      subst (λ p. used_after p b.ledger t ≡ in_use (task_step p b.ledger t)) (sym ep) (ran_used a.settings a.program a.ledger t k done b.ledger R lt S (stands_as fine))

  module _ (how : Stood) (h : how ≡ stood b.settings b.program b.ledger t) where
    stood_as : (w : Stood) → how ≡ w → w ≡ stood a.settings a.program b.ledger t
    stood_as w e = sym e ∙ (h ∙ ap₂ (λ s p. stood s p b.ledger t) el ep)

    pub not_at : how ≡ Not → done ≡ standing a.settings a.program a.ledger t k
    not_at e = ran_not a.settings a.program a.ledger t k done b.ledger R lt (stood_as Not e)

    pub last_at : how ≡ Last → done + 1 ≡ standing a.settings a.program a.ledger t k
    last_at e = ran_last a.settings a.program a.ledger t k done b.ledger R lt (stood_as Last e)

    module _ (new : AccountsValue) (n : new ≡ went_on b (after_stood b.program b.ledger t how)) where
      new_is : (w : Stood) → how ≡ w → new ≡ went_on a (after_stood a.program b.ledger t w)
      new_is w e =
          n ∙ (ap (λ v. went_on b (after_stood b.program b.ledger t v)) e ∙ ap (λ (q : AccountsValue). went_on q (after_stood q.program b.ledger t w)) is)

      pub new_not : how ≡ Not → new ≡ went_on a (task_steps a.program a.ledger t done)
      new_not e = new_is Not e ∙ ap (went_on a) R.is

      pub new_last : how ≡ Last → new ≡ went_on a (task_steps a.program a.ledger t (done + 1))
      new_last e = new_is Last e ∙ ap (went_on a) (ran_next a.settings a.program a.ledger t k done b.ledger R lt)

      pub new_more : how ≡ More → Ran a.settings a.program a.ledger t k (done + 1) new.ledger
      new_more e =
          subst (Ran a.settings a.program a.ledger t k (done + 1)) (sym (ap (λ (q : AccountsValue). q.ledger) (new_is More e)))
          (ran_more a.settings a.program a.ledger t k done b.ledger R lt (stood_as More e))

      pub new_went : how ≡ More → new ≡ went_on a new.ledger
      new_went e = let q = new_is More e in q ∙ ap (went_on a) (sym (ap (λ (x : AccountsValue). x.ledger) q))

-- n steps that were counted at once, by the accounts before and after
module _ (b new : AccountsValue) (t k n : ℕ)
    (stand : standing b.settings b.program b.ledger t k ≡ n + standing b.settings b.program (task_steps b.program b.ledger t n) t (k - n)) (after : new ≡ went_on b (task_steps b.program b.ledger t n)) where
  led : new.ledger ≡ task_steps b.program b.ledger t n
  led = ap (λ (q : AccountsValue). q.ledger) after

  pub counted_ran : Ran b.settings b.program b.ledger t k n new.ledger
  counted_ran = record { is = led; rest = stand ∙ ap (λ l. n + standing b.settings b.program l t (k - n)) (sym led) }

  pub counted_is : new ≡ went_on b new.ledger
  counted_is = after ∙ ap (went_on b) (sym led)

-- the same after n others
module _ (a b : AccountsValue) (t k done : ℕ) (is : b ≡ went_on a b.ledger) (R : Ran a.settings a.program a.ledger t k done b.ledger) (le : done ≤ k) where
  pub rest_at : StaysSteady a.settings a.program a.ledger t k → StaysSteady b.settings b.program b.ledger t (k - done)
  rest_at S = subst (λ (q : AccountsValue). StaysSteady q.settings q.program b.ledger t (k - done)) (sym is) (rest_steady a.settings a.program a.ledger t k done b.ledger R le S)

  module _ (new : AccountsValue) (n : ℕ) (stand : standing b.settings b.program b.ledger t (k - done) ≡ n + standing b.settings b.program (task_steps b.program b.ledger t n) t (k - done - n))
      (after : new ≡ went_on b (task_steps b.program b.ledger t n)) where
    pub on_ran : Ran a.settings a.program a.ledger t k (done + n) new.ledger
    on_ran =
        ran_on a.settings a.program a.ledger t k done b.ledger R le n new.ledger
        (subst (λ (q : AccountsValue). Ran q.settings q.program b.ledger t (k - done) n new.ledger) is (counted_ran b new t (k - done) n stand after))

    pub on_is : new ≡ went_on a new.ledger
    on_is = counted_is b new t (k - done) n stand after ∙ ap (λ q. went_on q new.ledger) is

  -- all of them
  module _ (all : done ≡ k) where
    pub all_stand : k ≡ standing a.settings a.program a.ledger t k
    all_stand =
        let none : standing a.settings a.program b.ledger t (k - done) ≡ 0 = ap (standing a.settings a.program b.ledger t) (let e : k - done ≡ 0 = omega arith in e) in
        let rest = R.rest in
        omega arith

    pub all_went : b ≡ went_on a (task_steps a.program a.ledger t k)
    all_went = is ∙ (ap (went_on a) R.is ∙ ap (λ n. went_on a (task_steps a.program a.ledger t n)) all)

-- how a taken step fitted
pub stood_is : (s : SettingsValue) (p : ProgramText) (l : Ledger) (t : ℕ) (own ended : Bool) → is_due s p l t ≡ false → is_in_need p l t ≡ false → own ≡ is_own p l.machine t
    → ended ≡ is_some (task_step p l t).machine.end → cond (own && not ended) More Last ≡ stood s p l t
stood_is s p l t own ended d n o e =
    ap₂ (λ a b. cond (a && b) More Last) o (ap not e ∙ not_some (task_step p l t).machine.end)
    ∙ (ap (λ b. cond b More Last) (sym (private_after p l t)) ∙ sym (ap₂ (λ a b. cond (a || b) Not (cond (is_private p l.machine t) More Last)) d n))
  where
    not_some : (o : Option End) → not (is_some o) ≡ is_none o
    not_some None = refl
    not_some (Some x) = refl
