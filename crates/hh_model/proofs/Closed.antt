-- A set of names that contains what the tasks hold and is closed under references stays so: what is unreachable stays
-- unreachable.
use Rattle.hh_model.proofs.Common.{◌≡◌, ℕ, ℤ, zero, suc, ◌+◌, true, false, cond, Option, Some, None, List, [], ◌∷◌, ◌++◌, length, set, slice_get, slice_set, ◌⊎◌, inl, inr, refl, ap, sym, subst, ◌∙◌, arith, is_some, false≢true, In, got_cases, got_past, in_append_right, in_append_left, ProgramText, Name, Object, TaskStatus, Running, Waiting, Ended, Joined, Task, MachineState, row_of, onward, ref_in, names_of_references, refs_of, refs_at, registers, names_from, task_names, waits, is_running, is_waiting, is_joined, parent_of, joined_task, resumed, child, step, asked, asked_by, asked_line, fetched}
use Rattle.hh_model.proofs.Carried.{in_from_named, named_from_in, in_set_cases, next_name}
use Rattle.hh_model.proofs.Runs.{waiting}
use Rattle.hh_model.proofs.ForkJoinStates.{IsForkJoinState}
use Rattle.hh_model.proofs.Steps.{Drawn, Put, Allocates, runs_is, names_run, register_cases, step_cases}
pub use Rattle.hh_model.specs.Closed.{Closed}

pub waits_is : (s : TaskStatus) → waits s ≡ true → s ≡ Waiting
waits_is Running h = absurd (false≢true h)
waits_is Waiting h = refl
waits_is (Ended k n) h = absurd (false≢true h)
waits_is Joined h = absurd (false≢true h)

pub no_next : (t : ℕ) (store : List (List Object)) (r : Name) → In (refs_at store (next_name t store)) r → ⊥
no_next t store r h = subst (λ w. In (refs_of w) r) (got_past (row_of (slice_get store t)) (length (row_of (slice_get store t))) (omega arith)) h

rows_grown : (rows : List (List Object)) (k c : ℕ) (r : Name) → In (refs_of (slice_get (row_of (slice_get (rows ++ [] ∷ [] ∷ []) k)) c)) r → In (refs_of (slice_get (row_of (slice_get rows k)) c)) r
rows_grown [] zero c r h = h
rows_grown [] (suc zero) c r h = h
rows_grown [] (suc (suc k)) c r h = h
rows_grown (row ∷ rows) zero c r h = h
rows_grown (row ∷ rows) (suc k) c r h = rows_grown rows k c r h

pub refs_grown : (store : List (List Object)) (n r : Name) → In (refs_at (store ++ [] ∷ [] ∷ []) n) r → In (refs_at store n) r
refs_grown store n r h = rows_grown store n.task n.count r h

-- a task among the old ones and two more
pub grown_cases : (tasks : List Task) (c d : Task) (u : ℕ) (z : Task) → slice_get (tasks ++ c ∷ d ∷ []) u ≡ Some z
    → (slice_get tasks u ≡ Some z) ⊎ (((u ≡ length tasks) × (z ≡ c)) ⊎ ((u ≡ length tasks + 1) × (z ≡ d)))
grown_cases [] c d zero z e = inr (inl (refl, cc))
grown_cases [] c d (suc zero) z e = inr (inr (omega arith, cc))
grown_cases [] c d (suc (suc u)) z e = absurd cc
grown_cases (x ∷ tasks) c d zero z e = inl e
grown_cases (x ∷ tasks) c d (suc u) z e =
    elim (grown_cases tasks c d u z e) [
      | inl old ↦ inl old
      | inr new ↦ inr (elim new [ inl l ↦ inl (ap suc l.0, l.1) | inr r ↦ inr (let e' : u ≡ length tasks + 1 = r.0 in omega arith, r.1) ])
    ]

-- the children of a join and their parent
pub three_cases : (tasks : List Task) (l p : ℕ) (yl yr yp : Task) (u : ℕ) (z : Task) → slice_get (slice_set (slice_set (slice_set tasks l yl) (l + 1) yr) p yp) u ≡ Some z
    → ((u ≡ p) × (z ≡ yp)) ⊎ ((z ≡ yr) ⊎ ((z ≡ yl) ⊎ (slice_get tasks u ≡ Some z)))
three_cases tasks l p yl yr yp u z e =
    elim (got_cases (slice_set (slice_set tasks l yl) (l + 1) yr) p u yp z e) [
      | inl top ↦ inl top
      | inr e1 ↦ elim (got_cases (slice_set tasks l yl) (l + 1) u yr z e1) [
        | inl a ↦ inr (inl a.1)
        | inr e2 ↦ elim (got_cases tasks l u yl z e2) [ inl a ↦ inr (inr (inl a.1)) | inr e3 ↦ inr (inr (inr e3)) ]
      ]
    ]

pub joined_names : (x z : Task) (r : Name) → z ≡ joined_task x → In (task_names z) r → ⊥
joined_names x z r e h = subst (λ (w : Task). In (task_names w) r) e h

-- the names of the parent after the join
pub resumed_names : (xp : Task) (rl rr : ℤ × Option Name) (r : Name) → xp.status ≡ Waiting → In (task_names (resumed xp rl rr)) r → In (task_names xp) r ⊎ ((rl.1 ≡ Some r) ⊎ (rr.1 ≡ Some r))
resumed_names xp rl rr r w h =
    elim (register_cases (resumed xp rl rr).top xp.below r h) [
      | inl i ↦ elim (in_set_cases (set xp.top.refs 0 rl.1) 1 rr.1 (Some r) i) [
        | inl e ↦ inr (inr e)
        | inr j ↦ elim (in_set_cases xp.top.refs 0 rl.1 (Some r) j) [
          | inl e ↦ inr (inl e)
          | inr k ↦ inl (subst (λ s. In (names_from s (xp.top ∷ xp.below)) r) (sym w) (in_append_left (names_of_references xp.top.refs) (registers xp.below) r (named_from_in xp.top.refs r k)))
        ]
      ]
      | inr i ↦ inl (subst (λ s. In (names_from s (xp.top ∷ xp.below)) r) (sym w) (in_append_right (names_of_references xp.top.refs) (registers xp.below) r i))
    ]

-- whether a stepping task allocates
pub asked_at : (p : ProgramText) (m : MachineState) (t : ℕ) (x : Task) → slice_get m.tasks t ≡ Some x → is_running (Some x) ≡ true → asked p m t ≡ asked_line m.field_limit x.top (fetched p x.top)
asked_at p m t x is run = ap (asked_by p m) is ∙ ap (λ b. cond b (asked_line m.field_limit x.top (fetched p x.top)) None) run

module _ (p : ProgramText) (m : MachineState) (t : ℕ) (K : IsForkJoinState m) (P P' : Name → Type 0)
    (up : (n : Name) → P n → P' n) (down : (n : Name) → P' n → P n ⊎ (n ≡ next_name t m.store)) (new : is_some (asked p m t) ≡ true → P' (next_name t m.store))
    (I : Closed m.tasks m.store P) where
  fields : (n r : Name) → P' n → In (refs_at m.store n) r → P' r
  fields n r pn h = elim (down n pn) [
    | inl old ↦ up r (I.of_object n r old h)
    | inr e ↦ absurd (no_next t m.store r (subst (λ k. In (refs_at m.store k) r) e h))
  ]

  held_up : (x : Task) (r : Name) → slice_get m.tasks t ≡ Some x → In (task_names x) r → P' r
  held_up x r is h = up r (I.of_task t x r is h)

  closed_unchanged : Closed m.tasks m.store P'
  closed_unchanged = record { of_task = λ u x r is h. up r (I.of_task u x r is h); of_object = fields }

  allocated : (x : Task) → slice_get m.tasks t ≡ Some x → is_running (Some x) ≡ true → Allocates p m t x → P' (next_name t m.store)
  allocated x is run a = new (ap is_some (asked_at p m t x is run) ∙ a)

  drawn : (x : Task) (r : Name) → slice_get m.tasks t ≡ Some x → is_running (Some x) ≡ true → Drawn p m t x r → P' r
  drawn x r is run (inl old) = held_up x r is old
  drawn x r is run (inr (inl n)) = subst P' (sym n.0) (allocated x is run n.1)
  drawn x r is run (inr (inr read)) = up r (I.of_object read.0 r (I.of_task t x read.0 is read.1) read.2)

  put : (x : Task) (n r : Name) → slice_get m.tasks t ≡ Some x → P' n → Put p m t x n r → P' r
  put x n r is pn (inl old) = fields n r pn old
  put x n r is pn (inr w) = held_up x r is w.1

  written : (x y : Task) → slice_get m.tasks t ≡ Some x → ((r : Name) → In (task_names y) r → P' r) → (u : ℕ) (z : Task) (r : Name) → slice_get (slice_set m.tasks t y) u ≡ Some z → In (task_names z) r → P' r
  written x y is names u z r e h = elim (got_cases m.tasks t u y z e) [
    | inl here ↦ names r (subst (λ (w : Task). In (task_names w) r) here.1 h)
    | inr old ↦ up r (I.of_task u z r old h)
  ]

  pub closed_step : Closed (step p m t).tasks (step p m t).store P'
  closed_step =
      step_cases p m t K (λ m'. Closed m'.tasks m'.store P') closed_unchanged (λ x e is run why. closed_unchanged)
      (λ x y store outs is run ep ed es ej names fields' alters grows. record {
        of_task = written x y is (λ r h. drawn x r is run (names r h));
        of_object = λ n r pn h. put x n r is pn (fields' n r h);
      })
      (λ x parent e is run pp which result. record {
        of_task = written x _ is (λ r h. held_up x r is (result r (elim (in_from_named (ref_in x.top 0 ∷ []) r h) [ inl e ↦ e | inr none ↦ absurd none ])));
        of_object = fields;
      })
      (λ x g h is run next top. record {
        of_task = forked x g h is run top;
        of_object = λ n r pn i. fields n r pn (refs_grown m.store n r i);
      })
      (λ parent l xp xl xr rl rr ip il ir pl left dl dr wl wr nl nr side. record {
        of_task = joined' parent l xp xl xr rl rr ip il ir pl dl nl nr;
        of_object = fields;
      })
    where
      forked : (x : Task) (g h : ℕ) → slice_get m.tasks t ≡ Some x → is_running (Some x) ≡ true → ((r : Name) → In x.top.refs (Some r) → In (task_names x) r)
          → (u : ℕ) (z : Task) (r : Name) → slice_get (slice_set m.tasks t (record x { status = Waiting; top = onward x.top }) ++ child t (x.depth + 1) g x.top ∷ child t (x.depth + 1) h x.top ∷ []) u ≡ Some z → In (task_names z) r → P' r
      forked x g h is run top u z r e i =
          elim (grown_cases (slice_set m.tasks t (record x { status = Waiting; top = onward x.top })) (child t (x.depth + 1) g x.top) (child t (x.depth + 1) h x.top) u z e) [
            | inl old ↦ written x (record x { status = Waiting; top = onward x.top }) is (λ q j. held_up x q is (names_run x q (runs_is x.status run) j)) u z r old i
            | inr new ↦ elim new [
              | inl a ↦ kid g (subst (λ (w : Task). In (task_names w) r) a.1 i)
              | inr a ↦ kid h (subst (λ (w : Task). In (task_names w) r) a.1 i)
            ]
          ]
        where
          kid : (g : ℕ) → In (task_names (child t (x.depth + 1) g x.top)) r → P' r
          kid g i = elim (register_cases x.top [] r i) [ inl j ↦ held_up x r is (top r j) | inr none ↦ absurd none ]

      joined' : (parent l : ℕ) (xp xl xr : Task) (rl rr : ℤ × Option Name) → slice_get m.tasks parent ≡ Some xp → slice_get m.tasks l ≡ Some xl → slice_get m.tasks (l + 1) ≡ Some xr
          → xl.parent ≡ Some parent → is_joined (Some xl) ≡ false → ((r : Name) → rl.1 ≡ Some r → In (task_names xl) r) → ((r : Name) → rr.1 ≡ Some r → In (task_names xr) r)
          → (u : ℕ) (z : Task) (r : Name) → slice_get (slice_set (slice_set (slice_set m.tasks l (joined_task xl)) (l + 1) (joined_task xr)) parent (resumed xp rl rr)) u ≡ Some z → In (task_names z) r → P' r
      joined' parent l xp xl xr rl rr ip il ir pl dl nl nr u z r e i =
          let w : waiting m.tasks parent ≡ true = K.tree.waits l parent (ap parent_of il ∙ pl) (ap is_joined il ∙ dl) in
          let status : xp.status ≡ Waiting = waits_is xp.status (ap is_waiting (sym ip) ∙ w) in
          elim (three_cases m.tasks l parent (joined_task xl) (joined_task xr) (resumed xp rl rr) u z e) [
            | inl top ↦ elim (resumed_names xp rl rr r status (subst (λ (w : Task). In (task_names w) r) top.1 i)) [
              | inl old ↦ up r (I.of_task parent xp r ip old)
              | inr res ↦ elim res [ inl a ↦ up r (I.of_task l xl r il (nl r a)) | inr a ↦ up r (I.of_task (l + 1) xr r ir (nr r a)) ]
            ]
            | inr rest ↦ elim rest [
              | inl a ↦ absurd (joined_names xr z r a i)
              | inr more ↦ elim more [ inl a ↦ absurd (joined_names xl z r a i) | inr old ↦ up r (I.of_task u z r old i) ]
            ]
          ]
