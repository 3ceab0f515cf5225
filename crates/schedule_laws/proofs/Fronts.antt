-- A step that can be taken now moves to the front of a run in order, with the same result.
use Rattle.schedule_laws.proofs.Common.{◌≡◌, ℕ, suc, ◌+◌, ◌<◌, ◌≤◌, Bool, true, false, cond, Option, Some, None, List, [], ◌∷◌, ◌++◌, length, map, slice_get, ◌⊎◌, inl, inr, refl, ap, sym, subst, ◌∙◌, arith, option_map, cases_Bool, cases_eq, same_Some, In, got_within, in_append_right, Instr, Getr, Geti, Putr, Puti, Cas, Line, ProgramText, Name, Strand, Edge, Object, Task, End, Done, Trapped, Entangled, MachineState, Counted, Effect, Goes, Prints, Calls, Forks, Returns, Traps, Stops, effect, object_at, Precedes, can_step, fetched, is_running, owner_of, run, run_from, setting, start, step, strand_of, IsForkJoinState, counted_step, run_push, ended_stays, step_is_fork_join_state, runs_have_one_root, step_cases, names_are_stored, can_made, can_runs, step_idle, can_task, can_going, Field, FieldAccess, next_access, accesses_from, line_access, task_access, with_some, IsRenaming, end_to, AreRenamed, Reaches, counted_here, fork_join_here, run_grows, run_to, step_grows, itself, access_to, Clash, Print, line_print, print_by, print_of, prints_from, task_print, turns_from, AreBeside, Commutes, EndAlike, LeavesStep}
use Rattle.schedule_laws.proofs.Accessed.{found_at}
use Rattle.schedule_laws.proofs.Carrying.{Carried, carried, print_to}
use Rattle.schedule_laws.proofs.Commute.{even_same, steps_commute}
use Rattle.schedule_laws.proofs.Commuting.{even_alike}
use Rattle.schedule_laws.proofs.Composed.{alike_then, renaming_then, then}
use Rattle.schedule_laws.proofs.Leaving.{can_there, clashes_stay, steps_leave_steps}
use Rattle.schedule_laws.proofs.SideBySide.{running_tasks_are_apart}
use Rattle.schedule_laws.proofs.Splits.{InOrder, Split, split_next}

-- two prints of one strand, or of ordered strands
abbrev pub Near : List Edge → Print → Print → Type 0
Near es a b = (a.strand ≡ b.strand) ⊎ Precedes es a.strand b.strand

-- from m a run has this end with these accesses, prints and turns; and so it has with u's step first, except for
-- numbers of tasks
pub record Fronted (p : ProgramText) (m : MachineState) (u : ℕ) (end : MachineState) (all : List FieldAccess) (said : List Print) (turns : ℕ) : Type 0 where
  pub rest : List ℕ
  pub f : ℕ → ℕ
  pub g : ℕ → ℕ
  pub renaming : IsRenaming (length end.tasks) f g
  pub old : (v : ℕ) → v < length m.tasks → f v ≡ v
  pub alike : AreRenamed f end (run_from p (step p m u) rest)
  pub accesses : Split access_to Clash f all (next_access p m u) (accesses_from p (step p m u) rest)
  pub prints : Split print_to (Near end.edges) f said (print_of p m u) (prints_from p (step p m u) rest)
  pub turned : turns ≡ turns_from p (step p m u) rest + 1

map_fixed : {X : Type 0} (h : X → X) → ((x : X) → h x ≡ x) → (xs : List X) → xs ≡ map h xs
map_fixed h each [] = refl
map_fixed h each (x ∷ xs) = let a = sym (each x) in let b = map_fixed h each xs in λ i. a i ∷ b i

-- the step that ends a run by the return of main is the root's
done_root : (p : ProgramText) (m : MachineState) (t : ℕ) → IsForkJoinState m → m.end ≡ None → (step p m t).end ≡ Some Done → (x : Task) × (slice_get m.tasks t ≡ Some x) × (x.parent ≡ None)
done_root p m t K going =
    step_cases p m t K (λ m'. m'.end ≡ Some Done → (x : Task) × (slice_get m.tasks t ≡ Some x) × (x.parent ≡ None)) not_yet
    (λ x e is run why h. absurd (elim (why) [
      | inl z ↦ (let q : Some (Trapped z.0 t z.1) ≡ Some Done = ap Some (sym z.2) ∙ h in cc)
      | inr z ↦ (let q : Some (Entangled t (owner_of m.tasks z.0.task)) ≡ Some Done = ap Some (sym z.3) ∙ h in cc)
    ]))
    (λ x y store outs is run ep ed es ej names fields alters grows. not_yet)
    (λ x parent e is run pp which result h. elim (which) [
      | inl z ↦ (x, is, pp ∙ z.0)
      | inr z ↦ not_yet (sym z.1 ∙ h)
    ])
    (λ x g h is run next top. not_yet)
    (λ parent l xp xl xr rl rr ip il ir pl left dl dr wl wr nl nr side. not_yet)
  where
    not_yet : m.end ≡ Some Done → (x : Task) × (slice_get m.tasks t ≡ Some x) × (x.parent ≡ None)
    not_yet h = absurd (let q : None ≡ Some Done = sym going ∙ h in cc)

none_or : (o : Option End) → (o ≡ None) ⊎ ((e : End) × (o ≡ Some e))
none_or None = inl refl
none_or (Some e) = inr (e, refl)

module _ (p : ProgramText) (limit : ℕ) (hs : List ℕ) where
  abbrev m : MachineState
  m = run p limit hs

  -- no step concurrent to another task's ends the run by the return of main
  lone : (t u : ℕ) → (t ≡ u → ⊥) → can_step m t ≡ true → can_step m u ≡ true → (step p m t).end ≡ Some Done → ⊥
  lone t u two can_t can_u done =
      let R = runs_have_one_root p limit hs in
      let x = done_root p m t (fork_join_here p limit hs) (can_going m t can_t) done in
      let zero_t : t ≡ 0 = R.only t x.0 x.1 x.2 in
      let zero_u : u ≡ 0 = R.alone u (ap (λ k. is_running (slice_get m.tasks k)) (sym zero_t) ∙ can_runs m t can_t) (can_runs m u can_u) in
      two (zero_t ∙ sym zero_u)

  -- an access names tasks that exist
  pub access_low : (f : ℕ → ℕ) → ((v : ℕ) → v < length m.tasks → f v ≡ v) → (t : ℕ) → can_step m t ≡ true → (a : FieldAccess) → next_access p m t ≡ Some a → access_to f a ≡ a
  access_low f old t can a ia =
      let x = can_task m t can in
      let N = names_are_stored p limit hs in
      let z = access_low_by_cases x.0 x.1 x.2 (fetched p x.0.top) refl in
      let s : f a.strand.task ≡ a.strand.task = old a.strand.task z.0 in
      let n : f a.field.name.task ≡ a.field.name.task = old a.field.name.task z.1 in
      λ i. record a { strand = record a.strand { task = s i }; field = record a.field { name = record a.field.name { task = n i } } }
    where
      stored : (n : Name) (o : Object) → object_at m.store n ≡ Some o → n.task < length m.tasks
      stored n o is = let k = (fork_join_here p limit hs).store_of n o is in subst (λ j. j < length m.tasks) k.0 k.1.0

      access_low_by_cases : (x : Task) → slice_get m.tasks t ≡ Some x → is_running (Some x) ≡ true → (o : Option Line) → fetched p x.top ≡ o → (a.strand.task < length m.tasks) × (a.field.name.task < length m.tasks)
      access_low_by_cases x is run None next = absurd (let h : None ≡ Some a = sym (ap (λ b. cond b (task_access p m t (slice_get m.tasks t)) None) can ∙ (ap (task_access p m t) is ∙ ap (line_access m t x) next)) ∙ ia in cc)
      access_low_by_cases x is run (Some line) next =
          let F = found_at p m (names_are_stored p limit hs) t x line (record { can = can; is = is; running = run; next = next }) a ia in
          let there = reach_object line.instr F.number F.name F.at F.reach in (
            subst (λ (w : Strand). w.task < length m.tasks) (sym F.strand) (got_within m.tasks t x is),
            subst (λ (w : Field). w.name.task < length m.tasks) (sym F.field) (stored F.name there.0 there.1),
          )
        where
          reach_object : (i : Instr) (b : Bool) (n : Name) (at : ℕ) → Reaches (setting m t x) x.top m.store i b n at → (o : Object) × (object_at m.store n ≡ Some o)
          reach_object (Getr d o k) b n at r = (r.object, r.is)
          reach_object (Geti d o k) b n at r = (r.object, r.is)
          reach_object (Putr o k v) b n at r = (r.object, r.is)
          reach_object (Puti o k v) b n at r = (r.object, r.is)
          reach_object (Cas d o k e v) b n at r = (r.object, r.is)
          reach_object _ b n at r = absurd r

  -- the strand of a task's step
  pub access_strand : (t : ℕ) (can : can_step m t ≡ true) (a : FieldAccess) → next_access p m t ≡ Some a → a.strand ≡ strand_of t (can_task m t can).0
  access_strand t can a ia = access_strand_by_cases (fetched p x.0.top) refl
    where
      x : (y : Task) × (slice_get m.tasks t ≡ Some y) × (is_running (Some y) ≡ true)
      x = can_task m t can

      access_strand_by_cases : (o : Option Line) → fetched p x.0.top ≡ o → a.strand ≡ strand_of t x.0
      access_strand_by_cases None next = absurd (let h : None ≡ Some a = sym (ap (λ b. cond b (task_access p m t (slice_get m.tasks t)) None) can ∙ (ap (task_access p m t) x.1 ∙ ap (line_access m t x.0) next)) ∙ ia in cc)
      access_strand_by_cases (Some line) next = (found_at p m (names_are_stored p limit hs) t x.0 line (record { can = can; is = x.1; running = x.2; next = next }) a ia).strand

  print_strand : (t : ℕ) (can : can_step m t ≡ true) (a : Print) → print_of p m t ≡ Some a → a.strand ≡ strand_of t (can_task m t can).0
  print_strand t can a ia = by_line (fetched p x.0.top) (sym (ap (λ b. cond b (task_print p m t (slice_get m.tasks t)) None) can ∙ ap (task_print p m t) x.1) ∙ ia)
    where
      x : (y : Task) × (slice_get m.tasks t ≡ Some y) × (is_running (Some y) ≡ true)
      x = can_task m t can

      by_effect : (e : Effect) → print_by (strand_of t x.0) e ≡ Some a → a.strand ≡ strand_of t x.0
      by_effect (Prints k) h = ap (λ (w : Print). w.strand) (sym (same_Some _ a h))
      by_effect (Goes f st) h = absurd cc
      by_effect (Calls k) h = absurd cc
      by_effect (Forks k l) h = absurd cc
      by_effect Returns h = absurd cc
      by_effect (Traps k) h = absurd cc
      by_effect (Stops k) h = absurd cc

      by_line : (o : Option Line) → line_print m t x.0 o ≡ Some a → a.strand ≡ strand_of t x.0
      by_line None h = absurd cc
      by_line (Some line) h = by_effect (effect (setting m t x.0) x.0.top m.store line.instr) h

  pub print_low : (f : ℕ → ℕ) → ((v : ℕ) → v < length m.tasks → f v ≡ v) → (t : ℕ) → can_step m t ≡ true → (a : Print) → print_of p m t ≡ Some a → print_to f a ≡ a
  print_low f old t can a ia =
      let s : f a.strand.task ≡ a.strand.task = old a.strand.task (subst (λ (w : Strand). w.task < length m.tasks) (sym (print_strand t can a ia)) (can_made m t can)) in
      λ i. record a { strand = record a.strand { task = s i } }

  -- strands of concurrent tasks are unordered
  unordered : (ts : List ℕ) (t u : ℕ) (two : t ≡ u → ⊥) (can_t : can_step m t ≡ true) (can_u : can_step m u ≡ true) → Precedes (run_from p m ts).edges (strand_of t (can_task m t can_t).0) (strand_of u (can_task m u can_u).0) → ⊥
  unordered ts t u two can_t can_u =
      let x = can_task m t can_t in
      let y = can_task m u can_u in
      running_tasks_are_apart p limit hs ts t u x.0 y.0 two (record { is = x.1; running = x.2 }) (record { is = y.1; running = y.2 })

  abbrev pub Front : List ℕ → ℕ → Type 0
  Front ts u = Fronted p m u (run_from p m ts) (accesses_from p m ts) (prints_from p m ts) (turns_from p m ts)

end_none : (o : Option End) → EndAlike o None → o ≡ None
end_none None h = refl
end_none (Some Done) h = absurd h
end_none (Some (Trapped kind t line)) h = absurd h
end_none (Some (Entangled reader owner)) h = absurd h

end_done : (o : Option End) → EndAlike o (Some Done) → o ≡ Some Done
end_done None h = absurd h
end_done (Some Done) h = refl
end_done (Some (Trapped kind t line)) h = absurd h
end_done (Some (Entangled reader owner)) h = absurd h

module _ (p : ProgramText) (limit : ℕ) (hs ts : List ℕ) (t u : ℕ) (two : t ≡ u → ⊥) (can_t : can_step (run p limit hs) t ≡ true) (can_u : can_step (run p limit hs) u ≡ true)
    (done : (run_from p (run p limit hs) (t ∷ ts)).end ≡ Some Done) (order : InOrder (run_from p (run p limit hs) (t ∷ ts)).edges (accesses_from p (run p limit hs) (t ∷ ts))) where
  abbrev n0 : MachineState
  n0 = run p limit hs

  abbrev n1 : MachineState
  n1 = step p n0 t

  abbrev n2 : MachineState
  n2 = step p n0 u

  abbrev n12 : MachineState
  n12 = step p n1 u

  abbrev n21 : MachineState
  n21 = step p n2 t

  pub going_first : n1.end ≡ None
  going_first = elim (none_or n1.end) [
    | inl e ↦ e
    | inr z ↦ absurd (lone p limit hs t u two can_t can_u (ap (λ (w : MachineState). w.end) (sym (ended_stays p n1 ts z.0 z.1)) ∙ done))
  ]

  module _ (F : Fronted p n1 u (run_from p n1 ts) (accesses_from p n1 ts) (prints_from p n1 ts) (turns_from p n1 ts)) where
    free : (a b : FieldAccess) → next_access p n0 t ≡ Some a → next_access p n0 u ≡ Some b → Clash a b → ⊥
    free a b ia ib C =
        let c = clashes_stay p limit hs t u a b two can_t can_u going_first ia ib C in
        let within : In (accesses_from p n1 ts) c.0 =
        subst (λ xs. In xs c.0) (sym (F.accesses.whole ∙ ap (λ o. F.accesses.front ++ with_some o F.accesses.back) c.1)) (in_append_right F.accesses.front (c.0 ∷ F.accesses.back) c.0 (inl refl)) in
        let ordered = subst (λ o. InOrder (run_from p n0 (t ∷ ts)).edges (with_some o (accesses_from p n1 ts))) ia order in
        let w : Precedes (run_from p n0 (t ∷ ts)).edges a.strand c.0.strand = ordered.0 c.0 within c.2 in
        unordered p limit hs (t ∷ ts) t u two can_t can_u
        (subst (Precedes (run_from p n0 (t ∷ ts)).edges (strand_of t (can_task n0 t can_t).0)) (c.3 ∙ access_strand p limit hs u can_u b ib)
        (subst (λ s. Precedes (run_from p n0 (t ∷ ts)).edges s c.0.strand) (access_strand p limit hs t can_t a ia) w))

    B : AreBeside p n0 t u
    B = record { two = two; first = can_t; second = can_u; free = free }

    Lu : LeavesStep p n0 t u
    Lu = steps_leave_steps p limit hs t u B going_first

    going_second : n2.end ≡ None
    going_second = elim (none_or n12.end) [
      | inl e ↦ end_none n2.end (subst (EndAlike n2.end) e Lu.ends)
      | inr z ↦
          let last : n12.end ≡ Some Done = ap (λ (w : MachineState). w.end) (sym (ended_stays p n12 F.rest z.0 z.1)) ∙ (F.alike.end ∙ ap (option_map (end_to F.f)) done) in
          absurd (lone p limit hs u t (λ e. two (sym e)) can_u can_t (end_done n2.end (subst (EndAlike n2.end) last Lu.ends)))
    ]

    B' : AreBeside p n0 u t
    B' = record { two = λ e. two (sym e); first = can_u; second = can_t; free = λ b a ib ia C. free a b ia ib (record { field = sym C.field; writes = elim (C.writes) [ inl w ↦ inr w | inr w ↦ inl w ] }) }

    Lt : LeavesStep p n0 u t
    Lt = steps_leave_steps p limit hs u t B' going_second

    C0 : Commutes p n0 t u
    C0 = steps_commute p limit hs t u B going_first going_second

    abbrev f0 : ℕ → ℕ
    f0 = C0.f

    abbrev j : ℕ → ℕ
    j = then F.f C0.f

    K0 : IsForkJoinState n0
    K0 = fork_join_here p limit hs

    K1 : IsForkJoinState n1
    K1 = step_is_fork_join_state p n0 t K0

    K2 : IsForkJoinState n2
    K2 = step_is_fork_join_state p n0 u K0

    I12 : Counted (suc (suc (length hs))) n12.tasks n12.store
    I12 = counted_step p n1 u K1 (suc (length hs)) (counted_step p n0 t K0 (length hs) (counted_here p limit hs))

    I21 : Counted (suc (suc (length hs))) n21.tasks n21.store
    I21 = counted_step p n2 t K2 (suc (length hs)) (counted_step p n0 u K0 (length hs) (counted_here p limit hs))

    over : AreRenamed f0 (run_from p n12 F.rest) (run_from p n21 (map f0 F.rest))
    over = run_to p (length n12.tasks) f0 f0 C0.renaming F.rest n12 n21 (suc (suc (length hs))) (suc (suc (length hs))) (step_is_fork_join_state p n1 u K1) (step_is_fork_join_state p n2 t K2) I12 I21 (omega arith) C0.alike

    made : Carried p (length n12.tasks) f0 f0 C0.renaming n12 n21 F.rest
    made = carried p (length n12.tasks) f0 f0 C0.renaming F.rest n12 n21 (suc (suc (length hs))) (suc (suc (length hs))) (step_is_fork_join_state p n1 u K1) (step_is_fork_join_state p n2 t K2) I12 I21 (omega arith) C0.alike

    stays : (v : ℕ) → v < length n0.tasks → j v ≡ v
    stays v lt = let grown = step_grows p n0 t K0 in ap f0 (F.old v (omega arith)) ∙ C0.old v lt

    prints_apart : (a b : Print) → print_of p n0 t ≡ Some a → print_of p n0 u ≡ Some b → Near (run_from p n0 (t ∷ ts)).edges a b → ⊥
    prints_apart a b ia ib (inl e) = two (ap (λ (s : Strand). s.task) (sym (print_strand p limit hs t can_t a ia) ∙ (e ∙ print_strand p limit hs u can_u b ib)))
    prints_apart a b ia ib (inr w) =
        unordered p limit hs (t ∷ ts) t u two can_t can_u
        (subst (Precedes (run_from p n0 (t ∷ ts)).edges (strand_of t (can_task n0 t can_t).0)) (print_strand p limit hs u can_u b ib)
        (subst (λ s. Precedes (run_from p n0 (t ∷ ts)).edges s b.strand) (print_strand p limit hs t can_t a ia) w))

    pub exchanged : Front p limit hs (t ∷ ts) u
    exchanged =
        let wide : length n12.tasks ≤ length (run_from p n1 ts).tasks = omega (arith, run_grows p n12 F.rest (step_is_fork_join_state p n1 u K1), F.alike.count) in
        record {
          rest = t ∷ map f0 F.rest;
          f = j;
          g = then f0 F.g;
          renaming = renaming_then (length (run_from p n1 ts).tasks) (length (run_from p n1 ts).tasks) (length n12.tasks) F.f F.g f0 f0 F.renaming C0.renaming (omega arith) wide;
          old = stays;
          alike = alike_then F.f f0 (run_from p n1 ts) (run_from p n12 F.rest) (run_from p n21 (map f0 F.rest)) F.alike over;
          accesses =
              subst (λ o. Split access_to Clash j (accesses_from p n0 (t ∷ ts)) (next_access p n0 u) (with_some o (accesses_from p n21 (map f0 F.rest)))) (sym Lt.access)
              (split_next access_to Clash F.f f0 j (λ a. refl) (accesses_from p n1 ts) (accesses_from p n12 F.rest) (next_access p n0 u) (next_access p n1 u) (next_access p n0 t) (accesses_from p n21 (map f0 F.rest)) F.accesses Lu.access made.accesses
              (access_low p limit hs j stays t can_t) free);
          prints =
              subst (λ o. Split print_to (Near (run_from p n0 (t ∷ ts)).edges) j (prints_from p n0 (t ∷ ts)) (print_of p n0 u) (with_some o (prints_from p n21 (map f0 F.rest)))) (sym Lt.print)
              (split_next print_to (Near (run_from p n0 (t ∷ ts)).edges) F.f f0 j (λ a. refl) (prints_from p n1 ts) (prints_from p n12 F.rest) (print_of p n0 u) (print_of p n1 u) (print_of p n0 t) (prints_from p n21 (map f0 F.rest)) F.prints Lu.print made.prints
              (print_low p limit hs j stays t can_t) prints_apart);
          turned =
              ap (λ b. cond b (turns_from p n1 ts + 1) (turns_from p n1 ts)) can_t
              ∙ ap (λ k. k + 1) (F.turned ∙ sym (ap (λ b. cond b (turns_from p n21 (map f0 F.rest) + 1) (turns_from p n21 (map f0 F.rest))) Lt.can ∙ ap (λ k. k + 1) made.turns));
        }

-- a task that can take a step can take it after another's
can_beside : (p : ProgramText) (limit : ℕ) (hs : List ℕ) (t u : ℕ) → (t ≡ u → ⊥) → can_step (run p limit hs) t ≡ true → can_step (run p limit hs) u ≡ true → (step p (run p limit hs) t).end ≡ None → can_step (step p (run p limit hs) t) u ≡ true
can_beside p limit hs t u two can_t can_u going1 = let y = can_task (run p limit hs) u can_u in can_there p limit hs t u two can_t can_u going1 y.0 y.1 y.2

module _ (p : ProgramText) (limit : ℕ) where
  -- its own step is already first
  own : (m : MachineState) (u : ℕ) (ts : List ℕ) → can_step m u ≡ true → Fronted p m u (run_from p m (u ∷ ts)) (accesses_from p m (u ∷ ts)) (prints_from p m (u ∷ ts)) (turns_from p m (u ∷ ts))
  own m u ts can = record {
    rest = ts;
    f = itself;
    g = itself;
    renaming = record { back = λ t. refl; forth = λ t. refl; root = refl; beyond = λ t le. refl; sides = λ t. refl; siblings = λ t. refl };
    old = λ v lt. refl;
    alike = even_alike (run_from p (step p m u) ts) (run_from p (step p m u) ts) (even_same (run_from p (step p m u) ts) (run_from p (step p m u) ts) refl);
    accesses = record { front = []; back = accesses_from p (step p m u) ts; whole = refl; moved = map_fixed (access_to itself) (λ a. refl) (accesses_from p (step p m u) ts); free = λ a b i e bad. absurd i };
    prints = record { front = []; back = prints_from p (step p m u) ts; whole = refl; moved = map_fixed (print_to itself) (λ a. refl) (prints_from p (step p m u) ts); free = λ a b i e bad. absurd i };
    turned = ap (λ b. cond b (turns_from p (step p m u) ts + 1) (turns_from p (step p m u) ts)) can;
  }

  -- a step that can't be taken changes nothing
  idle : (m : MachineState) (t u : ℕ) (ts : List ℕ) → can_step m t ≡ false → Fronted p m u (run_from p m ts) (accesses_from p m ts) (prints_from p m ts) (turns_from p m ts)
      → Fronted p m u (run_from p m (t ∷ ts)) (accesses_from p m (t ∷ ts)) (prints_from p m (t ∷ ts)) (turns_from p m (t ∷ ts))
  idle m t u ts idle_now F =
      let e : step p m t ≡ m = step_idle p m t idle_now in
      let es : run_from p m (t ∷ ts) ≡ run_from p m ts = ap (λ w. run_from p w ts) e in
      let ea : accesses_from p m (t ∷ ts) ≡ accesses_from p m ts = ap (λ o. with_some o (accesses_from p (step p m t) ts)) (ap (λ b. cond b (task_access p m t (slice_get m.tasks t)) None) idle_now) ∙ ap (λ w. accesses_from p w ts) e in
      let ep : prints_from p m (t ∷ ts) ≡ prints_from p m ts = ap (λ o. with_some o (prints_from p (step p m t) ts)) (ap (λ b. cond b (task_print p m t (slice_get m.tasks t)) None) idle_now) ∙ ap (λ w. prints_from p w ts) e in
      let et : turns_from p m (t ∷ ts) ≡ turns_from p m ts = ap (λ b. cond b (turns_from p (step p m t) ts + 1) (turns_from p (step p m t) ts)) idle_now ∙ ap (λ w. turns_from p w ts) e in
      subst (λ w. Fronted p m u (run_from p m (t ∷ ts)) (accesses_from p m (t ∷ ts)) (prints_from p m (t ∷ ts)) w) (sym et)
      (subst (λ w. Fronted p m u (run_from p m (t ∷ ts)) (accesses_from p m (t ∷ ts)) w (turns_from p m ts)) (sym ep)
      (subst (λ w. Fronted p m u (run_from p m (t ∷ ts)) w (prints_from p m ts) (turns_from p m ts)) (sym ea)
      (subst (λ w. Fronted p m u w (accesses_from p m ts) (prints_from p m ts) (turns_from p m ts)) (sym es) F)))

  abbrev Fronts : List ℕ → List ℕ → Type 0
  Fronts hs ts =
      (u : ℕ) → can_step (run p limit hs) u ≡ true → (run_from p (run p limit hs) ts).end ≡ Some Done → InOrder (run_from p (run p limit hs) ts).edges (accesses_from p (run p limit hs) ts)
      → Front p limit hs ts u

  tail_order : (es : List Edge) (o : Option FieldAccess) (xs : List FieldAccess) → InOrder es (with_some o xs) → InOrder es xs
  tail_order es None xs h = h
  tail_order es (Some a) xs h = h.1

  next : (t : ℕ) (ts : List ℕ) → ((hs : List ℕ) → Fronts hs ts) → (hs : List ℕ) → Fronts hs (t ∷ ts)
  next t ts all hs u can done order = elim (cases_Bool (can_step (run p limit hs) t)) [
    | inr idle_now ↦
        let e : step p (run p limit hs) t ≡ (run p limit hs) = step_idle p (run p limit hs) t idle_now in
        let es : run_from p (run p limit hs) (t ∷ ts) ≡ run_from p (run p limit hs) ts = ap (λ w. run_from p w ts) e in
        let ea : accesses_from p (run p limit hs) (t ∷ ts) ≡ accesses_from p (run p limit hs) ts = ap (λ o. with_some o (accesses_from p (step p (run p limit hs) t) ts)) (ap (λ b. cond b (task_access p (run p limit hs) t (slice_get (run p limit hs).tasks t)) None) idle_now) ∙ ap (λ w. accesses_from p w ts) e in
        idle (run p limit hs) t u ts idle_now (all hs u can (ap (λ (w : MachineState). w.end) (sym es) ∙ done) (subst (λ xs. InOrder (run_from p (run p limit hs) ts).edges xs) ea (subst (λ (w : MachineState). InOrder w.edges (accesses_from p (run p limit hs) (t ∷ ts))) es order)))
    | inl can_t ↦ elim (cases_eq t u) [
      | inl e ↦ subst (λ k. Fronted p (run p limit hs) u (run_from p (run p limit hs) (k ∷ ts)) (accesses_from p (run p limit hs) (k ∷ ts)) (prints_from p (run p limit hs) (k ∷ ts)) (turns_from p (run p limit hs) (k ∷ ts))) (sym e) (own (run p limit hs) u ts can)
      | inr two ↦
          let push : run p limit (hs ++ t ∷ []) ≡ step p (run p limit hs) t = run_push p (start p limit) hs t in
          let going1 = going_first p limit hs ts t u two can_t can done order in
          let can1 : can_step (step p (run p limit hs) t) u ≡ true = can_beside p limit hs t u two can_t can going1 in
          let tail = tail_order (run_from p (run p limit hs) (t ∷ ts)).edges (next_access p (run p limit hs) t) (accesses_from p (step p (run p limit hs) t) ts) order in
          exchanged p limit hs ts t u two can_t can done order
          (subst (λ (w : MachineState). Fronted p w u (run_from p w ts) (accesses_from p w ts) (prints_from p w ts) (turns_from p w ts)) push
          (all (hs ++ t ∷ []) u (subst (λ (w : MachineState). can_step w u ≡ true) (sym push) can1) (subst (λ (w : MachineState). (run_from p w ts).end ≡ Some Done) (sym push) done)
          (subst (λ (w : MachineState). InOrder (run_from p w ts).edges (accesses_from p w ts)) (sym push) tail)))
    ]
  ]

  pub front : (ts hs : List ℕ) → Fronts hs ts
  front [] hs u can done order = absurd (let q : None ≡ Some Done = sym (can_going (run p limit hs) u can) ∙ done in cc)
  front (t ∷ ts) hs u can done order = next t ts (λ hs'. front ts hs') hs u can done order
