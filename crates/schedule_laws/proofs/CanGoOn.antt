-- A run that hasn't ended can continue.
use Rattle.schedule_laws.proofs.Common.{◌≡◌, ℕ, ◌+◌, ◌≤◌, Bool, true, false, cond, Option, Some, None, List, [], ◌∷◌, ◌++◌, slice_get, ◌⊎◌, inl, inr, refl, ap, sym, subst, ◌∙◌, arith, option_map, cases_Bool, In, in_append_left, ProgramText, Edge, End, Done, MachineState, Precedes, can_step, run, run_from, start, step, run_on, run_push, run_is_fork_join_state, step_idle, can_task, FieldAccess, next_access, accesses_from, task_access, with_some, Begun, begun_running, run_keeps, end_to, fork_join_here, EveryRunGoesOn, turns_from}
use Rattle.schedule_laws.proofs.Fronts.{access_strand}
use Rattle.schedule_laws.proofs.Schedules.{comes, whole}
use Rattle.schedule_laws.proofs.Splits.{InOrder, from_order, in_some}

module _ (p : ProgramText) where
  some_append : (o : Option FieldAccess) (xs ys : List FieldAccess) → with_some o (xs ++ ys) ≡ with_some o xs ++ ys
  some_append None xs ys = refl
  some_append (Some a) xs ys = refl

  accesses_append : (m : MachineState) (us more : List ℕ) → accesses_from p m (us ++ more) ≡ accesses_from p m us ++ accesses_from p (run_from p m us) more
  accesses_append m [] more = refl
  accesses_append m (u ∷ us) more =
      ap (with_some (next_access p m u)) (accesses_append (step p m u) us more) ∙ some_append (next_access p m u) (accesses_from p (step p m u) us) (accesses_from p (run_from p (step p m u) us) more)

  turns_append : (m : MachineState) (us more : List ℕ) → turns_from p m (us ++ more) ≡ turns_from p m us + turns_from p (run_from p m us) more
  turns_append m [] more = omega arith
  turns_append m (u ∷ us) more = ap (λ k. cond (can_step m u) (k + 1) k) (turns_append (step p m u) us more) ∙ turns_append_by_cases (can_step m u)
    where
      turns_append_by_cases : (b : Bool) → cond b (turns_from p (step p m u) us + turns_from p (run_from p (step p m u) us) more + 1) (turns_from p (step p m u) us + turns_from p (run_from p (step p m u) us) more)
          ≡ cond b (turns_from p (step p m u) us + 1) (turns_from p (step p m u) us) + turns_from p (run_from p (step p m u) us) more
      turns_append_by_cases true = omega arith
      turns_append_by_cases false = refl

  -- one of the steps of the ended run can be taken first
  pub record Goes (m : MachineState) (more : List ℕ) : Type 0 where
    pub t : ℕ
    pub can : can_step m t ≡ true
    pub some : 1 ≤ turns_from p m more

  goes : (m : MachineState) (more : List ℕ) (e : End) → m.end ≡ None → (run_from p m more).end ≡ Some e → Goes m more
  goes m [] e none is = absurd (let h : None ≡ Some e = sym none ∙ is in cc)
  goes m (t ∷ more) e none is = elim (cases_Bool (can_step m t)) [
    | inl can ↦
        let one : turns_from p m (t ∷ more) ≡ turns_from p (step p m t) more + 1 = ap (λ b. cond b (turns_from p (step p m t) more + 1) (turns_from p (step p m t) more)) can in
        record { t = t; can = can; some = omega arith }
    | inr idle ↦
        let same : step p m t ≡ m = step_idle p m t idle in
        let G = goes m more e none (ap (λ w. (run_from p w more).end) (sym same) ∙ is) in
        let none_more : turns_from p m (t ∷ more) ≡ turns_from p m more = ap (λ b. cond b (turns_from p (step p m t) more + 1) (turns_from p (step p m t) more)) idle ∙ ap (λ w. turns_from p w more) same in
        let least : 1 ≤ turns_from p m more = G.some in
        record { t = G.t; can = G.can; some = omega arith }
  ]

order_front : (es : List Edge) (xs ys : List FieldAccess) → InOrder es (xs ++ ys) → InOrder es xs
order_front es [] ys h = tt
order_front es (x ∷ xs) ys h = ((λ b i c. h.0 b (in_append_left xs ys b i) c), order_front es xs ys h.1)

order_edges : (es es' : List Edge) (xs : List FieldAccess) → ((a b : FieldAccess) → In xs b → Precedes es a.strand b.strand → Precedes es' a.strand b.strand) → InOrder es xs → InOrder es' xs
order_edges es es' [] each h = tt
order_edges es es' (x ∷ xs) each h = ((λ b i c. each x b (inr i) (h.0 b i c)), order_edges es es' xs (λ a b i. each a b (inr i)) h.1)

module _ (p : ProgramText) (limit : ℕ) where
  -- the strand of an access has begun
  begun : (us hs : List ℕ) (b : FieldAccess) → In (accesses_from p (run p limit hs) us) b → Begun (run_from p (run p limit hs) us) b.strand
  begun [] hs b i = absurd i
  begun (u ∷ us) hs b i = elim (in_some (next_access p (run p limit hs) u) (accesses_from p (step p (run p limit hs) u) us) b i) [
    | inr j ↦
        let push : run p limit (hs ++ u ∷ []) ≡ step p (run p limit hs) u = run_push p (start p limit) hs u in
        subst (λ (w : MachineState). Begun (run_from p w us) b.strand) push (begun us (hs ++ u ∷ []) b (subst (λ (w : MachineState). In (accesses_from p w us) b) (sym push) j))
    | inl e ↦ (run_keeps p (run p limit hs) (u ∷ us) (fork_join_here p limit hs)).begun b.strand (first hs u b e (cases_Bool (can_step (run p limit hs) u)))
  ]
    where
      first : (hs : List ℕ) (u : ℕ) (b : FieldAccess) → next_access p (run p limit hs) u ≡ Some b → (can_step (run p limit hs) u ≡ true) ⊎ (can_step (run p limit hs) u ≡ false) → Begun (run p limit hs) b.strand
      first hs u b e (inl can) =
          let y = can_task (run p limit hs) u can in
          subst (Begun (run p limit hs)) (sym (access_strand p limit hs u can b e)) (begun_running (run p limit hs) u y.0 (record { is = y.1; running = y.2 }))
      first hs u b e (inr idle) =
          absurd (let h : None ≡ Some b = sym (ap (λ w. cond w (task_access p (run p limit hs) u (slice_get (run p limit hs).tasks u)) None) idle) ∙ e in cc)

pub every_run_goes_on : EveryRunGoesOn
every_run_goes_on p limit ts us S none =
    let m = run p limit us in
    let r = comes p limit us [] ts (whole p limit ts S) in
    let more = r.0 in
    let C = r.1 in
    let there : run_from p (start p limit) (us ++ more) ≡ run_from p m more = run_on p us more (start p limit) in
    let done : (run_from p m more).end ≡ Some Done = ap (λ (w : MachineState). w.end) (sym there) ∙ (C.alike.end ∙ ap (option_map (end_to C.f)) S.done) in
    let G = goes p m more Done none done in
    let all : turns_from p (start p limit) us + turns_from p m more ≡ turns_from p (start p limit) ts = sym (turns_append p (start p limit) us more) ∙ C.turned in
    let least : 1 ≤ turns_from p m more = G.some in
    let K = fork_join_here p limit us in
    let K' = run_is_fork_join_state p m more K in
    let later : InOrder (run_from p m more).edges (accesses_from p (start p limit) us) =
    order_front (run_from p m more).edges (accesses_from p (start p limit) us) (accesses_from p m more)
    (subst (λ xs. InOrder (run_from p m more).edges xs) (accesses_append p (start p limit) us more) (subst (λ (w : MachineState). InOrder w.edges (accesses_from p (start p limit) (us ++ more))) there C.order)) in
    record {
      t = G.t;
      can = G.can;
      fewer = omega arith;
      ordered =
          from_order m.edges (accesses_from p (start p limit) us)
          (order_edges (run_from p m more).edges m.edges (accesses_from p (start p limit) us)
          (λ a b i w. (K.tree.right a.strand b.strand).0 (sym ((run_keeps p m more K).fixed a.strand b.strand (begun p limit us [] b i)) ∙ (K'.tree.right a.strand b.strand).1 w)) later);
    }
