-- Every name that a task or a field holds is in the store.
use Rattle.path_laws.proofs.Common.{◌≡◌, ℕ, zero, suc, ◌+◌, Bool, true, false, Option, Some, None, List, [], ◌∷◌, ◌++◌, length, slice_get, slice_set, ◌⊎◌, inl, inr, refl, ap, sym, subst, ◌∙◌, arith, is_some, ◌<◌, false≢true, same_Some, In, in_from_contains, got_same, got_back, got_within, got_some, Instr, Set, Mov, Movr, Calc, Same, Jmp, Jz, Newm, Pack, Getr, Geti, Putr, Puti, Cntr, Cnti, Freeze, Cas, Call, Par, Ret, Out, Line, ProgramText, Name, Object, Frame, Task, Size, MachineState, Effect, StepContext, effect, made, row_of, object_at, counts_in, int_in, or_trap, refs_of, task_names, words_asked, words_for, setting, fetched, step, follow, root, start, run, run_from, can_step, asked, asked_line, IsStored, NamesAreStored, put_cases, made_cases, named_from_in, next_name, IsForkJoinState, start_is_fork_join_state, step_is_fork_join_state, empty_rows, Alters, step_cases, Closed, closed_step, asked_at, Counted, counted_step, start_counted, step_taken, step_idle, can_task}
use Rattle.hh_model.specs.below.hh_lang.{Nil as NilOf}
use Rattle.path_laws.proofs.Disentangled.{no_refs}
use Rattle.path_laws.proofs.Objects.{object_later}

-- an instruction that allocates adds an object
abbrev Makes : StepContext → Frame → List (List Object) → Effect → Type 0
Makes s f store e = (d : ℕ) × (o : Object) × (e ≡ made s f store d o)

newm_makes : (s : StepContext) (f : Frame) (store : List (List Object)) (o : Option (ℕ × ℕ)) (go : ℕ × ℕ → Effect) → is_some (words_for o) ≡ true → ((n : ℕ × ℕ) → Makes s f store (go n)) → Makes s f store (or_trap Size o go)
newm_makes s f store None go h each = absurd (false≢true h)
newm_makes s f store (Some n) go h each = each n

effect_makes : (s : StepContext) (f : Frame) (store : List (List Object)) (instr : Instr) → is_some (words_asked s.field_limit f instr) ≡ true → Makes s f store (effect s f store instr)
effect_makes s f store (Newm d a b) h = newm_makes s f store (counts_in s.field_limit (int_in f a) (int_in f b)) _ h (λ n. (d, _, refl))
effect_makes s f store (Pack d r i) h = (d, _, refl)
effect_makes s f store (Set d k) h = absurd (false≢true h)
effect_makes s f store (Mov d a) h = absurd (false≢true h)
effect_makes s f store (Movr d a) h = absurd (false≢true h)
effect_makes s f store (NilOf d) h = absurd (false≢true h)
effect_makes s f store (Calc op d a b) h = absurd (false≢true h)
effect_makes s f store (Same d a b) h = absurd (false≢true h)
effect_makes s f store (Jmp to) h = absurd (false≢true h)
effect_makes s f store (Jz a to) h = absurd (false≢true h)
effect_makes s f store (Getr d o k) h = absurd (false≢true h)
effect_makes s f store (Geti d o k) h = absurd (false≢true h)
effect_makes s f store (Putr o k v) h = absurd (false≢true h)
effect_makes s f store (Puti o k v) h = absurd (false≢true h)
effect_makes s f store (Cntr d o) h = absurd (false≢true h)
effect_makes s f store (Cnti d o) h = absurd (false≢true h)
effect_makes s f store (Freeze o) h = absurd (false≢true h)
effect_makes s f store (Cas d o k c v) h = absurd (false≢true h)
effect_makes s f store (Call g) h = absurd (false≢true h)
effect_makes s f store (Par g k) h = absurd (false≢true h)
effect_makes s f store Ret h = absurd (false≢true h)
effect_makes s f store (Out a) h = absurd (false≢true h)

-- the new object has the next name
pub made_here : (store : List (List Object)) (t : ℕ) (row : List Object) (o : Object) → slice_get store t ≡ Some row → object_at (slice_set store t (row_of (slice_get store t) ++ o ∷ [])) (next_name t store) ≡ Some o
made_here store t row o e =
    ap (λ w. slice_get (row_of w) (length (row_of (slice_get store t)))) (got_same store t row (row_of (slice_get store t) ++ o ∷ []) e)
    ∙ (ap (slice_get (row_of (slice_get store t) ++ o ∷ [])) (let h : length (row_of (slice_get store t)) ≡ length (row_of (slice_get store t)) + 0 = omega arith in h)
    ∙ got_back (row_of (slice_get store t)) (o ∷ []) 0)

module _ (p : ProgramText) (m : MachineState) (t : ℕ) (K : IsForkJoinState m) (rows : length m.store ≡ length m.tasks) where
  next_by : (x : Task) (o : Option Line) → can_step m t ≡ true → slice_get m.tasks t ≡ Some x → fetched p x.top ≡ o → is_some (asked_line m.field_limit x.top o) ≡ true → IsStored (step p m t) (next_name t m.store)
  next_by x None can is il h = absurd (false≢true h)
  next_by x (Some line) can is il h =
      let e = effect_makes (setting m t x) x.top m.store line.instr h in
      let lt : t < length m.store = let a : t < length m.tasks = got_within m.tasks t x is in omega arith in
      let row = got_some m.store t lt in (
        e.1,
        ap (λ (s : MachineState). object_at s.store (next_name t m.store)) (step_taken p m t x line can is il ∙ ap (follow m t x line.number) e.2) ∙ made_here m.store t row.0 e.1 row.1,
      )

  pub next_stored : can_step m t ≡ true → is_some (asked p m t) ≡ true → IsStored (step p m t) (next_name t m.store)
  next_stored can h =
      let x = can_task m t can in
      next_by x.0 (fetched p x.0.top) can x.1 refl (ap is_some (sym (asked_at p m t x.0 x.1 x.2)) ∙ h)

  stored_up : (n : Name) → IsStored m n → IsStored (step p m t) n
  stored_up n s = let l = object_later p m t K n s.0 s.1 in (l.0, l.1)

  abbrev WasOrNew : MachineState → Type 0
  WasOrNew m' = (n : Name) → IsStored m' n → IsStored m n ⊎ (n ≡ next_name t m.store)

  altered_down : (x : Task) (store : List (List Object)) (n : Name) (q : Object) → Alters p m t x store → object_at store n ≡ Some q → IsStored m n ⊎ (n ≡ next_name t m.store)
  altered_down x store n q (inl e) is = inl (q, ap (λ w. object_at w n) (sym e) ∙ is)
  altered_down x store n q (inr (line, il, inl e)) is = inl (q, ap (λ w. object_at w n) (sym e) ∙ is)
  altered_down x store n q (inr (line, il, inr (inl a))) is =
      elim (made_cases m.store t a.new n q (ap (λ w. object_at w n) (sym a.is) ∙ is)) [
        | inl h ↦ inr (λ i. record { task = h.0 i; count = h.1 i })
        | inr old ↦ inl (q, old)
      ]
  altered_down x store n q (inr (line, il, inr (inr w))) is =
      elim (put_cases m.store w.name w.new n q (ap (λ s. object_at s n) (sym w.is) ∙ is)) [
        | inl h ↦ inl (w.old, ap (object_at m.store) h.0 ∙ w.was)
        | inr old ↦ inl (q, old)
      ]

  stored_down : WasOrNew (step p m t)
  stored_down =
      step_cases p m t K WasOrNew stored_down_same (λ x e is run why. stored_down_same) (λ x y store outs is run ep ed es ej names fields alters grows n s. altered_down x store n s.0 alters s.1)
      (λ x parent e is run pp which result. stored_down_same) (λ x g h is run next top n s. inl (s.0, empty_rows m.store n.task n.count s.0 s.1))
      (λ parent l xp xl xr rl rr ip il ir pl left dl dr wl wr nl nr side. stored_down_same)
    where
      stored_down_same : WasOrNew m
      stored_down_same n s = inl s

  abbrev All : MachineState → Type 0
  All m' = Closed m'.tasks m'.store (IsStored m')

  stored_by : (b : Bool) → can_step m t ≡ b → All m → All (step p m t)
  stored_by true can I = closed_step p m t K (IsStored m) (IsStored (step p m t)) stored_up stored_down (next_stored can) I
  stored_by false can I = subst All (sym (step_idle p m t can)) I

  pub stored_step : All m → All (step p m t)
  stored_step I = stored_by (can_step m t) refl I

stored_from : (p : ProgramText) (m : MachineState) (ts : List ℕ) (k : ℕ) → IsForkJoinState m → Counted k m.tasks m.store → Closed m.tasks m.store (IsStored m) → Closed (run_from p m ts).tasks (run_from p m ts).store (IsStored (run_from p m ts))
stored_from p m [] k K I C = C
stored_from p m (t ∷ ts) k K I C = stored_from p (step p m t) ts (suc k) (step_is_fork_join_state p m t K) (counted_step p m t K k I) (stored_step p m t K I.rows C)

start_stored : (p : ProgramText) (limit : ℕ) → Closed (start p limit).tasks (start p limit).store (IsStored (start p limit))
start_stored p limit = record { of_task = no_names; of_object = λ n r s h. absurd (no_refs n.task n.count r h) }
  where
    no_names : (u : ℕ) (x : Task) (r : Name) → slice_get (start p limit).tasks u ≡ Some x → In (task_names x) r → IsStored (start p limit) r
    no_names zero x r e h = absurd (subst (λ (w : Task). In (task_names w) r) (sym (same_Some (root p) x e)) h)
    no_names (suc u) x r e h = absurd cc

pub run_stored : (p : ProgramText) (limit : ℕ) (ts : List ℕ) → Closed (run p limit ts).tasks (run p limit ts).store (IsStored (run p limit ts))
run_stored p limit ts = stored_from p (start p limit) ts 0 (start_is_fork_join_state p limit) (start_counted p limit) (start_stored p limit)

pub names_are_stored : NamesAreStored
names_are_stored p limit ts = record {
  named = λ t x n is h. (run_stored p limit ts).of_task t x n is (in_from_contains (task_names x) n h);
  in_fields = λ n r o is h.
      (run_stored p limit ts).of_object n r (o, is) (subst (λ w. In (refs_of w) r) (sym is) (named_from_in o.refs r (in_from_contains o.refs (Some r) h)));
}
