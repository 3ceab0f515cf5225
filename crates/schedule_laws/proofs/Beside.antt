-- The next step of a concurrent task sees the same after another task's step, except for the field that the other step
-- writes.
use Rattle.schedule_laws.proofs.Common.{◌≡◌, ℕ, suc, Bool, true, false, Some, None, List, [], ◌∷◌, length, slice_get, inl, inr, refl, ap, sym, subst, ◌∙◌, eq-eqb, ne_eqb, length-set, both_ways, cases_eq, eqb-true, In, got_other, Instr, Freeze, ProgramText, Name, Strand, Object, Task, MachineState, Disentangled, StepContext, effect, object_at, row_of, LeavesOwner, precedes, is_on_path, is_running, joined, owner_of, parents, setting, step, strand_of, NamesAreStoredIn, IsForkJoinState, joins_in, waiting, step_limit, leaves_owner, runs_tell, in_registers, names_run, runs_is, not_above, owner_here, FieldAccess, next_access, begun_running, run_keeps, Edit, Edits, Freezes, FreezesBy, Reaches, SetNumber, SetRef, edited, EffectAs, IsSame, SeesSame, effect_as}
use Rattle.schedule_laws.proofs.Accessed.{field_of, written_at}
use Rattle.schedule_laws.proofs.StoreSteps.{GoesBy, held, in_field, object_after}

same_length : {A : Type 0} (xs ys : List A) → ((k : ℕ) → slice_get xs k ≡ slice_get ys k) → length xs ≡ length ys
same_length [] [] h = refl
same_length [] (y ∷ ys) h = absurd (let e : None ≡ Some y = h 0 in cc)
same_length (x ∷ xs) [] h = absurd (let e : Some x ≡ None = h 0 in cc)
same_length (x ∷ xs) (y ∷ ys) h = ap suc (same_length xs ys (λ k. h (suc k)))

edit_strand : (e : Edit) (o : Object) → (edited e o).strand ≡ o.strand
edit_strand (SetRef at v) o = refl
edit_strand (SetNumber at k) o = refl
edit_strand Freezes o = refl

-- the next step of t doesn't write this field
abbrev pub Leaves : ProgramText → MachineState → ℕ → Bool → Name → ℕ → Type 0
Leaves p m t b n k = (a : FieldAccess) → next_access p m t ≡ Some a → a.field ≡ field_of b n k → a.writes ≡ true → ⊥

module _ (p : ProgramText) (m : MachineState) (K : IsForkJoinState m) (D : Disentangled m.tasks m.store) (N : NamesAreStoredIn m) (t u : ℕ) (two : t ≡ u → ⊥) (y : Task) (iu : slice_get m.tasks u ≡ Some y) (run_u : is_running (Some y) ≡ true) where
  abbrev m1 : MachineState
  m1 = step p m t

  runs_u : is_running (slice_get m.tasks u) ≡ true
  runs_u = ap is_running iu ∙ run_u

  pub leaves : LeavesOwner m m1 u
  leaves = leaves_owner p m t K D u (λ e. two (sym e)) runs_u

  pub task_there : slice_get m1.tasks u ≡ Some y
  task_there = leaves.task ∙ iu

  live_u : joined m.tasks u ≡ false
  live_u = (runs_tell (slice_get m.tasks u) runs_u).2

  abbrev s : StepContext
  s = setting m u y

  -- an object after t's step
  same_object : (n : Name) (o : Object) → (GoesBy p m N t (Edits n Freezes) → ⊥) → object_at m.store n ≡ Some o
      → (z : Object) × (object_at m1.store n ≡ Some z) × IsSame s m1.edges (owner_of m1.tasks) y.top m.store m1.store (Leaves p m t) n o z
  same_object n o thawed is = elim (object_after p m N t n o is) [
    | inl same ↦ (o, same, record { mutable = refl; refs = refl; ints = refl; ref_at = λ k may. refl; int_at = λ k may. refl })
    | inr more ↦ (edited more.0 o, more.2, same_object_by_cases more.0 more.1)
  ]
    where
      same_object_by_cases : (e : Edit) → GoesBy p m N t (Edits n e) → IsSame s m1.edges (owner_of m1.tasks) y.top m.store m1.store (Leaves p m t) n o (edited e o)
      same_object_by_cases (SetRef at v) g = record {
        mutable = refl;
        refs = length-set o.refs at v;
        ints = refl;
        ref_at = λ k may. (elim (cases_eq k at) [
          | inr ne ↦ got_other o.refs at k v ne
          | inl e ↦ (let w = written_at p m N t g.task g.line g.acting false n at g.by.1 in absurd (may w.0 w.1 (w.2 ∙ ap (field_of false n) (sym e)) w.3))
        ]);
        int_at = λ k may. refl;
      }
      same_object_by_cases (SetNumber at v) g = record {
        mutable = refl;
        refs = refl;
        ints = length-set o.ints at v;
        ref_at = λ k may. refl;
        int_at = λ k may. (elim (cases_eq k at) [
          | inr ne ↦ got_other o.ints at k v ne
          | inl e ↦ (let w = written_at p m N t g.task g.line g.acting true n at g.by.1 in absurd (may w.0 w.1 (w.2 ∙ ap (field_of true n) (sym e)) w.3))
        ]);
      }
      same_object_by_cases Freezes g = absurd (thawed g)

  -- t freezes nothing that u holds
  not_frozen : (n : Name) → In y.top.refs (Some n) → GoesBy p m N t (Edits n Freezes) → ⊥
  not_frozen n i g = not_frozen_by_cases g.line.instr refl g.by.1
    where
      on_path : is_on_path m.tasks (owner_of m.tasks n.task) u ≡ true
      on_path = (D.of_task u y n iu (names_run y n (runs_is y.status run_u) (in_registers (y.top ∷ y.below) y.top n (inl refl) i))).1

      not_frozen_by_cases : (i : Instr) → g.line.instr ≡ i → FreezesBy (setting m t g.task) g.task.top m.store i n → ⊥
      not_frozen_by_cases (Freeze o) e f =
          let own : owner_of m.tasks n.task ≡ t = eqb-true (owner_of m.tasks n.task) t f.1 in
          both_ways (is_on_path m.tasks t u)
          (not_above (length m.tasks) (parents m.tasks) (joined m.tasks) (waiting m.tasks) (joins_in m.tasks) m.edges K.tree t u live_u two (runs_tell (slice_get m.tasks t) (ap is_running g.acting.is ∙ g.acting.running)).3)
          (ap (λ a. is_on_path m.tasks a u) (sym own) ∙ on_path)
      not_frozen_by_cases _ e f = absurd f

  -- strands of objects that u reads
  same_test : (q : Name) (z : Object) → object_at m.store q ≡ Some z → (z' : Object) × (object_at m1.store q ≡ Some z') × (precedes m1.edges z'.strand (strand_of u y) ≡ precedes m.edges z.strand (strand_of u y))
  same_test q z is = elim (object_after p m N t q z is) [
    | inl same ↦ (z, same, fixed z.strand)
    | inr more ↦ (edited more.0 z, more.2, ap (λ w. precedes m1.edges w (strand_of u y)) (edit_strand more.0 z) ∙ fixed z.strand)
  ]
    where
      fixed : (a : Strand) → precedes m1.edges a (strand_of u y) ≡ precedes m.edges a (strand_of u y)
      fixed a = (run_keeps p m (t ∷ []) K).fixed a (strand_of u y) (begun_running m u y (record { is = iu; running = run_u }))

  pub sees : SeesSame s m1.edges (owner_of m1.tasks) y.top m.store m1.store (Leaves p m t)
  sees = record {
    count = same_length (row_of (slice_get m1.store u)) (row_of (slice_get m.store u)) (λ k. leaves.objects (record { task = u; count = k }) (owner_here (parents m.tasks) (joined m.tasks) u u live_u));
    objects = λ n i. (let o = held p m N u y iu run_u n i in let z = same_object n o.0 (not_frozen n i) o.1 in (o.0, z.0, o.1, z.1, z.2));
    owners = λ n i. (let o = leaves.owned n.task in elim (cases_eq (owner_of m.tasks n.task) u) [
      | inl e ↦ eq-eqb (owner_of m1.tasks n.task) u (o.1 e) ∙ sym (eq-eqb (owner_of m.tasks n.task) u e)
      | inr ne ↦ ne_eqb (owner_of m1.tasks n.task) u (λ e. ne (o.0 e)) ∙ sym (ne_eqb (owner_of m.tasks n.task) u ne)
    ]);
    tests = λ n q o k i is may got. (let z = in_field p m N u n q o k is got in let w = same_test q z.0 z.1 in (z.0, w.0, z.1, w.1, w.2));
  }

  pub same_effect : (instr : Instr) → ((b : Bool) (n : Name) (at : ℕ) → Reaches s y.top m.store instr b n at → Leaves p m t b n at)
      → EffectAs s m1.edges (owner_of m1.tasks) y.top m.store m1.store (Leaves p m t) instr (effect s y.top m.store instr) (effect (setting m1 u y) y.top m1.store instr)
  same_effect instr may =
      subst (λ lim. EffectAs s m1.edges (owner_of m1.tasks) y.top m.store m1.store (Leaves p m t) instr (effect s y.top m.store instr)
      (effect (record { task = u; strand = strand_of u y; field_limit = lim; edges = m1.edges; owner = owner_of m1.tasks }) y.top m1.store instr)) (sym (step_limit p m t K))
      (effect_as s m1.edges (owner_of m1.tasks) y.top m.store m1.store (Leaves p m t) sees instr may)
