-- Accesses, prints and turns under a renaming.
use Rattle.schedule_laws.proofs.Common.{◌≡◌, ℕ, ℤ, suc, pos, negsuc, ◌+◌, ◌≤◌, Bool, true, false, cond, Option, Some, None, List, [], ◌∷◌, length, map, slice_get, refl, ap, ap₂, ◌∙◌, arith, option_flatten, option_map, slice_get-map, Instr, Getr, Geti, Putr, Puti, Cas, Line, ProgramText, Name, Strand, Object, Frame, Task, MachineState, Counted, Effect, Goes, Prints, Calls, Forks, Returns, Traps, Stops, effect, int_in, object_at, ref_in, same_name, can_step, fetched, setting, step, strand_of, IsForkJoinState, counted_step, step_is_fork_join_state, Field, FieldAccess, access, access_by, next_access, accesses_from, field_at, line_access, object_references, swap_access, task_access, unless_trap, value_of, with_some, IsRenaming, frame_to, object_to, ref_to, strand_to, task_to, AreRenamed, flat_to, ref_carried, same_carried, can_to, object_there, step_grows, Acts, acts, step_to, access_to, field_to, Print, line_print, print_by, print_of, prints_from, task_print, turns_from}

abbrev pub print_to : (ℕ → ℕ) → Print → Print
print_to f a = record a { strand = strand_to f a.strand }

field_there : (f : ℕ → ℕ) (b : Bool) (r : Option Name) (z : ℤ) → field_at b (ref_to f r) z ≡ option_map (field_to f) (field_at b r z)
field_there f b None z = refl
field_there f b (Some n) (pos k) = refl
field_there f b (Some n) (negsuc k) = refl

access_there : (f : ℕ → ℕ) (s : Strand) (line : ℕ) (writes swaps : Bool) (o : Option Field) → access (strand_to f s) line writes swaps (option_map (field_to f) o) ≡ option_map (access_to f) (access s line writes swaps o)
access_there f s line writes swaps None = refl
access_there f s line writes swaps (Some field) = refl

module _ (p : ProgramText) (n : ℕ) (f g : ℕ → ℕ) (R : IsRenaming n f g) where
  module _ (m m' : MachineState) (K : IsForkJoinState m) (K' : IsForkJoinState m') (rows : length m.store ≡ length m.tasks) (rows' : length m'.store ≡ length m'.tasks) (made : n ≤ length m.tasks) (A : AreRenamed f m m') (t : ℕ) where
    value_there : (field : Field) → value_of m'.store (field_to f field) ≡ ref_to f (value_of m.store field)
    value_there field =
        ap (λ o. option_flatten (slice_get (object_references o) field.index)) (object_there n f g R m m' A field.name) ∙ value_there_by_cases (object_at m.store field.name)
      where
        value_there_by_cases : (o : Option Object) → option_flatten (slice_get (object_references (option_map (object_to f) o)) field.index) ≡ ref_to f (option_flatten (slice_get (object_references o) field.index))
        value_there_by_cases None = refl
        value_there_by_cases (Some o) = ap option_flatten (slice_get-map (ref_to f) o.refs field.index) ∙ flat_to f g R.back (slice_get o.refs field.index)

    swap_there : (s : Strand) (line : ℕ) (r : Option Name) (o : Option Field) → swap_access (strand_to f s) line m'.store (ref_to f r) (option_map (field_to f) o) ≡ option_map (access_to f) (swap_access s line m.store r o)
    swap_there s line r None = refl
    swap_there s line r (Some field) =
        ap (λ b. access (strand_to f s) line b true (Some (field_to f field))) (ap (λ v. same_name v (ref_to f r)) (value_there field) ∙ same_carried f g R.back (value_of m.store field) r)

    by_there : (s : Strand) (line : ℕ) (x : Frame) (i : Instr) → access_by (strand_to f s) line (frame_to f x) m'.store i ≡ option_map (access_to f) (access_by s line x m.store i)
    by_there s line x (Getr d o k) = ap (λ r. access (strand_to f s) line false false (field_at false r (int_in x k))) (ref_carried f g R.back x o) ∙ (ap (access (strand_to f s) line false false) (field_there f false (ref_in x o) (int_in x k)) ∙ access_there f s line false false (field_at false (ref_in x o) (int_in x k)))
    by_there s line x (Geti d o k) = ap (λ r. access (strand_to f s) line false false (field_at true r (int_in x k))) (ref_carried f g R.back x o) ∙ (ap (access (strand_to f s) line false false) (field_there f true (ref_in x o) (int_in x k)) ∙ access_there f s line false false (field_at true (ref_in x o) (int_in x k)))
    by_there s line x (Putr o k v) = ap (λ r. access (strand_to f s) line true false (field_at false r (int_in x k))) (ref_carried f g R.back x o) ∙ (ap (access (strand_to f s) line true false) (field_there f false (ref_in x o) (int_in x k)) ∙ access_there f s line true false (field_at false (ref_in x o) (int_in x k)))
    by_there s line x (Puti o k v) = ap (λ r. access (strand_to f s) line true false (field_at true r (int_in x k))) (ref_carried f g R.back x o) ∙ (ap (access (strand_to f s) line true false) (field_there f true (ref_in x o) (int_in x k)) ∙ access_there f s line true false (field_at true (ref_in x o) (int_in x k)))
    by_there s line x (Cas d o k e v) =
        ap (λ r. swap_access (strand_to f s) line m'.store r (field_at false (ref_in (frame_to f x) o) (int_in x k))) (ref_carried f g R.back x e)
        ∙ (ap (λ r. swap_access (strand_to f s) line m'.store (ref_to f (ref_in x e)) (field_at false r (int_in x k))) (ref_carried f g R.back x o)
        ∙ (ap (swap_access (strand_to f s) line m'.store (ref_to f (ref_in x e))) (field_there f false (ref_in x o) (int_in x k)) ∙ swap_there s line (ref_in x e) (field_at false (ref_in x o) (int_in x k))))
    by_there s line x i = refl

    module _ (x : Task) (is : slice_get m.tasks t ≡ Some x) where
      abbrev To : Instr → Effect → Effect → Type 0
      To = Acts p n f g R m m' K K' rows rows' made A t x is

      trap_there : (i : Instr) (e e' : Effect) (a : Option FieldAccess) → To i e e' → unless_trap e' (option_map (access_to f) a) ≡ option_map (access_to f) (unless_trap e a)
      trap_there i (Goes c st) (Goes d st') a h = refl
      trap_there i (Prints k) (Prints l) a h = refl
      trap_there i (Calls c) (Calls d) a h = refl
      trap_there i (Forks c d) (Forks k l) a h = refl
      trap_there i Returns Returns a h = refl
      trap_there i (Traps c) (Traps d) a h = refl
      trap_there i (Stops c) (Stops d) a h = refl
      trap_there i _ _ a h = absurd h

      print_there : (i : Instr) (e e' : Effect) (s : Strand) → To i e e' → print_by (strand_to f s) e' ≡ option_map (print_to f) (print_by s e)
      print_there i (Goes c st) (Goes d st') s h = refl
      print_there i (Prints k) (Prints l) s h = ap (λ w. Some (record { strand = strand_to f s; number = w })) h
      print_there i (Calls c) (Calls d) s h = refl
      print_there i (Forks c d) (Forks k l) s h = refl
      print_there i Returns Returns s h = refl
      print_there i (Traps c) (Traps d) s h = refl
      print_there i (Stops c) (Stops d) s h = refl
      print_there i _ _ s h = absurd h

      line_there : (o : Option Line) → line_access m' (f t) (task_to f x) o ≡ option_map (access_to f) (line_access m t x o)
      line_there None = refl
      line_there (Some line) =
          ap (unless_trap (effect (setting m' (f t) (task_to f x)) (frame_to f x.top) m'.store line.instr)) (by_there (strand_of t x) line.number x.top line.instr)
          ∙ trap_there line.instr (effect (setting m t x) x.top m.store line.instr) (effect (setting m' (f t) (task_to f x)) (frame_to f x.top) m'.store line.instr) (access_by (strand_of t x) line.number x.top m.store line.instr) (acts p n f g R m m' K K' rows rows' made A t x is line.instr)

      print_line : (o : Option Line) → line_print m' (f t) (task_to f x) o ≡ option_map (print_to f) (line_print m t x o)
      print_line None = refl
      print_line (Some line) =
          print_there line.instr (effect (setting m t x) x.top m.store line.instr) (effect (setting m' (f t) (task_to f x)) (frame_to f x.top) m'.store line.instr) (strand_of t x) (acts p n f g R m m' K K' rows rows' made A t x is line.instr)

    cond_there : {B C : Type 0} (h : B → C) (b : Bool) (o : Option B) (o' : Option C) → o' ≡ option_map h o → cond b o' None ≡ option_map h (cond b o None)
    cond_there h true o o' e = e
    cond_there h false o o' e = refl

    pub access_to_there : next_access p m' (f t) ≡ option_map (access_to f) (next_access p m t)
    access_to_there =
        ap (λ b. cond b (task_access p m' (f t) (slice_get m'.tasks (f t))) None) (can_to n f g R m m' A t)
        ∙ cond_there (access_to f) (can_step m t) (task_access p m t (slice_get m.tasks t)) (task_access p m' (f t) (slice_get m'.tasks (f t))) (ap (task_access p m' (f t)) (A.tasks t) ∙ access_to_there_by_cases (slice_get m.tasks t) refl)
      where
        access_to_there_by_cases : (o : Option Task) → slice_get m.tasks t ≡ o → task_access p m' (f t) (option_map (task_to f) o) ≡ option_map (access_to f) (task_access p m t o)
        access_to_there_by_cases None e = refl
        access_to_there_by_cases (Some x) e = line_there x e (fetched p x.top)

    pub print_to_there : print_of p m' (f t) ≡ option_map (print_to f) (print_of p m t)
    print_to_there =
        ap (λ b. cond b (task_print p m' (f t) (slice_get m'.tasks (f t))) None) (can_to n f g R m m' A t)
        ∙ cond_there (print_to f) (can_step m t) (task_print p m t (slice_get m.tasks t)) (task_print p m' (f t) (slice_get m'.tasks (f t))) (ap (task_print p m' (f t)) (A.tasks t) ∙ print_to_there_by_cases (slice_get m.tasks t) refl)
      where
        print_to_there_by_cases : (o : Option Task) → slice_get m.tasks t ≡ o → task_print p m' (f t) (option_map (task_to f) o) ≡ option_map (print_to f) (task_print p m t o)
        print_to_there_by_cases None e = refl
        print_to_there_by_cases (Some x) e = print_line x e (fetched p x.top)

  some_map : {B C : Type 0} (h : B → C) (o : Option B) (xs : List B) → with_some (option_map h o) (map h xs) ≡ map h (with_some o xs)
  some_map h None xs = refl
  some_map h (Some x) xs = refl

  -- what lists of steps make
  pub record Carried (m m' : MachineState) (ts : List ℕ) : Type 0 where
    pub accesses : accesses_from p m' (map f ts) ≡ map (access_to f) (accesses_from p m ts)
    pub prints : prints_from p m' (map f ts) ≡ map (print_to f) (prints_from p m ts)
    pub turns : turns_from p m' (map f ts) ≡ turns_from p m ts

  pub carried : (ts : List ℕ) (m m' : MachineState) (k k' : ℕ) → IsForkJoinState m → IsForkJoinState m' → Counted k m.tasks m.store → Counted k' m'.tasks m'.store → n ≤ length m.tasks → AreRenamed f m m' → Carried m m' ts
  carried [] m m' k k' K K' I I' made A = record { accesses = refl; prints = refl; turns = refl }
  carried (t ∷ ts) m m' k k' K K' I I' made A =
      let up = step_grows p m t K in
      let rest = carried ts (step p m t) (step p m' (f t)) (suc k) (suc k') (step_is_fork_join_state p m t K) (step_is_fork_join_state p m' (f t) K') (counted_step p m t K k I) (counted_step p m' (f t) K' k' I') (omega arith)
      (step_to p n f g R m m' K K' I.rows I'.rows made A t) in
      record {
        accesses = ap₂ with_some (access_to_there m m' K K' I.rows I'.rows made A t) rest.accesses ∙ some_map (access_to f) (next_access p m t) (accesses_from p (step p m t) ts);
        prints = ap₂ with_some (print_to_there m m' K K' I.rows I'.rows made A t) rest.prints ∙ some_map (print_to f) (print_of p m t) (prints_from p (step p m t) ts);
        turns = ap₂ (λ b w. cond b (w + 1) w) (can_to n f g R m m' A t) rest.turns;
      }
