-- Prints are in order if and only if none race when counted as writes to one field.
use Rattle.schedule_report.proofs.Common.{◌≡◌, ℕ, zero, suc, ◌==◌, Bool, true, false, cond, Option, Some, None, List, [], ◌∷◌, length, slice_get, inl, inr, refl, sym, subst, ◌∙◌, option_flatten, slice_set, pos, both_ways, cases_Bool, same_Some, Instr, Set, Mov, Movr, Nil as NilOf, Calc, Same, Jmp, Jz, Newm, Pack, Getr, Geti, Putr, Puti, Cntr, Cnti, Freeze, Cas, Call, Par, Ret, Out, Line, ProgramText, Name, Strand, Edge, Object, Frame, Task, Trap, MachineState, Range, Frozen, Div as DivTrap, Size, Effect, Goes, StepContext, Stops, Traps, calculated, counts_in, effect, int_in, object_at, onward, or_trap, place_in, put_object, read_effect, ref_in, same_name, unless_frozen, with_int, with_object, with_ref, Precedes, precedes, can_step, fetched, run, setting, start, step, strand_of, FieldAccess, with_some, line_said, print_field, said_by, said_from, said_of, task_said, HasNoRace, fork_join_here, Print, PrintsAreOrdered, line_print, print_by, print_of, prints, prints_from, task_print}
use Rattle.hh_model.specs.declared.data.Trap.TheVariants.{Nil}

-- ONE STEP

-- a print as it is counted
pub record IsSaid (a : FieldAccess) (x : Print) : Type 0 where
  pub strand : a.strand ≡ x.strand
  pub field : a.field ≡ print_field
  pub writes : a.writes ≡ true
  pub swaps : a.swaps ≡ false

abbrev Alike : Option FieldAccess → Option Print → Type 0
Alike None None = Unit {0}
Alike None (Some x) = ⊥
Alike (Some a) None = ⊥
Alike (Some a) (Some x) = IsSaid a x

module _ (s : Strand) where
  record IsQuiet (e : Effect) : Type 0 where
    is : print_by s e ≡ None

  or_quiet : {A : Type 0} (t : Trap) (o : Option A) (go : A → Effect) → ((x : A) → IsQuiet (go x)) → IsQuiet (or_trap t o go)
  or_quiet t None go each = record { is = refl }
  or_quiet t (Some x) go each = each x

  with_quiet : (store : List (List Object)) (o : Option Name) (go : Name → Object → Effect) → ((n : Name) (x : Object) → IsQuiet (go n x)) → IsQuiet (with_object store o go)
  with_quiet store None go each = record { is = refl }
  with_quiet store (Some n) go each = or_quiet Nil (object_at store n) (go n) (each n)

  if_quiet : (b : Bool) (d e : Effect) → IsQuiet d → IsQuiet e → IsQuiet (cond b d e)
  if_quiet true d e x y = x
  if_quiet false d e x y = y

  frozen_quiet : (x : Object) (e : Effect) → IsQuiet e → IsQuiet (unless_frozen x e)
  frozen_quiet x e h = if_quiet x.mutable e (Traps Frozen) h (record { is = refl })

  read_quiet : (set : StepContext) (f : Frame) (store : List (List Object)) (d : ℕ) (o : Option Name) → IsQuiet (read_effect set f store d o)
  read_quiet set f store d None = record { is = refl }
  read_quiet set f store d (Some n) =
      or_quiet Nil (object_at store n) _ (λ o. if_quiet (precedes set.edges o.strand set.strand) (Goes (onward (with_ref f d (Some n))) store) (Stops n) (record { is = refl }) (record { is = refl }))

  by_quiet : (e : Effect) → IsQuiet e → Alike None (print_by s e)
  by_quiet e q = subst (λ (x : Option Print). Alike None x) (sym q.is) tt

  says_alike : (line : ℕ) (set : StepContext) (f : Frame) (store : List (List Object)) (instr : Instr) → Alike (said_by s line instr) (print_by s (effect set f store instr))
  says_alike line set f store (Out x) = record { strand = refl; field = refl; writes = refl; swaps = refl }
  says_alike line set f store (Set d k) = tt
  says_alike line set f store (Mov d k) = tt
  says_alike line set f store (Movr d k) = tt
  says_alike line set f store (NilOf d) = tt
  says_alike line set f store (Calc op d x y) = by_quiet (effect set f store (Calc op d x y)) (or_quiet DivTrap (calculated op (int_in f x) (int_in f y)) _ (λ z. record { is = refl }))
  says_alike line set f store (Same d x y) = tt
  says_alike line set f store (Jmp to) = tt
  says_alike line set f store (Jz x to) = tt
  says_alike line set f store (Newm d x y) = by_quiet (effect set f store (Newm d x y)) (or_quiet Size (counts_in set.field_limit (int_in f x) (int_in f y)) _ (λ z. record { is = refl }))
  says_alike line set f store (Pack d r i) = tt
  says_alike line set f store (Getr d o k) = by_quiet (effect set f store (Getr d o k)) (with_quiet store (ref_in f o) _ (λ n x. or_quiet Range (place_in (length x.refs) (int_in f k)) _ (λ at. read_quiet set f store d (option_flatten (slice_get x.refs at)))))
  says_alike line set f store (Geti d o k) = by_quiet (effect set f store (Geti d o k)) (with_quiet store (ref_in f o) _ (λ n x. or_quiet Range (place_in (length x.ints) (int_in f k)) _ (λ at. record { is = refl })))
  says_alike line set f store (Putr o k v) = by_quiet (effect set f store (Putr o k v)) (with_quiet store (ref_in f o) _ (λ n x. or_quiet Range (place_in (length x.refs) (int_in f k)) _ (λ at. frozen_quiet x (Goes (onward f) (put_object store n (record x { refs = slice_set x.refs at (ref_in f v) }))) (record { is = refl }))))
  says_alike line set f store (Puti o k v) = by_quiet (effect set f store (Puti o k v)) (with_quiet store (ref_in f o) _ (λ n x. or_quiet Range (place_in (length x.ints) (int_in f k)) _ (λ at. frozen_quiet x (Goes (onward f) (put_object store n (record x { ints = slice_set x.ints at (int_in f v) }))) (record { is = refl }))))
  says_alike line set f store (Cntr d o) = by_quiet (effect set f store (Cntr d o)) (with_quiet store (ref_in f o) _ (λ n x. record { is = refl }))
  says_alike line set f store (Cnti d o) = by_quiet (effect set f store (Cnti d o)) (with_quiet store (ref_in f o) _ (λ n x. record { is = refl }))
  says_alike line set f store (Freeze o) = by_quiet (effect set f store (Freeze o)) (with_quiet store (ref_in f o) _ (λ n x. if_quiet (set.owner n.task == set.task) (Goes (onward f) (put_object store n (record x { mutable = false }))) (Traps Frozen) (record { is = refl }) (record { is = refl })))
  says_alike line set f store (Cas d o k e v) = by_quiet (effect set f store (Cas d o k e v)) (with_quiet store (ref_in f o) _ (λ n x. or_quiet Range (place_in (length x.refs) (int_in f k)) _ (λ at. frozen_quiet x _ (if_quiet (same_name (option_flatten (slice_get x.refs at)) (ref_in f e)) (Goes (onward (with_int f d (pos 1))) (put_object store n (record x { refs = slice_set x.refs at (ref_in f v) }))) (Goes (onward (with_int f d (pos 0))) store) (record { is = refl }) (record { is = refl })))))
  says_alike line set f store (Call g) = tt
  says_alike line set f store (Par g h) = tt
  says_alike line set f store Ret = tt

module _ (p : ProgramText) (m : MachineState) (t : ℕ) where
  by_line : (x : Task) (o : Option Line) → Alike (line_said t x o) (line_print m t x o)
  by_line x None = tt
  by_line x (Some line) = says_alike (strand_of t x) line.number (setting m t x) x.top m.store line.instr

  by_task : (o : Option Task) → Alike (task_said p t o) (task_print p m t o)
  by_task None = tt
  by_task (Some x) = by_line x (fetched p x.top)

  step_alike : Alike (said_of p m t) (print_of p m t)
  step_alike = step_alike_by_cases (can_step m t)
    where
      step_alike_by_cases : (b : Bool) → Alike (cond b (task_said p t (slice_get m.tasks t)) None) (cond b (task_print p m t (slice_get m.tasks t)) None)
      step_alike_by_cases true = by_task (slice_get m.tasks t)
      step_alike_by_cases false = tt

-- THEIR PLACES

abbrev SaidAt : ProgramText → MachineState → List ℕ → ℕ → Print → Type 0
SaidAt p m ts i x = (a : FieldAccess) × (slice_get (said_from p m ts) i ≡ Some a) × IsSaid a x

said_at : (p : ProgramText) (m : MachineState) (ts : List ℕ) (i : ℕ) (x : Print) → slice_get (prints_from p m ts) i ≡ Some x → SaidAt p m ts i x
said_at p m [] i x e = absurd cc
said_at p m (t ∷ ts) i x e = said_at_by_cases (said_of p m t) (print_of p m t) (step_alike p m t) (λ k h. said_at p (step p m t) ts k x h) i e
  where
    said_at_by_cases : (o : Option FieldAccess) (q : Option Print) → Alike o q → ((k : ℕ) → slice_get (prints_from p (step p m t) ts) k ≡ Some x → SaidAt p (step p m t) ts k x)
        → (k : ℕ) → slice_get (with_some q (prints_from p (step p m t) ts)) k ≡ Some x → (a : FieldAccess) × (slice_get (with_some o (said_from p (step p m t) ts)) k ≡ Some a) × IsSaid a x
    said_at_by_cases None None h more k e = more k e
    said_at_by_cases None (Some y) h more k e = absurd h
    said_at_by_cases (Some a) None h more k e = absurd h
    said_at_by_cases (Some a) (Some y) h more zero e = (a, refl, subst (IsSaid a) (same_Some y x e) h)
    said_at_by_cases (Some a) (Some y) h more (suc k) e = more k e

abbrev PrintAt : ProgramText → MachineState → List ℕ → ℕ → FieldAccess → Type 0
PrintAt p m ts i a = (x : Print) × (slice_get (prints_from p m ts) i ≡ Some x) × IsSaid a x

print_at : (p : ProgramText) (m : MachineState) (ts : List ℕ) (i : ℕ) (a : FieldAccess) → slice_get (said_from p m ts) i ≡ Some a → PrintAt p m ts i a
print_at p m [] i a e = absurd cc
print_at p m (t ∷ ts) i a e = print_at_by_cases (said_of p m t) (print_of p m t) (step_alike p m t) (λ k h. print_at p (step p m t) ts k a h) i e
  where
    print_at_by_cases : (o : Option FieldAccess) (q : Option Print) → Alike o q → ((k : ℕ) → slice_get (said_from p (step p m t) ts) k ≡ Some a → PrintAt p (step p m t) ts k a)
        → (k : ℕ) → slice_get (with_some o (said_from p (step p m t) ts)) k ≡ Some a → (x : Print) × (slice_get (with_some q (prints_from p (step p m t) ts)) k ≡ Some x) × IsSaid a x
    print_at_by_cases None None h more k e = more k e
    print_at_by_cases None (Some y) h more k e = absurd h
    print_at_by_cases (Some b) None h more k e = absurd h
    print_at_by_cases (Some b) (Some y) h more zero e = (y, refl, subst (λ (z : FieldAccess). IsSaid z y) (same_Some b a e) h)
    print_at_by_cases (Some b) (Some y) h more (suc k) e = more k e

-- BOTH WAYS

module _ (p : ProgramText) (limit : ℕ) (ts : List ℕ) where
  abbrev edges : List Edge
  edges = (run p limit ts).edges

  abbrev said : List FieldAccess
  said = said_from p (start p limit) ts

  moved : (a b : FieldAccess) (u v : Print) → IsSaid a u → IsSaid b v → Precedes edges a.strand b.strand → Precedes edges u.strand v.strand
  moved a b u v A B w = subst (λ (x : Strand). Precedes edges x v.strand) A.strand (subst (λ (x : Strand). Precedes edges a.strand x) B.strand w)

  back : (a b : FieldAccess) (u v : Print) → IsSaid a u → IsSaid b v → Precedes edges u.strand v.strand → Precedes edges a.strand b.strand
  back a b u v A B w = subst (λ (x : Strand). Precedes edges x b.strand) (sym A.strand) (subst (λ (x : Strand). Precedes edges u.strand x) (sym B.strand) w)

  pub prints_in_order : HasNoRace edges said → PrintsAreOrdered edges (prints p limit ts)
  prints_in_order none i j u v lt eu ev = elim (cases_Bool (precedes edges u.strand v.strand)) [
    | inl yes_then ↦ right.0 yes_then
    | inr not_then ↦
        let a = said_at p (start p limit) ts i u eu in
        let b = said_at p (start p limit) ts j v ev in
        absurd (none b.0.field i j a.0 b.0 (record {
          order = lt;
          first = a.1;
          second = b.1;
          of_field = refl;
          race = record {
            field = a.2.field ∙ sym b.2.field;
            writes = inl a.2.writes;
            plain = inl a.2.swaps;
            apart = λ w. both_ways (precedes edges u.strand v.strand) not_then (right.1 (moved a.0 b.0 u v a.2 b.2 w));
          };
        }))
  ]
    where
      right : (precedes edges u.strand v.strand ≡ true → Precedes edges u.strand v.strand) × (Precedes edges u.strand v.strand → precedes edges u.strand v.strand ≡ true)
      right = (fork_join_here p limit ts).tree.right u.strand v.strand

  pub no_prints_race : PrintsAreOrdered edges (prints p limit ts) → HasNoRace edges said
  no_prints_race ordered field i j a b R =
      let u = print_at p (start p limit) ts i a R.first in
      let v = print_at p (start p limit) ts j b R.second in
      R.race.apart (back a b u.0 v.0 u.2 v.2 (ordered i j u.0 v.0 R.order u.1 v.1))
