-- Each frame of each task has 16 registers of each kind, and each object a bounded number of fields.
use Rattle.hh_model.proofs.Common.{◌≡◌, ℕ, ℤ, zero, suc, pos, ◌+◌, ◌-◌, ◌≤◌, ◌==◌, Bool, true, false, cond, Option, Some, None, List, [], ◌∷◌, ◌++◌, length, slice_get, slice_set, nat_lt, inl, inr, refl, ap, sym, subst, ◌∙◌, length-set, ◌⊎◌, arith, max, option_flatten, In, in_append_cases, in_from_contains, got_cases, Instr, Set, Mov, Movr, Nil as NilOf, Calc, Same, Jmp, Jz, Newm, Pack, Getr, Geti, Putr, Puti, Cntr, Cnti, Freeze, Cas, Line, ProgramText, Name, Object, Frame, Task, Waiting, Trap, Range, Frozen, Div as DivTrap, Size, MachineState, Effect, Goes, Prints, Calls, Forks, Returns, Traps, Stops, StepContext, effect, object_at, put_object, or_trap, with_object, read_effect, int_in, ref_in, int_eq, onward, same_name, calculated, counts_in, place_in, flag, precedes, fetched, step, start, run_from, run, root, stepped, follow, setting, can_step, forked, child, entry_frame, frame_limit, depth_limit, returned_to, last_return, child_ended_by, ended_task, joined_task, resumed, join_of, result_of, back_in, last_of, front_of, is_left, sibling, result_at, or_same, IsForkJoinState, HasAllRegisters, HasFewFields, SizesAreBounded, LimitStays}
use Rattle.hh_model.specs.declared.data.Trap.TheVariants.{Nil}
use Rattle.hh_model.proofs.Closed.{grown_cases, three_cases}
use Rattle.hh_model.proofs.Steps.{Alters, last_in, step_cases}
use Rattle.hh_model.proofs.Changes.{SetsRef, SetsInt, Freezes, IsSized}
use Rattle.hh_model.proofs.Counts.{step_limit}
use Rattle.hh_model.proofs.ForkJoinStates.{empty_rows, no_objects, start_is_fork_join_state, step_is_fork_join_state}
use Rattle.hh_model.proofs.Stores.{put_cases, made_cases}

-- INSTRUCTIONS

abbrev pub Keeps : Frame → Effect → Type 0
Keeps f (Goes f' store) = (length f'.ints ≡ length f.ints) × (length f'.refs ≡ length f.refs)
Keeps f _ = Unit {0}

module _ (s : StepContext) (f : Frame) (store : List (List Object)) where
  trap_keeps : {A : Type 0} (t : Trap) (o : Option A) (go : A → Effect) → ((x : A) → Keeps f (go x)) → Keeps f (or_trap t o go)
  trap_keeps t None go each = tt
  trap_keeps t (Some x) go each = each x

  object_keeps : (r : Option Name) (go : Name → Object → Effect) → ((n : Name) (x : Object) → Keeps f (go n x)) → Keeps f (with_object store r go)
  object_keeps None go each = tt
  object_keeps (Some n) go each = trap_keeps Nil (object_at store n) (go n) (each n)

  either_keeps : (b : Bool) (x y : Effect) → Keeps f x → Keeps f y → Keeps f (cond b x y)
  either_keeps true x y k l = k
  either_keeps false x y k l = l

  read_keeps : (d : ℕ) (r : Option Name) → Keeps f (read_effect s f store d r)
  read_keeps d None = (refl, length-set f.refs d None)
  read_keeps d (Some n) = trap_keeps Nil (object_at store n) _ (λ x. either_keeps (precedes s.edges x.strand s.strand) _ (Stops n) (refl, length-set f.refs d (Some n)) tt)

  jz_keeps : (b : Bool) (to : ℕ) (store' : List (List Object)) → Keeps f (Goes (cond b (record f { next = to }) (onward f)) store')
  jz_keeps true to store' = (refl, refl)
  jz_keeps false to store' = (refl, refl)

  effect_keeps_width : (instr : Instr) → Keeps f (effect s f store instr)
  effect_keeps_width (Set d k) = (length-set f.ints d k, refl)
  effect_keeps_width (Mov d a) = (length-set f.ints d (int_in f a), refl)
  effect_keeps_width (Movr d a) = (refl, length-set f.refs d (ref_in f a))
  effect_keeps_width (NilOf d) = (refl, length-set f.refs d None)
  effect_keeps_width (Calc op d a b) = trap_keeps DivTrap (calculated op (int_in f a) (int_in f b)) _ (λ x. (length-set f.ints d x, refl))
  effect_keeps_width (Same d a b) = (length-set f.ints d (flag (same_name (ref_in f a) (ref_in f b))), refl)
  effect_keeps_width (Jmp to) = (refl, refl)
  effect_keeps_width (Jz a to) = jz_keeps (int_eq (int_in f a) (pos 0)) to store
  effect_keeps_width (Newm d a b) = trap_keeps Size (counts_in s.field_limit (int_in f a) (int_in f b)) _ (λ n. (refl, length-set f.refs d _))
  effect_keeps_width (Pack d r i) = (refl, length-set f.refs d _)
  effect_keeps_width (Getr d o k) = object_keeps (ref_in f o) _ (λ n x. trap_keeps Range (place_in (length x.refs) (int_in f k)) _ (λ i. read_keeps d (option_flatten (slice_get x.refs i))))
  effect_keeps_width (Geti d o k) = object_keeps (ref_in f o) _ (λ n x. trap_keeps Range (place_in (length x.ints) (int_in f k)) _ (λ i. (length-set f.ints d _, refl)))
  effect_keeps_width (Putr o k v) = object_keeps (ref_in f o) _ (λ n x. trap_keeps Range (place_in (length x.refs) (int_in f k)) _ (λ i. either_keeps x.mutable _ (Traps Frozen) (refl, refl) tt))
  effect_keeps_width (Puti o k v) = object_keeps (ref_in f o) _ (λ n x. trap_keeps Range (place_in (length x.ints) (int_in f k)) _ (λ i. either_keeps x.mutable _ (Traps Frozen) (refl, refl) tt))
  effect_keeps_width (Cntr d o) = object_keeps (ref_in f o) _ (λ n x. (length-set f.ints d (pos (length x.refs)), refl))
  effect_keeps_width (Cnti d o) = object_keeps (ref_in f o) _ (λ n x. (length-set f.ints d (pos (length x.ints)), refl))
  effect_keeps_width (Freeze o) = object_keeps (ref_in f o) _ (λ n x. either_keeps (s.owner n.task == s.task) (Goes (onward f) (put_object store n (record x { mutable = false }))) (Traps Frozen) (refl, refl) tt)
  effect_keeps_width (Cas d o k c v) =
      object_keeps (ref_in f o) _ (λ n x. trap_keeps Range (place_in (length x.refs) (int_in f k)) _ (λ i.
      either_keeps x.mutable _ (Traps Frozen) (either_keeps (same_name (option_flatten (slice_get x.refs i)) (ref_in f c)) _ _ (length-set f.ints d (pos 1), refl) (length-set f.ints d (pos 0), refl)) tt))
  effect_keeps_width _ = tt

-- STEPS

widened : (f g : Frame) → HasAllRegisters f → length g.ints ≡ length f.ints → length g.refs ≡ length f.refs → HasAllRegisters g
widened f g w a b = record { ints = a ∙ w.ints; refs = b ∙ w.refs }

abbrev pub WideTask : Task → Type 0
WideTask x = (f : Frame) → In (x.top ∷ x.below) f → HasAllRegisters f

abbrev pub AllWide : List Task → Type 0
AllWide tasks = (t : ℕ) (x : Task) → slice_get tasks t ≡ Some x → WideTask x

pub front_in : (fs : List Frame) (f : Frame) → In (front_of fs) f → In fs f
front_in [] f h = h
front_in (g ∷ []) f h = absurd h
front_in (g ∷ k ∷ fs) f (inl e) = inl e
front_in (g ∷ k ∷ fs) f (inr h) = inr (front_in (k ∷ fs) f h)

module _ (p : ProgramText) (m : MachineState) (t : ℕ) (A : AllWide m.tasks) where
  set_wide : (y : Task) → WideTask y → AllWide (slice_set m.tasks t y)
  set_wide y wide u z e = elim (got_cases m.tasks t u y z e) [
    | inl here ↦ subst WideTask (sym here.1) wide
    | inr old ↦ A u z old
  ]

  topped : (f : Frame) (fs : List Frame) → HasAllRegisters f → ((g : Frame) → In fs g → HasAllRegisters g) → (g : Frame) → In (f ∷ fs) g → HasAllRegisters g
  topped f fs top rest g (inl e) = subst (HasAllRegisters) e top
  topped f fs top rest g (inr h) = rest g h

  module _ (x : Task) (ix : slice_get m.tasks t ≡ Some x) where
    mine : WideTask x
    mine = A t x ix

    onto : (g : Frame) → length g.ints ≡ length x.top.ints → length g.refs ≡ length x.top.refs → HasAllRegisters g
    onto g a b = widened x.top g (mine x.top (inl refl)) a b

    below : (g : Frame) → In x.below g → HasAllRegisters g
    below g h = mine g (inr h)

    either_wide : (b : Bool) (m1 m2 : MachineState) → AllWide m1.tasks → AllWide m2.tasks → AllWide (cond b m1 m2).tasks
    either_wide true m1 m2 k l = k
    either_wide false m1 m2 k l = l

    or_wide : {X : Type 0} (o : Option X) (go : X → MachineState) → ((y : X) → o ≡ Some y → AllWide (go y).tasks) → AllWide (or_same m o go).tasks
    or_wide None go each = A
    or_wide (Some y) go each = each y refl

    join_wide : (parent l : ℕ) (xp xl xr : Task) (rl rr : ℤ × Option Name) → WideTask xp → WideTask xl → WideTask xr → AllWide (join_of m parent xp l xl xr rl rr).tasks
    join_wide parent l xp xl xr rl rr pp pl pr u z e =
        elim (three_cases m.tasks l parent (joined_task xl) (joined_task xr) (resumed xp rl rr) u z e) [
          | inl top ↦ subst WideTask (sym top.1) (topped (resumed xp rl rr).top xp.below
              (widened xp.top (resumed xp rl rr).top (pp xp.top (inl refl)) (length-set (slice_set xp.top.ints 0 rl.0) 1 rr.0 ∙ length-set xp.top.ints 0 rl.0) (length-set (slice_set xp.top.refs 0 rl.1) 1 rr.1 ∙ length-set xp.top.refs 0 rl.1))
              (λ g h. pp g (inr h)))
          | inr more ↦ elim more [
            | inl a ↦ subst WideTask (sym a) pr
            | inr rest ↦ elim rest [ inl a ↦ subst WideTask (sym a) pl | inr old ↦ A u z old ]
          ]
        ]

    child_wide : (parent : ℕ) (o : Option (ℤ × Option Name)) → AllWide (child_ended_by m t x parent (result_of x.top) o).tasks
    child_wide parent None = set_wide (ended_task x (result_of x.top)) mine
    child_wide parent (Some other) =
        or_wide (slice_get m.tasks parent) _ (λ xp ip. or_wide (slice_get m.tasks (sibling t)) _ (λ y iy.
        either_wide (is_left t) _ _
        (join_wide parent t xp x y (result_of x.top) other (A parent xp ip) mine (A (sibling t) y iy))
        (join_wide parent (t - 1) xp y x other (result_of x.top) (A parent xp ip) (A (sibling t) y iy) mine)))

    last_wide : (o : Option ℕ) → AllWide (last_return m t x o).tasks
    last_wide None = set_wide (ended_task x (result_of x.top)) mine
    last_wide (Some parent) = child_wide parent (result_at (slice_get m.tasks (sibling t)))

    returned_wide : (o : Option Frame) → last_of x.below ≡ o → AllWide (returned_to m t x o).tasks
    returned_wide None e = last_wide x.parent
    returned_wide (Some f) e =
        set_wide (record x { top = back_in f x.top; below = front_of x.below })
        (topped (back_in f x.top) (front_of x.below) (widened f (back_in f x.top) (below f (last_in x.below f e)) (length-set f.ints 0 (int_in x.top 0)) (length-set f.refs 0 (ref_in x.top 0))) (λ g h. below g (front_in x.below g h)))

    forked_wide : (g h line : ℕ) → AllWide (forked m t x g h line).tasks
    forked_wide g h line =
        either_wide (nat_lt x.depth depth_limit) _ _ (λ u z e.
        elim (grown_cases (slice_set m.tasks t (record x { status = Waiting; top = onward x.top })) (child t (x.depth + 1) g x.top) (child t (x.depth + 1) h x.top) u z e) [
          | inl old ↦ set_wide (record x { status = Waiting; top = onward x.top }) (topped (onward x.top) x.below (onto (onward x.top) refl refl) below) u z old
          | inr new ↦ elim new [ inl a ↦ subst WideTask (sym a.1) (kid g) | inr a ↦ subst WideTask (sym a.1) (kid h) ]
        ]) A
      where
        kid : (g : ℕ) → WideTask (child t (x.depth + 1) g x.top)
        kid g = topped (entry_frame g x.top) [] (onto (entry_frame g x.top) refl refl) (λ k i. absurd i)

    follow_wide : (line : ℕ) (e : Effect) → Keeps x.top e → AllWide (follow m t x line e).tasks
    follow_wide line (Goes f store) leads = set_wide (record x { top = f }) (topped f x.below (onto f leads.0 leads.1) below)
    follow_wide line (Prints k) leads = set_wide (record x { top = onward x.top }) (topped (onward x.top) x.below (onto (onward x.top) refl refl) below)
    follow_wide line (Calls g) leads =
        either_wide (nat_lt (length x.below + 1) frame_limit) _ _
        (set_wide (record x { top = entry_frame g x.top; below = x.below ++ onward x.top ∷ [] })
        (topped (entry_frame g x.top) (x.below ++ onward x.top ∷ []) (onto (entry_frame g x.top) refl refl) (λ k h.
        elim (in_append_cases x.below (onward x.top ∷ []) k h) [ inl old ↦ below k old | inr new ↦ topped (onward x.top) [] (onto (onward x.top) refl refl) (λ q i. absurd i) k new ]))) A
    follow_wide line (Forks g h) leads = forked_wide g h line
    follow_wide line Returns leads = returned_wide (last_of x.below) refl
    follow_wide line (Traps kind) leads = A
    follow_wide line (Stops n) leads = A

    stepped_wide : (o : Option Line) → fetched p x.top ≡ o → AllWide (stepped p m t x o).tasks
    stepped_wide None e = A
    stepped_wide (Some line) e =
        follow_wide line.number (effect (setting m t x) x.top m.store line.instr) (effect_keeps_width (setting m t x) x.top m.store line.instr)

  same_or_wide : (o : Option Task) (go : Task → MachineState) → ((y : Task) → o ≡ Some y → AllWide (go y).tasks) → AllWide (or_same m o go).tasks
  same_or_wide None go each = A
  same_or_wide (Some y) go each = each y refl

  step_by : (b : Bool) → AllWide (cond b (or_same m (slice_get m.tasks t) (λ x. stepped p m t x (fetched p x.top))) m).tasks
  step_by true = same_or_wide (slice_get m.tasks t) _ (λ x ix. stepped_wide x ix (fetched p x.top) refl)
  step_by false = A

  step_wide : AllWide (step p m t).tasks
  step_wide = step_by (can_step m t)

run_wide : (p : ProgramText) (m : MachineState) (ts : List ℕ) → AllWide m.tasks → AllWide (run_from p m ts).tasks
run_wide p m [] A = A
run_wide p m (t ∷ ts) A = run_wide p (step p m t) ts (step_wide p m t A)

start_wide : (p : ProgramText) (limit : ℕ) → AllWide (start p limit).tasks
start_wide p limit zero x e = let same : root p ≡ x = cc in subst WideTask same (λ f h. only f h)
  where
    only : (f : Frame) → In ((root p).top ∷ []) f → HasAllRegisters f
    only f (inl e) = subst HasAllRegisters e (record { ints = refl; refs = refl })
    only f (inr none) = absurd none
start_wide p limit (suc t) x e = absurd cc

pub wide : (p : ProgramText) (limit : ℕ) (ts : List ℕ) → AllWide (run p limit ts).tasks
wide p limit ts = run_wide p (start p limit) ts (start_wide p limit)

-- FIELDS

-- of each kind, and of both together
abbrev Bounded : ℕ → Object → Type 0
Bounded limit o = HasFewFields (max limit 16) o × (length o.refs + length o.ints ≤ max limit 32)

abbrev FewIn : ℕ → List (List Object) → Type 0
FewIn limit store = (n : Name) (o : Object) → object_at store n ≡ Some o → Bounded limit o

sized : (limit : ℕ) (f : Frame) (o : Object) → HasAllRegisters f → IsSized limit f o → Bounded limit o
sized limit f o w (inl s) = (record { refs = omega (arith, s); ints = omega (arith, s) }, omega (arith, s))
sized limit f o w (inr s) = let a = s.0 in let b = s.1 in let c = w.refs in let d = w.ints in (record { refs = omega (arith, a, c); ints = omega (arith, b, d) }, omega (arith, a, b, c, d))

module _ (p : ProgramText) (m : MachineState) (t : ℕ) (K : IsForkJoinState m) (A : AllWide m.tasks) (F : FewIn m.field_limit m.store) where
  resized : (x y : Object) → Bounded m.field_limit x → length y.refs ≡ length x.refs → length y.ints ≡ length x.ints → Bounded m.field_limit y
  resized x y few a b = let c = few.0.refs in let d = few.0.ints in let e = few.1 in (record { refs = omega (arith, a, c); ints = omega (arith, b, d) }, omega (arith, a, b, e))

  changed : (f : Frame) (n : Name) (x y : Object) (s : StepContext) → Bounded m.field_limit x → SetsRef f x y ⊎ (SetsInt x y ⊎ Freezes s n x y) → Bounded m.field_limit y
  changed f n x y s few (inl h) = resized x y few (ap (λ (o : Object). length o.refs) h.1.2 ∙ length-set x.refs h.1.0 h.1.1) (ap (λ (o : Object). length o.ints) h.1.2)
  changed f n x y s few (inr (inl h)) = resized x y few (ap (λ (o : Object). length o.refs) h.1.2) (ap (λ (o : Object). length o.ints) h.1.2 ∙ length-set x.ints h.1.0 h.1.1)
  changed f n x y s few (inr (inr h)) = resized x y few (ap (λ (o : Object). length o.refs) h.1) (ap (λ (o : Object). length o.ints) h.1)

  altered : (x : Task) (store : List (List Object)) → slice_get m.tasks t ≡ Some x → Alters p m t x store → FewIn m.field_limit store
  altered x store ix (inl e) n o is = F n o (ap (λ w. object_at w n) (sym e) ∙ is)
  altered x store ix (inr (line, il, inl e)) n o is = F n o (ap (λ w. object_at w n) (sym e) ∙ is)
  altered x store ix (inr (line, il, inr (inl a))) n o is =
      elim (made_cases m.store t a.new n o (ap (λ w. object_at w n) (sym a.is) ∙ is)) [
        | inl h ↦ subst (Bounded m.field_limit) (sym h.2) (sized m.field_limit x.top a.new (A t x ix x.top (inl refl)) a.size)
        | inr old ↦ F n o old
      ]
  altered x store ix (inr (line, il, inr (inr w))) n o is =
      elim (put_cases m.store w.name w.new n o (ap (λ s. object_at s n) (sym w.is) ∙ is)) [
        | inl h ↦ subst (Bounded m.field_limit) (sym h.1) (changed x.top w.name w.old w.new (setting m t x) (F w.name w.old w.was) w.how)
        | inr old ↦ F n o old
      ]

  few_step : FewIn m.field_limit (step p m t).store
  few_step =
      step_cases p m t K (λ m'. FewIn m.field_limit m'.store) F (λ x e is run why. F)
      (λ x y store outs is run ep ed es ej names fields alters grows. altered x store is alters)
      (λ x parent e is run pp which result. F)
      (λ x g h is run next top n o is'. F n o (empty_rows m.store n.task n.count o is'))
      (λ parent l xp xl xr rl rr ip il ir pl left dl dr wl wr nl nr side. F)

-- RUNS

pub limit_from : (p : ProgramText) (m : MachineState) (ts : List ℕ) → IsForkJoinState m → (run_from p m ts).field_limit ≡ m.field_limit
limit_from p m [] K = refl
limit_from p m (t ∷ ts) K = limit_from p (step p m t) ts (step_is_fork_join_state p m t K) ∙ step_limit p m t K

pub limit_stays : LimitStays
limit_stays p limit ts = limit_from p (start p limit) ts (start_is_fork_join_state p limit)

few_from : (p : ProgramText) (m : MachineState) (ts : List ℕ) (limit : ℕ) → m.field_limit ≡ limit → IsForkJoinState m → AllWide m.tasks → FewIn limit m.store → FewIn limit (run_from p m ts).store
few_from p m [] limit e K A F = F
few_from p m (t ∷ ts) limit e K A F =
    few_from p (step p m t) ts limit (step_limit p m t K ∙ e) (step_is_fork_join_state p m t K) (step_wide p m t A)
    (subst (λ k. FewIn k (step p m t).store) e (few_step p m t K A (subst (λ k. FewIn k m.store) (sym e) F)))

pub sizes_are_bounded : SizesAreBounded
sizes_are_bounded p limit ts = record {
  frames = λ t x f is c. wide p limit ts t x is f (in_from_contains (x.top ∷ x.below) f c);
  objects = λ n o e. (few n o e).0;
  together = λ n o e. (few n o e).1;
}
  where
    few : FewIn (run p limit ts).field_limit (run p limit ts).store
    few =
        subst (λ k. FewIn k (run p limit ts).store) (sym (limit_stays p limit ts))
        (few_from p (start p limit) ts limit refl (start_is_fork_join_state p limit) (start_wide p limit) (λ n o e. absurd (no_objects n.task n.count o e)))
