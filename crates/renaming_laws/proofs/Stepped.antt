-- A step of a renamed task is the renamed step.
use Rattle.renaming_laws.proofs.Common.{◌≡◌, ℕ, ℤ, ◌+◌, ◌-◌, ◌<◌, ◌≤◌, ◌==◌, Bool, true, false, cond, Option, Some, None, List, [], ◌∷◌, ◌++◌, length, map, nat_lt, slice_get, slice_set, refl, ap, sym, subst, ◌∙◌, arith, option_map, cond-true, cond-false, length-map, map-append, map-set, slice_get-map, Instr, Line, ProgramText, Name, Object, Frame, Waiting, Task, Depth, Done, Trapped, Entangled, MachineState, Effect, Goes, Prints, Calls, Forks, Returns, Traps, Stops, StepContext, effect, int_in, object_at, onward, ref_in, row_of, with_int, with_ref, back_in, called, can_step, child, child_ended_by, depth_limit, ended_by, ended_task, entry_frame, fetched, follow, forked, frame_limit, front_of, is_left, join_of, result_at, last_of, last_return, or_same, owner_of, parent_of, parents, result_of, returned, returned_to, setting, sibling, step, stepped, strand, with_task, IsForkJoinState, IsRenaming, ref_to, object_to, frame_to, task_to, AreRenamed}
use Rattle.renaming_laws.proofs.Changed.{Change, Same, Grows, Edits, Edit, SetRef, SetNumber, Freezes, change_to, changed, edit_to, edited, put_in}
use Rattle.renaming_laws.proofs.Effects.{EffectTo, Sees, SeenTo, TestTo, effect_carried, ref_carried, same_task, set_carried}
use Rattle.renaming_laws.proofs.Lists.{front_map, last_map, set_to}
use Rattle.renaming_laws.proofs.Owners.{owner_to, test_to}
use Rattle.renaming_laws.proofs.Follows.{StoreTo, can_to, forks, halted, joins, kept_to, object_there, own, result_to, row_to, written}

module _ (p : ProgramText) (n : ℕ) (f g : ℕ → ℕ) (R : IsRenaming n f g) (m m' : MachineState) (K : IsForkJoinState m) (K' : IsForkJoinState m') (rows : length m.store ≡ length m.tasks) (rows' : length m'.store ≡ length m'.tasks)
    (made : n ≤ length m.tasks) (A : AreRenamed f m m') (t : ℕ) where
  abbrev Alike : MachineState → MachineState → Type 0
  Alike = AreRenamed f

  either : (b : Bool) (a c a' c' : MachineState) → Alike a a' → Alike c c' → Alike (cond b a c) (cond b a' c')
  either true a c a' c' h k = h
  either false a c a' c' h k = k

  or_to : (o : Option Task) (go go' : Task → MachineState) → ((x : Task) → o ≡ Some x → Alike (go x) (go' (task_to f x))) → Alike (or_same m o go) (or_same m' (option_map (task_to f) o) go')
  or_to None go go' each = A
  or_to (Some x) go go' each = each x refl

  -- THE STORE

  module _ (x : Task) (is : slice_get m.tasks t ≡ Some x) where
    abbrev pub s : StepContext
    s = setting m t x

    pub sees : Sees f g R.back s m'.edges (owner_of m'.tasks) x.top m.store m'.store (λ b k i. Unit {0})
    sees = record {
      count = ap (λ w. length (row_of w)) (A.objects t) ∙ (ap (λ (w : List Object). length w) (row_to f (slice_get m.store t)) ∙ length-map (row_of (slice_get m.store t)) (object_to f));
      objects = λ k held. subst (SeenTo f g R.back s m'.edges (owner_of m'.tasks) x.top m.store m'.store (λ b k i. Unit {0}) k (object_at m.store k)) (sym (object_there n f g R m m' A k)) (seen k (object_at m.store k));
      owners = λ k held. ap (λ a. a == f t) (owner_to n f g R m m' K K' A k.task) ∙ same_task f g R.back (owner_of m.tasks k.task) t;
      tests = λ k q o i held was may got. subst (TestTo f g R.back s m'.edges (owner_of m'.tasks) x.top m.store m'.store (λ b k i. Unit {0}) (object_at m.store q)) (sym (object_there n f g R m m' A q)) (tested (object_at m.store q));
    }
      where
        seen : (k : Name) (o : Option Object) → SeenTo f g R.back s m'.edges (owner_of m'.tasks) x.top m.store m'.store (λ b k i. Unit {0}) k o (option_map (object_to f) o)
        seen k None = tt
        seen k (Some o) = record { mutable = refl; refs = length-map o.refs (ref_to f); ints = refl; ref_at = λ i may. slice_get-map (ref_to f) o.refs i; int_at = λ i may. refl }

        tested : (o : Option Object) → TestTo f g R.back s m'.edges (owner_of m'.tasks) x.top m.store m'.store (λ b k i. Unit {0}) o (option_map (object_to f) o)
        tested None = tt
        tested (Some o) = test_to n f g R m m' K K' A o.strand s.strand

    abbrev pub Acts : Instr → Effect → Effect → Type 0
    Acts = EffectTo f g R.back s m'.edges (owner_of m'.tasks) x.top m.store m'.store (λ b k i. Unit {0})

    pub acts : (instr : Instr) → Acts instr (effect s x.top m.store instr) (effect (setting m' (f t) (task_to f x)) (frame_to f x.top) m'.store instr)
    acts instr =
        subst (λ lim. Acts instr (effect s x.top m.store instr) (effect (record { task = f t; strand = strand (f t) x.joins; field_limit = lim; edges = m'.edges; owner = owner_of m'.tasks }) (frame_to f x.top) m'.store instr)) (sym A.limit)
        (effect_carried f g R.back s m'.edges (owner_of m'.tasks) x.top m.store m'.store (λ b k i. Unit {0}) sees instr (λ b k i touches. tt))

    shift : (st st' a a' : List (List Object)) → st ≡ a → st' ≡ a' → StoreTo n f g R m m' A a a' → StoreTo n f g R m m' A st st'
    shift st st' a a' e e' L u = ap (λ w. slice_get w (f u)) e' ∙ (L u ∙ ap (λ w. option_map (map (object_to f)) (slice_get w u)) (sym e))

    -- one row is written
    row_set : (u : ℕ) (row row' : List Object) → row' ≡ map (object_to f) row → StoreTo n f g R m m' A (slice_set m.store u row) (slice_set m'.store (f u) row')
    row_set u row row' e v = ap (λ w. slice_get (slice_set m'.store (f u) w) (f v)) e ∙ set_to f g R.back (map (object_to f)) m.store m'.store u row A.objects v

    rows_at : (u : ℕ) → row_of (slice_get m'.store (f u)) ≡ map (object_to f) (row_of (slice_get m.store u))
    rows_at u = ap row_of (A.objects u) ∙ row_to f (slice_get m.store u)

    edit_there : (e : Edit) (o : Object) → edited (edit_to f e) (object_to f o) ≡ object_to f (edited e o)
    edit_there (SetRef at v) o = ap (λ rs. record (object_to f o) { refs = rs }) (sym (map-set (ref_to f) o.refs at v))
    edit_there (SetNumber at k) o = refl
    edit_there Freezes o = refl

    put_there : (row : List Object) (c : ℕ) (e : Edit) (o : Option Object) → put_in (map (object_to f) row) c (edit_to f e) (option_map (object_to f) o) ≡ map (object_to f) (put_in row c e o)
    put_there row c e None = refl
    put_there row c e (Some o) = ap (slice_set (map (object_to f) row) c) (edit_there e o) ∙ sym (map-set (object_to f) row c (edited e o))

    change_there : (op : Change) → StoreTo n f g R m m' A (changed op t m.store) (changed (change_to f op) (f t) m'.store)
    change_there Same = A.objects
    change_there (Grows o) =
        row_set t (row_of (slice_get m.store t) ++ o ∷ []) (row_of (slice_get m'.store (f t)) ++ object_to f o ∷ [])
        (ap (λ w. w ++ object_to f o ∷ []) (rows_at t) ∙ sym (map-append (object_to f) (row_of (slice_get m.store t)) (o ∷ [])))
    change_there (Edits k e) =
        let row : List Object = row_of (slice_get m.store k.task) in
        row_set k.task (put_in row k.count e (slice_get row k.count)) (put_in (row_of (slice_get m'.store (f k.task))) k.count (edit_to f e) (slice_get (row_of (slice_get m'.store (f k.task))) k.count))
        (ap (λ w. put_in w k.count (edit_to f e) (slice_get w k.count)) (rows_at k.task)
        ∙ (ap (put_in (map (object_to f) row) k.count (edit_to f e)) (slice_get-map (object_to f) row k.count) ∙ put_there row k.count e (slice_get row k.count)))

    -- RETURNS

    abbrev x' : Task
    x' = task_to f x

    result_there : result_of (frame_to f x.top) ≡ result_to f (result_of x.top)
    result_there = ap (λ r. (int_in x.top 0, r)) (ref_carried f g R.back x.top 0)

    ended_there : ended_task x' (result_of x'.top) ≡ task_to f (ended_task x (result_of x.top))
    ended_there = ap (ended_task x') result_there

    pair_left : is_left t ≡ true → f (t + 1) ≡ f t + 1
    pair_left side = sym (sym (cond-true (is_left (f t)) (f t + 1) (f t - 1) (R.sides t ∙ side)) ∙ (R.siblings t ∙ ap f (cond-true (is_left t) (t + 1) (t - 1) side)))

    pair_right : is_left t ≡ false → f (t - 1) ≡ f t - 1
    pair_right side = sym (sym (cond-false (is_left (f t)) (f t + 1) (f t - 1) (R.sides t ∙ side)) ∙ (R.siblings t ∙ ap f (cond-false (is_left t) (t + 1) (t - 1) side)))

    par_there : (q : ℕ) → x.parent ≡ Some q → parents m'.tasks (f t) ≡ Some (f q)
    par_there q e = ap parent_of (A.tasks t ∙ ap (option_map (task_to f)) is) ∙ ap (option_map f) e

    by_side : (q : ℕ) (xq y : Task) (other : ℤ × Option Name) → x.parent ≡ Some q → (b : Bool) → is_left t ≡ b
        → Alike (cond b (join_of m q xq t x y (result_of x.top) other) (join_of m q xq (t - 1) y x other (result_of x.top)))
        (cond b (join_of m' (f q) (task_to f xq) (f t) x' (task_to f y) (result_to f (result_of x.top)) (result_to f other)) (join_of m' (f q) (task_to f xq) (f t - 1) (task_to f y) x' (result_to f other) (result_to f (result_of x.top))))
    by_side q xq y other pq true side = joins n f g R m m' A q t xq x y (result_of x.top) other (pair_left side)
    by_side q xq y other pq false side =
        let lt : q < t = K.tree.low t q (ap parent_of is ∙ pq) in
        let lt' : f q < f t = K'.tree.low (f t) (f q) (par_there q pq) in
        let e : f (t - 1) ≡ f t - 1 = pair_right side in
        let up : t - 1 + 1 ≡ t = omega arith in
        let same : f t ≡ f (t - 1) + 1 = omega (arith, e, lt') in
        subst (λ k. Alike (join_of m q xq (t - 1) y x other (result_of x.top)) (join_of m' (f q) (task_to f xq) k (task_to f y) x' (result_to f other) (result_to f (result_of x.top)))) e
        (joins n f g R m m' A q (t - 1) xq y x other (result_of x.top) (ap f up ∙ same))

    by_other : (q : ℕ) → x.parent ≡ Some q → (o : Option (ℤ × Option Name)) → Alike (child_ended_by m t x q (result_of x.top) o) (child_ended_by m' (f t) x' (f q) (result_to f (result_of x.top)) (option_map (result_to f) o))
    by_other q pq None = written n f g R m m' A t (ended_task x (result_of x.top)) _ refl
    by_other q pq (Some other) =
        subst (λ o. Alike (child_ended_by m t x q (result_of x.top) (Some other)) (or_same m' o (λ xq. or_same m' (slice_get m'.tasks (sibling (f t))) (λ y.
        cond (is_left (f t)) (join_of m' (f q) xq (f t) x' y (result_to f (result_of x.top)) (result_to f other)) (join_of m' (f q) xq (f t - 1) y x' (result_to f other) (result_to f (result_of x.top))))))) (sym (A.tasks q))
        (or_to (slice_get m.tasks q) _ _ (λ xq iq.
        subst (λ o. Alike (or_same m (slice_get m.tasks (sibling t)) (λ y. cond (is_left t) (join_of m q xq t x y (result_of x.top) other) (join_of m q xq (t - 1) y x other (result_of x.top)))) (or_same m' o (λ y.
        cond (is_left (f t)) (join_of m' (f q) (task_to f xq) (f t) x' y (result_to f (result_of x.top)) (result_to f other)) (join_of m' (f q) (task_to f xq) (f t - 1) y x' (result_to f other) (result_to f (result_of x.top))))))
        (sym (ap (slice_get m'.tasks) (R.siblings t) ∙ A.tasks (sibling t)))
        (or_to (slice_get m.tasks (sibling t)) _ _ (λ y iy.
        subst (λ b. Alike (cond (is_left t) (join_of m q xq t x y (result_of x.top) other) (join_of m q xq (t - 1) y x other (result_of x.top)))
        (cond b (join_of m' (f q) (task_to f xq) (f t) x' (task_to f y) (result_to f (result_of x.top)) (result_to f other)) (join_of m' (f q) (task_to f xq) (f t - 1) (task_to f y) x' (result_to f other) (result_to f (result_of x.top)))))
        (sym (R.sides t)) (by_side q xq y other pq (is_left t) refl)))))

    by_parent : (o : Option ℕ) → x.parent ≡ o → Alike (last_return m t x o) (last_return m' (f t) x' (option_map f o))
    by_parent None e =
        let A' = written n f g R m m' A t (ended_task x (result_of x.top)) (ended_task x' (result_of x'.top)) ended_there in
        halted n f g R (with_task m t (ended_task x (result_of x.top))) (with_task m' (f t) (ended_task x' (result_of x'.top))) A' Done
    by_parent (Some q) e =
        subst (λ r. Alike (child_ended_by m t x q (result_of x.top) (result_at (slice_get m.tasks (sibling t)))) (child_ended_by m' (f t) x' (f q) r (result_at (slice_get m'.tasks (sibling (f t)))))) (sym result_there)
        (subst (λ o. Alike (child_ended_by m t x q (result_of x.top) (result_at (slice_get m.tasks (sibling t)))) (child_ended_by m' (f t) x' (f q) (result_to f (result_of x.top)) o))
        (sym (ap (λ k. result_at (slice_get m'.tasks k)) (R.siblings t) ∙ (ap result_at (A.tasks (sibling t)) ∙ kept_to f (slice_get m.tasks (sibling t)))))
        (by_other q e (result_at (slice_get m.tasks (sibling t)))))

    by_frame : (o : Option Frame) → Alike (returned_to m t x o) (returned_to m' (f t) x' (option_map (frame_to f) o))
    by_frame None = by_parent x.parent refl
    by_frame (Some a) =
        written n f g R m m' A t (record x { top = back_in a x.top; below = front_of x.below }) (record x' { top = back_in (frame_to f a) (frame_to f x.top); below = front_of (map (frame_to f) x.below) })
        (λ j. record x' { top = back_there a j; below = front_map (frame_to f) x.below j })
      where
        back_there : (a : Frame) → back_in (frame_to f a) (frame_to f x.top) ≡ frame_to f (back_in a x.top)
        back_there a = ap (with_ref (frame_to f (with_int a 0 (int_in x.top 0))) 0) (ref_carried f g R.back x.top 0) ∙ set_carried f g R.back (with_int a 0 (int_in x.top 0)) 0 (ref_in x.top 0)

    -- STEPS

    pub follow_to : (line : ℕ) (i : Instr) (e e' : Effect) → Acts i e e' → Alike (follow m t x line e) (follow m' (f t) x' line e')
    follow_to line i (Goes a st) (Goes b st') h =
        own n f g R m m' A t (record x { top = a }) (record x' { top = b }) st st' m.outputs m'.outputs (ap (λ w. record x' { top = w }) h.1) (shift st st' _ _ h.2 h.3 (change_there h.0))
    follow_to line i (Prints k) (Prints l) h = own n f g R m m' A t (record x { top = onward x.top }) _ m.store m'.store (m.outputs ++ k ∷ []) (m'.outputs ++ l ∷ []) refl A.objects
    follow_to line i (Calls a) (Calls b) h =
        subst (λ c. Alike (called m t x a line) (called m' (f t) x' c line)) (sym h)
        (subst (λ k. Alike (called m t x a line) (cond (nat_lt (k + 1) frame_limit) (with_task m' (f t) (record x' { top = entry_frame a (frame_to f x.top); below = map (frame_to f) x.below ++ onward (frame_to f x.top) ∷ [] })) (ended_by m' (Trapped Depth (f t) line))))
        (sym (length-map x.below (frame_to f)))
        (either (nat_lt (length x.below + 1) frame_limit) _ _ _ _
        (written n f g R m m' A t (record x { top = entry_frame a x.top; below = x.below ++ onward x.top ∷ [] }) _ (ap (λ fs. record x' { top = entry_frame a (frame_to f x.top); below = fs }) (sym (map-append (frame_to f) x.below (onward x.top ∷ [])))))
        (halted n f g R m m' A (Trapped Depth t line))))
    follow_to line i (Forks a b) (Forks c d) h =
        subst (λ (w : ℕ × ℕ). Alike (forked m t x a b line) (forked m' (f t) x' w.0 w.1 line)) (λ j. (sym h.0 j, sym h.1 j))
        (either (nat_lt x.depth depth_limit) _ _ _ _
        (forks n f g R m m' A made rows rows' t x (record x { status = Waiting; top = onward x.top }) (child t (x.depth + 1) a x.top) (child t (x.depth + 1) b x.top) _ _ x.joins refl refl)
        (halted n f g R m m' A (Trapped Depth t line)))
    follow_to line i Returns Returns h = subst (λ o. Alike (returned m t x) (returned_to m' (f t) x' o)) (sym (last_map (frame_to f) x.below)) (by_frame (last_of x.below))
    follow_to line i (Traps a) (Traps b) h = subst (λ k. Alike (ended_by m (Trapped a t line)) (ended_by m' (Trapped k (f t) line))) (sym h) (halted n f g R m m' A (Trapped a t line))
    follow_to line i (Stops a) (Stops b) h =
        subst (λ k. Alike (ended_by m (Entangled t (owner_of m.tasks a.task))) (ended_by m' (Entangled (f t) k)))
        (sym (ap (λ (w : Name). owner_of m'.tasks w.task) h ∙ owner_to n f g R m m' K K' A a.task)) (halted n f g R m m' A (Entangled t (owner_of m.tasks a.task)))
    follow_to line i _ _ h = absurd h

    line_to : (o : Option Line) → Alike (stepped p m t x o) (stepped p m' (f t) x' o)
    line_to None = A
    line_to (Some line) = follow_to line.number line.instr (effect s x.top m.store line.instr) _ (acts line.instr)

  pub step_to : Alike (step p m t) (step p m' (f t))
  step_to =
      subst (λ b. Alike (step p m t) (cond b (or_same m' (slice_get m'.tasks (f t)) (λ y. stepped p m' (f t) y (fetched p y.top))) m')) (sym (can_to n f g R m m' A t))
      (either (can_step m t) _ m _ m'
      (subst (λ o. Alike (or_same m (slice_get m.tasks t) (λ y. stepped p m t y (fetched p y.top))) (or_same m' o (λ y. stepped p m' (f t) y (fetched p y.top)))) (sym (A.tasks t))
      (or_to (slice_get m.tasks t) _ _ (λ x is. line_to x is (fetched p x.top)))) A)
