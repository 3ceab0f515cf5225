-- The strands that a walk has left make up the rest of the serial order.
use Rattle.log_walk.proofs.Common.{◌≡◌, ℕ, zero, suc, ◌+◌, ◌-◌, ◌≤◌, Option, Some, None, List, [], ◌∷◌, ◌++◌, length, drop, slice_get, inl, inr, refl, ap, sym, subst, ◌∙◌, arith, append_assoc, append-nil, length-append, same_Some, slice_get_within, none_some, got_front, got_last, got_more, GraphTurn, Spawn, Join, GraphStrand, TaskTurns, strand, first_of, Does, serial_rest, serial_in, serial_order, AreLevels, IsLine, Walk, following, visited}

-- what a task still has to do from its strand on, with those below it on so many levels
abbrev pub rest_from : TaskTurns → ℕ → GraphStrand → List GraphStrand
rest_from tasks l u = serial_rest (serial_in tasks l) u.task u.index (drop u.index (tasks u.task))

-- what all tasks of a stack still have to do, the last one first
abbrev pub rest_of : TaskTurns → ℕ → List GraphStrand → List GraphStrand
rest_of tasks l [] = []
rest_of tasks zero (u ∷ us) = []
rest_of tasks (suc l) (u ∷ us) = rest_of tasks l us ++ rest_from tasks l u

drop_none : (ts : List GraphTurn) (i : ℕ) → slice_get ts i ≡ None → drop i ts ≡ []
drop_none [] zero h = refl
drop_none [] (suc i) h = refl
drop_none (t ∷ ts) zero h = absurd cc
drop_none (t ∷ ts) (suc i) h = drop_none ts i h

drop_some : (ts : List GraphTurn) (i : ℕ) (turn : GraphTurn) → slice_get ts i ≡ Some turn → drop i ts ≡ turn ∷ drop (suc i) ts
drop_some [] i turn h = none_some h
drop_some (t ∷ ts) zero turn h = ap (λ x. x ∷ ts) (same_Some t turn h)
drop_some (t ∷ ts) (suc i) turn h = drop_some ts i turn h

module _ (tasks : TaskTurns) where
  next_rest : (l : ℕ) (u : GraphStrand) → serial_rest (serial_in tasks l) u.task (u.index + 1) (drop (suc u.index) (tasks u.task)) ≡ rest_from tasks l (strand u.task (u.index + 1))
  next_rest l u = ap (λ i. serial_rest (serial_in tasks l) u.task (u.index + 1) (drop i (tasks u.task))) (let e : suc u.index ≡ u.index + 1 = omega arith in e)

  rest_last : (l : ℕ) (u : GraphStrand) → slice_get (tasks u.task) u.index ≡ None → rest_from tasks l u ≡ u ∷ []
  rest_last l u h = ap (serial_rest (serial_in tasks l) u.task u.index) (drop_none (tasks u.task) u.index h)

  rest_join : (l : ℕ) (u : GraphStrand) (c : ℕ) → slice_get (tasks u.task) u.index ≡ Some (Join c) → rest_from tasks l u ≡ u ∷ rest_from tasks l (strand u.task (u.index + 1))
  rest_join l u c h =
      ap (serial_rest (serial_in tasks l) u.task u.index) (drop_some (tasks u.task) u.index (Join c) h) ∙ ap (λ xs. u ∷ xs) (next_rest l u)

  rest_spawn : (l : ℕ) (u : GraphStrand) (c : ℕ) → slice_get (tasks u.task) u.index ≡ Some (Spawn c)
      → rest_from tasks l u ≡ u ∷ (serial_in tasks l c ++ rest_from tasks l (strand u.task (u.index + 1)))
  rest_spawn l u c h =
      ap (serial_rest (serial_in tasks l) u.task u.index) (drop_some (tasks u.task) u.index (Spawn c) h)
      ∙ ap (λ xs. u ∷ (serial_in tasks l c ++ xs)) (next_rest l u)

  rest_push : (l m : ℕ) (us : List GraphStrand) (u : GraphStrand) → m + suc (length us) ≡ l → rest_of tasks l (us ++ u ∷ []) ≡ rest_from tasks m u ++ rest_of tasks l us
  rest_push zero m [] u e = absurd (omega arith)
  rest_push (suc l) m [] u e =
      let same : l ≡ m = omega arith in
      ap (λ k. rest_from tasks k u) same ∙ sym (append-nil (rest_from tasks m u))
  rest_push zero m (v ∷ us) u e = absurd (omega arith)
  rest_push (suc l) m (v ∷ us) u e =
      ap (λ xs. xs ++ rest_from tasks l v) (rest_push l m us u (omega arith)) ∙ append_assoc (rest_from tasks m u) (rest_of tasks l us) (rest_from tasks l v)

-- each frame's task stands as far below the root as the frame does above the stack's bottom, and what was visited and
-- what is left are the whole order
pub record IsWalking (tasks : TaskTurns) (levels : ℕ) (walk : Walk) : Type 0 where
  pub frames : (j : ℕ) (u : GraphStrand) → slice_get walk.stack j ≡ Some u → IsLine tasks 0 j u.task
  pub deep : length walk.stack ≤ levels
  pub whole : walk.order ++ rest_of tasks levels walk.stack ≡ serial_order tasks levels

-- how many strands are left
abbrev pub left : TaskTurns → ℕ → Walk → ℕ
left tasks levels walk = length (rest_of tasks levels walk.stack)

module _ (tasks : TaskTurns) (levels : ℕ) (enough : AreLevels tasks levels) where
  one_frame : (j : ℕ) (u : GraphStrand) → slice_get (first_of 0 ∷ []) j ≡ Some u → IsLine tasks 0 j u.task
  one_frame zero u h = ap (λ (x : GraphStrand). x.task) (sym (same_Some (first_of 0) u h))
  one_frame (suc j) u h = none_some h

  some_levels : (l : ℕ) → l ≡ levels → (k : ℕ) × (suc k ≡ levels)
  some_levels zero e = absurd (enough 0 (subst (λ n. IsLine tasks 0 n 0) e refl))
  some_levels (suc k) e = (k, e)

  pub walk_start : IsWalking tasks levels (record { order = []; stack = first_of 0 ∷ [] })
  walk_start =
      let k = some_levels levels refl in
      let e : suc k.0 ≡ levels = k.1 in
      record {
        frames = one_frame;
        deep = omega arith;
        whole = subst (λ n. rest_of tasks n (first_of 0 ∷ []) ≡ serial_order tasks n) e refl;
      }

  -- what a step makes of the rest
  module _ (us : List GraphStrand) (u : GraphStrand) (m : ℕ) (level : m + suc (length us) ≡ levels) (line : IsLine tasks 0 (length us) u.task) where
    child_level : (c : ℕ) → Does tasks u.task u.index (Spawn c) → (k : ℕ) → k ≡ m → (k' : ℕ) × (suc k' ≡ m)
    child_level c h zero e =
        let at : suc (length us) ≡ levels = omega arith in
        absurd (enough c (subst (λ n. IsLine tasks 0 n c) at (u.task, line, (u.index, h))))
    child_level c h (suc k) e = (k, e)

    step_rest : (o : Option GraphTurn) → slice_get (tasks u.task) u.index ≡ o → u ∷ rest_of tasks levels (us ++ following u o) ≡ rest_of tasks levels (us ++ u ∷ [])
    step_rest None h =
        ap (λ xs. u ∷ rest_of tasks levels xs) (append-nil us)
        ∙ sym (rest_push tasks levels m us u level ∙ ap (λ xs. xs ++ rest_of tasks levels us) (rest_last tasks m u h))
    step_rest (Some (Join c)) h =
        ap (λ xs. u ∷ xs) (rest_push tasks levels m us (strand u.task (u.index + 1)) level)
        ∙ sym (rest_push tasks levels m us u level ∙ ap (λ xs. xs ++ rest_of tasks levels us) (rest_join tasks m u c h))
    step_rest (Some (Spawn c)) h =
        let next = strand u.task (u.index + 1) in
        let k = child_level c h m refl in
        let e : suc k.0 ≡ m = k.1 in
        let more : List GraphStrand = us ++ next ∷ [] in
        let size : length more ≡ length us + 1 = length-append us (next ∷ []) in
        let child : serial_in tasks m c ≡ rest_from tasks k.0 (first_of c) = ap (λ n. serial_in tasks n c) (sym e) in
        let pushed : us ++ (next ∷ (first_of c ∷ [])) ≡ more ++ first_of c ∷ [] = sym (append_assoc us (next ∷ []) (first_of c ∷ [])) in
        let one : rest_of tasks levels (more ++ first_of c ∷ []) ≡ rest_from tasks k.0 (first_of c) ++ rest_of tasks levels more =
        rest_push tasks levels k.0 more (first_of c) (omega arith) in
        let two : rest_of tasks levels more ≡ rest_from tasks m next ++ rest_of tasks levels us = rest_push tasks levels m us next level in
        let left : rest_of tasks levels (us ++ (next ∷ (first_of c ∷ []))) ≡ serial_in tasks m c ++ (rest_from tasks m next ++ rest_of tasks levels us) =
        ap (rest_of tasks levels) pushed ∙ (one ∙ (ap (λ xs. rest_from tasks k.0 (first_of c) ++ xs) two
        ∙ ap (λ xs. xs ++ (rest_from tasks m next ++ rest_of tasks levels us)) (sym child))) in
        let right : rest_of tasks levels (us ++ u ∷ []) ≡ u ∷ ((serial_in tasks m c ++ rest_from tasks m next) ++ rest_of tasks levels us) =
        rest_push tasks levels m us u level ∙ ap (λ xs. xs ++ rest_of tasks levels us) (rest_spawn tasks m u c h) in
        ap (λ xs. u ∷ xs) (left ∙ sym (append_assoc (serial_in tasks m c) (rest_from tasks m next) (rest_of tasks levels us))) ∙ sym right

    old_frames : ((j : ℕ) (v : GraphStrand) → slice_get us j ≡ Some v → IsLine tasks 0 j v.task)
        → (j : ℕ) (v : GraphStrand) → slice_get (us ++ strand u.task (u.index + 1) ∷ []) j ≡ Some v → IsLine tasks 0 j v.task
    old_frames frames j v h =
        elim (got_more us (strand u.task (u.index + 1)) v j h) [
          | inl old ↦ frames j v old
          | inr (at, same) ↦ subst (λ k. IsLine tasks 0 k v.task) (sym at) (subst (λ (x : GraphStrand). IsLine tasks 0 (length us) x.task) same line)
        ]

    step_frames : ((j : ℕ) (v : GraphStrand) → slice_get us j ≡ Some v → IsLine tasks 0 j v.task) → (o : Option GraphTurn) → slice_get (tasks u.task) u.index ≡ o
        → (j : ℕ) (v : GraphStrand) → slice_get (us ++ following u o) j ≡ Some v → IsLine tasks 0 j v.task
    step_frames frames None h j v g = frames j v (subst (λ (xs : List GraphStrand). slice_get xs j ≡ Some v) (append-nil us) g)
    step_frames frames (Some (Join c)) h j v g = old_frames frames j v g
    step_frames frames (Some (Spawn c)) h j v g =
        let next = strand u.task (u.index + 1) in
        let more : List GraphStrand = us ++ next ∷ [] in
        let size : length more ≡ suc (length us) = length-append us (next ∷ []) ∙ (let e : length us + 1 ≡ suc (length us) = omega arith in e) in
        elim (got_more more (first_of c) v j (subst (λ (xs : List GraphStrand). slice_get xs j ≡ Some v) (sym (append_assoc us (next ∷ []) (first_of c ∷ []))) g)) [
          | inl old ↦ old_frames frames j v old
          | inr (at, same) ↦
              let here : IsLine tasks 0 (suc (length us)) c = (u.task, line, (u.index, h)) in
              subst (λ k. IsLine tasks 0 k v.task) (sym (at ∙ size)) (subst (λ (x : GraphStrand). IsLine tasks 0 (suc (length us)) x.task) same here)
        ]

    step_deep : (o : Option GraphTurn) → slice_get (tasks u.task) u.index ≡ o → length (us ++ following u o) ≤ levels
    step_deep None h = let e : length (us ++ []) ≡ length us = ap length (append-nil us) in omega arith
    step_deep (Some (Join c)) h = let e : length (us ++ strand u.task (u.index + 1) ∷ []) ≡ length us + 1 = length-append us (strand u.task (u.index + 1) ∷ []) in omega arith
    step_deep (Some (Spawn c)) h =
        let k = child_level c h m refl in
        let e : suc k.0 ≡ m = k.1 in
        let size : length (us ++ (strand u.task (u.index + 1) ∷ (first_of c ∷ []))) ≡ length us + 2 = length-append us (strand u.task (u.index + 1) ∷ (first_of c ∷ [])) in
        omega arith

  -- a strand is taken from the stack and visited
  pub walk_step : (walk popped : Walk) (u : GraphStrand) → walk.order ≡ popped.order → walk.stack ≡ popped.stack ++ u ∷ []
      → IsWalking tasks levels walk → IsWalking tasks levels (visited tasks popped u) × (suc (left tasks levels (visited tasks popped u)) ≡ left tasks levels walk)
  walk_step walk popped u eo es w =
      let us = popped.stack in
      let size : length walk.stack ≡ length us + 1 = ap length es ∙ length-append us (u ∷ []) in
      let deep : length walk.stack ≤ levels = w.deep in
      let m = levels - suc (length us) in
      let level : m + suc (length us) ≡ levels = omega arith in
      let at : slice_get walk.stack (length us) ≡ Some u = ap (λ (xs : List GraphStrand). slice_get xs (length us)) es ∙ got_last us u in
      let line = w.frames (length us) u at in
      let turn = slice_get (tasks u.task) u.index in
      let rest = step_rest us u m level line turn refl in
      let front : (j : ℕ) (v : GraphStrand) → slice_get us j ≡ Some v → IsLine tasks 0 j v.task = λ j v h.
      w.frames j v (ap (λ (xs : List GraphStrand). slice_get xs j) es ∙ (got_front us (u ∷ []) j (slice_get_within us j v h) ∙ h)) in (
        record {
          frames = step_frames us u m level line front turn refl;
          deep = step_deep us u m level line turn refl;
          whole =
              append_assoc popped.order (u ∷ []) (rest_of tasks levels (us ++ following u turn))
              ∙ (ap (λ xs. popped.order ++ xs) (rest ∙ ap (rest_of tasks levels) (sym es))
              ∙ (ap (λ xs. xs ++ rest_of tasks levels walk.stack) (sym eo) ∙ w.whole));
        },
        ap length (rest ∙ ap (rest_of tasks levels) (sym es)),
      )

pub walk_end : (tasks : TaskTurns) (levels : ℕ) (walk : Walk) → walk.stack ≡ [] → IsWalking tasks levels walk → walk.order ≡ serial_order tasks levels
walk_end tasks levels walk over w =
    sym (append-nil walk.order) ∙ (ap (λ (xs : List GraphStrand). walk.order ++ rest_of tasks levels xs) (sym over) ∙ w.whole)
