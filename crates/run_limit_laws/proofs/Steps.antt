-- The lines of a step are within the limits, and their acts have an open strand.
use Rattle.run_limit_laws.proofs.Common.{◌≡◌, ◌<◌, ◌≤◌, ◌+◌, ◌*◌, ◌-◌, ℕ, Bool, true, false, cond, Option, Some, None, IfSome, List, [], ◌∷◌, ◌++◌, length, slice_get, max, refl, ap, ◌∙◌, arith, slice_get_within, Counted, SizesIn, object_at, row_of, next_name, is_left, parents, parent_of, IsStored, joins_in, joins_of, MachineState, Name, Object, Task, TaskStatus, Running, Waiting, Ended, Joined, IsLogNumber, IsAct, LogLine, block_of, field_count, act_line, join_lines, left_of, moved_lines, turn_lines, GraphStrand, strand, spot_after, Event, Spot, spot_behind, Act, FitInLog}
use Rattle.run_turn_laws.specs.below.line_kinds as lines
use Rattle.run_turn_laws.specs.below.log_lines as acts

-- LINES ONE AFTER ANOTHER

pub fit_both : (s : Spot) (xs ys : List LogLine) → FitInLog s xs → FitInLog (spot_after s xs) ys → FitInLog s (xs ++ ys)
fit_both s [] ys h k = k
fit_both s (x ∷ xs) ys h k = (h.0, fit_both (spot_behind s x) xs ys h.1 k)

pub act_fits : (s : Spot) (u : GraphStrand) → s.here ≡ Some u → (o : Option Act) → IfSome o IsAct → FitInLog s (act_line o)
act_fits s u here None h = tt
act_fits s u here (Some a) h = ((h, (u, here)), tt)

-- NUMBERS OF A STATE AFTER k STEPS

module _ (m : MachineState) (k : ℕ) (C : Counted k m.tasks m.store) (few : k < 500000000) where
  pub few_tasks : length m.tasks < 1000000000
  few_tasks = let h = C.made in omega (arith, h, few)

  pub few_joins : (t : ℕ) → joins_in m.tasks t < 500000000
  few_joins t = by (slice_get m.tasks t) refl
    where
      by : (o : Option Task) → slice_get m.tasks t ≡ o → joins_of o < 500000000
      by None e = omega arith
      by (Some x) e = let h = C.joins t x e in omega (arith, h, few)

  -- an object's row is that of a task
  row_there : (t i : ℕ) (o : Object) → slice_get (row_of (slice_get m.store t)) i ≡ Some o → t < length m.tasks
  row_there t i o e = by (slice_get m.store t) refl e
    where
      by : (r : Option (List Object)) → slice_get m.store t ≡ r → slice_get (row_of r) i ≡ Some o → t < length m.tasks
      by None is h = absurd cc
      by (Some row) is h = let w = slice_get_within m.store t row is in let r = C.rows in omega (arith, w, r)

  pub stored_fits : (n : Name) → IsStored m n → IsLogNumber (block_of n)
  stored_fits n s =
      let a = row_there n.task n.count s.0 s.1 in
      let b = slice_get_within (row_of (slice_get m.store n.task)) n.count s.0 s.1 in
      let c = C.objects n.task in
      let d = few_tasks in
      omega (arith, a, b, c, d, few)

  pub made_fits : (t : ℕ) → t < length m.tasks → IsLogNumber (block_of (next_name t m.store))
  made_fits t lt = let c = C.objects t in let d = few_tasks in omega (arith, lt, c, d, few)

-- an object's fields
pub sizes_fit : (m : MachineState) (S : SizesIn m) (limit : m.field_limit ≤ 1000000) (n : Name) (o : Object) → object_at m.store n ≡ Some o → length o.refs + length o.ints ≤ 1000000
sizes_fit m S limit n o is = let h = S.together n o is in at_most m.field_limit (length o.refs + length o.ints) h limit
  where
    at_most : (a b : ℕ) → b ≤ max a 32 → a ≤ 1000000 → b ≤ 1000000
    at_most a b h l = omega (arith, h, l)

pub count_fits : (m : MachineState) (S : SizesIn m) (limit : m.field_limit ≤ 1000000) (n : Name) → field_count (object_at m.store n) ≤ 1000000
count_fits m S limit n = by (object_at m.store n) refl
  where
    by : (o : Option Object) → object_at m.store n ≡ o → field_count o ≤ 1000000
    by None e = omega arith
    by (Some o) e = sizes_fit m S limit n o e

-- TURNS

-- where the task's last step led to, in a state of few tasks and joins
module _ (made : ℕ) (m : MachineState) (t : ℕ) (made_few : made < 1000000000) (few : length m.tasks < 1000000000) (joins : (u : ℕ) → joins_in m.tasks u < 500000000)
    (low : (u q : ℕ) → parents m.tasks u ≡ Some q → q < u) (closed : Bool) (events : List Event) (u : GraphStrand) where
  abbrev s : Spot
  s = record { here = Some u; closed = closed; events = events }

  left_low : (b : Bool) → cond b t (t - 1) ≤ t
  left_low true = omega arith
  left_low false = omega arith

  join_fits : (q : Option ℕ) → t < length m.tasks → ((p : ℕ) → q ≡ Some p → p < t) → FitInLog (spot_behind s (lines.Act acts.Finish)) (join_lines m (left_of t) q)
  join_fits None lt below = tt
  join_fits (Some p) lt below =
      let b = below p refl in
      let j = joins p in
      let l : left_of t ≤ t = left_low (is_left t) in (
        ((omega (arith, b, lt, few), omega (arith, j)), tt),
        ((omega (arith, l, lt, few), (strand p (4 * joins_in m.tasks p - 2), refl)), ((omega (arith, l, lt, few), (strand p (4 * joins_in m.tasks p - 2 + 1), refl)), tt)),
      )

  turn_fits : (parent : Option ℕ) (status : TaskStatus) → t < length m.tasks → ((p : ℕ) → parent ≡ Some p → p < t) → FitInLog s (turn_lines made m t parent status)
  turn_fits parent Running lt below = tt
  turn_fits parent Waiting lt below = ((omega (arith, made_few), (u, refl)), ((omega (arith, made_few), (strand u.task (u.index + 1), refl)), tt))
  turn_fits parent (Ended k n) lt below = ((tt, (u, refl)), tt)
  turn_fits parent Joined lt below = ((tt, (u, refl)), join_fits parent lt below)

  pub moved_fits : FitInLog s (moved_lines made m t (slice_get m.tasks t))
  moved_fits = by (slice_get m.tasks t) refl
    where
      by : (o : Option Task) → slice_get m.tasks t ≡ o → FitInLog s (moved_lines made m t o)
      by None e = tt
      by (Some x) e = turn_fits x.parent x.status (slice_get_within m.tasks t x e) (λ p h. low t p (ap parent_of e ∙ h))
