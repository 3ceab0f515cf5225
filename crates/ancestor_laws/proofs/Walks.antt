-- Walks along edges between strands.
use Rattle.ancestor_laws.proofs.Common.{◌≡◌, ℕ, zero, suc, ◌+◌, ◌-◌, ◌<◌, ◌≤◌, length, inl, inr, refl, ap, sym, subst, ◌∙◌, arith, slice_get_within, got_some, reached_within, reached_more, Spawn, Join, GraphStrand, TaskTurns, strand, first_of, last_of, HasStrand, ContinuesTo, Spawns, JoinsTo, IsGraphEdge, StrandPrecedes, IsAttached, IsParent, IsAncestor, IsForkJoin, IsNested}
use Rattle.ancestor_laws.proofs.Trees.{IsLine, itself, below, no_root_parent, joins_child, parent_line}

pub strand_is : (u : GraphStrand) (t i : ℕ) → u.task ≡ t → u.index ≡ i → u ≡ strand t i
strand_is u t i e f = ap (λ x. strand x u.index) e ∙ ap (λ x. strand t x) f

module _ (tasks : TaskTurns) where
  pub precedes_itself : (u : GraphStrand) → StrandPrecedes tasks u u
  precedes_itself u = (zero, refl)

  pub same_strand : (u v : GraphStrand) → v ≡ u → StrandPrecedes tasks u v
  same_strand u v e = (zero, e)

  pub and_then : (u m v : GraphStrand) → StrandPrecedes tasks u m → IsGraphEdge tasks m v → StrandPrecedes tasks u v
  and_then u m v w e = reached_more (λ (x : GraphStrand). x ≡ u) (IsGraphEdge tasks) m v w e

  pub both : (u m v : GraphStrand) → StrandPrecedes tasks u m → StrandPrecedes tasks m v → StrandPrecedes tasks u v
  both u m v w more =
      reached_within (λ (x : GraphStrand). x ≡ m) (IsGraphEdge tasks) (StrandPrecedes tasks u)
      (λ a e. subst (StrandPrecedes tasks u) (sym e) w)
      (λ x a p e. and_then u x a p e) v more

  along_by : (d t i j : ℕ) → i + d ≡ j → j ≤ length (tasks t) → StrandPrecedes tasks (strand t i) (strand t j)
  along_by zero t i j e le = same_strand (strand t i) (strand t j) (ap (strand t) (let s : j ≡ i = omega arith in s))
  along_by (suc d) t i j e le =
      let m : ℕ = i + d in
      let one : j ≡ m + 1 = omega arith in
      let turn = got_some (tasks t) m (omega arith) in
      and_then (strand t i) (strand t m) (strand t j)
      (along_by d t i m refl (omega arith))
      (inl (turn.0, turn.1, ap (strand t) one))

  pub along : (t i j : ℕ) → i ≤ j → j ≤ length (tasks t) → StrandPrecedes tasks (strand t i) (strand t j)
  along t i j le in_task = along_by (j - i) t i j (omega arith) in_task

  descend_by : (c k t : ℕ) → IsLine tasks c k t → StrandPrecedes tasks (first_of c) (first_of t)
  descend_by c zero t e = same_strand (first_of c) (first_of t) (ap first_of e)
  descend_by c (suc k) t w =
      let p = w.0 in
      let i = w.2.0 in
      let lt : i < length (tasks p) = slice_get_within (tasks p) i (Spawn t) w.2.1 in
      and_then (first_of c) (strand p i) (first_of t)
      (both (first_of c) (first_of p) (strand p i) (descend_by c k p w.1) (along p 0 i (omega arith) (omega arith)))
      (inr (inl (t, w.2.1, refl)))

  -- a task's first strand precedes that of each task below it
  pub descend : (c t : ℕ) → IsAncestor tasks c t → StrandPrecedes tasks (first_of c) (first_of t)
  descend c t w = descend_by c w.0 t w.1

module _ (tasks : TaskTurns) (n : IsNested tasks) where
  climb_by : (c k t : ℕ) → IsLine tasks c k t → StrandPrecedes tasks (last_of tasks t) (last_of tasks c)
  climb_by c zero t e = same_strand tasks (last_of tasks t) (last_of tasks c) (ap (last_of tasks) (sym e))
  climb_by c (suc k) t w =
      let p = w.0 in
      let join = n.all_joined t p w.2.0 w.2.1 in
      let j = join.0 in
      let lt : j < length (tasks p) = slice_get_within (tasks p) j (Join t) join.1 in
      let up = and_then tasks (last_of tasks t) (last_of tasks t) (strand p (j + 1)) (precedes_itself tasks (last_of tasks t)) (inr (inr (p, j, t, join.1, refl, refl))) in
      both tasks (last_of tasks t) (strand p (j + 1)) (last_of tasks c) up
      (both tasks (strand p (j + 1)) (last_of tasks p) (last_of tasks c)
      (along tasks p (j + 1) (length (tasks p)) (omega arith) (omega arith))
      (climb_by c k p w.1))

  -- a task's last strand precedes that of each ancestor
  pub climb : (c t : ℕ) → IsAncestor tasks c t → StrandPrecedes tasks (last_of tasks t) (last_of tasks c)
  climb c t w = climb_by c w.0 t w.1

-- STRANDS THAT WALKS LEAD TO

-- it is a strand of a task below the root
pub record IsRooted (tasks : TaskTurns) (u : GraphStrand) : Type 0 where
  pub stands : HasStrand tasks u
  pub rooted : IsAncestor tasks 0 u.task

module _ (tasks : TaskTurns) (fj : IsForkJoin tasks) where
  rooted_on : (u v : GraphStrand) → IsRooted tasks u → ContinuesTo tasks u v → IsRooted tasks v
  rooted_on u v r (turn, h, e) =
      let lt : u.index < length (tasks u.task) = slice_get_within (tasks u.task) u.index turn h in
      subst (IsRooted tasks) (sym e) (record { stands = omega arith; rooted = r.rooted })

  rooted_spawn : (u v : GraphStrand) → IsRooted tasks u → Spawns tasks u v → IsRooted tasks v
  rooted_spawn u v r (c, h, e) =
      subst (IsRooted tasks) (sym e) (record { stands = omega arith; rooted = below tasks 0 u.task c r.rooted (u.index, h) })

  rooted_join : (u v : GraphStrand) → IsRooted tasks u → JoinsTo tasks u v → IsRooted tasks v
  rooted_join u v r (t, i, c, h, eu, ev) =
      let lt : i < length (tasks t) = slice_get_within (tasks t) i (Join c) h in
      let up = joins_child tasks fj t i c h in
      let root : IsAncestor tasks 0 c = subst (λ (x : GraphStrand). IsAncestor tasks 0 x.task) eu r.rooted in
      subst (IsRooted tasks) (sym ev) (record {
        stands = omega arith;
        rooted = parent_line tasks fj 0 t c (λ e. no_root_parent tasks fj t (subst (IsParent tasks t) e up)) up root;
      })

  pub rooted_more : (u v : GraphStrand) → IsRooted tasks u → IsGraphEdge tasks u v → IsRooted tasks v
  rooted_more u v r (inl on) = rooted_on u v r on
  rooted_more u v r (inr (inl spawn)) = rooted_spawn u v r spawn
  rooted_more u v r (inr (inr join)) = rooted_join u v r join

  pub rooted_walk : (u v : GraphStrand) → IsRooted tasks u → StrandPrecedes tasks u v → IsRooted tasks v
  rooted_walk u v r w =
      reached_within (λ (x : GraphStrand). x ≡ u) (IsGraphEdge tasks) (IsRooted tasks)
      (λ a e. subst (IsRooted tasks) (sym e) r) (λ m a p e. rooted_more m a p e) v w

  pub attached_rooted : (u : GraphStrand) → IsAttached tasks u → IsRooted tasks u
  attached_rooted u w = rooted_walk (first_of 0) u (record { stands = omega arith; rooted = itself tasks 0 }) w

-- and to each of them one leads
pub rooted_attached : (tasks : TaskTurns) (u : GraphStrand) → IsRooted tasks u → IsAttached tasks u
rooted_attached tasks u r =
    both tasks (first_of 0) (first_of u.task) u (descend tasks 0 u.task r.rooted) (along tasks u.task 0 u.index (omega arith) r.stands)
