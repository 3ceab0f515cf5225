-- Walks by their weight.
use Rattle.ancestor_laws.proofs.Common.{◌≡◌, ℕ, zero, suc, ◌+◌, ◌<◌, ◌≤◌, max, length, ◌⊎◌, inl, inr, refl, ap, sym, subst, ◌∙◌, arith, cases_lt, same_Some, reached_within, Spawn, Join, GraphStrand, TaskTurns, strand, first_of, last_of, Does, IsGraphEdge, StrandPrecedes, IsAttached, IsForkJoin, same_join, spawn_no_join, HasWalk, IsReach, AreReaches, SpanIsLongest}
use Rattle.ancestor_laws.proofs.Walks.{and_then, both, along, climb, attached_rooted}

-- WHAT LEADS TO A STRAND

module _ (tasks : TaskTurns) (fj : IsForkJoin tasks) where
  pub leads_root : {A : Type 0} (m : GraphStrand) → IsGraphEdge tasks m (first_of 0) → A
  leads_root m (inl (turn, h, e)) = let f : 0 ≡ m.index + 1 = ap (λ (x : GraphStrand). x.index) e in absurd (omega arith)
  leads_root m (inr (inl (c, h, e))) =
      let f : 0 ≡ c = ap (λ (x : GraphStrand). x.task) e in
      absurd (fj.root m.task m.index (subst (λ x. Does tasks m.task m.index (Spawn x)) (sym f) h))
  leads_root m (inr (inr (t, i, c, h, em, e))) = let f : 0 ≡ i + 1 = ap (λ (x : GraphStrand). x.index) e in absurd (omega arith)

  pub leads_first : (m : GraphStrand) (t i c : ℕ) → Does tasks t i (Spawn c) → IsGraphEdge tasks m (first_of c) → m ≡ strand t i
  leads_first m t i c sp (inl (turn, h, e)) = let f : 0 ≡ m.index + 1 = ap (λ (x : GraphStrand). x.index) e in absurd (omega arith)
  leads_first m t i c sp (inr (inl (d, h, e))) =
      let f : c ≡ d = ap (λ (x : GraphStrand). x.task) e in
      let one = fj.spawned_once c m.task m.index t i (subst (λ x. Does tasks m.task m.index (Spawn x)) (sym f) h) sp in
      ap (λ x. strand x m.index) one.0 ∙ ap (strand t) one.1
  leads_first m t i c sp (inr (inr (t', k, d, h, em, e))) = let f : 0 ≡ k + 1 = ap (λ (x : GraphStrand). x.index) e in absurd (omega arith)

  -- what leads past a turn is the strand before it, or the last one of the child that it joins
  pub leads_next : (m : GraphStrand) (t i : ℕ) → IsGraphEdge tasks m (strand t (i + 1)) → (m ≡ strand t i) ⊎ ((c : ℕ) × Does tasks t i (Join c) × (m ≡ last_of tasks c))
  leads_next m t i (inl (turn, h, e)) =
      let f : t ≡ m.task = ap (λ (x : GraphStrand). x.task) e in
      let g : i + 1 ≡ m.index + 1 = ap (λ (x : GraphStrand). x.index) e in
      let g' : m.index ≡ i = omega arith in
      inl (ap (λ x. strand x m.index) (sym f) ∙ ap (strand t) g')
  leads_next m t i (inr (inl (d, h, e))) = let f : i + 1 ≡ 0 = ap (λ (x : GraphStrand). x.index) e in absurd (omega arith)
  leads_next m t i (inr (inr (t', k, d, h, em, e))) =
      let f : t ≡ t' = ap (λ (x : GraphStrand). x.task) e in
      let g : i + 1 ≡ k + 1 = ap (λ (x : GraphStrand). x.index) e in
      let g' : k ≡ i = omega arith in
      inr (d, subst (λ x. Does tasks x i (Join d)) (sym f) (subst (λ x. Does tasks t' x (Join d)) g' h), em)

-- REACHES

module _ (tasks : TaskTurns) (weight : GraphStrand → ℕ) where
  pub walk_attached : (k : ℕ) (u : GraphStrand) (total : ℕ) → HasWalk tasks weight k u total → IsAttached tasks u
  walk_attached zero u total w = (zero, w.0)
  walk_attached (suc k) u total w = and_then tasks (first_of 0) w.0 u (walk_attached k w.0 w.1 w.2) w.3

  -- a walk goes on to what the strand precedes, and gets no lighter
  pub walk_on : (k : ℕ) (u : GraphStrand) (total : ℕ) → HasWalk tasks weight k u total → (v : GraphStrand) → StrandPrecedes tasks u v
      → (k' total' : ℕ) × HasWalk tasks weight k' v total' × (total ≤ total')
  walk_on k u total w v more =
      reached_within (λ (x : GraphStrand). x ≡ u) (IsGraphEdge tasks)
      (λ (x : GraphStrand). (k' total' : ℕ) × HasWalk tasks weight k' x total' × (total ≤ total'))
      (λ a e. (k, total, subst (λ (x : GraphStrand). HasWalk tasks weight k x total) (sym e) w, omega arith))
      (λ m a p e. (suc p.0, p.1 + weight a, (m, p.1, p.2, e, refl), let le : total ≤ p.1 = p.3 in omega arith))
      v more

  one_more : (k : ℕ) (m v : GraphStrand) (total : ℕ) → HasWalk tasks weight k m total → IsGraphEdge tasks m v → HasWalk tasks weight (suc k) v (total + weight v)
  one_more k m v total w e = (m, total, w, e, refl)

module _ (tasks : TaskTurns) (weight : GraphStrand → ℕ) (fj : IsForkJoin tasks) where
  root_bound : (k total : ℕ) → HasWalk tasks weight k (first_of 0) total → total ≤ weight (first_of 0)
  root_bound zero total w = let e : total ≡ weight (first_of 0) = w.1 in omega arith
  root_bound (suc k) total w = leads_root tasks fj w.0 w.3

  not_root : (c t i : ℕ) → Does tasks t i (Spawn c) → first_of c ≡ first_of 0 → ⊥
  not_root c t i h e = fj.root t i (subst (λ x. Does tasks t i (Spawn x)) (ap (λ (x : GraphStrand). x.task) e) h)

  child_bound : (t i c reach : ℕ) → Does tasks t i (Spawn c) → IsReach tasks weight (strand t i) reach
      → (k total : ℕ) → HasWalk tasks weight k (first_of c) total → total ≤ reach + weight (first_of c)
  child_bound t i c reach h r zero total w = absurd (not_root c t i h w.0)
  child_bound t i c reach h r (suc k) total w =
      let e = leads_first tasks fj w.0 t i c h w.3 in
      let le : w.1 ≤ reach = r.greatest k w.1 (subst (λ (x : GraphStrand). HasWalk tasks weight k x w.1) e w.2) in
      let sum : total ≡ w.1 + weight (first_of c) = w.4 in
      omega arith

  -- what comes past a turn comes from the strand before it, or from the last one of the child that it joins
  next_bound : (t i reach : ℕ) → ((m : GraphStrand) (k total : ℕ) → HasWalk tasks weight k m total
      → (m ≡ strand t i) ⊎ ((c : ℕ) × Does tasks t i (Join c) × (m ≡ last_of tasks c)) → total ≤ reach)
      → (k total : ℕ) → HasWalk tasks weight k (strand t (i + 1)) total → total ≤ reach + weight (strand t (i + 1))
  next_bound t i reach bound zero total w =
      let f : i + 1 ≡ 0 = ap (λ (x : GraphStrand). x.index) w.0 in absurd (omega arith)
  next_bound t i reach bound (suc k) total w =
      let le : w.1 ≤ reach = bound w.0 k w.1 w.2 (leads_next tasks fj w.0 t i w.3) in
      let sum : total ≡ w.1 + weight (strand t (i + 1)) = w.4 in
      omega arith

  spawn_bound : (t i c reach : ℕ) → Does tasks t i (Spawn c) → IsReach tasks weight (strand t i) reach → (m : GraphStrand) (k total : ℕ) → HasWalk tasks weight k m total
      → (m ≡ strand t i) ⊎ ((d : ℕ) × Does tasks t i (Join d) × (m ≡ last_of tasks d)) → total ≤ reach
  spawn_bound t i c reach h r m k total w (inl e) = r.greatest k total (subst (λ (x : GraphStrand). HasWalk tasks weight k x total) e w)
  spawn_bound t i c reach h r m k total w (inr (d, j, e)) = spawn_no_join c d (same_Some (Spawn c) (Join d) (sym h ∙ j))

  join_bound : (t i c reach childs : ℕ) → Does tasks t i (Join c) → IsReach tasks weight (strand t i) reach → IsReach tasks weight (last_of tasks c) childs
      → (m : GraphStrand) (k total : ℕ) → HasWalk tasks weight k m total
      → (m ≡ strand t i) ⊎ ((d : ℕ) × Does tasks t i (Join d) × (m ≡ last_of tasks d)) → total ≤ max reach childs
  join_bound t i c reach childs h r s m k total w (inl e) =
      let le : total ≤ reach = r.greatest k total (subst (λ (x : GraphStrand). HasWalk tasks weight k x total) e w) in omega arith
  join_bound t i c reach childs h r s m k total w (inr (d, j, e)) =
      let same : d ≡ c = same_join d c (same_Some (Join d) (Join c) (sym j ∙ h)) in
      let le : total ≤ childs = s.greatest k total (subst (λ (x : GraphStrand). HasWalk tasks weight k x total) (e ∙ ap (last_of tasks) same) w) in omega arith

  join_walked : (t i c reach childs : ℕ) → Does tasks t i (Join c) → IsReach tasks weight (strand t i) reach → IsReach tasks weight (last_of tasks c) childs
      → (childs ≤ reach) ⊎ (reach < childs) → (k : ℕ) × HasWalk tasks weight k (strand t (i + 1)) (max reach childs + weight (strand t (i + 1)))
  join_walked t i c reach childs h r s (inl le) =
      let e : reach ≡ max reach childs = omega arith in
      let w = one_more tasks weight r.walked.0 (strand t i) (strand t (i + 1)) reach r.walked.1 (inl (Join c, h, refl)) in
      (suc r.walked.0, subst (λ x. HasWalk tasks weight (suc r.walked.0) (strand t (i + 1)) (x + weight (strand t (i + 1)))) e w)
  join_walked t i c reach childs h r s (inr lt) =
      let e : childs ≡ max reach childs = omega arith in
      let w = one_more tasks weight s.walked.0 (last_of tasks c) (strand t (i + 1)) childs s.walked.1 (inr (inr (t, i, c, h, refl, refl))) in
      (suc s.walked.0, subst (λ x. HasWalk tasks weight (suc s.walked.0) (strand t (i + 1)) (x + weight (strand t (i + 1)))) e w)

  pub are_reaches : AreReaches tasks weight
  are_reaches = record {
    root = record { walked = (zero, (refl, refl)); greatest = root_bound };
    child = λ t i c reach h r. record {
      walked = (suc r.walked.0, one_more tasks weight r.walked.0 (strand t i) (first_of c) reach r.walked.1 (inr (inl (c, h, refl))));
      greatest = child_bound t i c reach h r;
    };
    past_spawn = λ t i c reach h r. record {
      walked = (suc r.walked.0, one_more tasks weight r.walked.0 (strand t i) (strand t (i + 1)) reach r.walked.1 (inl (Spawn c, h, refl)));
      greatest = next_bound t i reach (spawn_bound t i c reach h r);
    };
    past_join = λ t i c reach childs h r s. record {
      walked = join_walked t i c reach childs h r s (le_or_more childs reach);
      greatest = next_bound t i (max reach childs) (join_bound t i c reach childs h r s);
    };
  }
    where
      le_or_more : (a b : ℕ) → (a ≤ b) ⊎ (b < a)
      le_or_more a b = elim (cases_lt b a) [ inl lt ↦ inr lt | inr ge ↦ inl ge ]

-- THE SPAN

pub span_is_longest : SpanIsLongest
span_is_longest tasks weight n = (
  are_reaches tasks weight n.fork_join,
  λ span r. record {
    walked = (last_of tasks 0, r.walked.0, r.walked.1);
    greatest = λ u k total w.
        let rooted = attached_rooted tasks n.fork_join u (walk_attached tasks weight k u total w) in
        let end = both tasks u (last_of tasks u.task) (last_of tasks 0) (along tasks u.task u.index (length (tasks u.task)) rooted.stands (omega arith)) (climb tasks n 0 u.task rooted.rooted) in
        let more = walk_on tasks weight k u total w (last_of tasks 0) end in
        let le : more.1 ≤ span = r.greatest more.0 more.1 more.2 in
        let le' : total ≤ more.1 = more.3 in
        omega arith;
  },
)
