-- The graph of a run is that of a fork-join program, and joins of all that is unjoined order none of its strands anew.
use Rattle.run_log_laws.proofs.Common.{◌≡◌, ◌<◌, ◌≤◌, ◌+◌, ◌*◌, ℕ, zero, suc, Bool, Option, List, [], ◌∷◌, ◌++◌, length, map, inl, inr, refl, ap, sym, subst, ◌∙◌, arith, append-nil, both_ways, slice_get_within, reached_within, unjoined, joins, with_joins, SpawnsBelow, TaskTurns, last_of, HasStrand, Does, IsGraphEdge, StrandPrecedes, IsAncestor, IsForkJoin, GraphStrand, GraphTurn, Spawn, Join, unjoined_at, joins_from, completed_front, completed_cases, completed_spawn, and_then, same_strand, Edge, In}
use Rattle.fork_graph.specs.Graph.{strand}
use Rattle.ancestor_laws.proofs.Trees as trees
use Rattle.run_log_laws.proofs.Turns.{AreTurns}
use Rattle.run_log_laws.proofs.Pairs.{Pairs}

-- WHERE JOINED TASKS HAVE JOINED ALL THEIR CHILDREN

module _ (tasks : TaskTurns) (whole : (t i c : ℕ) → Does tasks t i (Join c) → unjoined (tasks c) ≡ []) where
  same_last : (t i c : ℕ) → Does tasks t i (Join c) → last_of (with_joins tasks) c ≡ last_of tasks c
  same_last t i c h = ap (λ us. strand c (length (tasks c ++ map Join us))) (whole t i c h) ∙ ap (λ turns. strand c (length turns)) (append-nil (tasks c))

  -- a turn of a told strand was told
  was_told : (t i : ℕ) (turn : GraphTurn) → Does (with_joins tasks) t i turn → i < length (tasks t) → Does tasks t i turn
  was_told t i turn h lt = elim (completed_cases (tasks t) i turn h) [ inl told ↦ told | inr late ↦ let ge = late.2 in absurd (omega (arith, lt, ge)) ]

  abbrev Comes : GraphStrand → GraphStrand → Type 0
  Comes u v = HasStrand tasks v → StrandPrecedes tasks u v

  told_edge : (u m v : GraphStrand) → Comes u m → IsGraphEdge (with_joins tasks) m v → Comes u v
  told_edge u m v comes (inl (turn, h, e)) st =
      let lt : m.index + 1 ≤ length (tasks m.task) = subst (HasStrand tasks) e st in
      and_then tasks u m v (comes (omega (arith, lt))) (inl (turn, was_told m.task m.index turn h (omega (arith, lt)), e))
  told_edge u m v comes (inr (inl (c, h, e))) st =
      let told = completed_spawn (tasks m.task) m.index c h in
      let lt = slice_get_within (tasks m.task) m.index (Spawn c) told in
      and_then tasks u m v (comes (omega (arith, lt))) (inr (inl (c, told, e)))
  told_edge u m v comes (inr (inr (t, i, c, h, eu, ev))) st =
      let lt : i + 1 ≤ length (tasks t) = subst (HasStrand tasks) ev st in
      let told = was_told t i (Join c) h (omega (arith, lt)) in
      let last : m ≡ last_of tasks c = eu ∙ same_last t i c told in
      let stands : HasStrand tasks m = subst (HasStrand tasks) (sym last) (omega arith) in
      and_then tasks u m v (comes stands) (inr (inr (t, i, c, told, last, ev)))

  pub told_before : (u v : GraphStrand) → HasStrand tasks v → StrandPrecedes (with_joins tasks) u v → StrandPrecedes tasks u v
  told_before u v st w = reached_within (λ (x : GraphStrand). x ≡ u) (IsGraphEdge (with_joins tasks)) (Comes u) (λ a e st. same_strand tasks u a e) (λ m a comes e. told_edge u m a comes e) v w st

  kept_edge : (m v : GraphStrand) → IsGraphEdge tasks m v → IsGraphEdge (with_joins tasks) m v
  kept_edge m v (inl (turn, h, e)) = inl (turn, completed_front (tasks m.task) m.index turn h, e)
  kept_edge m v (inr (inl (c, h, e))) = inr (inl (c, completed_front (tasks m.task) m.index (Spawn c) h, e))
  kept_edge m v (inr (inr (t, i, c, h, eu, ev))) = inr (inr (t, i, c, completed_front (tasks t) i (Join c) h, eu ∙ sym (same_last t i c h), ev))

  pub kept_before : (u v : GraphStrand) → StrandPrecedes tasks u v → StrandPrecedes (with_joins tasks) u v
  kept_before u v w =
      reached_within (λ (x : GraphStrand). x ≡ u) (IsGraphEdge tasks) (StrandPrecedes (with_joins tasks) u) (λ a e. same_strand (with_joins tasks) u a e)
      (λ m a before e. and_then (with_joins tasks) u m a before (kept_edge m a e)) v w

nothing_in : (xs : List ℕ) → ((c : ℕ) → In xs c → ⊥) → xs ≡ []
nothing_in [] none = refl
nothing_in (x ∷ xs) none = absurd (none x (inl refl))

-- WHERE CHILDREN ARE JOINED TWO TURNS AFTER THEIR SPAWNS

module _ (n : ℕ) (par : ℕ → Option ℕ) (jd : ℕ → Bool) (js : ℕ → ℕ) (edges : List Edge) (tasks : TaskTurns) (A : AreTurns jd js edges tasks) (P : Pairs n par jd js tasks) where
  pub pairs_fork_join : IsForkJoin tasks
  pairs_fork_join = record {
    root = λ t i h. let b = (P.below t i 0 h).0 in absurd (omega (arith, b));
    spawned_once = P.once;
    joins_own = λ c t j h. let b = P.back t j c h in let e = b.1 in (b.0, omega (arith, e), b.2);
    joined_once = λ c t j j' h h'.
        let b = P.back t j c h in
        let b' = P.back t j' c h' in
        let e = b.1 in
        let e' = b'.1 in
        let same = (P.once c t b.0 t b'.0 b.2 b'.2).1 in
        omega (arith, e, e', same);
  }

  pub pairs_below : SpawnsBelow tasks n
  pairs_below t i c h = (P.below t i c h).1

  above_by : (k c : ℕ) → c < k → c < n → IsAncestor tasks 0 c
  above_by zero c lt few = absurd (omega (arith, lt))
  above_by (suc k) zero lt few = trees.itself tasks 0
  above_by (suc k) (suc c) lt few =
      let m = P.made (suc c) (omega arith) few in
      let less = m.2 in
      trees.below tasks 0 m.0 (suc c) (above_by k m.0 (omega (arith, lt, less)) (omega (arith, few, less))) (m.1, m.3)

  pub pairs_reached : (c : ℕ) → c < n → IsAncestor tasks 0 c
  pairs_reached c few = above_by (suc c) c (omega arith) few

  -- a task that waits for no child has joined all
  pub joined_at_end : (t i c : ℕ) → length (tasks t) ≡ 4 * js t → Does tasks t i (Spawn c) → Does tasks t (i + 2) (Join c)
  joined_at_end t i c all h =
      let S = A.spawns t i c h in
      let two = S.two in
      let at = S.at in
      let lt = slice_get_within (tasks t) i (Spawn c) h in
      P.next t i c h (omega (arith, all, two, at, lt))

  pub none_unjoined : (t : ℕ) → length (tasks t) ≡ 4 * js t → unjoined (tasks t) ≡ []
  none_unjoined t all =
      nothing_in (unjoined (tasks t)) (λ c h.
      let u = unjoined_at (tasks t) c h in
      both_ways (joins (tasks t) c) u.1 (joins_from (tasks t) (u.0.0 + 2) c (joined_at_end t u.0.0 c all u.0.1)))

  pub joined_whole : (t i c : ℕ) → Does tasks t i (Join c) → unjoined (tasks c) ≡ []
  joined_whole t i c h = let J = A.joins t i c h in none_unjoined c J.all
