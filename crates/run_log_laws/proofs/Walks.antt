-- Walks along the edges of a run, and in the graph with its turns.
use Rattle.run_log_laws.proofs.Common.{◌≡◌, ◌<◌, ◌≤◌, ◌+◌, ◌*◌, ℕ, zero, suc, Bool, List, [], ◌∷◌, ◌++◌, length, Contains, inl, inr, refl, ap, sym, subst, arith, cases_lt, slice_get_within, In, in_from_contains, contains_from_in, in_append_left, reached_within, GraphTurn, Spawn, Join, GraphStrand, Strand, Edge, IsEdgeWalk, Precedes, strand, edge, in_log}
use Rattle.fork_graph.specs.Graph as graph
use Rattle.ancestor_laws.proofs.Walks as walks
use Rattle.run_log_laws.proofs.Turns.{IsFork, IsJoin, AreTurns}

-- ALONG EDGES

walk_wider : (es ds : List Edge) (ws : List Edge) (u v : Strand) → IsEdgeWalk es u ws v → IsEdgeWalk (es ++ ds) u ws v
walk_wider es ds [] u v w = w
walk_wider es ds (e ∷ ws) u v w = (w.0, contains_from_in (es ++ ds) e (in_append_left es ds e (in_from_contains es e w.1)), walk_wider es ds ws e.target v w.2)

pub wider : (es ds : List Edge) (u v : Strand) → Precedes es u v → Precedes (es ++ ds) u v
wider es ds u v w = (w.0, walk_wider es ds w.0 u v w.1)

walk_on : (es : List Edge) (e : Edge) (ws : List Edge) (u : Strand) → IsEdgeWalk es u ws e.source → Contains es e → IsEdgeWalk es u (ws ++ e ∷ []) e.target
walk_on es e [] u w c = (sym w, c, refl)
walk_on es e (d ∷ ws) u w c = (w.0, w.1, walk_on es e ws d.target w.2 c)

pub then_edge : (es : List Edge) (u v w : Strand) → Precedes es u v → In es (edge v w) → Precedes es u w
then_edge es u v w r i = (r.0 ++ edge v w ∷ [], walk_on es (edge v w) r.0 u r.1 (contains_from_in es (edge v w) i))

walk_both : (es : List Edge) (ws : List Edge) (u v x : Strand) → IsEdgeWalk es u ws v → Precedes es v x → Precedes es u x
walk_both es [] u v x w r = subst (λ s. Precedes es s x) (sym w) r
walk_both es (d ∷ ws) u v x w r = let rest = walk_both es ws d.target v x w.2 r in (d ∷ rest.0, (w.0, w.1, rest.1))

pub both : (es : List Edge) (u v x : Strand) → Precedes es u v → Precedes es v x → Precedes es u x
both es u v x a b = walk_both es a.0 u v x a.1 b

module _ (jd : ℕ → Bool) (js : ℕ → ℕ) (edges : List Edge) (tasks : graph.TaskTurns) (A : AreTurns jd js edges tasks) where
  -- FROM EDGES TO THE GRAPH

  fork_goes : (e : Edge) → IsFork tasks e → e.target.joins ≡ 0 → graph.StrandPrecedes tasks (in_log e.source) (in_log e.target)
  fork_goes e f first =
      let t = e.source.task in
      let i : ℕ = 4 * e.source.joins + f.side in
      let lt : i < length (tasks t) = slice_get_within (tasks t) i (Spawn e.target.task) f.turn in
      walks.and_then tasks (in_log e.source) (graph.strand t i) (in_log e.target)
      (walks.along tasks t (4 * e.source.joins) i (omega arith) (omega arith))
      (inr (inl (e.target.task, f.turn, ap (graph.strand e.target.task) (let z : e.target.joins ≡ 0 = first in let k : 4 * e.target.joins ≡ 0 = omega arith in k))))

  join_goes : (e : Edge) (fork : ℕ) → IsJoin js tasks e fork → e.target.joins ≡ fork + 1 → graph.StrandPrecedes tasks (in_log e.source) (in_log e.target)
  join_goes e fork j later =
      let t = e.target.task in
      let c = e.source.task in
      let i : ℕ = 4 * fork + 2 + j.side in
      let two = j.two in
      let whole = j.whole in
      let last = j.last in
      let J = A.joins t i c j.turn in
      let ends = J.all in
      let at_end : 4 * e.source.joins ≡ length (tasks c) = omega (arith, last, ends) in
      let goal : 4 * e.target.joins ≡ 4 * fork + 4 = omega (arith, later) in
      walks.both tasks (in_log e.source) (graph.strand t (i + 1)) (in_log e.target)
      (walks.and_then tasks (in_log e.source) (graph.last_of tasks c) (graph.strand t (i + 1))
      (walks.same_strand tasks (in_log e.source) (graph.last_of tasks c) (ap (graph.strand c) (sym at_end)))
      (inr (inr (t, i, c, j.turn, refl, refl))))
      (walks.along tasks t (i + 1) (4 * e.target.joins) (omega (arith, two, goal)) (omega (arith, whole, goal)))

  edge_by : (e : Edge) (k : ℕ) → In edges e → e.target.joins ≡ k → graph.StrandPrecedes tasks (in_log e.source) (in_log e.target)
  edge_by e zero i first = fork_goes e (A.forks e i first) first
  edge_by e (suc fork) i later = let k : e.target.joins ≡ fork + 1 = omega (arith, later) in join_goes e fork (A.ends e fork i k) k

  along_edges : (ws : List Edge) (u v : Strand) → IsEdgeWalk edges u ws v → graph.StrandPrecedes tasks (in_log u) (in_log v)
  along_edges [] u v w = walks.same_strand tasks (in_log u) (in_log v) (ap in_log (sym w))
  along_edges (e ∷ ws) u v w =
      walks.both tasks (in_log u) (in_log e.target) (in_log v)
      (subst (λ s. graph.StrandPrecedes tasks (in_log s) (in_log e.target)) w.0 (edge_by e e.target.joins (in_from_contains edges e w.1) refl))
      (along_edges ws e.target v w.2)

  pub to_graph : (u v : Strand) → Precedes edges u v → graph.StrandPrecedes tasks (in_log u) (in_log v)
  to_graph u v w = along_edges w.0 u v w.1

  -- FROM THE GRAPH TO EDGES

  -- s precedes the strand of the run in which v lies, or behind which it is the join of both children
  abbrev Comes : Strand → GraphStrand → Type 0
  Comes s v = (q : ℕ) → 4 * q ≤ v.index + 1 → v.index + 1 < 4 * q + 4 → Precedes edges s (strand v.task q)

  -- to the task's next strand, by its turn
  next_by : (s : Strand) (t i : ℕ) (turn : GraphTurn) → graph.Does tasks t i turn → Comes s (graph.strand t i)
      → (q : ℕ) → i + 2 ≡ 4 * q → Precedes edges s (strand t q)
  next_by s t i (Spawn c) does comes q at =
      let S = A.spawns t i c does in let two = S.two in let is = S.at in absurd (omega (arith, two, is, at))
  next_by s t i (Join c) does comes q at =
      let J = A.joins t i c does in
      let two = J.two in
      let is = J.at in
      let k : ℕ = J.fork in
      let none : J.side ≡ 0 = omega (arith, two, is, at) in
      let here : i ≡ 4 * k + 2 = omega (arith, two, is, at) in
      let up : q ≡ k + 1 = omega (arith, two, is, at) in
      subst (λ x. Precedes edges s (strand t x)) (sym up)
      (both edges s (strand t k) (strand t (k + 1))
      (comes k (omega (arith, here)) (omega (arith, here)))
      (A.rising t k c (subst (λ x. graph.Does tasks t x (Join c)) here does)))

  continues : (s : Strand) (t i : ℕ) (turn : GraphTurn) → graph.Does tasks t i turn → Comes s (graph.strand t i) → Comes s (graph.strand t (i + 1))
  continues s t i turn does comes q low high = elim (cases_lt (4 * q) (i + 2)) [
    | inl lt ↦ comes q (omega (arith, lt)) (omega (arith, high))
    | inr ge ↦ next_by s t i turn does comes q (omega (arith, low, ge))
  ]

  spawns : (s : Strand) (t i c : ℕ) → graph.Does tasks t i (Spawn c) → Comes s (graph.strand t i) → Comes s (graph.first_of c)
  spawns s t i c does comes q low high =
      let S = A.spawns t i c does in
      let two = S.two in
      let is = S.at in
      let zero_here : q ≡ 0 = omega (arith, low) in
      subst (λ x. Precedes edges s (strand c x)) (sym zero_here)
      (then_edge edges s (strand t S.fork) (strand c 0) (comes S.fork (omega (arith, two, is)) (omega (arith, two, is))) S.there)

  joins : (s : Strand) (t i c : ℕ) → graph.Does tasks t i (Join c) → Comes s (graph.last_of tasks c) → Comes s (graph.strand t (i + 1))
  joins s t i c does comes q low high =
      let J = A.joins t i c does in
      let two = J.two in
      let is = J.at in
      let all = J.all in
      let up : q ≡ J.fork + 1 = omega (arith, two, is, low, high) in
      subst (λ x. Precedes edges s (strand t x)) (sym up)
      (then_edge edges s (strand c (js c)) (strand t (J.fork + 1)) (comes (js c) (omega (arith, all)) (omega (arith, all))) J.there)

  goes : (s : Strand) (m v : GraphStrand) → Comes s m → graph.IsGraphEdge tasks m v → Comes s v
  goes s m v comes (inl h) = subst (Comes s) (sym h.2) (continues s m.task m.index h.0 h.1 comes)
  goes s m v comes (inr (inl h)) = subst (Comes s) (sym h.2) (spawns s m.task m.index h.0 h.1 comes)
  goes s m v comes (inr (inr h)) = subst (Comes s) (sym h.5) (joins s h.0 h.1 h.2 h.3 (subst (Comes s) h.4 comes))

  begins : (s : Strand) → Comes s (in_log s)
  begins s q low high = let e : q ≡ s.joins = omega (arith, low, high) in ([], ap (strand s.task) (sym e))

  pub from_graph : (u v : Strand) → graph.StrandPrecedes tasks (in_log u) (in_log v) → Precedes edges u v
  from_graph u v w =
      reached_within (λ (x : GraphStrand). x ≡ in_log u) (graph.IsGraphEdge tasks) (Comes u)
      (λ a e. subst (Comes u) (sym e) (begins u)) (λ m a comes e. goes u m a comes e) (in_log v) w
      v.joins (omega arith) (omega arith)
