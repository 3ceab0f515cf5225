-- The nodes of a join, and what is known of the tasks that it joins.
use Rattle.fork_join_commit.proofs.Common.{◌≡◌, ◌⊎◌, ℕ, ℤ, true, Option, Some, None, List, length, slice_get, option_map, inl, inr, refl, ap, ap₂, sym, ◌∙◌, cases_eq, same_Some, Name, MachineState, TaskStatus, Running, Waiting as WaitingOf, Joined as JoinedOf, Task, is_over, result_at, result_in, LeafHeapValue, room_of, Level, Ended, Ready, TaskState, TaskNode, with_state, joined_nodes, node_then, Work, Calls, Result, belongings_by, made_by, node_by, node_off}
use Rattle.step_commit.specs.below.hh_model.{Ended as EndedOf}
use Rattle.step_commit.specs.below.heap_tree.{Joined}

-- ---- THE TREE

abbrev pub view : ℕ → List TaskNode → Option TaskNode
view u xs = slice_get xs u

module _ (xs : List TaskNode) (t q c d : ℕ) (child : (t ≡ c) ⊎ (t ≡ d)) (qc : q ≡ c → ⊥) (qd : q ≡ d → ⊥) (cd : c ≡ d → ⊥) where
  abbrev x1 : List TaskNode
  x1 = with_state xs t Ended

  abbrev x2 : List TaskNode
  x2 = with_state x1 c Joined

  abbrev x3 : List TaskNode
  x3 = with_state x2 d Joined

  abbrev pub joined_tree : List TaskNode
  joined_tree = joined_nodes x1 q c d

  off1 : (u : ℕ) → (u ≡ t → ⊥) → view u x1 ≡ view u xs
  off1 u ne = node_off xs t Ended (slice_get xs t) u ne

  off2 : (u : ℕ) → (u ≡ c → ⊥) → view u x2 ≡ view u x1
  off2 u ne = node_off x1 c Joined (slice_get x1 c) u ne

  off3 : (u : ℕ) → (u ≡ d → ⊥) → view u x3 ≡ view u x2
  off3 u ne = node_off x2 d Joined (slice_get x2 d) u ne

  off4 : (u : ℕ) → (u ≡ q → ⊥) → view u joined_tree ≡ view u x3
  off4 u ne = node_off x3 q Ready (slice_get x3 q) u ne

  twice : (s s' : TaskState) (o : Option TaskNode) → option_map (node_then s) (option_map (node_then s') o) ≡ option_map (node_then s) o
  twice s s' None = refl
  twice s s' (Some n) = refl

  over : (u : ℕ) → option_map (node_then Joined) (view u x1) ≡ option_map (node_then Joined) (view u xs)
  over u = elim (cases_eq u t) [
    | inl e ↦ ap (λ z. option_map (node_then Joined) (view z x1)) e ∙ (ap (option_map (node_then Joined)) (node_by xs t Ended (slice_get xs t) refl) ∙ (twice Joined Ended (view t xs) ∙ ap (λ z. option_map (node_then Joined) (view z xs)) (sym e)))
    | inr ne ↦ ap (option_map (node_then Joined)) (off1 u ne)
  ]

  t_not : (u : ℕ) → (u ≡ c → ⊥) → (u ≡ d → ⊥) → u ≡ t → ⊥
  t_not u nc nd e = elim child [ inl f ↦ nc (e ∙ f) | inr f ↦ nd (e ∙ f) ]

  pub parent_node : view q joined_tree ≡ option_map (node_then Ready) (view q xs)
  parent_node = node_by x3 q Ready (slice_get x3 q) refl ∙ ap (option_map (node_then Ready)) (off3 q qd ∙ (off2 q qc ∙ off1 q (t_not q qc qd)))

  pub left_node : view c joined_tree ≡ option_map (node_then Joined) (view c xs)
  left_node = off4 c (λ e. qc (sym e)) ∙ (off3 c cd ∙ (node_by x1 c Joined (slice_get x1 c) refl ∙ over c))

  pub right_node : view d joined_tree ≡ option_map (node_then Joined) (view d xs)
  right_node = off4 d (λ e. qd (sym e)) ∙ (node_by x2 d Joined (slice_get x2 d) refl ∙ (ap (option_map (node_then Joined)) (off2 d (λ e. cd (sym e))) ∙ over d))

  pub other_node : (u : ℕ) → (u ≡ q → ⊥) → (u ≡ c → ⊥) → (u ≡ d → ⊥) → view u joined_tree ≡ view u xs
  other_node u nq nc nd = off4 u nq ∙ (off3 u nd ∙ (off2 u nc ∙ off1 u (t_not u nc nd)))

  pub joined_long : length joined_tree ≡ length xs
  joined_long = made_by x3 q Ready (slice_get x3 q) ∙ (made_by x2 d Joined (slice_get x2 d) ∙ (made_by x1 c Joined (slice_get x1 c) ∙ made_by xs t Ended (slice_get xs t)))

-- ---- WHAT IS KNOWN OF TASKS

pub kept_is : (o : Option Task) (r : ℤ × Option Name) → result_at o ≡ Some r → (y : Task) × (o ≡ Some y) × (y.status ≡ EndedOf r.0 r.1)
kept_is None r e = absurd cc
kept_is (Some y) r e = (y, refl, kept_is_by_cases y.status e)
  where
    kept_is_by_cases : (s : TaskStatus) → result_in s ≡ Some r → s ≡ EndedOf r.0 r.1
    kept_is_by_cases Running e = absurd cc
    kept_is_by_cases WaitingOf e = absurd cc
    kept_is_by_cases (EndedOf n z) e = let q : (n, z) ≡ r = same_Some (n, z) r e in ap₂ EndedOf (ap (λ (i : ℤ × Option Name). i.0) q) (ap (λ (i : ℤ × Option Name). i.1) q)
    kept_is_by_cases JoinedOf e = absurd cc

pub by_room : (h : LeafHeapValue) (view : List Level) (n : ℕ) (x : Work) → (belongings_by h view n x).room ≡ room_of h
by_room h view n (Calls s) = refl
by_room h view n (Result k r) = refl

-- the step has joined the task
pub record IsOver (m : MachineState) (t : ℕ) : Type 0 where
  pub task : Task
  pub is : slice_get m.tasks t ≡ Some task
  pub over : is_over task.status ≡ true
  pub end : m.end ≡ None
