-- The tree has the paths of the machine's tasks.
use Rattle.remote_access.proofs.Common.{◌≡◌, ℕ, zero, suc, ◌<◌, ◌==◌, ◌||◌, Bool, true, false, Option, Some, None, length, slice_get, option_map, is_some, refl, ap, ◌∙◌, false≢true, same_Some, got_within, Task, parents, path_by, through, Ledger, heap_of, TaskNode, parent_of as tree_parent, node_on_path as tree_path, SharedValue, accounts, IsSharedValue, stands_now, parent_is, as_node}
use Rattle.step_commit.specs.below.hh_model.{is_on_path}

same_through : (f g : ℕ → Bool) → ((u : ℕ) → f u ≡ g u) → (o q : Option ℕ) → o ≡ q → through o false f ≡ through q false g
same_through f g e None None h = refl
same_through f g e None (Some u) h = absurd cc
same_through f g e (Some u) None h = absurd cc
same_through f g e (Some u) (Some z) h = e u ∙ ap g (same_Some u z h)

-- equal parents give equal paths
same_by : (f g : ℕ → Option ℕ) → ((u : ℕ) → f u ≡ g u) → (more a t : ℕ) → path_by f more a t ≡ path_by g more a t
same_by f g e zero a t = refl
same_by f g e (suc more) a t = ap (λ b. (a == t) || b) (same_through (path_by f more a) (path_by g more a) (λ u. same_by f g e more a u) (f t) (g t) (e t))

node_is_there : (o : Option TaskNode) (q : Option Task) (worker : Option ℕ) → o ≡ option_map (as_node worker) q → is_some q ≡ true → (n : TaskNode) × (o ≡ Some n)
node_is_there (Some n) q k e h = (n, refl)
node_is_there None None k e h = absurd (false≢true h)
node_is_there None (Some x) k e h = absurd cc

module _ (w : SharedValue) (I : IsSharedValue w) (on : (accounts w).end ≡ None) where
  abbrev l : Ledger
  l = accounts w

  pub paths_same : (a t : ℕ) → tree_path w.tree a t ≡ is_on_path l.machine.tasks a t
  paths_same a t = same_by (tree_parent w.tree) (parents l.machine.tasks) (parent_is w I) t a t

  -- an existing task has its position in the tree
  pub made_there : (u : ℕ) → is_some (slice_get l.machine.tasks u) ≡ true → u < length w.tree
  made_there u h =
      let n = node_is_there (slice_get w.tree u) (slice_get l.machine.tasks u) (heap_of l u).worker ((stands_now w I on).tree_counts.node u) h in
      got_within w.tree u n.0 n.1
