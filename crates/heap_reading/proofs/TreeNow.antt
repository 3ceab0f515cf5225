-- The tree of a shared value and the machine's tasks, whether or not the run has ended.
use Rattle.heap_reading.proofs.Common.{◌≡◌, ℕ, Bool, true, false, Option, Some, None, List, [], ◌∷◌, option_map, slice_get, refl, ap, sym, subst, ◌∙◌, false≢true, same_Some, MachineState, TaskStatus, Running, Waiting, Ended, Joined, Task, is_joined, is_over, joined, owner_of, parents, TreeOf, joins_in, waiting, AreOwners, IsWalkOfJoined, owners_are_walks, Ledger, heap_of, SoundLedger, legal_sound, TaskState, Ready, Out, TaskNode, handed, state_by, as_node, SharedValue, accounts, IsSharedValue, goes_by}
use Rattle.core_invariant.specs.below.heap_tree.{Waiting as Waits, Ended as HasEnded, Joined as HasJoined}

-- JOINED TASKS
has_joined : TaskState → Bool
has_joined Ready = false
has_joined Out = false
has_joined Waits = false
has_joined HasEnded = false
has_joined HasJoined = true

by_status : (s : TaskStatus) (o : Option ℕ) → has_joined (state_by s o) ≡ is_over s
unfolding has_joined
by_status Running None = refl
by_status Running (Some w) = refl
by_status Waiting o = refl
by_status (Ended n r) o = refl
by_status Joined o = refl

joined_state : (s : TaskState) → s ≡ HasJoined → has_joined s ≡ true
unfolding has_joined
joined_state s e = ap has_joined e

live_state : (s : TaskState) → (s ≡ HasJoined → ⊥) → has_joined s ≡ false
unfolding has_joined
live_state Ready off = refl
live_state Out off = refl
live_state Waits off = refl
live_state HasEnded off = refl
live_state HasJoined off = absurd (off refl)

-- a node and its task
pub record IsNodeOf (worker : Option ℕ) (n : TaskNode) (x : Task) : Type 0 where
  pub parent : n.parent ≡ x.parent
  pub state : n.state ≡ state_by x.status worker

task_by : (worker : Option ℕ) (n : TaskNode) (x : Option Task) → Some n ≡ option_map (as_node worker) x → (y : Task) × (x ≡ Some y) × IsNodeOf worker n y
task_by worker n None e = absurd cc
task_by worker n (Some y) e =
    let same = same_Some n (as_node worker y) e in
    (y, refl, record { parent = ap (λ (z : TaskNode). z.parent) same; state = ap (λ (z : TaskNode). z.state) same })

node_by : (worker : Option ℕ) (n : Option TaskNode) (x : Task) → n ≡ Some (as_node worker x) → (m : TaskNode) × (n ≡ Some m) × IsNodeOf worker m x
node_by worker None x e = absurd cc
node_by worker (Some m) x e =
    let same = same_Some m (as_node worker x) e in
    (m, refl, record { parent = ap (λ (z : TaskNode). z.parent) same; state = ap (λ (z : TaskNode). z.state) same })

-- OWNERS
walk_end : (par : ℕ → Option ℕ) (jd : ℕ → Bool) (t a b : ℕ) (ps qs : List ℕ) → IsWalkOfJoined par jd t ps a → IsWalkOfJoined par jd t qs b → jd a ≡ false → jd b ≡ false → a ≡ b
walk_end par jd t a b [] [] e f la lb = sym e ∙ f
walk_end par jd t a b [] (q ∷ qs) e f la lb = absurd (false≢true (sym la ∙ (ap jd (sym e) ∙ f.0)))
walk_end par jd t a b (p ∷ ps) [] e f la lb = absurd (false≢true (sym lb ∙ (ap jd (sym f) ∙ e.0)))
walk_end par jd t a b (p ∷ ps) (q ∷ qs) e f la lb =
    let same : q ≡ p = same_Some q p (sym f.1 ∙ e.1) in
    walk_end par jd p a b ps qs e.2 (subst (λ z. IsWalkOfJoined par jd z qs b) same f.2) la lb

module _ (w : SharedValue) (I : IsSharedValue w) where
  abbrev l : Ledger
  l = accounts w

  pub same_machine : (handed l).machine ≡ l.machine
  same_machine = (goes_by l l.end).machine

  pub sound : SoundLedger l
  sound = legal_sound w.program w.settings w.journal.items I.legal

  pub tree_of : TreeOf l.machine.tasks l.machine.edges
  tree_of = sound.fork_join.tree

  pub owners : AreOwners (parents l.machine.tasks) (joined l.machine.tasks) (waiting l.machine.tasks)
  owners = owners_are_walks _ (parents l.machine.tasks) (joined l.machine.tasks) (waiting l.machine.tasks) (joins_in l.machine.tasks) l.machine.edges tree_of

  abbrev worker : ℕ → Option ℕ
  worker t = (heap_of (handed l) t).worker

  nodes : (t : ℕ) → slice_get w.tree t ≡ option_map (as_node (worker t)) (slice_get l.machine.tasks t)
  nodes t = I.stands.tree_counts.node t ∙ ap (λ (m : MachineState). option_map (as_node (worker t)) (slice_get m.tasks t)) same_machine

  pub task_of : (t : ℕ) (n : TaskNode) → slice_get w.tree t ≡ Some n → (x : Task) × (slice_get l.machine.tasks t ≡ Some x) × IsNodeOf (worker t) n x
  task_of t n e = task_by (worker t) n (slice_get l.machine.tasks t) (sym e ∙ nodes t)

  pub node_at : (t : ℕ) (x : Task) → slice_get l.machine.tasks t ≡ Some x → (n : TaskNode) × (slice_get w.tree t ≡ Some n) × IsNodeOf (worker t) n x
  node_at t x e = node_by (worker t) (slice_get w.tree t) x (nodes t ∙ ap (option_map (as_node (worker t))) e)

  pub joined_now : (t : ℕ) (n : TaskNode) → slice_get w.tree t ≡ Some n → n.state ≡ HasJoined → joined l.machine.tasks t ≡ true
  unfolding has_joined
  joined_now t n e j =
      let k = task_of t n e in
      ap is_joined k.1 ∙ (sym (by_status k.0.status (worker t)) ∙ (ap has_joined (sym k.2.state) ∙ joined_state n.state j))

  pub live_now : (t : ℕ) (n : TaskNode) → slice_get w.tree t ≡ Some n → (n.state ≡ HasJoined → ⊥) → joined l.machine.tasks t ≡ false
  unfolding has_joined
  live_now t n e j =
      let k = task_of t n e in
      ap is_joined k.1 ∙ (sym (by_status k.0.status (worker t)) ∙ (ap has_joined (sym k.2.state) ∙ live_state n.state j))

  pub unmade_now : (t : ℕ) → slice_get w.tree t ≡ None → slice_get l.machine.tasks t ≡ None
  unmade_now t e = unmade_now_by_cases (slice_get l.machine.tasks t) (sym (nodes t) ∙ e)
    where
      unmade_now_by_cases : (o : Option Task) → option_map (as_node (worker t)) o ≡ None → o ≡ None
      unmade_now_by_cases None z = refl
      unmade_now_by_cases (Some x) z = absurd cc

  -- a task that has joined owns nothing: what it had is its parent's
  pub owner_up : (t p : ℕ) → joined l.machine.tasks t ≡ true → parents l.machine.tasks t ≡ Some p → owner_of l.machine.tasks t ≡ owner_of l.machine.tasks p
  owner_up t p j e =
      let a = owners.walks t in
      let b = owners.walks p in
      walk_end (parents l.machine.tasks) (joined l.machine.tasks) t (owner_of l.machine.tasks t) (owner_of l.machine.tasks p) a.0 (p ∷ b.0) a.1 (j, e, b.1) (owners.live t) (owners.live p)

  pub owner_live : (t : ℕ) → joined l.machine.tasks t ≡ false → owner_of l.machine.tasks t ≡ t
  owner_live t live = owners.own t live

  -- by the tree
  state_in : (n : Option TaskNode) (s : TaskState) → option_map (λ (m : TaskNode). m.state) n ≡ Some s → (m : TaskNode) × (n ≡ Some m) × (m.state ≡ s)
  state_in None s e = absurd cc
  state_in (Some m) s e = (m, refl, same_Some m.state s e)

  pub told_joined : (t : ℕ) → option_map (λ (m : TaskNode). m.state) (slice_get w.tree t) ≡ Some HasJoined → joined l.machine.tasks t ≡ true
  told_joined t e = let k = state_in (slice_get w.tree t) HasJoined e in joined_now t k.0 k.1 k.2

  pub told_live : (t : ℕ) (o : Option TaskState) → option_map (λ (m : TaskNode). m.state) (slice_get w.tree t) ≡ o → (o ≡ Some HasJoined → ⊥) → joined l.machine.tasks t ≡ false
  told_live t None e off = ap is_joined (unmade_now t (none_in (slice_get w.tree t) e))
    where
      none_in : (n : Option TaskNode) → option_map (λ (m : TaskNode). m.state) n ≡ None → n ≡ None
      none_in None z = refl
      none_in (Some m) z = absurd cc
  told_live t (Some s) e off = let k = state_in (slice_get w.tree t) s e in live_now t k.0 k.1 (λ j. off (ap Some (sym k.2 ∙ j)))
