-- The tasks and the chunks of a picture.
use Rattle.heap_picture.proofs.Common.{◌≡◌, ◌⊎◌, ℕ, zero, suc, ◌*◌, ◌<◌, true, false, Option, Some, None, List, [], ◌∷◌, length, option_map, slice_get, inl, inr, refl, ap, sym, subst, ◌∙◌, false≢true, same_Some, got_some, MachineState, Task, is_on_path, joined, owner_of, parent_of, parents, IsWalkUp, Addr, word_of_ref, Slot, slot_at, TaskState, Ready, Out, Waiting, Ended, Joined, TaskNode, state_of, Memory, IsSharedValue, SharedValue, accounts, value_of, InUse, is_state_running, IsInUse, Running, ImageTask as Drawn, ImageChunk, ImageData, HasTask, IsAbove, IsOwnedBy, HasImageParent, IsRunning, IsPictureOf, drawn_chunk, drawn_state, drawn_task}
use Rattle.heap_image.specs.below.plain_vec.{In}
use Rattle.heap_picture.proofs.Known.{T, owners, paths, known_machine, task_live, tree}
use Rattle.heap_picture.proofs.Numbers.{chunk_of_word, word_some}

drawn_running : (s : TaskState) → is_state_running (Some s) ≡ true → drawn_state s ≡ Running
drawn_running Ready e = refl
drawn_running Out e = refl
drawn_running Waiting e = absurd (false≢true e)
drawn_running Ended e = absurd (false≢true e)
drawn_running Joined e = absurd (false≢true e)

running_drawn : (s : TaskState) → drawn_state s ≡ Running → is_state_running (Some s) ≡ true
running_drawn Ready e = refl
running_drawn Out e = refl
running_drawn Waiting e = absurd cc
running_drawn Ended e = absurd cc
running_drawn Joined e = absurd cc

parent_in : (o : Option Task) (q : ℕ) → parent_of o ≡ Some q → (y : Task) × (o ≡ Some y) × (y.parent ≡ Some q)
parent_in None q e = absurd cc
parent_in (Some y) q e = (y, refl, e)

held_in : (o : Option Slot) (t : ℕ) → option_map (λ (h : Slot). h.owner) o ≡ Some t → (h : Slot) × (o ≡ Some h) × (h.owner ≡ t)
held_in None t e = absurd cc
held_in (Some h) t e = (h, refl, same_Some h.owner t e)

module _ (w : SharedValue) (I : IsSharedValue w) (p : ImageData) (P : IsPictureOf w p) where
  abbrev TT : List Task
  TT = T w I

  abbrev v : Memory
  v = value_of w

  -- TASKS
  pub task_in : (t : ℕ) (y : Task) → slice_get TT t ≡ Some y → joined TT t ≡ false → (q : Drawn) × In p.tasks q × (q.number ≡ t) × (q.parent ≡ y.parent)
  task_in t y e live = let x = task_live w I t y e live in (drawn_task x.0, (P.tasks.each (drawn_task x.0)).1 (x.0, x.1, refl), x.2, x.3)

  pub has_task : (t : ℕ) → t < length TT → joined TT t ≡ false → HasTask p t
  has_task t lt live = let y = got_some TT t lt in let q = task_in t y.0 y.1 live in (q.0, q.1, q.2)

  pub parent_live : (t q : ℕ) → parents TT t ≡ Some q → joined TT t ≡ false → joined TT q ≡ false
  parent_live t q e live = (tree w I).apart q ((tree w I).waits t q e live)

  pub is_parent : (t q : ℕ) → parents TT t ≡ Some q → joined TT t ≡ false → HasImageParent p.tasks t q
  is_parent t q e live =
      let y = parent_in (slice_get TT t) q e in
      let d = task_in t y.0 y.1 live in
      (d.0, d.1, d.2, d.3 ∙ y.2)

  links : (t : ℕ) (ps : List ℕ) (a : ℕ) → IsWalkUp (parents TT) t ps a → joined TT t ≡ false → (t ≡ a) ⊎ IsAbove p.tasks a t
  links t [] a e live = inl e
  links t (q ∷ qs) a e live =
      let here = is_parent t q e.0 live in
      inr (elim (links q qs a e.1 (parent_live t q e.0 live)) [
        | inl same ↦ (zero, subst (HasImageParent p.tasks t) same here)
        | inr r ↦ (suc r.0, (q, here, r.1))
      ])

  -- a task on a task's path is the task itself or one of its ancestors in the picture
  pub on_path : (a t : ℕ) → is_on_path TT a t ≡ true → joined TT t ≡ false → (t ≡ a) ⊎ IsAbove p.tasks a t
  on_path a t e live = let z = ((paths w I).walks a t).0 e in links t z.0 a z.1 live

  pub not_running : (t : ℕ) → is_state_running (state_of w.tree t) ≡ false → IsRunning p t → ⊥
  not_running t idle h =
      let x = (P.tasks.each h.0).0 h.1 in
      let state : state_of w.tree t ≡ Some x.0.state = ap (λ n. state_of w.tree n) (sym h.2 ∙ ap (λ (q : Drawn). q.number) x.2) ∙ ap (option_map (λ (n : TaskNode). n.state)) x.1.is in
      let runs : is_state_running (Some x.0.state) ≡ true = running_drawn x.0.state (sym (ap (λ (q : Drawn). q.state) x.2) ∙ h.3) in
      false≢true (sym idle ∙ (ap is_state_running state ∙ runs))

  pub running : (t : ℕ) → t < length TT → joined TT t ≡ false → is_state_running (state_of w.tree t) ≡ true → IsRunning p t
  running t lt live e =
      let y = got_some TT t lt in
      let x = task_live w I t y.0 y.1 live in
      let state : state_of w.tree t ≡ Some x.0.state = ap (λ n. state_of w.tree n) (sym x.2) ∙ ap (option_map (λ (n : TaskNode). n.state)) x.1.is in
      (drawn_task x.0, (P.tasks.each (drawn_task x.0)).1 (x.0, x.1, refl), x.2, drawn_running x.0.state (sym (ap is_state_running state) ∙ e))

  -- CHUNKS
  owner_now : (u : ℕ) → owner_of (accounts w).machine.tasks u ≡ owner_of TT u
  owner_now u = ap (λ (m : MachineState). owner_of m.tasks u) (sym (known_machine w I))

  pub chunk_in : (n t : ℕ) → v.owner n ≡ Some t → joined TT t ≡ false → (c : ImageChunk) × (h : Slot) × In p.chunks c × (slot_at w.pool n ≡ Some h) × (c.number ≡ n) × (c.owner ≡ t) × (c.words ≡ 1024 * h.units)
  chunk_in n t e live =
      let h = held_in (slot_at w.pool n) t e in
      let x : InUse = record { number = n; owner = owner_of (accounts w).machine.tasks h.0.owner; words = 1024 * h.0.units } in
      let X : IsInUse w x = record { slot = h.0; is = h.1; owner = refl; words = refl } in
      let owner : x.owner ≡ t = owner_now h.0.owner ∙ (ap (owner_of TT) h.2 ∙ (owners w I).own t live) in
      (drawn_chunk x, h.0, (P.chunks.each (drawn_chunk x)).1 (x, X, refl), h.1, refl, owner, refl)

  pub owned_at : (a : Addr) (t : ℕ) → a.offset < 1024 → v.owner a.chunk ≡ Some t → joined TT t ≡ false → IsOwnedBy p (word_of_ref (Some a)) t
  owned_at a t near e live = let c = chunk_in a.chunk t e live in (c.0, (c.2, word_some a, chunk_of_word a near ∙ sym c.4), c.5)

  pub owner_is : (a : Addr) (t u : ℕ) → a.offset < 1024 → v.owner a.chunk ≡ Some t → joined TT t ≡ false → IsOwnedBy p (word_of_ref (Some a)) u → u ≡ t
  owner_is a t u near e live h =
      let x = (P.chunks.each h.0).0 h.1.0 in
      let number : x.0.number ≡ a.chunk = sym (ap (λ (c : ImageChunk). c.number) x.2) ∙ (sym h.1.2 ∙ chunk_of_word a near) in
      let holder : option_map (λ (z : Slot). z.owner) (slot_at w.pool x.0.number) ≡ Some t = ap v.owner number ∙ e in
      let owner : x.1.slot.owner ≡ t = same_Some x.1.slot.owner t (sym (ap (option_map (λ (z : Slot). z.owner)) x.1.is) ∙ holder) in
      sym h.2 ∙ (ap (λ (c : ImageChunk). c.owner) x.2 ∙ (x.1.owner ∙ (owner_now x.1.slot.owner ∙ (ap (owner_of TT) owner ∙ (owners w I).own t live))))
