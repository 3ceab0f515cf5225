-- What is reachable within a heap, by the accounts, is what walks from its roots lead to.
use Rattle.std.proofs.Common.{◌↔◌, ℕ, filter, Contains, slice_get, inl, inr}
use Rattle.std.proofs.lemmas.List.Elements.{Contains-append_cases, Contains-append_left, Contains-append_right}
use Rattle.plain_vec.proofs.Members.{contains_from_in, flat_in, got_in, in_flat, in_from_contains, in_from_kept, in_kept}
use Rattle.walk_laws.proofs.Reached.{reached_more, reached_start, reached_within}
use Rattle.hh_model.specs.declared.data.Name.{Name}
use Rattle.hh_model.specs.Names.{refs_at, registers}
use Rattle.hh_model.specs.Step.{owner_of}
use Rattle.run_ledger.specs.declared.data.Ledger.{Ledger}
use Rattle.run_ledger.specs.Heaps.{down_roots, frames_of, heap_of, held, held_in, is_proper_ancestor, roots_of, within}
use Rattle.run_ledger.specs.Laws.{Refers}
use Rattle.run_ledger.specs.Reachable.{IsReachedWithin, LeadsWithin, StartsWithin}
use Rattle.run_ledger.proofs.Reached.{reached_is_walks}
use Rattle.reachability_laws.specs.Kept.{HeapHolds, IsFromAbove, IsReachedIn, IsRoot}

module _ (l : Ledger) (t : ℕ) where
  from_above : (n : Name) → Contains (down_roots l t) n → IsFromAbove l t n
  from_above n c =
      let found = flat_in (refs_at l.machine.store) (filter (λ m. is_proper_ancestor l.machine.tasks (owner_of l.machine.tasks m.task) t) (held l)) n (in_from_contains (down_roots l t) n c) in
      let kept = in_from_kept (λ m. is_proper_ancestor l.machine.tasks (owner_of l.machine.tasks m.task) t) (held l) found.1 (got_in _ found.0 found.1 found.2) in
      record {
        object = found.1;
        held_is = contains_from_in (held l) found.1 kept.0;
        above = kept.1;
        refers = contains_from_in (refs_at l.machine.store found.1) n found.3;
      }

  to_down : (n : Name) → IsFromAbove l t n → Contains (down_roots l t) n
  to_down n a =
      contains_from_in (down_roots l t) n
      (in_flat (refs_at l.machine.store) (filter (λ m. is_proper_ancestor l.machine.tasks (owner_of l.machine.tasks m.task) t) (held l)) a.object n
      (in_kept (λ m. is_proper_ancestor l.machine.tasks (owner_of l.machine.tasks m.task) t) (held l) a.object (in_from_contains (held l) a.object a.held_is) a.above)
      (in_from_contains (refs_at l.machine.store a.object) n a.refers))

  root_is : (n : Name) → Contains (roots_of l t) n → IsRoot l t n
  root_is n c = elim (Contains-append_cases (registers (frames_of (slice_get l.machine.tasks t))) (down_roots l t) n c) [
    | inl r ↦ inl r
    | inr d ↦ inr (from_above n d)
  ]

  is_root : (n : Name) → IsRoot l t n → Contains (roots_of l t) n
  is_root n (inl r) = Contains-append_left (registers (frames_of (slice_get l.machine.tasks t))) (down_roots l t) n r
  is_root n (inr a) = Contains-append_right (registers (frames_of (slice_get l.machine.tasks t))) (down_roots l t) n (to_down n a)

  abbrev Walked : Name → Type 0
  Walked = IsReachedWithin l.machine.store (held_in (heap_of l t)) (roots_of l t)

  walked_is : (n : Name) → Walked n → IsReachedIn l t n
  walked_is n w =
      reached_within (StartsWithin (held_in (heap_of l t)) (roots_of l t)) (LeadsWithin l.machine.store (held_in (heap_of l t))) (IsReachedIn l t)
      (λ a s. reached_start (λ m. HeapHolds l t m × IsRoot l t m) (λ m k. HeapHolds l t k × Refers l.machine m k) a (s.0, root_is a s.1))
      (λ m a p e. reached_more (λ m. HeapHolds l t m × IsRoot l t m) (λ m k. HeapHolds l t k × Refers l.machine m k) m a p e)
      n w

  is_walked : (n : Name) → IsReachedIn l t n → Walked n
  is_walked n w =
      reached_within (λ m. HeapHolds l t m × IsRoot l t m) (λ m k. HeapHolds l t k × Refers l.machine m k) Walked
      (λ a s. reached_start (StartsWithin (held_in (heap_of l t)) (roots_of l t)) (LeadsWithin l.machine.store (held_in (heap_of l t))) a (s.0, is_root a s.1))
      (λ m a p e. reached_more (StartsWithin (held_in (heap_of l t)) (roots_of l t)) (LeadsWithin l.machine.store (held_in (heap_of l t))) m a p e)
      n w

  pub within_is_reached : (n : Name) → Contains (within l t) n ↔ IsReachedIn l t n
  within_is_reached n =
      let walks = reached_is_walks l.machine.store (held_in (heap_of l t)) (roots_of l t) n in
      (λ c. walked_is n (walks.0 c), λ r. walks.1 (is_walked n r))
