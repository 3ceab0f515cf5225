-- The heaps of the tasks that no worker holds, as seen by code that reaches a reference by the address of its object.
use Rattle.std.specs.Prelude.{◌≡◌, ◌≢◌, ℕ, Option, Some, None, List, [], refl, slice_get, slice_set}
use Rattle.std.specs.Option.{option_flatten}
use Rattle.std.proofs.Common.{inl, inr, ap, sym, ◌∙◌}
use Rattle.std.proofs.lemmas.Bool.{cases_eq}
use Rattle.leaf_heap.proofs.below.plain_vec.{got_other, got_same}
use Rattle.object_layout.specs.declared.word.Addr.{Addr}
use Rattle.chunk_pool.specs.PoolValue.{PoolValue, owner_of}
use Rattle.leaf_heap.specs.FieldLaws.{refs_of_other, refs_of_same, with_ref_of}
use Rattle.task_slots.specs.declared.heaps.Heaps.{Heaps}
use Rattle.task_slots.specs.declared.task_at_rest.ParkedTask.{ParkedTask}
use Rattle.task_slots.specs.TaskSlotsValue.{refs_of_rest, rest_at}

-- the parked state of each task that no worker holds, and who owns each chunk
pub record Resting : Type 0 where
  pub rests : List (Option ParkedTask)
  pub pool : PoolValue

-- the references of the object at an address, if the chunk is that task's
abbrev pub refs_for : List (Option ParkedTask) → Option ℕ → Addr → List (Option Addr)
refs_for rests None a = []
refs_for rests (Some t) a = refs_of_rest (rest_at rests t) a

abbrev pub resting_references : Resting → Addr → List (Option Addr)
resting_references h a = refs_for h.rests (owner_of h.pool a.chunk) a

-- one reference written
abbrev pub with_ref_at : List (Option ParkedTask) → ℕ → Option ParkedTask → Addr → ℕ → Option Addr → List (Option ParkedTask)
with_ref_at rests t None a k r = rests
with_ref_at rests t (Some x) a k r = slice_set rests t (Some (record x { heap = with_ref_of x.heap a k r }))

abbrev pub with_ref_for : List (Option ParkedTask) → Option ℕ → Addr → ℕ → Option Addr → List (Option ParkedTask)
with_ref_for rests None a k r = rests
with_ref_for rests (Some t) a k r = with_ref_at rests t (rest_at rests t) a k r

abbrev pub with_ref_in : Resting → Addr → ℕ → Option Addr → Resting
with_ref_in h a k r = record h { rests = with_ref_for h.rests (owner_of h.pool a.chunk) a k r }

-- THE LAWS of a write

same_at : (rests : List (Option ParkedTask)) (t : ℕ) (a : Addr) (k : ℕ) (r : Option Addr) (o : Option (Option ParkedTask)) → slice_get rests t ≡ o → refs_of_rest (rest_at (with_ref_at rests t (option_flatten o) a k r) t) a ≡ slice_set (refs_of_rest (option_flatten o) a) k r
same_at rests t a k r None e = ap (λ z. refs_of_rest (option_flatten z) a) e
same_at rests t a k r (Some None) e = ap (λ z. refs_of_rest (option_flatten z) a) e
same_at rests t a k r (Some (Some x)) e =
    ap (λ z. refs_of_rest (option_flatten z) a) (got_same rests t (Some x) (Some (record x { heap = with_ref_of x.heap a k r })) e) ∙ refs_of_same x.heap a k r

other_at : (rests : List (Option ParkedTask)) (t : ℕ) (a b : Addr) (k : ℕ) (r : Option Addr) → b ≢ a → (o : Option (Option ParkedTask)) → slice_get rests t ≡ o → refs_of_rest (rest_at (with_ref_at rests t (option_flatten o) a k r) t) b ≡ refs_of_rest (option_flatten o) b
other_at rests t a b k r ne None e = ap (λ z. refs_of_rest (option_flatten z) b) e
other_at rests t a b k r ne (Some None) e = ap (λ z. refs_of_rest (option_flatten z) b) e
other_at rests t a b k r ne (Some (Some x)) e =
    ap (λ z. refs_of_rest (option_flatten z) b) (got_same rests t (Some x) (Some (record x { heap = with_ref_of x.heap a k r })) e) ∙ refs_of_other x.heap a b k r ne

off_at : (rests : List (Option ParkedTask)) (t u : ℕ) (a b : Addr) (k : ℕ) (r : Option Addr) → (u ≡ t → ⊥) → (o : Option ParkedTask) → refs_of_rest (rest_at (with_ref_at rests t o a k r) u) b ≡ refs_of_rest (rest_at rests u) b
off_at rests t u a b k r ne None = refl
off_at rests t u a b k r ne (Some x) = ap (λ z. refs_of_rest (option_flatten z) b) (got_other rests t u (Some (record x { heap = with_ref_of x.heap a k r })) ne)

pub refs_in_same : (h : Resting) (a : Addr) (k : ℕ) (r : Option Addr) → resting_references (with_ref_in h a k r) a ≡ slice_set (resting_references h a) k r
refs_in_same h a k r = refs_in_same_by_cases (owner_of h.pool a.chunk)
  where
    refs_in_same_by_cases : (o : Option ℕ) → refs_for (with_ref_for h.rests o a k r) o a ≡ slice_set (refs_for h.rests o a) k r
    refs_in_same_by_cases None = refl
    refs_in_same_by_cases (Some t) = same_at h.rests t a k r (slice_get h.rests t) refl

pub refs_in_other : (h : Resting) (a b : Addr) (k : ℕ) (r : Option Addr) → b ≢ a → resting_references (with_ref_in h a k r) b ≡ resting_references h b
refs_in_other h a b k r ne = refs_in_other_by_cases (owner_of h.pool a.chunk) (owner_of h.pool b.chunk)
  where
    refs_in_other_by_cases : (o q : Option ℕ) → refs_for (with_ref_for h.rests o a k r) q b ≡ refs_for h.rests q b
    refs_in_other_by_cases None q = refl
    refs_in_other_by_cases (Some t) None = refl
    refs_in_other_by_cases (Some t) (Some u) = elim (cases_eq u t) [
      | inl e ↦
          ap (λ z. refs_of_rest (rest_at (with_ref_at h.rests t (rest_at h.rests t) a k r) z) b) e
          ∙ (other_at h.rests t a b k r ne (slice_get h.rests t) refl ∙ ap (λ z. refs_of_rest (rest_at h.rests z) b) (sym e))
      | inr off ↦ off_at h.rests t u a b k r off (rest_at h.rests t)
    ]

-- THE HEAPS of parked tasks, with what is noted and marked

abbrev pub resting : Heaps → Resting
resting h = record { rests = h.task_slots.rests; pool = h.pool }

abbrev pub with_resting : Heaps → Resting → Heaps
with_resting h r = record h { task_slots = record h.task_slots { rests = r.rests } }

abbrev pub heap_refs : Heaps → Addr → List (Option Addr)
heap_refs h a = resting_references (resting h) a

abbrev pub with_heap_ref : Heaps → Addr → ℕ → Option Addr → Heaps
with_heap_ref h a k r = with_resting h (with_ref_in (resting h) a k r)

pub heap_refs_same : (h : Heaps) (a : Addr) (k : ℕ) (r : Option Addr) → heap_refs (with_heap_ref h a k r) a ≡ slice_set (heap_refs h a) k r
heap_refs_same h a k r = refs_in_same (resting h) a k r

pub heap_refs_other : (h : Heaps) (a b : Addr) (k : ℕ) (r : Option Addr) → b ≢ a → heap_refs (with_heap_ref h a k r) b ≡ heap_refs h b
heap_refs_other h a b k r ne = refs_in_other (resting h) a b k r ne
