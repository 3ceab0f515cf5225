-- Chunks that the pool has with their units stay so, whatever is taken, released or relabelled.
use Rattle.core_invariant.proofs.Common.{◌≡◌, ℕ, ◌*◌, ◌/◌, ◌==◌, ◌++◌, arith, All, Bool, true, false, cond, Option, Some, None, is_some, List, [], ◌∷◌, map, option_map, inl, inr, refl, ap, sym, subst, ◌∙◌, IsSome, cases_Bool, cases_eq, cond-false, cond-true, false≢true, same_Some, none_some, map_in, read_in, Addr, Cell, has_chunk, place_in, put_object, with_cell, ChunkValue, number_of, Slot, PoolValue, Reserves, TakesAll, slot_at, slot_in, one_unit, owner_of, IsFresh, AreGiven, AreRelabelled, with_owner, In, Private, AreMeasured, AreUnits, IsMeasured, KeepsUnits}
use Rattle.core_invariant.proofs.CellsRead.{fresh_off}
use Rattle.core_invariant.proofs.FieldsNoted.{fresh_by}

-- the pool has the chunks that it has for a task
pub owner_held : (pool : PoolValue) (n u : ℕ) → owner_of pool n ≡ Some u → IsSome (slot_at pool n)
owner_held pool n u e = owner_held_by_cases (slot_at pool n) e
  where
    owner_held_by_cases : (o : Option Slot) → option_map (λ (h : Slot). h.owner) o ≡ Some u → IsSome o
    owner_held_by_cases None q = none_some q
    owner_held_by_cases (Some h) q = refl

-- a chunk of n units for a task
abbrev of_units : ℕ → ℕ → Slot
of_units t units = record { owner = t; units = units }

-- WHAT IT HAS FOR A TASK STAYS
pub all_kept : (pool : PoolValue) (t : ℕ) → KeepsUnits pool pool t
all_kept pool t n units e = e

pub measured_kept : (old new : PoolValue) (t : ℕ) (ks : List ChunkValue) → KeepsUnits old new t → AreMeasured old t ks → AreMeasured new t ks
measured_kept old new t ks K M k i = K k.number (k.size / 1024) (M k i)

pub part_kept : (old new : PoolValue) (p : Private) → KeepsUnits old new p.task → IsMeasured old p → IsMeasured new p
part_kept old new p K M = (measured_kept old new p.task p.heap.chunks K M.0, λ n i. K n 1 (M.1 n i))

pub measured_both : (pool : PoolValue) (t : ℕ) (ks js : List ChunkValue) → AreMeasured pool t ks → AreMeasured pool t js → AreMeasured pool t (ks ++ js)
measured_both pool t [] js A B k i = B k i
measured_both pool t (x ∷ ks) js A B k (inl e) = A k (inl e)
measured_both pool t (x ∷ ks) js A B k (inr i) = measured_both pool t ks js (λ c j. A c (inr j)) B k i

-- A CHUNK IS TAKEN
pub taken_keeps : (old new : PoolValue) (number : ℕ) (held : Slot) → Reserves old new number held → (t : ℕ) → KeepsUnits old new t
taken_keeps old new number held T t n units e = elim (cases_eq n number) [
  | inl q ↦ absurd (none_some (sym T.was_free ∙ (ap (slot_at old) (sym q) ∙ e)))
  | inr ne ↦ T.rest.others n ne ∙ e
]

-- and it has its units
pub measured_new : (old new : PoolValue) (k : ChunkValue) (t units : ℕ) → Reserves old new k.number (record { owner = t; units = units }) → k.size ≡ 1024 * units → AreMeasured new t (k ∷ [])
measured_new old new k t units T e c (inl q) = subst (λ (z : ChunkValue). slot_at new z.number ≡ Some (record { owner = t; units = z.size / 1024 })) q (T.taken ∙ ap (λ n. Some (of_units t n)) (let q : units ≡ k.size / 1024 = omega (arith, e) in q))
measured_new old new k t units T e c (inr i) = absurd i

-- MANY ARE TAKEN
module _ (old new : PoolValue) (owner count : ℕ) (was is : List ChunkValue) (T : TakesAll old new owner count was is) where
  pub all_taken_keep : (t : ℕ) → KeepsUnits old new t
  all_taken_keep t n units e = T.numbers.numbered.each n ∙ (cond-false (has_chunk T.numbers.chunks n) (Some (one_unit owner)) (slot_in old.slots n) (off (has_chunk T.numbers.chunks n) refl) ∙ e)
    where
      off : (b : Bool) → has_chunk T.numbers.chunks n ≡ b → b ≡ false
      off false q = refl
      off true q =
          let fresh : IsFresh T.numbers.chunks n = fresh_by T.numbers.chunks n
          (λ c j z. none_some (sym (read_in (λ (c : ChunkValue). slot_in old.slots c.number ≡ None) T.numbers.chunks c j T.numbers.numbered.were_free) ∙ (ap (slot_in old.slots) z ∙ e))) in
          absurd (false≢true (sym (ap is_some fresh) ∙ q))

  pub all_taken_units : AreUnits new owner (map number_of T.numbers.chunks)
  all_taken_units n i =
      let x = map_in number_of T.numbers.chunks n i in
      T.numbers.numbered.each n ∙ cond-true (has_chunk T.numbers.chunks n) (Some (one_unit owner)) (slot_in old.slots n) (all_taken_units_there x.0 x.1 x.2 (place_in T.numbers.chunks n) refl)
    where
      all_taken_units_there : (c : ChunkValue) → In T.numbers.chunks c → c.number ≡ n → (o : Option ℕ) → place_in T.numbers.chunks n ≡ o → is_some o ≡ true
      all_taken_units_there c j q None e = absurd (fresh_off T.numbers.chunks c n e j q)
      all_taken_units_there c j q (Some k) e = refl

-- CHUNKS ARE RELEASED: what is another task's is unchanged
pub given_keeps : (old new : PoolValue) (gs : List ChunkValue) (t u : ℕ) → AreGiven old new gs → All (λ g. owner_of old g.number ≡ Some t) gs → (u ≡ t → ⊥) → KeepsUnits old new u
given_keeps old new gs t u G owned ne n units e =
    G.others n (fresh_by gs n (λ g j q. ne (same_Some u t (sym (ap (option_map (λ (h : Slot). h.owner)) e) ∙ (ap (owner_of old) (sym q) ∙ read_in (λ (g : ChunkValue). owner_of old g.number ≡ Some t) gs g j owned)))))
    ∙ e

-- and so is all else of the task's own
pub measured_given : (old new : PoolValue) (gs : List ChunkValue) (t : ℕ) (ks : List ChunkValue) → AreGiven old new gs → ((k : ChunkValue) → In ks k → IsFresh gs k.number) → AreMeasured old t ks → AreMeasured new t ks
measured_given old new gs t ks G f M k i = G.others k.number (f k i) ∙ M k i

-- CHUNKS ARE RELABELLED
module _ (old new : PoolValue) (ks : List ChunkValue) (owner : ℕ) (R : AreRelabelled old new ks owner) where
  -- what belongs to none of these tasks is unchanged
  pub relabelled_keeps : (t : ℕ) → ((n units : ℕ) → slot_at old n ≡ Some (record { owner = t; units = units }) → has_chunk ks n ≡ true → ⊥) → KeepsUnits old new t
  relabelled_keeps t apart n units e = elim (cases_Bool (has_chunk ks n)) [
    | inl h ↦ absurd (apart n units e h)
    | inr h ↦ R.each n ∙ (cond-false (has_chunk ks n) (option_map (with_owner owner) (slot_at old n)) (slot_at old n) h ∙ e)
  ]

  -- and so is what is the owner's, in any case
  pub relabelled_own : KeepsUnits old new owner
  relabelled_own n units e = elim (cases_Bool (has_chunk ks n)) [
    | inl h ↦ R.each n ∙ (cond-true (has_chunk ks n) (option_map (with_owner owner) (slot_at old n)) (slot_at old n) h ∙ ap (option_map (with_owner owner)) e)
    | inr h ↦ R.each n ∙ (cond-false (has_chunk ks n) (option_map (with_owner owner) (slot_at old n)) (slot_at old n) h ∙ e)
  ]

  -- the chunks are the new owner's
  pub relabelled_measured : (t : ℕ) (js : List ChunkValue) → ((k : ChunkValue) → In js k → has_chunk ks k.number ≡ true) → AreMeasured old t js → AreMeasured new owner js
  relabelled_measured t js has M k i =
      R.each k.number
      ∙ (cond-true (has_chunk ks k.number) (option_map (with_owner owner) (slot_at old k.number)) (slot_at old k.number) (has k i)
      ∙ ap (option_map (with_owner owner)) (M k i))

-- AN OBJECT IS WRITTEN
pub measured_written : (pool : PoolValue) (t : ℕ) (ks : List ChunkValue) (a : Addr) (d : Cell) → AreMeasured pool t ks → AreMeasured pool t (put_object ks a d)
measured_written pool t [] a d M k i = absurd i
measured_written pool t (x ∷ ks) a d M k i = measured_written_by_cases (x.number == a.chunk) (measured_written pool t ks a d (λ c j. M c (inr j))) k i
  where
    measured_written_by_cases : (b : Bool) → AreMeasured pool t (put_object ks a d) → AreMeasured pool t (cond b (with_cell x a.offset d ∷ ks) (x ∷ put_object ks a d))
    measured_written_by_cases true go k (inl e) = subst (λ (z : ChunkValue). slot_at pool z.number ≡ Some (record { owner = t; units = z.size / 1024 })) e (M x (inl refl))
    measured_written_by_cases true go k (inr i) = M k (inr i)
    measured_written_by_cases false go k (inl e) = M k (inl e)
    measured_written_by_cases false go k (inr i) = go k i
