-- The objects of heaps at rest: their owners and places.
use Rattle.heap_picture.proofs.Common.{◌≡◌, ℕ, ◌<◌, true, false, Option, Some, None, List, length, is_some, slice_get, refl, ap, subst, ◌∙◌, false≢true, slice_get_within, map_in, Object, Task, object_at, joined, heap_of, Located, slot_at, Rests, own, IsModelObject, BelongingsStand, LiesWithOwner, MemoryStands, Chunk as ChunkOf, In, Memory, object_name, objects, objects_of_chunks, in_chunk, object_held, ParkedTask, IsFree, chunk_of, IsSharedValue, SharedValue, belongings_in, rest_at, value_of, belongings_chunks, IsHandedBack}
use Rattle.heap_picture.proofs.Known.{T, k, owned, owners, rests}

pub some_within : {A : Type 0} (xs : List A) (t : ℕ) → is_some (slice_get xs t) ≡ true → t < length xs
some_within {A = A} xs t e = some_within_by_cases (slice_get xs t) refl e
  where
    some_within_by_cases : (o : Option A) → slice_get xs t ≡ o → is_some o ≡ true → t < length xs
    some_within_by_cases None is z = absurd (false≢true z)
    some_within_by_cases (Some x) is z = slice_get_within xs t x is

module _ (w : SharedValue) (I : IsSharedValue w) where
  abbrev v : Memory
  v = value_of w

  abbrev TT : List Task
  TT = T w I

  pub S : MemoryStands v (k w I)
  S = I.stands.belongings

  pub made : (n t : ℕ) → v.owner n ≡ Some t → t < length TT
  made n t e = some_within TT t (S.made n t e)

  near_by : (t : ℕ) (r : Option ParkedTask) → rest_at w.rests t ≡ r → (o : Located) → In (objects_of_chunks (belongings_in r).chunks) o → o.at.offset < 1024
  near_by t None e o i = absurd i
  near_by t (Some r) e o i = (I.heaps t r e).near o (subst (λ ks. In (objects_of_chunks ks) o) (belongings_chunks r) i)

  measured_by : (t : ℕ) → IsFree w.tasks_out t → (r : Option ParkedTask) → rest_at w.rests t ≡ r → (c : ChunkOf) → In (belongings_in r).chunks c → slot_at w.pool c.number ≡ Some (record { owner = t; units = c.units })
  measured_by t un None e c i = absurd i
  measured_by t un (Some r) e c i =
      let q = map_in chunk_of r.heap.chunks c (subst (λ ks. In ks c) (belongings_chunks r) i) in
      subst (λ (z : ChunkOf). slot_at w.pool z.number ≡ Some (record { owner = t; units = z.units })) q.2 (I.measured t r e un q.0 q.1)

  -- AN OBJECT OF A HEAP AT REST
  module _ (t : ℕ) (idle : IsHandedBack w t) (o : Located) (i : In (objects v t) o) where
    pub R : Rests (k w I) t
    R = rests w I t idle

    pub H : BelongingsStand v (k w I) t
    H = S.belongings t R

    pub content : (x : Object) × (object_at (k w I).machine.store (object_name o) ≡ Some x) × IsModelObject (LiesWithOwner v (k w I)) o x
    content = S.contents t o R i

    pub own_is : own (k w I) (object_name o) ≡ t
    own_is = (owned w I t (object_name o) (object_held (v.belongings t).chunks (heap_of (k w I) t) H.names o i)).1

    pub live : joined TT t ≡ false
    live = subst (λ u. joined TT u ≡ false) own_is ((owners w I).live o.birth.task)

    pub chunk : (c : ChunkOf) × In (v.belongings t).chunks c × In c.objects o
    chunk = in_chunk (v.belongings t).chunks o i

    pub owner : v.owner o.at.chunk ≡ Some t
    owner = ap v.owner (H.inside chunk.0 o chunk.1 chunk.2) ∙ H.owned chunk.0 chunk.1

    pub near : o.at.offset < 1024
    near = near_by t (rest_at w.rests t) refl o i

    unheld : IsFree w.tasks_out t
    unheld j h =
        let a : (heap_of (k w I) t).worker ≡ None = R in
        let b : (heap_of (k w I) t).worker ≡ Some j = (I.stands.tree_counts.task_out j t).0 h in
        absurd cc

    -- the pool has the units of its chunk
    pub measured : slot_at w.pool o.at.chunk ≡ Some (record { owner = t; units = chunk.0.units })
    measured = ap (slot_at w.pool) (H.inside chunk.0 o chunk.1 chunk.2) ∙ measured_by t unheld (rest_at w.rests t) refl chunk.0 chunk.1
