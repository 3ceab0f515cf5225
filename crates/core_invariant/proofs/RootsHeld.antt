-- What remembered fields hold and points into a heap at rest are its roots.
use Rattle.core_invariant.proofs.Common.{◌≡◌, ℕ, ◌<◌, arith, Bool, true, false, cond, Option, Some, None, List, [], ◌∷◌, inl, inr, length, slice_get, is_some, refl, ap, sym, subst, ◌∙◌, slice_index_or, false≢true, get_or_from_slice_get, same_Some, slice_get-get_or, in_append_cases, in_append_left, in_append_right, each_from, in_map, map_in, Name, Object, object_at, Ledger, Addr, has_chunk, place_in, ChunkValue, Located, has_own, RefField, AreFields, target_of, into, targets_of, Rests, own, AreRoots, IsRememberedRoot, IsSource, LiesWithOwner, MemoryStands, Chunk, In, Lies, Memory, objects, objects_of_chunks, sources, in_chunk, lies_in, name_at, Resting, resting_references, chunk_of, chunks_of}
use Rattle.core_invariant.proofs.FreeChunks.{refs_long}
use Rattle.core_invariant.proofs.PartFitsMachine.{placed_in}

-- ---- LISTS

pub into_tells : (ks : List ChunkValue) (o : Option Addr) (a : Addr) → In (into ks o) a → (o ≡ Some a) × (has_chunk ks a.chunk ≡ true)
into_tells ks None a i = absurd i
into_tells ks (Some b) a i = into_tells_by_cases (has_chunk ks b.chunk) refl i
  where
    into_tells_by_cases : (v : Bool) → has_chunk ks b.chunk ≡ v → In (cond v (b ∷ []) []) a → (Some b ≡ Some a) × (has_chunk ks a.chunk ≡ true)
    into_tells_by_cases true e (inl q) = (ap Some q, ap (λ (z : Addr). has_chunk ks z.chunk) (sym q) ∙ e)
    into_tells_by_cases true e (inr j) = absurd j
    into_tells_by_cases false e j = absurd j

pub into_there : (ks : List ChunkValue) (o : Option Addr) (a : Addr) → o ≡ Some a → has_chunk ks a.chunk ≡ true → In (into ks o) a
into_there ks o a e h = subst (λ z. In (into ks z) a) (sym e) (subst (λ v. In (cond v (a ∷ []) []) a) (sym h) (inl refl))

module _ {S : Type 0} (refs_at : S → Addr → List (Option Addr)) (h : S) (ks : List ChunkValue) where
  targets_tell : (ss : List RefField) (a : Addr) → In (targets_of refs_at h ks ss) a → (s : RefField) × In ss s × (target_of refs_at h s ≡ Some a) × (has_chunk ks a.chunk ≡ true)
  targets_tell [] a i = absurd i
  targets_tell (s ∷ ss) a i = elim (in_append_cases (into ks (target_of refs_at h s)) (targets_of refs_at h ks ss) a i) [
    | inl j ↦ let t = into_tells ks (target_of refs_at h s) a j in (s, inl refl, t.0, t.1)
    | inr j ↦ let r = targets_tell ss a j in (r.0, inr r.1, r.2, r.3)
  ]

  targets_there : (ss : List RefField) (s : RefField) (a : Addr) → In ss s → target_of refs_at h s ≡ Some a → has_chunk ks a.chunk ≡ true → In (targets_of refs_at h ks ss) a
  targets_there [] s a i e c = absurd i
  targets_there (x ∷ ss) s a (inl q) e c =
      in_append_left (into ks (target_of refs_at h x)) (targets_of refs_at h ks ss) a (into_there ks (target_of refs_at h x) a (ap (target_of refs_at h) q ∙ e) c)
  targets_there (x ∷ ss) s a (inr j) e c = in_append_right (into ks (target_of refs_at h x)) (targets_of refs_at h ks ss) a (targets_there ss s a j e c)

-- ---- CHUNKS

pub chunk_in : (ks : List ChunkValue) (number : ℕ) → has_chunk ks number ≡ true → (k : ChunkValue) × In ks k × (k.number ≡ number)
chunk_in ks number h = chunk_in_by_cases (place_in ks number) refl h
  where
    chunk_in_by_cases : (o : Option ℕ) → place_in ks number ≡ o → is_some o ≡ true → (k : ChunkValue) × In ks k × (k.number ≡ number)
    chunk_in_by_cases None e h = absurd (false≢true h)
    chunk_in_by_cases (Some i) e h = placed_in ks number i e

-- ---- A VALUE THAT STANDS, and a heap at rest with these chunks and remembered fields; heaps in whose words the
-- objects of all other heaps are read
module _ (v : Memory) (l : Ledger) (t : ℕ) (W : MemoryStands v l) (at_rest : Rests l t) (ks : List ChunkValue) (here : (v.belongings t).chunks ≡ chunks_of ks) (ss : List RefField) (sources_are : sources v t ≡ ss) (hs : Resting)
    (read : (u : ℕ) → (u ≡ t → ⊥) → Rests l u → (o : Located) → In (objects v u) o → resting_references hs o.at ≡ o.refs) where
  -- a source's object, and the task to which it belongs
  record SourceAt (s : RefField) : Type 0 where
    task : ℕ
    rests : Rests l task
    object : Located
    there : In (objects v task) object
    at : object.at ≡ s.object
    refs : resting_references hs s.object ≡ object.refs
    field : s.field < length object.refs

  refs_at_belongings : (u : ℕ) → (u ≡ t → ⊥) → Rests l u → (o : Located) → In (objects v u) o → (a : Addr) → o.at ≡ a → resting_references hs a ≡ o.refs
  refs_at_belongings u ne r o i a e = ap (resting_references hs) (sym e) ∙ read u ne r o i

  source_at : (s : RefField) → In ss s → SourceAt s
  source_at s i =
      let S : IsSource v l t s = W.sources t s (subst (λ xs. In xs s) (sym sources_are) i) in
      let lies : Lies (v.belongings (own l S.name)).chunks S.name s.object = S.place.here S.rests in
      let o : Located = lies.0 in
      let c = W.contents (own l S.name) o S.rests lies.1 in
      let same : S.object ≡ c.0 = same_Some S.object c.0 (sym S.is ∙ (ap (object_at l.machine.store) (sym lies.2.name) ∙ c.1)) in
      let long : length o.refs ≡ length S.object.refs = refs_long (LiesWithOwner v l) o.refs c.0.refs c.2.refs ∙ ap (λ (z : Object). length z.refs) (sym same) in
      let within : s.field < length S.object.refs = S.field in
      record {
        task = own l S.name;
        rests = S.rests;
        object = o;
        there = lies.1;
        at = lies.2.at;
        refs = refs_at_belongings (own l S.name) S.below S.rests o lies.1 s.object lies.2.at;
        field = omega (arith, long, within);
      }

  -- EACH SOURCE IS A FIELD
  pub are_fields : AreFields resting_references hs ss
  are_fields = each_from (λ s. s.field < length (resting_references hs s.object)) ss (λ s i. let A = source_at s i in subst (λ rs. s.field < length rs) (sym A.refs) A.field)

  -- an address in a chunk of the heap that stands for a name is the address of its object
  pub lies_here : (n : Name) (a : Addr) → LiesWithOwner v l n a → v.owner a.chunk ≡ Some t → (q : Located) × In (objects_of_chunks (chunks_of ks)) q × (q.at ≡ a)
  lies_here n a p mine =
      let owned : own l n ≡ t = same_Some (own l n) t (sym p.chunk ∙ mine) in
      let lies : Lies (v.belongings t).chunks n a = subst (λ z. Lies (v.belongings z).chunks n a) owned (p.here (subst (Rests l) (sym owned) at_rest)) in
      (lies.0, subst (λ cs. In (objects_of_chunks cs) lies.0) here lies.1, lies.2.at)

  -- whose chunk it is
  pub own_chunk : (number : ℕ) → has_chunk ks number ≡ true → v.owner number ≡ Some t
  own_chunk number h =
      let c = chunk_in ks number h in
      ap v.owner (sym c.2) ∙ (W.belongings t at_rest).owned (chunk_of c.0) (subst (λ cs. In cs (chunk_of c.0)) (sym here) (in_map chunk_of ks c.0 c.1))

  pub object_chunk : (q : Located) → In (objects_of_chunks (chunks_of ks)) q → has_chunk ks q.at.chunk ≡ true
  object_chunk q i =
      let c = in_chunk (chunks_of ks) q i in
      let d = map_in chunk_of ks c.0 c.1 in
      has_own ks d.0 q.at.chunk d.1 (ap (λ (z : Chunk). z.number) d.2 ∙ sym ((W.belongings t at_rest).inside c.0 q (subst (λ cs. In cs c.0) (sym here) c.1) c.2))

  -- the object in the heap to which a reference of another task's object leads
  leads_here : (u : ℕ) → Rests l u → (o : Located) → In (objects v u) o → (i : ℕ) (a : Addr) → slice_get o.refs i ≡ Some (Some a) → v.owner a.chunk ≡ Some t → (q : Located) × In (objects_of_chunks (chunks_of ks)) q × (q.at ≡ a)
  leads_here u r o j i a e mine =
      let c = W.contents u o r j in
      let n = name_at (LiesWithOwner v l) o.refs c.0.refs i a c.2.refs e in
      lies_here n.0 a n.2 mine

  abbrev held : List Addr
  held = targets_of resting_references hs ks ss

  -- THE ROOTS
  pub are_roots : AreRoots v l t (targets_of resting_references hs ks ss)
  are_roots a = (to, from)
    where
      to : In held a → IsRememberedRoot v l t a
      to i =
          let T = targets_tell resting_references hs ks ss a i in
          let A = source_at T.0 T.1 in
          let holds : slice_get A.object.refs T.0.field ≡ Some (slice_index_or A.object.refs T.0.field None) = slice_get-get_or A.object.refs T.0.field None A.field in
          let is : slice_index_or A.object.refs T.0.field None ≡ Some a = ap (λ rs. slice_index_or rs T.0.field None) (sym A.refs) ∙ T.2 in
          record {
            source = T.0;
            task = A.task;
            object = A.object;
            rests = A.rests;
            noted = subst (λ xs. In xs T.0) (sym sources_are) T.1;
            there = A.there;
            at = A.at;
            holds = holds ∙ ap Some is;
            into = own_chunk a.chunk T.3;
          }

      from : IsRememberedRoot v l t a → In held a
      from R =
          let s = R.source in
          let S : IsSource v l t R.source = W.sources t R.source R.noted in
          let owner : own l S.name ≡ R.task = same_Some (own l S.name) R.task (sym S.place.chunk ∙ (ap (λ (z : Addr). v.owner z.chunk) (sym R.at) ∙ lies_in v l W R.task R.object R.rests R.there)) in
          let at : R.object.at ≡ s.object = R.at in
          let holds : slice_get R.object.refs s.field ≡ Some (Some a) = R.holds in
          let refs : resting_references hs s.object ≡ R.object.refs = refs_at_belongings R.task (λ e. S.below (owner ∙ e)) R.rests R.object R.there s.object at in
          let is : target_of resting_references hs s ≡ Some a = ap (λ rs. slice_index_or rs s.field None) refs ∙ get_or_from_slice_get R.object.refs s.field (Some a) None holds in
          let q = leads_here R.task R.rests R.object R.there R.source.field a R.holds R.into in
          targets_there resting_references hs ks ss s a (subst (λ xs. In xs s) sources_are R.noted) is (ap (λ (z : Addr). has_chunk ks z.chunk) (sym q.2) ∙ object_chunk q.0 q.1)

  -- and each is an object of the heap
  pub root_here : (a : Addr) → In (targets_of resting_references hs ks ss) a → (q : Located) × In (objects_of_chunks (chunks_of ks)) q × (q.at ≡ a)
  root_here a i = let R = (are_roots a).0 i in leads_here R.task R.rests R.object R.there R.source.field a R.holds R.into
