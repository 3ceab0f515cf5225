-- A task ends, and its sibling goes on: its belongings stay, with the result.
use Rattle.refinement.proofs.Common.{◌≡◌, ℕ, pos, false, unwrap_or, Some, List, ◌∷◌, length, slice_get, ap, sym, subst, ◌∙◌, same_Some, Addr, Name, Ended, Task, row_of, is_joined, is_waiting, result_of, runs_idle, Heap, Ledger, heap_of, SoundLedger, CallFrame, Rests, EndsTask, ref_of, Memory, In, object_name, objects_of_chunks, Lies, ReadsReference, FramesAreRead, HoldsRead, TaskIsRead, AreLaidOut, LiesWithOwner, ChunksHaveNames, BelongingsStand, MemoryStands, EndsBelongings, StepsInBelongings}
use Rattle.refinement.proofs.objects.Carry.{field_of, object_kept, read_kept}
use Rattle.refinement.proofs.changes.Own.{stepped, place_own}

-- the account of a task's belongings is unchanged, and so are its chunks and counts
pub belongings_alike : (v v' : Memory) (l l' : Ledger) (t : ℕ) → (v'.belongings t).chunks ≡ (v.belongings t).chunks → (v'.belongings t).room ≡ (v.belongings t).room → (v'.belongings t).since ≡ (v.belongings t).since → (v'.belongings t).count ≡ (v.belongings t).count
    → ((k : ℕ) → v.owner k ≡ Some t → v'.owner k ≡ Some t) → heap_of l' t ≡ heap_of l t → length (row_of (slice_get l'.machine.store t)) ≡ length (row_of (slice_get l.machine.store t)) → is_joined (slice_get l'.machine.tasks t) ≡ is_joined (slice_get l.machine.tasks t) → BelongingsStand v l t → BelongingsStand v' l' t
belongings_alike v v' l l' t ec eo es en ow el er ej H = record {
  names = subst (λ ks. ChunksHaveNames ks (heap_of l' t)) (sym ec) (subst (ChunksHaveNames (v.belongings t).chunks) (sym el) H.names);
  room = eo ∙ (H.room ∙ sym (ap (λ (h : Heap). h.room) el));
  since = es ∙ (H.since ∙ sym (ap (λ (h : Heap). h.since) el));
  count = λ live. en ∙ (H.count (sym ej ∙ live) ∙ sym er);
  owned = λ k i. ow k.number (H.owned k (subst (λ ks. In ks k) ec i));
  inside = λ k o i j. H.inside k o (subst (λ ks. In ks k) ec i) j;
  once = λ o p i j e. H.once o p (subst (λ ks. In (objects_of_chunks ks) o) ec i) (subst (λ ks. In (objects_of_chunks ks) p) ec j) e;
  named = λ o p i j e. H.named o p (subst (λ ks. In (objects_of_chunks ks) o) ec i) (subst (λ ks. In (objects_of_chunks ks) p) ec j) e;
  laid = subst (λ ks. AreLaidOut ks (heap_of l' t).reserved) (sym ec) (subst (λ (h : Heap). AreLaidOut (v.belongings t).chunks h.reserved) (sym el) H.laid);
}

module _ (v v' : Memory) (l l' : Ledger) (t : ℕ) (x : Task) (f : CallFrame) (fs : List CallFrame) (S : SoundLedger l) (S' : SoundLedger l') (V : MemoryStands v l) (rests : Rests l t) (L : EndsTask l l' t x) (C : EndsBelongings v v' t f fs) where
  rests' : Rests l' t
  rests' = ap (λ (h : Heap). h.worker) L.heap ∙ rests

  idle : is_waiting (slice_get l.machine.tasks t) ≡ false
  idle = runs_idle x L.task L.runs

  at_belongings : StepsInBelongings v v' t
  at_belongings = record { view = C.view; others = C.others; owner = C.owner; sources = C.sources; stays = λ n a q. subst (λ ks. Lies ks n a) (sym C.chunks) q }

  place : (n : Name) (a : Addr) → LiesWithOwner v l n a → LiesWithOwner v' l' n a
  place = place_own v v' l l' t S S' V L.alone rests rests' idle at_belongings

  frames : FramesAreRead (LiesWithOwner v l) (f ∷ fs) (x.top ∷ x.below)
  frames = subst (λ zs. FramesAreRead (LiesWithOwner v l) zs (x.top ∷ x.below)) C.frames (subst (HoldsRead (LiesWithOwner v l) (v.belongings t) x) L.runs (V.tasks t x rests L.task))

  abbrev ended : Task
  ended = record x { status = Ended (result_of x.top).0 (result_of x.top).1 }

  task : (z : Task) → slice_get l'.machine.tasks t ≡ Some z → TaskIsRead (LiesWithOwner v' l') (v'.belongings t) z
  task z e =
      subst (λ (k : Task). TaskIsRead (LiesWithOwner v' l') (v'.belongings t) k) (same_Some ended z (sym L.ended ∙ e)) (
        ap (λ q. q.0) C.result ∙ ap (λ zs. unwrap_or (slice_get zs 0) (pos 0)) frames.0.ints,
        subst (λ q. ReadsReference (LiesWithOwner v' l') q.1 (result_of x.top).1) (sym C.result)
            (read_kept (LiesWithOwner v l) (LiesWithOwner v' l') (ref_of f 0) (result_of x.top).1 (λ n k. place n) (field_of (LiesWithOwner v l) f.refs x.top.refs 0 frames.0.refs)),
      )

  pub finished : MemoryStands v' l'
  finished = stepped v v' l l' t S S' V L.alone rests rests' idle at_belongings (record {
    belongings = belongings_alike v v' l l' t C.chunks C.room C.since C.count (λ k e. C.owner k ∙ e) L.heap L.row (L.alone.tree.joins t) (V.belongings t rests);
    contents = λ o i.
        let c = V.contents t o rests (subst (λ ks. In (objects_of_chunks ks) o) C.chunks i) in
        (c.0, L.store (object_name o) ∙ c.1, object_kept (LiesWithOwner v l) (LiesWithOwner v' l') o c.0 (λ n j. place n) c.2);
    task = task;
  })
