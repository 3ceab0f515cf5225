-- A copied part fits only for the end of its collection, and fits after it.
use Rattle.refinement_laws.proofs.Common.{◌≡◌, ℕ, Option, Some, None, map, length, slice_get, refl, ap, sym, subst, ◌∙◌, arith, is_some, same_Some, Addr, ProgramText, SettingsValue, Running, Task, MachineState, row_of, is_joined, Heap, Ledger, heap_of, or_fresh, let_go, collected, with_heap, SoundLedger, heap_machine, Belongings, Memory, In, object_name, objects_of_chunks, sources, copied_object, rewritten_belongings, led_frame, AreLaidOut, small_chunks, large_chunks, BelongingsStand, MemoryStands, Part, FitsAt, with_belongings, ahead, rested, ChangesHeap, Moves, BegunBy, PartFits, part_before, CopyFits, EndsAt, with_at, heap_then, rested_changes, rested_worker, rested_view, rested_sound, end_changes, Begun, at_belongings, off_belongings}
use Rattle.std.specs.Option.{option_map}
use Rattle.refinement.specs.MemoryStands.{chunk_names}
use Rattle.refinement_laws.proofs.notes.Begun.{begun_stays}
use Rattle.refinement.proofs.changes.Collect.{collected as collection}

-- the invariant of a begun collection is kept by what keeps its part
pub begun_by_stays : (v v' : Memory) (l l' : Ledger) (t : ℕ) (o : Option Begun) → v'.belongings t ≡ v.belongings t → ((k : ℕ) → v.owner k ≡ Some t → v'.owner k ≡ Some t) → heap_of l' t ≡ heap_of l t → BegunBy v l t o → BegunBy v' l' t o
begun_by_stays v v' l l' t None belongings owner heap B = ap (λ (h : Heap). h.begun) heap ∙ B
begun_by_stays v v' l l' t (Some b) belongings owner heap B = begun_stays v v' l l' t b belongings owner heap B

-- so an entry of others that keeps a part fitting also keeps it fitting with its collection
pub part_stays : (p : ProgramText) (s : SettingsValue) (q : Part) (v v' : Memory) (l l' : Ledger) → ((k : ℕ) → v.owner k ≡ Some q.task → v'.owner k ≡ Some q.task) → heap_of (ahead p q l') q.task ≡ heap_of (ahead p q l) q.task → FitsAt p s q v' l' → PartFits p s q v l → PartFits p s q v' l'
part_stays p s q v v' l l' owner heap F G = record {
  fits = F;
  begun = begun_by_stays (with_belongings v q.task q.belongings) (with_belongings v' q.task q.belongings) (ahead p q l) (ahead p q l') q.task q.belongings.begun (at_belongings v' q.task q.belongings ∙ sym (at_belongings v q.task q.belongings)) owner heap G.begun;
}

pub rested_heap : (l l' : Ledger) (t : ℕ) → slice_get l'.heaps t ≡ slice_get l.heaps t → heap_of (rested l' t) t ≡ heap_of (rested l t) t
rested_heap l l' t e = ap or_fresh (with_at l' t let_go ∙ (ap (heap_then let_go) e ∙ sym (with_at l t let_go)))

-- THE END OF THE COLLECTION

module _ (p : ProgramText) (s : SettingsValue) (t : ℕ) (h h' : Belongings) (f : Addr → Addr) (v v' : Memory) (l : Ledger) (x : Task) (w : ℕ) (S : SoundLedger l) (is : slice_get l.machine.tasks t ≡ Some x) (runs : x.status ≡ Running)
    (hs : Heap) (there : slice_get l.heaps t ≡ Some hs) (C : CopyFits p s t h h' f v l) (E : EndsAt v v' t h' f) where
  abbrev l' : Ledger
  l' = with_heap l t (collected l.machine)

  abbrev lt : Ledger
  lt = rested l t

  abbrev lt' : Ledger
  lt' = rested l' t

  abbrev V : Memory
  V = with_belongings v t h

  abbrev V' : Memory
  V' = with_belongings v' t h'

  machine' : l'.machine ≡ l.machine
  machine' = heap_machine l t (collected l.machine)

  ends : ChangesHeap l l' t
  ends = end_changes l t

  heap' : heap_of l' t ≡ collected l.machine (heap_of l t)
  heap' = ap or_fresh (with_at l t (collected l.machine) ∙ ap (heap_then (collected l.machine)) there) ∙ ap (λ o. collected l.machine (or_fresh o)) (sym there)

  rested_ends : ChangesHeap lt lt' t
  rested_ends = rested_changes l l' t ends

  survivors : (heap_of lt t).survivors ≡ (heap_of l t).survivors
  survivors = rested_view (λ h. h.survivors) (λ h. refl) l t

  new_belongings : V'.belongings t ≡ h'
  new_belongings = at_belongings v' t h'

  old_belongings : V.belongings t ≡ h
  old_belongings = at_belongings v t h

  H : BelongingsStand V lt t
  H = C.old.fits.stands.belongings t (rested_worker l t)

  belongings : BelongingsStand V' lt' t
  belongings = record {
    names = record {
      small = ap (λ (z : Belongings). map chunk_names (small_chunks z.chunks)) new_belongings ∙ (C.copy.names.small ∙ (ap (λ (z : Heap). z.chunks) (sym heap') ∙ sym (rested_view (λ z. z.chunks) (λ z. refl) l' t)));
      large = ap (λ (z : Belongings). map object_name (objects_of_chunks (large_chunks z.chunks))) new_belongings ∙ (C.copy.names.large ∙ (ap (λ (z : Heap). z.large) (sym heap') ∙ sym (rested_view (λ z. z.large) (λ z. refl) l' t)));
    };
    room = ap (λ (z : Belongings). z.room) new_belongings ∙ (C.copy.room ∙ (ap (λ (z : Heap). z.room) (sym heap') ∙ sym (rested_view (λ z. z.room) (λ z. refl) l' t)));
    since = ap (λ (z : Belongings). z.since) new_belongings ∙ (C.copy.since ∙ (ap (λ (z : Heap). z.since) (sym heap') ∙ sym (rested_view (λ z. z.since) (λ z. refl) l' t)));
    count = λ live.
        ap (λ (z : Belongings). z.count) new_belongings
        ∙ (C.copy.count ∙ (sym (ap (λ (z : Belongings). z.count) old_belongings) ∙ (H.count (sym (ap (λ (m : MachineState). is_joined (slice_get m.tasks t)) rested_ends.machine) ∙ live) ∙ sym (ap (λ (m : MachineState). length (row_of (slice_get m.store t))) rested_ends.machine))));
    owned = λ c i. E.mine c (subst (λ (z : Belongings). In z.chunks c) new_belongings i);
    inside = λ c o i j. C.copy.inside c o (subst (λ (z : Belongings). In z.chunks c) new_belongings i) j;
    once = λ o q i j e. C.copy.once o q (subst (λ (z : Belongings). In (objects_of_chunks z.chunks) o) new_belongings i) (subst (λ (z : Belongings). In (objects_of_chunks z.chunks) q) new_belongings j) e;
    named = λ o q i j e. C.copy.named o q (subst (λ (z : Belongings). In (objects_of_chunks z.chunks) o) new_belongings i) (subst (λ (z : Belongings). In (objects_of_chunks z.chunks) q) new_belongings j) e;
    laid = subst (λ (z : Belongings). AreLaidOut z.chunks (heap_of lt' t).reserved) (sym new_belongings) (subst (AreLaidOut h'.chunks) (sym (rested_view (λ z. z.reserved) (λ z. refl) l' t ∙ ap (λ (z : Heap). z.reserved) heap')) C.copy.laid);
  }

  pub moves : Moves V V' lt lt' t (heap_of lt t).survivors f
  moves = record {
    belongings = belongings;
    copied = λ o i j. subst (λ (z : Belongings). In (objects_of_chunks z.chunks) (copied_object f o)) (sym new_belongings) (C.copy.copied o (subst (λ (z : Belongings). In (objects_of_chunks z.chunks) o) old_belongings i) (subst (λ ns. In ns (object_name o)) survivors j));
    only = λ o i.
        let r = C.copy.only o (subst (λ (z : Belongings). In (objects_of_chunks z.chunks) o) new_belongings i) in
        (r.0, subst (λ (z : Belongings). In (objects_of_chunks z.chunks) r.0) (sym old_belongings) r.1, subst (λ ns. In ns (object_name r.0)) (sym survivors) r.2, r.3);
    frames = ap (λ (z : Belongings). z.frames) new_belongings ∙ (C.copy.frames ∙ ap (λ (z : Belongings). map (led_frame (option_map f)) z.frames) (sym old_belongings));
    view = ap (λ (z : Belongings). z.view) new_belongings ∙ (C.copy.view ∙ ap (λ (z : Belongings). z.view) (sym old_belongings));
    others = λ u nu. off_belongings v' t h' u nu ∙ (E.others u nu ∙ ap (rewritten_belongings f (sources v t)) (sym (off_belongings v t h u nu)));
    same = λ a u nu o. C.copy.same a (λ c i e. nu (same_Some u t (sym o ∙ (ap v.owner (sym e) ∙ H.owned c (subst (λ (z : Belongings). In z.chunks c) (sym old_belongings) i)))));
    owners = E.owners;
    owned = E.owned;
    sources = E.sources;
  }

  stands : MemoryStands V' lt'
  stands =
      collection V V' lt lt' t x f (rested_sound l t S) C.old.fits.stands
      (record {
        task = ap (λ (m : MachineState). slice_get m.tasks t) (heap_machine l t let_go) ∙ is;
        runs = runs;
        begun = rested_view (λ z. is_some z.begun) (λ z. refl) l t ∙ C.collects;
        rests = rested_worker l t;
      }) rested_ends moves

  -- after the end it fits, and has begun no collection
  pub copy_fits : h'.begun ≡ None → PartFits p s (part_before s t h') v' l'
  copy_fits none = record {
    fits = record { worker = C.old.fits.worker; out = ends.worker ∙ C.old.fits.out; few = omega arith; private = tt; stands = stands };
    begun = subst (BegunBy V' lt' t) (sym none) (rested_view (λ z. z.begun) (λ z. refl) l' t ∙ ap (λ (z : Heap). z.begun) heap');
  }
