-- The roots of a part's heap are those by the accounts: what remembered fields hold, if it points into the heap.
use Rattle.core_invariant.proofs.Common.{◌≡◌, ℕ, Option, Some, None, List, slice_get, refl, ap, sym, subst, ◌∙◌, Ledger, Addr, Born, Cell, marked_object, cell_of, object_of, Located, RefField, AreFields, Rests, rested, rested_worker, AreRoots, with_belongings, MemoryStands, Belongings, In, Memory, objects, objects_of_chunks, sources, in_chunk, at_belongings, off_belongings, Private, ParkedTask, refs_of_rest, refs_for, resting_references, chunks_of, SharedValue, accounts, belongings_in, rest_at, value_of, IsSharedValue, WorkerPartFits, belongings_of_part, heaps_of, roots_of, sources_of}
use Rattle.core_invariant.proofs.CellsRead.{seen_object}
use Rattle.core_invariant.proofs.RootsHeld as held
use Rattle.core_invariant.proofs.BeforeTheEnd.{fits_now}
use Rattle.core_invariant.proofs.FieldsLed.{belongings_chunks}
use Rattle.core_invariant.proofs.FieldsNoted.{noted_sources}

object_refs : (c : Cell) {b : _} → c.mark ≡ Born b → (marked_object c.mark c).refs ≡ c.refs
object_refs c e = ap (λ m. (marked_object m c).refs) e

-- an object of a resting heap, as it is read there
pub record RestObject (w : SharedValue) (u : ℕ) (o : Located) : Type 0 where
  pub rest : ParkedTask
  pub is : rest_at w.rests u ≡ Some rest
  pub refs : refs_of_rest (rest_at w.rests u) o.at ≡ o.refs

pub rest_object : (w : SharedValue) (u : ℕ) → IsSharedValue w → (o : Located) → In (objects_of_chunks (belongings_in (rest_at w.rests u)).chunks) o → RestObject w u o
rest_object w u I o i = rest_object_by_cases (rest_at w.rests u) refl i
  where
    rest_object_by_cases : (q : Option ParkedTask) → rest_at w.rests u ≡ q → In (objects_of_chunks (belongings_in q).chunks) o → RestObject w u o
    rest_object_by_cases None e j = absurd j
    rest_object_by_cases (Some r) e j =
        let y = seen_object r.heap.chunks o (I.heaps u r e).shaped.apart (subst (λ cs. In (objects_of_chunks cs) o) (belongings_chunks r) j) in
        let refs : (object_of r.heap.chunks o.at).refs ≡ o.refs = object_refs (cell_of r.heap.chunks o.at) y.mark ∙ sym (ap (λ (z : Located). z.refs) y.is) in
        record { rest = r; is = e; refs = ap (λ z. refs_of_rest z o.at) e ∙ refs }

-- an object of a task at rest, as it is read in the value
pub read_at_rest : (w : SharedValue) (u : ℕ) → IsSharedValue w → (o : Located) → In (objects_of_chunks (belongings_in (rest_at w.rests u)).chunks) o → (value_of w).owner o.at.chunk ≡ Some u → resting_references (heaps_of w) o.at ≡ o.refs
read_at_rest w u I o i owner = ap (λ q. refs_for w.rests q o.at) owner ∙ (rest_object w u I o i).refs

-- ---- A PART WITHOUT FRESH STEPS, before the run's end
module _ (w : SharedValue) (k : ℕ) (p : Private) (I : IsSharedValue w) (F : WorkerPartFits w k (record p { fresh = 0 })) (on : (accounts w).end ≡ None) where
  abbrev P : Private
  P = record p { fresh = 0 }

  abbrev t : ℕ
  t = p.task

  abbrev v : Memory
  v = value_of w

  abbrev v' : Memory
  v' = with_belongings v t (belongings_of_part P)

  abbrev L : Ledger
  L = rested (accounts w) t

  abbrev ss : List RefField
  ss = sources_of (slice_get w.sets t)

  W : MemoryStands v' L
  W = (fits_now w k P F on).stands

  at_rest : Rests L t
  at_rest = rested_worker (accounts w) t

  own_chunks : (v'.belongings t).chunks ≡ chunks_of p.heap.chunks
  own_chunks = ap (λ (z : Belongings). z.chunks) (at_belongings v t (belongings_of_part P))

  sources_are : sources v' t ≡ ss
  sources_are = noted_sources (slice_get w.sets t)

  -- the objects of other tasks are read in the value
  read : (u : ℕ) → (u ≡ t → ⊥) → Rests L u → (o : Located) → In (objects v' u) o → resting_references (heaps_of w) o.at ≡ o.refs
  read u ne r o i =
      let c = in_chunk (v'.belongings u).chunks o i in
      read_at_rest w u I o (subst (λ (z : Belongings). In (objects_of_chunks z.chunks) o) (off_belongings v t (belongings_of_part P) u ne) i) (ap v'.owner ((W.belongings u r).inside c.0 o c.1 c.2) ∙ (W.belongings u r).owned c.0 c.1)

  -- EACH SOURCE IS A FIELD
  pub are_fields : AreFields resting_references (heaps_of w) ss
  are_fields = held.are_fields v' L t W at_rest p.heap.chunks own_chunks ss sources_are (heaps_of w) read

  -- THE ROOTS
  pub are_roots : AreRoots v' L t (roots_of w p)
  are_roots = held.are_roots v' L t W at_rest p.heap.chunks own_chunks ss sources_are (heaps_of w) read

  -- and each is an object of the heap
  pub root_here : (a : Addr) → In (roots_of w p) a → (q : Located) × In (objects_of_chunks (chunks_of p.heap.chunks)) q × (q.at ≡ a)
  root_here = held.root_here v' L t W at_rest p.heap.chunks own_chunks ss sources_are (heaps_of w) read
