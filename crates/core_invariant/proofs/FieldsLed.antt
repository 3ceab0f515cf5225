-- The remembered fields of a heap are updated to where its objects are now: what is read afterwards in the heaps that
-- no worker holds.
use Rattle.core_invariant.proofs.Common.{◌≡◌, ℕ, ◌+◌, ◌-◌, ◌==◌, arith, Bool, true, false, cond, Option, Some, None, List, [], ◌∷◌, fold, length, map, slice_get, inl, inr, refl, ap, ap₂, sym, subst, ◌∙◌, option_flatten, slice_index_or, slice_set, unwrap_or, cases_eq, false≢true, same_Some, got_other, got_same, map_in, Addr, Birth, Born, Cell, marked_object, size_of, with_ref, cell_of, put_object, same_address, with_cell, ChunkValue, Located, with_fields, is_same, same_is, PoolValue, owner_of, LeafHeapValue, room_of, with_ref_of, room_at, SameChunkCounts, Level, writes_keep_counts, RefField, target_of, new_reference, redirected, written, new_address, Chunk, In, mapped_chunk, mapped_belongings, objects_of_chunks, put_at, rewritten_belongings, in_chunk, ParkedTask, Work, Calls, Result, refs_of_rest, Resting, refs_for, resting_references, with_ref_at, with_ref_for, with_ref_in, chunk_of, chunks_of, AreMeasured, HeapForm, belongings_by, belongings_in, belongings_of, rest_at}
use Rattle.std.specs.Option.{option_map}
use Rattle.std.proofs.lemmas.List.{length-set}
use Rattle.refinement_laws.proofs.below.object_layout.ChunkLaws as laws
use Rattle.core_invariant.proofs.CellsRead.{numbered, seen_object}
use Rattle.core_invariant.proofs.FieldsLedTogether.{AreOnce, belongings_each, belongings_together, lead_at, lead_off, lead_one, mapped_belongings_stay, none_belongings, set_itself}
use Rattle.core_invariant.proofs.UnitsMeasured.{measured_written}
use Rattle.core_invariant.proofs.ObjectRewritten.{chunks_put, form_written}

-- ---- ONE SOURCE IN THE HEAPS

-- where a source's object is
pub record SourceThere (H : Resting) (s : RefField) (Good : ℕ → Type 0) : Type 0 where
  pub task : ℕ
  pub good : Good task
  pub owner : owner_of H.pool s.object.chunk ≡ Some task
  pub rest : ParkedTask
  pub is : rest_at H.rests task ≡ Some rest
  pub birth : Birth
  pub born : (cell_of rest.heap.chunks s.object).mark ≡ Born birth

-- the resting heaps are well formed, and the good ones' chunks are their own, with their units
pub record AreFormed (H : Resting) (Good : ℕ → Type 0) : Type 0 where
  pub form : (u : ℕ) (r : ParkedTask) → rest_at H.rests u ≡ Some r → HeapForm r.heap
  pub measured : (u : ℕ) (r : ParkedTask) → Good u → rest_at H.rests u ≡ Some r → AreMeasured H.pool u r.heap.chunks
  pub owned : (u : ℕ) (r : ParkedTask) → Good u → rest_at H.rests u ≡ Some r → (k : ChunkValue) → In r.heap.chunks k → owner_of H.pool k.number ≡ Some u

rest_set : (rests : List (Option ParkedTask)) (z : ℕ) (r x : ParkedTask) → rest_at rests z ≡ Some r → rest_at (slice_set rests z (Some x)) z ≡ Some x
rest_set rests z r x e = rest_set_by_cases (slice_get rests z) refl e
  where
    rest_set_by_cases : (o : Option (Option ParkedTask)) → slice_get rests z ≡ o → option_flatten o ≡ Some r → rest_at (slice_set rests z (Some x)) z ≡ Some x
    rest_set_by_cases None q h = absurd cc
    rest_set_by_cases (Some None) q h = absurd cc
    rest_set_by_cases (Some (Some y)) q h = ap option_flatten (got_same rests z (Some y) (Some x) q)

rest_off : (rests : List (Option ParkedTask)) (z u : ℕ) (x : Option ParkedTask) → (u ≡ z → ⊥) → rest_at (slice_set rests z x) u ≡ rest_at rests u
rest_off rests z u x ne = ap option_flatten (got_other rests z u x ne)

pub by_chunks : (h : LeafHeapValue) (view : List Level) (n : ℕ) (x : Work) → (belongings_by h view n x).chunks ≡ chunks_of h.chunks
by_chunks h view n (Calls s) = refl
by_chunks h view n (Result k r) = refl

pub belongings_chunks : (r : ParkedTask) → (belongings_of r).chunks ≡ chunks_of r.heap.chunks
belongings_chunks r = by_chunks r.heap r.view r.allocations r.work

room_written : (h : LeafHeapValue) (a : Addr) (d : Cell) → d.mark ≡ (cell_of h.chunks a).mark → size_of d ≡ size_of (cell_of h.chunks a) → room_at (put_object h.chunks a d) h.current ≡ room_of h
room_written h a d mark size = room_written_by_cases h.current
  where
    K : SameChunkCounts h.chunks (put_object h.chunks a d)
    K = writes_keep_counts h.chunks a d mark size

    room_written_by_cases : (o : Option ℕ) → room_at (put_object h.chunks a d) o ≡ room_at h.chunks o
    room_written_by_cases None = refl
    room_written_by_cases (Some i) = ap₂ (λ n m. n - m) (K.shape i).size (K.shape i).used

put_number : (ks : List ChunkValue) (a : Addr) (d : Cell) (k : ChunkValue) → In (put_object ks a d) k → (j : ChunkValue) × In ks j × (j.number ≡ k.number)
put_number [] a d k i = absurd i
put_number (x ∷ ks) a d k i = put_number_by_cases (x.number == a.chunk) i (put_number ks a d k)
  where
    put_number_by_cases : (b : Bool) → In (cond b (with_cell x a.offset d ∷ ks) (x ∷ put_object ks a d)) k → (In (put_object ks a d) k → (j : ChunkValue) × In ks j × (j.number ≡ k.number)) → (j : ChunkValue) × In (x ∷ ks) j × (j.number ≡ k.number)
    put_number_by_cases true (inl e) go = (x, inl refl, ap (λ (z : ChunkValue). z.number) e)
    put_number_by_cases true (inr j) go = (k, inr j, refl)
    put_number_by_cases false (inl e) go = (x, inl refl, ap (λ (z : ChunkValue). z.number) e)
    put_number_by_cases false (inr j) go = let r = go j in (r.0, inr r.1, r.2)

module _ (ms : List (Addr × Addr)) where
  abbrev f : Addr → Addr
  f a = new_address ms a

  -- a heap with one reference written
  belongings_written : (r : ParkedTask) (a : Addr) (k : ℕ) (x : Option Addr) (b : Birth) → HeapForm r.heap → (cell_of r.heap.chunks a).mark ≡ Born b
      → belongings_of (record r { heap = with_ref_of r.heap a k x }) ≡ mapped_belongings (put_at a (with_fields (with_ref (cell_of r.heap.chunks a) k x))) (belongings_of r)
  belongings_written r a k x b F e = belongings_written_by_cases r.work
    where
      size : size_of (with_ref (cell_of r.heap.chunks a) k x) ≡ size_of (cell_of r.heap.chunks a)
      size = ap (λ n. 2 + (n + length (cell_of r.heap.chunks a).ints)) (length-set (cell_of r.heap.chunks a).refs k x)

      chunks : chunks_of (put_object r.heap.chunks a (with_ref (cell_of r.heap.chunks a) k x)) ≡ map (mapped_chunk (put_at a (with_fields (with_ref (cell_of r.heap.chunks a) k x)))) (chunks_of r.heap.chunks)
      chunks = chunks_put r.heap.chunks a (with_ref (cell_of r.heap.chunks a) k x) F.shaped.apart refl (sym size)

      room : room_of (with_ref_of r.heap a k x) ≡ room_of r.heap
      room = room_written r.heap a (with_ref (cell_of r.heap.chunks a) k x) refl size

      belongings_written_by_cases : (w : Work) → belongings_by (with_ref_of r.heap a k x) r.view r.allocations w ≡ mapped_belongings (put_at a (with_fields (with_ref (cell_of r.heap.chunks a) k x))) (belongings_by r.heap r.view r.allocations w)
      belongings_written_by_cases (Calls s) = ap₂ (λ cs n. record (belongings_by r.heap r.view r.allocations (Calls s)) { chunks = cs; room = n }) chunks room
      belongings_written_by_cases (Result n q) = ap₂ (λ cs m. record (belongings_by r.heap r.view r.allocations (Result n q)) { chunks = cs; room = m }) chunks room

  -- ONE SOURCE
  module _ (H : Resting) (Good : ℕ → Type 0) (F : AreFormed H Good) (s : RefField) (T : SourceThere H s Good) where
    abbrev r : ParkedTask
    r = T.rest

    abbrev a : Addr
    a = s.object

    abbrev c : Cell
    c = cell_of T.rest.heap.chunks s.object

    held_is : target_of resting_references H s ≡ slice_index_or c.refs s.field None
    held_is =
        ap (λ o. slice_index_or (refs_for H.rests o s.object) s.field None) T.owner
        ∙ (ap (λ o. slice_index_or (refs_of_rest o s.object) s.field None) T.is ∙ ap (λ m. slice_index_or (marked_object m c).refs s.field None) T.born)

    -- the source's object, as it is read
    at_source : (u : ℕ) → Good u → (o : Located) → In (objects_of_chunks (belongings_in (rest_at H.rests u)).chunks) o → o.at ≡ s.object → (u ≡ T.task) × (o.refs ≡ c.refs) × (o.mutable ≡ c.mutable) × (o.ints ≡ c.ints)
    at_source u good o i e = at_source_by_cases (rest_at H.rests u) refl i
      where
        at_source_by_cases : (q : Option ParkedTask) → rest_at H.rests u ≡ q → In (objects_of_chunks (belongings_in q).chunks) o → (u ≡ T.task) × (o.refs ≡ c.refs) × (o.mutable ≡ c.mutable) × (o.ints ≡ c.ints)
        at_source_by_cases None h j = absurd j
        at_source_by_cases (Some x) h j =
            let i' : In (objects_of_chunks (chunks_of x.heap.chunks)) o = subst (λ cs. In (objects_of_chunks cs) o) (belongings_chunks x) j in
            let ch = in_chunk (chunks_of x.heap.chunks) o i' in
            let k = map_in chunk_of x.heap.chunks ch.0 ch.1 in
            let number : k.0.number ≡ s.object.chunk = sym (numbered k.0.number 0 k.0.cells o (subst (λ (z : Chunk). In z.objects o) (sym k.2) ch.2)) ∙ ap (λ (z : Addr). z.chunk) e in
            let same : u ≡ T.task = same_Some u T.task (sym (F.owned u x good h k.0 k.1) ∙ (ap (owner_of H.pool) number ∙ T.owner)) in
            let rest : x ≡ T.rest = same_Some x T.rest (sym h ∙ (ap (rest_at H.rests) same ∙ T.is)) in
            let y = seen_object x.heap.chunks o (F.form u x h).shaped.apart i' in
            let cell : cell_of x.heap.chunks o.at ≡ c = ap₂ (λ (z : ParkedTask) (b : Addr). cell_of z.heap.chunks b) rest e in
            (same, ap (λ (z : Located). z.refs) y.is ∙ ap (λ (z : Cell). z.refs) cell, ap (λ (z : Located). z.mutable) y.is ∙ ap (λ (z : Cell). z.mutable) cell, ap (λ (z : Located). z.ints) y.is ∙ ap (λ (z : Cell). z.ints) cell)

    -- an object elsewhere is unchanged
    elsewhere : (o : Located) → (o.at ≡ s.object → ⊥) → lead_one f s o ≡ o
    elsewhere o ne = ap (λ rs. record o { refs = rs }) (lead_off f s o.at 0 o.refs (λ k e q. ne (sym e)))

    -- the source's object is updated
    led_there : (o : Located) (x : Option Addr) → o.at ≡ s.object → o.refs ≡ c.refs → option_map f (target_of resting_references H s) ≡ x → lead_one f s o ≡ record o { refs = slice_set c.refs s.field x }
    led_there o x e same is =
        ap (λ rs. record o { refs = rs })
        (lead_at f s o.at 0 s.field o.refs (sym e) (let z : s.field ≡ 0 + s.field = omega arith in z)
        ∙ (ap (λ rs. slice_set rs s.field (option_map f (slice_index_or rs s.field None))) same ∙ ap (slice_set c.refs s.field) (ap (option_map f) (sym held_is) ∙ is)))

    pub record Stepped (H' : Resting) : Type 0 where
      pub pool : H'.pool ≡ H.pool
      pub count : length H'.rests ≡ length H.rests
      pub formed : AreFormed H' Good
      pub belongings : (u : ℕ) → Good u → belongings_in (rest_at H'.rests u) ≡ mapped_belongings (lead_one f s) (belongings_in (rest_at H.rests u))
      pub there : (x : RefField) → SourceThere H x Good → SourceThere H' x Good

    -- nothing is written, since what it refers to was not moved
    kept : option_map f (target_of resting_references H s) ≡ target_of resting_references H s → Stepped H
    kept is = record {
      pool = refl;
      count = refl;
      formed = F;
      belongings = λ u good. sym (mapped_belongings_stay (lead_one f s) (belongings_in (rest_at H.rests u)) (λ o i. kept_by_cases u good o i (same_address o.at s.object) refl));
      there = λ x y. y;
    }
      where
        same_refs : (o : Located) → o.refs ≡ c.refs → record o { refs = slice_set c.refs s.field (target_of resting_references H s) } ≡ o
        same_refs o e = ap (λ rs. record o { refs = rs }) (set_itself c.refs s.field (target_of resting_references H s) (sym held_is) ∙ sym e)

        kept_by_cases : (u : ℕ) → Good u → (o : Located) → In (objects_of_chunks (belongings_in (rest_at H.rests u)).chunks) o → (v : Bool) → same_address o.at s.object ≡ v → lead_one f s o ≡ o
        kept_by_cases u good o i true e =
            let at : o.at ≡ s.object = same_is o.at s.object e in
            let q = at_source u good o i at in
            led_there o (target_of resting_references H s) at q.1 is ∙ same_refs o q.1
        kept_by_cases u good o i false e = elsewhere o (λ at. false≢true (sym e ∙ is_same o.at s.object at))

    -- it is updated to where its object is now
    module _ (x : Option Addr) (is : option_map f (target_of resting_references H s) ≡ x) where
      abbrev d : Cell
      d = with_ref c s.field x

      abbrev r' : ParkedTask
      r' = record T.rest { heap = with_ref_of T.rest.heap s.object s.field x }

      abbrev rests' : List (Option ParkedTask)
      rests' = slice_set H.rests T.task (Some r')

      size : size_of d ≡ size_of c
      size = ap (λ n. 2 + (n + length c.ints)) (length-set c.refs s.field x)

      mark_kept : (b : Addr) → (cell_of (put_object T.rest.heap.chunks s.object d) b).mark ≡ (cell_of T.rest.heap.chunks b).mark
      mark_kept b = laws.mark_put T.rest.heap.chunks s.object d refl size b

      form_now : (u : ℕ) (q : ParkedTask) → rest_at rests' u ≡ Some q → HeapForm q.heap
      form_now u q e = elim (cases_eq u T.task) [
        | inl at ↦
            let is' : q ≡ r' = same_Some q r' (sym e ∙ (ap (rest_at rests') at ∙ rest_set H.rests T.task T.rest r' T.is)) in
            subst (λ (z : ParkedTask). HeapForm z.heap) (sym is') (form_written T.rest.heap s.object d (F.form T.task T.rest T.is) refl size)
        | inr ne ↦ F.form u q (sym (rest_off H.rests T.task u (Some r') ne) ∙ e)
      ]

      measured_now : (u : ℕ) (q : ParkedTask) → Good u → rest_at rests' u ≡ Some q → AreMeasured H.pool u q.heap.chunks
      measured_now u q good e = elim (cases_eq u T.task) [
        | inl at ↦
            let is' : q ≡ r' = same_Some q r' (sym e ∙ (ap (rest_at rests') at ∙ rest_set H.rests T.task T.rest r' T.is)) in
            subst (λ (z : ParkedTask). AreMeasured H.pool u z.heap.chunks) (sym is') (measured_written H.pool u T.rest.heap.chunks s.object d (F.measured u T.rest good (ap (rest_at H.rests) at ∙ T.is)))
        | inr ne ↦ F.measured u q good (sym (rest_off H.rests T.task u (Some r') ne) ∙ e)
      ]

      owned_now : (u : ℕ) (q : ParkedTask) → Good u → rest_at rests' u ≡ Some q → (k : ChunkValue) → In q.heap.chunks k → owner_of H.pool k.number ≡ Some u
      owned_now u q good e k i = elim (cases_eq u T.task) [
        | inl at ↦
            let is' : q ≡ r' = same_Some q r' (sym e ∙ (ap (rest_at rests') at ∙ rest_set H.rests T.task T.rest r' T.is)) in
            let j = put_number T.rest.heap.chunks s.object d k (subst (λ (z : ParkedTask). In z.heap.chunks k) is' i) in
            ap (owner_of H.pool) (sym j.2) ∙ F.owned u T.rest good (ap (rest_at H.rests) at ∙ T.is) j.0 j.1
        | inr ne ↦ F.owned u q good (sym (rest_off H.rests T.task u (Some r') ne) ∙ e) k i
      ]

      one_is : (o : Located) → In (objects_of_chunks (belongings_in (rest_at H.rests T.task)).chunks) o → put_at s.object (with_fields d) o ≡ lead_one f s o
      one_is o i = one_is_by_cases (same_address o.at s.object) refl
        where
          one_is_by_cases : (v : Bool) → same_address o.at s.object ≡ v → cond v (with_fields d o) o ≡ lead_one f s o
          one_is_by_cases true e =
              let at : o.at ≡ s.object = same_is o.at s.object e in
              let q = at_source T.task T.good o i at in
              (λ k. record o { mutable = sym q.2 k; refs = slice_set c.refs s.field x; ints = sym q.3 k }) ∙ sym (led_there o x at q.1 is)
          one_is_by_cases false e = sym (elsewhere o (λ at. false≢true (sym e ∙ is_same o.at s.object at)))

      belongings_are_mapped : (u : ℕ) → Good u → belongings_in (rest_at rests' u) ≡ mapped_belongings (lead_one f s) (belongings_in (rest_at H.rests u))
      belongings_are_mapped u good = elim (cases_eq u T.task) [
        | inl at ↦
            ap (λ z. belongings_in (rest_at rests' z)) at
            ∙ (ap belongings_in (rest_set H.rests T.task T.rest r' T.is)
            ∙ (belongings_written T.rest s.object s.field x T.birth (F.form T.task T.rest T.is) T.born
            ∙ (ap (λ q. mapped_belongings (put_at s.object (with_fields d)) (belongings_in q)) (sym T.is)
            ∙ (belongings_each (put_at s.object (with_fields d)) (lead_one f s) (belongings_in (rest_at H.rests T.task)) one_is ∙ ap (λ z. mapped_belongings (lead_one f s) (belongings_in (rest_at H.rests z))) (sym at)))))
        | inr ne ↦
            ap belongings_in (rest_off H.rests T.task u (Some r') ne)
            ∙ sym (mapped_belongings_stay (lead_one f s) (belongings_in (rest_at H.rests u)) (λ o i. elsewhere o (λ at. ne (at_source u good o i at).0)))
      ]

      there_now : (z : RefField) → SourceThere H z Good → SourceThere (record H { rests = rests' }) z Good
      there_now z Z = elim (cases_eq Z.task T.task) [
        | inl at ↦
            let same : Z.rest ≡ T.rest = same_Some Z.rest T.rest (sym Z.is ∙ (ap (rest_at H.rests) at ∙ T.is)) in
            record {
              task = Z.task;
              good = Z.good;
              owner = Z.owner;
              rest = r';
              is = ap (rest_at rests') at ∙ rest_set H.rests T.task T.rest r' T.is;
              birth = Z.birth;
              born = mark_kept z.object ∙ (ap (λ (q : ParkedTask). (cell_of q.heap.chunks z.object).mark) (sym same) ∙ Z.born);
            }
        | inr ne ↦ record { task = Z.task; good = Z.good; owner = Z.owner; rest = Z.rest; is = rest_off H.rests T.task Z.task (Some r') ne ∙ Z.is; birth = Z.birth; born = Z.born }
      ]

      changed : Stepped (record H { rests = rests' })
      changed = record {
        pool = refl;
        count = length-set H.rests T.task (Some r');
        formed = record { form = form_now; measured = measured_now; owned = owned_now };
        belongings = belongings_are_mapped;
        there = there_now;
      }

      written_is : with_ref_in H s.object s.field x ≡ record H { rests = rests' }
      written_is = ap (λ hs. record H { rests = hs }) (ap (λ o. with_ref_for H.rests o s.object s.field x) T.owner ∙ ap (λ o. with_ref_at H.rests T.task o s.object s.field x) T.is)

    pub step : Stepped (redirected resting_references with_ref_in ms H s)
    step = step_by_cases (target_of resting_references H s) refl (new_reference ms (target_of resting_references H s)) refl
      where
        none_led : (h o : Option Addr) → new_reference ms h ≡ o → o ≡ None → option_map f h ≡ h
        none_led None o e n = refl
        none_led (Some b) o e n = ap (λ z. Some (unwrap_or z b)) (e ∙ n)

        some_led : (h o : Option Addr) (b : Addr) → new_reference ms h ≡ o → o ≡ Some b → option_map f h ≡ Some b
        some_led None o b e n = absurd (none_some (e ∙ n))
          where
            none_some : ◌≡◌ {A = Option Addr} None (Some b) → ⊥
            none_some q = absurd cc
        some_led (Some z) o b e n = ap (λ q. Some (unwrap_or q z)) (e ∙ n)

        step_by_cases : (h : Option Addr) → target_of resting_references H s ≡ h → (o : Option Addr) → new_reference ms (target_of resting_references H s) ≡ o → Stepped (written resting_references with_ref_in H s o)
        step_by_cases h eh None e = kept (none_led (target_of resting_references H s) (new_reference ms (target_of resting_references H s)) refl e)
        step_by_cases h eh (Some b) e =
            let is : option_map f (target_of resting_references H s) ≡ Some b = some_led (target_of resting_references H s) (new_reference ms (target_of resting_references H s)) b refl e in
            subst Stepped (sym (written_is (Some b) is)) (changed (Some b) is)

  -- ---- ALL SOURCES

  pub record Led (H : Resting) (Good : ℕ → Type 0) (ss : List RefField) (H' : Resting) : Type 0 where
    pub pool : H'.pool ≡ H.pool
    pub count : length H'.rests ≡ length H.rests
    pub form : (u : ℕ) (r : ParkedTask) → rest_at H'.rests u ≡ Some r → HeapForm r.heap
    pub measured : (u : ℕ) (r : ParkedTask) → Good u → rest_at H'.rests u ≡ Some r → AreMeasured H.pool u r.heap.chunks
    pub belongings : (u : ℕ) → Good u → belongings_in (rest_at H'.rests u) ≡ rewritten_belongings f ss (belongings_in (rest_at H.rests u))

  pub lead_all : (ss : List RefField) (H : Resting) (Good : ℕ → Type 0) → AreOnce ss → ((s : RefField) → In ss s → SourceThere H s Good) → AreFormed H Good → Led H Good ss (fold (redirected resting_references with_ref_in ms) H ss)
  lead_all [] H Good once there F = record { pool = refl; count = refl; form = F.form; measured = F.measured; belongings = λ u good. sym (none_belongings f (belongings_in (rest_at H.rests u))) }
  lead_all (s ∷ ss) H Good once there F =
      let T = step H Good F s (there s (inl refl)) in
      let R = lead_all ss (redirected resting_references with_ref_in ms H s) Good once.1 (λ x i. T.there x (there x (inr i))) T.formed in
      record {
        pool = R.pool ∙ T.pool;
        count = R.count ∙ T.count;
        form = R.form;
        measured = λ u r good e. subst (λ (z : PoolValue). AreMeasured z u r.heap.chunks) T.pool (R.measured u r good e);
        belongings = λ u good. R.belongings u good ∙ (ap (rewritten_belongings f ss) (T.belongings u good) ∙ belongings_together f s ss (belongings_in (rest_at H.rests u)) once.0);
      }
