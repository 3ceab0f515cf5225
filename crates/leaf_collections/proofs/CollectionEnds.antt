-- The end of a part's leaf collection: the new value stands, and parts fit.
use Rattle.leaf_collections.proofs.Common.{◌≡◌, ℕ, ◌+◌, ◌-◌, ◌<◌, ◌&&◌, arith, true, false, not, Option, Some, None, is_some, List, [], ◌∷◌, ◌++◌, fold, length, slice_get, option_map, inl, inr, refl, ap, ap₂, sym, subst, ◌∙◌, cases_eq, same_Some, ReservedVecValue, got_within, each_from, got_some, in_map, map_in, read_in, none_some, Object, object_at, is_running, is_waiting, MachineState, runs_tell, EntryValue, End, Heap, Ledger, collected, heap_of, or_fresh, with_heap, with_heap_at, is_legal, SoundLedger, tasks_are_out_once, legal_sound, machine_goes_on, heap_machine, legal_then, waiters_are_free, Addr, Born, marked_object, cell_of, ChunkValue, Located, Slot, PoolValue, slot_at, owner_of, units_in_use, IsFresh, RefField, AreFields, redirected, StandOnce, Moved, new_address, AreGiven, units_in_slots, Rests, own, heap_then, with_at, with_off, legal_knows, CopyFits, EndsAt, CountsGo, OthersNotes, IsSource, LiesWithOwner, Chunk, Belongings, In, Lies, Memory, objects_of_chunks, rewritten_belongings, sources, Part, part_for, StandsFor, StandsForAll, as_node, by_end, WorkerFits, ends_stand_for, ends_fit_then, ends_leave, aside_is, Private, ParkedTask, refs_of_rest, Resting, refs_for, resting_references, with_ref_in, chunk_of, chunks_of, SharedValue, accounts, belongings_in, rest_at, tree_counts_of, value_of, KeepsUnits, RestsAreMeasured, IsSharedValue, WorkerPartFits, OthersFit, belongings_of_part, part_of, heaps_of, sources_of, Enters, refused, fresh_off, seen_object, accounts_are, entered_world, entry_on, fits_then, free_at_rest, free_rests, part_fits, worker_when_out, refs_long, fits_held, stands_for_held, are_once, fresh_by, noted_sources, owned_before, AreFormed, Led, SourceThere, belongings_chunks, lead_all, given_keeps, measured_given, measured_kept, part_kept, stands_now, FitsCopied, end_entry, without_collection}
use Rattle.leaf_collections.proofs.LeafEntry.{LeafEntered}

-- a heap that a worker holds exists
held_there : (hs : List Heap) (t k : ℕ) → (or_fresh (slice_get hs t)).worker ≡ Some k → t < length hs
held_there hs t k = held_there_by_cases (slice_get hs t) refl
  where
    held_there_by_cases : (o : Option Heap) → slice_get hs t ≡ o → (or_fresh o).worker ≡ Some k → t < length hs
    held_there_by_cases None e h = absurd cc
    held_there_by_cases (Some x) e h = got_within hs t x e

-- a call asks to end the collection of a copied part, and nothing refuses it
pub record AsksLeafEnd (w : SharedValue) (k : ℕ) (p : Private) (moved : Moved) : Type 0 where
  pub I : IsSharedValue w
  pub F : FitsCopied w k p moved
  pub free : refused w (end_entry k p moved) ≡ None

-- by what is known of an equal value
pub asks_leaf_end : {w old : SharedValue} {k : ℕ} {p : Private} {moved : Moved} → w ≡ old → IsSharedValue w → FitsCopied old k p moved → refused old (end_entry k p moved) ≡ None → AsksLeafEnd w k p moved
asks_leaf_end {w} {old} {k} {p} {moved} same I F free = record { I = I; F = subst (λ z. FitsCopied z k p moved) (sym same) F; free = subst (λ z. refused z (end_entry k p moved) ≡ None) (sym same) free }

module _ {w : SharedValue} {k : ℕ} {p : Private} {moved : Moved} (asks : AsksLeafEnd w k p moved) where
  open asks use {I, F, free}

  abbrev e : EntryValue
  e = end_entry k p moved

  abbrev t : ℕ
  t = p.task

  abbrev l : Ledger
  l = accounts w

  abbrev v : Memory
  v = value_of w

  abbrev ss : List RefField
  ss = sources_of (slice_get w.sets p.task)

  on : l.end ≡ None
  on = entry_on w e free

  going : l.machine.end ≡ None
  going = machine_goes_on w.program w.settings w.journal.items on

  C : CopyFits w.program w.settings t F.belongings (belongings_of_part (without_collection p)) (new_address moved.moved.items) v l
  C = subst (CopyFits w.program w.settings t F.belongings (belongings_of_part (without_collection p)) (new_address moved.moved.items) v) (aside_is l going) F.copy

  S : StandsFor v (tree_counts_of w) l
  S = stands_now w I on

  -- its task exists
  pub has_slot : p.task < length w.rests
  has_slot =
      let T : SoundLedger l = legal_sound w.program w.settings w.journal.items I.legal in
      let held : t < length l.heaps = held_there l.heaps t k F.out in
      let many : length l.heaps ≡ length l.machine.tasks = T.lengths in
      let x = got_some l.machine.tasks t (omega (arith, held, many)) in
      subst (λ n. t < n) (sym I.made) (got_within w.tree t (as_node (heap_of l t).worker x.0) (S.tree_counts.node t ∙ ap (option_map (as_node (heap_of l t).worker)) x.1))

  sources_are : sources v t ≡ ss
  sources_are = noted_sources (slice_get w.sets t)

  abbrev Good : ℕ → Type 0
  Good u = Rests l u

  -- a source's object
  record At (s : RefField) : Type 0 where
    place : SourceThere (heaps_of w) s Good
    field : s.field < length (resting_references (heaps_of w) s.object)

  source_object : (s : RefField) → In ss s → At s
  source_object s i =
      let Q : IsSource v l t s = S.belongings.sources t s (subst (λ xs. In xs s) (sym sources_are) i) in
      let lies : Lies (v.belongings (own l Q.name)).chunks Q.name s.object = Q.place.here Q.rests in
      let c = S.belongings.contents (own l Q.name) lies.0 Q.rests lies.1 in
      let same : Q.object ≡ c.0 = same_Some Q.object c.0 (sym Q.is ∙ (ap (object_at l.machine.store) (sym lies.2.name) ∙ c.1)) in
      let long : length lies.0.refs ≡ length Q.object.refs = refs_long (LiesWithOwner v l) lies.0.refs c.0.refs c.2.refs ∙ ap (λ (z : Object). length z.refs) (sym same) in
      source_object_by_cases Q lies.0 lies.2.at long (rest_at w.rests (own l Q.name)) refl lies.1
    where
      source_object_by_cases : (Q : IsSource v l t s) (o : Located) → o.at ≡ s.object → length o.refs ≡ length Q.object.refs → (r : Option ParkedTask) → rest_at w.rests (own l Q.name) ≡ r → In (objects_of_chunks (belongings_in r).chunks) o → At s
      source_object_by_cases Q o e long None q j = absurd j
      source_object_by_cases Q o e long (Some r) q j =
          let y = seen_object r.heap.chunks o (I.heaps (own l Q.name) r q).shaped.apart (subst (λ cs. In (objects_of_chunks cs) o) (belongings_chunks r) j) in
          let born : (cell_of r.heap.chunks s.object).mark ≡ Born o.birth = ap (λ z. (cell_of r.heap.chunks z).mark) (sym e) ∙ y.mark in
          let refs : resting_references (heaps_of w) s.object ≡ o.refs =
          ap (λ z. refs_for w.rests z s.object) Q.place.chunk
          ∙ (ap (λ z. refs_of_rest z s.object) q
          ∙ (ap (λ m. (marked_object m (cell_of r.heap.chunks s.object)).refs) born ∙ sym (ap (λ (z : Located). z.refs) y.is ∙ ap (λ z. (cell_of r.heap.chunks z).refs) e))) in
          let f : s.field < length Q.object.refs = Q.field in
          let n = ap length refs in
          record {
            place = record { task = own l Q.name; good = Q.rests; owner = Q.place.chunk; rest = r; is = q; birth = o.birth; born = born };
            field = omega (arith, f, long, n);
          }

  pub are_fields : AreFields resting_references (heaps_of w) ss
  are_fields = each_from (λ s. s.field < length (resting_references (heaps_of w) s.object)) ss (λ s i. (source_object s i).field)

  formed : AreFormed (heaps_of w) Good
  formed = record {
    form = I.heaps;
    measured = λ u r good q. I.measured u r q (free_at_rest w u I on good);
    owned = λ u r good q c i. (S.belongings.belongings u good).owned (chunk_of c) (subst (λ (h : Belongings). In h.chunks (chunk_of c)) (sym (ap belongings_in q)) (subst (λ cs. In cs (chunk_of c)) (sym (belongings_chunks r)) (in_map chunk_of r.heap.chunks c i)));
  }

  -- the released chunks are in use
  pub back_in_use : (c : ChunkValue) → In moved.back.items c → is_some (slot_at w.pool c.number) ≡ true
  back_in_use c i = back_in_use_by_cases (slot_at w.pool c.number) (read_in (λ (c : ChunkValue). owner_of w.pool c.number ≡ Some p.task) moved.back.items c i F.back.owned)
    where
      back_in_use_by_cases : (o : Option Slot) → option_map (λ (h : Slot). h.owner) o ≡ Some p.task → is_some o ≡ true
      back_in_use_by_cases None q = absurd cc
      back_in_use_by_cases (Some h) q = refl

  module _ (pool : PoolValue) (G : AreGiven w.pool pool moved.back.items) (once : StandOnce (sources_of (slice_get w.sets p.task))) (room : ℕ) where
    abbrev H' : Resting
    H' = fold (redirected resting_references with_ref_in moved.moved.items) (heaps_of w) (sources_of (slice_get w.sets p.task))

    led : Led moved.moved.items (heaps_of w) Good ss H'
    led = lead_all moved.moved.items ss (heaps_of w) Good (are_once ss once) (λ s i. (source_object s i).place) formed

    abbrev w' : SharedValue
    w' = record w { pool = pool; rests = H'.rests; journal = record { items = w.journal.items ++ e ∷ []; room = room } }

    enters : Enters w w' e
    enters = record { journal = refl; program = refl; settings = refl; halted = refl }

    abbrev v' : Memory
    v' = value_of w'

    abbrev f : Addr → Addr
    f = new_address moved.moved.items

    abbrev L : Ledger
    L = with_heap l t (collected l.machine)

    -- with its contents if tasks were not held
    abbrev v'' : Memory
    v'' = record v' { belongings = λ u. rewritten_belongings f (sources v t) (v.belongings u) }

    held_then : (heap_of L t).worker ≡ Some k
    held_then = ap (λ o. (or_fresh o).worker) (with_at l t (collected l.machine)) ∙ (held_then_by_cases (slice_get l.heaps t) ∙ F.out)
      where
        held_then_by_cases : (o : Option Heap) → (or_fresh (heap_then (collected l.machine) o)).worker ≡ (or_fresh o).worker
        held_then_by_cases None = refl
        held_then_by_cases (Some z) = refl

    rests_before : (u : ℕ) → Rests L u → Rests l u
    rests_before u r = elim (cases_eq u t) [
      | inl q ↦ absurd (none_some (sym (sym (ap (λ z. (heap_of L z).worker) q) ∙ r) ∙ held_then))
      | inr ne ↦ ap (λ o. (or_fresh o).worker) (sym (with_off l t u (collected l.machine) ne)) ∙ r
    ]

    same_belongings : (u : ℕ) → Rests L u → v'.belongings u ≡ v''.belongings u
    same_belongings u r = led.belongings u (rests_before u r) ∙ ap (λ xs. rewritten_belongings f xs (v.belongings u)) (sym sources_are)

    -- OWNERS OF CHUNKS
    back_mine : (c : ChunkValue) → In moved.back.items c → owner_of w.pool c.number ≡ Some t
    back_mine c i = read_in (λ (c : ChunkValue). owner_of w.pool c.number ≡ Some p.task) moved.back.items c i F.back.owned

    stays : (n : ℕ) → IsFresh moved.back.items n → owner_of pool n ≡ owner_of w.pool n
    stays n fr = ap (option_map (λ (h : Slot). h.owner)) (G.others n fr)

    owners : (n u : ℕ) → (u ≡ t → ⊥) → owner_of w.pool n ≡ Some u → owner_of pool n ≡ Some u
    owners n u ne o = stays n (fresh_by moved.back.items n (λ c i q. ne (same_Some u t (sym o ∙ (ap (owner_of w.pool) (sym q) ∙ back_mine c i))))) ∙ o

    mine : (c : Chunk) → In (chunks_of p.heap.chunks) c → owner_of pool c.number ≡ Some t
    mine c i =
        let x = map_in chunk_of p.heap.chunks c i in
        stays c.number (fresh_by moved.back.items c.number (λ b j q. fresh_off p.heap.chunks x.0 b.number (read_in (λ (b : ChunkValue). IsFresh p.heap.chunks b.number) moved.back.items b j F.back.gone) x.1 (ap (λ (z : Chunk). z.number) x.2 ∙ sym q)))
        ∙ C.copy.owned c i

    owned : (n u : ℕ) → owner_of pool n ≡ Some u → owner_of w.pool n ≡ Some u
    owned n u o = owned_before w.pool pool moved.back.items n u G.free (G.others n) o

    ends : EndsAt v v'' t (belongings_of_part (without_collection p)) f
    ends = record { others = λ u ne. refl; owners = owners; mine = mine; owned = owned; sources = λ u. refl }

    -- NOTES AND COUNTS
    running : is_running (slice_get l.machine.tasks t) ≡ true
    running = (tasks_are_out_once w.program w.settings w.journal.items I.legal).runs on t k F.out

    idle : is_waiting (slice_get l.machine.tasks t) ≡ false
    idle = (runs_tell (slice_get l.machine.tasks t) running).3

    notes : OthersNotes v v'' t
    notes = record {
      none = S.keeps t ∙ ap (λ b. b && not (heap_of l t).swept) idle;
      others = λ u ne. record { keeps = refl; kept = refl; marked = refl };
    }

    counts : CountsGo w.program w.settings l (tree_counts_of w) (tree_counts_of w') k (End t moved.taken moved.given moved.left)
    counts = (
      record { node = λ u. refl; task_out = λ u. refl; steps = refl; outputs = refl },
      (let g : units_in_use pool + units_in_slots w.pool moved.back.items ≡ units_in_use w.pool = G.units in let b : units_in_slots w.pool moved.back.items ≡ moved.given = F.back.units in omega (arith, g, b)),
      refl,
    )

    -- WHAT STANDS
    stands_so : StandsForAll v'' (tree_counts_of w') L
    stands_so = ends_stand_for w.program w.settings w.journal.items I.form I.legal v v'' (tree_counts_of w) (tree_counts_of w') k t moved.taken moved.given moved.left F.belongings (belongings_of_part (without_collection p)) f free I.stands C ends refl notes counts

    legal' : is_legal w.program w.settings (w.journal.items ++ e ∷ []) ≡ true
    legal' = legal_then w.program w.settings w.journal.items e I.legal free

    accounts' : accounts w' ≡ L
    accounts' = accounts_are I free enters

    on' : L.end ≡ None
    on' = on_by_cases (slice_get l.heaps t) ∙ on
      where
        on_by_cases : (o : Option Heap) → (with_heap_at l t (collected l.machine) o).end ≡ l.end
        on_by_cases None = refl
        on_by_cases (Some h) = refl

    machine' : L.machine ≡ l.machine
    machine' = heap_machine l t (collected l.machine)

    going' : L.machine.end ≡ None
    going' = ap (λ (m : MachineState). m.end) machine' ∙ going

    sound' : SoundLedger L
    sound' = subst SoundLedger accounts' (legal_knows w.program w.settings (w.journal.items ++ e ∷ []) legal').sound

    waiters : (u : ℕ) → is_waiting (slice_get L.machine.tasks u) ≡ true → Rests L u
    waiters = subst (λ (z : Ledger). (u : ℕ) → is_waiting (slice_get z.machine.tasks u) ≡ true → Rests z u) accounts' (waiters_are_free w.program w.settings (w.journal.items ++ e ∷ []) legal')

    stands_now_so : StandsFor v'' (tree_counts_of w') L
    stands_now_so = subst (λ o. StandsFor v'' (tree_counts_of w') (by_end L o)) on' stands_so

    stands_then : StandsForAll v' (tree_counts_of w') L
    stands_then = subst (λ o. StandsFor v' (tree_counts_of w') (by_end L o)) (sym on') (stands_for_held v'' (λ u. v'.belongings u) L same_belongings waiters (tree_counts_of w') stands_now_so)

    -- THE UNITS
    own_apart : (c : ChunkValue) → In p.heap.chunks c → IsFresh moved.back.items c.number
    own_apart c i = fresh_by moved.back.items c.number (λ b j q. fresh_off p.heap.chunks c b.number (read_in (λ (b : ChunkValue). IsFresh p.heap.chunks b.number) moved.back.items b j F.back.gone) i (sym q))

    units_stay : (u : ℕ) → (u ≡ t → ⊥) → KeepsUnits w.pool pool u
    units_stay u ne = given_keeps w.pool pool moved.back.items t u G F.back.owned ne

    measured_then : RestsAreMeasured pool H'.rests w.tasks_out
    measured_then u r is none = measured_kept w.pool pool u r.heap.chunks (units_stay u (λ q. none k ((S.tree_counts.task_out k u).1 (ap (λ z. (heap_of l z).worker) q ∙ F.out)))) (led.measured u r (free_rests w u I on none) is)

    end_world : IsSharedValue w'
    end_world = entered_world I free enters (record { made = led.count ∙ I.made; noted = I.noted; workers = refl; limit = G.limit; heaps = led.form; measured = measured_then }) stands_then

    -- PARTS
    held_value : (q : Part) → WorkerFits w.program w.settings q v'' L → WorkerFits w.program w.settings q v' L
    held_value q fits = fits_held v'' (λ u. v'.belongings u) L same_belongings w.program w.settings q sound' going' fits

    end_fits : WorkerPartFits w' k (without_collection p)
    end_fits =
        fits_then I free enters end_world k (without_collection p) (worker_when_out I free enters end_world k t ((S.tree_counts.task_out k t).1 F.out)) F.leaf_limit F.field_limit F.form (measured_given w.pool pool moved.back.items t p.heap.chunks G own_apart F.measured, λ n i. absurd i)
        (held_value (part_of w.settings (without_collection p))
        (subst (λ n. WorkerFits w.program w.settings (part_for w.settings t (belongings_of_part (without_collection p)) n) v'' L) (sym F.fresh)
        (ends_fit_then w.program w.settings w.journal.items I.legal v v'' k t moved.taken moved.given moved.left F.belongings (belongings_of_part (without_collection p)) f free C ends refl)))

    apart : (u : ℕ) (q : Private) → (u ≡ k → ⊥) → WorkerPartFits w u q → q.task ≡ t → ⊥
    apart u q ne Q same = ne (same_Some u k (sym Q.out ∙ (ap (λ z. (heap_of l z).worker) same ∙ F.out)))

    end_others : OthersFit w w' k
    end_others u q ne Q =
        part_fits I free enters end_world u q q refl Q refl Q.form (part_kept w.pool pool q (units_stay q.task (apart u q ne Q)) Q.measured)
        (held_value (part_of w.settings q)
        (ends_leave w.program w.settings w.journal.items I.legal v v'' k t moved.taken moved.given moved.left F.belongings (belongings_of_part (without_collection p)) f free C ends (part_of w.settings q)
        (λ same'. apart u q ne Q (sym same')) Q.fits))

  -- AS THE CALL MAKES IT
  pub leaf_ended : {X : Resting} → X ≡ fold (redirected resting_references with_ref_in moved.moved.items) (heaps_of w) (sources_of (slice_get w.sets p.task)) → StandOnce (sources_of (slice_get w.sets p.task)) → {pool : PoolValue} → AreGiven w.pool pool moved.back.items
      → {j : ReservedVecValue EntryValue} → j ≡ record { items = w.journal.items ++ e ∷ []; room = w.journal.room - 1 } → LeafEntered w (record w { pool = pool; rests = X.rests; journal = j }) e (without_collection p)
  leaf_ended {X} is once {pool} G {j} made =
      subst (λ (z : SharedValue). LeafEntered w z e (without_collection p)) (sym (ap₂ (λ hs z. record w { pool = pool; rests = hs; journal = z }) (ap (λ (h : Resting). h.rests) is) made))
      (record { enters = enters pool G once (w.journal.room - 1); world = end_world pool G once (w.journal.room - 1); part = end_fits pool G once (w.journal.room - 1); others = end_others pool G once (w.journal.room - 1) })
