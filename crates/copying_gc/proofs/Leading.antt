-- References of the survivors, and their updates.
use Rattle.copying_gc.proofs.Common.{◌≡◌, ℕ, suc, ◌+◌, ◌*◌, ◌/◌, ◌<◌, ◌≤◌, Bool, true, false, cond, List, [], ◌∷◌, ◌++◌, length, get_or, map, fold, refl, sym, ap, ◌∙◌, subst, arith, inl, inr, Option, Some, None, Contains, ◌↔◌, All, nat_lt, unwrap_or, cases_lt, lt-ltb, le-ltb, false≢true, All-cons, All-head, All-tail, Addr, Cell, Moved, IsObject, moved_to, size_of, with_mark, ChunkValue, cell_of, chunk_position, HeapIsClosed, HasObjectAt, IsSoundReference, Once, In, in_from_contains, contains_from_in, in_map, in_read, Survivor, IsSurvivor, olds, old_of, HaveNames, all_found, IsTarget, Laying, is_moved, smalls, laid_all, laid_one, opened, open_next, placed_behind, room_in, relocations, nothing_laid, AreNew, HaveRoom, CollectorValue, copied, copied_one, CanBeCopied, followed, followed_ref, new_address, redirected, led_cell, led_chunk, HasTargets}
use Rattle.object_layout.proofs.ChunkLaws as laws
use Rattle.copying_gc.specs.Laid.{small_words}
use Rattle.address_laws.proofs.Puts as puts
use Rattle.copying_gc.proofs.FoundLemmas as marks
use Rattle.copying_gc.proofs.Moves as moves
use Rattle.copying_gc.proofs.Moves.{AreAs, small_ones}
use Rattle.copying_gc.proofs.Naming as naming
use Rattle.copying_gc.proofs.Naming.{born}
use Rattle.copying_gc.proofs.SmallSurvivors.{small_room}

-- ---- what is in the new chunks

abbrev pub Each : (Cell → Type 0) → List ChunkValue → Type 0
Each Q [] = Unit {0}
Each Q (k ∷ ks) = All Q k.cells × Each Q ks

module _ (Q : Cell → Type 0) where
  each_push : (ks : List ChunkValue) (k : ChunkValue) → Each Q ks → All Q k.cells → Each Q (ks ++ k ∷ [])
  each_push [] k e a = (a, tt)
  each_push (x ∷ ks) k e a = (e.0, each_push ks k e.1 a)

  all_push : (cs : List Cell) (c : Cell) → All Q cs → Q c → All Q (cs ++ c ∷ [])
  all_push [] c a q = All-cons Q c [] q a
  all_push (x ∷ cs) c a q = All-cons Q x (cs ++ c ∷ []) (All-head Q x cs a) (all_push cs c (All-tail Q x cs a) q)

  each_placed : (ks : List ChunkValue) (c : Cell) → Each Q ks → Q c → Each Q (placed_behind ks c)
  each_placed [] c e q = tt
  each_placed (k ∷ []) c e q = (all_push k.cells c e.0 q, tt)
  each_placed (k ∷ (l ∷ ks)) c e q = (e.0, each_placed (l ∷ ks) c e.1 q)

  none_all : (cs : List Cell) → cs ≡ [] → All Q cs
  none_all cs e = subst (All Q) (sym e) (λ i d l. absurd (omega arith))

  each_open : (laid spare : List ChunkValue) → Each Q laid → AreNew spare → Each Q (open_next laid spare).laid × AreNew (open_next laid spare).spare
  each_open laid [] e m = (e, tt)
  each_open laid (k ∷ ks) e m = (each_push laid k e (none_all k.cells m.0.0), m.1)

  each_opened_at : (y : Laying) (b : Bool) → Each Q y.laid → AreNew y.spare → Each Q (cond b (open_next y.laid y.spare) y).laid × AreNew (cond b (open_next y.laid y.spare) y).spare
  each_opened_at y true e m = each_open y.laid y.spare e m
  each_opened_at y false e m = (e, m)

  pub each_laid : (y : Laying) (h : List ChunkValue) (xs : List Addr) → Each Q y.laid → AreNew y.spare → ((a : Addr) → In xs a → Q (cell_of h a)) → Each Q (laid_all y h xs).laid
  each_laid y h [] e m q = e
  each_laid y h (a ∷ xs) e m q =
      let o = each_opened_at y (nat_lt (room_in y.laid) (size_of (cell_of h a))) e m in
      each_laid (laid_one y (cell_of h a)) h xs (each_placed (opened y (size_of (cell_of h a))).laid (cell_of h a) o.0 (q a (inl refl))) o.1 (λ b i. q b (inr i))

-- ---- references in the new chunks

abbrev pub Leads : List ChunkValue → List (Addr × Addr) → Option Addr → Type 0
Leads old ps r = (followed_ref old r ≡ redirected ps r) × IsTarget old r

abbrev pub CellLeads : List ChunkValue → List (Addr × Addr) → Cell → Type 0
CellLeads old ps c = IsObject c.mark × All (Leads old ps) c.refs

pub map_same : {X Y : Type 0} (f g : X → Y) (xs : List X) → All (λ x. f x ≡ g x) xs → map f xs ≡ map g xs
map_same f g [] a = refl
map_same f g (x ∷ xs) a = λ i. All-head (λ y. f y ≡ g y) x xs a i ∷ map_same f g xs (All-tail (λ y. f y ≡ g y) x xs a) i

module _ (old : List ChunkValue) (ps : List (Addr × Addr)) where
  pub refs_same : (rs : List (Option Addr)) → All (Leads old ps) rs → map (followed_ref old) rs ≡ map (redirected ps) rs
  refs_same rs q = map_same (followed_ref old) (redirected ps) rs (λ k d l. (q k d l).0)

  pub refs_targets : (rs : List (Option Addr)) → All (Leads old ps) rs → All (IsTarget old) rs
  refs_targets rs q = λ k d l. (q k d l).1

  cell_same : (c : Cell) → CellLeads old ps c → led_cell (followed_ref old) c ≡ led_cell (redirected ps) c
  cell_same c q = ap (λ (rs : List (Option Addr)). let d : Cell = record c { refs = rs } in d) (refs_same c.refs q.1)

  chunk_same : (k : ChunkValue) → All (CellLeads old ps) k.cells → led_chunk (followed_ref old) k ≡ led_chunk (redirected ps) k
  chunk_same k q = ap (λ (cs : List Cell). let d : ChunkValue = record k { cells = cs } in d) (map_same (led_cell (followed_ref old)) (led_cell (redirected ps)) k.cells (λ i d l. cell_same _ (q i d l)))

  pub chunks_same : (ks : List ChunkValue) → Each (CellLeads old ps) ks → map (led_chunk (followed_ref old)) ks ≡ map (led_chunk (redirected ps)) ks
  chunks_same [] e = refl
  chunks_same (k ∷ ks) e = λ i. chunk_same k e.0 i ∷ chunks_same ks e.1 i

  pub chunks_targets : (ks : List ChunkValue) → Each (CellLeads old ps) ks → All (λ (k : ChunkValue). All (HasTargets old) k.cells) ks
  chunks_targets [] e = λ i d l. absurd (omega arith)
  chunks_targets (k ∷ ks) e = All-cons (λ (x : ChunkValue). All (HasTargets old) x.cells) k ks (λ i d l. ((e.0 i d l).0, refs_targets _ (e.0 i d l).1)) (chunks_targets ks e.1)

-- ---- how references are updated

followed_in : (g : List ChunkValue) (a : Addr) → chunk_position g a.chunk < length g → followed g a ≡ moved_to (cell_of g a).mark
followed_in g a l = rw (lt-ltb (chunk_position g a.chunk) (length g) l) refl

followed_out : (g : List ChunkValue) (a : Addr) → length g ≤ chunk_position g a.chunk → followed g a ≡ Some a
followed_out g a l = rw (le-ltb (chunk_position g a.chunk) (length g) l) refl

-- h: the heap; ss: the survivors in order; found: in the order in which they were found; k: before the copying
module _ (h : List ChunkValue) (from : List (Option Addr)) (closed : HeapIsClosed h) (sound : All (IsSoundReference h) from)
    (ss : List Survivor) (found : List Addr) (spare : List ChunkValue)
    (kept : (a : Addr) → Contains (olds ss) a ↔ IsSurvivor h from a) (once : Once (olds ss))
    (all : (a : Addr) → In (olds ss) a → In found a)
    (names : HaveNames h ss)
    (k : CollectorValue) (k_old : k.heap.chunks ≡ all_found h found) (k_laying : k.laying ≡ nothing_laid spare) (k_moved : k.moved ≡ [])
    (new : AreNew spare) where
  pub as_were : AreAs h k.heap.chunks ss
  as_were = subst (λ (old : List ChunkValue). AreAs h old ss) (sym k_old) (moves.are_as h found ss (born h ss names))

  pub can_copy : HaveRoom (nothing_laid spare) h (smalls h (olds ss)) → CanBeCopied k ss
  can_copy room = moves.are_ready h k ss once as_were (subst (λ (y : Laying). HaveRoom y h (smalls h (olds ss))) (sym k_laying) room)

  pub lives : (a : Addr) → In (olds ss) a → HasObjectAt h a
  lives = naming.lives h ss names

  small_once : Once (olds (small_ones h ss))
  small_once = subst Once (sym (moves.olds_small h ss)) (moves.once_smalls h (olds ss) once)

  small_as : AreAs h k.heap.chunks (small_ones h ss)
  small_as s i = as_were s (moves.in_small h ss s i)

  pub enough : 2 * ((small_words h + 1023) / 1024) ≤ length spare + 1 → HaveRoom (nothing_laid spare) h (smalls h (olds ss))
  enough room = small_room h ss names spare once new room

  -- the result of the copying
  module _ (t : CollectorValue) (is : t ≡ fold copied k ss) where
    t_is : t ≡ fold copied_one k (small_ones h ss)
    t_is = is ∙ moves.small_alone h k ss once as_were

    pub laying_is : t.laying ≡ laid_all (nothing_laid spare) h (smalls h (olds ss))
    laying_is =
        ap (λ (z : CollectorValue). z.laying) t_is ∙ (moves.copied_laying h k (small_ones h ss) small_once small_as
        ∙ (ap (λ (y : Laying). laid_all y h (olds (small_ones h ss))) k_laying ∙ ap (laid_all (nothing_laid spare) h) (moves.olds_small h ss)))

    places_are : relocations k.laying h (olds (small_ones h ss)) ≡ relocations (nothing_laid spare) h (smalls h (olds ss))
    places_are = ap (λ (y : Laying). relocations y h (olds (small_ones h ss))) k_laying ∙ ap (relocations (nothing_laid spare) h) (moves.olds_small h ss)

    pub moved_is : t.moved ≡ relocations (nothing_laid spare) h (smalls h (olds ss))
    moved_is =
        ap (λ (z : CollectorValue). z.moved) t_is
        ∙ (moves.copied_moved h k (small_ones h ss) small_once small_as
        ∙ (ap (λ (ps : List (Addr × Addr)). ps ++ relocations k.laying h (olds (small_ones h ss))) k_moved ∙ places_are))

    place_is : (n : ℕ) → chunk_position t.heap.chunks n ≡ chunk_position h n
    place_is n =
        ap (λ (z : CollectorValue). chunk_position z.heap.chunks n) t_is ∙ (moves.copied_place h k (small_ones h ss) n
        ∙ (ap (λ (old : List ChunkValue). chunk_position old n) k_old ∙ marks.found_place h found n))

    length_is : length t.heap.chunks ≡ length h
    length_is =
        ap (λ (z : CollectorValue). length z.heap.chunks) t_is ∙ (moves.copied_length h k (small_ones h ss)
        ∙ (ap (λ (old : List ChunkValue). length old) k_old ∙ marks.found_length h found))

    -- where the mark of a survivor leads
    mark_leads : (a : Addr) → In (olds ss) a → moved_to (cell_of t.heap.chunks a).mark ≡ Some (new_address (relocations (nothing_laid spare) h (smalls h (olds ss))) a)
    mark_leads a i =
        elim (puts.in_or_not (olds (small_ones h ss)) a) [
          | inl j ↦
              ap (λ (z : CollectorValue). moved_to (cell_of z.heap.chunks a).mark) t_is
              ∙ (moves.copied_mark h k (small_ones h ss) small_once small_as a j ∙ ap (λ (ps : List (Addr × Addr)). Some (new_address ps a)) places_are)
          | inr n ↦
              let out : In (smalls h (olds ss)) a → ⊥ = λ j. n (subst (λ (xs : List Addr). In xs a) (sym (moves.olds_small h ss)) j) in
              ap (λ (z : CollectorValue). moved_to (cell_of z.heap.chunks a).mark) t_is
              ∙ (ap (λ (c : Cell). moved_to c.mark) (moves.copied_other h k (small_ones h ss) a n)
              ∙ (ap (λ (old : List ChunkValue). moved_to (cell_of old a).mark) k_old
              ∙ (ap moved_to (moves.found_marked h found a (all a i) (laws.born_object h a (lives a i)))
              ∙ sym (ap (λ (o : Option Addr). Some (unwrap_or o a)) (moves.new_none (nothing_laid spare) h (smalls h (olds ss)) a out)))))
        ]

    pub leads_reference : (r : Option Addr) → IsSoundReference h r → ((a : Addr) → r ≡ Some a → HasObjectAt h a → IsSurvivor h from a)
        → Leads t.heap.chunks (relocations (nothing_laid spare) h (smalls h (olds ss))) r
    leads_reference None s reach = (refl, tt)
    leads_reference (Some a) s reach = (
      elim (cases_lt (chunk_position h a.chunk) (length h)) [
        | inl l ↦
            let p = place_is a.chunk in let n = length_is in
            let i : In (olds ss) a = in_from_contains (olds ss) a ((kept a).1 (reach a refl (s l).0)) in
            followed_in t.heap.chunks a (omega arith) ∙ mark_leads a i
        | inr l ↦
            let p = place_is a.chunk in let n = length_is in
            let out : In (smalls h (olds ss)) a → ⊥ = λ j. let z = puts.live_chunk h a (lives a (moves.in_smalls h (olds ss) a j).0) in omega arith in
            followed_out t.heap.chunks a (omega arith) ∙ sym (ap (λ (o : Option Addr). Some (unwrap_or o a)) (moves.new_none (nothing_laid spare) h (smalls h (olds ss)) a out))
      ],
      subst (λ (z : CollectorValue). IsTarget z.heap.chunks (Some a)) (sym t_is)
          (moves.copied_target h k (small_ones h ss) (Some a) (subst (λ (old : List ChunkValue). IsTarget old (Some a)) (sym k_old) (marks.found_target h found (Some a) (marks.sound_target h (Some a) s)))),
    )

    pub leads_refs : (a : Addr) → In (olds ss) a → All (Leads t.heap.chunks (relocations (nothing_laid spare) h (smalls h (olds ss)))) (cell_of h a).refs
    leads_refs a i =
        let w = (kept a).0 (contains_from_in (olds ss) a i) in
        λ j d l. leads_reference (get_or (cell_of h a).refs j d) (closed a (lives a i) j d l)
        (λ b e live. (suc w.0, (a, w.1, (lives a i, live, contains_from_in (cell_of h a).refs (Some b) (subst (In (cell_of h a).refs) e (in_read (cell_of h a).refs j d l))))))

    pub leads_from : All (Leads t.heap.chunks (relocations (nothing_laid spare) h (smalls h (olds ss)))) from
    leads_from = λ j d l. leads_reference (get_or from j d) (sound j d l)
        (λ b e live. (0, (live, contains_from_in from (Some b) (subst (In from) e (in_read from j d l)))))

    pub each_leads : Each (CellLeads t.heap.chunks (relocations (nothing_laid spare) h (smalls h (olds ss)))) t.laying.laid
    each_leads =
        subst (λ (z : Laying). Each (CellLeads t.heap.chunks (relocations (nothing_laid spare) h (smalls h (olds ss)))) z.laid) (sym laying_is)
        (each_laid (CellLeads t.heap.chunks (relocations (nothing_laid spare) h (smalls h (olds ss)))) (nothing_laid spare) h (smalls h (olds ss)) tt new
        (λ a i. let p = moves.in_smalls h (olds ss) a i in (laws.born_object h a (lives a p.0), leads_refs a p.0)))

    pub chunks_are : map (led_chunk (followed_ref t.heap.chunks)) t.laying.laid ≡ map (led_chunk (redirected (relocations (nothing_laid spare) h (smalls h (olds ss))))) (laid_all (nothing_laid spare) h (smalls h (olds ss))).laid
    chunks_are =
        chunks_same t.heap.chunks (relocations (nothing_laid spare) h (smalls h (olds ss))) t.laying.laid each_leads
        ∙ ap (λ (z : Laying). map (led_chunk (redirected (relocations (nothing_laid spare) h (smalls h (olds ss))))) z.laid) laying_is

    pub chunks_have : All (λ (c : ChunkValue). All (HasTargets t.heap.chunks) c.cells) t.laying.laid
    chunks_have = chunks_targets t.heap.chunks (relocations (nothing_laid spare) h (smalls h (olds ss))) t.laying.laid each_leads

    -- the cell of a survivor, except for its mark
    pub still : (a : Addr) → (cell_of t.heap.chunks a).refs ≡ (cell_of h a).refs
    still a =
        ap (λ (z : CollectorValue). (cell_of z.heap.chunks a).refs) t_is
        ∙ (ap (λ (c : Cell). c.refs) (moves.copied_alone h k (small_ones h ss) a (Moved a))
        ∙ (ap (λ (old : List ChunkValue). (cell_of old a).refs) k_old ∙ marks.all_found_refs h found a))

    pub still_but_mark : (a : Addr) → with_mark (cell_of t.heap.chunks a) (Moved a) ≡ with_mark (cell_of h a) (Moved a)
    still_but_mark a =
        ap (λ (z : CollectorValue). with_mark (cell_of z.heap.chunks a) (Moved a)) t_is
        ∙ (moves.copied_alone h k (small_ones h ss) a (Moved a)
        ∙ (ap (λ (old : List ChunkValue). with_mark (cell_of old a) (Moved a)) k_old ∙ marks.all_found_alone h found a (Moved a)))

    -- a large survivor is marked as moved to where it is
    pub large_marked : (a : Addr) → In (olds ss) a → is_moved h a ≡ false → cell_of t.heap.chunks a ≡ with_mark (cell_of h a) (Moved a)
    large_marked a i s =
        let n : In (olds (small_ones h ss)) a → ⊥ = λ j. false≢true (sym s ∙ (moves.in_smalls h (olds ss) a (subst (λ (xs : List Addr). In xs a) (moves.olds_small h ss) j)).1) in
        let same : cell_of t.heap.chunks a ≡ cell_of (all_found h found) a = ap (λ (z : CollectorValue). cell_of z.heap.chunks a) t_is ∙ (moves.copied_other h k (small_ones h ss) a n ∙ ap (λ (old : List ChunkValue). cell_of old a) k_old) in
        let m : (cell_of t.heap.chunks a).mark ≡ Moved a = ap (λ (c : Cell). c.mark) same ∙ moves.found_marked h found a (all a i) (laws.born_object h a (lives a i)) in
        marked_cell (cell_of t.heap.chunks a) a m ∙ still_but_mark a
      where
        marked_cell : (c : Cell) (to : Addr) → c.mark ≡ Moved to → c ≡ with_mark c (Moved to)
        marked_cell c to e = λ i. record { mark = e i; mutable = c.mutable; refs = c.refs; ints = c.ints }

    -- what doesn't survive is unchanged
    pub dead_stays : (a : Addr) → (In (olds ss) a → ⊥) → (In found a → In (olds ss) a) → cell_of t.heap.chunks a ≡ cell_of h a
    dead_stays a n back =
        let out : In (olds (small_ones h ss)) a → ⊥ = λ j. n (moves.in_smalls h (olds ss) a (subst (λ (xs : List Addr). In xs a) (moves.olds_small h ss) j)).0 in
        ap (λ (z : CollectorValue). cell_of z.heap.chunks a) t_is
        ∙ (moves.copied_other h k (small_ones h ss) a out
        ∙ (ap (λ (old : List ChunkValue). cell_of old a) k_old ∙ marks.found_kept h found a (λ i. n (back i))))

    pub target_refs : (s : Survivor) → In ss s → HasTargets t.heap.chunks (cell_of t.heap.chunks s.old)
    target_refs s i =
        let j = in_map old_of ss s i in (
          subst (λ (z : CollectorValue). IsObject (cell_of z.heap.chunks s.old).mark) (sym t_is)
              (moves.copied_object h k (small_ones h ss) s.old (subst (λ (old : List ChunkValue). IsObject (cell_of old s.old).mark) (sym k_old) (marks.all_found_object h found s.old (laws.born_object h s.old (lives s.old j))))),
          subst (λ (rs : List (Option Addr)). All (IsTarget t.heap.chunks) rs) (sym (still s.old)) (refs_targets t.heap.chunks (relocations (nothing_laid spare) h (smalls h (olds ss))) (cell_of h s.old).refs (leads_refs s.old j)),
        )
