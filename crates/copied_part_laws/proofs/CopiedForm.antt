-- A heap after its collection has the form and the layout of every heap.
use Rattle.copied_part_laws.proofs.Common.{◌≡◌, ℕ, zero, suc, ◌+◌, ◌-◌, ◌*◌, ◌/◌, ◌<◌, ◌≤◌, ◌==◌, ◌&&◌, not, arith, Bool, true, false, cond, Option, Some, None, List, [], ◌∷◌, ◌++◌, length, map, filter, nat_lt, inl, inr, refl, ap, ap₂, sym, subst, ◌∙◌, eq-eqb, ne_eqb, option_map, reverse, cases_lt, cond-false, cond-true, false≢true, length-map, is_empty, in_append_cases, all_from, in_map, map_in, read_in, MachineState, Heap, units, Addr, Cell, size_of, ChunkValue, words_in, cell_of, chunk_at, Located, led_object, objects_from, led_are_read, words_in-push, chunk_there, LeafHeapValue, IsReserved, room_of, with_places, Survivor, olds, AreNew, HaveRoom, Laying, nothing_laid, laid_all, laid_one, open_next, opened, placed_behind, room_in, smalls, led_cell, led_chunk, reserved_of, unreserved, AreSurvivors, collected, keeps, large_of, laid_of, laying_of, CanTake, new_reverse, within_at, all_tidy, used_led, Chunk, In, objects_of_chunks, AreLaidOut, HoldsLarge, reserved_chunks, reserved_units, words, HasReservedUnits, HeapMatchesAccount, chunk_of, chunks_of, HeapForm, counted_from, is_spare}
use Rattle.collected_heap_laws.proofs.Reading as reading
use Rattle.copied_part_laws.proofs.BeforeTheCopy.{Old}
use Rattle.copied_part_laws.proofs.NamesLaid.{Told}
use Rattle.copied_part_laws.proofs.ObjectsApart.{Holds, held_by, laid_out, span}
use Rattle.copied_part_laws.proofs.ObjectsMoved as moving
use Rattle.copied_part_laws.proofs.ChunkPlaces.{at_behind, at_front, current_of, last_behind, last_small, place_behind, reserved_behind}
use Rattle.copied_part_laws.proofs.ObjectsPlaced.{opened_new}
use Rattle.copied_part_laws.proofs.CopiedNames as naming

-- ---- WORDS INSIDE THEIR CHUNKS

abbrev Inside : List ChunkValue → Type 0
Inside [] = Unit {0}
Inside (k ∷ ks) = (words_in k.cells ≤ k.size) × Inside ks

inside_placed : (ks : List ChunkValue) (c : Cell) → Inside ks → size_of c ≤ room_in ks → Inside (placed_behind ks c)
inside_placed [] c f le = tt
inside_placed (k ∷ []) c f le = (let w = words_in-push k.cells c in let a : words_in k.cells ≤ k.size = f.0 in omega (arith, w, a, le), tt)
inside_placed (k ∷ (l ∷ ks)) c f le = (f.0, inside_placed (l ∷ ks) c f.1 le)

inside_push : (ks : List ChunkValue) (k : ChunkValue) → Inside ks → k.cells ≡ [] → Inside (ks ++ k ∷ [])
inside_push [] k f e = (subst (λ cs. words_in cs ≤ k.size) (sym e) (omega arith), tt)
inside_push (x ∷ ks) k f e = (f.0, inside_push ks k f.1 e)

inside_opened : (y : Laying) (b : Bool) → Inside y.laid → AreNew y.spare → Inside (cond b (open_next y.laid y.spare) y).laid
inside_opened y true f n = inside_opened_by_cases y.spare n
  where
    inside_opened_by_cases : (spare : List ChunkValue) → AreNew spare → Inside (open_next y.laid spare).laid
    inside_opened_by_cases [] n = f
    inside_opened_by_cases (k ∷ ks) n = inside_push y.laid k f n.0.0
inside_opened y false f n = f

inside_all : (y : Laying) (h : List ChunkValue) (xs : List Addr) → Inside y.laid → AreNew y.spare → HaveRoom y h xs → Inside (laid_all y h xs).laid
inside_all y h [] f n room = f
inside_all y h (a ∷ xs) f n room =
    inside_all (laid_one y (cell_of h a)) h xs
    (inside_placed (opened y (size_of (cell_of h a))).laid (cell_of h a) (inside_opened y (nat_lt (room_in y.laid) (size_of (cell_of h a))) f n) room.0.0)
    (opened_new y (nat_lt (room_in y.laid) (size_of (cell_of h a))) n) room.1

inside_in : (ks : List ChunkValue) (k : ChunkValue) → Inside ks → In ks k → words_in k.cells ≤ k.size
inside_in [] k f i = absurd i
inside_in (x ∷ ks) k f (inl e) = subst (λ (z : ChunkValue). words_in z.cells ≤ z.size) e f.0
inside_in (x ∷ ks) k f (inr i) = inside_in ks k f.1 i

pub told_in : (m : MachineState) (ks : List ChunkValue) (k : ChunkValue) → Told m ks → In ks k → k.size ≡ 1024
told_in m [] k t i = absurd i
told_in m (x ∷ ks) k t (inl e) = ap (λ (z : ChunkValue). z.size) (sym e) ∙ t.0.0
told_in m (x ∷ ks) k t (inr i) = told_in m ks k t.1 i

-- ---- RESERVED CHUNKS

none_spare : (ks js : List ChunkValue) → ((k : ChunkValue) → In ks k → is_spare (chunk_of k) ≡ false) → reserved_chunks (chunks_of (ks ++ js)) ≡ reserved_chunks (chunks_of js)
none_spare [] js f = refl
none_spare (k ∷ ks) js f = cond-false (is_spare (chunk_of k)) (chunk_of k ∷ reserved_chunks (chunks_of (ks ++ js))) (reserved_chunks (chunks_of (ks ++ js))) (f k (inl refl)) ∙ none_spare ks js (λ x i. f x (inr i))

units_reserved : (h : List ChunkValue) (u : ℕ) (o : Option ℕ) → IsReserved h o → HasReservedUnits h o u → map (λ (c : Chunk). c.units) (reserved_chunks (chunks_of (reserved_of h o))) ≡ reserved_units u
units_reserved h u None w r = ap reserved_units (sym r)
units_reserved h u (Some i) w r =
    let k : ChunkValue = chunk_at h i in
    let big : 1024 < (chunk_at h i).size = w.1.0 in
    let spare : is_spare (chunk_of (chunk_at h i)) ≡ true = ap₂ (λ b (os : List Located). not b && is_empty os) (ne_eqb (chunk_at h i).size 1024 (λ q. omega (arith, q, big))) (ap (objects_from (chunk_at h i).number 0) w.1.1) in
    ap (map (λ (c : Chunk). c.units)) (cond-true (is_spare (chunk_of (chunk_at h i))) (chunk_of (chunk_at h i) ∷ []) [] spare)
    ∙ units_reserved_by_cases u r big
  where
    units_reserved_by_cases : (n : ℕ) → (chunk_at h i).size ≡ 1024 * n → 1024 < (chunk_at h i).size → (chunk_at h i).size / 1024 ∷ [] ≡ reserved_units n
    units_reserved_by_cases zero e b = absurd (omega (arith, e, b))
    units_reserved_by_cases (suc n) e b = ap (λ z. z ∷ []) (omega (arith, e))

module _ (h : LeafHeapValue) (from : List (Option Addr)) (ss : List Survivor) (news : List ChunkValue) (S : AreSurvivors h.chunks from ss) (T : CanTake h.chunks news) (m : MachineState) (a : Heap) (O : Old h ss m a) where
  abbrev pub g : Option Addr → Option Addr
  g = naming.g h from ss news S T m a O

  abbrev pub L : List ChunkValue
  L = laid_of h ss (reverse news)

  abbrev pub K : List ChunkValue
  K = large_of h ss (reverse news)

  abbrev pub R : List ChunkValue
  R = reserved_of h.chunks h.reserved

  abbrev y : Laying
  y = laying_of h.chunks ss (reverse news)

  abbrev told : Told m L
  told = naming.told h from ss news S T m a O

  -- ---- EACH CHUNK

  pub record Part (k : ChunkValue) : Type 0 where
    pub old : ChunkValue
    pub there : In h.chunks old
    pub size : k.size ≡ old.size
    pub words : words_in k.cells ≡ words_in old.cells
    pub big : 1024 < k.size
    pub holds : HoldsLarge (chunk_of k)

  big_not : (k : ChunkValue) → 1024 < k.size → (k.size == 1024) ≡ false
  big_not k b = ne_eqb k.size 1024 (λ e. omega (arith, b, e))

  led_holds : (k : ChunkValue) → HoldsLarge (chunk_of k) → HoldsLarge (chunk_of (led_chunk g k))
  led_holds k H = elim H [
    | inl none ↦ inl (objects ∙ ap (map (led_object (option_map to))) none)
    | inr q ↦ inr (led_object (option_map to) q.0, objects ∙ ap (map (led_object (option_map to))) q.1, q.2, q.3 ∙ ap (λ n. units (2 + n + length q.0.ints)) (sym (length-map q.0.refs (option_map to))))
  ]
    where
      to : Addr → Addr
      to = moving.to h from ss news S T (naming.settled h from ss news S T m a O) (naming.reserved h from ss news S T m a O)

      objects : objects_from k.number 0 (map (led_cell g) k.cells) ≡ map (led_object (option_map to)) (objects_from k.number 0 k.cells)
      objects =
          ap (λ (w : Option Addr → Option Addr). objects_from k.number 0 (map (led_cell w) k.cells)) (moving.g_is h from ss news S T (naming.settled h from ss news S T m a O) (naming.reserved h from ss news S T m a O))
          ∙ led_are_read (option_map to) k

  kept_part : (k : ChunkValue) → In K k → Part k
  kept_part k i =
      let x = map_in (led_chunk g) (filter (keeps ss) (unreserved h.chunks h.reserved)) k i in
      let A = moving.alone h from ss news S T (naming.settled h from ss news S T m a O) (naming.reserved h from ss news S T m a O) x.0 x.1 in
      let big : 1024 < x.0.size = naming.kept_big h from ss news S T m a O x.0 x.1 in
      subst Part x.2 (record {
        old = x.0;
        there = A.there;
        size = refl;
        words = used_led g x.0.cells;
        big = big;
        holds = led_holds x.0 (O.laid.large (chunk_of x.0) (in_map chunk_of h.chunks x.0 A.there) (ap not (big_not x.0 big)));
      })

  reserved_part : (k : ChunkValue) → In R k → Part k
  reserved_part k i =
      let r = moving.of_reserved h.chunks h.reserved (naming.reserved h from ss news S T m a O) k i in
      record { old = k; there = r.0; size = refl; words = refl; big = r.1; holds = O.laid.large (chunk_of k) (in_map chunk_of h.chunks k r.0) (ap not (big_not k r.1)) }

  part : (k : ChunkValue) → In (K ++ R) k → Part k
  part k i = elim (in_append_cases K R k i) [ inl j ↦ kept_part k j | inr j ↦ reserved_part k j ]

  pub laid_inside : (k : ChunkValue) → In L k → words_in k.cells ≤ k.size
  laid_inside k i =
      let x = map_in (led_chunk g) y.laid k i in
      let w = used_led g x.0.cells in
      let le = inside_in y.laid x.0 (inside_all (nothing_laid (reverse news)) h.chunks (smalls h.chunks (olds ss)) tt (new_reverse news T.new) (reading.room h from ss news S T)) x.1 in
      subst (λ (z : ChunkValue). words_in z.cells ≤ z.size) x.2 (omega (arith, w, le))

  pub within_each : (k : ChunkValue) → In (L ++ (K ++ R)) k → words_in k.cells ≤ k.size
  within_each k i = elim (in_append_cases L (K ++ R) k i) [
    | inl j ↦ laid_inside k j
    | inr j ↦
        let P = part k j in
        let s : k.size ≡ P.old.size = P.size in
        let w : words_in k.cells ≡ words_in P.old.cells = P.words in
        let le : words_in P.old.cells ≤ P.old.size = read_in (λ k. words_in k.cells ≤ k.size) h.chunks P.old P.there O.form.within in
        omega (arith, s, w, le)
  ]

  whole_each : (k : ChunkValue) → In (L ++ (K ++ R)) k → k.size ≡ 1024 * (k.size / 1024)
  whole_each k i = elim (in_append_cases L (K ++ R) k i) [
    | inl j ↦ let s = told_in m L k told j in omega (arith, s)
    | inr j ↦ let P = part k j in subst (λ n. n ≡ 1024 * (n / 1024)) (sym P.size) (O.form.whole P.old P.there)
  ]

  holds_each : (k : ChunkValue) → In (L ++ (K ++ R)) k → (chunk_of k).large ≡ true → HoldsLarge (chunk_of k)
  holds_each k i e = elim (in_append_cases L (K ++ R) k i) [
    | inl j ↦ absurd (false≢true (sym (ap not (eq-eqb k.size 1024 (told_in m L k told j))) ∙ e))
    | inr j ↦ (part k j).holds
  ]

  near_each : (o : Located) → In (objects_of_chunks (chunks_of (L ++ (K ++ R)))) o → o.at.offset < 1024
  near_each o i = near_each_by_cases (held_by (L ++ (K ++ R)) o i)
    where
      near_each_by_cases : Holds (L ++ (K ++ R)) o → o.at.offset < 1024
      near_each_by_cases H = elim (in_append_cases L (K ++ R) H.chunk H.there) [
        | inl j ↦
            let s = told_in m L H.chunk told j in
            let w = laid_inside H.chunk j in
            let u : o.at.offset + words o ≤ 0 + words_in H.chunk.cells = (span H.chunk.cells H.chunk.number 0 o H.object).upto in
            omega (arith, s, w, u)
        | inr j ↦ elim (part H.chunk j).holds [
          | inl none ↦ absurd (subst (λ os. In os o) none H.object)
          | inr q ↦
              let same : q.0 ≡ o = elim (subst (λ os. In os o) q.1 H.object) [ inl d ↦ d | inr z ↦ absurd z ] in
              let z : o.at.offset ≡ 0 = ap (λ (x : Located). x.at.offset) (sym same) ∙ q.2 in
              omega (arith, z)
        ]
      ]

  -- a kept chunk has its object
  kept_full : (k : ChunkValue) → In K k → (chunk_of k).objects ≡ [] → ⊥
  kept_full k i e =
      let x = map_in (led_chunk g) (filter (keeps ss) (unreserved h.chunks h.reserved)) k i in
      let e' : objects_from x.0.number 0 (map (led_cell g) x.0.cells) ≡ [] = ap (λ (z : ChunkValue). objects_from z.number 0 z.cells) x.2 ∙ e in
      moving.kept_some h from ss news S T (naming.settled h from ss news S T m a O) (naming.reserved h from ss news S T m a O) x.0 x.1 e'

  pub laid_now : AreLaidOut (chunks_of (L ++ (K ++ R))) a.reserved
  laid_now = laid_out (L ++ (K ++ R)) a.reserved (moving.apart_now h from ss news S T (naming.settled h from ss news S T m a O) (naming.reserved h from ss news S T m a O)) within_each whole_each holds_each
      (ap (map (λ (c : Chunk). c.units)) (none_spare L (K ++ R) (λ k i. ap (λ b. not b && is_empty (chunk_of k).objects) (eq-eqb k.size 1024 (told_in m L k told i))))
      ∙ (ap (map (λ (c : Chunk). c.units)) (none_spare K R (λ k i. spare_not k (kept_full k i)))
      ∙ units_reserved h.chunks a.reserved h.reserved O.form.shaped.reserved counted.reserved))
    where
      spare_not : (k : ChunkValue) → ((chunk_of k).objects ≡ [] → ⊥) → is_spare (chunk_of k) ≡ false
      spare_not k f = spare_not_by_cases (chunk_of k).large (chunk_of k).objects refl
        where
          spare_not_by_cases : (b : Bool) (os : List Located) → (chunk_of k).objects ≡ os → (b && is_empty os) ≡ false
          spare_not_by_cases true [] e = absurd (f e)
          spare_not_by_cases true (o ∷ os) e = refl
          spare_not_by_cases false os e = refl

      counted : HeapMatchesAccount h (record a { room = room_of h; since = h.since })
      counted = counted_from h (record a { room = room_of h; since = h.since }) O.form (record { small = O.names.small; large = O.names.large }) refl refl O.laid.reserved

  -- ---- THE FORM

  pub form_now : (slots spare : ℕ) → HeapForm (with_places (collected h ss (reverse news)) slots spare)
  form_now slots spare = record {
    shaped = record {
      apart = moving.apart_now h from ss news S T (naming.settled h from ss news S T m a O) (naming.reserved h from ss news S T m a O);
      current = current_of m L (K ++ R) told;
      reserved = reserved_behind h.chunks L K h.reserved O.form.shaped.reserved;
    };
    near = near_each;
    tidy = all_tidy g h.chunks ss news h.reserved O.form.tidy T.new (within_at h.chunks h.reserved O.form.shaped.reserved) L refl;
    within = all_from (λ k. words_in k.cells ≤ k.size) (L ++ (K ++ R)) within_each;
    last = last_small L (K ++ R) (λ k i. (part k i).big);
    last_large = last_behind h.chunks L K h.reserved;
    since = omega arith;
    whole = whole_each;
    spare = λ i lt big none. elim (cases_lt i (length L)) [
      | inl f ↦ absurd (big (ap (λ (z : ChunkValue). z.size) (at_front L (K ++ R) i f) ∙ told_in m L (chunk_at L i) told (chunk_there L i f)))
      | inr le ↦ elim (cases_lt i (length L + length K)) [
        | inl f ↦
            let e : chunk_at (L ++ (K ++ R)) i ≡ chunk_at K (i - length L) = at_behind L (K ++ R) i le ∙ at_front K R (i - length L) (omega (arith, f, le)) in
            absurd (kept_full (chunk_at K (i - length L)) (chunk_there K (i - length L) (omega (arith, f, le))) (ap (λ (z : ChunkValue). (chunk_of z).objects) (sym e) ∙ none))
        | inr more ↦ place_behind h.chunks L K h.reserved i more lt
      ]
    ];
  }
