-- What is read at a new address.
use Rattle.collected_heap_laws.proofs.Common.{◌≡◌, ℕ, zero, suc, ◌+◌, ◌-◌, Contains, ◌<◌, Bool, true, false, cond, List, [], ◌∷◌, ◌++◌, length, map, refl, sym, ap, ◌∙◌, subst, arith, inl, inr, ◌⊎◌, Option, Some, None, eqb, nat_lt, nat_le, not, remove, reverse, ◌&&◌, list_any, length-reverse, cases_Bool, cases_lt, le-leb, lt-leb, false≢true, Addr, Cell, IsBorn, IsObject, no_cell, size_of, ChunkValue, number_of, cell_at, IsCellAt, cell_of, chunk_at, HasObjectAt, once_from, In, in_append_left, in_from_contains, in_kept, map_in, read_in, LeafHeapValue, IsReserved, IsSettled, IsTidy, Survivor, olds, reserved_of, unreserved, AreSurvivors, collected, keeps, large_of, laid_of, moves_of, redirection, CanTake, first_of, none_at, same_address, small_lives, small_room, Laying, HaveRoom, nothing_laid, is_moved, smalls, laid_all, laid_at, laid_one, next_place, opened, open_next, placed_behind, relocations, room_in, led_cell, led_chunk, size_led, some_room, numbers, Distinct, within_at, LargeAreRead, MovedAreRead}
use Rattle.object_layout.proofs.PlaceLemmas as place
use Rattle.object_layout.proofs.ChunkLaws as laws
use Rattle.copying_gc.proofs.Naming as naming
use Rattle.copying_gc.proofs.Rebuilt as rebuilt
use Rattle.address_laws.proofs.Numbers as nums
use Rattle.copying_gc.proofs.NewNumbers as new_numbers
use Rattle.address_laws.proofs.Extent as extent

-- an object is in the chunk with its number
pub object_number : (ks : List ChunkValue) (a : Addr) → IsObject (cell_of ks a).mark → In (numbers ks) a.chunk
object_number ks a o =
    elim (extent.in_numbers (numbers ks) a.chunk) [
      | inl i ↦ i
      | inr n ↦ let z = subst (λ (c : Cell). IsObject c.mark) (extent.nowhere ks a n) o in absurd z
    ]

next_number : (ks : List ChunkValue) → 0 < length ks → In (numbers ks) (next_place ks).chunk
next_number [] l = absurd (omega arith)
next_number (k ∷ []) l = inl refl
next_number (k ∷ (x ∷ ks)) l = inr (next_number (x ∷ ks) (omega arith))

-- an object is read where it was placed
placed_there : (ks : List ChunkValue) (c : Cell) → 0 < length ks → Distinct (numbers ks) → cell_of (placed_behind ks c) (next_place ks) ≡ c
placed_there [] c l d = absurd (omega arith)
placed_there (k ∷ []) c l d = extent.cell_in_first (record k { cells = k.cells ++ c ∷ [] }) [] (next_place (k ∷ [])) refl ∙ place.cell_at-last k.cells c
placed_there (k ∷ (x ∷ ks)) c l d =
    extent.later k (placed_behind (x ∷ ks) c) (next_place (x ∷ ks)) (λ e. d.0 (subst (In (numbers (x ∷ ks))) (sym e) (next_number (x ∷ ks) (omega arith))))
    ∙ placed_there (x ∷ ks) c (omega arith) d.1

-- other objects are unchanged
placed_other : (ks : List ChunkValue) (c : Cell) (b : Addr) → IsObject (cell_of ks b).mark → cell_of (placed_behind ks c) b ≡ cell_of ks b
placed_other [] c b o = refl
placed_other (k ∷ []) c b o =
    elim (cases_Bool (eqb k.number b.chunk)) [
      | inl e ↦ let p = rw e at o in rw e (place.cell_at-push k.cells c b.offset (place.cell_of_object k.cells b.offset p))
      | inr e ↦ rw e refl
    ]
placed_other (k ∷ (x ∷ ks)) c b o =
    elim (cases_Bool (eqb k.number b.chunk)) [
      | inl e ↦ rw e refl
      | inr e ↦ let p = rw e at o in rw e (placed_other (x ∷ ks) c b p)
    ]

opened_other : (laid spare : List ChunkValue) (b : Addr) → IsObject (cell_of laid b).mark → cell_of (open_next laid spare).laid b ≡ cell_of laid b
opened_other laid [] b o = refl
opened_other laid (k ∷ ks) b o = extent.in_first laid (k ∷ []) b (object_number laid b o)

opened_at : (y : Laying) (t : Bool) (b : Addr) → IsObject (cell_of y.laid b).mark → cell_of (cond t (open_next y.laid y.spare) y).laid b ≡ cell_of y.laid b
opened_at y true b o = opened_other y.laid y.spare b o
opened_at y false b o = refl

one_other : (y : Laying) (c : Cell) (b : Addr) → IsObject (cell_of y.laid b).mark → cell_of (laid_one y c).laid b ≡ cell_of y.laid b
one_other y c b o =
    let e = opened_at y (nat_lt (room_in y.laid) (size_of c)) b o in
    placed_other (opened y (size_of c)).laid c b (subst (λ (d : Cell). IsObject d.mark) (sym e) o) ∙ e

pub all_other : (y : Laying) (h : List ChunkValue) (xs : List Addr) (b : Addr) → IsObject (cell_of y.laid b).mark → cell_of (laid_all y h xs).laid b ≡ cell_of y.laid b
all_other y h [] b o = refl
all_other y h (a ∷ xs) b o =
    let e = one_other y (cell_of h a) b o in
    all_other (laid_one y (cell_of h a)) h xs b (subst (λ (d : Cell). IsObject d.mark) (sym e) o) ∙ e

numbers_once : (y : Laying) (c : Cell) → Distinct (numbers y.laid ++ numbers y.spare) → Distinct (numbers (opened y (size_of c)).laid)
numbers_once y c d = nums.distinct_left (numbers (opened y (size_of c)).laid) (numbers (opened y (size_of c)).spare) (subst Distinct (sym (new_numbers.opened_numbers y (nat_lt (room_in y.laid) (size_of c)))) d)

one_numbers : (y : Laying) (c : Cell) → Distinct (numbers y.laid ++ numbers y.spare) → Distinct (numbers (laid_one y c).laid ++ numbers (laid_one y c).spare)
one_numbers y c d =
    subst Distinct (sym (ap (λ (ns : List ℕ). ns ++ numbers (opened y (size_of c)).spare) (new_numbers.numbers_placed (opened y (size_of c)).laid c) ∙ new_numbers.opened_numbers y (nat_lt (room_in y.laid) (size_of c)))) d

-- what was moved is read at its new place
pub relocated : (y : Laying) (h : List ChunkValue) (xs : List Addr) → Distinct (numbers y.laid ++ numbers y.spare) → HaveRoom y h xs → ((a : Addr) → In xs a → IsObject (cell_of h a).mark)
    → (m : Addr × Addr) → In (relocations y h xs) m → cell_of (laid_all y h xs).laid m.1 ≡ cell_of h m.0
relocated y h [] d room o m i = absurd i
relocated y h (a ∷ xs) d room o m (inl e) =
    let c = cell_of h a in
    let there : cell_of (laid_one y c).laid (laid_at y (size_of c)) ≡ c = placed_there (opened y (size_of c)).laid c (some_room (opened y (size_of c)).laid c room.0.0) (numbers_once y c d) in
    subst (λ (p : Addr × Addr). cell_of (laid_all (laid_one y c) h xs).laid p.1 ≡ cell_of h p.0) e
    (all_other (laid_one y c) h xs (laid_at y (size_of c)) (subst (λ (z : Cell). IsObject z.mark) (sym there) (o a (inl refl))) ∙ there)
relocated y h (a ∷ xs) d room o m (inr i) = relocated (laid_one y (cell_of h a)) h xs (one_numbers y (cell_of h a) d) room.1 (λ b j. o b (inr j)) m i

pub moved_from : (y : Laying) (h : List ChunkValue) (xs : List Addr) (m : Addr × Addr) → In (relocations y h xs) m → In xs m.0
moved_from y h [] m i = absurd i
moved_from y h (a ∷ xs) m (inl e) = inl (ap (λ (p : Addr × Addr). p.0) e)
moved_from y h (a ∷ xs) m (inr i) = inr (moved_from (laid_one y (cell_of h a)) h xs m i)

-- ---- with references updated

led_cell_at : (f : Option Addr → Option Addr) (cs : List Cell) (at : ℕ) → cell_at (map (led_cell f) cs) at ≡ led_cell f (cell_at cs at)
led_cell_at f [] at = refl
led_cell_at f (c ∷ cs) zero = refl
led_cell_at f (c ∷ cs) (suc n) =
    elim (cases_lt (suc n) (size_of c)) [
      | inl above ↦ rw (size_led f c, lt-leb (size_of c) (suc n) above) refl
      | inr within ↦ rw (size_led f c, le-leb (size_of c) (suc n) within) (led_cell_at f cs (suc n - size_of c))
    ]

pub led_there : (f : Option Addr → Option Addr) (ks : List ChunkValue) (a : Addr) → cell_of (map (led_chunk f) ks) a ≡ led_cell f (cell_of ks a)
led_there f [] a = refl
led_there f (k ∷ ks) a =
    elim (cases_Bool (eqb k.number a.chunk)) [
      | inl e ↦ rw e (led_cell_at f k.cells a.offset)
      | inr e ↦ rw e (led_there f ks a)
    ]

-- ---- the law

module _ (h : LeafHeapValue) (from : List (Option Addr)) (ss : List Survivor) (news : List ChunkValue) (s : AreSurvivors h.chunks from ss) (t : CanTake h.chunks news) where
  pub small : (a : Addr) → In (smalls h.chunks (olds ss)) a → HasObjectAt h.chunks a × (is_moved h.chunks a ≡ true)
  small = small_lives h.chunks ss s.names

  pub room : HaveRoom (nothing_laid (reverse news)) h.chunks (smalls h.chunks (olds ss))
  room =
      let enough = t.enough in
      small_room h.chunks ss s.names (reverse news) (once_from (olds ss) s.once) (new_numbers.new_reverse news t.new) (omega (arith, length-reverse news))

  once_news : Distinct (numbers (reverse news))
  once_news = nums.distinct_reverse news (nums.apart_distinct news t.apart)

  pub moved_read : (old new : Addr) → Contains (moves_of h.chunks ss (reverse news)) (old, new) → cell_of (collected h ss (reverse news)).chunks new ≡ led_cell (redirection h.chunks ss (reverse news)) (cell_of h.chunks old)
  moved_read old new c =
      let xs = smalls h.chunks (olds ss) in
      let i = in_from_contains (moves_of h.chunks ss (reverse news)) (old, new) c in
      let there : cell_of (laid_all (nothing_laid (reverse news)) h.chunks xs).laid new ≡ cell_of h.chunks old = relocated (nothing_laid (reverse news)) h.chunks xs once_news room (λ a j. laws.born_object h.chunks a (small a j).0) (old, new) i in
      let object : IsObject (cell_of h.chunks old).mark = laws.born_object h.chunks old (small old (moved_from (nothing_laid (reverse news)) h.chunks xs (old, new) i)).0 in
      let read : cell_of (laid_of h ss (reverse news)) new ≡ led_cell (redirection h.chunks ss (reverse news)) (cell_of h.chunks old) =
      led_there (redirection h.chunks ss (reverse news)) (laid_all (nothing_laid (reverse news)) h.chunks xs).laid new ∙ ap (led_cell (redirection h.chunks ss (reverse news))) there in
      extent.in_first (laid_of h ss (reverse news)) (large_of h ss (reverse news) ++ reserved_of h.chunks h.reserved) new
      (object_number (laid_of h ss (reverse news)) new (subst (λ (d : Cell). IsObject d.mark) (sym read) object)) ∙ read

pub moved_are_read : MovedAreRead
moved_are_read h from ss news s t old new c = moved_read h from ss news s t old new c

-- ---- large survivors

removed_or_at : (ks : List ChunkValue) (i : ℕ) (k : ChunkValue) → In ks k → In (remove ks i) k ⊎ (k ≡ chunk_at ks i)
removed_or_at [] i k j = absurd j
removed_or_at (x ∷ ks) zero k (inl e) = inr (sym e)
removed_or_at (x ∷ ks) zero k (inr j) = inl j
removed_or_at (x ∷ ks) (suc i) k (inl e) = inl (inl e)
removed_or_at (x ∷ ks) (suc i) k (inr j) = elim (removed_or_at ks i k j) [ inl z ↦ inl (inr z) | inr z ↦ inr z ]

-- a chunk with an object is not the reserved one
unreserved_in : (ks : List ChunkValue) (o : Option ℕ) → IsReserved ks o → (k : ChunkValue) → In ks k → (k.cells ≡ [] → ⊥) → In (unreserved ks o) k
unreserved_in ks None w k j n = j
unreserved_in ks (Some i) w k j n = elim (removed_or_at ks i k j) [
  | inl z ↦ z
  | inr z ↦ absurd (n (ap (λ (x : ChunkValue). x.cells) z ∙ w.1.1))
]

module _ (h : LeafHeapValue) (from : List (Option Addr)) (ss : List Survivor) (news : List ChunkValue) (s : AreSurvivors h.chunks from ss) (t : CanTake h.chunks news)
    (settled : IsSettled h.chunks) (reserved : IsReserved h.chunks h.reserved) where
  pub all_once : Distinct (numbers h.chunks ++ numbers news)
  all_once = subst Distinct (nums.numbers_append h.chunks news) (nums.apart_distinct (h.chunks ++ news) (nums.apart_append h.chunks news settled.apart t.apart t.fresh))

  pub once_h : Distinct (numbers h.chunks)
  once_h = nums.distinct_left (numbers h.chunks) (numbers news) all_once

  pub laid_numbers : numbers (laid_of h ss (reverse news)) ≡ numbers (laid_all (nothing_laid (reverse news)) h.chunks (smalls h.chunks (olds ss))).laid
  laid_numbers = nums.numbers_of_map (led_chunk (redirection h.chunks ss (reverse news))) (λ k. refl) (laid_all (nothing_laid (reverse news)) h.chunks (smalls h.chunks (olds ss))).laid

  pub laid_parts : numbers (laid_all (nothing_laid (reverse news)) h.chunks (smalls h.chunks (olds ss))).laid ++ numbers (laid_all (nothing_laid (reverse news)) h.chunks (smalls h.chunks (olds ss))).spare ≡ numbers (reverse news)
  laid_parts = new_numbers.laid_numbers (nothing_laid (reverse news)) h.chunks (smalls h.chunks (olds ss))

  pub laid_once : Distinct (numbers (laid_of h ss (reverse news)))
  laid_once = subst Distinct (sym laid_numbers) (nums.distinct_left (numbers (laid_all (nothing_laid (reverse news)) h.chunks (smalls h.chunks (olds ss))).laid) (numbers (laid_all (nothing_laid (reverse news)) h.chunks (smalls h.chunks (olds ss))).spare)
      (subst Distinct (sym laid_parts) (nums.distinct_reverse news (nums.distinct_right (numbers h.chunks) (numbers news) all_once))))

  pub laid_apart : (n : ℕ) → In (numbers (laid_of h ss (reverse news))) n → In (numbers h.chunks) n → ⊥
  laid_apart n i j =
      let k = subst (λ (ns : List ℕ). In ns n) laid_parts (in_append_left (numbers (laid_all (nothing_laid (reverse news)) h.chunks (smalls h.chunks (olds ss))).laid) (numbers (laid_all (nothing_laid (reverse news)) h.chunks (smalls h.chunks (olds ss))).spare) n (subst (λ (ns : List ℕ). In ns n) laid_numbers i)) in
      nums.distinct_apart_parts (numbers h.chunks) (numbers news) all_once n j (nums.in_reverse news n k)

  module _ (a : Addr) (i : In (olds ss) a) (big : is_moved h.chunks a ≡ false) where
    live : HasObjectAt h.chunks a
    live = naming.lives h.chunks ss s.names a i

    own : (k : ChunkValue) × In h.chunks k × (k.number ≡ a.chunk)
    own = map_in number_of h.chunks a.chunk (object_number h.chunks a (laws.born_object h.chunks a live))

    pub large_read : cell_of (collected h ss (reverse news)).chunks a ≡ led_cell (redirection h.chunks ss (reverse news)) (cell_of h.chunks a)
    large_read = in_its own.0 own.1 own.2
      where
        in_its : (k : ChunkValue) → In h.chunks k → k.number ≡ a.chunk → cell_of (collected h ss (reverse news)).chunks a ≡ led_cell (redirection h.chunks ss (reverse news)) (cell_of h.chunks a)
        in_its k j q =
            let f = redirection h.chunks ss (reverse news) in
            let there : cell_of h.chunks a ≡ cell_at k.cells a.offset = extent.chunk_there h.chunks k once_h j a q in
            let born : IsBorn (cell_at k.cells a.offset).mark = subst (λ (c : Cell). IsBorn c.mark) there live in
            let begins : IsCellAt k.cells a.offset = place.cell_of_object k.cells a.offset (place.object_when_born k.cells a.offset born) in
            let above : 1024 < size_of (cell_of h.chunks a) = elim (cases_lt 1024 (size_of (cell_of h.chunks a))) [ inl b ↦ b | inr b ↦ absurd (false≢true (sym big ∙ le-leb (size_of (cell_of h.chunks a)) 1024 b)) ] in
            let one = place.All-cell_at (λ (c : Cell). 1024 < size_of c → length k.cells ≡ 1) k.cells a.offset begins (read_in IsTidy h.chunks k j settled.tidy).alone (subst (λ (c : Cell). 1024 < size_of c) there above) in
            let alone = rebuilt.one_cell k.cells one in
            let first : a ≡ first_of k = at_first k q alone born a.offset refl in
            let big' : nat_le (size_of (cell_at k.cells 0)) 1024 ≡ false = ap (λ (c : Cell). nat_le (size_of c) 1024) (sym (there ∙ ap (λ (o : ℕ). cell_at k.cells o) (ap (λ (x : Addr). x.offset) first))) ∙ big in
            let kept : keeps ss k ≡ true = ap (λ (b : Bool). not b && list_any (λ (x : Survivor). same_address x.old (first_of k)) ss) big' ∙ rebuilt.any_here ss (first_of k) (subst (In (olds ss)) first i) in
            let full : k.cells ≡ [] → ⊥ = λ e. let n = ap (λ (cs : List Cell). length cs) e in absurd (omega arith) in
            let stays = in_kept (keeps ss) (unreserved h.chunks h.reserved) k (unreserved_in h.chunks h.reserved reserved k j full) kept in
            let out = λ (z : In (numbers (laid_of h ss (reverse news))) a.chunk). laid_apart a.chunk z (object_number h.chunks a (laws.born_object h.chunks a live)) in
            naming.goal_kept h.chunks ss f h.reserved (laid_of h ss (reverse news)) settled.tidy once_h (once_from (olds ss) s.once) s.names laid_apart laid_once (within_at h.chunks h.reserved reserved) (none_at h.chunks h.reserved reserved) a out k stays q
            ∙ (led_cell_at f k.cells a.offset ∙ ap (led_cell f) (sym there))
          where
            at_first : (k : ChunkValue) → k.number ≡ a.chunk → k.cells ≡ cell_at k.cells 0 ∷ [] → IsBorn (cell_at k.cells a.offset).mark → (o : ℕ) → o ≡ a.offset → a ≡ first_of k
            at_first k q alone born zero z = λ e. record { chunk = sym q e; offset = sym z e }
            at_first k q alone born (suc n) z =
                let none : cell_at k.cells a.offset ≡ no_cell = ap (λ (o : ℕ). cell_at k.cells o) (sym z) ∙ (ap (λ (cs : List Cell). cell_at cs (suc n)) alone ∙ extent.alone_cell (cell_at k.cells 0) n) in
                let dead = subst (λ (c : Cell). IsBorn c.mark) none born in absurd dead

pub large_are_read : LargeAreRead
large_are_read h from ss news s t settled reserved a c big = large_read h from ss news s t settled reserved a (in_from_contains (olds ss) a c) big
