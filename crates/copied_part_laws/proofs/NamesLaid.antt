-- The names that a collection lays, chunk by chunk, are laid as the account lays them.
use Rattle.copied_part_laws.proofs.Common.{◌≡◌, ◌+◌, ◌-◌, ◌<◌, ◌≤◌, ◌==◌, arith, Bool, true, false, cond, Option, Some, List, [], ◌∷◌, ◌++◌, length, map, nat_le, nat_lt, inl, inr, refl, ap, sym, subst, ◌∙◌, eq-eqb, ne_eqb, cond-false, cond-true, le-leb, lt-leb, ltb-true, sum_by-append, sum_by-cons, Name, MachineState, chunk_words, lay, laid_onto, room_behind, words_at, words_sum, Addr, Birth, Born, Cell, size_of, ChunkValue, words_in, cell_of, words_in-push, room_at, Survivor, olds, AreNew, ObjectFits, HaveRoom, Laying, laid_all, laid_one, open_next, opened, placed_behind, room_in, led_cell, led_chunk, last_place, some_room, used_led, In, large_names, named_by, names_in, small_lists, name_of, names-push}
use Rattle.copied_part_laws.proofs.ObjectsPlaced.{opened_new}

abbrev pub lists_of : List ChunkValue → List (List Name)
lists_of ks = map (λ (k : ChunkValue). names_in k.cells) ks

abbrev pub birth_name : Survivor → Name
birth_name s = name_of s.birth

module _ (m : MachineState) where
  -- small chunks whose words are those of their names
  abbrev pub Told : List ChunkValue → Type 0
  Told [] = Unit {0}
  Told (k ∷ ks) = ((k.size ≡ 1024) × (words_sum m (names_in k.cells) ≡ words_in k.cells)) × Told ks

  module _ (c : Cell) (b : Birth) (mark : c.mark ≡ Born b) (words : words_at m (name_of b) ≡ size_of c) where
    more_words : (cs : List Cell) → words_sum m (names_in cs) ≡ words_in cs → words_sum m (names_in (cs ++ c ∷ [])) ≡ words_in (cs ++ c ∷ [])
    more_words cs e =
        let a = ap (words_sum m) (names-push cs c b mark) in
        let s = sum_by-append (words_at m) (names_in cs) (name_of b ∷ []) in
        let o = sum_by-cons (words_at m) (name_of b) [] in
        let w = words_in-push cs c in
        omega (arith, a, s, o, w, e, words)

    told_placed : (ks : List ChunkValue) → Told ks → Told (placed_behind ks c)
    told_placed [] t = tt
    told_placed (k ∷ []) t = ((t.0.0, more_words k.cells t.0.1), tt)
    told_placed (k ∷ (l ∷ ks)) t = (t.0, told_placed (l ∷ ks) t.1)

    lay_here : (ks : List ChunkValue) → Told ks → 0 < length ks → size_of c ≤ room_in ks → lists_of (placed_behind ks c) ≡ lay m (lists_of ks) (name_of b)
    lay_here [] t some le = absurd (omega (arith, some))
    lay_here (k ∷ []) t some le =
        let size : k.size ≡ 1024 = t.0.0 in
        let sum : words_sum m (names_in k.cells) ≡ words_in k.cells = t.0.1 in
        let fits : words_sum m (names_in k.cells) + words_at m (name_of b) ≤ chunk_words = omega (arith, size, sum, le, words) in
        ap (λ ns. ns ∷ []) (names-push k.cells c b mark)
        ∙ sym (cond-true (nat_le (words_sum m (names_in k.cells) + words_at m (name_of b)) chunk_words) ((names_in k.cells ++ name_of b ∷ []) ∷ []) (names_in k.cells ∷ (name_of b ∷ []) ∷ []) (le-leb (words_sum m (names_in k.cells) + words_at m (name_of b)) chunk_words fits))
    lay_here (k ∷ (l ∷ ks)) t some le = ap (λ zs. names_in k.cells ∷ zs) (lay_here (l ∷ ks) t.1 (omega arith) le)

    lay_next : (ks : List ChunkValue) (k : ChunkValue) → Told ks → k.cells ≡ [] → room_in ks < size_of c → lists_of (placed_behind (ks ++ k ∷ []) c) ≡ lay m (lists_of ks) (name_of b)
    lay_next [] k t e lt = ap (λ ns. ns ∷ []) (names-push k.cells c b mark ∙ ap (λ cs. names_in cs ++ name_of b ∷ []) e)
    lay_next (x ∷ []) k t e lt =
        let size : x.size ≡ 1024 = t.0.0 in
        let sum : words_sum m (names_in x.cells) ≡ words_in x.cells = t.0.1 in
        let over : chunk_words < words_sum m (names_in x.cells) + words_at m (name_of b) = omega (arith, size, sum, lt, words) in
        ap (λ ns. names_in x.cells ∷ ns ∷ []) (names-push k.cells c b mark ∙ ap (λ cs. names_in cs ++ name_of b ∷ []) e)
        ∙ sym (cond-false (nat_le (words_sum m (names_in x.cells) + words_at m (name_of b)) chunk_words) ((names_in x.cells ++ name_of b ∷ []) ∷ []) (names_in x.cells ∷ (name_of b ∷ []) ∷ []) (lt-leb (words_sum m (names_in x.cells) + words_at m (name_of b)) chunk_words over))
    lay_next (x ∷ (z ∷ rest)) k t e lt = ap (λ zs. names_in x.cells ∷ zs) (lay_next (z ∷ rest) k t.1 e lt)

    told_push : (ks : List ChunkValue) (k : ChunkValue) → Told ks → k.cells ≡ [] → k.size ≡ 1024 → Told (ks ++ k ∷ [])
    told_push [] k t e s = ((s, subst (λ cs. words_sum m (names_in cs) ≡ words_in cs) (sym e) refl), tt)
    told_push (x ∷ ks) k t e s = (t.0, told_push ks k t.1 e s)

    lay_open : (laid spare : List ChunkValue) → Told laid → AreNew spare → room_in laid < size_of c → size_of c ≤ room_in (open_next laid spare).laid
        → (lists_of (placed_behind (open_next laid spare).laid c) ≡ lay m (lists_of laid) (name_of b)) × Told (open_next laid spare).laid
    lay_open laid [] t n lt le = absurd (omega (arith, lt, le))
    lay_open laid (k ∷ ks) t n lt le = (lay_next laid k t n.0.0 lt, told_push laid k t n.0.0 n.0.1)

    lay_by : (y : Laying) (v : Bool) → nat_lt (room_in y.laid) (size_of c) ≡ v → Told y.laid → AreNew y.spare → size_of c ≤ room_in (cond v (open_next y.laid y.spare) y).laid
        → (lists_of (placed_behind (cond v (open_next y.laid y.spare) y).laid c) ≡ lay m (lists_of y.laid) (name_of b)) × Told (cond v (open_next y.laid y.spare) y).laid
    lay_by y true e t n le = lay_open y.laid y.spare t n (ltb-true (room_in y.laid) (size_of c) e) le
    lay_by y false e t n le = (lay_here y.laid t (some_room y.laid c le) le, t)

    lay_one : (y : Laying) → Told y.laid → AreNew y.spare → ObjectFits y (size_of c) → (lists_of (laid_one y c).laid ≡ lay m (lists_of y.laid) (name_of b)) × Told (laid_one y c).laid
    lay_one y t n room =
        let r = lay_by y (nat_lt (room_in y.laid) (size_of c)) refl t n room.0 in
        (r.0, told_placed (opened y (size_of c)).laid r.1)

  -- all of them, one after another
  pub lay_all : (h : List ChunkValue) (zs : List Survivor) (y : Laying) → Told y.laid → AreNew y.spare → HaveRoom y h (olds zs)
      → ((s : Survivor) → In zs s → ((cell_of h s.old).mark ≡ Born s.birth) × (words_at m (birth_name s) ≡ size_of (cell_of h s.old)))
      → (lists_of (laid_all y h (olds zs)).laid ≡ laid_onto m (lists_of y.laid) (map birth_name zs)) × Told (laid_all y h (olds zs)).laid
  lay_all h [] y t n room f = (refl, t)
  lay_all h (s ∷ zs) y t n room f =
      let c : Cell = cell_of h s.old in
      let one = lay_one (cell_of h s.old) s.birth (f s (inl refl)).0 (f s (inl refl)).1 y t n room.0 in
      let rest = lay_all h zs (laid_one y (cell_of h s.old)) one.1 (opened_new y (nat_lt (room_in y.laid) (size_of (cell_of h s.old))) n) room.1 (λ x i. f x (inr i)) in
      (rest.0 ∙ ap (λ lists. laid_onto m lists (map birth_name zs)) one.0, rest.1)

  -- the words left in the last chunk
  pub room_told : (ks : List ChunkValue) → Told ks → room_behind m (lists_of ks) ≡ room_in ks
  room_told [] t = refl
  room_told (k ∷ []) t = let size : k.size ≡ 1024 = t.0.0 in let sum : words_sum m (names_in k.cells) ≡ words_in k.cells = t.0.1 in omega (arith, size, sum)
  room_told (k ∷ (l ∷ ks)) t = room_told (l ∷ ks) t.1

  pub told_small : (ks : List ChunkValue) → Told ks → small_lists ks ≡ lists_of ks
  told_small [] t = refl
  told_small (k ∷ ks) t = cond-true (k.size == 1024) (names_in k.cells ∷ small_lists ks) (small_lists ks) (eq-eqb k.size 1024 t.0.0) ∙ ap (λ zs. names_in k.cells ∷ zs) (told_small ks t.1)

  pub told_large : (ks : List ChunkValue) → Told ks → large_names ks ≡ []
  told_large [] t = refl
  told_large (k ∷ ks) t = cond-true (k.size == 1024) (large_names ks) (names_in k.cells ++ large_names ks) (eq-eqb k.size 1024 t.0.0) ∙ told_large ks t.1

-- ---- REFERENCES UPDATED

module _ (f : Option Addr → Option Addr) where
  pub names_led : (cs : List Cell) → names_in (map (led_cell f) cs) ≡ names_in cs
  names_led [] = refl
  names_led (c ∷ cs) = ap (named_by c.mark) (names_led cs)

  pub lists_led : (ks : List ChunkValue) → lists_of (map (led_chunk f) ks) ≡ lists_of ks
  lists_led [] = refl
  lists_led (k ∷ ks) = ap (λ zs. names_in (map (led_cell f) k.cells) ∷ zs) (lists_led ks) ∙ ap (λ ns. ns ∷ lists_of ks) (names_led k.cells)

  pub told_led : (m : MachineState) (ks : List ChunkValue) → Told m ks → Told m (map (led_chunk f) ks)
  told_led m [] t = tt
  told_led m (k ∷ ks) t = ((t.0.0, ap (words_sum m) (names_led k.cells) ∙ (t.0.1 ∙ sym (used_led f k.cells))), told_led m ks t.1)

-- ---- LISTS TOGETHER

pub small_both : (ks js : List ChunkValue) → small_lists (ks ++ js) ≡ small_lists ks ++ small_lists js
small_both [] js = refl
small_both (k ∷ ks) js = small_both_by_cases (k.size == 1024) (small_both ks js)
  where
    small_both_by_cases : (b : Bool) → small_lists (ks ++ js) ≡ small_lists ks ++ small_lists js → cond b (names_in k.cells ∷ small_lists (ks ++ js)) (small_lists (ks ++ js)) ≡ cond b (names_in k.cells ∷ small_lists ks) (small_lists ks) ++ small_lists js
    small_both_by_cases true e = ap (λ zs. names_in k.cells ∷ zs) e
    small_both_by_cases false e = e

pub none_small : (ks : List ChunkValue) → ((k : ChunkValue) → In ks k → k.size ≡ 1024 → ⊥) → small_lists ks ≡ []
none_small [] f = refl
none_small (k ∷ ks) f = cond-false (k.size == 1024) (names_in k.cells ∷ small_lists ks) (small_lists ks) (ne_eqb k.size 1024 (f k (inl refl))) ∙ none_small ks (λ j i. f j (inr i))

-- the room of the last of the first chunks
pub room_last : (ks js : List ChunkValue) → room_at (ks ++ js) (last_place ks) ≡ room_in ks
room_last [] js = refl
room_last (k ∷ ks) js = along k ks
  where
    along : (k : ChunkValue) (ks : List ChunkValue) → room_at ((k ∷ ks) ++ js) (Some (length ks)) ≡ room_in (k ∷ ks)
    along k [] = refl
    along k (l ∷ ks) = along l ks
