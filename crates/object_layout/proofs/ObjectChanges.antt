-- How changes of cells change the objects that are read from them: an object appended, a field written, a sweep,
-- references updated.
use Rattle.std.proofs.Common.{eq-eqb, ne_eqb}
use Rattle.object_layout.proofs.Common.{◌≡◌, ℕ, zero, suc, ◌+◌, ◌-◌, ◌<◌, ◌≤◌, ◌==◌, ◌&&◌, arith, Bool, true, false, cond, Option, List, [], ◌∷◌, ◌++◌, length, map, filter, nat_le, inl, inr, refl, ap, ap₂, sym, ◌∙◌, cond-true, cond-false, eqb-true, leb-true, leb-false, false≢true, length-map, In, Addr, Birth, Born, Cell, Hole, Mark, Moved, no_cell, size_of, ChunkValue, cell_of, put_object, with_cell, cell_at, put_cell, words_in, Located, changed_at, led_cell, led_object, located, located_by, objects_from, objects_of, sifted_cells, swept_cell, with_fields, AppendedIsLast, LedAreRead, PutChangesOne, SiftedAreFiltered}
use Rattle.object_layout.proofs.Owning.{fresh_none}
use Rattle.object_layout.proofs.ObjectLemmas.{has_own}

-- ---- an object appended

along_append : (number at : ℕ) (c : Cell) (m : Mark) (xs ys : List Located) → located_by number at c m (xs ++ ys) ≡ located_by number at c m xs ++ ys
along_append number at c (Born b) xs ys = refl
along_append number at c (Moved to) xs ys = refl
along_append number at c Hole xs ys = refl

pub objects_appended : (cs : List Cell) (number base : ℕ) (c : Cell) → objects_from number base (cs ++ c ∷ []) ≡ objects_from number base cs ++ located_by number (base + words_in cs) c c.mark []
objects_appended [] number base c = ap (λ n. located_by number n c c.mark []) (let e : base ≡ base + 0 = omega arith in e)
objects_appended (d ∷ cs) number base c =
    ap (located_by number base d d.mark) (objects_appended cs number (base + size_of d) c ∙ ap (λ n. objects_from number (base + size_of d) cs ++ located_by number n c c.mark []) (let e : base + size_of d + words_in cs ≡ base + (size_of d + words_in cs) = omega arith in e))
    ∙ along_append number base d d.mark (objects_from number (base + size_of d) cs) (located_by number (base + (size_of d + words_in cs)) c c.mark [])

pub appended_is_last : AppendedIsLast
appended_is_last k c b e =
    objects_appended k.cells k.number 0 c
    ∙ (ap (λ m. objects_of k ++ located_by k.number (0 + words_in k.cells) c m []) e
    ∙ ap (λ n. objects_of k ++ located k.number n b c ∷ []) (let z : 0 + words_in k.cells ≡ words_in k.cells = omega arith in z))

-- ---- a field is written

abbrev at_place : ℕ → ℕ → Addr
at_place number offset = record { chunk = number; offset = offset }

off_by : (v : Bool) (x y : ℕ) → (x ≡ y → ⊥) → (v && (x == y)) ≡ false
off_by true x y ne = ne_eqb x y ne
off_by false x y ne = refl

miss : (a : Addr) (d : Cell) (number at : ℕ) (b : Birth) (c : Cell) → (at ≡ a.offset → ⊥) → changed_at a d (located number at b c) ≡ located number at b c
miss a d number at b c ne = cond-false ((number == a.chunk) && (at == a.offset)) (with_fields d (located number at b c)) (located number at b c) (off_by (number == a.chunk) at a.offset ne)

miss_by : (a : Addr) (d : Cell) (number at : ℕ) (c : Cell) (m : Mark) (os : List Located) → (at ≡ a.offset → ⊥) → map (changed_at a d) (located_by number at c m os) ≡ located_by number at c m (map (changed_at a d) os)
miss_by a d number at c (Born b) os ne = ap (λ x. x ∷ map (changed_at a d) os) (miss a d number at b c ne)
miss_by a d number at c (Moved to) os ne = refl
miss_by a d number at c Hole os ne = refl

-- after the position nothing changes
far : (a : Addr) (d : Cell) (number base : ℕ) (cs : List Cell) → a.offset < base → map (changed_at a d) (objects_from number base cs) ≡ objects_from number base cs
far a d number base [] lt = refl
far a d number base (c ∷ cs) lt =
    miss_by a d number base c c.mark (objects_from number (base + size_of c) cs) (λ e. omega (arith, e, lt))
    ∙ ap (located_by number base c c.mark) (far a d number (base + size_of c) cs (omega (arith, lt)))

hit_by : (number base : ℕ) (a : Addr) (c d : Cell) (m : Mark) (os : List Located) → a ≡ at_place number base → map (changed_at a d) (located_by number base c m os) ≡ located_by number base d m (map (changed_at a d) os)
hit_by number base a c d (Born b) os e =
    ap (λ x. x ∷ map (changed_at a d) os)
    (cond-true ((number == a.chunk) && (base == a.offset)) (with_fields d (located number base b c)) (located number base b c)
    (ap₂ (λ x y. x && y) (eq-eqb number a.chunk (ap (λ (z : Addr). z.chunk) (sym e))) (eq-eqb base a.offset (ap (λ (z : Addr). z.offset) (sym e)))))
hit_by number base a c d (Moved to) os e = refl
hit_by number base a c d Hole os e = refl

-- a cell of the same mark and size is put: the object there gets its fields
put_changes : (cs : List Cell) (number base off : ℕ) (a : Addr) (d : Cell) → a ≡ at_place number (base + off) → (cell_at cs off).mark ≡ d.mark → size_of (cell_at cs off) ≡ size_of d
    → objects_from number base (put_cell cs off d) ≡ map (changed_at a d) (objects_from number base cs)
put_changes [] number base off a d ea em es = refl
put_changes (c ∷ cs) number base zero a d ea em es =
    let e : a ≡ at_place number base = ea ∙ ap (at_place number) (let q : base + 0 ≡ base = omega arith in q) in
    let o : a.offset ≡ base = ap (λ (z : Addr). z.offset) e in
    sym (hit_by number base a c d c.mark (objects_from number (base + size_of c) cs) e
    ∙ (ap (located_by number base d c.mark) (far a d number (base + size_of c) cs (omega (arith, o)) ∙ ap (λ n. objects_from number (base + n) cs) es)
    ∙ ap (λ m. located_by number base d m (objects_from number (base + size_of d) cs)) em))
put_changes (c ∷ cs) number base (suc n) a d ea em es =
    ap (located_by number base c c.mark) (put_changes_by_cases (nat_le (size_of c) (suc n)) refl (put_changes cs number (base + size_of c) (suc n - size_of c) a d) em es)
    ∙ sym (miss_by a d number base c c.mark (objects_from number (base + size_of c) cs) (λ e. omega (arith, e, o)))
  where
    o : a.offset ≡ base + suc n
    o = ap (λ (z : Addr). z.offset) ea

    put_changes_by_cases : (v : Bool) → nat_le (size_of c) (suc n) ≡ v
        → (a ≡ at_place number (base + size_of c + (suc n - size_of c)) → (cell_at cs (suc n - size_of c)).mark ≡ d.mark → size_of (cell_at cs (suc n - size_of c)) ≡ size_of d
        → objects_from number (base + size_of c) (put_cell cs (suc n - size_of c) d) ≡ map (changed_at a d) (objects_from number (base + size_of c) cs))
        → (cond v (cell_at cs (suc n - size_of c)) no_cell).mark ≡ d.mark → size_of (cond v (cell_at cs (suc n - size_of c)) no_cell) ≡ size_of d
        → objects_from number (base + size_of c) (cond v (put_cell cs (suc n - size_of c) d) cs) ≡ map (changed_at a d) (objects_from number (base + size_of c) cs)
    put_changes_by_cases true q go m z =
        let le : size_of c ≤ suc n = leb-true (size_of c) (suc n) q in
        go (ea ∙ ap (at_place number) (let r : base + suc n ≡ base + size_of c + (suc n - size_of c) = omega (arith, le) in r)) m z
    put_changes_by_cases false q go m z =
        let lt : suc n < size_of c = leb-false (size_of c) (suc n) q in
        sym (far a d number (base + size_of c) cs (omega (arith, o, lt)))

-- in a chunk of another number nothing changes
other : (a : Addr) (d : Cell) (number base : ℕ) (cs : List Cell) → (number ≡ a.chunk → ⊥) → map (changed_at a d) (objects_from number base cs) ≡ objects_from number base cs
other a d number base [] ne = refl
other a d number base (c ∷ cs) ne = other_by_cases c.mark (other a d number (base + size_of c) cs ne)
  where
    other_by_cases : (m : Mark) → map (changed_at a d) (objects_from number (base + size_of c) cs) ≡ objects_from number (base + size_of c) cs
        → map (changed_at a d) (located_by number base c m (objects_from number (base + size_of c) cs)) ≡ located_by number base c m (objects_from number (base + size_of c) cs)
    other_by_cases (Born b) ih =
        ap₂ (λ x xs. x ∷ xs)
        (cond-false ((number == a.chunk) && (base == a.offset)) (with_fields d (located number base b c)) (located number base b c) (ap (λ v. v && (base == a.offset)) (ne_eqb number a.chunk ne))) ih
    other_by_cases (Moved to) ih = ih
    other_by_cases Hole ih = ih

others : (ks : List ChunkValue) (a : Addr) (d : Cell) (n : ℕ) → n ≡ a.chunk → ((k : ChunkValue) → In ks k → k.number ≡ n → ⊥) → map (map (changed_at a d)) (map objects_of ks) ≡ map objects_of ks
others [] a d n e off = refl
others (k ∷ ks) a d n e off = ap₂ (λ x xs. x ∷ xs) (other a d k.number 0 k.cells (λ q. off k (inl refl) (q ∙ sym e))) (others ks a d n e (λ x i. off x (inr i)))

pub put_changes_one : PutChangesOne
put_changes_one [] a d A em es = refl
put_changes_one (k ∷ ks) a d A em es = put_changes_one_by_cases (k.number == a.chunk) refl em es (put_changes_one ks a d A.1)
  where
    put_changes_one_here : k.number ≡ a.chunk → a ≡ at_place k.number (0 + a.offset)
    put_changes_one_here e = ap (λ n. at_place n a.offset) (sym e) ∙ ap (at_place k.number) (let z : a.offset ≡ 0 + a.offset = omega arith in z)

    none : (x : ChunkValue) → In ks x → x.number ≡ k.number → ⊥
    none x i e = false≢true (sym ((fresh_none ks k.number).0 A.0) ∙ has_own ks x k.number i e)

    put_changes_one_by_cases : (v : Bool) → (k.number == a.chunk) ≡ v → (cond v (cell_at k.cells a.offset) (cell_of ks a)).mark ≡ d.mark → size_of (cond v (cell_at k.cells a.offset) (cell_of ks a)) ≡ size_of d
        → ((cell_of ks a).mark ≡ d.mark → size_of (cell_of ks a) ≡ size_of d → map objects_of (put_object ks a d) ≡ map (map (changed_at a d)) (map objects_of ks))
        → map objects_of (cond v (with_cell k a.offset d ∷ ks) (k ∷ put_object ks a d)) ≡ map (map (changed_at a d)) (map objects_of (k ∷ ks))
    put_changes_one_by_cases true q m z go =
        let e : k.number ≡ a.chunk = eqb-true k.number a.chunk q in
        ap₂ (λ x xs. x ∷ xs) (put_changes k.cells k.number 0 a.offset a d (put_changes_one_here e) m z) (sym (others ks a d k.number e none))
    put_changes_one_by_cases false q m z go = ap₂ (λ x xs. x ∷ xs) (sym (other a d k.number 0 k.cells (λ e. false≢true (sym q ∙ eq-eqb k.number a.chunk e)))) (go m z)

-- ---- a sweep

sifted_kept : (keep : Addr → Bool) (cs : List Cell) (number base : ℕ) → objects_from number base (sifted_cells keep number base cs) ≡ filter (λ o. keep o.at) (objects_from number base cs)
sifted_kept keep [] number base = refl
sifted_kept keep (c ∷ cs) number base = sifted_kept_by_cases (keep (at_place number base)) refl c.mark refl (sifted_kept keep cs number (base + size_of c))
  where
    sifted_kept_by_cases : (v : Bool) → keep (at_place number base) ≡ v → (m : Mark) → c.mark ≡ m
        → objects_from number (base + size_of c) (sifted_cells keep number (base + size_of c) cs) ≡ filter (λ o. keep o.at) (objects_from number (base + size_of c) cs)
        → objects_from number base (swept_cell v c ∷ sifted_cells keep number (base + size_of c) cs) ≡ filter (λ o. keep o.at) (located_by number base c m (objects_from number (base + size_of c) cs))
    sifted_kept_by_cases true q (Born b) e ih =
        ap (λ m. located_by number base c m (objects_from number (base + size_of c) (sifted_cells keep number (base + size_of c) cs))) e
        ∙ (ap (λ os. located number base b c ∷ os) ih
        ∙ sym (cond-true (keep (at_place number base)) (located number base b c ∷ filter (λ o. keep o.at) (objects_from number (base + size_of c) cs)) (filter (λ o. keep o.at) (objects_from number (base + size_of c) cs)) q))
    sifted_kept_by_cases false q (Born b) e ih =
        ih ∙ sym (cond-false (keep (at_place number base)) (located number base b c ∷ filter (λ o. keep o.at) (objects_from number (base + size_of c) cs)) (filter (λ o. keep o.at) (objects_from number (base + size_of c) cs)) q)
    sifted_kept_by_cases true q (Moved to) e ih = ap (λ m. located_by number base c m (objects_from number (base + size_of c) (sifted_cells keep number (base + size_of c) cs))) e ∙ ih
    sifted_kept_by_cases false q (Moved to) e ih = ih
    sifted_kept_by_cases true q Hole e ih = ap (λ m. located_by number base c m (objects_from number (base + size_of c) (sifted_cells keep number (base + size_of c) cs))) e ∙ ih
    sifted_kept_by_cases false q Hole e ih = ih

pub sifted_are_filtered : SiftedAreFiltered
sifted_are_filtered keep k = sifted_kept keep k.cells k.number 0

-- ---- references are updated

led_read : (f : Option Addr → Option Addr) (cs : List Cell) (number base : ℕ) → objects_from number base (map (led_cell f) cs) ≡ map (led_object f) (objects_from number base cs)
led_read f [] number base = refl
led_read f (c ∷ cs) number base =
    ap (λ n. located_by number base (led_cell f c) c.mark (objects_from number (base + (2 + (n + length c.ints))) (map (led_cell f) cs))) (length-map c.refs f)
    ∙ (ap (located_by number base (led_cell f c) c.mark) (led_read f cs number (base + size_of c)) ∙ along c.mark (objects_from number (base + size_of c) cs))
  where
    along : (m : Mark) (os : List Located) → located_by number base (led_cell f c) m (map (led_object f) os) ≡ map (led_object f) (located_by number base c m os)
    along (Born b) os = refl
    along (Moved to) os = refl
    along Hole os = refl

pub led_are_read : LedAreRead
led_are_read f k = led_read f k.cells k.number 0
