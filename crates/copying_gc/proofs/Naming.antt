-- Large survivors get their names back, and the heap is as specified.
use Rattle.copying_gc.proofs.Common.{◌≡◌, ℕ, zero, suc, ◌<◌, ◌≤◌, Bool, true, false, cond, List, [], ◌∷◌, ◌++◌, length, map, filter, fold, refl, sym, ap, ◌∙◌, subst, arith, inl, inr, ◌⊎◌, Option, Some, None, is_some, nat_le, remove, not, list_any, cases_lt, false≢true, and_parts, le-leb, lt-ltb, Addr, Birth, Cell, Mark, Born, Moved, IsBorn, IsObject, no_cell, size_of, with_mark, ChunkValue, number_of, cell_at, cell_of, chunk_at, chunk_position, place_in, put_object, HasObjectAt, Once, same_address, AreTidy, IsTidy, none_there, In, contains_from_in, in_from_kept, in_append_cases, in_map, map_in, read_in, length-put, place_of-put, chunk_there, HaveSameShape, numbers, Distinct, Survivor, olds, old_of, HaveNames, led_cell, led_chunk, unreserved, reserved_of, with_birth_name, CanName, keeps}
use Rattle.object_layout.proofs.ChunkLaws as laws
use Rattle.address_laws.proofs.Puts as puts
use Rattle.copying_gc.proofs.Larges as larges
use Rattle.address_laws.proofs.Numbers as nums
use Rattle.copying_gc.proofs.NewNumbers as new_numbers
use Rattle.copying_gc.proofs.NewNumbers.{Within}
use Rattle.address_laws.proofs.Extent as extent
use Rattle.copying_gc.proofs.Rebuilt as rebuilt
use Rattle.copying_gc.proofs.Rebuilt.{first_of, marked_chunk, NoneThere}

-- ---- survivors by their names

pub born : (h : List ChunkValue) (ss : List Survivor) → HaveNames h ss → (s : Survivor) → In ss s → (cell_of h s.old).mark ≡ Born s.birth
born h ss names s i = read_in (λ (x : Survivor). (cell_of h x.old).mark ≡ Born x.birth) ss s i names

pub lives : (h : List ChunkValue) (ss : List Survivor) → HaveNames h ss → (a : Addr) → In (olds ss) a → HasObjectAt h a
lives h ss names a i = let u = map_in old_of ss a i in subst (HasObjectAt h) u.2 (subst IsBorn (sym (born h ss names u.0 u.1)) tt)

-- ---- names, one after another

name_other : (g : List ChunkValue) (s : Survivor) (a : Addr) (b : Bool) → (s.old ≡ a → ⊥) → cell_of (cond b (put_object g s.old (with_mark (cell_of g s.old) (Born s.birth))) g) a ≡ cell_of g a
name_other g s a true n = puts.mark_other g s.old (Born s.birth) a n
name_other g s a false n = refl

place_at : (g : List ChunkValue) (s : Survivor) (n : ℕ) (b : Bool) → chunk_position (cond b (put_object g s.old (with_mark (cell_of g s.old) (Born s.birth))) g) n ≡ chunk_position g n
place_at g s n true = place_of-put g s.old (with_mark (cell_of g s.old) (Born s.birth)) n
place_at g s n false = refl

length_at : (g : List ChunkValue) (s : Survivor) (b : Bool) → length (cond b (put_object g s.old (with_mark (cell_of g s.old) (Born s.birth))) g) ≡ length g
length_at g s true = length-put g s.old (with_mark (cell_of g s.old) (Born s.birth))
length_at g s false = refl

alike_at : (g : List ChunkValue) (s : Survivor) (b : Bool) → HaveSameShape g (cond b (put_object g s.old (with_mark (cell_of g s.old) (Born s.birth))) g)
alike_at g s true = larges.alike_put g s.old (with_mark (cell_of g s.old) (Born s.birth)) refl
alike_at g s false = larges.alike_itself g

place_named : (g : List ChunkValue) (s : Survivor) (n : ℕ) → chunk_position (with_birth_name g s) n ≡ chunk_position g n
place_named g s n = place_at g s n (is_some (place_in g s.old.chunk))

length_named : (g : List ChunkValue) (s : Survivor) → length (with_birth_name g s) ≡ length g
length_named g s = length_at g s (is_some (place_in g s.old.chunk))

pub alike_names : (g : List ChunkValue) (ss : List Survivor) → HaveSameShape g (fold with_birth_name g ss)
alike_names g [] = larges.alike_itself g
alike_names g (s ∷ ss) = larges.alike_then g (with_birth_name g s) (fold with_birth_name (with_birth_name g s) ss) (alike_at g s (is_some (place_in g s.old.chunk))) (alike_names (with_birth_name g s) ss)

pub names_other : (g : List ChunkValue) (ss : List Survivor) (a : Addr) → (In (olds ss) a → ⊥) → cell_of (fold with_birth_name g ss) a ≡ cell_of g a
names_other g [] a n = refl
names_other g (s ∷ ss) a n = names_other (with_birth_name g s) ss a (λ i. n (inr i)) ∙ name_other g s a (is_some (place_in g s.old.chunk)) (λ e. n (inl e))

pub names_nowhere : (g : List ChunkValue) (ss : List Survivor) (a : Addr) → length g ≤ chunk_position g a.chunk → cell_of (fold with_birth_name g ss) a ≡ no_cell
names_nowhere g [] a l = laws.cell_of-none g a l
names_nowhere g (s ∷ ss) a l =
    let p = place_named g s a.chunk in let n = length_named g s in
    names_nowhere (with_birth_name g s) ss a (omega arith)

owned_test : (g : List ChunkValue) (n : ℕ) → chunk_position g n < length g → is_some (place_in g n) ≡ true
owned_test g n l = rw (lt-ltb (chunk_position g n) (length g) l) refl

name_here : (g : List ChunkValue) (s : Survivor) (b : Bool) → b ≡ true → IsObject (cell_of g s.old).mark → cell_of (cond b (put_object g s.old (with_mark (cell_of g s.old) (Born s.birth))) g) s.old ≡ with_mark (cell_of g s.old) (Born s.birth)
name_here g s true e o = laws.cell_of-put_same g s.old (with_mark (cell_of g s.old) (Born s.birth)) o
name_here g s false e o = absurd (false≢true e)

pub names_same : (g : List ChunkValue) (ss : List Survivor) → Once (olds ss) → (s : Survivor) → In ss s → chunk_position g s.old.chunk < length g → IsObject (cell_of g s.old).mark
    → cell_of (fold with_birth_name g ss) s.old ≡ with_mark (cell_of g s.old) (Born s.birth)
names_same g [] o s i l ob = absurd i
names_same g (t ∷ ss) o s (inl e) l ob =
    let rest : In (olds ss) s.old → ⊥ = λ j. o.0 (contains_from_in (olds ss) t.old (subst (λ (x : Survivor). In (olds ss) x.old) (sym e) j)) in
    names_other (with_birth_name g t) ss s.old rest
    ∙ subst (λ (x : Survivor). cell_of (with_birth_name g x) s.old ≡ with_mark (cell_of g s.old) (Born s.birth)) (sym e) (name_here g s (is_some (place_in g s.old.chunk)) (owned_test g s.old.chunk l) ob)
names_same g (t ∷ ss) o s (inr i) l ob =
    let n : t.old ≡ s.old → ⊥ = λ e. o.0 (contains_from_in (olds ss) t.old (subst (In (olds ss)) (sym e) (in_map old_of ss s i))) in
    let there : cell_of (with_birth_name g t) s.old ≡ cell_of g s.old = name_other g t s.old (is_some (place_in g t.old.chunk)) n in
    let p = place_named g t s.old.chunk in let m = length_named g t in
    names_same (with_birth_name g t) ss o.1 s i (omega arith) (subst (λ (c : Cell). IsObject c.mark) (sym there) ob) ∙ ap (λ (c : Cell). with_mark c (Born s.birth)) there

pub can_name : (g : List ChunkValue) (ss : List Survivor) → Once (olds ss) → ((s : Survivor) → In ss s → chunk_position g s.old.chunk < length g → IsObject (cell_of g s.old).mark) → CanName g ss
can_name g [] o t = tt
can_name g (s ∷ ss) o t = (
  (λ e. t s (inl refl) (puts.owned g s.old.chunk e)),
  can_name (with_birth_name g s) ss o.1 (λ u i l.
      let n : s.old ≡ u.old → ⊥ = λ e. o.0 (contains_from_in (olds ss) s.old (subst (In (olds ss)) (sym e) (in_map old_of ss u i))) in
      let there : cell_of (with_birth_name g s) u.old ≡ cell_of g u.old = name_other g s u.old (is_some (place_in g s.old.chunk)) n in
      let p = place_named g s u.old.chunk in let m = length_named g s in
      subst (λ (c : Cell). IsObject c.mark) (sym there) (t u (inr i) (omega arith))),
)

-- ---- the whole

owned_in : (ks : List ChunkValue) (n : ℕ) → chunk_position ks n < length ks → In (numbers ks) n
owned_in ks n l =
    elim (extent.in_numbers (numbers ks) n) [
      | inl i ↦ i
      | inr m ↦ let z = none_there ks n (nums.fresh_from ks n m) in absurd (omega arith)
    ]

pub in_removed : (ks : List ChunkValue) (i : ℕ) (k : ChunkValue) → In (remove ks i) k → In ks k
in_removed [] zero k j = j
in_removed [] (suc i) k j = j
in_removed (x ∷ ks) zero k j = inr j
in_removed (x ∷ ks) (suc i) k (inl e) = inl e
in_removed (x ∷ ks) (suc i) k (inr j) = inr (in_removed ks i k j)

pub in_unreserved : (ks : List ChunkValue) (r : Option ℕ) (k : ChunkValue) → In (unreserved ks r) k → In ks k
in_unreserved ks None k i = i
in_unreserved ks (Some j) k i = in_removed ks j k i

in_append_numbers : (ks ls : List ChunkValue) (n : ℕ) → In (numbers (ks ++ ls)) n → In (numbers ks) n ⊎ In (numbers ls) n
in_append_numbers [] ls n i = inr i
in_append_numbers (k ∷ ks) ls n (inl e) = inl (inl e)
in_append_numbers (k ∷ ks) ls n (inr i) = elim (in_append_numbers ks ls n i) [ inl j ↦ inl (inr j) | inr j ↦ inr j ]

any_in : (ss : List Survivor) (a : Addr) → list_any (λ (s : Survivor). same_address s.old a) ss ≡ true → In (olds ss) a
any_in ss a e = elim (puts.in_or_not (olds ss) a) [ inl i ↦ i | inr n ↦ absurd (false≢true (sym (rebuilt.any_none ss a n) ∙ e)) ]

module _ (h : List ChunkValue) (ss : List Survivor) (f : Option Addr → Option Addr) (r : Option ℕ) (laid : List ChunkValue)
    (tidy : AreTidy h) (d : Distinct (numbers h)) (once : Once (olds ss)) (names : HaveNames h ss)
    (apart : (n : ℕ) → In (numbers laid) n → In (numbers h) n → ⊥) (laid_once : Distinct (numbers laid))
    (within : Within h r) (none : NoneThere h r) where
  abbrev pub Now : List ChunkValue
  Now = laid ++ (map (marked_chunk ss f) (filter (keeps ss) (unreserved h r)) ++ reserved_of h r)

  abbrev pub Goal : List ChunkValue
  Goal = laid ++ (map (led_chunk f) (filter (keeps ss) (unreserved h r)) ++ reserved_of h r)

  lies : (a : Addr) → In (olds ss) a → In (numbers h) a.chunk
  lies a i =
      elim (extent.in_numbers (numbers h) a.chunk) [
        | inl j ↦ j
        | inr n ↦ let z = subst (λ (c : Cell). IsBorn c.mark) (extent.nowhere h a n) (lives h ss names a i) in absurd z
      ]

  kept_in : (k : ChunkValue) → In (filter (keeps ss) (unreserved h r)) k → In h k × (keeps ss k ≡ true)
  kept_in k i = let p = in_from_kept (keeps ss) (unreserved h r) k i in (in_unreserved h r k p.0, p.1)

  kept_once : Distinct (numbers (filter (keeps ss) (unreserved h r)))
  kept_once = nums.distinct_filtered (keeps ss) (unreserved h r) (new_numbers.distinct_unreserved h d r)

  -- a chunk that is kept holds only its large survivor
  kept_alone : (k : ChunkValue) → In h k → keeps ss k ≡ true → (k.cells ≡ cell_at k.cells 0 ∷ []) × In (olds ss) (first_of k)
  kept_alone k i e =
      let both = and_parts (not (nat_le (size_of (cell_at k.cells 0)) 1024)) (list_any (λ (s : Survivor). same_address s.old (first_of k)) ss) e in
      let big : 1024 < size_of (cell_at k.cells 0) = elim (cases_lt 1024 (size_of (cell_at k.cells 0))) [
        | inl b ↦ b
        | inr b ↦ absurd (false≢true (sym (ap not (le-leb (size_of (cell_at k.cells 0)) 1024 b)) ∙ both.0))
      ] in (
        rebuilt.one_cell k.cells (rebuilt.alone_first k (read_in IsTidy h k i tidy) big),
        any_in ss (first_of k) both.1,
      )

  -- it holds no other live object
  first_only : (k : ChunkValue) → In h k → keeps ss k ≡ true → (a : Addr) → k.number ≡ a.chunk → In (olds ss) a → a ≡ first_of k
  first_only k i e a q j = at_first a.offset refl
    where
      at_first : (o : ℕ) → o ≡ a.offset → a ≡ first_of k
      at_first zero z = λ t. record { chunk = sym q t; offset = sym z t }
      at_first (suc n) z =
          let there : cell_of h a ≡ no_cell = extent.chunk_there h k d i a q ∙ (ap (λ (p : ℕ). cell_at k.cells p) (sym z)
          ∙ (ap (λ (cs : List Cell). cell_at cs (suc n)) (kept_alone k i e).0 ∙ extent.alone_cell (cell_at k.cells 0) n)) in
          let dead = subst (λ (c : Cell). IsBorn c.mark) there (lives h ss names a j) in absurd dead

  not_reserved : (a : Addr) → In (olds ss) a → In (numbers (reserved_of h r)) a.chunk → ⊥
  not_reserved a j i = not_reserved_by_cases r within none i
    where
      not_reserved_by_cases : (o : Option ℕ) → Within h o → NoneThere h o → In (numbers (reserved_of h o)) a.chunk → ⊥
      not_reserved_by_cases None w z i = i
      not_reserved_by_cases (Some x) w z (inl e) =
          let there : cell_of h a ≡ no_cell = extent.chunk_there h (chunk_at h x) d (chunk_there h x w) a e ∙ ap (λ (cs : List Cell). cell_at cs a.offset) z in
          let dead = subst (λ (c : Cell). IsBorn c.mark) there (lives h ss names a j) in dead
      not_reserved_by_cases (Some x) w z (inr i) = i

  marked_numbers : numbers (map (marked_chunk ss f) (filter (keeps ss) (unreserved h r))) ≡ numbers (filter (keeps ss) (unreserved h r))
  marked_numbers = nums.numbers_of_map (marked_chunk ss f) (λ k. refl) (filter (keeps ss) (unreserved h r))

  led_numbers : numbers (map (led_chunk f) (filter (keeps ss) (unreserved h r))) ≡ numbers (filter (keeps ss) (unreserved h r))
  led_numbers = nums.numbers_of_map (led_chunk f) (λ k. refl) (filter (keeps ss) (unreserved h r))

  not_laid : (a : Addr) → In (olds ss) a → In (numbers laid) a.chunk → ⊥
  not_laid a j i = apart a.chunk i (lies a j)

  -- a survivor that is in the heap has its chunk
  locate : (a : Addr) → In (olds ss) a → In (numbers Now) a.chunk → (k : ChunkValue) × (In (filter (keeps ss) (unreserved h r)) k × (a ≡ first_of k))
  locate a j i =
      elim (in_append_numbers laid (map (marked_chunk ss f) (filter (keeps ss) (unreserved h r)) ++ reserved_of h r) a.chunk i) [
        | inl x ↦ absurd (not_laid a j x)
        | inr y ↦ elim (in_append_numbers (map (marked_chunk ss f) (filter (keeps ss) (unreserved h r))) (reserved_of h r) a.chunk y) [
          | inl z ↦
              let c = map_in number_of (filter (keeps ss) (unreserved h r)) a.chunk (subst (λ (ns : List ℕ). In ns a.chunk) marked_numbers z) in
              let p = kept_in c.0 c.1 in
              (c.0, (c.1, first_only c.0 p.0 p.1 a c.2 j))
          | inr z ↦ absurd (not_reserved a j z)
        ]
      ]

  module _ (a : Addr) (out : In (numbers laid) a.chunk → ⊥) (k : ChunkValue) (i : In (filter (keeps ss) (unreserved h r)) k) (q : k.number ≡ a.chunk) where
    number_is_kept : In (numbers (filter (keeps ss) (unreserved h r))) a.chunk
    number_is_kept = subst (In (numbers (filter (keeps ss) (unreserved h r)))) q (extent.number_there (filter (keeps ss) (unreserved h r)) k i)

    now_kept : cell_of Now a ≡ cell_at (marked_chunk ss f k).cells a.offset
    now_kept =
        extent.in_second laid (map (marked_chunk ss f) (filter (keeps ss) (unreserved h r)) ++ reserved_of h r) a out
        ∙ (extent.in_first (map (marked_chunk ss f) (filter (keeps ss) (unreserved h r))) (reserved_of h r) a (subst (λ (ns : List ℕ). In ns a.chunk) (sym marked_numbers) number_is_kept)
        ∙ extent.mapped_there (marked_chunk ss f) (λ k. refl) (filter (keeps ss) (unreserved h r)) k kept_once i a q)

    pub goal_kept : cell_of Goal a ≡ cell_at (led_chunk f k).cells a.offset
    goal_kept =
        extent.in_second laid (map (led_chunk f) (filter (keeps ss) (unreserved h r)) ++ reserved_of h r) a out
        ∙ (extent.in_first (map (led_chunk f) (filter (keeps ss) (unreserved h r))) (reserved_of h r) a (subst (λ (ns : List ℕ). In ns a.chunk) (sym led_numbers) number_is_kept)
        ∙ extent.mapped_there (led_chunk f) (λ k. refl) (filter (keeps ss) (unreserved h r)) k kept_once i a q)

  -- a survivor in the heap is marked, with its references updated
  now_marked : (a : Addr) (k : ChunkValue) → In (olds ss) a → In (filter (keeps ss) (unreserved h r)) k → a ≡ first_of k → cell_of Now a ≡ led_cell f (with_mark (cell_at k.cells 0) (Moved (first_of k)))
  now_marked a k j i e =
      let p = kept_in k i in
      now_kept a (not_laid a j) k i (ap (λ (x : Addr). x.chunk) (sym e))
      ∙ (ap (λ (o : ℕ). cell_at (marked_chunk ss f k).cells o) (ap (λ (x : Addr). x.offset) e)
      ∙ ap (λ (cs : List Cell). cell_at (map (λ (c : Cell). led_cell f (with_mark c (Moved (first_of k)))) cs) 0) (kept_alone k p.0 p.1).0)

  pub ready : CanName Now ss
  ready = can_name Now ss once (λ s i l.
      let j = in_map old_of ss s i in
      let k = locate s.old j (owned_in Now s.old.chunk l) in
      subst (λ (c : Cell). IsObject c.mark) (sym (now_marked s.old k.0 j k.1.0 k.1.1)) tt)

  named_cell : (c : Cell) (b : Birth) → c.mark ≡ Born b → led_cell f (with_mark c (Born b)) ≡ led_cell f c
  named_cell c b e = λ i. record { mark = sym e i; mutable = c.mutable; refs = map f c.refs; ints = c.ints }

  elsewhere : (a : Addr) (k : ChunkValue) → In (filter (keeps ss) (unreserved h r)) k → k.number ≡ a.chunk → (In (olds ss) a → ⊥) → (o : ℕ) → o ≡ a.offset
      → cell_at (marked_chunk ss f k).cells a.offset ≡ cell_at (led_chunk f k).cells a.offset
  elsewhere a k i q n zero z =
      let p = kept_in k i in
      let e : first_of k ≡ a = (λ t. record { chunk = q t; offset = z t }) in
      absurd (n (subst (In (olds ss)) e (kept_alone k p.0 p.1).1))
  elsewhere a k i q n (suc m) z =
      let p = kept_in k i in
      let one = (kept_alone k p.0 p.1).0 in
      let mark : Cell → Cell = λ c. led_cell f (with_mark c (Moved (first_of k))) in
      let left : cell_at (map mark k.cells) (suc m) ≡ no_cell = ap (λ (cs : List Cell). cell_at (map mark cs) (suc m)) one ∙ extent.alone_cell (mark (cell_at k.cells 0)) m in
      let right : cell_at (map (led_cell f) k.cells) (suc m) ≡ no_cell = ap (λ (cs : List Cell). cell_at (map (led_cell f) cs) (suc m)) one ∙ extent.alone_cell (led_cell f (cell_at k.cells 0)) m in
      subst (λ (o : ℕ). cell_at (map mark k.cells) o ≡ cell_at (map (led_cell f) k.cells) o) z (left ∙ sym right)

  kept_same : (a : Addr) → (In (numbers laid) a.chunk → ⊥) → (k : ChunkValue) → In (filter (keeps ss) (unreserved h r)) k → k.number ≡ a.chunk → cell_of (fold with_birth_name Now ss) a ≡ cell_of Goal a
  kept_same a out k i q =
      elim (puts.in_or_not (olds ss) a) [
        | inl j ↦
            let p = kept_in k i in
            let e = first_only k p.0 p.1 a q j in
            let u = map_in old_of ss a j in
            let s : Survivor = u.0 in
            let owned : chunk_position Now a.chunk < length Now = elim (cases_lt (chunk_position Now a.chunk) (length Now)) [
              | inl l ↦ l
              | inr l ↦ let z = ap (λ (c : Cell). c.mark) (sym (now_marked a k j i e) ∙ laws.cell_of-none Now a l) in absurd cc
            ] in
            let object : IsObject (cell_of Now a).mark = subst (λ (c : Cell). IsObject c.mark) (sym (now_marked a k j i e)) tt in
            let was : (cell_at k.cells 0).mark ≡ Born s.birth =
            ap (λ (c : Cell). c.mark) (sym (extent.chunk_there h k d p.0 (first_of k) refl) ∙ ap (cell_of h) (sym e)) ∙ (ap (λ (x : Addr). (cell_of h x).mark) (sym u.2) ∙ born h ss names s u.1) in
            let step : cell_of (fold with_birth_name Now ss) a ≡ with_mark (cell_of Now a) (Born s.birth) =
            subst (λ (x : Addr). cell_of (fold with_birth_name Now ss) x ≡ with_mark (cell_of Now x) (Born s.birth)) u.2
            (names_same Now ss once s u.1 (subst (λ (x : Addr). chunk_position Now x.chunk < length Now) (sym u.2) owned) (subst (λ (x : Addr). IsObject (cell_of Now x).mark) (sym u.2) object)) in
            let right : cell_of Goal a ≡ led_cell f (cell_at k.cells 0) =
            goal_kept a out k i q ∙ (ap (λ (o : ℕ). cell_at (led_chunk f k).cells o) (ap (λ (x : Addr). x.offset) e)
            ∙ ap (λ (cs : List Cell). cell_at (map (led_cell f) cs) 0) (kept_alone k p.0 p.1).0) in
            step ∙ (ap (λ (c : Cell). with_mark c (Born s.birth)) (now_marked a k j i e) ∙ (named_cell (cell_at k.cells 0) s.birth was ∙ sym right))
        | inr n ↦ names_other Now ss a n ∙ (now_kept a out k i q ∙ (elsewhere a k i q n a.offset refl ∙ sym (goal_kept a out k i q)))
      ]

  pub same_at : (a : Addr) → cell_of (fold with_birth_name Now ss) a ≡ cell_of Goal a
  same_at a =
      elim (extent.in_numbers (numbers laid) a.chunk) [
        | inl i ↦
            names_other Now ss a (λ j. not_laid a j i)
            ∙ (extent.in_first laid (map (marked_chunk ss f) (filter (keeps ss) (unreserved h r)) ++ reserved_of h r) a i
            ∙ sym (extent.in_first laid (map (led_chunk f) (filter (keeps ss) (unreserved h r)) ++ reserved_of h r) a i))
        | inr out ↦ elim (extent.in_numbers (numbers (filter (keeps ss) (unreserved h r))) a.chunk) [
          | inl i ↦ let c = map_in number_of (filter (keeps ss) (unreserved h r)) a.chunk i in kept_same a out c.0 c.1 c.2
          | inr n ↦
              let now : cell_of Now a ≡ cell_of (reserved_of h r) a =
              extent.in_second laid (map (marked_chunk ss f) (filter (keeps ss) (unreserved h r)) ++ reserved_of h r) a out
              ∙ extent.in_second (map (marked_chunk ss f) (filter (keeps ss) (unreserved h r))) (reserved_of h r) a (λ i. n (subst (λ (ns : List ℕ). In ns a.chunk) marked_numbers i)) in
              let goal : cell_of Goal a ≡ cell_of (reserved_of h r) a =
              extent.in_second laid (map (led_chunk f) (filter (keeps ss) (unreserved h r)) ++ reserved_of h r) a out
              ∙ extent.in_second (map (led_chunk f) (filter (keeps ss) (unreserved h r))) (reserved_of h r) a (λ i. n (subst (λ (ns : List ℕ). In ns a.chunk) led_numbers i)) in
              still a n ∙ (now ∙ sym goal)
        ]
      ]
    where
      still : (b : Addr) → (In (numbers (filter (keeps ss) (unreserved h r))) b.chunk → ⊥) → cell_of (fold with_birth_name Now ss) b ≡ cell_of Now b
      still b n =
          elim (puts.in_or_not (olds ss) b) [
            | inl j ↦ elim (cases_lt (chunk_position Now b.chunk) (length Now)) [
              | inl l ↦
                  let k = locate b j (owned_in Now b.chunk l) in
                  absurd (n (subst (λ (x : Addr). In (numbers (filter (keeps ss) (unreserved h r))) x.chunk) (sym k.1.1) (extent.number_there (filter (keeps ss) (unreserved h r)) k.0 k.1.0)))
              | inr l ↦ names_nowhere Now ss b l ∙ sym (laws.cell_of-none Now b l)
            ]
            | inr m ↦ names_other Now ss b m
          ]

  -- ---- their shapes

  sizes_marked : (cs : List Cell) (m : Mark) → map size_of (map (led_cell f) cs) ≡ map size_of (map (λ (c : Cell). led_cell f (with_mark c m)) cs)
  sizes_marked [] m = refl
  sizes_marked (c ∷ cs) m = ap (λ (ns : List ℕ). size_of (led_cell f c) ∷ ns) (sizes_marked cs m)

  alike_marked : (ks : List ChunkValue) → HaveSameShape (map (marked_chunk ss f) ks) (map (led_chunk f) ks)
  alike_marked [] = tt
  alike_marked (k ∷ ks) = ((refl, refl, sizes_marked k.cells (Moved (first_of k))), alike_marked ks)

  alike_append : (xs ys zs : List ChunkValue) → HaveSameShape xs ys → HaveSameShape (xs ++ zs) (ys ++ zs)
  alike_append [] [] zs a = larges.alike_itself zs
  alike_append [] (y ∷ ys) zs a = absurd a
  alike_append (x ∷ xs) [] zs a = absurd a
  alike_append (x ∷ xs) (y ∷ ys) zs a = (a.0, alike_append xs ys zs a.1)

  alike_behind : (zs xs ys : List ChunkValue) → HaveSameShape xs ys → HaveSameShape (zs ++ xs) (zs ++ ys)
  alike_behind [] xs ys a = a
  alike_behind (z ∷ zs) xs ys a = ((refl, refl, refl), alike_behind zs xs ys a)

  alike_back : (xs ys : List ChunkValue) → HaveSameShape xs ys → HaveSameShape ys xs
  alike_back [] [] a = tt
  alike_back [] (y ∷ ys) a = absurd a
  alike_back (x ∷ xs) [] a = absurd a
  alike_back (x ∷ xs) (y ∷ ys) a = ((sym a.0.0, sym a.0.1, sym a.0.2), alike_back xs ys a.1)

  pub now_once : Distinct (numbers Now)
  now_once =
      let kept = filter (keeps ss) (unreserved h r) in
      let parts : numbers Now ≡ numbers laid ++ (numbers kept ++ numbers (reserved_of h r)) =
      nums.numbers_append laid (map (marked_chunk ss f) kept ++ reserved_of h r)
      ∙ ap (λ (ns : List ℕ). numbers laid ++ ns) (nums.numbers_append (map (marked_chunk ss f) kept) (reserved_of h r) ∙ ap (λ (ns : List ℕ). ns ++ numbers (reserved_of h r)) marked_numbers) in
      subst Distinct (sym parts)
      (nums.distinct_append (numbers laid) (numbers kept ++ numbers (reserved_of h r)) laid_once
      (nums.distinct_append (numbers kept) (numbers (reserved_of h r)) kept_once (new_numbers.distinct_reserved h d r) (λ n i j. new_numbers.reserved_apart h d r within n (nums.in_filtered (keeps ss) (unreserved h r) n i) j))
      (λ n i j. elim (in_append_cases (numbers kept) (numbers (reserved_of h r)) n j) [
        | inl x ↦ apart n i (new_numbers.in_unreserved h d r n (nums.in_filtered (keeps ss) (unreserved h r) n x))
        | inr x ↦ apart n i (new_numbers.in_reserved h d r within n x)
      ]))

  pub goal_once : Distinct (numbers Goal)
  goal_once =
      let kept = filter (keeps ss) (unreserved h r) in
      subst Distinct
      (sym (nums.alike_numbers Now Goal (alike_behind laid (map (marked_chunk ss f) kept ++ reserved_of h r) (map (led_chunk f) kept ++ reserved_of h r)
      (alike_append (map (marked_chunk ss f) kept) (map (led_chunk f) kept) (reserved_of h r) (alike_marked kept)))))
      now_once

  pub named_is_goal : fold with_birth_name Now ss ≡ Goal
  named_is_goal =
      let kept = filter (keeps ss) (unreserved h r) in
      let shape : HaveSameShape (fold with_birth_name Now ss) Goal =
      larges.alike_then (fold with_birth_name Now ss) Now Goal (alike_back Now (fold with_birth_name Now ss) (alike_names Now ss))
      (alike_behind laid (map (marked_chunk ss f) kept ++ reserved_of h r) (map (led_chunk f) kept ++ reserved_of h r)
      (alike_append (map (marked_chunk ss f) kept) (map (led_chunk f) kept) (reserved_of h r) (alike_marked kept))) in
      extent.same_chunks (fold with_birth_name Now ss) Goal shape (subst Distinct (sym (nums.alike_numbers Now (fold with_birth_name Now ss) (alike_names Now ss))) now_once) same_at
