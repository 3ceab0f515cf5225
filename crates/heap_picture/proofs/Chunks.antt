-- The objects of a chunk in order, and the chunk of each object.
use Rattle.heap_picture.proofs.Common.{◌≡◌, ℕ, ◌+◌, ◌*◌, ◌<◌, ◌≤◌, ◌==◌, arith, Bool, true, false, cond, Option, Some, None, List, [], ◌∷◌, map, eqb-true, inl, inr, refl, ap, sym, subst, ◌∙◌, IsDistinct, eq-eqb, false≢true, IsDistinct-head, IsDistinct-tail, each_in, in_map, map_in, Born, Cell, Hole, Mark, Moved, size_of, ChunkValue, Located, located_by, objects_from, state_of, Chunk, In, Memory, objects, in_objects, ParkedTask, chunk_of, chunks_of, IsSharedValue, SharedValue, belongings_in, rest_at, value_of, belongings_chunks, is_state_running, AreAll, Rises, in_words, objects_numbered, objects_of, objects_owned, Picked, ObjectBefore, IsHandedBack, drawn_object}
use Rattle.heap_reading.specs.below.chunk_pool.{owner_of}
use Rattle.heap_picture.proofs.Orders.{rises_map}
use Rattle.heap_picture.proofs.Resting.{H, chunk, near, owner}

-- WITHIN A CHUNK
abbrev Lower : Located → Located → Type 0
Lower o q = o.at.offset < q.at.offset

from_least : (number at : ℕ) (cells : List Cell) (o : Located) → In (objects_from number at cells) o → at ≤ o.at.offset
from_least number at [] o i = absurd i
from_least number at (c ∷ cs) o i = from_least_by_cases c.mark (from_least number (at + size_of c) cs o) i
  where
    from_least_by_cases : (m : Mark) → (In (objects_from number (at + size_of c) cs) o → at + size_of c ≤ o.at.offset) → In (located_by number at c m (objects_from number (at + size_of c) cs)) o → at ≤ o.at.offset
    from_least_by_cases (Born b) go (inl e) = let f : at ≡ o.at.offset = ap (λ (z : Located). z.at.offset) e in omega (arith, f)
    from_least_by_cases (Born b) go (inr j) = let f = go j in omega (arith, f)
    from_least_by_cases (Moved to) go j = let f = go j in omega (arith, f)
    from_least_by_cases Hole go j = let f = go j in omega (arith, f)

from_rises : (number at : ℕ) (cells : List Cell) → Rises Lower (objects_from number at cells)
from_rises number at [] = tt
from_rises number at (c ∷ cs) = from_rises_by_cases c.mark (from_rises number (at + size_of c) cs)
  where
    from_rises_by_cases : (m : Mark) → Rises Lower (objects_from number (at + size_of c) cs) → Rises Lower (located_by number at c m (objects_from number (at + size_of c) cs))
    from_rises_by_cases (Born b) up = ((λ o i. (let f : at + size_of c ≤ o.at.offset = from_least number (at + size_of c) cs o i in omega (arith, f))), up)
    from_rises_by_cases (Moved to) up = up
    from_rises_by_cases Hole up = up

-- BY NUMBER
numbered_rises : (n : ℕ) (ks : List ChunkValue) → Rises Lower (objects_numbered n (chunks_of ks))
numbered_rises n [] = tt
numbered_rises n (k ∷ ks) = numbered_rises_by_cases (k.number == n) (numbered_rises n ks)
  where
    numbered_rises_by_cases : (b : Bool) → Rises Lower (objects_numbered n (chunks_of ks)) → Rises Lower (cond b (chunk_of k).objects (objects_numbered n (chunks_of ks)))
    numbered_rises_by_cases true up = from_rises k.number 0 k.cells
    numbered_rises_by_cases false up = up

numbered_in : (n : ℕ) (ks : List Chunk) (o : Located) → In (objects_numbered n ks) o → (c : Chunk) × In ks c × (c.number ≡ n) × In c.objects o
numbered_in n [] o i = absurd i
numbered_in n (k ∷ ks) o i = numbered_in_by_cases (numbered_in n ks o) (k.number == n) refl i
  where
    numbered_in_by_cases : (In (objects_numbered n ks) o → (c : Chunk) × In ks c × (c.number ≡ n) × In c.objects o) → (b : Bool) → (k.number == n) ≡ b → In (cond b k.objects (objects_numbered n ks)) o → (c : Chunk) × In (k ∷ ks) c × (c.number ≡ n) × In c.objects o
    numbered_in_by_cases go true e j = (k, inl refl, eqb-true k.number n e, j)
    numbered_in_by_cases go false e j = let r = go j in (r.0, inr r.1, r.2, r.3)

in_numbered : (n : ℕ) (ks : List Chunk) (c : Chunk) (o : Located) → IsDistinct (λ a b. a == b) (map (λ (z : Chunk). z.number) ks) → In ks c → c.number ≡ n → In c.objects o → In (objects_numbered n ks) o
in_numbered n [] c o d i e j = absurd i
in_numbered n (k ∷ ks) c o d i e j = in_numbered_by_cases (λ h. in_numbered n ks c o (IsDistinct-tail (λ a b. a == b) k.number (map (λ (z : Chunk). z.number) ks) d) h e j) (k.number == n) refl i
  where
    in_numbered_by_cases : (In ks c → In (objects_numbered n ks) o) → (b : Bool) → (k.number == n) ≡ b → In (k ∷ ks) c → In (cond b k.objects (objects_numbered n ks)) o
    in_numbered_by_cases go true f (inl same) = subst (λ (z : Chunk). In z.objects o) (sym same) j
    in_numbered_by_cases go true f (inr i) =
        let other : (k.number == c.number) ≡ false = each_in (λ b. (k.number == b) ≡ false) (map (λ (z : Chunk). z.number) ks) c.number (IsDistinct-head (λ a b. a == b) k.number (map (λ (z : Chunk). z.number) ks) d) (in_map (λ (z : Chunk). z.number) ks c i) in
        absurd (false≢true (sym other ∙ (ap (λ z. k.number == z) e ∙ f)))
    in_numbered_by_cases go false f (inl same) = absurd (false≢true (sym f ∙ (ap (λ (z : Chunk). z.number == n) same ∙ eq-eqb c.number n e)))
    in_numbered_by_cases go false f (inr i) = go i

-- OF A SHARED VALUE
module _ (w : SharedValue) (I : IsSharedValue w) where
  abbrev v : Memory
  v = value_of w

  numbered_belongings_rise : (n : ℕ) (r : Option ParkedTask) → Rises Lower (objects_numbered n (belongings_in r).chunks)
  numbered_belongings_rise n None = tt
  numbered_belongings_rise n (Some r) = subst (λ ks. Rises Lower (objects_numbered n ks)) (sym (belongings_chunks r)) (numbered_rises n r.heap.chunks)

  of_rises : (n : ℕ) → Rises Lower (objects_of w n)
  of_rises n = of_rises_by_cases (owner_of w.pool n)
    where
      idle : (t : ℕ) (b : Bool) → Rises Lower (cond b [] (objects_numbered n (v.belongings t).chunks))
      idle t true = tt
      idle t false = numbered_belongings_rise n (rest_at w.rests t)

      of_rises_by_cases : (h : Option ℕ) → Rises Lower (objects_owned w n h)
      of_rises_by_cases None = tt
      of_rises_by_cases (Some t) = idle t (is_state_running (state_of w.tree t))

  -- an object reported for a chunk is in a heap at rest, and in that chunk
  pub record IsToldOf (n : ℕ) (o : Located) : Type 0 where
    pub task : ℕ
    pub idle : IsHandedBack w task
    pub here : In (objects v task) o
    pub held : owner_of w.pool n ≡ Some task
    pub chunk : o.at.chunk ≡ n
    pub near : o.at.offset < 1024

  pub told_back : (n : ℕ) (o : Located) → In (objects_of w n) o → IsToldOf n o
  told_back n o i = told_back_by_cases (owner_of w.pool n) refl i
    where
      idle : (t : ℕ) → owner_of w.pool n ≡ Some t → (b : Bool) → is_state_running (state_of w.tree t) ≡ b → In (cond b [] (objects_numbered n (v.belongings t).chunks)) o → IsToldOf n o
      idle t e true f j = absurd j
      idle t e false f j =
          let c = numbered_in n (v.belongings t).chunks o j in
          let here : In (objects v t) o = in_objects (v.belongings t).chunks c.0 o c.1 c.3 in
          record { task = t; idle = f; here = here; held = e; chunk = (H w I t f o here).inside c.0 o c.1 c.3 ∙ c.2; near = near w I t f o here }

      told_back_by_cases : (h : Option ℕ) → owner_of w.pool n ≡ h → In (objects_owned w n h) o → IsToldOf n o
      told_back_by_cases None e j = absurd j
      told_back_by_cases (Some t) e j = idle t e (is_state_running (state_of w.tree t)) refl j

  pub told_there : (t : ℕ) → IsHandedBack w t → (o : Located) → In (objects v t) o → In (objects_of w o.at.chunk) o
  told_there t idle o i =
      let c = chunk w I t idle o i in
      let number : c.0.number ≡ o.at.chunk = sym ((H w I t idle o i).inside c.0 o c.1 c.2) in
      let found : In (objects_numbered o.at.chunk (v.belongings t).chunks) o = in_numbered o.at.chunk (v.belongings t).chunks c.0 o (H w I t idle o i).laid.numbers c.1 number c.2 in
      let one : In (objects_owned w o.at.chunk (Some t)) o = subst (λ b. In (cond b [] (objects_numbered o.at.chunk (v.belongings t).chunks)) o) (sym idle) found in
      subst (λ h. In (objects_owned w o.at.chunk h) o) (sym (owner w I t idle o i)) one

  abbrev pub one : Located → Picked
  one o = drawn_object (in_words o)

  -- all objects of a chunk are drawn in order
  pub told_in_order : (n : ℕ) → AreAll ObjectBefore (λ q. (o : Located) × In (objects_of w n) o × (q ≡ one o)) (map drawn_object (map in_words (objects_of w n)))
  told_in_order n = record {
    rising = rises_map (λ x y. ObjectBefore (drawn_object x) (drawn_object y)) ObjectBefore drawn_object (map in_words (objects_of w n))
        (rises_map Lower (λ x y. ObjectBefore (drawn_object x) (drawn_object y)) in_words (objects_of w n) (of_rises n) up) (λ x y i j b. b);
    each = λ q. (
      (λ i. (let a = map_in drawn_object (map in_words (objects_of w n)) q i in let b = map_in in_words (objects_of w n) a.0 a.1 in (b.0, b.1, sym a.2 ∙ ap drawn_object (sym b.2)))),
      (λ h. subst (In (map drawn_object (map in_words (objects_of w n)))) (sym h.2) (in_map drawn_object (map in_words (objects_of w n)) (in_words h.0) (in_map in_words (objects_of w n) h.0 h.1))),
    );
  }
    where
      up : (o q : Located) → In (objects_of w n) o → In (objects_of w n) q → Lower o q → ObjectBefore (one o) (one q)
      up o q i j lt =
          let a : o.at.chunk ≡ n = (told_back n o i).chunk in
          let b : q.at.chunk ≡ n = (told_back n q j).chunk in
          let f : o.at.chunk * 1024 + o.at.offset + 1 < q.at.chunk * 1024 + q.at.offset + 1 = omega (arith, a, b, lt) in
          f

  -- those of a chunk come before those of a later one
  pub told_apart : (n m : ℕ) (o q : Located) → n < m → In (objects_of w n) o → In (objects_of w m) q → ObjectBefore (one o) (one q)
  told_apart n m o q lt i j =
      let a : o.at.chunk ≡ n = (told_back n o i).chunk in
      let b : q.at.chunk ≡ m = (told_back m q j).chunk in
      let c : o.at.offset < 1024 = (told_back n o i).near in
      let f : o.at.chunk * 1024 + o.at.offset + 1 < q.at.chunk * 1024 + q.at.offset + 1 = omega (arith, a, b, c, lt) in
      f
