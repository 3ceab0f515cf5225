-- The references of the large survivors, updated one object after another; and what keeps the shape of a heap.
use Rattle.copying_gc.proofs.Common.{◌≡◌, Bool, true, false, cond, List, [], ◌∷◌, fold, refl, sym, ap, ◌∙◌, subst, inl, inr, eqb, Option, get_or, nat_le, cases_Bool, false≢true, Addr, Cell, IsObject, size_of, ChunkValue, cell_of, put_object, Once, map-put_cell, In, contains_from_in, in_map, HaveSameShape, Survivor, olds, old_of, IsTarget, is_moved, followed_ref, followed_at, followed_large, led_cell, HasTargets, CanBeFollowed}
use Rattle.object_layout.proofs.ChunkLaws as laws
use Rattle.copying_gc.proofs.FollowLemmas as follows

-- ---- shape

pub alike_itself : (h : List ChunkValue) → HaveSameShape h h
alike_itself [] = tt
alike_itself (k ∷ ks) = ((refl, refl, refl), alike_itself ks)

pub alike_then : (h g e : List ChunkValue) → HaveSameShape h g → HaveSameShape g e → HaveSameShape h e
alike_then [] [] [] a b = tt
alike_then [] [] (z ∷ e) a b = b
alike_then [] (y ∷ g) e a b = absurd a
alike_then (x ∷ h) [] e a b = absurd a
alike_then (x ∷ h) (y ∷ g) [] a b = b
alike_then (x ∷ h) (y ∷ g) (z ∷ e) a b = ((b.0.0 ∙ a.0.0, b.0.1 ∙ a.0.1, b.0.2 ∙ a.0.2), alike_then h g e a.1 b.1)

pub alike_put : (h : List ChunkValue) (x : Addr) (c : Cell) → size_of c ≡ size_of (cell_of h x) → HaveSameShape h (put_object h x c)
alike_put [] x c s = tt
alike_put (k ∷ ks) x c s =
    elim (cases_Bool (eqb k.number x.chunk)) [
      | inl e ↦ rw e ((refl, refl, map-put_cell size_of k.cells x.offset c (rw e at s)), alike_itself ks)
      | inr e ↦ rw e ((refl, refl, refl), alike_put ks x c (rw e at s))
    ]

-- ---- one object after another

large_at : (g : List ChunkValue) (s : Survivor) (a : Addr) (b : Bool) → (s.old ≡ a → ⊥) → cell_of (cond b g (followed_at g s.old)) a ≡ cell_of g a
large_at g s a true n = refl
large_at g s a false n = laws.cell_of-put_other g s.old a (led_cell (followed_ref g) (cell_of g s.old)) (follows.size_led (followed_ref g) (cell_of g s.old)) (λ e. n (sym e))

pub larges_other : (g : List ChunkValue) (ss : List Survivor) (a : Addr) → (In (olds ss) a → ⊥) → cell_of (fold followed_large g ss) a ≡ cell_of g a
larges_other g [] a n = refl
larges_other g (s ∷ ss) a n = larges_other (followed_large g s) ss a (λ i. n (inr i)) ∙ large_at g s a (is_moved g s.old) (λ e. n (inl e))

target_at : (g : List ChunkValue) (s : Survivor) (b : Bool) (r : Option Addr) → IsTarget g r → IsTarget (cond b g (followed_at g s.old)) r
target_at g s true r t = t
target_at g s false r t = follows.target_put g s.old (led_cell (followed_ref g) (cell_of g s.old)) refl (follows.size_led (followed_ref g) (cell_of g s.old)) r t

followed_at_same : (g : List ChunkValue) (s : Survivor) (b : Bool) (r : Option Addr) → followed_ref (cond b g (followed_at g s.old)) r ≡ followed_ref g r
followed_at_same g s true r = refl
followed_at_same g s false r = follows.followed_ref_put g s.old (led_cell (followed_ref g) (cell_of g s.old)) refl (follows.size_led (followed_ref g) (cell_of g s.old)) r

alike_at : (g : List ChunkValue) (s : Survivor) (b : Bool) → HaveSameShape g (cond b g (followed_at g s.old))
alike_at g s true = alike_itself g
alike_at g s false = alike_put g s.old (led_cell (followed_ref g) (cell_of g s.old)) (follows.size_led (followed_ref g) (cell_of g s.old))

pub alike_larges : (g : List ChunkValue) (ss : List Survivor) → HaveSameShape g (fold followed_large g ss)
alike_larges g [] = alike_itself g
alike_larges g (s ∷ ss) = alike_then g (followed_large g s) (fold followed_large (followed_large g s) ss) (alike_at g s (is_moved g s.old)) (alike_larges (followed_large g s) ss)

not_again : (s : Survivor) (ss : List Survivor) → Once (olds (s ∷ ss)) → (t : Survivor) → In ss t → s.old ≡ t.old → ⊥
not_again s ss o t i e = o.0 (contains_from_in (olds ss) s.old (subst (In (olds ss)) (sym e) (in_map old_of ss t i)))

targets_after : (g : List ChunkValue) (s : Survivor) (c : Cell) → HasTargets g c → HasTargets (followed_large g s) c
targets_after g s c t = (t.0, λ k d l. target_at g s (is_moved g s.old) (get_or c.refs k d) (t.1 k d l))

pub can_follow : (g : List ChunkValue) (ss : List Survivor) → Once (olds ss) → ((s : Survivor) → In ss s → HasTargets g (cell_of g s.old)) → CanBeFollowed g ss
can_follow g [] o t = tt
can_follow g (s ∷ ss) o t = (
  t s (inl refl),
  can_follow (followed_large g s) ss o.1 (λ u i. subst (HasTargets (followed_large g s)) (sym (large_at g s u.old (is_moved g s.old) (not_again s ss o u i))) (targets_after g s (cell_of g u.old) (t u (inr i)))),
)

large_here : (g : List ChunkValue) (a : Addr) (f : Option Addr → Option Addr) → IsObject (cell_of g a).mark → ((r : Option Addr) → followed_ref g r ≡ f r) → (b : Bool) → b ≡ false → cell_of (cond b g (followed_at g a)) a ≡ led_cell f (cell_of g a)
large_here g a f o same true e = absurd (false≢true (sym e))
large_here g a f o same false e = laws.cell_of-put_same g a (led_cell (followed_ref g) (cell_of g a)) o ∙ ap (λ (w : Option Addr → Option Addr). led_cell w (cell_of g a)) (λ i r. same r i)

-- a large survivor's references are updated by the addresses in the old heap
pub larges_led : (g : List ChunkValue) (ss : List Survivor) (f : Option Addr → Option Addr) → Once (olds ss) → ((r : Option Addr) → followed_ref g r ≡ f r)
    → (a : Addr) → In (olds ss) a → IsObject (cell_of g a).mark → is_moved g a ≡ false → cell_of (fold followed_large g ss) a ≡ led_cell f (cell_of g a)
larges_led g [] f o same a i ob l = absurd i
larges_led g (s ∷ ss) f o same a i ob l =
    elim (laws.addr_cases s.old a) [
      | inl e ↦
          let rest : In (olds ss) a → ⊥ = λ j. o.0 (contains_from_in (olds ss) s.old (subst (In (olds ss)) (sym e) j)) in
          larges_other (followed_large g s) ss a rest
          ∙ subst (λ (y : Addr). cell_of (cond (is_moved g y) g (followed_at g y)) a ≡ led_cell f (cell_of g a)) (sym e) (large_here g a f ob same (is_moved g a) l)
      | inr n ↦
          let j : In (olds ss) a = elim i [ inl e ↦ absurd (n e) | inr z ↦ z ] in
          let here : cell_of (followed_large g s) a ≡ cell_of g a = large_at g s a (is_moved g s.old) n in
          larges_led (followed_large g s) ss f o.1 (λ r. followed_at_same g s (is_moved g s.old) r ∙ same r) a j
          (subst (λ (c : Cell). IsObject c.mark) (sym here) ob) (ap (λ (c : Cell). nat_le (size_of c) 1024) here ∙ l)
          ∙ ap (led_cell f) here
    ]
