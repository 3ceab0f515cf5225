-- Lists of what steps make, of which one item moves to the front.
use Rattle.schedule_laws.proofs.Common.{◌≡◌, ℕ, zero, suc, Option, Some, None, List, [], ◌∷◌, ◌++◌, map, ◌⊎◌, inl, inr, refl, ap, sym, subst, ◌∙◌, arith, same_Some, In, got_in, in_append_cases, in_append_left, in_append_right, in_got, Edge, Precedes, FieldAccess, with_some, Clash, AreOrdered}

-- all of them are those before, this one if there is one, and those after; the rest are the others, renamed
pub record Split {X : Type 0} (to : (ℕ → ℕ) → X → X) (Bad : X → X → Type 0) (f : ℕ → ℕ) (all : List X) (o : Option X) (rest : List X) : Type 0 where
  pub front : List X
  pub back : List X
  pub whole : all ≡ front ++ with_some o back
  pub moved : rest ≡ map (to f) (front ++ back)
  pub free : (a b : X) → In front a → o ≡ Some b → Bad a b → ⊥

some_append : {X : Type 0} (o : Option X) (xs ys : List X) → with_some o (xs ++ ys) ≡ with_some o xs ++ ys
some_append None xs ys = refl
some_append (Some x) xs ys = refl

pub in_some : {X : Type 0} (o : Option X) (xs : List X) (x : X) → In (with_some o xs) x → (o ≡ Some x) ⊎ In xs x
in_some None xs x i = inr i
in_some (Some y) xs x (inl e) = inl (ap Some e)
in_some (Some y) xs x (inr i) = inr i

module _ {X : Type 0} (to : (ℕ → ℕ) → X → X) (Bad : X → X → Type 0) (f h j : ℕ → ℕ) (twice : (a : X) → to h (to f a) ≡ to j a) where
  map_two : (xs : List X) → map (to h) (map (to f) xs) ≡ map (to j) xs
  map_two [] = refl
  map_two (x ∷ xs) = let a = twice x in let b = map_two xs in λ i. a i ∷ b i

  some_fixed : (o : Option X) (xs : List X) → ((a : X) → o ≡ Some a → to j a ≡ a) → with_some o (map (to j) xs) ≡ map (to j) (with_some o xs)
  some_fixed None xs fixed = refl
  some_fixed (Some x) xs fixed = ap (λ w. w ∷ map (to j) xs) (sym (fixed x refl))

  pub split_next : (all rest : List X) (o o1 at : Option X) (rest2 : List X) → Split to Bad f all o1 rest → o1 ≡ o → rest2 ≡ map (to h) rest → ((a : X) → at ≡ Some a → to j a ≡ a)
      → ((a b : X) → at ≡ Some a → o ≡ Some b → Bad a b → ⊥) → Split to Bad j (with_some at all) o (with_some at rest2)
  split_next all rest o o1 at rest2 S same carried fixed free = record {
    front = with_some at S.front;
    back = S.back;
    whole = ap (with_some at) (S.whole ∙ ap (λ w. S.front ++ with_some w S.back) same) ∙ some_append at S.front (with_some o S.back);
    moved =
        ap (with_some at) (carried ∙ (ap (map (to h)) S.moved ∙ map_two (S.front ++ S.back)))
        ∙ (some_fixed at (S.front ++ S.back) fixed ∙ ap (map (to j)) (some_append at S.front S.back));
    free = λ a b i e bad. (elim (in_some at S.front a i) [ inl here ↦ free a b here e bad | inr old ↦ S.free a b old (same ∙ e) bad ]);
  }

-- ORDER

-- of two that clash the strand of the earlier one happens before
abbrev pub InOrder : List Edge → List FieldAccess → Type 0
InOrder es [] = Unit {0}
InOrder es (a ∷ rest) = ((b : FieldAccess) → In rest b → Clash a b → Precedes es a.strand b.strand) × InOrder es rest

pub to_order : (es : List Edge) (xs : List FieldAccess) → AreOrdered es xs → InOrder es xs
to_order es [] h = tt
to_order es (x ∷ xs) h = (
  (λ b i c. (let k = in_got xs b i in h 0 (suc k.0) x b (omega arith) refl k.1 c)),
  to_order es xs (λ i j u v lt iu iv c. h (suc i) (suc j) u v (omega arith) iu iv c),
)

pub from_order : (es : List Edge) (xs : List FieldAccess) → InOrder es xs → AreOrdered es xs
from_order es [] h i j u v lt iu iv c = absurd cc
from_order es (x ∷ xs) h zero zero u v lt iu iv c = absurd (omega arith)
from_order es (x ∷ xs) h zero (suc j) u v lt iu iv c = let e : x ≡ u = same_Some x u iu in subst (λ (w : FieldAccess). Precedes es w.strand v.strand) e (h.0 v (got_in xs j v iv) (subst (λ w. Clash w v) (sym e) c))
from_order es (x ∷ xs) h (suc i) zero u v lt iu iv c = absurd (omega arith)
from_order es (x ∷ xs) h (suc i) (suc j) u v lt iu iv c = from_order es xs h.1 i j u v (omega arith) iu iv c

-- the middle one moves to the front
pub order_moves : (es : List Edge) (front back : List FieldAccess) (o : Option FieldAccess) → InOrder es (front ++ with_some o back) → ((a b : FieldAccess) → In front a → o ≡ Some b → Clash a b → ⊥) → InOrder es (with_some o (front ++ back))
order_moves es front back None h free = h
order_moves es front back (Some b) h free = ((λ c i k. order_moves_by_cases front h (λ a j. free a b j refl) c i k), rest front h)
  where
    flip : (c : FieldAccess) → Clash b c → Clash c b
    flip c k = record { field = sym k.field; writes = elim (k.writes) [ inl w ↦ inr w | inr w ↦ inl w ] }

    order_moves_by_cases : (front : List FieldAccess) → InOrder es (front ++ b ∷ back) → ((a : FieldAccess) → In front a → Clash a b → ⊥) → (c : FieldAccess) → In (front ++ back) c → Clash b c → Precedes es b.strand c.strand
    order_moves_by_cases [] h none c i k = h.0 c i k
    order_moves_by_cases (a ∷ front) h none c (inl e) k = absurd (none c (inl e) (flip c k))
    order_moves_by_cases (a ∷ front) h none c (inr i) k = order_moves_by_cases front h.1 (λ d j. none d (inr j)) c i k

    rest : (front : List FieldAccess) → InOrder es (front ++ b ∷ back) → InOrder es (front ++ back)
    rest [] h = h.1
    rest (a ∷ front) h = ((λ c i k. h.0 c (elim (in_append_cases front back c i) [ inl j ↦ in_append_left front (b ∷ back) c j | inr j ↦ in_append_right front (b ∷ back) c (inr j) ]) k), rest front h.1)
