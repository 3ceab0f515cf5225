-- Each finding is counted in exactly one group.
use Rattle.log_groups.proofs.Common.{◌≡◌, ℕ, zero, suc, ◌+◌, ◌<◌, Bool, true, false, cond, List, [], ◌∷◌, ◌++◌, filter, inl, inr, arith, refl, ap, sym, subst, ◌∙◌, true≢false, Option, Some, not, sum_by, slice_get, sum_by-cons, In, in_kept, in_from_kept, got_in, Item, Group, same_key, alike, total_of, groups_of, IsFirstOfKey, IsItemGrouping, ItemGroupsAreExact}
use Rattle.log_groups.proofs.Gathering.{key_is, key_itself, same_left, elsewhere}

unless : (b : Bool) → not b ≡ true → b ≡ false
unless true e = absurd (true≢false (sym e))
unless false e = refl

other_way : (x y : Item) → alike x y ≡ false → alike y x ≡ false
other_way x y e = other_way_by_cases (alike y x) refl
  where
    other_way_by_cases : (b : Bool) → alike y x ≡ b → alike y x ≡ false
    other_way_by_cases false f = f
    other_way_by_cases true f = absurd (true≢false (sym (ap (λ k. same_key x.key k) (key_is y.key x.key f) ∙ key_itself x.key) ∙ e))

-- EACH FINDING HAS A GROUP

abbrev head_group : Item → List Item → Group
head_group x xs = record { first = x; total = total_of x xs + x.size }

every_in : (xs : List Item) (y : Item) → In xs y → (g : Group) × In (groups_of xs) g × (alike g.first y ≡ true)
every_in [] y i = absurd i
every_in (x ∷ xs) y (inl e) = (head_group x xs, inl refl, ap (λ (z : Item). alike x z) (sym e) ∙ key_itself x.key)
every_in (x ∷ xs) y (inr i) =
    let h = every_in xs y i in
    every_in_by_cases h.0 h.1 h.2 (alike x h.0.first) refl
  where
    every_in_by_cases : (g : Group) → In (groups_of xs) g → alike g.first y ≡ true → (b : Bool) → alike x g.first ≡ b → (h : Group) × In (groups_of (x ∷ xs)) h × (alike h.first y ≡ true)
    every_in_by_cases g j same true e = (head_group x xs, inl refl, same_left x g.first y e ∙ same)
    every_in_by_cases g j same false e = (g, inr (in_kept (elsewhere x) (groups_of xs) g j (ap not e)), same)

-- EACH GROUP COUNTS THE FINDINGS OF ITS KEY

module _ (x y : Item) (xs : List Item) where
  total_same : alike x y ≡ true → total_of x xs + y.size ≡ total_of x (y ∷ xs)
  total_same e =
      let more = sum_by-cons (λ (z : Item). z.size) y (filter (alike x) xs) in
      let n : total_of x xs + y.size ≡ y.size + total_of x xs = omega arith in
      n ∙ sym more ∙ ap (λ b. sum_by (λ (z : Item). z.size) (cond b (y ∷ filter (alike x) xs) (filter (alike x) xs))) (sym e)

  total_other : alike x y ≡ false → total_of x xs ≡ total_of x (y ∷ xs)
  total_other e = ap (λ b. sum_by (λ (z : Item). z.size) (cond b (y ∷ filter (alike x) xs) (filter (alike x) xs))) (sym e)

abbrev Counts : List Item → Group → Type 0
Counts xs g = IsFirstOfKey xs g.first × (g.total ≡ total_of g.first xs)

none_before : (x y : Item) → In [] y → alike x y ≡ false
none_before x y i = absurd i

first_later : (x y : Item) (xs : List Item) → alike y x ≡ false → IsFirstOfKey xs y → IsFirstOfKey (x ∷ xs) y
first_later x y xs e is = record {
  before = x ∷ is.before;
  after = is.after;
  stands = ap (λ (zs : List Item). x ∷ zs) is.stands;
  none = λ z i. first_later_by_cases z i;
}
  where
    first_later_by_cases : (z : Item) → In (x ∷ is.before) z → alike y z ≡ false
    first_later_by_cases z (inl d) = ap (λ (w : Item). alike y w) (sym d) ∙ e
    first_later_by_cases z (inr i) = is.none z i

each_in : (xs : List Item) (g : Group) → In (groups_of xs) g → Counts xs g
each_in [] g i = absurd i
each_in (x ∷ xs) g (inl e) =
    subst (λ (h : Group). Counts (x ∷ xs) h) e (record { before = []; after = xs; stands = refl; none = none_before x }, total_same x x xs (key_itself x.key))
each_in (x ∷ xs) g (inr i) =
    let kept = in_from_kept (elsewhere x) (groups_of xs) g i in
    let h = each_in xs g kept.0 in
    let apart = other_way x g.first (unless (alike x g.first) kept.1) in
    (first_later x g.first xs apart h.0, h.1 ∙ total_other g.first x xs apart)

-- NO TWO ARE OF ONE KEY

abbrev Apart : List Group → Type 0
Apart [] = Unit {0}
Apart (g ∷ gs) = ((h : Group) → In gs h → alike g.first h.first ≡ false) × Apart gs

kept_apart : (p : Group → Bool) (gs : List Group) → Apart gs → Apart (filter p gs)
kept_apart p [] a = tt
kept_apart p (g ∷ gs) a = kept_apart_by_cases (p g) (kept_apart p gs a.1)
  where
    kept_apart_by_cases : (b : Bool) → Apart (filter p gs) → Apart (cond b (g ∷ filter p gs) (filter p gs))
    kept_apart_by_cases true more = (λ h i. a.0 h (in_from_kept p gs h i).0, more)
    kept_apart_by_cases false more = more

all_apart : (xs : List Item) → Apart (groups_of xs)
all_apart [] = tt
all_apart (x ∷ xs) = (λ h i. unless (alike x h.first) (in_from_kept (elsewhere x) (groups_of xs) h i).1, kept_apart (elsewhere x) (groups_of xs) (all_apart xs))

apart_at : (gs : List Group) (j k : ℕ) (g h : Group) → Apart gs → j < k → slice_get gs j ≡ Some g → slice_get gs k ≡ Some h → alike g.first h.first ≡ false
apart_at [] j k g h a lt e f = absurd cc
apart_at (x ∷ gs) j zero g h a lt e f = absurd (omega (arith, lt))
apart_at (x ∷ gs) zero (suc k) g h a lt e f =
    let d : x ≡ g = cc in
    ap (λ (y : Group). alike y.first h.first) (sym d) ∙ a.0 h (got_in gs k h f)
apart_at (x ∷ gs) (suc j) (suc k) g h a lt e f = apart_at gs j k g h a.1 (omega (arith, lt)) e f

pub exact : ItemGroupsAreExact
exact xs = record {
  every = every_in xs;
  each = each_in xs;
  apart = λ j k g h lt e f. apart_at (groups_of xs) j k g h (all_apart xs) lt e f;
}
