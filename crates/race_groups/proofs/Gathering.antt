-- Gathering races one by one makes their groups.
use Rattle.race_groups.proofs.Common.{◌≡◌, ℕ, zero, suc, ◌+◌, ◌<◌, ◌≤◌, ◌^◌, ◌==◌, ◌&&◌, ◌||◌, nat_lt, Bool, true, false, cond, List, [], ◌∷◌, ◌++◌, length, map, filter, fold, append-nil, append_assoc, inl, inr, arith, refl, ap, sym, ◌∙◌, true≢false, eqb-true, eq-eqb, Option, Some, None, not, count_by, position, slice_get, slice_set, slice_index_or, position_or_len, list_any, and_parts, slice_get-get_or, slice_get_cases, count_by-le-length, sum_by_push, insert_key, In, in_from_kept, got_in, Race, RaceGroup, Lines, lines_of_race, same_pair, same_lines, group_of, groups_of, with_grouped_race, lines_of_groups}
use borrow.Author.Tests.{ltb-true}

-- SAME LINES

pub pair_is : (x y : Lines) → same_pair x y ≡ true → x ≡ y
pair_is x y e =
    let both = and_parts (x.0 == y.0) (x.1 == y.1) e in
    let a : x.0 ≡ y.0 = eqb-true x.0 y.0 both.0 in
    let b : x.1 ≡ y.1 = eqb-true x.1 y.1 both.1 in
    λ i. (a i, b i)

pub pair_itself : (x : Lines) → same_pair x x ≡ true
pair_itself x = ap (λ b. b && (x.1 == x.1)) (eq-eqb x.0 x.0 refl) ∙ eq-eqb x.1 x.1 refl

-- two races on the same lines are alike on those of a third
pub same_left : (x r s : Race) → same_lines x r ≡ true → same_lines x s ≡ same_lines r s
same_left x r s e = ap (λ l. same_pair l (lines_of_race s)) (pair_is (lines_of_race x) (lines_of_race r) e)

pub same_right : (x r s : Race) → same_lines r s ≡ true → same_lines x r ≡ same_lines x s
same_right x r s e = ap (λ l. same_pair (lines_of_race x) l) (pair_is (lines_of_race r) (lines_of_race s) e)

-- ONE RACE MORE

abbrev pub elsewhere : Race → RaceGroup → Bool
elsewhere x g = not (same_lines x g.example)

abbrev one_more : RaceGroup → RaceGroup
one_more g = record g { fields = g.fields + 1 }

module _ (x r : Race) where
  -- on the lines of x a race changes nothing elsewhere
  skipped : same_lines x r ≡ true → (gs : List RaceGroup) → filter (elsewhere x) (with_grouped_race gs r) ≡ filter (elsewhere x) gs
  skipped same [] = ap (λ b. cond (not b) (group_of r ∷ []) []) same
  skipped same (g ∷ gs) = skipped_by_cases (same_lines r g.example) refl (skipped same gs)
    where
      skipped_by_cases : (b : Bool) → same_lines r g.example ≡ b → filter (elsewhere x) (with_grouped_race gs r) ≡ filter (elsewhere x) gs
          → filter (elsewhere x) (cond b (one_more g ∷ gs) (g ∷ with_grouped_race gs r)) ≡ filter (elsewhere x) (g ∷ gs)
      skipped_by_cases true e more =
          let here : same_lines x g.example ≡ true = same_left x r g.example same ∙ e in
          ap (λ b. cond (not b) (one_more g ∷ filter (elsewhere x) gs) (filter (elsewhere x) gs)) here
          ∙ sym (ap (λ b. cond (not b) (g ∷ filter (elsewhere x) gs) (filter (elsewhere x) gs)) here)
      skipped_by_cases false e more = ap (λ hs. cond (elsewhere x g) (g ∷ hs) hs) more

  -- on other lines it is added elsewhere
  passed : same_lines x r ≡ false → (gs : List RaceGroup) → filter (elsewhere x) (with_grouped_race gs r) ≡ with_grouped_race (filter (elsewhere x) gs) r
  passed other [] = ap (λ b. cond (not b) (group_of r ∷ []) []) other
  passed other (g ∷ gs) = passed_by_cases (same_lines r g.example) (same_lines x g.example) refl refl (passed other gs)
    where
      passed_by_cases : (b c : Bool) → same_lines r g.example ≡ b → same_lines x g.example ≡ c → filter (elsewhere x) (with_grouped_race gs r) ≡ with_grouped_race (filter (elsewhere x) gs) r
          → filter (elsewhere x) (cond b (one_more g ∷ gs) (g ∷ with_grouped_race gs r)) ≡ with_grouped_race (cond (not c) (g ∷ filter (elsewhere x) gs) (filter (elsewhere x) gs)) r
      passed_by_cases true true e f more = absurd (true≢false (sym (same_right x r g.example e ∙ f) ∙ other))
      passed_by_cases true false e f more =
          ap (λ c. cond (not c) (one_more g ∷ filter (elsewhere x) gs) (filter (elsewhere x) gs)) f
          ∙ sym (ap (λ b. cond b (one_more g ∷ filter (elsewhere x) gs) (g ∷ with_grouped_race (filter (elsewhere x) gs) r)) e)
      passed_by_cases false true e f more = ap (λ c. cond (not c) (g ∷ filter (elsewhere x) (with_grouped_race gs r)) (filter (elsewhere x) (with_grouped_race gs r))) f ∙ more
      passed_by_cases false false e f more =
          ap (λ c. cond (not c) (g ∷ filter (elsewhere x) (with_grouped_race gs r)) (filter (elsewhere x) (with_grouped_race gs r))) f
          ∙ ap (λ hs. g ∷ hs) more
          ∙ sym (ap (λ b. cond b (one_more g ∷ filter (elsewhere x) gs) (g ∷ with_grouped_race (filter (elsewhere x) gs) r)) e)

count_more : (p : Race → Bool) (rs : List Race) (r : Race) (b : Bool) → p r ≡ b → count_by p (rs ++ r ∷ []) ≡ count_by p rs + cond b 1 0
count_more p rs r b e = sum_by_push (λ x. cond (p x) 1 0) rs r ∙ ap (λ c. count_by p rs + cond c 1 0) e

abbrev group_with : Race → ℕ → RaceGroup
group_with x n = record { example = x; fields = n }

pub added : (rs : List Race) (r : Race) → with_grouped_race (groups_of rs) r ≡ groups_of (rs ++ r ∷ [])
added [] r = refl
added (x ∷ rs) r = by_lines (same_pair (lines_of_race r) (lines_of_race x)) refl (added rs r)
  where
    turned : (b : Bool) → same_lines r x ≡ b → same_lines x r ≡ b
    turned true e = ap (λ l. same_pair (lines_of_race x) l) (pair_is (lines_of_race r) (lines_of_race x) e) ∙ pair_itself (lines_of_race x)
    turned false e = other (same_lines x r) refl
      where
        other : (c : Bool) → same_lines x r ≡ c → same_lines x r ≡ false
        other false f = f
        other true f = absurd (true≢false (sym (ap (λ l. same_pair (lines_of_race r) l) (pair_is (lines_of_race x) (lines_of_race r) f) ∙ pair_itself (lines_of_race r)) ∙ e))

    by_lines : (b : Bool) → same_lines r x ≡ b → with_grouped_race (groups_of rs) r ≡ groups_of (rs ++ r ∷ [])
        → cond b (group_with x (count_by (same_lines x) rs + 1 + 1) ∷ filter (elsewhere x) (groups_of rs)) (group_with x (count_by (same_lines x) rs + 1) ∷ with_grouped_race (filter (elsewhere x) (groups_of rs)) r)
        ≡ group_with x (count_by (same_lines x) (rs ++ r ∷ []) + 1) ∷ filter (elsewhere x) (groups_of (rs ++ r ∷ []))
    by_lines true e later =
        let more = count_more (same_lines x) rs r true (turned true e) in
        let n : count_by (same_lines x) rs + 1 + 1 ≡ count_by (same_lines x) (rs ++ r ∷ []) + 1 = omega (arith, more) in
        ap (λ k. group_with x k ∷ filter (elsewhere x) (groups_of rs)) n
        ∙ ap (λ gs. group_with x (count_by (same_lines x) (rs ++ r ∷ []) + 1) ∷ gs) (sym (skipped x r (turned true e) (groups_of rs)) ∙ ap (filter (elsewhere x)) later)
    by_lines false e later =
        let more = count_more (same_lines x) rs r false (turned false e) in
        let n : count_by (same_lines x) rs + 1 ≡ count_by (same_lines x) (rs ++ r ∷ []) + 1 = omega (arith, more) in
        ap (λ k. group_with x k ∷ with_grouped_race (filter (elsewhere x) (groups_of rs)) r) n
        ∙ ap (λ gs. group_with x (count_by (same_lines x) (rs ++ r ∷ []) + 1) ∷ gs) (sym (passed x r (turned false e) (groups_of rs)) ∙ ap (filter (elsewhere x)) later)

-- A GROUP'S PLACE

abbrev q_of : Race → Lines → Bool
q_of r = same_pair (lines_of_race r)

at_place : (b : Bool) (n k : ℕ) → cond b (Some n) None ≡ Some k → (b ≡ true) × (n ≡ k)
at_place true n k e = (refl, cc)
at_place false n k e = absurd cc

no_place : (b : Bool) (n : ℕ) → ◌≡◌ {A = Option ℕ} (cond b (Some n) None) None → b ≡ false
no_place true n e = absurd cc
no_place false n e = refl

counted : (gs : List RaceGroup) (r : Race) (k : ℕ) (g : RaceGroup) → position_or_len (q_of r) (lines_of_groups gs) ≡ k → slice_get gs k ≡ Some g → slice_set gs k (one_more g) ≡ with_grouped_race gs r
counted [] r k g e f = absurd cc
counted (h ∷ gs) r k g e f = counted_by_cases (same_lines r h.example) k e f (λ i d at. counted gs r i g d at)
  where
    first : {x y : RaceGroup} → ◌≡◌ {A = Option RaceGroup} (Some x) (Some y) → y ≡ x
    first d = cc

    counted_by_cases : (b : Bool) (j : ℕ) → cond (not b) (1 + position_or_len (q_of r) (lines_of_groups gs)) 0 ≡ j → slice_get (h ∷ gs) j ≡ Some g
        → ((i : ℕ) → position_or_len (q_of r) (lines_of_groups gs) ≡ i → slice_get gs i ≡ Some g → slice_set gs i (one_more g) ≡ with_grouped_race gs r) → slice_set (h ∷ gs) j (one_more g) ≡ cond b (one_more h ∷ gs) (h ∷ with_grouped_race gs r)
    counted_by_cases true zero d at later = ap (λ y. one_more y ∷ gs) (first at)
    counted_by_cases true (suc j) d at later = absurd (omega (arith, d))
    counted_by_cases false zero d at later = absurd (omega (arith, d))
    counted_by_cases false (suc j) d at later = ap (λ hs. h ∷ hs) (later j (omega (arith, d)) at)

pub counted_at : (gs : List RaceGroup) (r : Race) (k : ℕ) (g : RaceGroup) → position (q_of r) (lines_of_groups gs) ≡ Some k → slice_get gs k ≡ Some g → slice_set gs k (one_more g) ≡ with_grouped_race gs r
counted_at gs r k g e f = counted gs r k g (at_place (nat_lt (position_or_len (q_of r) (lines_of_groups gs)) (length (lines_of_groups gs))) (position_or_len (q_of r) (lines_of_groups gs)) k e).1 f

less_more : (a b : ℕ) → nat_lt (1 + a) (suc b) ≡ nat_lt a b
less_more a b = grind arith

put : (gs : List RaceGroup) (r : Race) → nat_lt (position_or_len (q_of r) (lines_of_groups gs)) (length (lines_of_groups gs)) ≡ false → gs ++ group_of r ∷ [] ≡ with_grouped_race gs r
put [] r e = refl
put (h ∷ gs) r e = put_by_cases (same_lines r h.example) e (put gs r)
  where
    put_by_cases : (b : Bool) → nat_lt (cond (not b) (1 + position_or_len (q_of r) (lines_of_groups gs)) 0) (suc (length (lines_of_groups gs))) ≡ false
        → (nat_lt (position_or_len (q_of r) (lines_of_groups gs)) (length (lines_of_groups gs)) ≡ false → gs ++ group_of r ∷ [] ≡ with_grouped_race gs r) → h ∷ (gs ++ group_of r ∷ []) ≡ cond b (one_more h ∷ gs) (h ∷ with_grouped_race gs r)
    put_by_cases true d later = absurd (true≢false (sym (let z : nat_lt 0 (suc (length (lines_of_groups gs))) ≡ true = grind arith in z) ∙ d))
    put_by_cases false d later = ap (λ hs. h ∷ hs) (later (sym (less_more (position_or_len (q_of r) (lines_of_groups gs)) (length (lines_of_groups gs))) ∙ d))

pub put_last : (gs : List RaceGroup) (r : Race) → position (q_of r) (lines_of_groups gs) ≡ None → gs ++ group_of r ∷ [] ≡ with_grouped_race gs r
put_last gs r e = put gs r (no_place (nat_lt (position_or_len (q_of r) (lines_of_groups gs)) (length (lines_of_groups gs))) (position_or_len (q_of r) (lines_of_groups gs)) e)

-- the lines of groups to which one is added, or of which one counts one more race
pub lines_push : (gs : List RaceGroup) (r : Race) → lines_of_groups gs ++ lines_of_race r ∷ [] ≡ lines_of_groups (gs ++ group_of r ∷ [])
lines_push [] r = refl
lines_push (g ∷ gs) r = ap (λ ls. lines_of_race g.example ∷ ls) (lines_push gs r)

pub lines_stay : (gs : List RaceGroup) (k : ℕ) (g : RaceGroup) (n : ℕ) → slice_get gs k ≡ Some g → lines_of_groups gs ≡ lines_of_groups (slice_set gs k (record g { fields = n }))
lines_stay [] k g n e = refl
lines_stay (h ∷ gs) zero g n e = ap (λ (x : RaceGroup). lines_of_race x.example ∷ lines_of_groups gs) (let d : h ≡ g = cc in d)
lines_stay (h ∷ gs) (suc k) g n e = ap (λ ls. lines_of_race h.example ∷ ls) (lines_stay gs k g n e)

pub lines_length : (gs : List RaceGroup) → length (lines_of_groups gs) ≡ length gs
lines_length [] = refl
lines_length (g ∷ gs) = ap (λ n. suc n) (lines_length gs)

any_below : (p : Lines → Bool) (xs : List Lines) → nat_lt (position_or_len p xs) (length xs) ≡ list_any p xs
any_below p [] = refl
any_below p (x ∷ xs) = any_below_by_cases (p x) (any_below p xs)
  where
    any_below_by_cases : (b : Bool) → nat_lt (position_or_len p xs) (length xs) ≡ list_any p xs → nat_lt (cond (not b) (1 + position_or_len p xs) 0) (suc (length xs)) ≡ (b || list_any p xs)
    any_below_by_cases true e = let z : nat_lt 0 (suc (length xs)) ≡ true = grind arith in z
    any_below_by_cases false e = less_more (position_or_len p xs) (length xs) ∙ e

-- the set of lines with those of a new group
pub pushed_lines : (gs : List RaceGroup) (r : Race) (keys : List Lines) (lines : Lines) → position (q_of r) (lines_of_groups gs) ≡ None → keys ≡ lines_of_groups gs → lines ≡ lines_of_race r → insert_key same_pair keys lines ≡ lines_of_groups (gs ++ group_of r ∷ [])
pushed_lines gs r keys lines none is at =
    let new : list_any (q_of r) (lines_of_groups gs) ≡ false =
    sym (any_below (q_of r) (lines_of_groups gs)) ∙ no_place (nat_lt (position_or_len (q_of r) (lines_of_groups gs)) (length (lines_of_groups gs))) (position_or_len (q_of r) (lines_of_groups gs)) none in
    (λ i. insert_key same_pair (is i) (at i)) ∙ ap (λ b. cond b (lines_of_groups gs) (lines_of_groups gs ++ lines_of_race r ∷ [])) new ∙ lines_push gs r

-- FEW

most : (rs : List Race) (g : RaceGroup) → In (groups_of rs) g → g.fields ≤ length rs
most [] g i = absurd i
most (r ∷ rs) g (inl e) =
    let fields : count_by (same_lines r) rs + 1 ≡ g.fields = ap (λ (x : RaceGroup). x.fields) e in
    let few = count_by-le-length (same_lines r) rs in
    let len : length (r ∷ rs) ≡ length rs + 1 = omega arith in
    omega (arith, fields, few, len)
most (r ∷ rs) g (inr i) =
    let more = most rs g (in_from_kept (elsewhere r) (groups_of rs) g i).0 in
    let len : length (r ∷ rs) ≡ length rs + 1 = omega arith in
    omega (arith, more, len)

pub most_fields : (rs : List Race) (k : ℕ) (g : RaceGroup) → slice_get (groups_of rs) k ≡ Some g → g.fields ≤ length rs
most_fields rs k g e = most rs g (got_in (groups_of rs) k g e)

-- ---- a group is read and written back

pub read_at : (gs hs : List RaceGroup) (k : ℕ) (r : RaceGroup) → gs ≡ hs → k < length hs → r ≡ slice_index_or gs k r → slice_get gs k ≡ Some r
read_at gs hs k r same lt e =
    let len : length gs ≡ length hs = ap length same in
    slice_get-get_or gs k r (omega (arith, len, lt)) ∙ ap Some (sym e)

some_is : {x y : RaceGroup} → ◌≡◌ {A = Option RaceGroup} (Some x) (Some y) → x ≡ y
some_is e = cc

pub counted_same : (gs hs : List RaceGroup) (k : ℕ) (r g : RaceGroup) → gs ≡ hs → k < length hs → r ≡ slice_index_or gs k r → slice_get hs k ≡ Some g
    → slice_set gs k (record { example = r.example; fields = r.fields + 1 }) ≡ slice_set hs k (record { example = g.example; fields = g.fields + 1 })
counted_same gs hs k r g same lt e at =
    let is : r ≡ g = some_is (sym (read_at gs hs k r same lt e) ∙ ap (λ xs. slice_get xs k) same ∙ at) in
    λ i. slice_set (same i) k (record { example = (is i).example; fields = (is i).fields + 1 })

pub found_at : (gs : List RaceGroup) (r : Race) (k : ℕ) → position (q_of r) (lines_of_groups gs) ≡ Some k → (g : RaceGroup) × (slice_get gs k ≡ Some g)
found_at gs r k e =
    let p = at_place (nat_lt (position_or_len (q_of r) (lines_of_groups gs)) (length (lines_of_groups gs))) (position_or_len (q_of r) (lines_of_groups gs)) k e in
    let below : position_or_len (q_of r) (lines_of_groups gs) < length (lines_of_groups gs) = ltb-true _ _ p.0 in
    let lt : k < length gs = omega (arith, p.1, below, lines_length gs) in
    elim (slice_get_cases gs k).1 [
      | inl some ↦ (some.0, some.2)
      | inr past ↦ absurd (omega (arith, lt, past.0))
    ]

-- ---- all races, one by one

folded : (before rs : List Race) → fold with_grouped_race (groups_of before) rs ≡ groups_of (before ++ rs)
folded before [] = ap groups_of (sym (append-nil before))
folded before (r ∷ rs) = ap (λ gs. fold with_grouped_race gs rs) (added before r) ∙ folded (before ++ r ∷ []) rs ∙ ap groups_of (append_assoc before (r ∷ []) rs)

pub all_gathered : (rs : List Race) → fold with_grouped_race [] rs ≡ groups_of rs
all_gathered rs = folded [] rs
