-- Gathering findings one by one makes their groups.
use Rattle.log_groups.proofs.Common.{◌≡◌, ℕ, zero, suc, ◌+◌, ◌*◌, ◌<◌, ◌≤◌, ◌^◌, ◌==◌, ◌&&◌, ◌||◌, nat_lt, Bool, true, false, cond, List, [], ◌∷◌, ◌++◌, length, map, filter, fold, append-nil, append_assoc, inl, inr, arith, refl, ap, sym, ◌∙◌, true≢false, eqb-true, eq-eqb, Option, Some, None, not, sum_by, position, slice_get, slice_set, slice_index_or, position_or_len, list_any, and_parts, slice_get-get_or, slice_get_cases, sum_by_push, filter-append, insert_key, In, in_from_kept, got_in, GroupKey, Item, Group, same_key, alike, total_of, group_of, groups_of, with_item, keys_of, AreBelow}
use borrow.Author.Tests.{ltb-true}

-- SAME KEYS

pub key_is : (x y : GroupKey) → same_key x y ≡ true → x ≡ y
key_is x y e =
    let p = and_parts (x.block == y.block) _ e in
    let q = and_parts (x.first_kind == y.first_kind) _ p.1 in
    let r = and_parts (x.first_site == y.first_site) _ q.1 in
    let s = and_parts (x.second_kind == y.second_kind) (x.second_site == y.second_site) r.1 in
    let a : x.block ≡ y.block = eqb-true x.block y.block p.0 in
    let b : x.first_kind ≡ y.first_kind = eqb-true x.first_kind y.first_kind q.0 in
    let c : x.first_site ≡ y.first_site = eqb-true x.first_site y.first_site r.0 in
    let d : x.second_kind ≡ y.second_kind = eqb-true x.second_kind y.second_kind s.0 in
    let f : x.second_site ≡ y.second_site = eqb-true x.second_site y.second_site s.1 in
    λ i. record { block = a i; first_kind = b i; first_site = c i; second_kind = d i; second_site = f i }

pub key_itself : (x : GroupKey) → same_key x x ≡ true
key_itself x = rw (eq-eqb x.block x.block refl, eq-eqb x.first_kind x.first_kind refl, eq-eqb x.first_site x.first_site refl, eq-eqb x.second_kind x.second_kind refl, eq-eqb x.second_site x.second_site refl) refl

-- findings that are alike are so with a third one alike
pub same_left : (x r s : Item) → alike x r ≡ true → alike x s ≡ alike r s
same_left x r s e = ap (λ (k : GroupKey). same_key k s.key) (key_is x.key r.key e)

pub same_right : (x r s : Item) → alike r s ≡ true → alike x r ≡ alike x s
same_right x r s e = ap (λ (k : GroupKey). same_key x.key k) (key_is r.key s.key e)

-- ONE FINDING MORE

abbrev pub elsewhere : Item → Group → Bool
elsewhere x g = not (alike x g.first)

abbrev one_more : ℕ → Group → Group
one_more n g = record g { total = g.total + n }

module _ (x r : Item) where
  -- a finding of the key of x changes nothing elsewhere
  skipped : alike x r ≡ true → (gs : List Group) → filter (elsewhere x) (with_item gs r) ≡ filter (elsewhere x) gs
  skipped same [] = ap (λ b. cond (not b) (group_of r ∷ []) []) same
  skipped same (g ∷ gs) = skipped_by_cases (alike r g.first) refl (skipped same gs)
    where
      skipped_by_cases : (b : Bool) → alike r g.first ≡ b → filter (elsewhere x) (with_item gs r) ≡ filter (elsewhere x) gs
          → filter (elsewhere x) (cond b (one_more r.size g ∷ gs) (g ∷ with_item gs r)) ≡ filter (elsewhere x) (g ∷ gs)
      skipped_by_cases true e more =
          let here : alike x g.first ≡ true = same_left x r g.first same ∙ e in
          ap (λ b. cond (not b) (one_more r.size g ∷ filter (elsewhere x) gs) (filter (elsewhere x) gs)) here
          ∙ sym (ap (λ b. cond (not b) (g ∷ filter (elsewhere x) gs) (filter (elsewhere x) gs)) here)
      skipped_by_cases false e more = ap (λ hs. cond (elsewhere x g) (g ∷ hs) hs) more

  -- one of another key is added elsewhere
  passed : alike x r ≡ false → (gs : List Group) → filter (elsewhere x) (with_item gs r) ≡ with_item (filter (elsewhere x) gs) r
  passed other [] = ap (λ b. cond (not b) (group_of r ∷ []) []) other
  passed other (g ∷ gs) = passed_by_cases (alike r g.first) (alike x g.first) refl refl (passed other gs)
    where
      passed_by_cases : (b c : Bool) → alike r g.first ≡ b → alike x g.first ≡ c → filter (elsewhere x) (with_item gs r) ≡ with_item (filter (elsewhere x) gs) r
          → filter (elsewhere x) (cond b (one_more r.size g ∷ gs) (g ∷ with_item gs r)) ≡ with_item (cond (not c) (g ∷ filter (elsewhere x) gs) (filter (elsewhere x) gs)) r
      passed_by_cases true true e f more = absurd (true≢false (sym (same_right x r g.first e ∙ f) ∙ other))
      passed_by_cases true false e f more =
          ap (λ c. cond (not c) (one_more r.size g ∷ filter (elsewhere x) gs) (filter (elsewhere x) gs)) f
          ∙ sym (ap (λ b. cond b (one_more r.size g ∷ filter (elsewhere x) gs) (g ∷ with_item (filter (elsewhere x) gs) r)) e)
      passed_by_cases false true e f more = ap (λ c. cond (not c) (g ∷ filter (elsewhere x) (with_item gs r)) (filter (elsewhere x) (with_item gs r))) f ∙ more
      passed_by_cases false false e f more =
          ap (λ c. cond (not c) (g ∷ filter (elsewhere x) (with_item gs r)) (filter (elsewhere x) (with_item gs r))) f
          ∙ ap (λ hs. g ∷ hs) more
          ∙ sym (ap (λ b. cond b (one_more r.size g ∷ filter (elsewhere x) gs) (g ∷ with_item (filter (elsewhere x) gs) r)) e)

total_more : (x : Item) (rs : List Item) (r : Item) (b : Bool) → alike x r ≡ b → total_of x (rs ++ r ∷ []) ≡ total_of x rs + cond b r.size 0
total_more x rs r b e = ap (sum_by (λ (y : Item). y.size)) (filter-append (alike x) rs (r ∷ [])) ∙ total_more_by_cases b e
  where
    total_more_by_cases : (b : Bool) → alike x r ≡ b → sum_by (λ (y : Item). y.size) (filter (alike x) rs ++ cond (alike x r) (r ∷ []) []) ≡ total_of x rs + cond b r.size 0
    total_more_by_cases true e = ap (λ c. sum_by (λ (y : Item). y.size) (filter (alike x) rs ++ cond c (r ∷ []) [])) e ∙ sum_by_push (λ (y : Item). y.size) (filter (alike x) rs) r
    total_more_by_cases false e =
        let n : total_of x rs ≡ total_of x rs + 0 = omega arith in
        ap (λ c. sum_by (λ (y : Item). y.size) (filter (alike x) rs ++ cond c (r ∷ []) [])) e ∙ ap (sum_by (λ (y : Item). y.size)) (append-nil (filter (alike x) rs)) ∙ n

abbrev group_with : Item → ℕ → Group
group_with x n = record { first = x; total = n }

pub added : (rs : List Item) (r : Item) → with_item (groups_of rs) r ≡ groups_of (rs ++ r ∷ [])
added [] r = let n : r.size ≡ total_of r [] + r.size = omega arith in ap (λ k. group_with r k ∷ []) n
added (x ∷ rs) r = by_key (same_key r.key x.key) refl (added rs r)
  where
    turned : (b : Bool) → alike r x ≡ b → alike x r ≡ b
    turned true e = ap (λ l. same_key x.key l) (key_is r.key x.key e) ∙ key_itself x.key
    turned false e = other (alike x r) refl
      where
        other : (c : Bool) → alike x r ≡ c → alike x r ≡ false
        other false f = f
        other true f = absurd (true≢false (sym (ap (λ l. same_key r.key l) (key_is x.key r.key f) ∙ key_itself r.key) ∙ e))

    by_key : (b : Bool) → alike r x ≡ b → with_item (groups_of rs) r ≡ groups_of (rs ++ r ∷ [])
        → cond b (group_with x (total_of x rs + x.size + r.size) ∷ filter (elsewhere x) (groups_of rs)) (group_with x (total_of x rs + x.size) ∷ with_item (filter (elsewhere x) (groups_of rs)) r)
        ≡ group_with x (total_of x (rs ++ r ∷ []) + x.size) ∷ filter (elsewhere x) (groups_of (rs ++ r ∷ []))
    by_key true e later =
        let more = total_more x rs r true (turned true e) in
        let n : total_of x rs + x.size + r.size ≡ total_of x (rs ++ r ∷ []) + x.size = omega (arith, more) in
        ap (λ k. group_with x k ∷ filter (elsewhere x) (groups_of rs)) n
        ∙ ap (λ gs. group_with x (total_of x (rs ++ r ∷ []) + x.size) ∷ gs) (sym (skipped x r (turned true e) (groups_of rs)) ∙ ap (filter (elsewhere x)) later)
    by_key false e later =
        let more = total_more x rs r false (turned false e) in
        let n : total_of x rs + x.size ≡ total_of x (rs ++ r ∷ []) + x.size = omega (arith, more) in
        ap (λ k. group_with x k ∷ with_item (filter (elsewhere x) (groups_of rs)) r) n
        ∙ ap (λ gs. group_with x (total_of x (rs ++ r ∷ []) + x.size) ∷ gs) (sym (passed x r (turned false e) (groups_of rs)) ∙ ap (filter (elsewhere x)) later)

-- A GROUP'S PLACE

abbrev q_of : Item → GroupKey → Bool
q_of r = same_key r.key

at_place : (b : Bool) (n k : ℕ) → cond b (Some n) None ≡ Some k → (b ≡ true) × (n ≡ k)
at_place true n k e = (refl, cc)
at_place false n k e = absurd cc

no_place : (b : Bool) (n : ℕ) → ◌≡◌ {A = Option ℕ} (cond b (Some n) None) None → b ≡ false
no_place true n e = absurd cc
no_place false n e = refl

counted : (gs : List Group) (r : Item) (k : ℕ) (g : Group) → position_or_len (q_of r) (keys_of gs) ≡ k → slice_get gs k ≡ Some g → slice_set gs k (one_more r.size g) ≡ with_item gs r
counted [] r k g e f = absurd cc
counted (h ∷ gs) r k g e f = counted_by_cases (alike r h.first) k e f (λ i d at. counted gs r i g d at)
  where
    first : {x y : Group} → ◌≡◌ {A = Option Group} (Some x) (Some y) → y ≡ x
    first d = cc

    counted_by_cases : (b : Bool) (j : ℕ) → cond (not b) (1 + position_or_len (q_of r) (keys_of gs)) 0 ≡ j → slice_get (h ∷ gs) j ≡ Some g
        → ((i : ℕ) → position_or_len (q_of r) (keys_of gs) ≡ i → slice_get gs i ≡ Some g → slice_set gs i (one_more r.size g) ≡ with_item gs r) → slice_set (h ∷ gs) j (one_more r.size g) ≡ cond b (one_more r.size h ∷ gs) (h ∷ with_item gs r)
    counted_by_cases true zero d at later = ap (λ y. one_more r.size y ∷ gs) (first at)
    counted_by_cases true (suc j) d at later = absurd (omega (arith, d))
    counted_by_cases false zero d at later = absurd (omega (arith, d))
    counted_by_cases false (suc j) d at later = ap (λ hs. h ∷ hs) (later j (omega (arith, d)) at)

pub counted_at : (gs : List Group) (r : Item) (k : ℕ) (g : Group) → position (q_of r) (keys_of gs) ≡ Some k → slice_get gs k ≡ Some g → slice_set gs k (one_more r.size g) ≡ with_item gs r
counted_at gs r k g e f = counted gs r k g (at_place (nat_lt (position_or_len (q_of r) (keys_of gs)) (length (keys_of gs))) (position_or_len (q_of r) (keys_of gs)) k e).1 f

less_more : (a b : ℕ) → nat_lt (1 + a) (suc b) ≡ nat_lt a b
less_more a b = grind arith

put : (gs : List Group) (r : Item) → nat_lt (position_or_len (q_of r) (keys_of gs)) (length (keys_of gs)) ≡ false → gs ++ group_of r ∷ [] ≡ with_item gs r
put [] r e = refl
put (h ∷ gs) r e = put_by_cases (alike r h.first) e (put gs r)
  where
    put_by_cases : (b : Bool) → nat_lt (cond (not b) (1 + position_or_len (q_of r) (keys_of gs)) 0) (suc (length (keys_of gs))) ≡ false
        → (nat_lt (position_or_len (q_of r) (keys_of gs)) (length (keys_of gs)) ≡ false → gs ++ group_of r ∷ [] ≡ with_item gs r) → h ∷ (gs ++ group_of r ∷ []) ≡ cond b (one_more r.size h ∷ gs) (h ∷ with_item gs r)
    put_by_cases true d later = absurd (true≢false (sym (let z : nat_lt 0 (suc (length (keys_of gs))) ≡ true = grind arith in z) ∙ d))
    put_by_cases false d later = ap (λ hs. h ∷ hs) (later (sym (less_more (position_or_len (q_of r) (keys_of gs)) (length (keys_of gs))) ∙ d))

pub put_last : (gs : List Group) (r : Item) → position (q_of r) (keys_of gs) ≡ None → gs ++ group_of r ∷ [] ≡ with_item gs r
put_last gs r e = put gs r (no_place (nat_lt (position_or_len (q_of r) (keys_of gs)) (length (keys_of gs))) (position_or_len (q_of r) (keys_of gs)) e)

-- the keys of groups to which one is added, or of which one counts more
pub keys_push : (gs : List Group) (r : Item) → keys_of gs ++ r.key ∷ [] ≡ keys_of (gs ++ group_of r ∷ [])
keys_push [] r = refl
keys_push (g ∷ gs) r = ap (λ ls. g.first.key ∷ ls) (keys_push gs r)

pub keys_stay : (gs : List Group) (k : ℕ) (g : Group) (n : ℕ) → slice_get gs k ≡ Some g → keys_of gs ≡ keys_of (slice_set gs k (record g { total = n }))
keys_stay [] k g n e = refl
keys_stay (h ∷ gs) zero g n e = ap (λ (x : Group). x.first.key ∷ keys_of gs) (let d : h ≡ g = cc in d)
keys_stay (h ∷ gs) (suc k) g n e = ap (λ ls. h.first.key ∷ ls) (keys_stay gs k g n e)

pub keys_length : (gs : List Group) → length (keys_of gs) ≡ length gs
keys_length [] = refl
keys_length (g ∷ gs) = ap (λ n. suc n) (keys_length gs)

any_below : (p : GroupKey → Bool) (xs : List GroupKey) → nat_lt (position_or_len p xs) (length xs) ≡ list_any p xs
any_below p [] = refl
any_below p (x ∷ xs) = any_below_by_cases (p x) (any_below p xs)
  where
    any_below_by_cases : (b : Bool) → nat_lt (position_or_len p xs) (length xs) ≡ list_any p xs → nat_lt (cond (not b) (1 + position_or_len p xs) 0) (suc (length xs)) ≡ (b || list_any p xs)
    any_below_by_cases true e = let z : nat_lt 0 (suc (length xs)) ≡ true = grind arith in z
    any_below_by_cases false e = less_more (position_or_len p xs) (length xs) ∙ e

-- the set of keys with that of a new group
pub pushed_keys : (gs : List Group) (r : Item) (keys : List GroupKey) (key : GroupKey) → position (q_of r) (keys_of gs) ≡ None → keys ≡ keys_of gs → key ≡ r.key → insert_key same_key keys key ≡ keys_of (gs ++ group_of r ∷ [])
pushed_keys gs r keys key none is at =
    let new : list_any (q_of r) (keys_of gs) ≡ false =
    sym (any_below (q_of r) (keys_of gs)) ∙ no_place (nat_lt (position_or_len (q_of r) (keys_of gs)) (length (keys_of gs))) (position_or_len (q_of r) (keys_of gs)) none in
    (λ i. insert_key same_key (is i) (at i)) ∙ ap (λ b. cond b (keys_of gs) (keys_of gs ++ r.key ∷ [])) new ∙ keys_push gs r

-- FEW

pub below_more : (gs : List Group) (n m : ℕ) → n ≤ m → AreBelow n gs → AreBelow m gs
below_more [] n m le b = tt
below_more (g ∷ gs) n m le b = ((let h : g.total ≤ n * 2 ^ 64 = b.0 in let k : g.total ≤ m * 2 ^ 64 = omega (arith, h, le) in k), below_more gs n m le b.1)

pub below_with : (gs : List Group) (x : Item) (n : ℕ) → x.size < 2 ^ 64 → AreBelow n gs → AreBelow (n + 1) (with_item gs x)
below_with [] x n lt b = ((let k : x.size ≤ (n + 1) * 2 ^ 64 = omega (arith, lt) in k), tt)
below_with (g ∷ gs) x n lt b = below_with_by_cases (alike x g.first) (below_with gs x n lt b.1)
  where
    below_with_by_cases : (c : Bool) → AreBelow (n + 1) (with_item gs x) → AreBelow (n + 1) (cond c (one_more x.size g ∷ gs) (g ∷ with_item gs x))
    below_with_by_cases true later = ((let h : g.total ≤ n * 2 ^ 64 = b.0 in let k : g.total + x.size ≤ (n + 1) * 2 ^ 64 = omega (arith, h, lt) in k), below_more gs n (n + 1) (omega arith) b.1)
    below_with_by_cases false later = ((let h : g.total ≤ n * 2 ^ 64 = b.0 in let k : g.total ≤ (n + 1) * 2 ^ 64 = omega (arith, h) in k), later)

pub below_at : (gs : List Group) (n k : ℕ) (g : Group) → AreBelow n gs → slice_get gs k ≡ Some g → g.total ≤ n * 2 ^ 64
below_at [] n k g b e = absurd cc
below_at (h ∷ gs) n zero g b e = let d : h ≡ g = cc in let le : h.total ≤ n * 2 ^ 64 = b.0 in let t : h.total ≡ g.total = ap (λ (x : Group). x.total) d in omega (arith, le, t)
below_at (h ∷ gs) n (suc k) g b e = below_at gs n k g b.1 e

-- ---- a group is read and written back

pub read_at : (gs hs : List Group) (k : ℕ) (r : Group) → gs ≡ hs → k < length hs → r ≡ slice_index_or gs k r → slice_get gs k ≡ Some r
read_at gs hs k r same lt e =
    let len : length gs ≡ length hs = ap length same in
    slice_get-get_or gs k r (omega (arith, len, lt)) ∙ ap Some (sym e)

some_is : {x y : Group} → ◌≡◌ {A = Option Group} (Some x) (Some y) → x ≡ y
some_is e = cc

pub counted_same : (gs hs : List Group) (k n : ℕ) (r g : Group) → gs ≡ hs → k < length hs → r ≡ slice_index_or gs k r → slice_get hs k ≡ Some g
    → slice_set gs k (record { first = r.first; total = r.total + n }) ≡ slice_set hs k (record { first = g.first; total = g.total + n })
counted_same gs hs k n r g same lt e at =
    let is : r ≡ g = some_is (sym (read_at gs hs k r same lt e) ∙ ap (λ xs. slice_get xs k) same ∙ at) in
    λ i. slice_set (same i) k (record { first = (is i).first; total = (is i).total + n })

pub found_at : (gs : List Group) (r : Item) (k : ℕ) → position (q_of r) (keys_of gs) ≡ Some k → (g : Group) × (slice_get gs k ≡ Some g)
found_at gs r k e =
    let p = at_place (nat_lt (position_or_len (q_of r) (keys_of gs)) (length (keys_of gs))) (position_or_len (q_of r) (keys_of gs)) k e in
    let below : position_or_len (q_of r) (keys_of gs) < length (keys_of gs) = ltb-true _ _ p.0 in
    let lt : k < length gs = omega (arith, p.1, below, keys_length gs) in
    elim (slice_get_cases gs k).1 [
      | inl some ↦ (some.0, some.2)
      | inr past ↦ absurd (omega (arith, lt, past.0))
    ]

-- ---- all findings, one by one

folded : (before rs : List Item) → fold with_item (groups_of before) rs ≡ groups_of (before ++ rs)
folded before [] = ap groups_of (sym (append-nil before))
folded before (r ∷ rs) = ap (λ gs. fold with_item gs rs) (added before r) ∙ folded (before ++ r ∷ []) rs ∙ ap groups_of (append_assoc before (r ∷ []) rs)

pub all_gathered : (rs : List Item) → fold with_item [] rs ≡ groups_of rs
all_gathered rs = folded [] rs
