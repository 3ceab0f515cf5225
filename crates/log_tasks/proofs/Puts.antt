-- What is known when a strand ends, a number is noted, or a task is there.
use Rattle.log_tasks.proofs.Common.{◌≡◌, ◌==◌, ◌<◌, ◌≤◌, ◌∙◌, ℕ, Bool, true, false, cond, refl, sym, ap, Option, Some, None, List, [], ◌∷◌, ◌++◌, arith, ◌||◌, ◌&&◌, max, is_some, if◌then◌else◌, list_any, list_any-append, nat_tests, GraphStrand, is_that, StrandEnd, Told, greater, number_if, index_of, end_told, end_after, or-false}
use Rattle.log_tasks.specs.Ends.{or_later}
use Rattle.log_tasks.proofs.Acts.{later_none}

pub number_same : (a b : ℕ) → (a == b) ≡ true → a ≡ b
number_same a b e = grind (arith, nat_tests, e)

-- the number that is tested is this one
pub and_left : (a b : Bool) → (a && b) ≡ true → a ≡ true
and_left true b e = refl
and_left false b e = e

pub and_right : (a b : Bool) → (a && b) ≡ true → b ≡ true
and_right true b e = e
and_right false b e = absurd (cc)

-- ENDS

-- of strand u, and of others
module _ (F : ℕ → ℕ → Option StrandEnd) (u : GraphStrand) where
  at_that : (t i : ℕ) → is_that u t i ≡ true → F t i ≡ F u.task u.index
  at_that t i e =
      let task : u.task ≡ t = number_same u.task t (and_left (u.task == t) (u.index == i) e) in
      let index : u.index ≡ i = number_same u.index i (and_right (u.task == t) (u.index == i) e) in
      cc

module _ (told : Told) (u : GraphStrand) (later : Option StrandEnd) where
  put_by_test : (t i : ℕ) (b : Bool) → is_that u t i ≡ b → is_some (end_told told u.task u.index) ≡ false → cond b later (end_told told t i) ≡ (if b then or_later (end_told told t i) later else end_told told t i)
  put_by_test t i true e none = is_put (end_told told t i) (ap is_some (at_that (end_told told) u t i e) ∙ none)
    where
      is_put : (o : Option StrandEnd) → is_some o ≡ false → later ≡ or_later o later
      is_put (Some x) h = absurd (let z : true ≡ false = h in cc)
      is_put None h = refl
  put_by_test t i false e none = refl

  -- another one has this end
  pub end_put : is_some (end_told told u.task u.index) ≡ false → (t i : ℕ) → cond (is_that u t i) later (end_told told t i) ≡ end_after told u later t i
  end_put none t i = put_by_test t i (is_that u t i) refl none

module _ (told : Told) (u : GraphStrand) (later : Option StrandEnd) (first : StrandEnd) where
  back_by : (t i : ℕ) (b : Bool) → is_that u t i ≡ b → end_told told u.task u.index ≡ Some first → cond b (Some first) (cond b later (end_told told t i)) ≡ (if b then or_later (end_told told t i) later else end_told told t i)
  back_by t i true e h = ap (λ (o : Option StrandEnd). or_later o later) (sym (at_that (end_told told) u t i e ∙ h))
  back_by t i false e h = refl

  -- one that ended before gets its end back
  pub end_back : end_told told u.task u.index ≡ Some first → (t i : ℕ) → cond (is_that u t i) (Some first) (cond (is_that u t i) later (end_told told t i)) ≡ end_after told u later t i
  end_back h t i = back_by t i (is_that u t i) refl h

after_none_by : (b : Bool) (o : Option StrandEnd) → o ≡ (if b then or_later o None else o)
after_none_by true o = sym (later_none o)
after_none_by false o = refl

-- nothing ends
pub after_none : (told : Told) (u : GraphStrand) (t i : ℕ) → end_told told t i ≡ end_after told u None t i
after_none told u t i = after_none_by (is_that u t i) (end_told told t i)

after_twice_by : (b : Bool) (o first later : Option StrandEnd) → (if b then or_later (if b then or_later o first else o) later else (if b then or_later o first else o)) ≡ (if b then or_later o (or_later first later) else o)
after_twice_by true None first later = refl
after_twice_by true (Some e) first later = refl
after_twice_by false o first later = refl

-- one end after another
pub after_twice : (old mid : Told) (u : GraphStrand) (first later : Option StrandEnd) (t i : ℕ) → end_told mid t i ≡ end_after old u first t i → end_after mid u later t i ≡ end_after old u (or_later first later) t i
after_twice old mid u first later t i e =
    ap (λ (o : Option StrandEnd). if is_that u t i then or_later o later else o) e ∙ after_twice_by (is_that u t i) (end_told old t i) first later

-- NUMBERS

none_more : (o : Option ℕ) → o ≡ greater o None
none_more None = refl
none_more (Some j) = refl

module _ (F : ℕ → Option ℕ) (u : GraphStrand) where
  top_put_by : (t : ℕ) (b : Bool) → (u.task == t) ≡ b → ((j : ℕ) → F u.task ≡ Some j → j ≤ u.index) → cond b (Some u.index) (F t) ≡ greater (F t) (number_if b u.index)
  top_put_by t true e le =
      let here : u.task ≡ t = number_same u.task t e in
      is_put (F t) (λ j is. le j (ap F here ∙ is))
    where
      is_put : (o : Option ℕ) → ((j : ℕ) → o ≡ Some j → j ≤ u.index) → Some u.index ≡ greater o (Some u.index)
      is_put None h = refl
      is_put (Some j) h = ap Some (let lt = h j refl in let m : u.index ≡ max j u.index = omega (arith, lt) in m)
  top_put_by t false e le = none_more (F t)

  -- the number is the greatest one
  pub top_put : ((j : ℕ) → F u.task ≡ Some j → j ≤ u.index) → (t : ℕ) → cond (u.task == t) (Some u.index) (F t) ≡ greater (F t) (index_of u t)
  top_put le t = top_put_by t (u.task == t) refl le

  top_back_by : (top : ℕ) (t : ℕ) (b : Bool) → (u.task == t) ≡ b → F u.task ≡ Some top → u.index < top → cond b (Some top) (cond b (Some u.index) (F t)) ≡ greater (F t) (number_if b u.index)
  top_back_by top t true e is lt =
      let here : u.task ≡ t = number_same u.task t e in
      let m : max top u.index ≡ top = omega (arith, lt) in
      sym (ap (λ (o : Option ℕ). greater o (Some u.index)) (ap F (sym here) ∙ is) ∙ ap Some m)
  top_back_by top t false e is lt = none_more (F t)

  -- a greater one is put back
  pub top_back : (top : ℕ) → F u.task ≡ Some top → u.index < top → (t : ℕ) → cond (u.task == t) (Some top) (cond (u.task == t) (Some u.index) (F t)) ≡ greater (F t) (index_of u t)
  top_back top is lt t = top_back_by top t (u.task == t) refl is lt

-- TASKS

or_or_by : (a b : Bool) → cond a true b ≡ (b || a)
or_or_by true true = refl
or_or_by true false = refl
or_or_by false true = refl
or_or_by false false = refl

-- a task is there
pub task_put : (tasks : List ℕ) (c t : ℕ) → list_any (λ (m : ℕ). m == t) (tasks ++ c ∷ []) ≡ (list_any (λ (m : ℕ). m == t) tasks || (c == t))
task_put tasks c t = list_any-append (λ (m : ℕ). m == t) tasks (c ∷ []) ∙ ap (λ (b : Bool). list_any (λ (m : ℕ). m == t) tasks || b) (or-false (c == t))

-- a child is joined
pub join_put : (d c : ℕ) (b : Bool) → cond (d == c) true b ≡ (b || ((d == c) || false))
join_put d c b = or_or_by (d == c) b ∙ ap (λ (x : Bool). b || x) (sym (or-false (d == c)))
