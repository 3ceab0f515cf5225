-- The ways of strands up to the root, as they are computed.
use Rattle.run_order.proofs.Common.{◌≡◌, ◌==◌, ◌&&◌, ℕ, zero, suc, ◌+◌, ◌<◌, ◌≤◌, Bool, true, false, cond, Option, Some, None, List, [], ◌∷◌, length, slice_get, get_or, position, find, nat_lt, eqb, ◌⊎◌, inl, inr, refl, ap, sym, subst, ◌∙◌, arith, eq-eqb, if◌then◌else◌, cases_eq, cases_lt, eqb-true, false≢true, lt-ltb, ltb-true, position_or_len_is, same_Some, slice_get_within, slice_get-get_or, position_or_len, option_is, In, any_from_in, in_from_any, none_some, GraphTurn, Join, GraphStrand, tasks_in, strand, Does, IsParent, IsAncestor, IsExit, AreLevels, IsSerialOrder, IsLine, itself, same_ancestor, below, up_cases, no_root_parent, parent_line, IsRooted, serial_order_extends, levels_are_few, joined_before, strand_at, task_at, WalkValue, IsWalked, IsExitAt, line_short, is_joined, joined_mark, same_joined, after_join, if_there, steps_from, way_up, is_above_strand, exit_of}
use Rattle.run_order.proofs.Exits.{at_place, strand_is_at, rooted_at, next_there}

-- PLACES OF WHAT PASSES A TEST

and_true : (b c : Bool) → (b && c) ≡ true → (b ≡ true) × (c ≡ true)
and_true true c h = (refl, h)
and_true false c h = absurd (false≢true h)

not_true : (b : Bool) → (b ≡ true → ⊥) → b ≡ false
not_true true none = absurd (none refl)
not_true false none = refl

module _ {A : Type 0} (p : A → Bool) (xs : List A) where
  -- the one that passes
  position_one : (e : ℕ) (x : A) → slice_get xs e ≡ Some x → p x ≡ true → ((k : ℕ) (y : A) → slice_get xs k ≡ Some y → p y ≡ true → k ≡ e) → position p xs ≡ Some e
  position_one e x h pass one =
      let lt : e < length xs = slice_get_within xs e x h in
      let is : position_or_len p xs ≡ e =
      position_or_len_is p xs e x (omega arith)
      (λ k less. not_true (p (get_or xs k x)) (λ t. let same : k ≡ e = one k (get_or xs k x) (slice_get-get_or xs k x (omega arith)) t in omega arith))
      (λ within. subst (λ y. p y ≡ true) (same_Some x (get_or xs e x) (sym h ∙ slice_get-get_or xs e x lt)) pass) in
      ap (λ m. cond (nat_lt m (length xs)) (Some m) None) is ∙ ap (λ b. cond b (Some e) None) (lt-ltb e (length xs) lt)

  position_none : A → ((k : ℕ) (y : A) → slice_get xs k ≡ Some y → p y ≡ true → ⊥) → position p xs ≡ None
  position_none d none =
      let is : position_or_len p xs ≡ length xs =
      position_or_len_is p xs (length xs) d (omega arith)
      (λ k less. not_true (p (get_or xs k d)) (none k (get_or xs k d) (slice_get-get_or xs k d less)))
      (λ within. absurd (omega arith)) in
      ap (λ m. cond (nat_lt m (length xs)) (Some m) None) is
      ∙ ap (λ b. cond b (Some (length xs)) None) (not_true (nat_lt (length xs) (length xs)) (λ t. let lt : length xs < length xs = ltb-true (length xs) (length xs) t in omega arith))

both_below : (i j n : ℕ) → (nat_lt i n && nat_lt j n) ≡ true → (i < n) × (j < n)
both_below i j n h = let p = and_true (nat_lt i n) (nat_lt j n) h in (ltb-true i n p.0, ltb-true j n p.1)

option_is_some : (o : Option ℕ) (n : ℕ) → option_is o n ≡ true → o ≡ Some n
option_is_some None n h = absurd (false≢true h)
option_is_some (Some m) n h = ap Some (eqb-true m n h)

-- WAYS

module _ (walk : WalkValue) (w : IsWalked walk) where
  pub levels : AreLevels (tasks_in walk.tasks) (length walk.tasks)
  levels = levels_are_few (tasks_in walk.tasks) (length walk.tasks) w.nested.fork_join w.some w.below

  pub serial : IsSerialOrder (tasks_in walk.tasks) walk.order
  serial = subst (IsSerialOrder (tasks_in walk.tasks)) (sym w.order) (serial_order_extends (tasks_in walk.tasks) (length walk.tasks) w.nested levels)

  pub rooted : (i : ℕ) → i < length walk.order → IsRooted (tasks_in walk.tasks) (strand_at walk.order i)
  rooted i lt = rooted_at (tasks_in walk.tasks) walk.order w.nested serial i lt

  rooted_place : (k : ℕ) (y : GraphStrand) → slice_get walk.order k ≡ Some y → IsRooted (tasks_in walk.tasks) y
  rooted_place k y h =
      subst (IsRooted (tasks_in walk.tasks)) (strand_is_at (tasks_in walk.tasks) walk.order w.nested serial k y h) (rooted k (slice_get_within walk.order k y h))

  joined_place : (q j c e : ℕ) → Does (tasks_in walk.tasks) q j (Join c) → slice_get walk.order e ≡ Some (strand q (j + 1)) → after_join walk c ≡ Some e
  joined_place q j c e jn h =
      let mark : joined_before (tasks_in walk.tasks) (strand q (j + 1)) ≡ Some c = joined_mark (tasks_in walk.tasks) q j c jn in
      position_one (λ u. option_is (joined_before (tasks_in walk.tasks) u) c) walk.order e (strand q (j + 1)) h
      (ap (λ o. option_is o c) mark ∙ eq-eqb c c refl)
      (λ k y hk t.
      let same = same_joined (tasks_in walk.tasks) w.nested.fork_join y (strand q (j + 1)) c
      (option_is_some (joined_before (tasks_in walk.tasks) y) c t) mark in
      serial.once k e (strand q (j + 1)) (hk ∙ ap Some same) h)

  root_stays : after_join walk 0 ≡ None
  root_stays =
      position_none (λ u. option_is (joined_before (tasks_in walk.tasks) u) 0) walk.order (strand 0 0)
      (λ k y h t.
      let m = is_joined (tasks_in walk.tasks) y 0 (option_is_some (joined_before (tasks_in walk.tasks) y) 0 t) in
      let s = w.nested.fork_join.joins_own 0 y.task m.0 m.2 in
      w.nested.fork_join.root y.task s.0 s.2)

  -- where the parent of a task goes on after its join
  record IsNext (p t e : ℕ) : Type 0 where
    pub found : after_join walk t ≡ Some e
    pub within : e < length walk.order
    pub turn : ℕ
    pub joins : Does (tasks_in walk.tasks) p turn (Join t)
    pub at : strand_at walk.order e ≡ strand p (turn + 1)

  next_step : (p t : ℕ) → IsAncestor (tasks_in walk.tasks) 0 p → IsParent (tasks_in walk.tasks) p t → (e : ℕ) × IsNext p t e
  next_step p t root par =
      let join = w.nested.all_joined t p par.0 par.1 in
      let e = next_there (tasks_in walk.tasks) walk.order w.nested serial p join.0 t root join.1 in (
        e.0,
        record {
          found = joined_place p join.0 t e.0 join.1 e.1;
          within = slice_get_within walk.order e.0 (strand p (join.0 + 1)) e.1;
          turn = join.0;
          joins = join.1;
          at = strand_is_at (tasks_in walk.tasks) walk.order w.nested serial e.0 (strand p (join.0 + 1)) e.1;
        },
      )

  next_task : (p t e : ℕ) → IsNext p t e → task_at walk.order e ≡ p
  next_task p t e s = ap (λ (u : GraphStrand). u.task) s.at

  abbrev next : ℕ → Option ℕ
  next e = after_join walk (task_at walk.order e)

  abbrev Goes : ℕ → ℕ → List ℕ
  Goes most i = steps_from next most i

  -- THE LENGTH OF A WAY

  way_length : (k most i : ℕ) → k < most → i < length walk.order → IsLine (tasks_in walk.tasks) 0 k (task_at walk.order i) → length (Goes most i) ≡ suc k
  way_length k zero i less lt line = absurd (omega arith)
  way_length zero (suc most) i less lt line = ap (λ o. length (i ∷ if_there (Goes most) o)) (ap (after_join walk) line ∙ root_stays)
  way_length (suc k) (suc most) i less lt (p, up, par) =
      let s = next_step p (task_at walk.order i) (k, up) par in
      ap (λ o. length (i ∷ if_there (Goes most) o)) s.1.found
      ∙ ap suc (way_length k most s.0 (omega arith) s.1.within
      (subst (λ x. IsLine (tasks_in walk.tasks) 0 k x) (sym (next_task p (task_at walk.order i) s.0 s.1)) up))

  pub line_at : (i : ℕ) → i < length walk.order → (k : ℕ) × IsLine (tasks_in walk.tasks) 0 k (task_at walk.order i) × (k < length walk.tasks)
  line_at i lt =
      let r = (rooted i lt).rooted in
      (r.0, r.1, line_short walk.tasks w.nested.fork_join w.some w.below r.0 (task_at walk.order i) r.1)

  pub way_up_length : (k i : ℕ) → i < length walk.order → IsLine (tasks_in walk.tasks) 0 k (task_at walk.order i) → length (way_up walk i) ≡ suc k
  way_up_length k i lt line = way_length k (length walk.tasks) i (line_short walk.tasks w.nested.fork_join w.some w.below k (task_at walk.order i) line) lt line

  -- WHAT A WAY PASSES

  way_in : (k most i e : ℕ) → i < length walk.order → IsLine (tasks_in walk.tasks) 0 k (task_at walk.order i) → In (Goes most i) e
      → IsAncestor (tasks_in walk.tasks) (task_at walk.order e) (task_at walk.order i)
  way_in k zero i e lt line h = absurd h
  way_in k (suc most) i e lt line (inl same) = same_ancestor (tasks_in walk.tasks) (task_at walk.order e) (task_at walk.order i) (ap (task_at walk.order) same)
  way_in zero (suc most) i e lt line (inr more) = absurd (subst (λ o. In (if_there (Goes most) o) e) (ap (after_join walk) line ∙ root_stays) more)
  way_in (suc k) (suc most) i e lt line (inr more) =
      let p = line.0 in
      let up = line.1 in
      let par = line.2 in
      let s = next_step p (task_at walk.order i) (k, up) par in
      let is = next_task p (task_at walk.order i) s.0 s.1 in
      let further = way_in k most s.0 e s.1.within (subst (λ x. IsLine (tasks_in walk.tasks) 0 k x) (sym is) up) (subst (λ o. In (if_there (Goes most) o) e) s.1.found more) in
      below (tasks_in walk.tasks) (task_at walk.order e) p (task_at walk.order i) (subst (IsAncestor (tasks_in walk.tasks) (task_at walk.order e)) is further) par

  way_has : (k most i t : ℕ) → k < most → i < length walk.order → IsLine (tasks_in walk.tasks) 0 k (task_at walk.order i) → IsAncestor (tasks_in walk.tasks) t (task_at walk.order i)
      → (e : ℕ) × In (Goes most i) e × (task_at walk.order e ≡ t)
  way_has k zero i t less lt line up = absurd (omega arith)
  way_has zero (suc most) i t less lt line up =
      elim (up_cases (tasks_in walk.tasks) t (task_at walk.order i) up) [
        | inl same ↦ (i, inl refl, same)
        | inr (p, more, par) ↦ no_root_parent (tasks_in walk.tasks) w.nested.fork_join p (subst (IsParent (tasks_in walk.tasks) p) line par)
      ]
  way_has (suc k) (suc most) i t less lt (p, line, par) up =
      elim (cases_eq (task_at walk.order i) t) [
        | inl same ↦ (i, inl refl, same)
        | inr apart ↦
            let s = next_step p (task_at walk.order i) (k, line) par in
            let is = next_task p (task_at walk.order i) s.0 s.1 in
            let over = parent_line (tasks_in walk.tasks) w.nested.fork_join t p (task_at walk.order i) apart par up in
            let m = way_has k most s.0 t (omega arith) s.1.within (subst (λ x. IsLine (tasks_in walk.tasks) 0 k x) (sym is) line) (subst (IsAncestor (tasks_in walk.tasks) t) (sym is) over) in
            (m.0, inr (subst (λ o. In (if_there (Goes most) o) m.0) (sym s.1.found) m.1), m.2)
      ]

  above_is : (t j : ℕ) → j < length walk.order → is_above_strand walk t j ≡ true → IsAncestor (tasks_in walk.tasks) t (task_at walk.order j)
  above_is t j lt h =
      let line = line_at j lt in
      let m = in_from_any (λ e. task_at walk.order e == t) (way_up walk j) h in
      subst (λ x. IsAncestor (tasks_in walk.tasks) x (task_at walk.order j)) (eqb-true (task_at walk.order m.0) t m.2)
      (way_in line.0 (length walk.tasks) j m.0 lt line.1 m.1)

  is_above_if : (t j : ℕ) → j < length walk.order → IsAncestor (tasks_in walk.tasks) t (task_at walk.order j) → is_above_strand walk t j ≡ true
  is_above_if t j lt up =
      let line = line_at j lt in
      let m = way_has line.0 (length walk.tasks) j t line.2 lt line.1 up in
      any_from_in (λ e. task_at walk.order e == t) (way_up walk j) m.0 m.1 (eq-eqb (task_at walk.order m.0) t m.2)

  -- WHERE A WAY COMES IN

  abbrev Finds : ℕ → ℕ → ℕ → ℕ → Type 0
  Finds most i j e = (find (λ x. is_above_strand walk (task_at walk.order x) j) (Goes most i) ≡ Some e) × (e < length walk.order) × IsExitAt (tasks_in walk.tasks) walk.order i j e

  own_exit : (i j : ℕ) → i < length walk.order → IsAncestor (tasks_in walk.tasks) (task_at walk.order i) (task_at walk.order j) → IsExitAt (tasks_in walk.tasks) walk.order i j i
  own_exit i j lt up = record {
    task = task_at walk.order i;
    index = (strand_at walk.order i).index;
    lowest = record { above_first = itself (tasks_in walk.tasks) (task_at walk.order i); above_second = up; lowest = λ p here there. here };
    exit = inl (refl, refl);
    at = at_place (tasks_in walk.tasks) walk.order w.nested serial i lt;
  }

  parent_exit : (i p f q k : ℕ) → IsParent (tasks_in walk.tasks) p (task_at walk.order i) → IsNext p (task_at walk.order i) f → IsExit (tasks_in walk.tasks) q (strand_at walk.order f) k
      → IsExit (tasks_in walk.tasks) q (strand_at walk.order i) k
  parent_exit i p f q k par s (inl (et, ei)) =
      let is : p ≡ q = sym (next_task p (task_at walk.order i) f s) ∙ et in
      inr (
        task_at walk.order i,
        s.turn,
        itself (tasks_in walk.tasks) (task_at walk.order i),
        subst (λ x. Does (tasks_in walk.tasks) x s.turn (Join (task_at walk.order i))) is s.joins,
        sym ei ∙ ap (λ (u : GraphStrand). u.index) s.at,
      )
  parent_exit i p f q k par s (inr (c, m, up, jn, ek)) =
      inr (c, m, below (tasks_in walk.tasks) c p (task_at walk.order i) (subst (IsAncestor (tasks_in walk.tasks) c) (next_task p (task_at walk.order i) f s) up) par, jn, ek)

  further_exit : (i j p f e : ℕ) → IsParent (tasks_in walk.tasks) p (task_at walk.order i) → IsNext p (task_at walk.order i) f
      → (IsAncestor (tasks_in walk.tasks) (task_at walk.order i) (task_at walk.order j) → ⊥) → IsExitAt (tasks_in walk.tasks) walk.order f j e → IsExitAt (tasks_in walk.tasks) walk.order i j e
  further_exit i j p f e par s apart x =
      let is = next_task p (task_at walk.order i) f s in
      record {
        task = x.task;
        index = x.index;
        lowest = record {
          above_first = below (tasks_in walk.tasks) x.task p (task_at walk.order i) (subst (IsAncestor (tasks_in walk.tasks) x.task) is x.lowest.above_first) par;
          above_second = x.lowest.above_second;
          lowest = λ q here there.
              x.lowest.lowest q
              (subst (IsAncestor (tasks_in walk.tasks) q) (sym is)
              (parent_line (tasks_in walk.tasks) w.nested.fork_join q p (task_at walk.order i)
              (λ same. apart (subst (λ y. IsAncestor (tasks_in walk.tasks) y (task_at walk.order j)) (sym same) there)) par here))
              there;
        };
        exit = parent_exit i p f x.task x.index par s x.exit;
        at = x.at;
      }

  found_here : (most i j : ℕ) → i < length walk.order → j < length walk.order → is_above_strand walk (task_at walk.order i) j ≡ true → (e : ℕ) × Finds (suc most) i j e
  found_here most i j lt lt' e = (
    i,
    (
      ap (λ t. cond t (Some i) (find (λ x. is_above_strand walk (task_at walk.order x) j) (if_there (Goes most) (next i)))) e,
      lt,
      own_exit i j lt (above_is (task_at walk.order i) j lt' e),
    ),
  )

  found_further : (m most i j p : ℕ) → i < length walk.order → j < length walk.order → is_above_strand walk (task_at walk.order i) j ≡ false
      → ((f : ℕ) → f < length walk.order → IsLine (tasks_in walk.tasks) 0 m (task_at walk.order f) → (e : ℕ) × Finds most f j e)
      → IsLine (tasks_in walk.tasks) 0 m p → IsParent (tasks_in walk.tasks) p (task_at walk.order i) → (e : ℕ) × Finds (suc most) i j e
  found_further m most i j p lt lt' e again up par =
      let s = next_step p (task_at walk.order i) (m, up) par in
      let found = again s.0 s.1.within (subst (λ x. IsLine (tasks_in walk.tasks) 0 m x) (sym (next_task p (task_at walk.order i) s.0 s.1)) up) in (
        found.0,
        (
          ap (λ t. cond t (Some i) (find (λ x. is_above_strand walk (task_at walk.order x) j) (if_there (Goes most) (next i)))) e
              ∙ (ap (λ o. find (λ x. is_above_strand walk (task_at walk.order x) j) (if_there (Goes most) o)) s.1.found ∙ found.1.0),
          found.1.1,
          further_exit i j p s.0 found.0 par s.1 (λ over. false≢true (sym e ∙ is_above_if (task_at walk.order i) j lt' over)) found.1.2,
        ),
      )

  found_by : (k most i j : ℕ) → k < suc most → i < length walk.order → j < length walk.order → IsLine (tasks_in walk.tasks) 0 k (task_at walk.order i)
      → ((m f : ℕ) → m < most → f < length walk.order → IsLine (tasks_in walk.tasks) 0 m (task_at walk.order f) → (e : ℕ) × Finds most f j e)
      → (b : Bool) → is_above_strand walk (task_at walk.order i) j ≡ b → (e : ℕ) × Finds (suc most) i j e
  found_by k most i j less lt lt' line again true e = found_here most i j lt lt' e
  found_by zero most i j less lt lt' line again false e =
      absurd (false≢true (sym e ∙ is_above_if (task_at walk.order i) j lt' (subst (λ t. IsAncestor (tasks_in walk.tasks) t (task_at walk.order j)) (sym line) (rooted j lt').rooted)))
  found_by (suc m) most i j less lt lt' line again false e =
      found_further m most i j line.0 lt lt' e (λ f within more. again m f (omega arith) within more) line.1 line.2

  exit_found : (k most i j : ℕ) → k < most → i < length walk.order → j < length walk.order → IsLine (tasks_in walk.tasks) 0 k (task_at walk.order i) → (e : ℕ) × Finds most i j e
  exit_found k zero i j less lt lt' line = absurd (omega arith)
  exit_found k (suc most) i j less lt lt' line =
      found_by k most i j less lt lt' line (λ m f few within more. exit_found m most f j few within lt' more) (is_above_strand walk (task_at walk.order i) j) refl

  abbrev pub Exits : ℕ → ℕ → ℕ → Type 0
  Exits i j e = (exit_of walk i j ≡ Some e) × (e < length walk.order) × IsExitAt (tasks_in walk.tasks) walk.order i j e

  pub exit_is : (i j : ℕ) → i < length walk.order → j < length walk.order → (e : ℕ) × Exits i j e
  exit_is i j lt lt' =
      let line = line_at i lt in
      let found = exit_found line.0 (length walk.tasks) i j line.2 lt lt' line.1 in
      let is = found.1.0 in (
        found.0,
        (
          ap (λ b. if b && nat_lt j (length walk.order) then find (λ x. is_above_strand walk (task_at walk.order x) j) (way_up walk i) else None) (lt-ltb i (length walk.order) lt)
              ∙ (ap (λ b. if b then find (λ x. is_above_strand walk (task_at walk.order x) j) (way_up walk i) else None) (lt-ltb j (length walk.order) lt') ∙ is),
          found.1.1,
          found.1.2,
        ),
      )

  exit_none : (i j : ℕ) → ((i < length walk.order) × (j < length walk.order) → ⊥) → exit_of walk i j ≡ None
  exit_none i j apart =
      ap (λ b. if b then find (λ x. is_above_strand walk (task_at walk.order x) j) (way_up walk i) else None)
      (not_true (nat_lt i (length walk.order) && nat_lt j (length walk.order)) (λ h. apart (both_below i j (length walk.order) h)))

  pub exit_within : (i j e : ℕ) → exit_of walk i j ≡ Some e → (i < length walk.order) × (j < length walk.order)
  exit_within i j e h =
      elim (cases_lt i (length walk.order)) [
        | inr ge ↦ none_some (sym (exit_none i j (λ p. let lt : i < length walk.order = p.0 in omega arith)) ∙ h)
        | inl lt ↦ elim (cases_lt j (length walk.order)) [
          | inr ge ↦ none_some (sym (exit_none i j (λ p. let lt' : j < length walk.order = p.1 in omega arith)) ∙ h)
          | inl lt' ↦ (lt, lt')
        ]
      ]
