-- The work of a log is that of its acts, if each is on a strand of the graph up to which its task is known.
use Rattle.log_size_laws.proofs.Common.{◌≡◌, ◌+◌, ◌<◌, ◌&&◌, ◌==◌, ℕ, Bool, true, false, cond, Option, Some, None, List, [], ◌∷◌, length, refl, ap, sym, subst, ◌∙◌, arith, inl, inr, sum, sum_by, nat_le, fun_ext, and_from, and_parts, eqb-true, eq-eqb, sum-map, sum_by-cons, In, got_in, in_got, HasStrand, IsAncestor, strand, tasks_in, GraphStrand, rooted_attached, strand_is, AreDifferent, Event, is_on, AreNestedTasks, acts_if_known, known_of, log_strand, told_number, order_of, LogTasks, units_of, weight_of, weights_of, work_of, work_told}
use Rattle.log_size_laws.proofs.Strands as graph
use Rattle.log_size_laws.proofs.Weights.{acts_with, told_more}

-- SUMS

sum_none : {A : Type 0} (xs : List A) → sum_by (λ (x : A). 0) xs ≡ 0
sum_none [] = refl
sum_none (x ∷ xs) = let rest = sum_none xs in let all = sum_by-cons (λ y. 0) x xs in omega (arith, rest, all)

sum_both : {A : Type 0} (f g : A → ℕ) (xs : List A) → sum_by (λ x. f x + g x) xs ≡ sum_by f xs + sum_by g xs
sum_both f g [] = refl
sum_both f g (x ∷ xs) =
    let rest = sum_both f g xs in
    let all = sum_by-cons (λ y. f y + g y) x xs in
    let one = sum_by-cons f x xs in
    let other = sum_by-cons g x xs in
    omega (arith, rest, all, one, other)

-- k for each thing that passes the test
abbrev sum_if : {A : Type 0} → (A → Bool) → ℕ → List A → ℕ
sum_if p k xs = sum_by (λ x. cond (p x) k 0) xs

sum_more : {A : Type 0} (p : A → Bool) (k : ℕ) (x : A) (xs : List A) (b : Bool) → p x ≡ b → sum_if p k (x ∷ xs) ≡ cond b k 0 + sum_if p k xs
sum_more p k x xs b is = sum_by-cons (λ y. cond (p y) k 0) x xs ∙ ap (λ c. cond c k 0 + sum_if p k xs) is

-- nothing passes it
sum_out : {A : Type 0} (p : A → Bool) (k : ℕ) (xs : List A) → ((x : A) → In xs x → p x ≡ true → ⊥) → sum_if p k xs ≡ 0
sum_out p k [] none = refl
sum_out p k (x ∷ xs) none = by (p x) refl (sum_out p k xs (λ y i. none y (inr i)))
  where
    by : (b : Bool) → p x ≡ b → sum_if p k xs ≡ 0 → sum_if p k (x ∷ xs) ≡ 0
    by true e rest = absurd (none x (inl refl) e)
    by false e rest = let more : sum_if p k (x ∷ xs) ≡ 0 + sum_if p k xs = sum_more p k x xs false e in omega (arith, more, rest)

-- just one thing passes it
sum_one : {A : Type 0} (p : A → Bool) (k : ℕ) (xs : List A) (x : A) → AreDifferent xs → In xs x → p x ≡ true → ((y : A) → In xs y → p y ≡ true → y ≡ x) → sum_if p k xs ≡ k
sum_one p k [] x different i passes only = absurd i
sum_one p k (y ∷ ys) x different (inl same) passes only =
    let more : sum_if p k (y ∷ ys) ≡ k + sum_if p k ys = sum_more p k y ys true (ap p same ∙ passes) in
    let out = sum_out p k ys (λ z i e. different.0 (subst (In ys) (only z (inr i) e ∙ sym same) i)) in
    omega (arith, more, out)
sum_one p k (y ∷ ys) x different (inr i) passes only = by (p y) refl (sum_one p k ys x different.1 i passes (λ z j. only z (inr j)))
  where
    by : (b : Bool) → p y ≡ b → sum_if p k ys ≡ k → sum_if p k (y ∷ ys) ≡ k
    by true e rest = absurd (different.0 (subst (In ys) (sym (only y (inl refl) e)) i))
    by false e rest = let more : sum_if p k (y ∷ ys) ≡ 0 + sum_if p k ys = sum_more p k y ys false e in omega (arith, more, rest)

-- THE WEIGHT OF A STRAND

-- a task is known up to this strand
abbrev pub knows : Option ℕ → ℕ → Bool
knows None i = false
knows (Some known) i = nat_le i known

-- the work of the acts that pass a test
abbrev work_by : (Event → Bool) → List Event → ℕ
work_by p events = sum_by (λ (e : Event). cond (p e) (units_of e.act) 0) events

work_more : (p : Event → Bool) (e : Event) (events : List Event) (b : Bool) → p e ≡ b → work_by p (e ∷ events) ≡ cond b (units_of e.act) 0 + work_by p events
work_more p e events b is = sum_by-cons (λ (d : Event). cond (p d) (units_of d.act) 0) e events ∙ ap (λ c. cond c (units_of e.act) 0 + work_by p events) is

work_with : (p : Event → Bool) (events : List Event) → work_of (acts_with p events) ≡ work_by p events
work_with p [] = refl
work_with p (e ∷ events) = by (p e) refl (work_with p events)
  where
    by : (b : Bool) → p e ≡ b → work_of (acts_with p events) ≡ work_by p events → work_of (acts_with p (e ∷ events)) ≡ work_by p (e ∷ events)
    by true is rest =
        let more : work_by p (e ∷ events) ≡ units_of e.act + work_by p events = work_more p e events true is in
        let first : work_of (acts_with p (e ∷ events)) ≡ units_of e.act + work_of (acts_with p events) = rw is (sum_by-cons units_of e.act (acts_with p events)) in
        omega (arith, more, first, rest)
    by false is rest =
        let more : work_by p (e ∷ events) ≡ 0 + work_by p events = work_more p e events false is in
        let first : work_of (acts_with p (e ∷ events)) ≡ work_of (acts_with p events) = rw is refl in
        omega (arith, more, first, rest)

known_work : (known : Option ℕ) (events : List Event) (numbers : List ℕ) (u : GraphStrand) → work_of (acts_if_known known events numbers u) ≡ work_by (λ e. knows known u.index && is_on (log_strand numbers u) e) events
known_work None events numbers u = sym (sum_none events)
known_work (Some k) events numbers u = by (nat_le u.index k) refl
  where
    by : (b : Bool) → nat_le u.index k ≡ b → work_of (acts_if_known (Some k) events numbers u) ≡ work_by (λ e. nat_le u.index k && is_on (log_strand numbers u) e) events
    by true is = rw is (work_with (is_on (log_strand numbers u)) events)
    by false is = rw is (sym (sum_none events))

-- ALL STRANDS

-- the act is on a strand of the graph up to which its task is known
pub record IsKnownAct (log : LogTasks) (e : Event) : Type 0 where
  pub stands : HasStrand (tasks_in log.turns) e.strand
  pub rooted : IsAncestor (tasks_in log.turns) 0 e.strand.task
  pub known : knows (known_of log e.strand.task) e.strand.index ≡ true

module _ (log : LogTasks) (nested : AreNestedTasks log.turns) (plain : (t : ℕ) → t < length log.turns → told_number log.numbers t ≡ t) where
  abbrev order : List GraphStrand
  order = order_of log

  -- strand u does e
  abbrev does : GraphStrand → Event → Bool
  does u e = knows (known_of log u.task) u.index && is_on (log_strand log.numbers u) e

  -- the number of the strand's task is its own
  named : (u : GraphStrand) → u.task < length log.turns → log_strand log.numbers u ≡ u
  named u lt = ap (λ t. strand t u.index) (plain u.task lt) ∙ sym (strand_is u u.task u.index refl refl)

  few : (t : ℕ) → IsAncestor (tasks_in log.turns) 0 t → t < length log.turns
  few t above = graph.task_below (tasks_in log.turns) (length log.turns) nested.nested nested.some nested.below t above

  placed : (e : Event) → IsKnownAct log e → In order e.strand
  placed e k =
      let at = (graph.O (tasks_in log.turns) (length log.turns) nested.nested nested.some nested.below).all e.strand (rooted_attached (tasks_in log.turns) e.strand (record { stands = k.stands; rooted = k.rooted })) in
      got_in order at.0 e.strand at.1

  itself : (e : Event) → is_on e.strand e ≡ true
  itself e = and_from (e.strand.task == e.strand.task) (e.strand.index == e.strand.index) (eq-eqb e.strand.task e.strand.task refl) (eq-eqb e.strand.index e.strand.index refl)

  done : (e : Event) → IsKnownAct log e → does e.strand e ≡ true
  done e k =
      and_from (knows (known_of log e.strand.task) e.strand.index) (is_on (log_strand log.numbers e.strand) e) k.known
      (ap (λ u. is_on u e) (named e.strand (few e.strand.task k.rooted)) ∙ itself e)

  only : (e : Event) (u : GraphStrand) → In order u → does u e ≡ true → u ≡ e.strand
  only e u i passes =
      let at = in_got order u i in
      let lt = few u.task (graph.stands (tasks_in log.turns) (length log.turns) nested.nested nested.some nested.below at.0 u at.1).rooted in
      let on : is_on u e ≡ true = ap (λ v. is_on v e) (sym (named u lt)) ∙ (and_parts (knows (known_of log u.task) u.index) (is_on (log_strand log.numbers u) e) passes).1 in
      let same = and_parts (e.strand.task == u.task) (e.strand.index == u.index) on in
      strand_is u e.strand.task e.strand.index (sym (eqb-true e.strand.task u.task same.0)) (sym (eqb-true e.strand.index u.index same.1))
      ∙ sym (strand_is e.strand e.strand.task e.strand.index refl refl)

  differ : AreDifferent order
  differ = graph.different_strands (tasks_in log.turns) (length log.turns) nested.nested nested.some nested.below

  -- the work of an act on a strand, and that of many
  abbrev one_on : Event → GraphStrand → ℕ
  one_on e u = cond (does u e) (units_of e.act) 0

  abbrev all_on : List Event → GraphStrand → ℕ
  all_on events u = work_by (does u) events

  all_strands : (events : List Event) → ((e : Event) → In events e → IsKnownAct log e) → sum_by (all_on events) order ≡ work_told events
  all_strands [] known = sum_none order
  all_strands (e ∷ events) known =
      let k = known e (inl refl) in
      let split : ◌≡◌ {A = GraphStrand → ℕ} (all_on (e ∷ events)) (λ u. one_on e u + all_on events u) = fun_ext (λ u. work_more (does u) e events (does u e) refl) in
      let first : sum_by (all_on (e ∷ events)) order ≡ sum_by (λ u. one_on e u + all_on events u) order = ap (λ (f : GraphStrand → ℕ). sum_by f order) split in
      let both : sum_by (λ u. one_on e u + all_on events u) order ≡ sum_by (one_on e) order + sum_by (all_on events) order = sum_both (one_on e) (all_on events) order in
      let one : sum_by (one_on e) order ≡ units_of e.act = sum_one (λ u. does u e) (units_of e.act) order e.strand differ (placed e k) (done e k) (only e) in
      let rest : sum_by (all_on events) order ≡ work_told events = all_strands events (λ d i. known d (inr i)) in
      let all = told_more e events in
      omega (arith, first, both, one, rest, all)

  pub told_work : (events : List Event) → ((e : Event) → In events e → IsKnownAct log e) → sum (weights_of events log order) ≡ work_told events
  told_work events known =
      let same : ◌≡◌ {A = GraphStrand → ℕ} (weight_of events log) (all_on events) = fun_ext (λ u. known_work (known_of log u.task) events log.numbers u) in
      sum-map (weight_of events log) order ∙ (ap (λ (f : GraphStrand → ℕ). sum_by f order) same ∙ all_strands events known)
