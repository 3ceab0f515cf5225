-- The work of a small log.
use Rattle.log_size_laws.proofs.Common.{◌≡◌, ◌+◌, ◌*◌, ◌≤◌, ℕ, Bool, true, false, Option, Some, None, List, [], ◌∷◌, length, map, refl, arith, sum, filter, nat_le, sum-map, sum_by-cons, sum_by-le, all_from, GraphStrand, Event, Act, acts_if_known, known_of, LogTasks, units_of, weight_of, weights_of, work_of, work_told}

pub told_more : (e : Event) (events : List Event) → work_told (e ∷ events) ≡ units_of e.act + work_told events
told_more e events = sum_by-cons (λ (d : Event). units_of d.act) e events

abbrev pub acts_with : (Event → Bool) → List Event → List Act
acts_with p events = map (λ (e : Event). e.act) (filter p events)

-- some of what happens has no more work than all
some_work : (p : Event → Bool) (events : List Event) → work_of (acts_with p events) ≤ work_told events
some_work p [] = omega arith
some_work p (e ∷ events) = by (p e) refl (some_work p events)
  where
    by : (b : Bool) → p e ≡ b → work_of (acts_with p events) ≤ work_told events → work_of (acts_with p (e ∷ events)) ≤ work_told (e ∷ events)
    by true is rest = rw is (
        let more = told_more e events in
        let one = sum_by-cons units_of e.act (acts_with p events) in
        omega (arith, rest, more, one))
    by false is rest = rw is (let more = told_more e events in omega (arith, rest, more))

known_work : (known : Option ℕ) (events : List Event) (numbers : List ℕ) (u : GraphStrand) → work_of (acts_if_known known events numbers u) ≤ work_told events
known_work None events numbers u = omega arith
known_work (Some k) events numbers u = by (nat_le u.index k) refl
  where
    by : (b : Bool) → nat_le u.index k ≡ b → work_of (acts_if_known (Some k) events numbers u) ≤ work_told events
    by true is = rw is (some_work _ events)
    by false is = rw is (omega arith)

-- the work of a log
pub little_work : (events : List Event) (log : LogTasks) (order : List GraphStrand) → sum (weights_of events log order) ≤ length order * work_told events
little_work events log order =
    let each = all_from (λ u. weight_of events log u ≤ work_told events) order (λ u i. known_work (known_of log u.task) events log.numbers u) in
    let all = sum_by-le (weight_of events log) (work_told events) order each in
    let same = sum-map (weight_of events log) order in
    rw same all
