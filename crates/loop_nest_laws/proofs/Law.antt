-- The law: a loop calls each number.
use Rattle.loop_nest_laws.proofs.Common.{◌≡◌, ℕ, ℤ, pos, negsuc, zero, suc, ◌+◌, ◌-◌, ◌^◌, ◌<◌, ◌≤◌, Bool, true, false, cond, Option, Some, None, List, [], ◌∷◌, ◌++◌, length, take, slice_get, nat_lt, inl, inr, refl, ap, sym, subst, ◌∙◌, arith, length-append, ◌+ℤ◌, ◌-ℤ◌, FitsSigned, int_lt, w64, ints, cases_eq, same_Some, contains_from_in, got_same, ProgramText, Name, Frame, Task, Depth, Trapped, MachineState, effect, onward, int_in, with_int, with_ref, entry_frame, ended_by, with_task, frame_limit, follow, setting, result_of, result_in, back_in, after, step_taken, wide, Loop, IsLoop, Activation, StandsAt, ReturnsBy, IsLoopStep, loop_frame, IsInRange, HasReturned, GoesOn, CallsEachNumber, LoopsCallEachNumber, numbers_between, count_of, wrapping_sum}
use Rattle.loop_nest_laws.proofs.Turns.{ended_stands, OnTop, at_next, turn_runs}
use Rattle.loop_nest_laws.proofs.Calls.{Above, Back, above_step}
use Rattle.loop_nest_laws.proofs.Nests.{Told, told_none, one_split}
use Rattle.loop_nest_laws.proofs.Registers.{Holds}
use Rattle.loop_nest_laws.proofs.Frames.{whole_none}
use Rattle.loop_nest_laws.proofs.Loops.{works_for}

module _ (p : ProgramText) (limit : ℕ) (ts : List ℕ) (loop : Loop) (i now : ℕ) (s : IsLoopStep p limit ts loop i) (returned : HasReturned p limit ts loop i s now) where
  abbrev a : Activation
  a = loop_frame p limit ts loop i s

  abbrev x : Task
  x = s.task

  abbrev bs : List Frame
  bs = x.below ++ onward x.top ∷ []

  abbrev y : Task
  y = record x { top = entry_frame loop.whole x.top; below = bs }

  abbrev m0 : MachineState
  m0 = after p limit ts i

  abbrev first : ℤ
  first = int_in x.top 0

  abbrev last : ℤ
  last = int_in x.top 1

  -- AT THE LOOP

  taken : after p limit ts (suc i) ≡ cond (nat_lt (length x.below + 1) frame_limit) (with_task m0 s.t y) (ended_by m0 (Trapped Depth s.t s.line.number))
  taken =
      at_next p limit ts i s.t s.turn.task
      ∙ (step_taken p m0 s.t x s.line s.turn.can s.next.task s.next.fetched
      ∙ ap (λ instr. follow m0 s.t x s.line.number (effect (setting m0 s.t x) x.top m0.store instr)) s.calls)

  by_limit : (c : Bool) → nat_lt (length x.below + 1) frame_limit ≡ c → slice_get (after p limit ts (suc i)).tasks s.t ≡ Some y
  by_limit true c =
      ap (λ (q : MachineState). slice_get q.tasks s.t) (taken ∙ ap (λ z. cond z (with_task m0 s.t y) (ended_by m0 (Trapped Depth s.t s.line.number))) c)
      ∙ got_same m0.tasks s.t x y s.next.task
  by_limit false c =
      let stays : slice_get (after p limit ts (suc i)).tasks s.t ≡ Some x = ap (λ (q : MachineState). slice_get q.tasks s.t) (taken ∙ ap (λ z. cond z (with_task m0 s.t y) (ended_by m0 (Trapped Depth s.t s.line.number))) c) ∙ s.next.task in
      let there = returned.began.high (suc i) (omega arith) (omega arith) in
      let same : there.0 ≡ x = same_Some there.0 x (sym there.1 ∙ stays) in
      let le : length x.below + 1 ≤ length there.0.below = there.2 in
      absurd (omega (arith, ap (λ (z : Task). length z.below) same))

  begun : slice_get (after p limit ts (suc i)).tasks s.t ≡ Some y
  begun = by_limit (nat_lt (length x.below + 1) frame_limit) refl

  long : length bs ≡ length x.below + 1
  long = length-append x.below (onward x.top ∷ [])

  on : OnTop p limit ts a bs x.depth (suc i) (entry_frame loop.whole x.top)
  on = record {
    x = y;
    is = begun;
    run = turn_runs p limit ts i s.t x s.turn s.next.task;
    top = refl;
    below = refl;
    depth = refl;
    stands = returned.began;
    high = long;
  }

  holds : Holds x.top (entry_frame loop.whole x.top) first last
  holds = record { i0 = refl; i1 = refl; ints = λ k un. refl; refs = refl; many = (wide p limit (take i ts) s.t x s.next.task x.top (inl refl)).ints }

  -- UNTIL ITS RETURN

  abbrev Waits : ℕ → Type 0
  Waits j = Above p limit ts s.t x.below x.depth (onward x.top) j

  running_unended : (o : Option (ℤ × Option Name)) → result_in x.status ≡ o → result_in x.status ≡ None
  running_unended None e = e
  running_unended (Some q) e = absurd (ended_stands x.status q (turn_runs p limit ts i s.t x s.turn s.next.task) e)

  at_first : Waits (suc i)
  at_first = record { x = y; is = begun; unended = running_unended (result_in x.status) refl; more = []; below = refl; depth = refl }

  stands_from : (e : ℕ) → suc i ≤ e → ((j : ℕ) → suc i ≤ j → j ≤ e → Waits j) → StandsAt p limit ts a e
  stands_from e le waits = record {
    begun = le;
    high = λ j from to.
        let q = waits j from to in
        let h : length q.x.below ≡ length x.below + length (onward x.top ∷ q.more) = ap length q.below ∙ length-append x.below (onward x.top ∷ q.more) in
        let h2 : length (onward x.top ∷ q.more) ≡ suc (length q.more) = refl in
        (q.x, q.is, omega arith);
  }

  record Ends : Type 0 where
    e : ℕ
    from : suc i ≤ e
    before : e < now
    waits : (j : ℕ) → suc i ≤ j → j ≤ e → Waits j
    back : Back p limit ts s.t x.below x.depth (onward x.top) e

  find : (n j : ℕ) → n + j ≡ now → suc i ≤ j → ((q : ℕ) → suc i ≤ q → q ≤ j → Waits q) → Ends
  find zero j e from waits = absurd (returned.gone (subst (StandsAt p limit ts a) (let h : j ≡ now = omega arith in h) (stands_from j from waits)))
  find (suc n) j e from waits = elim (above_step p limit ts s.t x.below x.depth (onward x.top) j (waits j from (omega arith))) [
    | inl next ↦ find n (suc j) (omega arith) (omega arith) (λ q lo hi. elim (cases_eq q (suc j)) [ inl same ↦ subst Waits (sym same) next | inr ne ↦ waits q lo (omega arith) ])
    | inr back ↦ record { e = j; from = from; before = omega arith; waits = waits; back = back }
  ]

  ends : Ends
  ends = find (now - suc i) (suc i) (let h : suc i ≤ now = returned.later in omega arith) (omega arith) (λ q lo hi. subst Waits (let h : suc i ≡ q = omega arith in h) at_first)

  abbrev result : ℤ × Option Name
  result = result_of ends.back.x.top

  back : ReturnsBy p limit ts a ends.e result.0 result.1
  back = record {
    takes = record {
      task = ends.back.x;
      line = ends.back.line;
      turn = ends.back.turn;
      next = record { task = ends.back.is; fetched = ends.back.at_line };
      stands = stands_from ends.e ends.from ends.waits;
      on_top = ap length ends.back.below ∙ long;
    };
    ret = ends.back.ret;
    value = refl;
  }

  goes_on : (k : ℤ) → result ≡ (k, None) → GoesOn p limit ts loop i s ends.e k
  goes_on k e = record {
    task = record ends.back.x { top = back_in (onward x.top) ends.back.x.top; below = x.below };
    is = ends.back.later;
    run = ends.back.run;
    top = ap (λ (q : ℤ × Option Name). onward (with_ref (with_int x.top 0 q.0) 0 q.1)) e;
    below = refl;
  }

  -- IN THE TERMS OF THE STATEMENT

  module _ (L : IsLoop p loop) (range : IsInRange first last) where
    tells : (n : ℕ) → n ≡ numbers_between first last → Told p limit ts loop L.apart a x.top x.depth first n result.0 × (result.1 ≡ None) → CallsEachNumber p limit ts loop i s now
    tells n e told = let t = told.0 in let is : result ≡ (wrapping_sum t.results, None) = λ z. (t.sum z, told.1 z) in record {
      calls = t.calls;
      results = t.results;
      forks = t.forks;
      end = ends.e;
      before = ends.before;
      each = record { count = t.count ∙ e; as_many = t.results_count ∙ e; one_each = t.each; no_other = λ j c. contains_from_in t.calls j (t.all j c) };
      sum = subst (λ (q : ℤ × Option Name). ReturnsBy p limit ts a ends.e q.0 q.1) is back;
      goes_on = goes_on (wrapping_sum t.results) is;
      nest_forks = record {
        each = t.forks_each;
        once = λ j h q is_j is_h. once j h (one_split p limit ts loop L.apart q (first +ℤ pos (suc j)) (first +ℤ pos (suc h)) (t.forks_split j q is_j) (t.forks_split h q is_h));
        no_other = λ j c. contains_from_in t.forks j (t.forks_all j c);
      };
      one_less = t.forks_count ∙ ap (λ z. z - 1) e;
      levels = λ h le b z within is. t.levels h (subst (λ q. q ≤ 2 ^ h) (sym e) le) b z within is;
    }
      where
        once : (j h : ℕ) → first +ℤ pos (suc j) ≡ first +ℤ pos (suc h) → j ≡ h
        once j h same = omega (arith, ints)

    by_difference : (z : ℤ) → last -ℤ first ≡ z → CallsEachNumber p limit ts loop i s now
    by_difference (pos n) e =
        let is : last ≡ first +ℤ pos n = omega (arith, ints) in
        tells n (sym (ap count_of e)) (works_for p limit ts loop L n a bs x.depth (entry_frame loop.whole x.top) x.top first ends.e result.0 result.1 on refl refl
        (subst (λ z. Holds x.top (entry_frame loop.whole x.top) first z) is holds) range.first_fits (subst (FitsSigned w64) is range.last_fits) (subst (FitsSigned w64) e range.difference) back)
    by_difference (negsuc n) e =
        let run = whole_none p limit ts a bs x.depth ends.e back.takes back.ret long loop L x.top first last (suc i) (entry_frame loop.whole x.top) ends.from on refl refl holds (none (int_lt first last) refl) in
        let same : (pos 0, None) ≡ result = sym run.0 ∙ back.value in
        tells 0 (sym (ap count_of e)) (
          subst (Told p limit ts loop L.apart a x.top x.depth first 0) (ap (λ (z : ℤ × Option Name). z.0) same)
              (told_none p limit ts loop L.apart a x.top x.depth first (λ q is. ap (λ (z : Task). z.depth) (same_Some q y (sym is ∙ begun))) (λ j v. run.1 j v v.stands.begun)),
          sym (ap (λ (z : ℤ × Option Name). z.1) same),
        )
      where
        none : (b : Bool) → int_lt first last ≡ b → int_lt first last ≡ false
        none true h = absurd (omega (arith, ints))
        none false h = h

    calls_each : CallsEachNumber p limit ts loop i s now
    calls_each = by_difference (last -ℤ first) refl

pub loops_call_each_number : LoopsCallEachNumber
loops_call_each_number p limit ts loop i now s L range returned = calls_each p limit ts loop i now s returned L range
