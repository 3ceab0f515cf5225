-- A loop calls each number: by induction on the number of numbers.
use Rattle.loop_nest_laws.proofs.Common.{◌≡◌, ℕ, ℤ, pos, zero, suc, ◌+◌, ◌-◌, ◌/◌, ◌<◌, ◌≤◌, true, Option, Some, None, List, [], length, slice_get, refl, ap, sym, subst, ◌∙◌, arith, ◌+ℤ◌, FitsSigned, int_lt, int_wrapping_add, int_wrapping_div, w64, same_Some, ProgramText, Name, Frame, Task, int_in, int_eq, result_of, entry_frame, after, Loop, IsLoop, Activation, ReturnsBy, called_frame, left_frame, right_frame, BodyFinds}
use Rattle.loop_nest_laws.proofs.Turns.{OnTop}
use Rattle.loop_nest_laws.proofs.Nests.{middle, SplitsAt, Told, told_none, told_one, told_half, told_two}
use Rattle.loop_nest_laws.proofs.Halves.{shift_shift, shift_less, shift_same, fits_between, shift_add, shift_sub, half_is, fits_less, int_eq_same, int_eq_other, shift_other}
use Rattle.loop_nest_laws.proofs.Registers.{Holds, moved}
use Rattle.loop_nest_laws.proofs.Frames.{RunsMore, whole_none, whole_one, whole_more}
use Rattle.loop_nest_laws.proofs.Sides.{RunsHalf, left_runs, right_runs}

-- the middle of n numbers from the first one
pub middle_is : (first : ℤ) (n : ℕ) → FitsSigned w64 first → FitsSigned w64 (first +ℤ pos n) → FitsSigned w64 (pos n) → middle first (first +ℤ pos n) ≡ first +ℤ pos (n / 2)
middle_is first n f g h =
    let le : n / 2 ≤ n = omega arith in
    ap (λ z. int_wrapping_add w64 first (int_wrapping_div w64 z (pos 2))) (shift_sub first n f g h)
    ∙ (ap (int_wrapping_add w64 first) (half_is n h)
    ∙ shift_add first (n / 2) f (fits_less (n / 2) n le h) (fits_between first (n / 2) n le f g))

module _ (p : ProgramText) (limit : ℕ) (ts : List ℕ) (loop : Loop) (L : IsLoop p loop) where
  -- the frame of a loop over n numbers, which has returned
  abbrev Works : ℕ → Type 0
  Works n =
      (a : Activation) (bs : List Frame) (d : ℕ) (f g : Frame) (first : ℤ) (m : ℕ) (k : ℤ) (r : Option Name)
      → OnTop p limit ts a bs d a.since f → f.function ≡ loop.whole → f.next ≡ 0 → Holds g f first (first +ℤ pos n)
      → FitsSigned w64 first → FitsSigned w64 (first +ℤ pos n) → FitsSigned w64 (pos n) → ReturnsBy p limit ts a m k r
      → Told p limit ts loop L.apart a g d first n k × (r ≡ None)

  at_depth : (a : Activation) (bs : List Frame) (d : ℕ) (f : Frame) → OnTop p limit ts a bs d a.since f → (x : Task) → slice_get (after p limit ts a.since).tasks a.task ≡ Some x → x.depth ≡ d
  at_depth a bs d f on x is = ap (λ (z : Task). z.depth) (same_Some x on.x (sym is ∙ on.is)) ∙ on.depth

  -- a half
  half_told : (n : ℕ) → Works n → (a : Activation) (bs : List Frame) (d : ℕ) (f g : Frame) (first last lo hi : ℤ) (m : ℕ) (k : ℤ) (r : Option Name) → OnTop p limit ts a bs d a.since f
      → FitsSigned w64 lo → FitsSigned w64 hi → FitsSigned w64 (pos n) → hi ≡ lo +ℤ pos n → (back : ReturnsBy p limit ts a m k r) → (high : length bs ≡ a.height) → RunsHalf p limit ts a bs d m back.takes back.ret high loop g first last a.since lo hi
      → Told p limit ts loop L.apart a g d lo n k
  half_told n works a bs d f g first last lo hi m k r on flo fhi fn sum back high run =
      let inner = works (called_frame a run.k0) _ d _ g lo run.e run.number run.ref run.inner refl refl
      (moved g run.f lo (lo +ℤ pos n) loop.whole 0 (subst (λ z. Holds g run.f lo z) sum run.has)) flo (subst (FitsSigned w64) sum fhi) fn run.back in
      let result : (run.number, None) ≡ (k, r) = sym (run.result inner.1) ∙ back.value in
      subst (Told p limit ts loop L.apart a g d lo n) (ap (λ (z : ℤ × Option Name). z.0) result)
      (told_half p limit ts loop L.apart a g d lo (at_depth a bs d f on) run.k0 n run.number run.takes run.calls (λ j v. run.only j v v.stands.begun) inner.0)

  module _ (n : ℕ) (works : (q : ℕ) → q < n → Works q) (a : Activation) (bs : List Frame) (d : ℕ) (f g : Frame) (first : ℤ) (m : ℕ) (k : ℤ) (r : Option Name)
      (on : OnTop p limit ts a bs d a.since f) (fun : f.function ≡ loop.whole) (next : f.next ≡ 0) (has : Holds g f first (first +ℤ pos n))
      (fits : FitsSigned w64 first) (fits_last : FitsSigned w64 (first +ℤ pos n)) (fits_n : FitsSigned w64 (pos n)) (back : ReturnsBy p limit ts a m k r) where
    abbrev last : ℤ
    last = first +ℤ pos n

    abbrev Result : Type 0
    Result = Told p limit ts loop L.apart a g d first n k × (r ≡ None)

    gets : (v : ℤ) → result_of back.takes.task.top ≡ (v, None) → Told p limit ts loop L.apart a g d first n v → Result
    gets v e told =
        let same : (v, None) ≡ (k, r) = sym e ∙ back.value in
        (subst (Told p limit ts loop L.apart a g d first n) (ap (λ (z : ℤ × Option Name). z.0) same) told, sym (ap (λ (z : ℤ × Option Name). z.1) same))

    for_none : n ≡ 0 → Result
    for_none e =
        let run = whole_none p limit ts a bs d m back.takes back.ret on.high loop L g first last a.since f back.takes.stands.begun on fun next has (ap (λ z. int_lt first (first +ℤ pos z)) e ∙ shift_same first) in
        gets (pos 0) run.0 (subst (λ z. Told p limit ts loop L.apart a g d first z (pos 0)) (sym e) (told_none p limit ts loop L.apart a g d first (at_depth a bs d f on) (λ j v. run.1 j v v.stands.begun)))

    some : (q : ℕ) → n ≡ suc q → int_lt first last ≡ true
    some q e = ap (λ z. int_lt first (first +ℤ pos z)) e ∙ shift_less first q

    one_more : 1 ≤ n → int_wrapping_add w64 first (pos 1) ≡ first +ℤ pos 1
    one_more le = shift_add first 1 fits (fits_less 1 n le fits_n) (fits_between first 1 n le fits fits_last)

    for_one : n ≡ 1 → Result
    for_one e =
        let same : last ≡ first +ℤ pos 1 = ap (λ z. first +ℤ pos z) e in
        let run = whole_one p limit ts a bs d m back.takes back.ret on.high loop L g first last a.since f back.takes.stands.begun on fun next has (some 0 e)
        ((λ z. int_eq (one_more (omega arith) z) (same z)) ∙ int_eq_same (first +ℤ pos 1)) in
        gets run.number run.result (subst (λ z. Told p limit ts loop L.apart a g d first z run.number) (sym e)
        (told_one p limit ts loop L.apart a g d first (at_depth a bs d f on) run.k0 (λ j v. run.only j v v.stands.begun) run.number (record {
          call = record { frame = a; within = (0, refl); takes = run.takes; calls = run.calls };
          begun = run.inner.x;
          is = run.inner.is;
          function = ap (λ (z : Frame). z.function) run.inner.top;
          place = ap (λ (z : Frame). z.next) run.inner.top;
          finds = subst (λ z. BodyFinds g z first) (sym run.inner.top) (record { i0 = run.has.0.i0; i1 = run.has.0.i1 ∙ same; i13 = run.has.1; i14 = run.has.2; ints = run.has.0.ints; refs = run.has.0.refs });
          end = run.e;
          ref = run.ref;
          back = run.back;
        })))

    abbrev n1 : ℕ
    n1 = n / 2

    abbrev n2 : ℕ
    n2 = n - n / 2

    module _ (q : ℕ) (e : n ≡ suc (suc q)) (run : RunsMore p limit ts a bs d m back.takes back.ret on.high loop L g first last a.since) where
      abbrev l : Activation
      l = left_frame p limit ts run.forks.k

      abbrev h : Activation
      h = right_frame p limit ts run.forks.k

      mid : middle first last ≡ first +ℤ pos n1
      mid = middle_is first n fits fits_last fits_n

      le1 : n1 ≤ n
      le1 = omega arith

      le2 : n2 ≤ n
      le2 = omega arith

      fits_mid : FitsSigned w64 (first +ℤ pos n1)
      fits_mid = fits_between first n1 n le1 fits fits_last

      rest : last ≡ (first +ℤ pos n1) +ℤ pos n2
      rest = sym (shift_shift first n1 n2 ∙ ap (λ z. first +ℤ pos z) (let s : n1 + n2 ≡ n = omega arith in s))

      left : Told p limit ts loop L.apart l g (d + 1) first n1 run.forks.left_value.0
      left =
          half_told n1 (works n1 (omega arith)) l [] (d + 1) (entry_frame loop.left run.f) g first last first (middle first last) run.forks.left_end run.forks.left_value.0 run.forks.left_value.1 run.forks.left_on
          fits (subst (FitsSigned w64) (sym mid) fits_mid) (fits_less n1 n le1 fits_n) mid run.forks.left_back refl
          (left_runs p limit ts l [] (d + 1) run.forks.left_end run.forks.left_back.takes run.forks.left_back.ret refl loop g first last L (suc run.forks.k) (entry_frame loop.left run.f) run.forks.left_back.takes.stands.begun run.forks.left_on refl
          (moved g run.f first last loop.left 0 run.has) refl)

      right : Told p limit ts loop L.apart h g (d + 1) (first +ℤ pos n1) n2 run.forks.right_value.0
      right =
          subst (λ z. Told p limit ts loop L.apart h g (d + 1) z n2 run.forks.right_value.0) mid
          (half_told n2 (works n2 (omega arith)) h [] (d + 1) (entry_frame loop.right run.f) g first last (middle first last) last run.forks.right_end run.forks.right_value.0 run.forks.right_value.1 run.forks.right_on
          (subst (FitsSigned w64) (sym mid) fits_mid) fits_last (fits_less n2 n le2 fits_n) (rest ∙ ap (λ z. z +ℤ pos n2) (sym mid)) run.forks.right_back refl
          (right_runs p limit ts h [] (d + 1) run.forks.right_end run.forks.right_back.takes run.forks.right_back.ret refl loop g first last L (suc run.forks.k) (entry_frame loop.right run.f) run.forks.right_back.takes.stands.begun run.forks.right_on refl
          (moved g run.f first last loop.right 0 run.has) refl))

      splits : SplitsAt p limit ts loop L.apart run.forks.k (first +ℤ pos n1)
      splits = record {
        t = a.task;
        x = run.forks.takes.task;
        turn = run.forks.takes.turn.task;
        is = run.forks.takes.next.task;
        here = sym (ap (λ (z : Frame). middle (int_in z 0) (int_in z 1)) run.forks.top ∙ ((λ z. middle (run.has.i0 z) (run.has.i1 z)) ∙ mid));
      }

      total : ℤ
      total = int_wrapping_add w64 run.forks.left_value.0 run.forks.right_value.0

      from_run : Result
      from_run =
          gets (int_wrapping_add w64 run.forks.left_value.0 run.forks.right_value.0) run.result
          (subst (λ z. Told p limit ts loop L.apart a g d first z (int_wrapping_add w64 run.forks.left_value.0 run.forks.right_value.0)) (let s : n1 + n2 ≡ n = omega arith in s)
          (told_two p limit ts loop L.apart a g d first (at_depth a bs d f on) run.forks.k n1 n2 run.forks.left_value.0 run.forks.right_value.0 run.forks.takes run.forks.forked
          (λ j v. run.only j v v.stands.begun) splits (omega arith) (omega arith) (λ z le. (omega arith, omega arith)) left right))

    for_more : (q : ℕ) → n ≡ suc (suc q) → Result
    for_more q e =
        from_run q e (whole_more p limit ts a bs d m back.takes back.ret on.high loop L g first last a.since f back.takes.stands.begun on fun next has (some (suc q) e)
        (ap (λ z. int_eq z last) (one_more (omega arith)) ∙ int_eq_other (first +ℤ pos 1) last (λ h. shift_other first 1 n (λ i. omega arith) h)))

    by_count : (q : ℕ) → n ≡ q → Result
    by_count zero e = for_none e
    by_count (suc zero) e = for_one e
    by_count (suc (suc q)) e = for_more q e

    pub result : Result
    result = by_count n refl

  works_below : (fuel n : ℕ) → n < fuel → Works n
  works_below zero n lt = absurd (omega arith)
  works_below (suc fuel) n lt = result n (λ q less. works_below fuel q (omega arith))

  pub works_for : (n : ℕ) → Works n
  works_for n = works_below (suc n) n (omega arith)
