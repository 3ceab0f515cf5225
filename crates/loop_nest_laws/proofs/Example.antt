-- A loop over two numbers that has returned: the law isn't vacuous.
use Rattle.loop_nest_laws.proofs.Common.{◌≡◌, ℕ, pos, ◌≤◌, Option, Some, None, List, [], ◌∷◌, ◌++◌, length, slice_get, refl, ap, sym, subst, arith, replicate, same_Some, Add, Set, Calc, Call, Ret, ProgramText, Task, int_in, root, after, Loop, IsLoop, whole_code, left_code, right_code, fun, IsInRange, SomeLoopReturns, IsLoopStep, HasReturned, CallsEachNumber}
use Rattle.loop_nest_laws.proofs.Law.{loops_call_each_number}

loop : Loop
loop = record { body = 1; whole = 2; left = 3; right = 4 }

p : ProgramText
unfolding loop
p = record {
  functions =
      fun (Set 0 (pos 5) ∷ Set 1 (pos 7) ∷ Call 2 ∷ Ret ∷ [])
      ∷ fun (Calc Add 0 0 0 ∷ Ret ∷ [])
      ∷ fun (whole_code loop) ∷ fun (left_code loop.whole) ∷ fun (right_code loop.whole) ∷ [];
  main = 0;
}

ts : List ℕ
ts = replicate 10 0 ++ replicate 17 1 ++ replicate 17 2 ++ replicate 3 0

is_loop : IsLoop p loop
unfolding p loop
is_loop = record { whole = refl; left = refl; right = refl; apart = λ e. omega arith }

task_of : Option Task → Task
task_of None = root p
task_of (Some x) = x

-- the first task after n steps
task_at : ℕ → Task
task_at i = task_of (slice_get (after p 1022 ts i).tasks 0)

-- its last number, in i0
sum_is : int_in (task_at 47).top 0 ≡ pos 22
unfolding p ts loop task_of task_at
sum_is = refl

abbrev s : IsLoopStep p 1022 ts loop 2
unfolding p ts loop task_of task_at
s = record {
  t = 0;
  task = task_at 2;
  line = record { instr = Call 2; number = 1 };
  turn = record { task = refl; can = refl };
  next = record { task = refl; fetched = refl };
  calls = refl;
}

returned : HasReturned p 1022 ts loop 2 s 47
unfolding p ts loop task_of task_at s
returned = record {
  later = omega arith;
  began = record {
    begun = omega arith;
    high = λ j from to. subst (λ k. (x : Task) × (slice_get (after p 1022 ts k).tasks 0 ≡ Some x) × (1 ≤ length x.below)) (let e : 3 ≡ j = omega arith in e) (task_at 3, refl, omega arith);
  };
  gone = λ q.
      let h = q.high 47 (omega arith) (omega arith) in
      let same : h.0 ≡ task_at 47 = same_Some h.0 (task_at 47) (sym h.1) in
      let none : length h.0.below ≡ 0 = ap (λ (x : Task). length x.below) same in
      let some : 1 ≤ length h.0.below = h.2 in
      omega arith;
}

in_range : IsInRange (pos 5) (pos 7)
in_range = record { first_fits = record { sfits = omega arith }; last_fits = record { sfits = omega arith }; difference = record { sfits = omega arith } }

-- so the law holds of it
calls_each : CallsEachNumber p 1022 ts loop 2 s 47
unfolding p ts loop task_of task_at s
calls_each = loops_call_each_number p 1022 ts loop 2 47 s is_loop in_range returned

pub some_loop_returns : SomeLoopReturns
unfolding p ts loop task_of task_at s
some_loop_returns = (p, 1022, ts, loop, 2, 47, s, is_loop, in_range, returned, refl)
