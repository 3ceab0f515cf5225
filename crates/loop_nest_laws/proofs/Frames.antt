-- How the frames of a loop run.
use Rattle.loop_nest_laws.proofs.Common.{◌≡◌, ℕ, ℤ, pos, suc, ◌+◌, ◌≤◌, Bool, true, false, cond, Option, Some, None, List, [], ◌∷◌, ◌++◌, length, slice_get, ◌⊎◌, inl, inr, refl, ap, sym, subst, ◌∙◌, arith, length-set, int_lt, int_wrapping_add, w64, Add, Lt, Eq, Instr, Set, Nil, Calc, Jz, Call, Par, Ret, ProgramText, Name, Object, Frame, Goes, StepContext, effect, int_in, with_int, with_ref, onward, flag, int_eq, result_of, entry_frame, Loop, IsLoop, whole_code, instrs_of, Activation, Takes, ReturnsBy, called_frame}
use Rattle.loop_nest_laws.proofs.Turns.{OnTop, Reaches, top_reaches, then, goes_to, IsPlain}
use Rattle.loop_nest_laws.proofs.Calls.{calls_and_goes_on, handed}
use Rattle.loop_nest_laws.proofs.Children.{ForksAndGoesOn, forks_and_goes_on, rejoined}
use Rattle.loop_nest_laws.proofs.Ends.{comes_to_last}
use Rattle.loop_nest_laws.proofs.Registers.{int_set, int_other, nil_set, code_at, Holds, sets_13, sets_14, moved}

-- an instruction that stays in its function continues at the next place
pub onto : (k n : ℕ) → k + 1 ≡ n → (F : Frame → Frame) → ((f : Frame) → (F f).function ≡ f.function) → ((f : Frame) → (F f).next ≡ f.next + 1) → (f : Frame) → f.next ≡ k → ((F f).function ≡ f.function) × ((F f).next ≡ n)
onto k n e F fun next f at = (fun f, next f ∙ (ap (λ z. z + 1) at ∙ e))

module _ (p : ProgramText) (limit : ℕ) (ts : List ℕ) (a : Activation) (bs : List Frame) (d m : ℕ) (w : Takes p limit ts a m) (is_ret : w.line.instr ≡ Ret) (high : length bs ≡ a.height) where
  -- the frame has come by plain steps to this place of this function, and X holds of it
  pub record At (i q k : ℕ) (X : Frame → Type 0) : Type 0 where
    pub f : Frame
    pub function : f.function ≡ q
    pub next : f.next ≡ k
    pub has : X f
    pub reach : Reaches p limit ts a bs d m w i f

  module _ (q : ℕ) (code : List Instr) (is : instrs_of p q ≡ code) where
    -- one more instruction
    pub next_at : (i k : ℕ) (instr : Instr) (X Y : Frame → Type 0) (F : Frame → Frame) (n : ℕ) → slice_get code k ≡ Some instr → IsPlain instr → (instr ≡ Ret → ⊥)
        → ((f : Frame) → X f → (s : StepContext) (store : List (List Object)) → effect s f store instr ≡ Goes (F f) store)
        → ((f : Frame) → f.next ≡ k → ((F f).function ≡ f.function) × ((F f).next ≡ n))
        → ((f : Frame) → X f → Y (F f)) → At i q k X → At i q n Y
    next_at i k instr X Y F n at plain other does place gives s =
        let got = code_at p q code is s.f k instr s.function s.next at in
        let step =
        goes_to p limit ts a bs d m w s.reach.k s.f got.0 (F s.f) is_ret s.reach.to s.reach.on got.1 (subst IsPlain (sym got.2) plain) (λ e. other (sym got.2 ∙ e))
        (λ z store. ap (effect z s.f store) got.2 ∙ does s.f s.has z store) in
        let to = place s.f s.next in
        record {
          f = F s.f;
          function = to.0 ∙ s.function;
          next = to.1;
          has = gives s.f s.has;
          reach = then p limit ts a bs d m w i s.f (F s.f) s.reach step;
        }

    -- it reaches its last return
    pub ends_at : (i k : ℕ) (X : Frame → Type 0) → slice_get code k ≡ Some Ret → At i q k X
        → (f : Frame) × X f × (w.task.top ≡ f) × ((j : ℕ) (v : Takes p limit ts a j) → i ≤ j → IsPlain v.line.instr)
    ends_at i k X at s =
        let got = code_at p q code is s.f k Ret s.function s.next at in
        let last = comes_to_last p limit ts a bs d m w s.reach.k s.f got.0 s.reach.to s.reach.on got.1 got.2 in
        (s.f, s.has, last.top, λ j v from. elim (s.reach.plain j v from) [ inl plain ↦ plain | inr le ↦ last.plain j v le ])

  pub begin_at : (i q k : ℕ) (X : Frame → Type 0) (f : Frame) → i ≤ m → OnTop p limit ts a bs d i f → f.function ≡ q → f.next ≡ k → X f → At i q k X
  begin_at i q k X f le on fun next has = record { f = f; function = fun; next = next; has = has; reach = top_reaches p limit ts a bs d m w i f le on }

  module _ (loop : Loop) (L : IsLoop p loop) (g : Frame) where
    abbrev code : List Instr
    code = whole_code loop

    abbrev Has : ℤ → ℤ → Frame → Type 0
    Has first last f = Holds g f first last

    -- a jump
    jumps : (b : Bool) (f : Frame) (to : ℕ) (s : StepContext) (store : List (List Object)) → int_in f 14 ≡ flag b → effect s f store (Jz 14 to) ≡ Goes (cond b (onward f) (record f { next = to })) store
    jumps true f to s store e = ap (λ z. Goes (cond (int_eq z (pos 0)) (record f { next = to }) (onward f)) store) e
    jumps false f to s store e = ap (λ z. Goes (cond (int_eq z (pos 0)) (record f { next = to }) (onward f)) store) e

    module _ (first last : ℤ) where
      abbrev Tested : Frame → Type 0
      Tested f = Has first last f × (int_in f 14 ≡ flag (int_lt first last))

      abbrev lt_frame : Frame → Frame
      lt_frame f = onward (with_int f 14 (flag (int_lt (int_in f 0) (int_in f 1))))

      -- whether there is a number
      tested : (i : ℕ) → At i loop.whole 0 (Has first last) → At i loop.whole 1 Tested
      tested i s =
          next_at loop.whole code L.whole i 0 (Calc Lt 14 0 1) (Has first last) Tested lt_frame 1 refl tt (λ e. absurd cc) (λ f h z store. refl)
          (onto 0 1 refl lt_frame (λ f. refl) (λ f. refl))
          (λ f h. (
            moved g (with_int f 14 (flag (int_lt (int_in f 0) (int_in f 1)))) first last f.function (f.next + 1) (sets_14 g f first last h (flag (int_lt (int_in f 0) (int_in f 1)))),
            int_set f 14 (flag (int_lt (int_in f 0) (int_in f 1))) (omega (arith, h.many)) ∙ (λ z. flag (int_lt (h.i0 z) (h.i1 z))),
          )) s

      none_at : (i : ℕ) → int_lt first last ≡ false → At i loop.whole 1 Tested → At i loop.whole 13 (Has first last)
      none_at i e s =
          next_at loop.whole code L.whole i 1 (Jz 14 13) Tested (Has first last) (λ f. record f { next = 13 }) 13 refl tt (λ e. absurd cc)
          (λ f h z store. jumps false f 13 z store (h.1 ∙ ap flag e)) (λ f at. (refl, refl)) (λ f h. moved g f first last f.function 13 h.0) s

      some_at : (i : ℕ) → int_lt first last ≡ true → At i loop.whole 1 Tested → At i loop.whole 2 (Has first last)
      some_at i e s =
          next_at loop.whole code L.whole i 1 (Jz 14 13) Tested (Has first last) onward 2 refl tt (λ e. absurd cc)
          (λ f h z store. jumps true f 13 z store (h.1 ∙ ap flag e)) (onto 1 2 refl onward (λ f. refl) (λ f. refl)) (λ f h. moved g f first last f.function (f.next + 1) h.0) s

      abbrev One : Frame → Type 0
      One f = Has first last f × (int_in f 13 ≡ pos 1)

      one_at : (i : ℕ) → At i loop.whole 2 (Has first last) → At i loop.whole 3 One
      one_at i s =
          next_at loop.whole code L.whole i 2 (Set 13 (pos 1)) (Has first last) One (λ f. onward (with_int f 13 (pos 1))) 3 refl tt (λ e. absurd cc) (λ f h z store. refl)
          (onto 2 3 refl (λ f. onward (with_int f 13 (pos 1))) (λ f. refl) (λ f. refl))
          (λ f h. (moved g (with_int f 13 (pos 1)) first last f.function (f.next + 1) (sets_13 g f first last h (pos 1)), int_set f 13 (pos 1) (omega (arith, h.many)))) s

      abbrev Next : ℤ → Frame → Type 0
      Next v f = Has first last f × (int_in f 13 ≡ pos 1) × (int_in f 14 ≡ v)

      sets_next : (v : ℤ) (f : Frame) → Has first last f → int_in f 13 ≡ pos 1 → (u : ℤ) → u ≡ v → Next v (onward (with_int f 14 u))
      sets_next v f h e u same = (
        moved g (with_int f 14 u) first last f.function (f.next + 1) (sets_14 g f first last h u),
        int_other f 14 13 u (λ e. omega arith) ∙ e,
        int_set f 14 u (omega (arith, h.many)) ∙ same,
      )

      add_at : (i : ℕ) → At i loop.whole 3 One → At i loop.whole 4 (Next (int_wrapping_add w64 first (pos 1)))
      add_at i s =
          next_at loop.whole code L.whole i 3 (Calc Add 14 0 13) One (Next (int_wrapping_add w64 first (pos 1))) (λ f. onward (with_int f 14 (int_wrapping_add w64 (int_in f 0) (int_in f 13)))) 4 refl tt (λ e. absurd cc) (λ f h z store. refl)
          (onto 3 4 refl (λ f. onward (with_int f 14 (int_wrapping_add w64 (int_in f 0) (int_in f 13)))) (λ f. refl) (λ f. refl))
          (λ f h. sets_next (int_wrapping_add w64 first (pos 1)) f h.0 h.1 (int_wrapping_add w64 (int_in f 0) (int_in f 13)) (λ z. int_wrapping_add w64 (h.0.i0 z) (h.1 z))) s

      abbrev alone : Bool
      alone = int_eq (int_wrapping_add w64 first (pos 1)) last

      eq_at : (i : ℕ) → At i loop.whole 4 (Next (int_wrapping_add w64 first (pos 1))) → At i loop.whole 5 (Next (flag alone))
      eq_at i s =
          next_at loop.whole code L.whole i 4 (Calc Eq 14 14 1) (Next (int_wrapping_add w64 first (pos 1))) (Next (flag alone)) (λ f. onward (with_int f 14 (flag (int_eq (int_in f 14) (int_in f 1))))) 5 refl tt (λ e. absurd cc) (λ f h z store. refl)
          (onto 4 5 refl (λ f. onward (with_int f 14 (flag (int_eq (int_in f 14) (int_in f 1))))) (λ f. refl) (λ f. refl))
          (λ f h. sets_next (flag alone) f h.0 h.1 (flag (int_eq (int_in f 14) (int_in f 1))) (λ z. flag (int_eq (h.2 z) (h.0.i1 z)))) s

      alone_at : (i : ℕ) → alone ≡ true → At i loop.whole 5 (Next (flag alone)) → At i loop.whole 6 (Next (pos 1))
      alone_at i e s =
          next_at loop.whole code L.whole i 5 (Jz 14 9) (Next (flag alone)) (Next (pos 1)) onward 6 refl tt (λ e. absurd cc)
          (λ f h z store. jumps true f 9 z store (h.2 ∙ ap flag e)) (onto 5 6 refl onward (λ f. refl) (λ f. refl))
          (λ f h. (moved g f first last f.function (f.next + 1) h.0, h.1, h.2 ∙ ap flag e)) s

      more_at : (i : ℕ) → alone ≡ false → At i loop.whole 5 (Next (flag alone)) → At i loop.whole 9 (Has first last)
      more_at i e s =
          next_at loop.whole code L.whole i 5 (Jz 14 9) (Next (flag alone)) (Has first last) (λ f. record f { next = 9 }) 9 refl tt (λ e. absurd cc)
          (λ f h z store. jumps false f 9 z store (h.2 ∙ ap flag e)) (λ f at. (refl, refl)) (λ f h. moved g f first last f.function 9 h.0) s

      abbrev Hands : ℤ → Frame → Type 0
      Hands v f = result_of f ≡ (v, None)

      abbrev Gives : ℤ → Frame → Type 0
      Gives v f = int_in f 0 ≡ v

      -- nil and the return
      nil_at : (i k n : ℕ) (v : ℤ) → k + 1 ≡ n → slice_get code k ≡ Some (Nil 0) → At i loop.whole k (Gives v) → At i loop.whole n (Hands v)
      nil_at i k n v e at s =
          next_at loop.whole code L.whole i k (Nil 0) (Gives v) (Hands v) (λ f. onward (with_ref f 0 None)) n at tt (λ e. absurd cc) (λ f h z store. refl)
          (onto k n e (λ f. onward (with_ref f 0 None)) (λ f. refl) (λ f. refl))
          (λ f h. (λ z. (h z, nil_set f z))) s

      -- NO NUMBER

      pub whole_none : (i : ℕ) (f : Frame) → i ≤ m → OnTop p limit ts a bs d i f → f.function ≡ loop.whole → f.next ≡ 0 → Has first last f → int_lt first last ≡ false
          → (result_of w.task.top ≡ (pos 0, None)) × ((j : ℕ) (v : Takes p limit ts a j) → i ≤ j → IsPlain v.line.instr)
      whole_none i f le on fun next has e =
          let s13 = none_at i e (tested i (begin_at i loop.whole 0 (Has first last) f le on fun next has)) in
          let s14 =
          next_at loop.whole code L.whole i 13 (Set 0 (pos 0)) (Has first last) (Gives (pos 0)) (λ f. onward (with_int f 0 (pos 0))) 14 refl tt (λ e. absurd cc) (λ f h z store. refl)
          (onto 13 14 refl (λ f. onward (with_int f 0 (pos 0))) (λ f. refl) (λ f. refl))
          (λ f h. int_set f 0 (pos 0) (omega (arith, h.many))) s13 in
          let last = ends_at loop.whole code L.whole i 15 (Hands (pos 0)) refl (nil_at i 14 15 (pos 0) refl refl s14) in
          (ap result_of last.2 ∙ last.1, last.3)

      -- ONE NUMBER

      pub record RunsOne (i : ℕ) : Type 0 where
        pub k0 : ℕ
        pub takes : Takes p limit ts a k0
        pub calls : takes.line.instr ≡ Call loop.body
        pub f : Frame
        pub has : Next (pos 1) f
        pub inner : OnTop p limit ts (called_frame a k0) (bs ++ onward f ∷ []) d (suc k0) (entry_frame loop.body f)
        pub e : ℕ
        pub number : ℤ
        pub ref : Option Name
        pub back : ReturnsBy p limit ts (called_frame a k0) e number ref
        pub result : result_of w.task.top ≡ (number, None)
        pub only : (j : ℕ) (v : Takes p limit ts a j) → i ≤ j → IsPlain v.line.instr ⊎ ((j ≡ k0) × (v.line.instr ≡ Call loop.body))

      pub whole_one : (i : ℕ) (f : Frame) → i ≤ m → OnTop p limit ts a bs d i f → f.function ≡ loop.whole → f.next ≡ 0 → Has first last f → int_lt first last ≡ true → alone ≡ true → RunsOne i
      whole_one i f le on fun next has e e2 =
          let s6 = alone_at i e2 (eq_at i (add_at i (one_at i (some_at i e (tested i (begin_at i loop.whole 0 (Has first last) f le on fun next has)))))) in
          let got = code_at p loop.whole code L.whole s6.f 6 (Call loop.body) s6.function s6.next refl in
          let c = calls_and_goes_on p limit ts a bs d m w is_ret high s6.reach.k s6.f loop.body got.0 s6.reach.to s6.reach.on got.1 got.2 in
          let s7 =
          begin_at (suc c.e) loop.whole 7 (Gives c.number) (handed p limit ts a bs d m w is_ret high (onward s6.f) c.number c.ref) c.to c.on s6.function (ap (λ z. z + 1) s6.next)
          (int_set (onward s6.f) 0 c.number (omega (arith, s6.has.0.many))) in
          let last = ends_at loop.whole code L.whole (suc c.e) 8 (Hands c.number) refl (nil_at (suc c.e) 7 8 c.number refl refl s7) in
          record {
            k0 = c.k;
            takes = c.takes;
            calls = c.calls;
            f = s6.f;
            has = s6.has;
            inner = c.inner;
            e = c.e;
            number = c.number;
            ref = c.ref;
            back = c.back;
            result = ap result_of last.2 ∙ last.1;
            only = λ j v from. elim (s6.reach.plain j v from) [
              | inl plain ↦ inl plain
              | inr le ↦ elim (c.only j v le) [ inl call ↦ inr call | inr le2 ↦ inl (last.3 j v le2) ]
            ];
          }

      -- MORE

      pub record RunsMore (i : ℕ) : Type 0 where
        pub f : Frame
        pub has : Has first last f
        pub from : ℕ
        pub forks : ForksAndGoesOn p limit ts a bs d m w is_ret high from f loop.left loop.right
        pub result : result_of w.task.top ≡ (int_wrapping_add w64 forks.left_value.0 forks.right_value.0, None)
        pub only : (j : ℕ) (v : Takes p limit ts a j) → i ≤ j → IsPlain v.line.instr ⊎ ((j ≡ forks.k) × (v.line.instr ≡ Par loop.left loop.right))

      pub whole_more : (i : ℕ) (f : Frame) → i ≤ m → OnTop p limit ts a bs d i f → f.function ≡ loop.whole → f.next ≡ 0 → Has first last f → int_lt first last ≡ true → alone ≡ false → RunsMore i
      whole_more i f le on fun next has e e2 =
          let s9 = more_at i e2 (eq_at i (add_at i (one_at i (some_at i e (tested i (begin_at i loop.whole 0 (Has first last) f le on fun next has)))))) in
          let got = code_at p loop.whole code L.whole s9.f 9 (Par loop.left loop.right) s9.function s9.next refl in
          let c = forks_and_goes_on p limit ts a bs d m w is_ret high s9.reach.k s9.f loop.left loop.right got.0 s9.reach.to s9.reach.on got.1 got.2 in
          let both : Frame → Type 0 = λ f. (int_in f 0 ≡ c.left_value.0) × (int_in f 1 ≡ c.right_value.0) × (length f.ints ≡ 16) in
          let h0 = s9.has in
          let f10 = rejoined p limit ts a bs d m w is_ret high (onward s9.f) c.left_value c.right_value in
          let one = with_int (onward s9.f) 0 c.left_value.0 in
          let long : length one.ints ≡ 16 = length-set s9.f.ints 0 c.left_value.0 ∙ h0.many in
          let s10 =
          begin_at (suc c.e) loop.whole 10 both f10 c.to c.on s9.function (ap (λ z. z + 1) s9.next) (
            int_other one 1 0 c.right_value.0 (λ e. omega arith) ∙ int_set (onward s9.f) 0 c.left_value.0 (omega (arith, h0.many)),
            int_set one 1 c.right_value.0 (omega (arith, long)),
            length-set one.ints 1 c.right_value.0 ∙ long,
          ) in
          let total = int_wrapping_add w64 c.left_value.0 c.right_value.0 in
          let s11 =
          next_at loop.whole code L.whole (suc c.e) 10 (Calc Add 0 0 1) both (Gives total) (λ f. onward (with_int f 0 (int_wrapping_add w64 (int_in f 0) (int_in f 1)))) 11 refl tt (λ e. absurd cc) (λ f h z store. refl)
          (onto 10 11 refl (λ f. onward (with_int f 0 (int_wrapping_add w64 (int_in f 0) (int_in f 1)))) (λ f. refl) (λ f. refl))
          (λ f h. int_set f 0 (int_wrapping_add w64 (int_in f 0) (int_in f 1)) (omega (arith, h.2)) ∙ (λ z. int_wrapping_add w64 (h.0 z) (h.1 z))) s10 in
          let last = ends_at loop.whole code L.whole (suc c.e) 12 (Hands total) refl (nil_at (suc c.e) 11 12 total refl refl s11) in
          record {
            f = s9.f;
            has = h0;
            from = s9.reach.k;
            forks = c;
            result = ap result_of last.2 ∙ last.1;
            only = λ j v from. elim (s9.reach.plain j v from) [
              | inl plain ↦ inl plain
              | inr le ↦ elim (c.only j v le) [ inl fork ↦ inr fork | inr le2 ↦ inl (last.3 j v le2) ]
            ];
          }
