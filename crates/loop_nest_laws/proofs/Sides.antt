-- How the frames of a loop's halves run.
use Rattle.loop_nest_laws.proofs.Common.{◌≡◌, ℕ, ℤ, pos, suc, ◌+◌, ◌≤◌, cond, Option, Some, None, List, [], ◌∷◌, ◌++◌, length, slice_get, ◌⊎◌, inl, inr, refl, ap, subst, ◌∙◌, arith, int_wrapping_add, int_wrapping_sub, int_wrapping_div, w64, Add, Sub, Instr, Set, Calc, Call, Ret, ProgramText, Name, Frame, Div as DivTrap, Goes, int_in, ref_in, with_int, with_ref, onward, int_eq, or_trap, entry_frame, result_of, Loop, IsLoop, left_code, right_code, instrs_of, Activation, Takes, ReturnsBy, called_frame}
use Rattle.hh_lang.specs.declared.instr.Operator.TheVariants.{Div}
use Rattle.loop_nest_laws.proofs.Turns.{OnTop, IsPlain}
use Rattle.loop_nest_laws.proofs.Calls.{calls_and_goes_on, handed}
use Rattle.loop_nest_laws.proofs.Nests.{middle}
use Rattle.loop_nest_laws.proofs.Registers.{int_set, int_other, nil_set, code_at, Holds, sets_13, sets_14, sets_0, sets_1, moved}
use Rattle.loop_nest_laws.proofs.Frames.{At, next_at, ends_at, begin_at, onto}

module _ (p : ProgramText) (limit : ℕ) (ts : List ℕ) (a : Activation) (bs : List Frame) (d m : ℕ) (w : Takes p limit ts a m) (is_ret : w.line.instr ≡ Ret) (high : length bs ≡ a.height)
    (loop : Loop) (g : Frame) (first last : ℤ) where
  abbrev Has : ℤ → ℤ → Frame → Type 0
  Has lo hi f = Holds g f lo hi

  -- the frame of a half calls that of its numbers, and returns what it gets
  pub record RunsHalf (i : ℕ) (lo hi : ℤ) : Type 0 where
    pub k0 : ℕ
    pub takes : Takes p limit ts a k0
    pub calls : takes.line.instr ≡ Call loop.whole
    pub f : Frame
    pub has : Has lo hi f
    pub inner : OnTop p limit ts (called_frame a k0) (bs ++ onward f ∷ []) d (suc k0) (entry_frame loop.whole f)
    pub e : ℕ
    pub number : ℤ
    pub ref : Option Name
    pub back : ReturnsBy p limit ts (called_frame a k0) e number ref
    pub result : ref ≡ None → result_of w.task.top ≡ (number, None)
    pub only : (j : ℕ) (v : Takes p limit ts a j) → i ≤ j → IsPlain v.line.instr ⊎ ((j ≡ k0) × (v.line.instr ≡ Call loop.whole))

  module _ (q : ℕ) (code : List Instr) (is : instrs_of p q ≡ code)
      (at0 : slice_get code 0 ≡ Some (Set 13 (pos 2))) (at1 : slice_get code 1 ≡ Some (Calc Sub 14 1 0)) (at2 : slice_get code 2 ≡ Some (Calc Div 14 14 13)) (at4 : slice_get code 4 ≡ Some (Call loop.whole)) (at5 : slice_get code 5 ≡ Some Ret) where
    abbrev Two : Frame → Type 0
    Two f = Has first last f × (int_in f 13 ≡ pos 2)

    abbrev Size : Frame → Type 0
    Size f = Has first last f × (int_in f 13 ≡ pos 2) × (int_in f 14 ≡ int_wrapping_sub w64 last first)

    abbrev Half : Frame → Type 0
    Half f = Has first last f × (int_in f 14 ≡ int_wrapping_div w64 (int_wrapping_sub w64 last first) (pos 2))

    abbrev sub_frame : Frame → Frame
    sub_frame f = onward (with_int f 14 (int_wrapping_sub w64 (int_in f 1) (int_in f 0)))

    abbrev div_frame : Frame → Frame
    div_frame f = onward (with_int f 14 (int_wrapping_div w64 (int_in f 14) (pos 2)))

    pub half_at : (i : ℕ) → At p limit ts a bs d m w is_ret high i q 0 (Has first last) → At p limit ts a bs d m w is_ret high i q 3 Half
    half_at i s0 =
        let s1 =
        next_at p limit ts a bs d m w is_ret high q code is i 0 (Set 13 (pos 2)) (Has first last) Two (λ f. onward (with_int f 13 (pos 2))) 1 at0 tt (λ e. absurd cc) (λ f h z store. refl)
        (onto 0 1 refl (λ f. onward (with_int f 13 (pos 2))) (λ f. refl) (λ f. refl))
        (λ f h. (moved g (with_int f 13 (pos 2)) first last f.function (f.next + 1) (sets_13 g f first last h (pos 2)), int_set f 13 (pos 2) (omega (arith, h.many)))) s0 in
        let s2 =
        next_at p limit ts a bs d m w is_ret high q code is i 1 (Calc Sub 14 1 0) Two Size sub_frame 2 at1 tt (λ e. absurd cc) (λ f h z store. refl)
        (onto 1 2 refl sub_frame (λ f. refl) (λ f. refl))
        (λ f h. (
          moved g (with_int f 14 (int_wrapping_sub w64 (int_in f 1) (int_in f 0))) first last f.function (f.next + 1) (sets_14 g f first last h.0 (int_wrapping_sub w64 (int_in f 1) (int_in f 0))),
          int_other f 14 13 (int_wrapping_sub w64 (int_in f 1) (int_in f 0)) (λ e. omega arith) ∙ h.1,
          int_set f 14 (int_wrapping_sub w64 (int_in f 1) (int_in f 0)) (omega (arith, h.0.many)) ∙ (λ z. int_wrapping_sub w64 (h.0.i1 z) (h.0.i0 z)),
        )) s1 in
        next_at p limit ts a bs d m w is_ret high q code is i 2 (Calc Div 14 14 13) Size Half div_frame 3 at2 tt (λ e. absurd cc)
        (λ f h z store. ap (λ y. or_trap DivTrap (cond (int_eq y (pos 0)) None (Some (int_wrapping_div w64 (int_in f 14) y))) (λ x. Goes (onward (with_int f 14 x)) store)) h.1)
        (onto 2 3 refl div_frame (λ f. refl) (λ f. refl))
        (λ f h. (
          moved g (with_int f 14 (int_wrapping_div w64 (int_in f 14) (pos 2))) first last f.function (f.next + 1) (sets_14 g f first last h.0 (int_wrapping_div w64 (int_in f 14) (pos 2))),
          int_set f 14 (int_wrapping_div w64 (int_in f 14) (pos 2)) (omega (arith, h.0.many)) ∙ ap (λ y. int_wrapping_div w64 y (pos 2)) h.2,
        )) s2

    pub runs_half : (i : ℕ) (lo hi : ℤ) → At p limit ts a bs d m w is_ret high i q 4 (Has lo hi) → RunsHalf i lo hi
    runs_half i lo hi s4 =
        let got = code_at p q code is s4.f 4 (Call loop.whole) s4.function s4.next at4 in
        let c = calls_and_goes_on p limit ts a bs d m w is_ret high s4.reach.k s4.f loop.whole got.0 s4.reach.to s4.reach.on got.1 got.2 in
        let X : Frame → Type 0 = λ f. (int_in f 0 ≡ c.number) × (c.ref ≡ None → ref_in f 0 ≡ None) in
        let s5 =
        begin_at p limit ts a bs d m w is_ret high (suc c.e) q 5 X (handed p limit ts a bs d m w is_ret high (onward s4.f) c.number c.ref) c.to c.on s4.function (ap (λ z. z + 1) s4.next)
        (int_set (onward s4.f) 0 c.number (omega (arith, s4.has.many)), λ e. ap (λ r. ref_in (with_ref (with_int (onward s4.f) 0 c.number) 0 r) 0) e ∙ nil_set (with_int (onward s4.f) 0 c.number)) in
        let last = ends_at p limit ts a bs d m w is_ret high q code is (suc c.e) 5 X at5 s5 in
        record {
          k0 = c.k;
          takes = c.takes;
          calls = c.calls;
          f = s4.f;
          has = s4.has;
          inner = c.inner;
          e = c.e;
          number = c.number;
          ref = c.ref;
          back = c.back;
          result = λ e. ap result_of last.2 ∙ (λ z. (last.1.0 z, last.1.1 e z));
          only = λ j v from. elim (s4.reach.plain j v from) [
            | inl plain ↦ inl plain
            | inr le ↦ elim (c.only j v le) [ inl call ↦ inr call | inr le2 ↦ inl (last.3 j v le2) ]
          ];
        }

  module _ (L : IsLoop p loop) (i : ℕ) (f : Frame) (le : i ≤ m) (on : OnTop p limit ts a bs d i f) (next : f.next ≡ 0) (has : Has first last f) where
    abbrev left_add : Frame → Frame
    left_add f = onward (with_int f 1 (int_wrapping_add w64 (int_in f 0) (int_in f 14)))

    abbrev right_add : Frame → Frame
    right_add f = onward (with_int f 0 (int_wrapping_add w64 (int_in f 0) (int_in f 14)))

    pub left_runs : f.function ≡ loop.left → RunsHalf i first (middle first last)
    left_runs fun =
        let s3 = half_at loop.left (left_code loop.whole) L.left refl refl refl refl refl i (begin_at p limit ts a bs d m w is_ret high i loop.left 0 (Has first last) f le on fun next has) in
        runs_half loop.left (left_code loop.whole) L.left refl refl refl refl refl i first (middle first last)
        (next_at p limit ts a bs d m w is_ret high loop.left (left_code loop.whole) L.left i 3 (Calc Add 1 0 14) (Half loop.left (left_code loop.whole) L.left refl refl refl refl refl) (Has first (middle first last)) left_add 4 refl tt (λ e. absurd cc) (λ f h z store. refl)
        (onto 3 4 refl left_add (λ f. refl) (λ f. refl))
        (λ f h. subst (λ v. Has first v (left_add f)) (λ z. int_wrapping_add w64 (h.0.i0 z) (h.1 z))
        (moved g (with_int f 1 (int_wrapping_add w64 (int_in f 0) (int_in f 14))) first (int_wrapping_add w64 (int_in f 0) (int_in f 14)) f.function (f.next + 1) (sets_1 g f first last h.0 (int_wrapping_add w64 (int_in f 0) (int_in f 14))))) s3)

    pub right_runs : f.function ≡ loop.right → RunsHalf i (middle first last) last
    right_runs fun =
        let s3 = half_at loop.right (right_code loop.whole) L.right refl refl refl refl refl i (begin_at p limit ts a bs d m w is_ret high i loop.right 0 (Has first last) f le on fun next has) in
        runs_half loop.right (right_code loop.whole) L.right refl refl refl refl refl i (middle first last) last
        (next_at p limit ts a bs d m w is_ret high loop.right (right_code loop.whole) L.right i 3 (Calc Add 0 0 14) (Half loop.right (right_code loop.whole) L.right refl refl refl refl refl) (Has (middle first last) last) right_add 4 refl tt (λ e. absurd cc) (λ f h z store. refl)
        (onto 3 4 refl right_add (λ f. refl) (λ f. refl))
        (λ f h. subst (λ v. Has v last (right_add f)) (λ z. int_wrapping_add w64 (h.0.i0 z) (h.1 z))
        (moved g (with_int f 0 (int_wrapping_add w64 (int_in f 0) (int_in f 14))) (int_wrapping_add w64 (int_in f 0) (int_in f 14)) last f.function (f.next + 1) (sets_0 g f first last h.0 (int_wrapping_add w64 (int_in f 0) (int_in f 14))))) s3)
