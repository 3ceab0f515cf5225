-- Registers that an instruction writes, and the others.
use Rattle.loop_nest_laws.proofs.Common.{◌≡◌, ℕ, ℤ, pos, ◌<◌, Option, Some, None, List, [], ◌∷◌, length, slice_get, slice_set, inl, inr, refl, ap, ◌∙◌, arith, length-set, option_flatten, unwrap_or, got_other, got_set, map_got, Instr, Line, ProgramText, code_of, Name, Frame, int_in, ref_in, with_int, with_ref, fetched, instrs_of, IsUsed}

pub int_set : (f : Frame) (d : ℕ) (v : ℤ) → d < length f.ints → int_in (with_int f d v) d ≡ v
int_set f d v lt = ap (λ o. unwrap_or o (pos 0)) (got_set f.ints d v lt)

pub int_other : (f : Frame) (d e : ℕ) (v : ℤ) → (e ≡ d → ⊥) → int_in (with_int f d v) e ≡ int_in f e
int_other f d e v ne = ap (λ o. unwrap_or o (pos 0)) (got_other f.ints d e v ne)

pub nil_set : (f : Frame) → ref_in (with_ref f 0 None) 0 ≡ None
nil_set f = nil_set_by_cases f.refs
  where
    nil_set_by_cases : (rs : List (Option Name)) → option_flatten (slice_get (slice_set rs 0 None) 0) ≡ None
    nil_set_by_cases [] = refl
    nil_set_by_cases (r ∷ rs) = refl

-- the instruction at a place of a function
pub code_at : (p : ProgramText) (q : ℕ) (code : List Instr) → instrs_of p q ≡ code → (f : Frame) (k : ℕ) (instr : Instr) → f.function ≡ q → f.next ≡ k → slice_get code k ≡ Some instr
    → (line : Line) × (fetched p f ≡ Some line) × (line.instr ≡ instr)
code_at p q code is f k instr fun next at =
    let got = map_got (λ (l : Line). l.instr) (code_of (slice_get p.functions q)) k instr (ap (λ c. slice_get c k) is ∙ at) in
    (got.0, ap (λ z. slice_get (code_of (slice_get p.functions z)) f.next) fun ∙ (ap (λ z. slice_get (code_of (slice_get p.functions q)) z) next ∙ got.1), got.2)

-- the frame loops over the numbers from first to last - 1, and has all else from the frame g
pub record Holds (g f : Frame) (first last : ℤ) : Type 0 where
  pub i0 : int_in f 0 ≡ first
  pub i1 : int_in f 1 ≡ last
  pub ints : (k : ℕ) → (IsUsed k → ⊥) → int_in f k ≡ int_in g k
  pub refs : f.refs ≡ g.refs
  pub many : length f.ints ≡ 16

module _ (g f : Frame) (first last : ℤ) (h : Holds g f first last) (v : ℤ) where
  many_set : (d : ℕ) → length (with_int f d v).ints ≡ 16
  many_set d = length-set f.ints d v ∙ h.many

  pub sets_13 : Holds g (with_int f 13 v) first last
  sets_13 = record {
    i0 = int_other f 13 0 v (λ e. omega arith) ∙ h.i0;
    i1 = int_other f 13 1 v (λ e. omega arith) ∙ h.i1;
    ints = λ k un. int_other f 13 k v (λ e. un (inr (inl e))) ∙ h.ints k un;
    refs = h.refs;
    many = many_set 13;
  }

  pub sets_14 : Holds g (with_int f 14 v) first last
  sets_14 = record {
    i0 = int_other f 14 0 v (λ e. omega arith) ∙ h.i0;
    i1 = int_other f 14 1 v (λ e. omega arith) ∙ h.i1;
    ints = λ k un. int_other f 14 k v (λ e. un (inr (inr e))) ∙ h.ints k un;
    refs = h.refs;
    many = many_set 14;
  }

  pub sets_0 : Holds g (with_int f 0 v) v last
  sets_0 = record {
    i0 = int_set f 0 v (omega (arith, h.many));
    i1 = int_other f 0 1 v (λ e. omega arith) ∙ h.i1;
    ints = λ k un. int_other f 0 k v (λ e. un (inl (inl e))) ∙ h.ints k un;
    refs = h.refs;
    many = many_set 0;
  }

  pub sets_1 : Holds g (with_int f 1 v) first v
  sets_1 = record {
    i0 = int_other f 1 0 v (λ e. omega arith) ∙ h.i0;
    i1 = int_set f 1 v (omega (arith, h.many));
    ints = λ k un. int_other f 1 k v (λ e. un (inl (inr e))) ∙ h.ints k un;
    refs = h.refs;
    many = many_set 1;
  }

-- the same registers at another place
pub moved : (g f : Frame) (first last : ℤ) (function next : ℕ) → Holds g f first last → Holds g (record f { function = function; next = next }) first last
moved g f first last function next h = record { i0 = h.i0; i1 = h.i1; ints = h.ints; refs = h.refs; many = h.many }
