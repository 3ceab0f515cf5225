-- The first fault, of all lines.
use Rattle.program_reader.proofs.Common.{◌≡◌, ◌<◌, ◌+◌, ◌++◌, ℕ, List, [], ◌∷◌, length, arith, refl, ap, sym, ◌∙◌, Option, Some, None, Cause, TextFault, Outline, spot_of, fault_on, first_fault_from, or_later_fault, turned}
use Rattle.program_reader.proofs.Passing.{Lines}

-- the first cause on a line below others
abbrev cause_at : Outline → Lines → List ℕ → Lines → Option Cause
cause_at o above line below = fault_on o (spot_of above line below) line

none_here : (c : Option Cause) (n : ℕ) (later : Option TextFault) → or_later_fault c n later ≡ None → (c ≡ None) × (later ≡ None)
none_here None n later e = (refl, e)
none_here (Some c) n later e = absurd (cc)

pub no_faults : (o : Outline) (above : Lines) (before : Lines) (line : List ℕ) (below : Lines) → first_fault_from o above (before ++ line ∷ below) ≡ None → cause_at o (turned above before) line below ≡ None
no_faults o above [] line below e = (none_here (cause_at o above line below) (length above + 1) (first_fault_from o (line ∷ above) below) e).0
no_faults o above (l ∷ ls) line below e = no_faults o (l ∷ above) ls line below (none_here (cause_at o above l (ls ++ line ∷ below)) (length above + 1) (first_fault_from o (l ∷ above) (ls ++ line ∷ below)) e).1

pub record IsFirst (o : Outline) (above ls : Lines) (r : TextFault) : Type 0 where
  pub before : Lines
  pub line : List ℕ
  pub below : Lines
  pub lines : ls ≡ before ++ line ∷ below
  pub number : r.line ≡ length above + length before + 1
  pub cause : cause_at o (turned above before) line below ≡ Some r.cause
  pub first : (earlier : Lines) (other : List ℕ) (later : Lines) → ls ≡ earlier ++ other ∷ later → length earlier < length before → cause_at o (turned above earlier) other later ≡ None

some_is : (a b : TextFault) → ◌≡◌ {A = Option TextFault} (Some a) (Some b) → a ≡ b
some_is a b e = cc

head_is : (x y : List ℕ) (xs ys : Lines) → ◌≡◌ {A = Lines} (x ∷ xs) (y ∷ ys) → (x ≡ y) × (xs ≡ ys)
head_is x y xs ys e = (cc, cc)

earlier_none : (o : Outline) (above : Lines) (l : List ℕ) (ls : Lines) (r : TextFault) (h : IsFirst o (l ∷ above) ls r) → cause_at o above l ls ≡ None → (earlier : Lines) (other : List ℕ) (later : Lines) → l ∷ ls ≡ earlier ++ other ∷ later → length earlier < length (l ∷ h.before) → cause_at o (turned above earlier) other later ≡ None
earlier_none o above l ls r h none [] other later e lt =
    let p = head_is l other ls later e in
    ap (λ x. cause_at o above x later) (sym p.0) ∙ ap (λ xs. cause_at o above l xs) (sym p.1) ∙ none
earlier_none o above l ls r h none (x ∷ xs) other later e lt =
    let p = head_is l x ls (xs ++ other ∷ later) e in
    ap (λ y. cause_at o (turned (y ∷ above) xs) other later) (sym p.0) ∙ h.first xs other later p.1 (omega (arith, lt))

after : (o : Outline) (above : Lines) (l : List ℕ) (ls : Lines) (r : TextFault) → cause_at o above l ls ≡ None → IsFirst o (l ∷ above) ls r → IsFirst o above (l ∷ ls) r
after o above l ls r none h = record {
  before = l ∷ h.before;
  line = h.line;
  below = h.below;
  lines = ap (λ xs. l ∷ xs) h.lines;
  number = omega (arith, h.number);
  cause = h.cause;
  first = earlier_none o above l ls r h none;
}

fault_of_cause : (o : Outline) (above : Lines) (l : List ℕ) (ls : Lines) (r : TextFault) (c : Cause) → cause_at o above l ls ≡ Some c → record { line = length above + 1; cause = c } ≡ r → IsFirst o above (l ∷ ls) r
fault_of_cause o above l ls r c some e = record {
  before = [];
  line = l;
  below = ls;
  lines = refl;
  number = sym (ap (λ x. x.line) e) ∙ (let k : length above + 1 ≡ length above + 0 + 1 = omega arith in k);
  cause = some ∙ ap (λ x. Some x.cause) e;
  first = λ earlier other later d lt. absurd (let t : length earlier < 0 = lt in omega arith);
}

by_first : (o : Outline) (above : Lines) (l : List ℕ) (ls : Lines) (r : TextFault) (c : Option Cause) → cause_at o above l ls ≡ c → (first_fault_from o (l ∷ above) ls ≡ Some r → IsFirst o (l ∷ above) ls r) → or_later_fault c (length above + 1) (first_fault_from o (l ∷ above) ls) ≡ Some r → IsFirst o above (l ∷ ls) r
by_first o above l ls r None e next some = after o above l ls r e (next some)
by_first o above l ls r (Some c) e next some = fault_of_cause o above l ls r c e (some_is (record { line = length above + 1; cause = c }) r some)

pub is_first : (o : Outline) (above ls : Lines) (r : TextFault) → first_fault_from o above ls ≡ Some r → IsFirst o above ls r
is_first o above [] r e = absurd (cc)
is_first o above (l ∷ ls) r e = by_first o above l ls r (cause_at o above l ls) refl (is_first o (l ∷ above) ls r) e
