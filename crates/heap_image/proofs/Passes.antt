-- How the verifier passes lines of one kind.
use Rattle.heap_image.proofs.Common.{◌≡◌, ◌<◌, ◌+◌, ℕ, Bool, true, false, List, [], ◌∷◌, ◌++◌, map, arith, refl, ap, sym, subst, ◌∙◌, inl, inr, append_assoc, append-nil, Option, Some, None, not, ◌||◌, In, is_last, ImageLine, ImagePosition, Read, Whole, ImageFault, line_meaning, rises, position_of, after_line, with_line, with_lines, cause_on, cause_by, is_misplaced, has_wrong_place, breaks_form, or_later_line, fault_from_line, after_lines}
use Rattle.heap_image.proofs.Splits.{IsCut}

-- STATEMENTS INSTEAD OF LINES

abbrev pub none_left : List ImageLine → Bool
none_left [] = true
none_left (s ∷ ss) = false

abbrev pub fault_of : Whole → Read → ℕ → List ImageLine → Option ImageFault
fault_of w r n [] = None
fault_of w r n (s ∷ ss) = or_later_line (cause_on w r (none_left ss) s) n (fault_of w (after_line r s) (n + 1) ss)

abbrev pub after_said : Read → List ImageLine → Read
after_said r [] = r
after_said r (s ∷ ss) = after_said (after_line r s) ss

abbrev pub with_said : Whole → List ImageLine → Whole
with_said w [] = w
with_said w (s ∷ ss) = with_said (with_line w s) ss

last_said : (ls : List (List ℕ)) → is_last ls ≡ none_left (map line_meaning ls)
last_said [] = refl
last_said (l ∷ ls) = refl

pub fault_said : (w : Whole) (r : Read) (n : ℕ) (ls : List (List ℕ)) → fault_from_line w r n ls ≡ fault_of w r n (map line_meaning ls)
fault_said w r n [] = refl
fault_said w r n (l ∷ ls) =
    ap (λ b. or_later_line (cause_on w r b (line_meaning l)) n (fault_from_line w (after_line r (line_meaning l)) (n + 1) ls)) (last_said ls)
    ∙ ap (or_later_line (cause_on w r (none_left (map line_meaning ls)) (line_meaning l)) n) (fault_said w (after_line r (line_meaning l)) (n + 1) ls)

pub lines_said : (r : Read) (ls : List (List ℕ)) → after_lines r ls ≡ after_said r (map line_meaning ls)
lines_said r [] = refl
lines_said r (l ∷ ls) = lines_said (after_line r (line_meaning l)) ls

pub whole_said : (w : Whole) (ls : List (List ℕ)) → with_lines w ls ≡ with_said w (map line_meaning ls)
whole_said w [] = refl
whole_said w (l ∷ ls) = whole_said (with_line w (line_meaning l)) ls

-- LINES OF ONE KIND

pub more_left : (xs ss : List ImageLine) → none_left ss ≡ false → none_left (xs ++ ss) ≡ false
more_left [] ss h = h
more_left (x ∷ xs) ss h = refl

module _ {X : Type 0} (w : Whole) (say : X → ImageLine) (state : List X → Read) where
  -- one more line has no fault, and is read
  pub record IsStep (front : List X) (x : X) : Type 0 where
    pub clear : cause_on w (state front) false (say x) ≡ None
    pub reads : after_line (state front) (say x) ≡ state (front ++ x ∷ [])

  shifted : (front : List X) (x : X) (left : List X) → front ++ x ∷ left ≡ (front ++ x ∷ []) ++ left
  shifted front x left = sym (append_assoc front (x ∷ []) left)

  faultless_on : (front left : List X) (n : ℕ) (rest : List ImageLine) → none_left rest ≡ false
      → ((a : List X) (x : X) (b : List X) → IsCut (front ++ left) a x b → IsStep a x)
      → ((m : ℕ) → fault_of w (state (front ++ left)) m rest ≡ None) → fault_of w (state front) n (map say left ++ rest) ≡ None
  faultless_on front [] n rest more steps behind = subst (λ f. fault_of w (state f) n rest ≡ None) (append-nil front) (behind n)
  faultless_on front (x ∷ left) n rest more steps behind =
      let step = steps front x left (record { cut = refl }) in
      ap (λ b. or_later_line (cause_on w (state front) b (say x)) n (fault_of w (after_line (state front) (say x)) (n + 1) (map say left ++ rest))) (more_left (map say left) rest more)
      ∙ ap (λ c. or_later_line c n (fault_of w (after_line (state front) (say x)) (n + 1) (map say left ++ rest))) step.clear
      ∙ ap (λ r. fault_of w r (n + 1) (map say left ++ rest)) step.reads
      ∙ faultless_on (front ++ x ∷ []) left (n + 1) rest more
      (λ a y b c. steps a y b (record { cut = shifted front x left ∙ c.cut }))
      (λ m. subst (λ f. fault_of w (state f) m rest ≡ None) (shifted front x left) (behind m))

  -- the lines of all items have no fault if each has none, nor has what follows
  pub faultless_items : (xs : List X) (n : ℕ) (rest : List ImageLine) → none_left rest ≡ false → ((a : List X) (x : X) (b : List X) → IsCut xs a x b → IsStep a x)
      → ((m : ℕ) → fault_of w (state xs) m rest ≡ None) → fault_of w (state []) n (map say xs ++ rest) ≡ None
  faultless_items xs n rest more steps behind = faultless_on [] xs n rest more steps behind

  read_on : (front left : List X) (rest : List ImageLine) → ((a : List X) (x : X) (b : List X) → IsCut (front ++ left) a x b → IsStep a x)
      → after_said (state front) (map say left ++ rest) ≡ after_said (state (front ++ left)) rest
  read_on front [] rest steps = ap (λ f. after_said (state f) rest) (sym (append-nil front))
  read_on front (x ∷ left) rest steps =
      ap (λ r. after_said r (map say left ++ rest)) (steps front x left (record { cut = refl })).reads
      ∙ read_on (front ++ x ∷ []) left rest (λ a y b c. steps a y b (record { cut = shifted front x left ∙ c.cut }))
      ∙ ap (λ f. after_said (state f) rest) (sym (shifted front x left))

  pub read_items : (xs : List X) (rest : List ImageLine) → ((a : List X) (x : X) (b : List X) → IsCut xs a x b → IsStep a x) → after_said (state []) (map say xs ++ rest) ≡ after_said (state xs) rest
  read_items xs rest steps = read_on [] xs rest steps

-- THE LAST OF THEM

module _ {X A : Type 0} (at : X → A) where
  -- the position of the last item, or else the previous one
  abbrev pub last_of : A → List X → A
  last_of before [] = before
  last_of before (x ∷ xs) = last_of (at x) xs

  pub last_more : (before : A) (xs : List X) (x : X) → at x ≡ last_of before (xs ++ x ∷ [])
  last_more before [] x = refl
  last_more before (y ∷ ys) x = last_more (at y) ys x

  pub last_from : (P : A → Type 0) (before : A) (xs : List X) → P before → ((x : X) → In xs x → P (at x)) → P (last_of before xs)
  last_from P before [] h each = h
  last_from P before (y ∷ ys) h each = last_from P (at y) ys (each y (inl refl)) (λ x i. each x (inr i))

-- a line in order after the last one, which isn't the end line
pub formed : (w : Whole) (r : Read) (s : ImageLine) (q p : ImagePosition) → r.last ≡ Some q → position_of s ≡ Some p → (s_is : is_misplaced r.last s ≡ has_wrong_place r.last (position_of s)) → rises q p ≡ true → cause_by w r s ≡ None → cause_on w r false s ≡ None
formed w r s q p at_last at_pos is up none =
    let e : is_misplaced r.last s ≡ false = is ∙ (λ j. has_wrong_place (at_last j) (at_pos j)) ∙ ap not up in
    let f : breaks_form r false s ≡ false = ap (λ b. b || false) e in
    rw f none

pub lower : (q p : ImagePosition) → q.kind < p.kind → rises q p ≡ true
lower q p h = grind (arith, h)
