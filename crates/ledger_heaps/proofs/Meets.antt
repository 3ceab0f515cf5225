-- Names met one after another.
use Rattle.ledger_heaps.proofs.Common.{◌≡◌, ℕ, ◌+◌, ◌<◌, Bool, true, false, ◌&&◌, ◌||◌, not, Option, Some, None, List, [], ◌∷◌, ◌++◌, length, take, get_or, refl, ap, sym, ◌∙◌, append-nil, append_assoc, cond, subst, arith, take_more, flat_map-append, or_and_false, same_from_is_name, flat_map, and-true, or_assoc, Name, Frame, names_of_references, registers, holds_name, is_name, Meets}

pub holds_append : (ns ms : List Name) (n : Name) → holds_name (ns ++ ms) n ≡ holds_name ns n || holds_name ms n
holds_append [] ms n = refl
holds_append (x ∷ ns) ms n = ap (λ b. is_name n x || b) (holds_append ns ms n) ∙ sym (or_assoc (is_name n x) (holds_name ns n) (holds_name ms n))

two_unmet : (u a b : Bool) → (u && not a) && not b ≡ u && not (a || b)
two_unmet false a b = refl
two_unmet true true b = refl
two_unmet true false b = refl

two_waiting : (w u a b : Bool) → (w || (u && a)) || ((u && not a) && b) ≡ w || (u && (a || b))
two_waiting true u a b = refl
two_waiting false false a b = refl
two_waiting false true true b = refl
two_waiting false true false b = refl

pub meets_none : (u : Name → Bool) (w : List Name) → Meets [] u u w w
meets_none u w = record { unmet = λ n. sym (and-true (u n)); waiting = λ n. sym (or_and_false (holds_name w n) (u n)) }

pub meets_both : (ns ms : List Name) (u v x : Name → Bool) (w y z : List Name) → Meets ns u v w y → Meets ms v x y z → Meets (ns ++ ms) u x w z
meets_both ns ms u v x w y z a b = record {
  unmet = λ n.
      b.unmet n ∙ ap (λ t. t && not (holds_name ms n)) (a.unmet n) ∙ two_unmet (u n) (holds_name ns n) (holds_name ms n)
      ∙ ap (λ t. u n && not t) (sym (holds_append ns ms n));
  waiting = λ n.
      b.waiting n ∙ ap (λ t. t || (v n && holds_name ms n)) (a.waiting n)
      ∙ ap (λ t. (holds_name w n || (u n && holds_name ns n)) || (t && holds_name ms n)) (a.unmet n)
      ∙ two_waiting (holds_name w n) (u n) (holds_name ns n) (holds_name ms n)
      ∙ ap (λ t. holds_name w n || (u n && t)) (sym (holds_append ns ms n));
}

pub meets_same : (ns ms : List Name) (u v : Name → Bool) (w y : List Name) → ((n : Name) → holds_name ns n ≡ holds_name ms n) → Meets ns u v w y → Meets ms u v w y
meets_same ns ms u v w y e a = record {
  unmet = λ n. a.unmet n ∙ ap (λ t. u n && not t) (e n);
  waiting = λ n. a.waiting n ∙ ap (λ t. holds_name w n || (u n && t)) (e n);
}

pub named_append : (xs ys : List (Option Name)) → names_of_references (xs ++ ys) ≡ names_of_references xs ++ names_of_references ys
named_append [] ys = refl
named_append (None ∷ xs) ys = named_append xs ys
named_append (Some n ∷ xs) ys = ap (λ ns. n ∷ ns) (named_append xs ys)

pub registers_append : (xs ys : List Frame) → registers (xs ++ ys) ≡ registers xs ++ registers ys
registers_append [] ys = refl
registers_append (f ∷ xs) ys = ap (λ ns. names_of_references f.refs ++ ns) (registers_append xs ys) ∙ sym (append_assoc (names_of_references f.refs) (registers xs) (registers ys))

-- ONE NAME

pub same_name_sym : (a b : Name) → is_name a b ≡ is_name b a
same_name_sym a b = grind arith

met_by : (n name : Name) (un : Bool) (b : Bool) → is_name n name ≡ b → (is_name n name ≡ true → un ≡ true) → (w : Bool) → (w || (b || false)) ≡ (w || (un && (b || false)))
met_by n name un true is all true = refl
met_by n name un true is all false = rw (all is) refl
met_by n name true false is all w = refl
met_by n name false false is all w = refl

gone_by : (a b : Bool) → cond a false b ≡ (b && not (a || false))
gone_by true true = refl
gone_by true false = refl
gone_by false true = refl
gone_by false false = refl

pub met_one : (u v : Name → Bool) (w y : List Name) (name : Name) → u name ≡ true → ((q : Name) → v q ≡ cond (is_name name q) false (u q)) → y ≡ w ++ name ∷ [] → Meets (name ∷ []) u v w y
met_one u v w y name all gone is = record {
  unmet = λ n. gone n ∙ ap (λ b. cond b false (u n)) (same_name_sym name n) ∙ gone_by (is_name n name) (u n);
  waiting = λ n.
      ap (λ ns. holds_name ns n) is ∙ holds_append w (name ∷ []) n
      ∙ met_by n name (u n) (is_name n name) refl (λ e. ap u (same_from_is_name n name e) ∙ all) (holds_name w n);
}

-- ONE MORE

pub more_met : {A : Type 0} (f : List A → List Name) (g : A → List Name) → ((xs ys : List A) → f (xs ++ ys) ≡ f xs ++ f ys) → ((x : A) → f (x ∷ []) ≡ g x)
    → (xs : List A) (i : ℕ) (x d : A) → i < length xs → x ≡ get_or xs i d
    → (u v t : Name → Bool) (w y z : List Name) → Meets (f (take i xs)) u v w y → Meets (g x) v t y z → Meets (f (take (i + 1) xs)) u t w z
more_met f g joins one xs i x d lt is u v t w y z a b =
    subst (λ ns. Meets ns u t w z)
    (sym (ap f (take_more xs i d lt) ∙ joins (take i xs) (get_or xs i d ∷ []) ∙ ap (λ ns. f (take i xs) ++ ns) (one (get_or xs i d) ∙ ap g (sym is))))
    (meets_both (f (take i xs)) (g x) u v t w y z a b)

pub named_one : (r : Option Name) → names_of_references (r ∷ []) ≡ names_of_references (r ∷ [])
named_one r = refl

pub registers_one : (f : Frame) → registers (f ∷ []) ≡ names_of_references f.refs
registers_one f = append-nil (names_of_references f.refs)

pub flat_append : {A : Type 0} (f : A → List Name) (xs ys : List A) → flat_map f (xs ++ ys) ≡ flat_map f xs ++ flat_map f ys
flat_append f xs ys = flat_map-append f xs ys

pub flat_one : {A : Type 0} (f : A → List Name) (x : A) → flat_map f (x ∷ []) ≡ f x
flat_one f x = append-nil (f x)

abbrev pub twice : (Name → List Name) → List (List Name) → List Name
twice f lists = flat_map f (flat_map (λ ns. ns) lists)

pub twice_append : (f : Name → List Name) (xs ys : List (List Name)) → twice f (xs ++ ys) ≡ twice f xs ++ twice f ys
twice_append f xs ys = ap (flat_map f) (flat_append (λ ns. ns) xs ys) ∙ flat_append f (flat_map (λ ns. ns) xs) (flat_map (λ ns. ns) ys)

pub twice_one : (f : Name → List Name) (ns : List Name) → twice f (ns ∷ []) ≡ flat_map f ns
twice_one f ns = ap (flat_map f) (append-nil ns)
