-- The options with which words begin.
use Rattle.std.proofs.Common.{◌≡◌, ◌∙◌, ◌<◌, ◌≤◌, ◌+◌, ◌-◌, ℕ, suc, Bool, true, false, List, [], ◌∷◌, length, map, take, drop, drop-cons, get_or, arith, refl, ap, sym, subst}
use Rattle.std.specs.Prelude.{Option, Some, None, if◌then◌else◌}
use Rattle.std.specs.List.{position_or_len}
use Rattle.std.proofs.lemmas.List.{get_or-map, length-map, length-drop, take_all, take-map, drop-map}
use Rattle.std.proofs.lemmas.List.Sums.{position_or_len_is}
use Rattle.log_request.specs.declared.options.Options.{Options}
use Rattle.log_request.specs.Options.{no_options, option_at, leading}
use Rattle.log_request.specs.Request.{names_end, with_left, with_names, from_names, request_from, request_of}

leading_some : (o p : Options) (w : List ℕ) (ws : List (List ℕ)) → option_at o w ≡ Some p → leading o (w ∷ ws) ≡ leading p ws
leading_some o p w ws e = rw (e, leading) refl

leading_none : (o : Options) (w : List ℕ) (ws : List (List ℕ)) → option_at o w ≡ None → leading o (w ∷ ws) ≡ (o, w ∷ ws)
leading_none o w ws e = rw (e, leading) refl

-- the text of word i
pub word_at : {W : Type 0} (f : W → List ℕ) (words : List W) (i : ℕ) (w : W) → i < length words → w ≡ get_or words i w → f w ≡ get_or (map f words) i []
word_at f words i w lt e = ap f e ∙ sym (get_or-map f words i w [] lt)

module _ {W : Type 0} (f : W → List ℕ) (words : List W) (i : ℕ) (w : W) (text : List ℕ) (lt : i < length words) (is : w ≡ get_or words i w) (said : text ≡ f w) where
  pub text_is : get_or (map f words) i [] ≡ text
  text_is = sym (said ∙ word_at f words i w lt is)

  cut : drop i (map f words) ≡ text ∷ drop (i + 1) (map f words)
  cut =
      let l : i < length (map f words) = omega (arith, lt, length-map words f) in
      let s : suc i ≡ i + 1 = omega arith in
      drop-cons (map f words) i [] l ∙ (λ j. text_is j ∷ drop (s j) (map f words))

  -- the first word that passes a test
  pub first_is : (p : List ℕ → Bool) → ((k : ℕ) → k < i → p (get_or (map f words) k []) ≡ false) → p text ≡ true → i ≡ position_or_len p (map f words)
  first_is p before here = sym (position_or_len_is p (map f words) i [] (omega (arith, lt, length-map words f)) before (λ _. ap p text_is ∙ here))

  -- an option is taken
  pub taken : (o p : Options) (b : Bool) → b ≡ true → option_at o text ≡ (if b then Some p else None) → leading o (drop i (map f words)) ≡ leading p (drop (i + 1) (map f words))
  taken o p true e h = ap (leading o) cut ∙ leading_some o p text (drop (i + 1) (map f words)) h
  taken o p false e h = absurd (let z : false ≡ true = e in cc)

  -- a word that belongs to no option ends them
  pub ended : (o p : Options) (b : Bool) → b ≡ false → option_at o text ≡ (if b then Some p else None) → p ≡ o → leading o (drop i (map f words)) ≡ (p, drop i (map f words))
  ended o p true e h same = absurd (let z : true ≡ false = e in cc)
  ended o p false e h same = ap (leading o) cut ∙ leading_none o text (drop (i + 1) (map f words)) h ∙ (λ j. (sym same j, sym cut j))

-- none does
pub none_is : {W : Type 0} (f : W → List ℕ) (words : List W) (i : ℕ) (p : List ℕ → Bool) → length words ≤ i → ((k : ℕ) → k < i → p (get_or (map f words) k []) ≡ false) → length words ≡ position_or_len p (map f words)
none_is f words i p le before =
    let n = length-map words f in
    sym n ∙ sym (position_or_len_is p (map f words) (length (map f words)) [] (omega arith) (λ k lt. before k (omega (arith, lt, le, n))) (λ lt. absurd (let h : length (map f words) < length (map f words) = lt in omega arith)))

-- what is asked, by where the names end and how many words of options follow them
pub from_is : (o p : Options) (words : List (List ℕ)) (end taken : ℕ) → end ≡ names_end words → leading o (drop end words) ≡ (p, drop taken (drop end words)) → from_names o words ≡ with_names (take end words) (p, drop taken (drop end words))
from_is o p words end taken e l = (λ i. with_names (take (sym e i) words) (leading o (drop (sym e i) words))) ∙ ap (with_names (take end words)) l

-- by the words as the code cuts them
pub names_are : {W : Type 0} (f : W → List ℕ) (words names rest : List W) (o p : Options) (end taken left : ℕ) → names ≡ take end words → rest ≡ drop end words → end ≡ names_end (map f words)
    → leading o (map f rest) ≡ (p, drop taken (map f rest)) → left ≡ length rest - taken → with_left (map f names) left p ≡ from_names o (map f words)
names_are f words names rest o p end taken left n r e l count =
    let before : map f names ≡ take end (map f words) = ap (map f) n ∙ sym (take-map f end words) in
    let behind : map f rest ≡ drop end (map f words) = ap (map f) r ∙ sym (drop-map f end words) in
    let size : left ≡ length (drop taken (map f rest)) = omega (arith, count, length-drop taken (map f rest), length-map rest f) in
    (λ i. with_left (before i) (size i) p)
    ∙ (λ i. with_left (take end (map f words)) (length (drop taken (behind i))) p)
    ∙ sym (from_is o p (map f words) end taken e (subst (λ (ws : List (List ℕ)). leading o ws ≡ (p, drop taken ws)) behind l))

pub asked_is : {W : Type 0} (f : W → List ℕ) (words rest : List W) (o p : Options) (first : ℕ) → o ≡ no_options → leading o (map f words) ≡ (p, drop first (map f words)) → rest ≡ drop first words → from_names p (map f rest) ≡ request_of (map f words)
asked_is f words rest o p first new l r =
    ap (from_names p) (ap (map f) r ∙ sym (drop-map f first words)) ∙ sym (ap request_from (ap (λ (x : Options). leading x (map f words)) (sym new) ∙ l))

-- the words behind some, as the code cuts them
pub cut_is : {W : Type 0} (words : List W) (n : ℕ) → take (length words - n) (drop n words) ≡ drop n words
cut_is words n = take_all (length words - n) (drop n words) (omega (arith, length-drop n words))
