-- Names of files, and the texts that are read of them.
use Rattle.log_command.proofs.Common.{◌≡◌, ◌<◌, ◌≤◌, ◌+◌, ℕ, zero, suc, List, [], ◌∷◌, ◌++◌, length, take, get_or, map, arith, refl, ap, sym, ◌∙◌, ◌⊎◌, inl, inr, subst, Some, length-append, ◌≢◌, eq-or-lt_of_le, get_or-append, get_or-append_seam, map-append, get_or-map, ReadsUpTo, SourceState, IsInputOf, HasTaken, HasRead, some_input, text_of, texts_of, most_file_bytes, reads_file, AreFirstInputs, HasTakenFirst, HasReadFirst}

pub not_empty : {W : Type 0} (f : W → List ℕ) (words : List W) (i : ℕ) → i < length words → map f words ≢ []
not_empty f [] i lt e = omega (arith, lt)
not_empty f (w ∷ ws) i lt e = cc

-- the name of file i
pub named_at : {W : Type 0} (f : W → List ℕ) (words : List W) (i : ℕ) (w : W) → i < length words → w ≡ get_or words i w → f w ≡ get_or (map f words) i []
named_at f words i w lt e = ap f e ∙ sym (get_or-map f words i w [] lt)

-- INPUTS

module _ (names : List (List ℕ)) (before : SourceState) where
  pub no_inputs : AreFirstInputs names 0 before []
  no_inputs = record { count = refl; each = λ k lt. absurd (omega (arith, lt)) }

  each_more : (i : ℕ) (inputs : List (List ℕ)) (input : List ℕ) (k : ℕ) → length inputs ≡ i → ((j : ℕ) → j < i → IsInputOf (reads_file names j) before (get_or inputs j [])) → IsInputOf (reads_file names i) before input → k < i + 1
      → (k ≡ i) ⊎ (k < i) → IsInputOf (reads_file names k) before (get_or (inputs ++ input ∷ []) k [])
  each_more i inputs input k n each is lt (inr below) = let here : k < length inputs = omega arith in rw (get_or-append inputs (input ∷ []) [] k here) (each k below)
  each_more i inputs input k n each is lt (inl e) =
      subst (λ (j : ℕ). IsInputOf (reads_file names j) before (get_or (inputs ++ input ∷ []) j [])) (sym e)
      (subst (λ (j : ℕ). IsInputOf (reads_file names i) before (get_or (inputs ++ input ∷ []) j [])) n (rw (get_or-append_seam inputs input [] []) is))

  below_or_at : (k i : ℕ) → k < i + 1 → (k ≡ i) ⊎ (k < i)
  below_or_at k i lt = let le : k ≤ i = omega (arith, lt) in eq-or-lt_of_le le

  -- one input more
  pub more_inputs : (i : ℕ) (inputs : List (List ℕ)) (input : List ℕ) → AreFirstInputs names i before inputs → IsInputOf (reads_file names i) before input → AreFirstInputs names (i + 1) before (inputs ++ input ∷ [])
  more_inputs i inputs input are is = record {
    count = (let n = are.count in omega (arith, n, length-append inputs (input ∷ [])));
    each = λ k lt. each_more i inputs input k are.count are.each is lt (below_or_at k i lt);
  }

  -- whatever the source tells, there are inputs
  pub some_inputs : (n : ℕ) → (inputs : List (List ℕ)) × AreFirstInputs names n before inputs
  some_inputs zero = ([], no_inputs)
  some_inputs (suc n) =
      let rest = some_inputs n in
      let one = some_input (reads_file names n) before in
      (rest.0 ++ one.0 ∷ [], subst (λ (m : ℕ). AreFirstInputs names m before (rest.0 ++ one.0 ∷ [])) (let e : n + 1 ≡ suc n = omega arith in e) (more_inputs n rest.0 one.0 rest.1 one.1))

-- TEXTS

-- nothing was read yet
pub nothing_read : (names : List (List ℕ)) (before : SourceState) → HasReadFirst names 0 before before []
nothing_read names before = record {
  inputs = [];
  are = no_inputs names before;
  texts_are = refl;
  taken = record { none = λ e. refl; last = λ k e. absurd (omega (arith, e)) };
}

module _ (names : List (List ℕ)) (i : ℕ) (before mid after : SourceState) (name : List ℕ) (is : name ≡ get_or names i []) (same : (n : List ℕ) → mid.named n ≡ before.named n) where
  input_here : (input : List ℕ) → IsInputOf (ReadsUpTo most_file_bytes (Some name)) mid input → IsInputOf (reads_file names i) before input
  input_here input h = record { within = h.within; first = λ whole e. h.first whole (same name ∙ ap before.named is ∙ e) }

  taken_here : HasTaken (ReadsUpTo most_file_bytes (Some name)) mid after → HasTaken (reads_file names i) before after
  taken_here t = λ whole e. t whole (same name ∙ ap before.named is ∙ e)

  -- one text more is read
  pub read_more : (texts : List (List ℕ)) (text : List ℕ) (more : List (List ℕ)) → more ≡ texts ++ text ∷ [] → HasReadFirst names i before mid texts → (input : List ℕ) × HasRead (ReadsUpTo most_file_bytes (Some name)) mid after input × (text ≡ text_of input) → HasReadFirst names (i + 1) before after more
  read_more texts text more e so_far one = record {
    inputs = so_far.inputs ++ one.0 ∷ [];
    are = more_inputs names before i so_far.inputs one.0 so_far.are (input_here one.0 one.1.is);
    texts_are = e ∙ (let t : text ≡ text_of one.0 = one.2 in let ts = so_far.texts_are in rw (ts, t) (sym (map-append text_of so_far.inputs (one.0 ∷ []))));
    taken = record {
      none = λ e. absurd (omega (arith, e));
      last = λ k e. (let at : i ≡ k = omega (arith, e) in subst (λ (j : ℕ). HasTaken (reads_file names j) before after) at (taken_here one.1.taken));
    };
  }
