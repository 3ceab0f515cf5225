-- The piece of a chunk that is found by its number.
use Rattle.chunk_list.proofs.Common.{◌≡◌, ℕ, ◌+◌, ◌-◌, ◌<◌, ◌≤◌, Bool, true, false, cond, List, [], ◌∷◌, ◌++◌, get_or, length, refl, sym, take, ap, ◌∙◌, suc, subst, arith, inl, inr, ⊎_elim, eqb, Option, Some, None, option_map, Err, Ok, OnErr, OnOk, Result, ◌||◌, option_or, cases_Bool, cases_lt, eqb-true, le-ltb, take_more, ChunkValue, place_in, chunk_position, PieceValue, frozen_of, is_among, needed, PiecesValue, ShowsChunks, or_none, Level, level_of, nearest, piece_in}
use Rattle.frozen_views.proofs.PieceLists as lists
use Rattle.object_layout.proofs.ChunkLaws as chunks

further : (k : ChunkValue) (ks : List ChunkValue) (i : ℕ) (d : ChunkValue) → get_or (k ∷ ks) (1 + i) d ≡ get_or ks i d
further k ks i d = let e : 1 + i ≡ suc i = omega arith in rw e refl

-- what is at the position of the chunk of a number
chunk_of_number : (ks : List ChunkValue) (n : ℕ) (d : ChunkValue) → chunk_position ks n < length ks → ((get_or ks (chunk_position ks n) d).number ≡ n) × (piece_in (level_of ks) n ≡ Some (frozen_of (get_or ks (chunk_position ks n) d)))
chunk_of_number [] n d l = absurd (omega arith)
chunk_of_number (k ∷ ks) n d l =
    elim (cases_Bool (eqb k.number n)) [
      | inl e ↦ rw e (eqb-true k.number n e, refl)
      | inr e ↦
          let m = rw e at l in
          let ih = chunk_of_number ks n d (omega arith) in
          let next : get_or (k ∷ ks) (1 + chunk_position ks n) d ≡ get_or ks (chunk_position ks n) d = further k ks (chunk_position ks n) d in
          rw (e, next) ih
    ]

gone : (ks : List ChunkValue) (n : ℕ) → length ks ≤ chunk_position ks n → piece_in (level_of ks) n ≡ None
gone [] n l = refl
gone (k ∷ ks) n l =
    elim (cases_Bool (eqb k.number n)) [
      | inl e ↦ let m = rw e at l in absurd (omega arith)
      | inr e ↦ let m = rw e at l in rw e (gone ks n (omega arith))
    ]

-- what an entry of the table means
found_place : (ks : List ChunkValue) (base n : ℕ) → length ks ≤ base → (before : ℕ) → Some before ≡ option_map (λ j. base - j) (place_in ks n) → (before ≤ base) × (Some (base - before) ≡ place_in ks n)
found_place ks base n l before e =
    ⊎_elim
    (λ (inside : chunk_position ks n < length ks).
    let f : Some before ≡ Some (base - chunk_position ks n) = rw (chunks.place_there ks n inside) at e in
    let g : before ≡ base - chunk_position ks n = cc in
    let same : base - before ≡ chunk_position ks n = omega arith in
    (omega arith, ap Some same ∙ sym (chunks.place_there ks n inside)))
    (λ (outside : length ks ≤ chunk_position ks n). let f : Some before ≡ None = rw (le-ltb (chunk_position ks n) (length ks) outside) at e in absurd (cc))
    (cases_lt (chunk_position ks n) (length ks))

-- the piece of the chunk at the position in the table
pub one_added : (ks : List ChunkValue) (base number before : ℕ) (k : ChunkValue) → length ks ≤ base → Some before ≡ option_map (λ j. base - j) (place_in ks number) → k ≡ get_or ks (base - before) k →
    (n : ℕ) → piece_in (level_of (k ∷ [])) n ≡ cond (eqb number n) (piece_in (level_of ks) n) None
one_added ks base number before k few tells read n =
    let place = (found_place ks base number few before tells).1 in
    let found = chunks.place_found ks number (base - before) (sym place) in
    let at = chunk_of_number ks number k (let l = found.1 in omega arith) in
    let same : k ≡ get_or ks (chunk_position ks number) k = read ∙ ap (λ (i : ℕ). get_or ks i k) found.0 in
    let is : k.number ≡ number = ap (λ (x : ChunkValue). x.number) same ∙ at.0 in
    let piece : piece_in (level_of ks) number ≡ Some (frozen_of k) = at.1 ∙ ap (λ (x : ChunkValue). Some (frozen_of x)) (sym same) in
    ap (λ (m : ℕ). cond (eqb m n) (Some (frozen_of k)) None) is ∙ one_added_by_cases (eqb number n) (λ e. subst (λ (m : ℕ). piece_in (level_of ks) m ≡ Some (frozen_of k)) (eqb-true number n e) piece)
  where
    one_added_by_cases : (b : Bool) → (b ≡ true → piece_in (level_of ks) n ≡ Some (frozen_of k)) → cond b (Some (frozen_of k)) None ≡ cond b (piece_in (level_of ks) n) None
    one_added_by_cases true h = sym (h refl)
    one_added_by_cases false h = refl

-- no chunk has the number
pub none_added : (ks : List ChunkValue) (base number : ℕ) → None ≡ option_map (λ j. base - j) (place_in ks number) → (n : ℕ) (o : Option PieceValue) → o ≡ option_or o (cond (eqb number n) (piece_in (level_of ks) n) None)
none_added ks base number tells n o = sym (ap (option_or o) (none_added_by_cases (eqb number n) (λ e. subst (λ (m : ℕ). piece_in (level_of ks) m ≡ None) (eqb-true number n e) none)) ∙ or_none o)
  where
    unplaced : (p : Option ℕ) → None ≡ option_map (λ j. base - j) p → p ≡ None
    unplaced None e = refl
    unplaced (Some i) e = cc

    none : piece_in (level_of ks) number ≡ None
    none = gone ks number (chunks.none_there ks number (unplaced (place_in ks number) tells))

    none_added_by_cases : (b : Bool) → (b ≡ true → piece_in (level_of ks) n ≡ None) → cond b (piece_in (level_of ks) n) None ≡ None
    none_added_by_cases true h = h refl
    none_added_by_cases false h = refl

-- the pieces of one more number
pub number_more : (ks : List ChunkValue) (o was : Option PieceValue) (among one : Bool) (n : ℕ) → o ≡ option_or was (cond among (piece_in (level_of ks) n) None) →
    option_or o (cond one (piece_in (level_of ks) n) None) ≡ option_or was (cond (cond among true one) (piece_in (level_of ks) n) None)
number_more ks o was among one n e = ap (λ (x : Option PieceValue). option_or x (cond one (piece_in (level_of ks) n) None)) e ∙ number_more_by_cases among one was (piece_in (level_of ks) n)
  where
    number_more_by_cases : (a b : Bool) (p q : Option PieceValue) → option_or (option_or p (cond a q None)) (cond b q None) ≡ option_or p (cond (cond a true b) q None)
    number_more_by_cases true b (Some x) q = refl
    number_more_by_cases true true None None = refl
    number_more_by_cases true false None None = refl
    number_more_by_cases true b None (Some y) = refl
    number_more_by_cases false b (Some x) q = refl
    number_more_by_cases false b None q = refl

-- what is cached after the missing pieces are put in front, or if that fails without memory
pub put_shows : {T E : Type 0} (r : Result T E) (p now q : PiecesValue) (l : Level) (ks : List ChunkValue) → now ≡ p → OnOk r ((n : ℕ) → nearest q.layers n ≡ option_or (piece_in l n) (cond now.lost None (nearest now.layers n))) →
    OnErr r (q ≡ now) → ((n : ℕ) → piece_in l n ≡ needed now ks n) → ShowsChunks p ks → ShowsChunks q ks
put_shows (Ok x) p now q l ks same puts fails needs h =
    let shows : ShowsChunks now ks = subst (λ (k : PiecesValue). ShowsChunks k ks) (sym same) h in
    lists.shown_again q ks (λ n. puts n ∙ (ap (λ (o : Option PieceValue). option_or o (cond now.lost None (nearest now.layers n))) (needs n) ∙ lists.all_shown now ks shows n))
put_shows (Err e) p now q l ks same puts fails needs h = subst (λ (k : PiecesValue). ShowsChunks k ks) (sym (fails ∙ same)) h

-- the piece of the next number is added
pub next_number : (ks : List ChunkValue) (xs : List ℕ) (i d : ℕ) → i < length xs → (now was before : Option PieceValue) (n : ℕ) → now ≡ option_or was (cond (eqb (get_or xs i d) n) (piece_in (level_of ks) n) None) →
    was ≡ option_or before (cond (is_among (take i xs) n) (piece_in (level_of ks) n) None) → now ≡ option_or before (cond (is_among (take (i + 1) xs) n) (piece_in (level_of ks) n) None)
next_number ks xs i d inside now was before n adds had =
    let x : ℕ = get_or xs i d in
    let next : take (i + 1) xs ≡ take i xs ++ x ∷ [] = take_more xs i d inside in
    adds ∙ (number_more ks was before (is_among (take i xs) n) (eqb x n) n had
    ∙ ap (λ (b : Bool). option_or before (cond b (piece_in (level_of ks) n) None)) (ap (λ (b : Bool). cond (is_among (take i xs) n) true b) (alone (eqb x n)) ∙ (sym (lists.among_both (take i xs) (x ∷ []) n) ∙ ap (λ (ys : List ℕ). is_among ys n) (sym next))))
  where
    alone : (b : Bool) → b ≡ (b || false)
    alone true = refl
    alone false = refl
