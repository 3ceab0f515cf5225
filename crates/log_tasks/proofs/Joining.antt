-- Joins of what is unjoined.
use Rattle.log_tasks.proofs.Common.{◌≡◌, ◌<◌, ◌+◌, ◌-◌, ◌==◌, ◌++◌, ◌∷◌, ◌∙◌, ℕ, zero, suc, Bool, true, false, not, List, [], length, drop, take, get_or, map, reverse, refl, sym, ap, Option, Some, None, arith, append_assoc, append-nil, ◌||◌, filter, slice_get, if◌then◌else◌, fun_ext, reverse_onto, map-append, take_more, filter-append, got_front, GraphTurn, Spawn, Join, spawned_by, joins, completed, left_by, joins_of, joins_for}
use Rattle.log_tasks.proofs.Acts.{or_assoc}

module _ (joined : ℕ → Bool) where
  one_join : (c : ℕ) (b : Bool) → joined c ≡ b → map Join (filter (λ d. not (joined d)) (c ∷ [])) ≡ joins_of (if b then None else Some c)
  one_join c true e = rw e refl
  one_join c false e = rw e refl

  spawn_first : (c : ℕ) (later : List ℕ) → map Join (filter (λ d. not (joined d)) (reverse (c ∷ later))) ≡ map Join (filter (λ d. not (joined d)) (reverse later)) ++ joins_of (left_by joined (Spawn c))
  spawn_first c later =
      ap (λ (cs : List ℕ). map Join (filter (λ d. not (joined d)) cs)) (reverse_onto later c [])
      ∙ ap (map Join) (filter-append (λ d. not (joined d)) (reverse later) (c ∷ []))
      ∙ map-append Join (filter (λ d. not (joined d)) (reverse later)) (filter (λ d. not (joined d)) (c ∷ []))
      ∙ ap (λ (ts : List GraphTurn). map Join (filter (λ d. not (joined d)) (reverse later)) ++ ts) (one_join c (joined c) refl)

  -- those of a turn come after those of all later ones
  joins_first : (turn : GraphTurn) (later : List GraphTurn) → joins_for joined (turn ∷ later) ≡ joins_for joined later ++ joins_of (left_by joined turn)
  joins_first (Spawn c) later = spawn_first c (spawned_by later)
  joins_first (Join c) later = sym (append-nil (joins_for joined later))

  -- one turn more from the end
  pub joins_more : (row : List GraphTurn) (place : ℕ) (turn : GraphTurn) → place < length row → slice_get row (length row - 1 - place) ≡ Some turn
      → joins_for joined (drop (length row - (place + 1)) row) ≡ joins_for joined (drop (length row - place) row) ++ joins_of (left_by joined turn)
  joins_more row place turn lt e =
      ap (joins_for joined) (dropped row (length row - (place + 1)) (length row - place) turn (omega (arith, lt)) (ap (slice_get row) (let n : length row - (place + 1) ≡ length row - 1 - place = omega (arith, lt) in n) ∙ e))
      ∙ joins_first turn (drop (length row - place) row)
    where
      dropped : (xs : List GraphTurn) (k next : ℕ) (x : GraphTurn) → next ≡ suc k → slice_get xs k ≡ Some x → drop k xs ≡ x ∷ drop next xs
      dropped [] k next x n h = absurd (cc)
      dropped (y ∷ ys) zero next x n h = rw n (let same : y ≡ x = cc in ap (λ (z : GraphTurn). z ∷ ys) same)
      dropped (y ∷ ys) (suc k) next x n h = rw n (dropped ys k (suc k) x refl h)

-- with what the turns themselves join
pub completed_by : (joined : ℕ → Bool) (row turns : List GraphTurn) → ((c : ℕ) → joined c ≡ joins row c) → turns ≡ row ++ joins_for joined row → turns ≡ completed row
completed_by joined row turns same e = e ∙ ap (λ (f : ℕ → Bool). row ++ joins_for f row) (fun_ext same)

-- JOINED CHILDREN

pub joins_both : (xs ys : List GraphTurn) (c : ℕ) → joins (xs ++ ys) c ≡ (joins xs c || joins ys c)
joins_both [] ys c = refl
joins_both (Spawn d ∷ xs) ys c = joins_both xs ys c
joins_both (Join d ∷ xs) ys c = ap (λ (b : Bool). (d == c) || b) (joins_both xs ys c) ∙ or_assoc (d == c) (joins xs c) (joins ys c)

-- one turn more
pub joined_more : (turns : List GraphTurn) (i : ℕ) (d turn : GraphTurn) (c : ℕ) → i < length turns → turn ≡ get_or turns i d → joins (take (i + 1) turns) c ≡ (joins (take i turns) c || joins (turn ∷ []) c)
joined_more turns i d turn c lt e =
    ap (λ (ts : List GraphTurn). joins ts c) (take_more turns i d lt)
    ∙ joins_both (take i turns) (get_or turns i d ∷ []) c
    ∙ ap (λ (t : GraphTurn). joins (take i turns) c || joins (t ∷ []) c) (sym e)

-- one join more is added, or none
pub joins_step : (joined : ℕ → Bool) (row turns new : List GraphTurn) (place count : ℕ) (turn : GraphTurn) (child : Option ℕ) → count ≡ length row → place < count → turns ≡ row ++ joins_for joined (drop (length row - place) row)
    → slice_get turns (count - 1 - place) ≡ Some turn → child ≡ left_by joined turn → new ≡ turns ++ joins_of child → new ≡ row ++ joins_for joined (drop (length row - (place + 1)) row)
joins_step joined row turns new place count turn child n lt so_far got c e =
    let within : length row - 1 - place < length row = omega (arith, n, lt) in
    let index : length row - 1 - place ≡ count - 1 - place = omega (arith, n) in
    let at : slice_get row (length row - 1 - place) ≡ Some turn =
    sym (got_front row (joins_for joined (drop (length row - place) row)) (length row - 1 - place) within)
    ∙ ap (λ (ts : List GraphTurn). slice_get ts (length row - 1 - place)) (sym so_far)
    ∙ ap (slice_get turns) index
    ∙ got in
    e
    ∙ ap (λ (o : Option ℕ). turns ++ joins_of o) c
    ∙ ap (λ (ts : List GraphTurn). ts ++ joins_of (left_by joined turn)) so_far
    ∙ append_assoc row (joins_for joined (drop (length row - place) row)) (joins_of (left_by joined turn))
    ∙ ap (λ (ts : List GraphTurn). row ++ ts) (sym (joins_more joined row place turn (omega (arith, n, lt)) at))
