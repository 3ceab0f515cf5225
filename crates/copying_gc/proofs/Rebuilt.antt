-- The chunks that stay: those of large survivors, unchanged except for their references.
use Rattle.copying_gc.proofs.Common.{◌≡◌, ℕ, zero, suc, ◌<◌, Bool, true, false, cond, List, [], ◌∷◌, length, map, filter, refl, sym, ap, ◌∙◌, subst, arith, inl, inr, Option, Some, None, Contains, All, is_some, nat_le, remove, not, ◌&&◌, list_any, cases_Bool, cases_lt, false≢true, le-leb, All-head, All-tail, Addr, Cell, Moved, moved_to, size_of, with_mark, ChunkValue, cell_at, cell_of, chunk_at, is_same, AreTidy, IsReserved, IsTidy, same_address, In, contains_from_in, in_from_contains, HaveSameShape, numbers, Distinct, Survivor, olds, is_moved, led_cell, emptied, goes, stays, unreserved, reserved_of, keeps, leaves}
use Rattle.address_laws.proofs.Puts as puts
use Rattle.copying_gc.proofs.Moves as moves
use Rattle.address_laws.proofs.Extent as extent

first_size : (cs ds : List Cell) → map size_of ds ≡ map size_of cs → size_of (cell_at ds 0) ≡ size_of (cell_at cs 0)
first_size [] [] e = refl
first_size [] (d ∷ ds) e = absurd cc
first_size (c ∷ cs) [] e = absurd cc
first_size (c ∷ cs) (d ∷ ds) e = cc

first_unmoved : (cs : List Cell) → All (λ (c : Cell). moved_to c.mark ≡ None) cs → moved_to (cell_at cs 0).mark ≡ None
first_unmoved [] a = refl
first_unmoved (c ∷ cs) a = All-head (λ (c : Cell). moved_to c.mark ≡ None) c cs a

-- a chunk whose first object is large has no other
pub alone_first : (k : ChunkValue) → IsTidy k → 1024 < size_of (cell_at k.cells 0) → length k.cells ≡ 1
alone_first k t l = alone_in k.cells (length k.cells ≡ 1) t.alone l
  where
    alone_in : (cs : List Cell) (P : Type 0) → All (λ (c : Cell). 1024 < size_of c → P) cs → 1024 < size_of (cell_at cs 0) → P
    alone_in [] P a l = absurd (omega arith)
    alone_in (c ∷ cs) P a l = All-head (λ (c : Cell). 1024 < size_of c → P) c cs a l

pub one_cell : (cs : List Cell) → length cs ≡ 1 → cs ≡ cell_at cs 0 ∷ []
one_cell [] e = absurd (omega arith)
one_cell (c ∷ []) e = refl
one_cell (c ∷ (d ∷ cs)) e = absurd (omega arith)

one_length : (cs ds : List Cell) → map size_of ds ≡ map size_of cs → length cs ≡ 1 → length ds ≡ 1
one_length [] ds e l = absurd (omega arith)
one_length (c ∷ []) [] e l = absurd cc
one_length (c ∷ []) (d ∷ []) e l = refl
one_length (c ∷ []) (d ∷ (b ∷ ds)) e l = absurd cc
one_length (c ∷ (b ∷ cs)) ds e l = absurd (omega arith)

pub any_here : (ss : List Survivor) (a : Addr) → In (olds ss) a → list_any (λ (s : Survivor). same_address s.old a) ss ≡ true
any_here [] a i = absurd i
any_here (s ∷ ss) a (inl e) = rw (is_same s.old a e) refl
any_here (s ∷ ss) a (inr i) =
    elim (cases_Bool (same_address s.old a)) [
      | inl e ↦ rw e refl
      | inr e ↦ rw e (any_here ss a i)
    ]

pub any_none : (ss : List Survivor) (a : Addr) → (In (olds ss) a → ⊥) → list_any (λ (s : Survivor). same_address s.old a) ss ≡ false
any_none [] a n = refl
any_none (s ∷ ss) a n = rw (moves.addr_other s.old a (λ e. n (inl e))) (any_none ss a (λ i. n (inr i)))

abbrev pub first_of : ChunkValue → Addr
first_of k = record { chunk = k.number; offset = 0 }

module _ (ss : List Survivor) (f : Option Addr → Option Addr) where
  -- the chunk of a large survivor, marked as found and with its references updated
  abbrev pub marked_chunk : ChunkValue → ChunkValue
  marked_chunk k = record k { cells = map (λ (c : Cell). led_cell f (with_mark c (Moved (first_of k)))) k.cells }

  abbrev pub VacatedIn : List ChunkValue → List ChunkValue → Type 0
  VacatedIn hs gs = (a : Addr) → In (numbers hs) a.chunk →
      (Contains (olds ss) a → is_moved hs a ≡ false → cell_of gs a ≡ led_cell f (with_mark (cell_of hs a) (Moved a)))
      × ((Contains (olds ss) a → ⊥) → cell_of gs a ≡ cell_of hs a)

  left_tail : (k l : ChunkValue) (ks ls : List ChunkValue) → l.number ≡ k.number → (In (numbers ks) k.number → ⊥) → VacatedIn (k ∷ ks) (l ∷ ls) → VacatedIn ks ls
  left_tail k l ks ls n fresh left a i =
      let out : k.number ≡ a.chunk → ⊥ = λ e. fresh (subst (In (numbers ks)) (sym e) i) in
      let was = extent.later k ks a out in
      let is = extent.later l ls a (λ e. out (sym n ∙ e)) in
      let both = left a (inr i) in (
        λ c s. sym is ∙ (both.0 c (ap (λ (d : Cell). nat_le (size_of d) 1024) was ∙ s) ∙ ap (λ (d : Cell). led_cell f (with_mark d (Moved a))) was),
        λ c. sym is ∙ (both.1 c ∙ was),
      )

  -- what is known of a chunk and of what was left of it
  pub record IsPair (k l : ChunkValue) : Type 0 where
    pub stays_if : stays l ≡ keeps ss k
    pub kept : keeps ss k ≡ true → l ≡ marked_chunk k
    pub empty : emptied l ≡ emptied k

  and_false : (b : Bool) → (false && b) ≡ false
  and_false b = refl

  module _ (k l : ChunkValue) (tidy : IsTidy k) (n : l.number ≡ k.number) (size : l.size ≡ k.size) (sizes : map size_of l.cells ≡ map size_of k.cells)
      (large : Contains (olds ss) (first_of k) → nat_le (size_of (cell_at k.cells 0)) 1024 ≡ false → cell_at l.cells 0 ≡ led_cell f (with_mark (cell_at k.cells 0) (Moved (first_of k))))
      (other : (Contains (olds ss) (first_of k) → ⊥) → cell_at l.cells 0 ≡ cell_at k.cells 0) where
    same_size : nat_le (size_of (cell_at l.cells 0)) 1024 ≡ nat_le (size_of (cell_at k.cells 0)) 1024
    same_size = ap (λ (m : ℕ). nat_le m 1024) (first_size k.cells l.cells sizes)

    stays_at : (b : Bool) → nat_le (size_of (cell_at k.cells 0)) 1024 ≡ b → (not b && is_some (moved_to (cell_at l.cells 0).mark)) ≡ (not b && list_any (λ (s : Survivor). same_address s.old (first_of k)) ss)
    stays_at true e = refl
    stays_at false e =
        elim (puts.in_or_not (olds ss) (first_of k)) [
          | inl i ↦ ap (λ (c : Cell). is_some (moved_to c.mark)) (large (contains_from_in (olds ss) (first_of k) i) e) ∙ sym (any_here ss (first_of k) i)
          | inr m ↦ ap (λ (c : Cell). is_some (moved_to c.mark)) (other (λ c. m (in_from_contains (olds ss) (first_of k) c)))
              ∙ (ap (λ (o : Option Addr). is_some o) (first_unmoved k.cells tidy.unmoved) ∙ sym (any_none ss (first_of k) m))
        ]

    kept_at : (b : Bool) → nat_le (size_of (cell_at k.cells 0)) 1024 ≡ b → (not b && list_any (λ (s : Survivor). same_address s.old (first_of k)) ss) ≡ true → l ≡ marked_chunk k
    kept_at true e t = absurd (false≢true t)
    kept_at false e t =
        elim (puts.in_or_not (olds ss) (first_of k)) [
          | inl i ↦
              let big : 1024 < size_of (cell_at k.cells 0) = elim (cases_lt 1024 (size_of (cell_at k.cells 0))) [ inl b ↦ b | inr b ↦ absurd (false≢true (sym e ∙ le-leb (size_of (cell_at k.cells 0)) 1024 b)) ] in
              let one = alone_first k tidy big in
              let was = one_cell k.cells one in
              let is = one_cell l.cells (one_length k.cells l.cells sizes one) in
              let cells : l.cells ≡ map (λ (c : Cell). led_cell f (with_mark c (Moved (first_of k)))) k.cells =
              is ∙ (ap (λ (c : Cell). c ∷ []) (large (contains_from_in (olds ss) (first_of k) i) e) ∙ sym (ap (map (λ (c : Cell). led_cell f (with_mark c (Moved (first_of k))))) was)) in
              (λ j. record { number = n j; size = size j; cells = cells j })
          | inr m ↦ absurd (false≢true (sym (any_none ss (first_of k) m) ∙ t))
        ]

    pub pair : IsPair k l
    pair = record {
      stays_if = ap (λ (b : Bool). not b && is_some (moved_to (cell_at l.cells 0).mark)) same_size ∙ stays_at (nat_le (size_of (cell_at k.cells 0)) 1024) refl;
      kept = λ t. kept_at (nat_le (size_of (cell_at k.cells 0)) 1024) refl t;
      empty = λ i. record { number = n i; size = size i; cells = [] };
    }

  abbrev pub ArePairs : List ChunkValue → List ChunkValue → Type 0
  ArePairs [] [] = Unit {0}
  ArePairs [] (l ∷ ls) = ⊥
  ArePairs (k ∷ ks) [] = ⊥
  ArePairs (k ∷ ks) (l ∷ ls) = IsPair k l × ArePairs ks ls

  pub pairs : (hs gs : List ChunkValue) → HaveSameShape hs gs → AreTidy hs → Distinct (numbers hs) → VacatedIn hs gs → ArePairs hs gs
  pairs [] [] a t d left = tt
  pairs [] (l ∷ ls) a t d left = absurd a
  pairs (k ∷ ks) [] a t d left = absurd a
  pairs (k ∷ ks) (l ∷ ls) a t d left =
      let was = extent.cell_in_first k ks (first_of k) refl in
      let is = extent.cell_in_first l ls (first_of k) a.0.0 in
      let both = left (first_of k) (inl refl) in (
        pair k l (All-head IsTidy k ks t) a.0.0 a.0.1 a.0.2
            (λ c s. sym is ∙ (both.0 c (ap (λ (x : Cell). nat_le (size_of x) 1024) was ∙ s) ∙ ap (λ (x : Cell). led_cell f (with_mark x (Moved (first_of k)))) was))
            (λ c. sym is ∙ (both.1 c ∙ was)),
        pairs ks ls a.1 (All-tail IsTidy k ks t) d.1 (left_tail k l ks ls a.0.0 d.0 left),
      )

  pairs_removed : (hs gs : List ChunkValue) (i : ℕ) → ArePairs hs gs → ArePairs (remove hs i) (remove gs i)
  pairs_removed [] [] zero p = p
  pairs_removed [] [] (suc i) p = p
  pairs_removed [] (l ∷ ls) i p = absurd p
  pairs_removed (k ∷ ks) [] i p = absurd p
  pairs_removed (k ∷ ks) (l ∷ ls) zero p = p.1
  pairs_removed (k ∷ ks) (l ∷ ls) (suc i) p = (p.0, pairs_removed ks ls i p.1)

  pub pairs_unreserved : (hs gs : List ChunkValue) (r : Option ℕ) → ArePairs hs gs → ArePairs (unreserved hs r) (unreserved gs r)
  pairs_unreserved hs gs None p = p
  pairs_unreserved hs gs (Some i) p = pairs_removed hs gs i p

  -- the chunks that stay
  stay_step : (k l : ChunkValue) (ks ls : List ChunkValue) → IsPair k l → filter stays ls ≡ map marked_chunk (filter (keeps ss) ks) → (b : Bool) → keeps ss k ≡ b → stays l ≡ b
      → cond b (l ∷ filter stays ls) (filter stays ls) ≡ map marked_chunk (cond b (k ∷ filter (keeps ss) ks) (filter (keeps ss) ks))
  stay_step k l ks ls p rest true e q = λ i. p.kept e i ∷ rest i
  stay_step k l ks ls p rest false e q = rest

  pub stay_same : (hs gs : List ChunkValue) → ArePairs hs gs → filter stays gs ≡ map marked_chunk (filter (keeps ss) hs)
  stay_same [] [] p = refl
  stay_same [] (l ∷ ls) p = absurd p
  stay_same (k ∷ ks) [] p = absurd p
  stay_same (k ∷ ks) (l ∷ ls) p =
      ap (λ (b : Bool). cond b (l ∷ filter stays ls) (filter stays ls)) p.0.stays_if
      ∙ stay_step k l ks ls p.0 (stay_same ks ls p.1) (keeps ss k) refl p.0.stays_if

  -- the chunks that are released
  go_step : (k l : ChunkValue) (ks ls : List ChunkValue) → IsPair k l → map emptied (filter goes ls) ≡ map emptied (filter (leaves ss) ks) → (b : Bool)
      → map emptied (cond (not b) (l ∷ filter goes ls) (filter goes ls)) ≡ map emptied (cond (not b) (k ∷ filter (leaves ss) ks) (filter (leaves ss) ks))
  go_step k l ks ls p rest true = rest
  go_step k l ks ls p rest false = λ i. p.empty i ∷ rest i

  pub go_same : (hs gs : List ChunkValue) → ArePairs hs gs → map emptied (filter goes gs) ≡ map emptied (filter (leaves ss) hs)
  go_same [] [] p = refl
  go_same [] (l ∷ ls) p = absurd p
  go_same (k ∷ ks) [] p = absurd p
  go_same (k ∷ ks) (l ∷ ls) p =
      ap (λ (b : Bool). map emptied (cond (not b) (l ∷ filter goes ls) (filter goes ls))) p.0.stays_if
      ∙ go_step k l ks ls p.0 (go_same ks ls p.1) (keeps ss k)

-- the reserved chunk is empty, before and after
no_cells : (cs : List Cell) → map size_of cs ≡ [] → cs ≡ []
no_cells [] e = refl
no_cells (c ∷ cs) e = absurd cc

reserved_at : (h g : List ChunkValue) (i : ℕ) → HaveSameShape h g → (chunk_at g i).cells ≡ [] → chunk_at g i ≡ chunk_at h i
reserved_at [] [] i a e = refl
reserved_at [] (l ∷ ls) i a e = absurd a
reserved_at (k ∷ ks) [] i a e = absurd a
reserved_at (k ∷ ks) (l ∷ ls) zero a e =
    let none : k.cells ≡ [] = no_cells k.cells (sym a.0.2 ∙ ap (map size_of) e) in
    λ j. record { number = a.0.0 j; size = a.0.1 j; cells = (e ∙ sym none) j }
reserved_at (k ∷ ks) (l ∷ ls) (suc i) a e = reserved_at ks ls i a.1 e

-- the reserved chunk is empty
abbrev pub NoneThere : List ChunkValue → Option ℕ → Type 0
NoneThere g None = Unit {0}
NoneThere g (Some i) = (chunk_at g i).cells ≡ []

pub none_at : (ks : List ChunkValue) (o : Option ℕ) → IsReserved ks o → NoneThere ks o
none_at ks None w = tt
none_at ks (Some i) w = w.1.1

pub reserved_same : (h g : List ChunkValue) (r : Option ℕ) → HaveSameShape h g → NoneThere g r → reserved_of g r ≡ reserved_of h r
reserved_same h g None a e = refl
reserved_same h g (Some i) a e = ap (λ (k : ChunkValue). k ∷ []) (reserved_at h g i a e)
