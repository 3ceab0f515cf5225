-- A collection leaves a tidy heap: no object in it was moved, and a large one has its chunk to itself.
use Rattle.copying_gc.proofs.Common.{◌≡◌, ℕ, zero, suc, ◌+◌, ◌*◌, ◌<◌, ◌≤◌, Bool, true, false, cond, List, [], ◌∷◌, ◌++◌, length, map, filter, refl, sym, ap, ◌∙◌, subst, arith, inl, inr, Option, Some, None, All, remove, nat_lt, reverse, leb-true, length-map, All-append, All-cons, All-filter, All-get_or, All-head, All-map, All-nil, All-push, All-tail, All-weaker, Addr, Cell, moved_to, size_of, ChunkValue, cell_of, no_chunk, AreTidy, IsTidy, units, unmoved_at, In, Survivor, olds, nothing_laid, laid_all, laid_one, opened, open_next, placed_behind, room_in, smalls, AreNew, Laying, led_cell, led_chunk, reserved_of, unreserved, keeps, laying_of}
use Rattle.copying_gc.proofs.Moves.{in_smalls}
use Rattle.copying_gc.proofs.NewNumbers.{Within, new_reverse}

-- ---- the chunks with small survivors

-- small, and not moved
abbrev IsLaid : Cell → Type 0
IsLaid c = (moved_to c.mark ≡ None) × (size_of c ≤ 1024)

abbrev HoldsLaid : ChunkValue → Type 0
HoldsLaid k = All IsLaid k.cells × (k.size ≡ 1024)

laid_placed : (ks : List ChunkValue) (c : Cell) → IsLaid c → All HoldsLaid ks → All HoldsLaid (placed_behind ks c)
laid_placed [] c p a = a
laid_placed (k ∷ []) c p a =
    let here = All-head HoldsLaid k [] a in
    All-cons HoldsLaid (record k { cells = k.cells ++ c ∷ [] }) [] (All-push IsLaid k.cells c here.0 p, here.1) (All-nil HoldsLaid)
laid_placed (k ∷ (l ∷ ks)) c p a = All-cons HoldsLaid k (placed_behind (l ∷ ks) c) (All-head HoldsLaid k (l ∷ ks) a) (laid_placed (l ∷ ks) c p (All-tail HoldsLaid k (l ∷ ks) a))

laid_open : (laid spare : List ChunkValue) → All HoldsLaid laid → AreNew spare → All HoldsLaid (open_next laid spare).laid × AreNew (open_next laid spare).spare
laid_open laid [] a n = (a, n)
laid_open laid (k ∷ ks) a n = (All-push HoldsLaid laid k a (subst (λ (cs : List Cell). All IsLaid cs) (sym n.0.0) (All-nil IsLaid), n.0.1), n.1)

laid_opened : (y : Laying) (b : Bool) → All HoldsLaid y.laid → AreNew y.spare → All HoldsLaid (cond b (open_next y.laid y.spare) y).laid × AreNew (cond b (open_next y.laid y.spare) y).spare
laid_opened y true a n = laid_open y.laid y.spare a n
laid_opened y false a n = (a, n)

all_laid : (y : Laying) (h : List ChunkValue) (xs : List Addr) → ((a : Addr) → In xs a → IsLaid (cell_of h a)) → All HoldsLaid y.laid → AreNew y.spare → All HoldsLaid (laid_all y h xs).laid
all_laid y h [] f a n = a
all_laid y h (x ∷ xs) f a n =
    let o = laid_opened y (nat_lt (room_in y.laid) (size_of (cell_of h x))) a n in
    all_laid (laid_one y (cell_of h x)) h xs (λ b i. f b (inr i)) (laid_placed (opened y (size_of (cell_of h x))).laid (cell_of h x) (f x (inl refl)) o.0) o.1

laid_tidy : (k : ChunkValue) → HoldsLaid k → IsTidy k
laid_tidy k a = record {
  unmoved = All-weaker IsLaid (λ (c : Cell). moved_to c.mark ≡ None) (λ c p. p.0) k.cells a.0;
  alone = All-weaker IsLaid (λ (c : Cell). 1024 < size_of c → length k.cells ≡ 1) (λ c p l. let m : size_of c ≤ 1024 = p.1 in absurd (omega arith)) k.cells a.0;
  exact = All-weaker IsLaid (λ (c : Cell). 1024 < size_of c → k.size ≡ 1024 * units (size_of c)) (λ c p l. let m : size_of c ≤ 1024 = p.1 in absurd (omega arith)) k.cells a.0;
  few = λ l. let s : k.size ≡ 1024 = a.1 in absurd (omega arith);
}

-- ---- references are updated

led_tidy : (f : Option Addr → Option Addr) (k : ChunkValue) → IsTidy k → IsTidy (led_chunk f k)
led_tidy f k t = record {
  unmoved = All-map (λ (c : Cell). moved_to c.mark ≡ None) (led_cell f) k.cells t.unmoved;
  alone =
      let count : length (map (led_cell f) k.cells) ≡ length k.cells = length-map k.cells (led_cell f) in
      All-map (λ (c : Cell). 1024 < size_of c → length (map (led_cell f) k.cells) ≡ 1) (led_cell f) k.cells
      (All-weaker (λ (c : Cell). 1024 < size_of c → length k.cells ≡ 1) (λ (c : Cell). 1024 < size_of (led_cell f c) → length (map (led_cell f) k.cells) ≡ 1)
      (λ c p l. let n : length (map f c.refs) ≡ length c.refs = length-map c.refs f in count ∙ p (omega arith)) k.cells t.alone);
  exact =
      All-map (λ (c : Cell). 1024 < size_of c → k.size ≡ 1024 * units (size_of c)) (led_cell f) k.cells
      (All-weaker (λ (c : Cell). 1024 < size_of c → k.size ≡ 1024 * units (size_of c)) (λ (c : Cell). 1024 < size_of (led_cell f c) → k.size ≡ 1024 * units (size_of (led_cell f c)))
      (λ c p l.
      let n : length (map f c.refs) ≡ length c.refs = length-map c.refs f in
      p (omega arith) ∙ ap (λ (m : ℕ). 1024 * units (2 + (m + length c.ints))) (sym n)) k.cells t.exact);
  few = λ l. let n : length (map (led_cell f) k.cells) ≡ length k.cells = length-map k.cells (led_cell f) in let m : length k.cells ≤ 1 = t.few l in omega arith;
}

all_led : (f : Option Addr → Option Addr) (ks : List ChunkValue) → AreTidy ks → AreTidy (map (led_chunk f) ks)
all_led f ks t = All-map IsTidy (led_chunk f) ks (All-weaker IsTidy (λ (k : ChunkValue). IsTidy (led_chunk f k)) (led_tidy f) ks t)

-- ---- the others

removed_tidy : (ks : List ChunkValue) (i : ℕ) → AreTidy ks → AreTidy (remove ks i)
removed_tidy [] zero t = t
removed_tidy [] (suc i) t = t
removed_tidy (k ∷ ks) zero t = All-tail IsTidy k ks t
removed_tidy (k ∷ ks) (suc i) t = All-cons IsTidy k (remove ks i) (All-head IsTidy k ks t) (removed_tidy ks i (All-tail IsTidy k ks t))

unreserved_tidy : (ks : List ChunkValue) (r : Option ℕ) → AreTidy ks → AreTidy (unreserved ks r)
unreserved_tidy ks None t = t
unreserved_tidy ks (Some i) t = removed_tidy ks i t

reserved_tidy : (ks : List ChunkValue) (r : Option ℕ) → Within ks r → AreTidy ks → AreTidy (reserved_of ks r)
reserved_tidy ks None w t = All-nil IsTidy
reserved_tidy ks (Some i) w t = All-push IsTidy [] _ (All-nil IsTidy) (All-get_or IsTidy ks i no_chunk w t)

pub all_tidy : (f : Option Addr → Option Addr) (h : List ChunkValue) (ss : List Survivor) (news : List ChunkValue) (r : Option ℕ) → AreTidy h → AreNew news → Within h r
    → (laid : List ChunkValue) → laid ≡ map (led_chunk f) (laying_of h ss (reverse news)).laid
    → AreTidy (laid ++ (map (led_chunk f) (filter (keeps ss) (unreserved h r)) ++ reserved_of h r))
all_tidy f h ss news r t new within laid is =
    let xs = smalls h (olds ss) in
    let small : (a : Addr) → In (smalls h (olds ss)) a → IsLaid (cell_of h a) = λ a i. (unmoved_at h a t, leb-true (size_of (cell_of h a)) 1024 (in_smalls h (olds ss) a i).1) in
    let first = all_laid (nothing_laid (reverse news)) h (smalls h (olds ss)) small (All-nil HoldsLaid) (new_reverse news new) in
    let one : AreTidy laid = subst AreTidy (sym is) (all_led f (laying_of h ss (reverse news)).laid (All-weaker HoldsLaid IsTidy laid_tidy (laying_of h ss (reverse news)).laid first)) in
    let two : AreTidy (map (led_chunk f) (filter (keeps ss) (unreserved h r))) = all_led f (filter (keeps ss) (unreserved h r)) (All-filter (keeps ss) IsTidy (unreserved h r) (unreserved_tidy h r t)) in
    All-append IsTidy laid (map (led_chunk f) (filter (keeps ss) (unreserved h r)) ++ reserved_of h r) one
    (All-append IsTidy (map (led_chunk f) (filter (keeps ss) (unreserved h r))) (reserved_of h r) two (reserved_tidy h r within t))
