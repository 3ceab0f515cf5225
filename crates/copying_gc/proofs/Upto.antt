-- The references of an object updated one after another.
use Rattle.copying_gc.proofs.Common.{◌≡◌, ℕ, zero, suc, ◌+◌, ◌-◌, ◌<◌, ◌≤◌, List, [], ◌∷◌, ◌++◌, length, get_or, set, take, drop, refl, ap, ◌∙◌, arith, Some, Option, length-append, length-take, length-drop, map, slice_get, length-map, get_or-append_right, get_or-drop, map_over_more, got_item, Addr, Cell, with_ref, size_of}

-- up to reference k
abbrev pub led_upto : (Option Addr → Option Addr) → ℕ → Cell → Cell
led_upto f k c = record c { refs = map f (take k c.refs) ++ drop k c.refs }

read_some : {X : Type 0} (xs : List X) (k : ℕ) (x : X) → slice_get xs k ≡ Some x → x ≡ get_or xs k x
read_some [] k x e = refl
read_some (y ∷ ys) zero x e = cc
read_some (y ∷ ys) (suc k) x e = read_some ys k x e

module _ (f : Option Addr → Option Addr) (c : Cell) where
  pub length-upto : (k : ℕ) → k ≤ length c.refs → length (led_upto f k c).refs ≡ length c.refs
  length-upto k l = simp (length-append, length-map, length-take, length-drop) (omega arith)

  pub size-upto : (k : ℕ) → k ≤ length c.refs → size_of (led_upto f k c) ≡ size_of c
  size-upto k l = let e = length-upto k l in omega arith

  module _ (k : ℕ) (l : k < length c.refs) where
    same_there : (d : Option Addr) → get_or (led_upto f k c).refs k d ≡ get_or c.refs k d
    same_there d =
        let len : length (map f (take k c.refs)) ≡ k = simp (length-map, length-take) (omega arith) in
        let none : k - k ≡ 0 = omega arith in
        let all : k + 0 ≡ k = omega arith in
        get_or-append_right (map f (take k c.refs)) (drop k c.refs) k k d len (omega arith) ∙ rw none (get_or-drop k c.refs 0 d ∙ rw all refl)

    -- what is read there is unchanged
    pub upto_read : (r : Option Addr) → slice_get (led_upto f k c).refs k ≡ Some r → slice_get c.refs k ≡ Some r
    upto_read r e = got_item c.refs k r l (read_some (led_upto f k c).refs k r e ∙ same_there r)

    pub upto_more : (r : Option Addr) → slice_get (led_upto f k c).refs k ≡ Some r → with_ref (led_upto f k c) k (f r) ≡ led_upto f (k + 1) c
    upto_more r e =
        let more : set (map f (take k c.refs) ++ drop k c.refs) k (f r) ≡ map f (take (k + 1) c.refs) ++ drop (k + 1) c.refs =
        map_over_more f c.refs _ k r l refl (read_some (led_upto f k c).refs k r e) in
        ap (λ (rs : List (Option Addr)). let d : Cell = record c { refs = rs } in d) more
