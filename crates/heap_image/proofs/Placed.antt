-- An object of a sound picture has a unique birth, and doesn't overlap the previous object.
use Rattle.heap_image.proofs.Common.{◌≡◌, ◌<◌, ◌≤◌, Bool, true, false, List, refl, sym, arith, Option, None, ◌==◌, nat_lt, and_parts, eqb-true, le-ltb, In, ImageBirth, ImageChunk, ImageExtent, chunk_number, offset, is_among, same_birth, overlaps, is_crowded, Picked, ImageData, ObjectBefore, picked_end, PickedDontOverlap, IsSoundPicture, as_read}
use Rattle.heap_image.proofs.Splits.{IsCut, in_front, in_middle, before_it}
use Rattle.heap_image.proofs.Tables.{none_among}
use Rattle.heap_image.proofs.Passes.{last_from}
use Rattle.heap_image.proofs.States.{birth_of, ends_at, objects_read}

-- BIRTHS

one_birth : (x y : ImageBirth) → (x.task == y.task) ≡ true → (x.count == y.count) ≡ true → x ≡ y
one_birth x y e f = let g = eqb-true x.task y.task e in let h = eqb-true x.count y.count f in (λ j. record { task = g j; count = h j })

other_birth : (x y : ImageBirth) → (x ≡ y → ⊥) → same_birth (x.task, x.count) (y.task, y.count) ≡ false
other_birth x y ne = other_birth_by_cases (same_birth (x.task, x.count) (y.task, y.count)) refl
  where
    other_birth_by_cases : (b : Bool) → same_birth (x.task, x.count) (y.task, y.count) ≡ b → same_birth (x.task, x.count) (y.task, y.count) ≡ false
    other_birth_by_cases true e = absurd (let h = and_parts (x.task == y.task) (x.count == y.count) e in ne (one_birth x y h.0 h.1))
    other_birth_by_cases false e = e

-- POSITIONS

apart_by : (o q : Picked) (b : Bool) → (chunk_number o.address == chunk_number q.address) ≡ b → o.address < q.address → PickedDontOverlap o q → overlaps (ends_at o) (as_read q) ≡ false
apart_by o q true e lt h = let g : nat_lt (offset q.address) (picked_end o) ≡ false = le-ltb (offset q.address) (picked_end o) (h lt (eqb-true (chunk_number o.address) (chunk_number q.address) e)) in rw (e, g) refl
apart_by o q false e lt h = rw e refl

module _ (p : ImageData) (s : IsSoundPicture p) (a : List Picked) (o : Picked) (b : List Picked) (c : IsCut p.objects a o b) where
  earlier : (y : Picked) → In a y → y.address < o.address
  earlier y i = before_it p.objects a o b c ObjectBefore s.objects_rise y i

  pub fresh_address : (y : Picked) → In a y → y.address ≡ o.address → ⊥
  fresh_address y i e = let l : y.address < o.address = earlier y i in omega (arith, l, e)

  pub fresh_birth : is_among same_birth (objects_read p a).births (birth_of o) ≡ false
  fresh_birth =
      none_among birth_of same_birth a (birth_of o) (λ y i.
      other_birth o.birth y.birth (λ e. fresh_address y i (sym (s.births o y (in_middle p.objects a o b c) (in_front p.objects a o b c y i) e))))

  overlaps_none : overlaps (objects_read p a).latest (as_read o) ≡ false
  overlaps_none =
      last_from ends_at (λ (e : Option ImageExtent). overlaps e (as_read o) ≡ false) None a refl (λ y i.
      apart_by y o (chunk_number y.address == chunk_number o.address) refl (earlier y i) (s.apart y o (in_front p.objects a o b c y i) (in_middle p.objects a o b c)))

  pub uncrowded : (k : ImageChunk) → picked_end o ≤ k.words → is_crowded (objects_read p a) k (as_read o) ≡ false
  uncrowded k h = let e : nat_lt k.words (picked_end o) ≡ false = le-ltb k.words (picked_end o) h in rw e overlaps_none
