-- What the whole text of a picture says.
use Rattle.heap_image.proofs.Common.{◌≡◌, ◌≤◌, ℕ, Bool, true, false, List, [], ◌∷◌, ◌++◌, length, map, refl, ap, sym, ◌∙◌, inl, inr, arith, subst, Option, Some, None, nat_eq, eq-eqb, eqb-true, In, in_append_left, in_append_right, in_map, ImageObject, ImageRemembered, ImageLine, Nothing, Wrong, Title, OfTask, OfChunk, OfObject, OfRemembered, OfEnd, Whole, is_among, same_field, found, with_entry, most, nothing_had, with_line, found_put, found_beside, item_kept, item_added, ImageData, object_said}
use Rattle.heap_image.proofs.Passes.{with_said}
use Rattle.heap_image.proofs.Leads.{HasAll, HasObject}

-- all of a picture, after the title
abbrev pub behind_title : ImageData → List ImageLine
behind_title p =
    map OfTask p.tasks
    ++ (map OfChunk p.chunks
    ++ (map object_said p.objects
    ++ (map OfRemembered p.fields
    ++ (OfEnd (length p.objects) ∷ Nothing ∷ []))))

same_fields : (f : ImageRemembered) → same_field (f.task, f.address, f.place) (f.task, f.address, f.place) ≡ true
same_fields f = rw (eq-eqb f.task f.task refl, eq-eqb f.address f.address refl, eq-eqb f.place f.place refl) refl

-- OBJECTS

most_least : (o : Option ℕ) (m n : ℕ) → o ≡ Some m → m ≤ most o n
most_least None m n e = absurd cc
most_least (Some k) m n e = let s : k ≡ m = cc in grind (arith, s)

most_new : (o : Option ℕ) (n : ℕ) → n ≤ most o n
most_new None n = omega arith
most_new (Some k) n = grind arith

-- with one more object line
module _ (es : List (ℕ × ℕ)) (b k : ℕ) where
  abbrev put : List (ℕ × ℕ)
  put = with_entry es b (most (found es b) k)

  found_kept : (a n : ℕ) → ((m : ℕ) × (found es a ≡ Some m) × (n ≤ m)) → (m : ℕ) × (found put a ≡ Some m) × (n ≤ m)
  found_kept a n h = found_kept_by_cases (nat_eq a b) refl
    where
      found_kept_by_cases : (c : Bool) → nat_eq a b ≡ c → (m : ℕ) × (found put a ≡ Some m) × (n ≤ m)
      found_kept_by_cases true is =
          let e = eqb-true a b is in
          let l : h.0 ≤ most (found es b) k = most_least (found es b) h.0 k (ap (found es) (sym e) ∙ h.1) in
          let le : n ≤ h.0 = h.2 in
          (most (found es b) k, ap (found put) e ∙ found_put es b (most (found es b) k), omega (arith, l, le))
      found_kept_by_cases false is = (h.0, found_beside es b a (most (found es b) k) is ∙ h.1, h.2)

object_kept : (w : Whole) (s : ImageLine) (a n : ℕ) → HasObject w a n → HasObject (with_line w s) a n
object_kept w Nothing a n h = h
object_kept w Wrong a n h = h
object_kept w Title a n h = h
object_kept w (OfTask t) a n h = h
object_kept w (OfChunk c) a n h = h
object_kept w (OfObject o) a n h = found_kept w.objects o.address (length o.references) a n h
object_kept w (OfRemembered f) a n h = h
object_kept w (OfEnd m) a n h = h

object_stays : (w : Whole) (ss : List ImageLine) (a n : ℕ) → HasObject w a n → HasObject (with_said w ss) a n
object_stays w [] a n h = h
object_stays w (s ∷ ss) a n h = object_stays (with_line w s) ss a n (object_kept w s a n h)

object_there : (w : Whole) (o : ImageObject) → HasObject (with_line w (OfObject o)) o.address (length o.references)
object_there w o =
    let m = most (found w.objects o.address) (length o.references) in
    (m, found_put w.objects o.address m, most_new (found w.objects o.address) (length o.references))

object_had : (w : Whole) (ss : List ImageLine) (o : ImageObject) → In ss (OfObject o) → HasObject (with_said w ss) o.address (length o.references)
object_had w [] o h = absurd h
object_had w (s ∷ ss) o (inl e) =
    object_stays (with_line w s) ss o.address (length o.references)
    (subst (λ x. HasObject (with_line w x) o.address (length o.references)) (sym e) (object_there w o))
object_had w (s ∷ ss) o (inr h) = object_had (with_line w s) ss o h

-- REMEMBERED FIELDS

field_kept : (w : Whole) (s : ImageLine) (v : ℕ × ℕ × ℕ) → is_among same_field w.fields v ≡ true → is_among same_field (with_line w s).fields v ≡ true
field_kept w Nothing v e = e
field_kept w Wrong v e = e
field_kept w Title v e = e
field_kept w (OfTask t) v e = e
field_kept w (OfChunk c) v e = e
field_kept w (OfObject o) v e = e
field_kept w (OfRemembered f) v e = item_kept same_field w.fields (f.task, f.address, f.place) v e
field_kept w (OfEnd n) v e = e

field_stays : (w : Whole) (ss : List ImageLine) (v : ℕ × ℕ × ℕ) → is_among same_field w.fields v ≡ true → is_among same_field (with_said w ss).fields v ≡ true
field_stays w [] v e = e
field_stays w (s ∷ ss) v e = field_stays (with_line w s) ss v (field_kept w s v e)

field_had : (w : Whole) (ss : List ImageLine) (f : ImageRemembered) → In ss (OfRemembered f) → is_among same_field (with_said w ss).fields (f.task, f.address, f.place) ≡ true
field_had w [] f h = absurd h
field_had w (s ∷ ss) f (inl e) =
    field_stays (with_line w s) ss (f.task, f.address, f.place)
    (ap (λ x. is_among same_field (with_line w x).fields (f.task, f.address, f.place)) e ∙ item_added same_field w.fields (f.task, f.address, f.place) (same_fields f))
field_had w (s ∷ ss) f (inr h) = field_had (with_line w s) ss f h

-- A PICTURE

abbrev pub whole_picture : ImageData → Whole
whole_picture p = with_said nothing_had (Title ∷ behind_title p)

pub has_all : (p : ImageData) → HasAll p (whole_picture p)
has_all p = record {
  objects = λ o h. object_had nothing_had (Title ∷ behind_title p) _ (inr (in_append_right (map OfTask p.tasks) _ _ (in_append_right (map OfChunk p.chunks) _ _ (in_append_left (map object_said p.objects) _ _ (in_map object_said p.objects o h)))));
  fields = λ f h. field_had nothing_had (Title ∷ behind_title p) f (inr (in_append_right (map OfTask p.tasks) _ _ (in_append_right (map OfChunk p.chunks) _ _ (in_append_right (map object_said p.objects) _ _ (in_append_left (map OfRemembered p.fields) _ _ (in_map OfRemembered p.fields f h))))));
}
