-- The number of objects read is the number of object lines.
use Rattle.image_check.proofs.Common.{◌≡◌, ◌<◌, ◌≤◌, ◌+◌, ℕ, suc, true, false, List, [], ◌∷◌, length, refl, ap, sym, ◌∙◌, arith, inl, inr, ◌⊎◌, Option, Some, None, nat_eq, not-false, is_last, lines_of, ImageLine, Nothing, Wrong, Title, OfTask, OfChunk, OfObject, OfRemembered, OfEnd, ImagePosition, Read, Whole, line_meaning, with_entry, rises, after_line, nothing_read, whole_of, has_wrong_place, is_misplaced, fault_from_line, after_lines, onto_count, object_count, ObjectsAreCounted}
use Rattle.image_check.specs.Read.{position}
use Rattle.image_check.proofs.Steps.{clear, faultless, formed}

abbrev Entries : Type 0
Entries = List (ℕ × ℕ)

-- an object at a is on no later line than one at this position
abbrev NotBehind : ℕ → ImagePosition → Type 0
NotBehind a p = (3 < p.kind) ⊎ ((p.kind ≡ 3) × (a ≤ p.first))

abbrev AllBefore : Entries → ImagePosition → Type 0
AllBefore [] p = Unit {0}
AllBefore (e ∷ es) p = NotBehind e.0 p × AllBefore es p

abbrev Before : Entries → Option ImagePosition → Type 0
Before es None = es ≡ []
Before es (Some p) = AllBefore es p

later : (a : ℕ) (p q : ImagePosition) → rises p q ≡ true → NotBehind a p → NotBehind a q
later a p q up (inl h) = inl (grind (arith, up, h))
later a p q up (inr h) = later_by_cases (first_of_two p.kind q.kind (kinds p q up))
  where
    kinds : (x y : ImagePosition) → rises x y ≡ true → x.kind ≤ y.kind
    kinds x y e = grind (arith, e)

    firsts : (x y : ImagePosition) → rises x y ≡ true → x.kind ≡ y.kind → x.first ≤ y.first
    firsts x y e f = grind (arith, e, f)

    first_of_two : (m n : ℕ) → m ≤ n → (m < n) ⊎ (m ≡ n)
    first_of_two m n le = grind (arith, le)

    later_by_cases : ((p.kind < q.kind) ⊎ (p.kind ≡ q.kind)) → NotBehind a q
    later_by_cases (inl lt) = inl (let k : p.kind ≡ 3 = h.0 in omega (arith, lt, k))
    later_by_cases (inr e) = inr (sym e ∙ h.0, (let g : a ≤ p.first = h.1 in let f : p.first ≤ q.first = firsts p q up e in omega (arith, f, g)))

all_later : (es : Entries) (p q : ImagePosition) → rises p q ≡ true → AllBefore es p → AllBefore es q
all_later [] p q up h = tt
all_later (e ∷ es) p q up h = (later e.0 p q up h.0, all_later es p q up h.1)

other : (a b : ℕ) (p : ImagePosition) → rises p (position 3 b 0 0) ≡ true → NotBehind a p → nat_eq b a ≡ false
other a b p up (inl h) = grind (arith, up, h)
other a b p up (inr h) = let k : p.kind ≡ 3 = h.0 in let g : a ≤ p.first = h.1 in grind (arith, up, k, g)

one_more : (es : Entries) (p : ImagePosition) (b n : ℕ) → rises p (position 3 b 0 0) ≡ true → AllBefore es p → (length (with_entry es b n) ≡ length es + 1) × AllBefore (with_entry es b n) (position 3 b 0 0)
one_more [] p b n up h = (refl, (inr (refl, omega arith), tt))
one_more (e ∷ es) p b n up h =
    let no = other e.0 b p up h.0 in
    let rest = one_more es p b n up h.1 in
    let len : length (with_entry es b n) ≡ length es + 1 = rest.0 in
    rw no ((let x : suc (length (with_entry es b n)) ≡ suc (length es) + 1 = omega (arith, len) in x), (later e.0 p (position 3 b 0 0) up h.0, rest.1))

record Counted (r s : Read) (said : ImageLine) : Type 0 where
  pub count : length s.objects ≡ onto_count said (length r.objects)
  pub before : Before s.objects s.last

moved : (es : Entries) (last : Option ImagePosition) (q : ImagePosition) → has_wrong_place last (Some q) ≡ false → Before es last → AllBefore es q
moved es None q e h = rw h tt
moved es (Some p) q e h = all_later es p q (not-false (rises p q) e) h

added : (es : Entries) (last : Option ImagePosition) (b n : ℕ) → has_wrong_place last (Some (position 3 b 0 0)) ≡ false → Before es last → (length (with_entry es b n) ≡ length es + 1) × AllBefore (with_entry es b n) (position 3 b 0 0)
added es None b n e h = absurd (cc)
added es (Some p) b n e h = one_more es p b n (not-false (rises p (position 3 b 0 0)) e) h

counted : (r : Read) (s : ImageLine) → is_misplaced r.last s ≡ false → Before r.objects r.last → Counted r (after_line r s) s
counted r Nothing e h = record { count = refl; before = h }
counted r Wrong e h = absurd (cc)
counted r Title e h = record { count = refl; before = moved r.objects r.last (position 0 0 0 0) e h }
counted r (OfTask t) e h = record { count = refl; before = moved r.objects r.last (position 1 t.number 0 0) e h }
counted r (OfChunk c) e h = record { count = refl; before = moved r.objects r.last (position 2 c.number 0 0) e h }
counted r (OfObject o) e h = let g = added r.objects r.last o.address (length o.references) e h in record { count = g.0; before = g.1 }
counted r (OfRemembered f) e h = record { count = refl; before = moved r.objects r.last (position 4 f.task f.address f.place) e h }
counted r (OfEnd n) e h = record { count = refl; before = moved r.objects r.last (position 5 0 0 0) e h }

onto_sum : (s : ImageLine) (m n : ℕ) → onto_count s m + n ≡ m + onto_count s n
onto_sum (OfObject o) m n = omega arith
onto_sum Nothing m n = refl
onto_sum Wrong m n = refl
onto_sum Title m n = refl
onto_sum (OfTask t) m n = refl
onto_sum (OfChunk c) m n = refl
onto_sum (OfRemembered f) m n = refl
onto_sum (OfEnd k) m n = refl

all_counted : (w : Whole) (r : Read) (n : ℕ) (ls : List (List ℕ)) → fault_from_line w r n ls ≡ None → Before r.objects r.last → length (after_lines r ls).objects ≡ length r.objects + object_count ls
all_counted w r n [] none h = let e : length r.objects ≡ length r.objects + 0 = omega arith in e
all_counted w r n (l ∷ ls) none h =
    let c = clear w r n l ls none in
    let k = counted r (line_meaning l) (formed w r (is_last ls) (line_meaning l) c.0).0 h in
    all_counted w (after_line r (line_meaning l)) (n + 1) ls c.1 k.before
    ∙ ap (λ x. x + object_count ls) k.count
    ∙ onto_sum (line_meaning l) (length r.objects) (object_count ls)

pub objects_are_counted : ObjectsAreCounted
objects_are_counted text none = all_counted (whole_of text) nothing_read 1 (lines_of text) (faultless text none) refl ∙ (let e : 0 + object_count (lines_of text) ≡ object_count (lines_of text) = omega arith in e)
