-- Each line says what it was written for.
use Rattle.heap_image.proofs.Common.{◌≡◌, ◌≤◌, ◌+◌, ◌-◌, ◌%◌, ℕ, suc, Bool, true, false, List, [], ◌∷◌, ◌++◌, length, map, arith, refl, ap, ◌∙◌, inl, inr, ℤ, Option, Some, None, nat_le, ◌==◌, decimal, signed_decimal, In, above_zero, fits_i64, spaced, IsProper, AreProper, words_spaced, spaced_utf8, ImageState, Running, Waiting, Ended, ImageTask, ImageChunk, ImageRemembered, ImageLine, Title, OfTask, OfChunk, OfRemembered, OfEnd, line_meaning, said_by_words, state_named, state_word, parent_named, is_rooted, most_chunk_words, is_chunk_size, is_kind, is_field_count, references_in, Picked, IsLong, HasFitParent, IsTaskForm, IsChunkForm, IsObjectForm, IsFieldForm, parent_word, reference_kind_word, title_words, task_words, chunk_words, head_words, object_words, field_words, end_words, object_said}
use Rattle.heap_image.proofs.Words.{proper_decimal, proper_signed, short_is_long, short_again, long_again, signed_again, decimal_no_hyphen}

-- words written with single spaces between them say this
pub record Tells (ws : List (List ℕ)) (s : ImageLine) : Type 0 where
  pub proper : AreProper ws
  pub says : said_by_words ws ≡ s

pub line_tells : (ws : List (List ℕ)) (s : ImageLine) → Tells ws s → line_meaning (spaced ws) ≡ s
line_tells ws s t = rw (spaced_utf8 ws t.proper) (ap said_by_words (words_spaced ws t.proper) ∙ t.says)

one : (n : ℕ) → IsLong n → AreProper (decimal n ∷ [])
one n h = (proper_decimal n h, tt)

-- THE FIRST LINE AND THE LAST

pub title_tells : Tells title_words Title
title_tells = record { proper = (grind arith, (grind arith, tt)); says = refl }

pub end_tells : (n : ℕ) → IsLong n → Tells (end_words n) (OfEnd n)
end_tells n h = record { proper = (grind arith, (grind arith, one n h)); says = rw (long_again n h) refl }

-- TASKS

state_again : (s : ImageState) → state_named (state_word s) ≡ Some s
state_again Running = refl
state_again Waiting = refl
state_again Ended = refl

state_proper : (s : ImageState) → IsProper (state_word s)
state_proper Running = grind arith
state_proper Waiting = grind arith
state_proper Ended = grind arith

parent_again : (t : ℕ) (m : Option ℕ) → HasFitParent t m → parent_named (parent_word m) ≡ Some m
parent_again t None h = refl
parent_again t (Some p) h = rw (decimal_no_hyphen p h.1, short_again p h.1) refl

parent_proper : (t : ℕ) (m : Option ℕ) → HasFitParent t m → IsProper (parent_word m)
parent_proper t None h = grind arith
parent_proper t (Some p) h = proper_decimal p (short_is_long p h.1)

rooted : (t : ℕ) (m : Option ℕ) → HasFitParent t m → is_rooted t m ≡ true
rooted t None h = grind (arith, h)
rooted t (Some p) h = grind (arith, h.0)

pub task_tells : (t : ImageTask) → IsTaskForm t → Tells (task_words t) (OfTask t)
task_tells t h = record {
  proper = (grind arith, (proper_decimal t.number (short_is_long t.number h.number), (parent_proper t.number t.parent h.parent, (state_proper t.state, tt))));
  says = rw (short_again t.number h.number, parent_again t.number t.parent h.parent, state_again t.state) rw (rooted t.number t.parent h.parent) refl;
}

-- CHUNKS

size_fits : (w : ℕ) → w % 1024 ≡ 0 → 1024 ≤ w → w ≤ most_chunk_words → is_chunk_size w ≡ true
size_fits w e low high =
    let a : (w % 1024 == 0) ≡ true = grind (arith, e) in
    let b : nat_le 1024 w ≡ true = grind (arith, low) in
    let d : nat_le w most_chunk_words ≡ true = grind (arith, high) in
    rw (a, b, d) refl

size_long : (w : ℕ) → w ≤ most_chunk_words → IsLong w
size_long w h = omega (arith, h)

pub chunk_tells : (c : ImageChunk) → IsChunkForm c → Tells (chunk_words c) (OfChunk c)
chunk_tells c h = record {
  proper = (grind arith, (proper_decimal c.number (short_is_long c.number h.number), (proper_decimal c.owner (short_is_long c.owner h.owner), one c.words (size_long c.words h.most))));
  says = rw (short_again c.number h.number, short_again c.owner h.owner, long_again c.words (size_long c.words h.most)) rw (size_fits c.words h.whole h.least h.most) refl;
}

-- REMEMBERED FIELDS

pub field_tells : (f : ImageRemembered) → IsFieldForm f → Tells (field_words f) (OfRemembered f)
field_tells f h = record {
  proper = (grind arith, (proper_decimal f.task (short_is_long f.task h.task), (proper_decimal f.address h.address, one f.place h.place)));
  says = rw (short_again f.task h.task, long_again f.address h.address, long_again f.place h.place) refl;
}

-- OBJECTS

pub proper_append : (ws vs : List (List ℕ)) → AreProper ws → AreProper vs → AreProper (ws ++ vs)
proper_append [] vs g h = h
proper_append (w ∷ ws) vs g h = (g.0, proper_append ws vs g.1 h)

references_proper : (rs : List ℕ) → ((v : ℕ) → In rs v → IsLong v) → AreProper (map decimal rs)
references_proper [] h = tt
references_proper (r ∷ rs) h = (proper_decimal r (h r (inl refl)), references_proper rs (λ v i. h v (inr i)))

numbers_proper : (ns : List ℤ) → ((n : ℤ) → In ns n → fits_i64 n ≡ true) → AreProper (map signed_decimal ns)
numbers_proper [] h = tt
numbers_proper (n ∷ ns) h = (proper_signed n (h n (inl refl)), numbers_proper ns (λ v i. h v (inr i)))

kind_proper : (m : Bool) → IsProper (reference_kind_word m)
kind_proper true = grind arith
kind_proper false = grind arith

kind_again : (m : Bool) → is_kind (reference_kind_word m) ≡ true
kind_again true = refl
kind_again false = refl

one_less : (k : ℕ) → suc k - 1 ≡ k
one_less k = omega arith

numbers_again : (ns : List ℤ) → ((n : ℤ) → In ns n → fits_i64 n ≡ true) → references_in 0 (length ns) (map signed_decimal ns) ≡ Some []
numbers_again [] h = refl
numbers_again (n ∷ ns) h = rw (above_zero (length ns), signed_again n (h n (inl refl)), one_less (length ns)) (numbers_again ns (λ v i. h v (inr i)))

references_again : (rs : List ℕ) (ns : List ℤ) → ((v : ℕ) → In rs v → IsLong v) → ((n : ℤ) → In ns n → fits_i64 n ≡ true)
    → references_in (length rs) (length ns) (map decimal rs ++ map signed_decimal ns) ≡ Some rs
references_again [] ns h g = numbers_again ns g
references_again (r ∷ rs) ns h g = rw (above_zero (length rs), long_again r (h r (inl refl)), one_less (length rs)) rw (references_again rs ns (λ v i. h v (inr i)) g) refl

counts_fit : (r i : ℕ) → r + i ≤ 1000000 → is_field_count r i ≡ true
counts_fit r i h =
    let a : nat_le r 1000000 ≡ true = grind (arith, h) in
    let b : nat_le i 1000000 ≡ true = grind (arith, h) in
    let d : nat_le (r + i) 1000000 ≡ true = grind (arith, h) in
    rw (a, b, d) refl

left_long : (r i : ℕ) → r + i ≤ 1000000 → IsLong r
left_long r i h = omega (arith, h)

right_long : (r i : ℕ) → r + i ≤ 1000000 → IsLong i
right_long r i h = omega (arith, h)

head_proper : (o : Picked) → IsObjectForm o → AreProper (head_words o)
head_proper o h =
    let r = left_long (length o.references) (length o.numbers) h.sized in
    let i = right_long (length o.references) (length o.numbers) h.sized in
    (grind arith, (proper_decimal o.address h.address, (proper_decimal o.birth.task (short_is_long o.birth.task h.task), (proper_decimal o.birth.count (short_is_long o.birth.count h.count), (kind_proper o.mutable, (proper_decimal (length o.references) r, one (length o.numbers) i))))))

pub object_tells : (o : Picked) → IsObjectForm o → Tells (object_words o) (object_said o)
object_tells o h = record {
  proper =
      proper_append (head_words o ++ map decimal o.references) (map signed_decimal o.numbers)
      (proper_append (head_words o) (map decimal o.references) (head_proper o h) (references_proper o.references h.references))
      (numbers_proper o.numbers h.numbers);
  says =
      rw (long_again o.address h.address, short_again o.birth.task h.task, short_again o.birth.count h.count, kind_again o.mutable, long_again (length o.references) r, long_again (length o.numbers) i)
      rw (counts_fit (length o.references) (length o.numbers) h.sized)
      rw (references_again o.references o.numbers h.references h.numbers)
      refl;
}
  where
    r : IsLong (length o.references)
    r = left_long (length o.references) (length o.numbers) h.sized

    i : IsLong (length o.numbers)
    i = right_long (length o.references) (length o.numbers) h.sized
