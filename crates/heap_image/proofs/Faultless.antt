-- The verifier finds no fault in the text of a sound picture.
use Rattle.heap_image.proofs.Common.{◌≡◌, ◌<◌, ◌≤◌, ◌+◌, ◌-◌, ◌^◌, ℕ, suc, true, false, List, [], ◌∷◌, ◌++◌, length, map, refl, ap, ◌∙◌, inl, inr, arith, None, nat_le, length-map, In, lines_of, most_bytes, ImageLine, Nothing, Title, OfTask, OfChunk, OfRemembered, OfEnd, Read, Whole, line_meaning, nothing_read, nothing_had, after_line, whole_of, cause_on, or_later_line, lines_fault, objects_in, Picked, ImageData, RisesByPlace, ObjectBefore, IsSoundPicture, text_of, object_said, SoundIsFaultless}
use Rattle.heap_image.proofs.Splits.{behind_first, rises_from}
use Rattle.heap_image.proofs.Told.{pictures_are_read, six_behind}
use Rattle.heap_image.proofs.Passes.{none_left, fault_of, after_said, with_said, fault_said, lines_said, whole_said, more_left, faultless_items, read_items}
use Rattle.heap_image.proofs.States.{object_table, tasks_read, chunks_read, objects_read, fields_read}
use Rattle.heap_image.proofs.Steps.{task_step, chunk_step, object_step, field_step, end_clear}
use Rattle.heap_image.proofs.Had.{behind_title, whole_picture, has_all}

-- THE NUMBER OF OBJECTS

one_more : (n x low high : ℕ) → n ≤ high - suc x → low ≤ x → x < high → suc n ≤ high - low
one_more n x low high a b c = omega (arith, a, b, c)

few_between : (low high : ℕ) (os : List Picked) → RisesByPlace ObjectBefore os → ((o : Picked) → In os o → low ≤ o.address) → ((o : Picked) → In os o → o.address < high) → length os ≤ high - low
few_between low high [] r above below = omega arith
few_between low high (o ∷ os) r above below =
    one_more (length os) o.address low high
    (few_between (suc o.address) high os (behind_first ObjectBefore o os r) (λ q i. let l : o.address < q.address = rises_from ObjectBefore [] o os r q i in omega (arith, l)) (λ q i. below q (inr i)))
    (above o (inl refl)) (below o (inl refl))

-- addresses differ, and none is 0
few : (p : ImageData) → IsSoundPicture p → length p.objects < 2 ^ 64
few p s =
    let n : length p.objects ≤ 2 ^ 64 - 1 = few_between 1 (2 ^ 64) p.objects s.objects_rise (λ o i. let l : 0 < o.address = (s.places o i).lies.1 in omega (arith, l)) (λ o i. (s.form.objects o i).address) in
    omega (arith, n)

-- ALL THAT IS SAID

module _ (p : ImageData) (s : IsSoundPicture p) where
  abbrev w : Whole
  w = whole_picture p

  abbrev last_two : List ImageLine
  last_two = OfEnd (length p.objects) ∷ Nothing ∷ []

  abbrev from_fields : List ImageLine
  from_fields = map OfRemembered p.fields ++ last_two

  abbrev from_objects : List ImageLine
  from_objects = map object_said p.objects ++ from_fields

  abbrev from_chunks : List ImageLine
  from_chunks = map OfChunk p.chunks ++ from_objects

  more_fields : none_left from_fields ≡ false
  more_fields = more_left (map OfRemembered p.fields) last_two refl

  more_objects : none_left from_objects ≡ false
  more_objects = more_left (map object_said p.objects) from_fields more_fields

  more_chunks : none_left from_chunks ≡ false
  more_chunks = more_left (map OfChunk p.chunks) from_objects more_objects

  more_tasks : none_left (behind_title p) ≡ false
  more_tasks = more_left (map OfTask p.tasks) from_chunks more_chunks

  end_faultless : (n : ℕ) → fault_of w (fields_read p p.fields) n last_two ≡ None
  end_faultless n = ap (λ c. or_later_line c n (fault_of w (after_line (fields_read p p.fields) (OfEnd (length p.objects))) (n + 1) (Nothing ∷ []))) (end_clear p s w (has_all p))

  fields_faultless : (n : ℕ) → fault_of w (fields_read p []) n from_fields ≡ None
  fields_faultless n = faultless_items w OfRemembered (fields_read p) p.fields n last_two refl (field_step p s w (has_all p)) end_faultless

  objects_faultless : (n : ℕ) → fault_of w (objects_read p []) n from_objects ≡ None
  objects_faultless n = faultless_items w object_said (objects_read p) p.objects n from_fields more_fields (object_step p s w (has_all p)) fields_faultless

  chunks_faultless : (n : ℕ) → fault_of w (chunks_read p []) n from_chunks ≡ None
  chunks_faultless n = faultless_items w OfChunk (chunks_read p) p.chunks n from_objects more_objects (chunk_step p s w (has_all p)) objects_faultless

  all_faultless : fault_of w nothing_read 1 (Title ∷ behind_title p) ≡ None
  all_faultless =
      ap (λ b. or_later_line (cause_on w nothing_read b Title) 1 (fault_of w (tasks_read []) 2 (behind_title p))) more_tasks
      ∙ faultless_items w OfTask tasks_read p.tasks 2 from_chunks more_chunks (task_step p s w (has_all p)) chunks_faultless

  all_read : (after_said nothing_read (Title ∷ behind_title p)).objects ≡ object_table p.objects
  all_read =
      ap (λ (r : Read). r.objects)
      (read_items w OfTask tasks_read p.tasks from_chunks (task_step p s w (has_all p))
      ∙ read_items w OfChunk (chunks_read p) p.chunks from_objects (chunk_step p s w (has_all p))
      ∙ read_items w object_said (objects_read p) p.objects from_fields (object_step p s w (has_all p))
      ∙ read_items w OfRemembered (fields_read p) p.fields last_two (field_step p s w (has_all p)))

  -- THE TEXT

  said : map line_meaning (lines_of (text_of p)) ≡ Title ∷ behind_title p
  said =
      pictures_are_read p s.form (few p s)
      ∙ six_behind (Title ∷ []) (map OfTask p.tasks) (map OfChunk p.chunks) (map object_said p.objects) (map OfRemembered p.fields) (OfEnd (length p.objects) ∷ []) (Nothing ∷ [])

  whole : whole_of (text_of p) ≡ w
  whole = whole_said nothing_had (lines_of (text_of p)) ∙ ap (with_said nothing_had) said

  no_fault : lines_fault (text_of p) ≡ None
  no_fault =
      fault_said (whole_of (text_of p)) nothing_read 1 (lines_of (text_of p))
      ∙ (λ j. fault_of (whole j) nothing_read 1 (said j))
      ∙ all_faultless

  counted : objects_in (text_of p) ≡ length p.objects
  counted =
      ap (λ (r : Read). length r.objects) (lines_said nothing_read (lines_of (text_of p)) ∙ ap (after_said nothing_read) said)
      ∙ ap length all_read
      ∙ length-map {B = ℕ × ℕ} p.objects (λ (o : Picked). (o.address, length o.references))

pub sound_is_faultless : SoundIsFaultless
sound_is_faultless p s = record {
  fits = λ h. let e : nat_le (length (text_of p)) most_bytes ≡ true = grind (arith, h) in rw e (no_fault p s);
  long = λ h. let e : nat_le (length (text_of p)) most_bytes ≡ false = grind (arith, h) in rw e refl;
  counted = counted p s;
}
