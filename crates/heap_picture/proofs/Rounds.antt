-- A picture grows chunk by chunk, and task by task.
use Rattle.heap_picture.proofs.Common.{◌≡◌, ◌⊎◌, ℕ, ◌+◌, ◌*◌, ◌<◌, Option, Some, None, List, ◌++◌, map, option_map, slice_get, take, inl, inr, refl, sym, subst, got_in_take, in_take_more, take_more_in, owner_of, Slot, slot_at, Located, In, objects, IsSharedValue, SharedValue, accounts, value_of, InUse, LiveTask, FieldAt, AreAll, AreInWords, InUseBefore, IsInUse, IsLive, IsNoted, LiveBefore, in_words, objects_of, all_same, ImageRemembered, Picked, ChunkBefore, RememberedBefore, ObjectBefore, TaskBefore, AreFieldsOf, AreObjectsOf, AreHeldInWords, IsFieldOf, IsHandedBack, IsObjectOf, IsPictureOf, drawn_chunk, drawn_field, drawn_object, drawn_task}
use Rattle.heap_reading.specs.Image.{FieldBefore as NotedBefore}
use Rattle.heap_picture.proofs.Chunks.{one, told_apart, told_back, told_in_order, told_there}
use Rattle.heap_picture.proofs.Orders.{all_append, all_map, rises_before}
use Rattle.heap_picture.proofs.Resting.{owner}

module _ (w : SharedValue) (I : IsSharedValue w) where
  -- CHUNKS
  module _ (cs : List InUse) (i : ℕ) (c : InUse) (all : AreAll InUseBefore (IsInUse w) cs) (is : slice_get cs i ≡ Some c) where
    abbrev Here : Picked → Type 0
    Here q = (o : Located) × In (objects_of w c.number) o × (q ≡ drawn_object (in_words o))

    pub objects_step : (old new : List Picked) → AreAll ObjectBefore (AreObjectsOf w (take i cs)) old → new ≡ old ++ map drawn_object (map in_words (objects_of w c.number)) → AreAll ObjectBefore (AreObjectsOf w (take (i + 1) cs)) new
    objects_step old new so more =
        subst (AreAll ObjectBefore (AreObjectsOf w (take (i + 1) cs))) (sym more)
        (all_append ObjectBefore (AreObjectsOf w (take i cs)) Here (AreObjectsOf w (take (i + 1) cs)) old (map drawn_object (map in_words (objects_of w c.number))) so (told_in_order w I c.number) both join split)
      where
        both : (x y : Picked) → AreObjectsOf w (take i cs) x → Here y → ObjectBefore x y
        both x y X Y =
            let lt : X.0.number < c.number = rises_before InUseBefore cs i c X.0 all.rising is X.2 in
            subst (λ z. ObjectBefore z y) (sym X.4) (subst (ObjectBefore (one w I X.1)) (sym Y.2) (told_apart w I X.0.number c.number X.1 Y.0 lt X.3 Y.1))

        join : (x : Picked) → AreObjectsOf w (take i cs) x ⊎ Here x → AreObjectsOf w (take (i + 1) cs) x
        join x (inl X) = (X.0, X.1, take_more_in cs i X.0 X.2, X.3, X.4)
        join x (inr Y) = (c, Y.0, got_in_take cs i c is, Y.1, Y.2)

        split : (x : Picked) → AreObjectsOf w (take (i + 1) cs) x → AreObjectsOf w (take i cs) x ⊎ Here x
        split x X = elim (in_take_more cs i c X.0 is X.2) [
          | inl j ↦ inl (X.0, X.1, j, X.3, X.4)
          | inr e ↦ inr (X.1, subst (λ (z : InUse). In (objects_of w z.number) X.1) (sym e) X.3, X.4)
        ]

    pub words_step : ((d : InUse) → In (take i cs) d → AreInWords (objects_of w d.number)) → AreInWords (objects_of w c.number) → (d : InUse) → In (take (i + 1) cs) d → AreInWords (objects_of w d.number)
    words_step so now d j = elim (in_take_more cs i c d is j) [
      | inl h ↦ so d h
      | inr e ↦ subst (λ (z : InUse). AreInWords (objects_of w z.number)) e now
    ]

  -- the chunk of an object of a heap at rest is in use
  in_use_of : (cs : List InUse) → AreAll InUseBefore (IsInUse w) cs → (t : ℕ) → IsHandedBack w t → (o : Located) → In (objects (value_of w) t) o → (c : InUse) × In cs c × (c.number ≡ o.at.chunk)
  in_use_of cs all t idle o i = in_use_of_by_cases (slot_at w.pool o.at.chunk) refl (owner w I t idle o i)
    where
      in_use_of_by_cases : (h : Option Slot) → slot_at w.pool o.at.chunk ≡ h → option_map (λ (z : Slot). z.owner) h ≡ Some t → (c : InUse) × In cs c × (c.number ≡ o.at.chunk)
      in_use_of_by_cases None e f = absurd cc
      in_use_of_by_cases (Some h) e f =
          let c : InUse = record { number = o.at.chunk; owner = owner_of (accounts w).machine.tasks h.owner; words = 1024 * h.units } in
          (c, (all.each c).1 (record { slot = h; is = e; owner = refl; words = refl }), refl)

  pub words_all : (cs : List InUse) → AreAll InUseBefore (IsInUse w) cs → ((c : InUse) → In cs c → AreInWords (objects_of w c.number)) → AreHeldInWords w
  words_all cs all so t o idle i =
      let c = in_use_of cs all t idle o i in
      so c.0 c.1 o (subst (λ n. In (objects_of w n) o) (sym c.2) (told_there w I t idle o i))

  -- TASKS
  module _ (xs : List LiveTask) (i : ℕ) (x : LiveTask) (all : AreAll LiveBefore (IsLive w) xs) (is : slice_get xs i ≡ Some x) where
    abbrev Its : ImageRemembered → Type 0
    Its f = (g : FieldAt) × IsNoted w x.number g × (f ≡ drawn_field x.number g)

    pub fields_step : (old new : List ImageRemembered) (gs : List FieldAt) → AreAll RememberedBefore (AreFieldsOf w (take i xs)) old → AreAll NotedBefore (IsNoted w x.number) gs → new ≡ old ++ map (drawn_field x.number) gs → AreAll RememberedBefore (AreFieldsOf w (take (i + 1) xs)) new
    fields_step old new gs so now more =
        subst (AreAll RememberedBefore (AreFieldsOf w (take (i + 1) xs))) (sym more)
        (all_append RememberedBefore (AreFieldsOf w (take i xs)) Its (AreFieldsOf w (take (i + 1) xs)) old (map (drawn_field x.number) gs) so (all_map NotedBefore RememberedBefore (drawn_field x.number) (IsNoted w x.number) gs now keeps) both join split)
      where
        keeps : (f g : FieldAt) → IsNoted w x.number f → IsNoted w x.number g → NotedBefore f g → RememberedBefore (drawn_field x.number f) (drawn_field x.number g)
        keeps f g X Y (inl lt) = inr (inl (refl, lt))
        keeps f g X Y (inr h) = inr (inr (refl, h.0, h.1))

        both : (f g : ImageRemembered) → AreFieldsOf w (take i xs) f → Its g → RememberedBefore f g
        both f g X Y =
            let lt : X.0.number < x.number = rises_before LiveBefore xs i x X.0 all.rising is X.2 in
            inl (subst (λ (z : ImageRemembered). z.task < g.task) (sym X.4) (subst (λ (z : ImageRemembered). X.0.number < z.task) (sym Y.2) lt))

        join : (f : ImageRemembered) → AreFieldsOf w (take i xs) f ⊎ Its f → AreFieldsOf w (take (i + 1) xs) f
        join f (inl X) = (X.0, X.1, take_more_in xs i X.0 X.2, X.3, X.4)
        join f (inr Y) = (x, Y.0, got_in_take xs i x is, Y.1, Y.2)

        split : (f : ImageRemembered) → AreFieldsOf w (take (i + 1) xs) f → AreFieldsOf w (take i xs) f ⊎ Its f
        split f X = elim (in_take_more xs i x X.0 is X.2) [
          | inl j ↦ inl (X.0, X.1, j, X.3, X.4)
          | inr e ↦ inr (X.1, subst (λ (z : LiveTask). IsNoted w z.number X.1) (sym e) X.3, subst (λ (z : LiveTask). f ≡ drawn_field z.number X.1) (sym e) X.4)
        ]

  -- THE WHOLE
  pub picture_of : (xs : List LiveTask) (cs : List InUse) (os : List Picked) (fs : List ImageRemembered) → AreAll LiveBefore (IsLive w) xs → AreAll InUseBefore (IsInUse w) cs → AreAll ObjectBefore (AreObjectsOf w cs) os → AreAll RememberedBefore (AreFieldsOf w xs) fs
      → IsPictureOf w (record { tasks = map drawn_task xs; chunks = map drawn_chunk cs; objects = os; fields = fs })
  picture_of xs cs os fs X C O G = record {
    tasks = all_map LiveBefore TaskBefore drawn_task (IsLive w) xs X (λ x y a b lt. lt);
    chunks = all_map InUseBefore ChunkBefore drawn_chunk (IsInUse w) cs C (λ x y a b lt. lt);
    objects = all_same ObjectBefore (AreObjectsOf w cs) (IsObjectOf w) os O
        (λ q h. (let b = told_back w I h.0.number h.1 h.3 in (b.task, h.1, b.idle, b.here, h.4)))
        (λ q h. (let c = in_use_of cs C h.0 h.2 h.1 h.3 in (c.0, h.1, c.1, subst (λ n. In (objects_of w n) h.1) (sym c.2) (told_there w I h.0 h.2 h.1 h.3), h.4)));
    fields = all_same RememberedBefore (AreFieldsOf w xs) (IsFieldOf w) fs G (λ f h. (h.0, h.1, (X.each h.0).0 h.2, h.3, h.4)) (λ f h. (h.0, h.1, (X.each h.0).1 h.2, h.3, h.4));
  }
