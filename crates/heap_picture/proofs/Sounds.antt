-- A picture of a shared value is sound.
use Rattle.heap_picture.proofs.Common.{◌≡◌, ℕ, zero, suc, ◌+◌, ◌*◌, ◌^◌, ◌<◌, ◌≤◌, arith, false, Option, Some, None, List, [], ◌∷◌, length, map, option_map, slice_get, refl, ap, sym, subst, ◌∙◌, FitsSigned, w64, length-map, slice_get_within, map_in, read_in, fits_passes, MachineState, Task as TaskOf, joined, owner_of, parent_of as parents_in, parents, owner_le, in_use, use_is_bounded, Addr, IsRef, word_of_ref, Located, Slot, AreChunks, slot_at, slot_in, slot_units, units_in, units_in_use, LiesWithOwner, In, Memory, object_name, objects, IsSharedValue, SharedValue, accounts, value_of, used_now, refs_long, in_words, ImageBirth, ImageTask, ImageChunk, ImageRemembered, Picked, ImageData, HasFitParent, IsChunkForm, IsFieldForm, IsInForm, IsObjectForm, IsTaskForm, PickedDontOverlap, HasTask, IsDownField, IsOwnedBy, LiesInIdleChunk, IsSoundPicture, ImageKeepsToPath, ObjectBefore, TaskBefore, ChunkBefore, RememberedBefore, AreHeldInWords, IsHandedBack, IsPictureOf, drawn_field, drawn_object}
use Rattle.heap_picture.proofs.Known.{T, few, fields_few, k, live_task, owners, root, known_machine, stored_few, tree}
use Rattle.heap_picture.proofs.Links.{has_task, parent_live}
use Rattle.heap_picture.proofs.Drawing.{births, apart, content, fits, keeps, leads, near, owner, placed, ref_near}
use Rattle.heap_picture.proofs.Resting.{made}
use Rattle.heap_picture.proofs.Numbers.{rises_at, word_long}

units_most : (slots : List (Option Slot)) (n : ℕ) (h : Slot) → slot_in slots n ≡ Some h → h.units ≤ units_in slots
units_most [] n h e = absurd cc
units_most (s ∷ slots) zero h e = let a : slot_units s ≡ h.units = ap slot_units e in omega (arith, a)
units_most (s ∷ slots) (suc n) h e = let a : h.units ≤ units_in slots = units_most slots n h e in omega (arith, a)

module _ (w : SharedValue) (I : IsSharedValue w) (C : AreChunks w.pool.slots) (F : AreHeldInWords w) (p : ImageData) (P : IsPictureOf w p) where
  abbrev v : Memory
  v = value_of w

  abbrev TT : List TaskOf
  TT = T w I

  -- THE FORM
  fit_parent : (t : ℕ) (y : TaskOf) → slice_get TT t ≡ Some y → (o : Option ℕ) → y.parent ≡ o → HasFitParent t o
  fit_parent t y e None is = (root w I).only t y e is
  fit_parent t y e (Some q) is =
      let low : q < t = (tree w I).low t q (ap parents_in e ∙ is) in
      let a : t < length TT = slice_get_within TT t y e in
      let b = few w I in
      (omega (arith, low), omega (arith, low, a, b))

  task_form : (t : ImageTask) → In p.tasks t → IsTaskForm t
  task_form t i =
      let x = (P.tasks.each t).0 i in
      let y = live_task w I x.0 x.1 in
      let a : x.0.number < length TT = slice_get_within TT x.0.number y.0 y.1 in
      let b = few w I in
      subst IsTaskForm (sym x.2) (record { number = omega (arith, a, b); parent = fit_parent x.0.number y.0 y.1 x.0.parent (sym y.2) })

  held_made : (n : ℕ) (h : Slot) → slot_at w.pool n ≡ Some h → h.owner < length TT
  held_made n h e = made w I n h.owner (ap (option_map (λ (z : Slot). z.owner)) e)

  owner_few : (u : ℕ) → u < length TT → owner_of (accounts w).machine.tasks u < length TT
  owner_few u lt =
      let le : owner_of TT u ≤ u = owner_le (parents TT) (tree w I).low (joined TT) u u in
      let e : owner_of (accounts w).machine.tasks u ≡ owner_of TT u = ap (λ (m : MachineState). owner_of m.tasks u) (sym (known_machine w I)) in
      omega (arith, lt, le, e)

  units_few : (n : ℕ) (h : Slot) → slot_at w.pool n ≡ Some h → h.units ≤ 65536
  units_few n h e =
      let a : h.units ≤ units_in_use w.pool = units_most w.pool.slots n h e in
      let b : units_in_use w.pool ≡ in_use (accounts w) = used_now w I in
      let c : in_use (accounts w) ≤ w.settings.chunks = (use_is_bounded w.program w.settings w.journal.items I.legal).now in
      let d : w.settings.chunks ≤ 65536 = I.settings.chunks.1 in
      omega (arith, a, b, c, d)

  chunk_form : (c : ImageChunk) → In p.chunks c → IsChunkForm c
  chunk_form c i =
      let x = (P.chunks.each c).0 i in
      let h = x.1.slot in
      let a = C x.0.number h x.1.is in
      let o : x.0.owner < length TT = subst (λ z. z < length TT) (sym x.1.owner) (owner_few h.owner (held_made x.0.number h x.1.is)) in
      let b = few w I in
      let some : 0 < h.units = a.1 in
      let few : h.units ≤ 65536 = units_few x.0.number h x.1.is in
      let words : x.0.words ≡ 1024 * h.units = x.1.words in
      subst IsChunkForm (sym x.2) (record { number = a.0; owner = omega (arith, o, b); whole = omega (arith, words); least = omega (arith, words, some); most = omega (arith, words, few) })

  -- of an object of a heap at rest
  module _ (t : ℕ) (idle : IsHandedBack w t) (o : Located) (i : In (objects v t) o) where
    short : o.at.chunk < 2 ^ 32
    short = short_by_cases (slot_at w.pool o.at.chunk) refl (owner w I F p P t idle o i)
      where
        short_by_cases : (h : Option Slot) → slot_at w.pool o.at.chunk ≡ h → option_map (λ (z : Slot). z.owner) h ≡ Some t → o.at.chunk < 2 ^ 32
        short_by_cases None is e = absurd cc
        short_by_cases (Some h) is e = (C o.at.chunk h is).0

    ref_long : (r : Option Addr) → IsRef r → word_of_ref r < 2 ^ 64
    ref_long None ref = omega arith
    ref_long (Some a) ref = let lt = word_long a ref.0 ref.1 in omega (arith, lt)

    form_of : IsObjectForm (drawn_object (in_words o))
    form_of =
        let x = content w I F p P t idle o i in
        let n = stored_few w I (object_name o) x.0 x.1 in
        let long = word_long o.at (near w I F p P t idle o i) short in
        let a : length o.refs ≡ length x.0.refs = refs_long (LiesWithOwner v (k w I)) o.refs x.0.refs x.2.refs in
        let b : length o.ints ≡ length x.0.ints = ap length x.2.ints in
        let c = fields_few w I (object_name o) x.0 x.1 in
        let m : length (map word_of_ref o.refs) ≡ length o.refs = length-map o.refs word_of_ref in
        record {
          address = omega (arith, long);
          task = n.0;
          count = n.1;
          sized = omega (arith, a, b, c, m);
          references = λ z j. (let r = map_in word_of_ref o.refs z j in subst (λ y. y < 2 ^ 64) r.2 (ref_long r.0 (ref_near w I F p P t idle o i r.0 r.1)));
          numbers = λ z j. fits_passes z (read_in (FitsSigned w64) o.ints z j (F t o idle i).ints);
        }

  object_form : (q : Picked) → In p.objects q → IsObjectForm q
  object_form q j = let d = (P.objects.each q).0 j in subst IsObjectForm (sym d.4) (form_of d.0 d.2 d.1 d.3)

  field_fits : (f : ImageRemembered) → In p.fields f → IsDownField p f
  field_fits f j =
      let d = (P.fields.each f).0 j in
      subst (IsDownField p) (sym (d.4 ∙ ap (drawn_field d.0.number) d.3.2)) (fits w I F p P d.0.number d.3.0 (live_task w I d.0 d.2).3 d.3.1)

  field_form : (f : ImageRemembered) → In p.fields f → IsFieldForm f
  field_form f j =
      let d = (P.fields.each f).0 j in
      let y = live_task w I d.0 d.2 in
      let a : d.0.number < length TT = slice_get_within TT d.0.number y.0 y.1 in
      let b = few w I in
      let number : f.task ≡ d.0.number = ap (λ (z : ImageRemembered). z.task) d.4 in
      let K = field_fits f j in
      let O = object_form K.object K.drawn in
      let long : K.object.address < 2 ^ 64 = O.address in
      let at : K.object.address ≡ f.address = K.address in
      let place : f.place < length K.object.references = K.place in
      let most : length K.object.references + length K.object.numbers ≤ 1000000 = O.sized in
      record { task = omega (arith, a, b, number); address = omega (arith, long, at); place = omega (arith, place, most) }

  form : IsInForm p
  form = record { tasks = task_form; chunks = chunk_form; objects = object_form; fields = field_form }

  -- THE WHOLE
  parent_of : (t : ImageTask) (q : ℕ) → In p.tasks t → t.parent ≡ Some q → HasTask p q × (q < t.number)
  parent_of t q i e =
      let x = (P.tasks.each t).0 i in
      let y = live_task w I x.0 x.1 in
      let parent : x.0.parent ≡ Some q = sym (ap (λ (z : ImageTask). z.parent) x.2) ∙ e in
      let up : parents TT x.0.number ≡ Some q = parents_at x.0.number y.0 y.1 ∙ (sym y.2 ∙ parent) in
      let low : q < x.0.number = (tree w I).low x.0.number q up in
      let number : t.number ≡ x.0.number = ap (λ (z : ImageTask). z.number) x.2 in
      let a : x.0.number < length TT = slice_get_within TT x.0.number y.0 y.1 in
      (has_task w I p P q (omega (arith, low, a)) (parent_live w I p P x.0.number q up y.3), omega (arith, low, number))
    where
      parents_at : (n : ℕ) (y : TaskOf) → slice_get TT n ≡ Some y → parents TT n ≡ y.parent
      parents_at n y e = ap parents_in e

  chunk_owner : (c : ImageChunk) → In p.chunks c → HasTask p c.owner
  chunk_owner c i =
      let x = (P.chunks.each c).0 i in
      let o : x.0.owner < length TT = subst (λ z. z < length TT) (sym x.1.owner) (owner_few x.1.slot.owner (held_made x.0.number x.1.slot x.1.is)) in
      let now : x.0.owner ≡ owner_of TT x.1.slot.owner = x.1.owner ∙ ap (λ (m : MachineState). owner_of m.tasks x.1.slot.owner) (sym (known_machine w I)) in
      let lives : joined TT x.0.owner ≡ false = subst (λ z. joined TT z ≡ false) (sym now) ((owners w I).live x.1.slot.owner) in
      subst (λ (z : ImageChunk). HasTask p z.owner) (sym x.2) (has_task w I p P x.0.owner o lives)

  same_birth : (o q : Picked) → In p.objects o → In p.objects q → o.birth ≡ q.birth → o.address ≡ q.address
  same_birth o q i j e =
      let a = (P.objects.each o).0 i in
      let b = (P.objects.each q).0 j in
      let birth : (drawn_object (in_words a.1)).birth ≡ (drawn_object (in_words b.1)).birth = sym (ap (λ (z : Picked). z.birth) a.4) ∙ (e ∙ ap (λ (z : Picked). z.birth) b.4) in
      let task : a.1.birth.task ≡ b.1.birth.task = ap (λ (z : ImageBirth). z.task) birth in
      let count : a.1.birth.count ≡ b.1.birth.count = ap (λ (z : ImageBirth). z.count) birth in
      let name : object_name a.1 ≡ object_name b.1 = λ n. record { task = task n; count = count n } in
      let at = births w I F p P a.0 a.2 a.1 a.3 b.0 b.2 b.1 b.3 name in
      ap (λ (z : Picked). z.address) a.4 ∙ (ap (λ z. word_of_ref (Some z)) at ∙ sym (ap (λ (z : Picked). z.address) b.4))

  pub picture_sound : IsSoundPicture p
  picture_sound = record {
    form = form;
    tasks_rise = rises_at TaskBefore p.tasks P.tasks.rising;
    parents = parent_of;
    chunks_rise = rises_at ChunkBefore p.chunks P.chunks.rising;
    owners = chunk_owner;
    objects_rise = rises_at ObjectBefore p.objects P.objects.rising;
    births = same_birth;
    places = λ o i. (let a = (P.objects.each o).0 i in subst (LiesInIdleChunk p) (sym a.4) (placed w I F p P a.0 a.2 a.1 a.3));
    apart = λ o q i j.
        let a = (P.objects.each o).0 i in
        let b = (P.objects.each q).0 j in
        subst (λ z. PickedDontOverlap z q) (sym a.4) (subst (PickedDontOverlap (drawn_object (in_words a.1))) (sym b.4) (apart w I F p P a.0 a.2 a.1 a.3 b.0 b.2 b.1 b.3));
    leads = λ o x i j. (let a = (P.objects.each o).0 i in leads w I F p P a.0 a.2 a.1 a.3 x (subst (λ (z : Picked). In z.references x) a.4 j));
    keeps = λ o n x t u i e ot ou.
        let a = (P.objects.each o).0 i in
        subst (λ (z : Picked). ImageKeepsToPath p z.address n t u) (sym a.4)
        (keeps w I F p P a.0 a.2 a.1 a.3 n x t u (subst (λ (z : Picked). slice_get z.references n ≡ Some x) a.4 e) (subst (λ (z : Picked). IsOwnedBy p z.address t) a.4 ot) ou);
    fields_rise = rises_at RememberedBefore p.fields P.fields.rising;
    fields_fit = field_fits;
  }
