-- The objects of a picture are those that the heaps at rest hold.
use Rattle.heap_picture.proofs.Common.{◌≡◌, ℕ, Option, Some, None, List, [], ◌∷◌, map, slice_get, inl, inr, refl, ap, sym, subst, ◌∙◌, cases_Bool, read_in, Name, MachineState, object_at, is_running, owner_of, Ledger, heap_of, held_in, Addr, IsRef, word_of_ref, Located, state_of, own, AllRead, LiesWithOwner, In, Memory, object_name, objects, held_object, object_held, IsSharedValue, SharedValue, accounts, value_of, is_state_running, in_words, handed_held, ImageData, IsOwnedBy, AreHeldInWords, IsHandedBack, IsPictureOf, drawn_object, AreReferences, HasJustHeld, IsImageReference, ObjectStandsFor}
use Rattle.heap_picture.proofs.Known.{k, owners, rests, runs, known_machine}
use Rattle.heap_picture.proofs.Links.{owned_at}
use Rattle.heap_picture.proofs.Resting.{H, content}

module _ (w : SharedValue) (I : IsSharedValue w) (F : AreHeldInWords w) (p : ImageData) (P : IsPictureOf w p) where
  abbrev l : Ledger
  l = accounts w

  abbrev v : Memory
  v = value_of w

  runs_now : (t : ℕ) → is_state_running (state_of w.tree t) ≡ is_running (slice_get l.machine.tasks t)
  runs_now t = runs w I t ∙ ap (λ (m : MachineState). is_running (slice_get m.tasks t)) (known_machine w I)

  drawn : (t : ℕ) → IsHandedBack w t → (o : Located) → In (objects v t) o → In p.objects (drawn_object (in_words o))
  drawn t idle o i = (P.objects.each (drawn_object (in_words o))).1 (t, o, idle, i, refl)

  reference : (a : Addr) (n : Name) → IsRef (Some a) → LiesWithOwner v (k w I) n a → IsImageReference p l (word_of_ref (Some a)) (Some n)
  reference a n near place =
      let u = own (k w I) n in
      let owner : owner_of l.machine.tasks n.task ≡ u = ap (λ (m : MachineState). owner_of m.tasks n.task) (sym (known_machine w I)) in
      elim (cases_Bool (is_state_running (state_of w.tree u))) [
        | inl on ↦
            inr (
              ap (λ z. is_running (slice_get l.machine.tasks z)) owner ∙ (sym (runs_now u) ∙ on),
              subst (IsOwnedBy p (word_of_ref (Some a))) (sym owner) (owned_at w I p P a u near.0 place.chunk ((owners w I).live n.task)),
            )
        | inr off ↦
            let d = place.here (rests w I u off) in
            inl (drawn_object (in_words d.0), drawn u off d.0 d.1, ap (λ z. word_of_ref (Some z)) d.2.at, (ap (λ (z : Name). z.task) d.2.name, ap (λ (z : Name). z.count) d.2.name))
      ]

  references : (rs : List (Option Addr)) (xs : List (Option Name)) → ((r : Option Addr) → In rs r → IsRef r) → AllRead (LiesWithOwner v (k w I)) rs xs → AreReferences p l (map word_of_ref rs) xs
  references [] [] near h = tt
  references [] (x ∷ xs) near h = absurd h
  references (r ∷ rs) [] near h = absurd h
  references (None ∷ rs) (None ∷ xs) near h = (refl, references rs xs (λ r i. near r (inr i)) h.1)
  references (None ∷ rs) (Some n ∷ xs) near h = absurd h.0
  references (Some a ∷ rs) (None ∷ xs) near h = absurd h.0
  references (Some a ∷ rs) (Some n ∷ xs) near h = (reference a n (near (Some a) (inl refl)) h.0, references rs xs (λ r i. near r (inr i)) h.1)

  stands : (t : ℕ) (idle : IsHandedBack w t) (o : Located) (i : In (objects v t) o) → ObjectStandsFor p l (drawn_object (in_words o)) (object_name o)
  stands t idle o i =
      let x = content w I t idle o i in
      record {
        object = x.0;
        is = ap (λ (m : MachineState). object_at m.store (object_name o)) (sym (known_machine w I)) ∙ x.1;
        bears = (refl, refl);
        mutable = x.2.mutable;
        references = references o.refs x.0.refs (λ r j. read_in IsRef o.refs r j (F t o idle i).refs) x.2.refs;
        numbers = x.2.ints;
      }

  pub just_kept : HasJustHeld p l
  just_kept = record {
    each = λ q j.
        let d = (P.objects.each q).0 j in
        let held : In (held_in (heap_of (k w I) d.0)) (object_name d.1) = object_held (v.belongings d.0).chunks (heap_of (k w I) d.0) (H w I d.0 d.2 d.1 d.3).names d.1 d.3 in
        (object_name d.1, (d.0, sym (runs_now d.0) ∙ d.2, subst (λ ns. In ns (object_name d.1)) (handed_held l d.0) held), subst (λ z. ObjectStandsFor p l z (object_name d.1)) (sym d.4) (stands d.0 d.2 d.1 d.3));
    all = λ n h.
        let idle : IsHandedBack w h.0 = runs_now h.0 ∙ h.1 in
        let names = (I.stands.belongings.belongings h.0 (rests w I h.0 idle)).names in
        let o = held_object (v.belongings h.0).chunks (heap_of (k w I) h.0) names n (subst (λ ns. In ns n) (sym (handed_held l h.0)) h.2) in
        (drawn_object (in_words o.0), drawn h.0 idle o.0 o.1, subst (ObjectStandsFor p l (drawn_object (in_words o.0))) o.2 (stands h.0 idle o.0 o.1));
  }
