-- The objects of heaps at rest: their positions, and where their references lead.
use Rattle.heap_picture.proofs.Common.{◌≡◌, ◌⊎◌, ℕ, ◌+◌, ◌*◌, ◌<◌, ◌≤◌, arith, false, Option, Some, None, List, length, map, option_map, slice_get, inl, inr, refl, ap, sym, subst, ◌∙◌, cases_Bool, length-map, same_Some, slice_get-map, got_some, in_got, map_in, read_in, got_in, Name, Object, Task, object_at, joined, waiting_stops, Addr, IsRef, word_of_ref, Located, Slot, slot_at, state_of, RefField, Rests, own, words, IsModelObject, BelongingsStand, IsSource, LiesWithOwner, Chunk as ChunkOf, In, Memory, object_name, objects, sources, name_at, IsSharedValue, SharedValue, value_of, refs_long, is_state_running, field_of, in_words, ImageRemembered, offset, Picked, ImageData, PickedDontOverlap, IsAbove, IsDownField, IsOwnedBy, LiesInIdleChunk, IsRunning, ImageKeepsToPath, ImageLeadsSomewhere, picked_end, AreHeldInWords, IsHandedBack, IsPictureOf, drawn_field, drawn_object}
use Rattle.heap_picture.proofs.Resting.{R as Known_R, H as Known_H, content as Known_content, own_is as Known_own_is, live as Known_live, chunk as Known_chunk, owner as Known_owner, near as Known_near, measured as Known_measured, S, made}
use Rattle.heap_picture.proofs.Known.{T, k, owners, rests, runs, task_live}
use Rattle.heap_picture.proofs.Links.{chunk_in, not_running, on_path, owned_at, owner_is, running}
use Rattle.heap_picture.proofs.Numbers.{before_offset, chunk_of_word, offset_of_word, word_some}

module _ (w : SharedValue) (I : IsSharedValue w) (F : AreHeldInWords w) (p : ImageData) (P : IsPictureOf w p) where
  abbrev v : Memory
  v = value_of w

  abbrev TT : List Task
  TT = T w I

  -- AN OBJECT OF A HEAP AT REST
  module _ (t : ℕ) (idle : IsHandedBack w t) (o : Located) (i : In (objects v t) o) where
    abbrev pub R : Rests (k w I) t
    R = Known_R w I t idle o i

    abbrev pub H : BelongingsStand v (k w I) t
    H = Known_H w I t idle o i

    abbrev pub content : (x : Object) × (object_at (k w I).machine.store (object_name o) ≡ Some x) × IsModelObject (LiesWithOwner v (k w I)) o x
    content = Known_content w I t idle o i

    abbrev pub own_is : own (k w I) (object_name o) ≡ t
    own_is = Known_own_is w I t idle o i

    abbrev pub live : joined TT t ≡ false
    live = Known_live w I t idle o i

    abbrev pub chunk : (c : ChunkOf) × In (v.belongings t).chunks c × In c.objects o
    chunk = Known_chunk w I t idle o i

    abbrev pub owner : v.owner o.at.chunk ≡ Some t
    owner = Known_owner w I t idle o i

    abbrev pub near : o.at.offset < 1024
    near = Known_near w I t idle o i

    abbrev pub measured : slot_at w.pool o.at.chunk ≡ Some (record { owner = t; units = chunk.0.units })
    measured = Known_measured w I t idle o i

    abbrev pub q : Picked
    q = drawn_object (in_words o)

    pub object_is_drawn : In p.objects q
    object_is_drawn = (P.objects.each q).1 (t, o, idle, i, refl)

    pub end_is : picked_end q ≡ o.at.offset + words o
    end_is =
        let a : offset q.address ≡ o.at.offset = offset_of_word o.at near in
        let b : length q.references ≡ length o.refs = length-map o.refs word_of_ref in
        omega (arith, a, b)

    pub placed : LiesInIdleChunk p q
    placed =
        let c = chunk_in w I p P o.at.chunk t owner live in
        let held : slot_at w.pool o.at.chunk ≡ Some (record { owner = t; units = chunk.0.units }) = measured in
        let units : c.1.units ≡ chunk.0.units = ap (λ (h : Slot). h.units) (same_Some c.1 (record { owner = t; units = chunk.0.units }) (sym c.3 ∙ held)) in
        let within : o.at.offset + words o ≤ 1024 * chunk.0.units = H.laid.within chunk.0 o chunk.1 chunk.2 in
        let size : c.0.words ≡ 1024 * c.1.units = c.6 in
        let last : picked_end q ≡ o.at.offset + words o = end_is in
        record {
          chunk = c.0;
          lies = (c.2, word_some o.at, chunk_of_word o.at near ∙ sym c.4);
          inside = omega (arith, units, within, size, last);
          rests = λ r. not_running w I p P t idle (subst (IsRunning p) c.5 r);
        }

    -- REFERENCES
    pub reference : (n : ℕ) (a : Addr) → slice_get o.refs n ≡ Some (Some a) → (m : Name) × (slice_get content.0.refs n ≡ Some (Some m)) × LiesWithOwner v (k w I) m a
    reference n a e = name_at (LiesWithOwner v (k w I)) o.refs content.0.refs n a content.2.refs e

    pub ref_near : (r : Option Addr) → In o.refs r → IsRef r
    ref_near r j = read_in IsRef o.refs r j (F t o idle i).refs

    leads_to : (n : ℕ) (a : Addr) → slice_get o.refs n ≡ Some (Some a) → IsRef (Some a) → ImageLeadsSomewhere p (word_of_ref (Some a))
    leads_to n a e ref =
        let m = reference n a e in
        let u = own (k w I) m.0 in
        let lives : joined TT u ≡ false = (owners w I).live m.0.task in
        inr (elim (cases_Bool (is_state_running (state_of w.tree u))) [
          | inl on ↦ inr (u, owned_at w I p P a u ref.0 m.2.chunk lives, running w I p P u (made w I a.chunk u m.2.chunk) lives on)
          | inr off ↦
              let d = m.2.here (rests w I u off) in
              inl (drawn_object (in_words d.0), (P.objects.each (drawn_object (in_words d.0))).1 (u, d.0, off, d.1, refl), ap (λ z. word_of_ref (Some z)) d.2.at)
        ])

    leads_by : (n : ℕ) (r : Option Addr) → slice_get o.refs n ≡ Some r → IsRef r → ImageLeadsSomewhere p (word_of_ref r)
    leads_by n None e ref = inl refl
    leads_by n (Some a) e ref = leads_to n a e ref

    pub leads : (x : ℕ) → In q.references x → ImageLeadsSomewhere p x
    leads x j =
        let r = map_in word_of_ref o.refs x j in
        let n = in_got o.refs r.0 r.1 in
        subst (ImageLeadsSomewhere p) r.2 (leads_by n.0 r.0 n.1 (ref_near r.0 r.1))

    -- a field that another task's heap remembers
    noted : (n u : ℕ) → u < length TT → joined TT u ≡ false → In (sources v u) (record { object = o.at; field = n }) → IsAbove p.tasks t u × In p.fields (record { task = u; address = q.address; place = n })
    noted n u lt lives j =
        let s : RefField = record { object = o.at; field = n } in
        let K : IsSource v (k w I) u s = (S w I).sources u s j in
        let mine : own (k w I) K.name ≡ t = same_Some (own (k w I) K.name) t (sym K.place.chunk ∙ owner) in
        let y = got_some TT u lt in
        let x = task_live w I u y.0 y.1 lives in
        let f : ImageRemembered = record { task = u; address = q.address; place = n } in
        let above : (u ≡ own (k w I) K.name) ⊎ IsAbove p.tasks (own (k w I) K.name) u = on_path w I p P (own (k w I) K.name) u K.above lives in (
          elim above [ inl e ↦ absurd (K.below (sym e)) | inr a ↦ subst (λ z. IsAbove p.tasks z u) mine a ],
          (P.fields.each f).1 (x.0, field_of s, x.1, (s, subst (λ z. In (sources v z) s) (sym x.2) j, refl), ap (λ z. drawn_field z (field_of s)) (sym x.2)),
        )

    keeps_to : (n : ℕ) (a : Addr) → slice_get o.refs n ≡ Some (Some a) → (h u : ℕ) → IsOwnedBy p q.address h → IsOwnedBy p (word_of_ref (Some a)) u → ImageKeepsToPath p q.address n h u
    keeps_to n a e h u oh ou =
        let m = reference n a e in
        let z = own (k w I) m.0 in
        let lives : joined TT z ≡ false = (owners w I).live m.0.task in
        let ref = ref_near (Some a) (got_in o.refs n (Some a) e) in
        let eh : h ≡ t = owner_is w I p P o.at t h near owner live oh in
        let eu : u ≡ z = owner_is w I p P a z u ref.0 m.2.chunk lives ou in
        let goes : ImageKeepsToPath p q.address n t z = elim ((S w I).remembered t o content.0 n m.0 R i content.1 m.1) [
          | inl path ↦ elim (on_path w I p P z t path live) [ inl s ↦ inl (sym s) | inr s ↦ inr (inl s) ]
          | inr j ↦ inr (inr (noted n z (made w I a.chunk z m.2.chunk) lives j))
        ] in
        subst (λ y. ImageKeepsToPath p q.address n y u) (sym eh) (subst (ImageKeepsToPath p q.address n t) (sym eu) goes)

    keeps_by : (n : ℕ) (r : Option Addr) → slice_get o.refs n ≡ Some r → (h u : ℕ) → IsOwnedBy p q.address h → IsOwnedBy p (word_of_ref r) u → ImageKeepsToPath p q.address n h u
    keeps_by n None e h u oh ou = absurd (let lt : 0 < 0 = ou.1.1 in omega arith)
    keeps_by n (Some a) e h u oh ou = keeps_to n a e h u oh ou

    mapped : (xs : List (Option Addr)) (n x : ℕ) → slice_get (map word_of_ref xs) n ≡ Some x → (r : Option Addr) × (slice_get xs n ≡ Some r) × (word_of_ref r ≡ x)
    mapped xs n x e = mapped_by_cases (slice_get xs n) refl (sym (slice_get-map word_of_ref xs n) ∙ e)
      where
        mapped_by_cases : (s : Option (Option Addr)) → slice_get xs n ≡ s → option_map word_of_ref s ≡ Some x → (r : Option Addr) × (slice_get xs n ≡ Some r) × (word_of_ref r ≡ x)
        mapped_by_cases None is z = absurd cc
        mapped_by_cases (Some r) is z = (r, is, same_Some (word_of_ref r) x z)

    pub keeps : (n x h u : ℕ) → slice_get q.references n ≡ Some x → IsOwnedBy p q.address h → IsOwnedBy p x u → ImageKeepsToPath p q.address n h u
    keeps n x h u e oh ou =
        let r = mapped o.refs n x e in
        keeps_by n r.0 r.1 h u oh (subst (λ z. IsOwnedBy p z u) (sym r.2) ou)

  -- TWO OF THEM
  module _ (t : ℕ) (idle : IsHandedBack w t) (o : Located) (i : In (objects v t) o) (u : ℕ) (still : IsHandedBack w u) (s : Located) (j : In (objects v u) s) where
    pub births : object_name o ≡ object_name s → o.at ≡ s.at
    births e =
        let same : t ≡ u = sym (own_is t idle o i) ∙ (ap (own (k w I)) e ∙ own_is u still s j) in
        ap (λ (z : Located). z.at) ((H t idle o i).named o s i (subst (λ z. In (objects v z) s) (sym same) j) e)

    pub apart : PickedDontOverlap (drawn_object (in_words o)) (drawn_object (in_words s))
    apart lt e =
        let chunks : o.at.chunk ≡ s.at.chunk = sym (chunk_of_word o.at (near t idle o i)) ∙ (e ∙ chunk_of_word s.at (near u still s j)) in
        let same : t ≡ u = same_Some t u (sym (owner t idle o i) ∙ (ap v.owner chunks ∙ owner u still s j)) in
        let first : o.at.offset < s.at.offset = before_offset o.at s.at chunks lt in
        let a : picked_end (drawn_object (in_words o)) ≡ o.at.offset + words o = end_is t idle o i in
        let b : offset (word_of_ref (Some s.at)) ≡ s.at.offset = offset_of_word s.at (near u still s j) in
        elim ((H t idle o i).laid.apart o s i (subst (λ z. In (objects v z) s) (sym same) j)) [
          | inl one ↦ absurd (let c : o.at.offset ≡ s.at.offset = ap (λ (z : Located). z.at.offset) one in omega (arith, c, first))
          | inr two ↦ elim two [
            | inl off ↦ absurd (off chunks)
            | inr ends ↦ elim ends [
              | inl le ↦ omega (arith, a, b, le)
              | inr le ↦ absurd (omega (arith, le, first))
            ]
          ]
        ]

  -- A REMEMBERED FIELD
  pub fits : (u : ℕ) (s : RefField) → joined TT u ≡ false → In (sources v u) s → IsDownField p (drawn_field u (field_of s))
  fits u s lives j =
      let K : IsSource v (k w I) u s = (S w I).sources u s j in
      let t = own (k w I) K.name in
      let idle : IsHandedBack w t = runs w I t ∙ waiting_stops (slice_get TT t) K.waits in
      let d = K.place.here K.rests in
      let c = content t idle d.0 d.1 in
      let object : c.0 ≡ K.object = same_Some c.0 K.object (sym c.1 ∙ (ap (object_at (k w I).machine.store) d.2.name ∙ K.is)) in
      let a : length d.0.refs ≡ length c.0.refs = refs_long (LiesWithOwner v (k w I)) d.0.refs c.0.refs c.2.refs in
      let b : length c.0.refs ≡ length K.object.refs = ap (λ (z : Object). length z.refs) object in
      let m : length (map word_of_ref d.0.refs) ≡ length d.0.refs = length-map d.0.refs word_of_ref in
      let lt : s.field < length K.object.refs = K.field in
      let at : word_of_ref (Some d.0.at) ≡ word_of_ref (Some s.object) = ap (λ z. word_of_ref (Some z)) d.2.at in
      record {
        object = drawn_object (in_words d.0);
        drawn = object_is_drawn t idle d.0 d.1;
        address = at;
        place = omega (arith, a, b, m, lt);
        owner = t;
        owned = subst (λ z. IsOwnedBy p z t) at (owned_at w I p P d.0.at t (near t idle d.0 d.1) (owner t idle d.0 d.1) (live t idle d.0 d.1));
        above = elim (on_path w I p P t u K.above lives) [ inl e ↦ absurd (K.below (sym e)) | inr a ↦ a ];
      }
