-- A sound picture: an object of a waiting task refers to one of its child, which runs and remembers the field.
use Rattle.heap_image.proofs.Common.{◌≡◌, ◌<◌, ℕ, zero, suc, true, [], ◌∷◌, refl, ap, sym, subst, ◌∙◌, inl, inr, arith, Some, None, slice_get, In, Running, Waiting, ImageTask, ImageChunk, ImageRemembered, chunk_number, Picked, ImageData, IsTaskForm, IsChunkForm, IsObjectForm, IsFieldForm, IsInForm, RisesByPlace, TaskBefore, ChunkBefore, ObjectBefore, RememberedBefore, IsAbove, HasTask, IsRunning, IsOwnedBy, LiesInIdleChunk, ImageLeadsSomewhere, ImageKeepsToPath, IsDownField, IsSoundPicture, SomePictureIsSound}

-- LISTS OF ONE AND OF TWO

one_rises : {A : Type 0} (before : A → A → Type 0) (a : A) → RisesByPlace before (a ∷ [])
one_rises before a zero zero x y lt g h = absurd (omega (arith, lt))
one_rises before a zero (suc j) x y lt g h = absurd cc
one_rises before a (suc i) j x y lt g h = absurd cc

two_rise : {A : Type 0} (before : A → A → Type 0) (a b : A) → before a b → RisesByPlace before (a ∷ b ∷ [])
two_rise before a b r zero zero x y lt g h = absurd (omega (arith, lt))
two_rise before a b r zero (suc zero) x y lt g h = let e : a ≡ x = cc in let f : b ≡ y = cc in subst (λ z. before z y) e (subst (before a) f r)
two_rise before a b r zero (suc (suc j)) x y lt g h = absurd cc
two_rise before a b r (suc zero) zero x y lt g h = absurd (omega (arith, lt))
two_rise before a b r (suc zero) (suc zero) x y lt g h = absurd (omega (arith, lt))
two_rise before a b r (suc zero) (suc (suc j)) x y lt g h = absurd cc
two_rise before a b r (suc (suc i)) j x y lt g h = absurd cc

only : {A : Type 0} (a x : A) → In (a ∷ []) x → a ≡ x
only a x (inl e) = e
only a x (inr h) = absurd h

each_one : {A : Type 0} (P : A → Type 0) (a : A) → P a → (x : A) → In (a ∷ []) x → P x
each_one P a h x i = subst P (only a x i) h

each_two : {A : Type 0} (P : A → Type 0) (a b : A) → P a → P b → (x : A) → In (a ∷ b ∷ []) x → P x
each_two P a b h g x (inl e) = subst P e h
each_two P a b h g x (inr i) = each_one P b g x i

-- THE PICTURE

abbrev parent : ImageTask
parent = record { number = 0; parent = None; state = Waiting }

abbrev child : ImageTask
child = record { number = 1; parent = Some 0; state = Running }

abbrev upper : ImageChunk
upper = record { number = 0; owner = 0; words = 1024 }

abbrev lower : ImageChunk
lower = record { number = 1; owner = 1; words = 1024 }

abbrev object : Picked
object = record { address = 1; birth = record { task = 0; count = 0 }; mutable = true; references = 1025 ∷ []; numbers = [] }

abbrev field : ImageRemembered
field = record { task = 1; address = 1; place = 0 }

abbrev sample : ImageData
sample = record { tasks = parent ∷ child ∷ []; chunks = upper ∷ lower ∷ []; objects = object ∷ []; fields = field ∷ [] }

in_form : IsInForm sample
in_form = record {
  tasks = each_two IsTaskForm parent child (record { number = omega arith; parent = refl }) (record { number = omega arith; parent = (omega arith, omega arith) });
  chunks = each_two IsChunkForm upper lower
      (record { number = omega arith; owner = omega arith; whole = refl; least = omega arith; most = omega arith })
      (record { number = omega arith; owner = omega arith; whole = refl; least = omega arith; most = omega arith });
  objects = each_one IsObjectForm object (record {
    address = omega arith;
    task = omega arith;
    count = omega arith;
    sized = omega arith;
    references = each_one (λ v. v < 18446744073709551616) 1025 (omega arith);
    numbers = λ n i. absurd i;
  });
  fields = each_one IsFieldForm field (record { task = omega arith; address = omega arith; place = omega arith });
}

has_parent : HasTask sample 0
has_parent = (parent, inl refl, refl)

has_child : HasTask sample 1
has_child = (child, inr (inl refl), refl)

above : IsAbove sample.tasks 0 1
above = (0, (child, inr (inl refl), refl, refl))

waits_and_runs : Waiting ≡ Running → ⊥
waits_and_runs e = cc

no_number_twice : (n : ℕ) → 1 ≡ n → n ≡ 0 → ⊥
no_number_twice n e f = omega (arith, e, f)

parent_rests : IsRunning sample 0 → ⊥
parent_rests h = parent_rests_by_cases h.0 h.1 h.2 h.3
  where
    parent_rests_by_cases : (k : ImageTask) → In sample.tasks k → k.number ≡ 0 → k.state ≡ Running → ⊥
    parent_rests_by_cases k (inl e) n r = waits_and_runs (ap (λ (t : ImageTask). t.state) e ∙ r)
    parent_rests_by_cases k (inr (inl e)) n r = no_number_twice k.number (ap (λ (t : ImageTask). t.number) e) n
    parent_rests_by_cases k (inr (inr i)) n r = absurd i

parents_known : (t : ImageTask) (q : ℕ) → In sample.tasks t → t.parent ≡ Some q → HasTask sample q × (q < t.number)
parents_known t q (inl e) h = absurd (let f : None ≡ Some q = ap (λ (k : ImageTask). k.parent) e ∙ h in cc)
parents_known t q (inr (inl e)) h =
    let f : Some 0 ≡ Some q = ap (λ (k : ImageTask). k.parent) e ∙ h in
    let z : 0 ≡ q = cc in
    (subst (HasTask sample) z has_parent, (let n : 1 ≡ t.number = ap (λ (k : ImageTask). k.number) e in omega (arith, z, n)))
parents_known t q (inr (inr i)) h = absurd i

-- the owner of an address depends on its chunk's number
owner_is : (c : ImageChunk) → In sample.chunks c → c.owner ≡ c.number
owner_is = each_two (λ c. c.owner ≡ c.number) upper lower refl refl

owned_by : (a t : ℕ) → IsOwnedBy sample a t → t ≡ chunk_number a
owned_by a t h = sym h.2 ∙ owner_is h.0 h.1.0 ∙ sym h.1.2

first_is : (k v : ℕ) → slice_get object.references k ≡ Some v → (k ≡ 0) × (1025 ≡ v)
first_is zero v e = (refl, cc)
first_is (suc k) v e = absurd cc

keeps : (k v t u : ℕ) → slice_get object.references k ≡ Some v → IsOwnedBy sample 1 t → IsOwnedBy sample v u → ImageKeepsToPath sample 1 k t u
keeps k v t u got a b =
    let f = first_is k v got in
    let at_t : t ≡ 0 = owned_by 1 t a in
    let at_u : u ≡ 1 = owned_by v u b ∙ ap chunk_number (sym f.1) in
    let there : ImageKeepsToPath sample 1 0 0 1 = inr (inr (above, inl refl)) in
    subst (λ i. ImageKeepsToPath sample 1 i t u) (sym f.0) (subst (λ x. ImageKeepsToPath sample 1 0 x u) (sym at_t) (subst (λ x. ImageKeepsToPath sample 1 0 0 x) (sym at_u) there))

leads : ImageLeadsSomewhere sample 1025
leads = inr (inr (1, (lower, (inr (inl refl), omega arith, refl), refl), (child, inr (inl refl), refl, refl)))

is_sound : IsSoundPicture sample
is_sound = record {
  form = in_form;
  tasks_rise = two_rise TaskBefore parent child (omega arith);
  parents = parents_known;
  chunks_rise = two_rise ChunkBefore upper lower (omega arith);
  owners = each_two (λ c. HasTask sample c.owner) upper lower has_parent has_child;
  objects_rise = one_rises ObjectBefore object;
  births = λ o q i j e. ap (λ (x : Picked). x.address) (sym (only object o i) ∙ only object q j);
  places = each_one (LiesInIdleChunk sample) object (record { chunk = upper; lies = (inl refl, omega arith, refl); inside = omega arith; rests = parent_rests });
  apart = λ o q i j lt e. absurd (let f : o.address ≡ q.address = ap (λ (x : Picked). x.address) (sym (only object o i) ∙ only object q j) in omega (arith, lt, f));
  leads = λ o v i j. each_one (λ (x : Picked). In x.references v → ImageLeadsSomewhere sample v) object (λ h. each_one (ImageLeadsSomewhere sample) 1025 leads v h) o i j;
  keeps = λ o k v t u i. each_one (λ (x : Picked). slice_get x.references k ≡ Some v → IsOwnedBy sample x.address t → IsOwnedBy sample v u → ImageKeepsToPath sample x.address k t u) object (keeps k v t u) o i;
  fields_rise = one_rises RememberedBefore field;
  fields_fit = each_one (IsDownField sample) field (record {
    object = object;
    drawn = inl refl;
    address = refl;
    place = omega arith;
    owner = 0;
    owned = (upper, (inl refl, omega arith, refl), refl);
    above = above;
  });
}

pub some_picture_is_sound : SomePictureIsSound
some_picture_is_sound = (sample, is_sound, omega arith, omega arith)
