-- The slots as contracts see them after that of one task has changed.
use Rattle.task_slots.proofs.Common.{IfSome, IsSome, ◌≤◌, ◌<◌, arith, option_map, inl, inr, true, false, ◌≡◌, ℕ, zero, suc, ◌-◌, Bool, Option, Some, None, List, [], ◌∷◌, length, map, slice_get, slice_set, refl, ap, ap₂, sym, subst, ◌∙◌, option_flatten, cases_eq, false≢true, length-map, length-set, map-set, same_Some, slice_get_within, got_other, got_same, got_map, SetOf, Content, IsRoomy, content_at, content_of, MarkingValue, TaskSlot, ParkedTask, TaskSlotsValue, has_block, task_slots_value, marking_in, marks_at, rest_at, rest_in, set_in}

map_same : {A B : Type 0} (f : A → B) (xs : List A) (k : ℕ) (x y : A) → slice_get xs k ≡ Some y → f x ≡ f y → map f (slice_set xs k x) ≡ map f xs
map_same f [] k x y e same = refl
map_same f (z ∷ xs) zero x y e same = ap (λ w. w ∷ map f xs) (same ∙ ap f (sym (same_Some z y e)))
map_same f (z ∷ xs) (suc k) x y e same = ap (λ zs. f z ∷ zs) (map_same f xs k x y e same)

abbrev task_slots : List (Option ParkedTask) → List SetOf → List (Option MarkingValue) → List Bool → ℕ → TaskSlotsValue
task_slots r s m b n = record { rests = r; sets = s; marks = m; blocks = b; room = n }

same_task_slots : (r r' : List (Option ParkedTask)) (s s' : List SetOf) (m m' : List (Option MarkingValue)) (b b' : List Bool) (n n' : ℕ) → r ≡ r' → s ≡ s' → m ≡ m' → b ≡ b' → n ≡ n' → task_slots r s m b n ≡ task_slots r' s' m' b' n'
same_task_slots r r' s s' m m' b b' n n' er es em eb en =
    ap₂ (λ x y. task_slots x y m b n) er es ∙ (ap₂ (λ x y. task_slots r' s' x y n) em eb ∙ ap (task_slots r' s' m' b') en)

some_within : (rests : List (Option ParkedTask)) (t : ℕ) (r : ParkedTask) → rest_at rests t ≡ Some r → t < length rests
some_within rests t r h = some_within_by_cases (slice_get rests t) refl h
  where
    some_within_by_cases : (o : Option (Option ParkedTask)) → slice_get rests t ≡ o → option_flatten o ≡ Some r → t < length rests
    some_within_by_cases None e q = absurd cc
    some_within_by_cases (Some o) e q = slice_get_within rests t o e

module _ (hs : List (Option TaskSlot)) (room : ℕ) (old : TaskSlotsValue) (is : task_slots_value hs room ≡ old) (t : ℕ) where
  pub made_within : t < length old.rests → t < length hs
  made_within lt = let e = ap (λ (w : TaskSlotsValue). length w.rests) is in let m = length-map hs rest_in in omega (arith, lt, e, m)

  pub block_within : slice_get old.blocks t ≡ Some true → t < length hs
  block_within b = let lt = slice_get_within old.blocks t true b in let e = ap (λ (w : TaskSlotsValue). length w.blocks) is in let m = length-map hs has_block in omega (arith, lt, e, m)

  pub rest_within : (r : ParkedTask) → rest_at old.rests t ≡ Some r → t < length hs
  rest_within r e = made_within (some_within old.rests t r e)

  pub there_within : IsSome (rest_at old.rests t) → t < length hs
  there_within h = there_within_by_cases (rest_at old.rests t) refl h
    where
      there_within_by_cases : (o : Option ParkedTask) → rest_at old.rests t ≡ o → IsSome o → t < length hs
      there_within_by_cases None e q = absurd (false≢true q)
      there_within_by_cases (Some r) e q = rest_within r e

blockless : (o : Option TaskSlot) → has_block o ≡ false → o ≡ None
blockless None e = refl
blockless (Some h) e = absurd (false≢true (sym e))

map_id : (g : Content → Content) → ((c : Content) → g c ≡ c) → (o : Option Content) → option_map g o ≡ o
map_id g e None = refl
map_id g e (Some c) = ap Some (e c)

-- the slot of t, which is o, becomes x
module _ (hs : List (Option TaskSlot)) (cap t : ℕ) (o x : Option TaskSlot) (there : slice_get hs t ≡ Some o) (old : TaskSlotsValue) (is : task_slots_value hs (cap - length hs) ≡ old) where
  abbrev after : TaskSlotsValue
  after = task_slots_value (slice_set hs t x) (cap - length (slice_set hs t x))

  room : cap - length (slice_set hs t x) ≡ cap - length hs
  room = ap (λ n. cap - n) (length-set hs t x)

  pub rest_put : set_in x ≡ set_in o → marking_in x ≡ marking_in o → has_block x ≡ has_block o → after ≡ record old { rests = slice_set old.rests t (rest_in x) }
  rest_put s m b =
      subst (λ w. after ≡ record w { rests = slice_set w.rests t (rest_in x) }) is
      (same_task_slots _ _ _ _ _ _ _ _ _ _ (map-set rest_in hs t x) (map_same set_in hs t x o there s) (map_same marking_in hs t x o there m) (map_same has_block hs t x o there b) room)

  pub set_put : rest_in x ≡ rest_in o → marking_in x ≡ marking_in o → has_block x ≡ has_block o → after ≡ record old { sets = slice_set old.sets t (set_in x) }
  set_put r m b =
      subst (λ w. after ≡ record w { sets = slice_set w.sets t (set_in x) }) is
      (same_task_slots _ _ _ _ _ _ _ _ _ _ (map_same rest_in hs t x o there r) (map-set set_in hs t x) (map_same marking_in hs t x o there m) (map_same has_block hs t x o there b) room)

  pub marking_put : rest_in x ≡ rest_in o → set_in x ≡ set_in o → has_block x ≡ has_block o → after ≡ record old { marks = slice_set old.marks t (marking_in x) }
  marking_put r s b =
      subst (λ w. after ≡ record w { marks = slice_set w.marks t (marking_in x) }) is
      (same_task_slots _ _ _ _ _ _ _ _ _ _ (map_same rest_in hs t x o there r) (map_same set_in hs t x o there s) (map-set marking_in hs t x) (map_same has_block hs t x o there b) room)

  pub block_put : rest_in x ≡ rest_in o → set_in x ≡ set_in o → marking_in x ≡ marking_in o → after ≡ record old { blocks = slice_set old.blocks t (has_block x) }
  block_put r s m =
      subst (λ w. after ≡ record w { blocks = slice_set w.blocks t (has_block x) }) is
      (same_task_slots _ _ _ _ _ _ _ _ _ _ (map_same rest_in hs t x o there r) (map_same set_in hs t x o there s) (map_same marking_in hs t x o there m) (map-set has_block hs t x) room)

  pub slot_put : after ≡ record old { rests = slice_set old.rests t (rest_in x); sets = slice_set old.sets t (set_in x); marks = slice_set old.marks t (marking_in x); blocks = slice_set old.blocks t (has_block x) }
  slot_put =
      subst (λ w. after ≡ record w { rests = slice_set w.rests t (rest_in x); sets = slice_set w.sets t (set_in x); marks = slice_set w.marks t (marking_in x); blocks = slice_set w.blocks t (has_block x) }) is
      (same_task_slots _ _ _ _ _ _ _ _ _ _ (map-set rest_in hs t x) (map-set set_in hs t x) (map-set marking_in hs t x) (map-set has_block hs t x) room)

  pub rests_put : rest_in x ≡ rest_in o → after.rests ≡ old.rests
  rests_put r = map_same rest_in hs t x o there r ∙ ap (λ (w : TaskSlotsValue). w.rests) is

  pub sets_put : length after.sets ≡ length old.sets
  sets_put = ap length (map-set set_in hs t x) ∙ (length-set (map set_in hs) t (set_in x) ∙ ap (λ (w : TaskSlotsValue). length w.sets) is)

  pub block_set_put : rest_in x ≡ rest_in o → marking_in x ≡ marking_in o → after ≡ record old { sets = after.sets; blocks = after.blocks }
  block_set_put r m =
      subst (λ w. after ≡ record w { sets = after.sets; blocks = after.blocks }) is
      (same_task_slots _ _ _ _ _ _ _ _ _ _ (map_same rest_in hs t x o there r) refl (map_same marking_in hs t x o there m) refl room)

  -- the old value
  pub rest_was : rest_at old.rests t ≡ rest_in o
  rest_was = sym (ap (λ (w : TaskSlotsValue). rest_at w.rests t) is) ∙ ap option_flatten (got_map rest_in hs t o there)

  pub set_was : slice_get old.sets t ≡ Some (set_in o)
  set_was = sym (ap (λ (w : TaskSlotsValue). slice_get w.sets t) is) ∙ got_map set_in hs t o there

  -- the new value
  pub rest_now : rest_at after.rests t ≡ rest_in x
  rest_now = ap option_flatten (got_map rest_in (slice_set hs t x) t x (got_same hs t o x there))

  pub marking_now : marks_at after.marks t ≡ marking_in x
  marking_now = ap option_flatten (got_map marking_in (slice_set hs t x) t x (got_same hs t o x there))

  pub set_now : slice_get after.sets t ≡ Some (set_in x)
  set_now = got_map set_in (slice_set hs t x) t x (got_same hs t o x there)

  pub block_now : slice_get after.blocks t ≡ Some (has_block x)
  block_now = got_map has_block (slice_set hs t x) t x (got_same hs t o x there)

  rest_others : (u : ℕ) → (u ≡ t → ⊥) → slice_get after.rests u ≡ slice_get old.rests u
  rest_others u ne =
      ap (λ r. slice_get r u) (map-set rest_in hs t x)
      ∙ (got_other (map rest_in hs) t u (rest_in x) ne ∙ ap (λ (w : TaskSlotsValue). slice_get w.rests u) is)

  pub others_rest : (u : ℕ) → (u ≡ t → ⊥) → rest_at after.rests u ≡ rest_at old.rests u
  others_rest u ne = ap option_flatten (rest_others u ne)

  pub others_sets : (u : ℕ) → (u ≡ t → ⊥) → slice_get after.sets u ≡ slice_get old.sets u
  others_sets u ne =
      ap (λ r. slice_get r u) (map-set set_in hs t x)
      ∙ (got_other (map set_in hs) t u (set_in x) ne ∙ ap (λ (w : TaskSlotsValue). slice_get w.sets u) is)

  pub bare_was : slice_get old.blocks t ≡ Some false → o ≡ None
  bare_was e = blockless o (same_Some (has_block o) false (sym (sym (ap (λ (w : TaskSlotsValue). slice_get w.blocks t) is) ∙ got_map has_block hs t o there) ∙ e))

  pub same_contents : content_of (set_in x) ≡ content_of (set_in o) → (u : ℕ) → content_at after.sets u ≡ content_at old.sets u
  same_contents e u = elim (cases_eq u t) [
    | inl here ↦
        ap (λ z. content_at after.sets z) here
        ∙ (ap (option_map content_of) set_now ∙ (ap Some e ∙ (sym (ap (option_map content_of) set_was) ∙ ap (λ z. content_at old.sets z) (sym here))))
    | inr off ↦ ap (option_map content_of) (others_sets u off)
  ]

  pub rest_only : set_in x ≡ set_in o → marking_in x ≡ marking_in o → has_block x ≡ has_block o → after ≡ record old { rests = after.rests }
  rest_only s m b = let e = rest_put s m b in e ∙ ap (λ (w : TaskSlotsValue). record old { rests = w.rests }) (sym e)

  pub set_only : rest_in x ≡ rest_in o → marking_in x ≡ marking_in o → has_block x ≡ has_block o → after ≡ record old { sets = after.sets }
  set_only r m b = let e = set_put r m b in e ∙ ap (λ (w : TaskSlotsValue). record old { sets = w.sets }) (sym e)

  pub block_only : rest_in x ≡ rest_in o → set_in x ≡ set_in o → marking_in x ≡ marking_in o → after ≡ record old { blocks = after.blocks }
  block_only r s m = let e = block_put r s m in e ∙ ap (λ (w : TaskSlotsValue). record old { blocks = w.blocks }) (sym e)

  pub changed_content : (f : ℕ → Content → Content) → content_of (set_in x) ≡ f t (content_of (set_in o)) → ((u : ℕ) (c : Content) → (u ≡ t → ⊥) → f u c ≡ c) → (u : ℕ) → content_at after.sets u ≡ option_map (f u) (content_at old.sets u)
  changed_content f e stays u = elim (cases_eq u t) [
    | inl here ↦
        ap (λ z. content_at after.sets z) here
        ∙ (ap (option_map content_of) set_now
        ∙ (ap Some e ∙ (sym (ap (λ q. option_map (f t) (option_map content_of q)) set_was) ∙ ap (λ z. option_map (f z) (content_at old.sets z)) (sym here))))
    | inr off ↦ ap (option_map content_of) (others_sets u off) ∙ sym (map_id (f u) (λ c. stays u c off) (content_at old.sets u))
  ]

  pub roomy_stays : (set_in x).keeps ≡ (set_in o).keeps → (set_in o).kept.room ≤ (set_in x).kept.room → (h : ℕ) → IsRoomy old.sets h → IsRoomy after.sets h
  roomy_stays k le h R = elim (cases_eq h t) [
    | inl here ↦
        subst (λ z. IsRoomy after.sets z) (sym here)
        (subst (λ q. IfSome q (λ s. s.keeps ≡ true → 0 < s.kept.room)) (sym set_now)
        (λ b. let lt : 0 < (set_in o).kept.room = subst (λ q. IfSome q (λ s. s.keeps ≡ true → 0 < s.kept.room)) set_was (subst (λ z. IsRoomy old.sets z) here R) (sym k ∙ b) in omega (arith, lt, le)))
    | inr off ↦ subst (λ q. IfSome q (λ s. s.keeps ≡ true → 0 < s.kept.room)) (sym (others_sets h off)) R
  ]

-- put back where it was taken from
pub set_back : {A : Type 0} (xs : List A) (k : ℕ) (x y : A) → slice_get xs k ≡ Some x → slice_set (slice_set xs k y) k x ≡ xs
set_back [] k x y e = refl
set_back (z ∷ xs) zero x y e = ap (λ w. w ∷ xs) (sym (same_Some z x e))
set_back (z ∷ xs) (suc k) x y e = ap (λ zs. z ∷ zs) (set_back xs k x y e)
