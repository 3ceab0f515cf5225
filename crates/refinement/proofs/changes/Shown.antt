-- What the views of tasks show of their ancestors' heaps, through each kind of change.
use Rattle.refinement.proofs.Common.{◌≡◌, ℕ, ℤ, ◌==◌, ◌&&◌, suc, Bool, true, false, not, cond, Option, Some, None, List, [], ◌∷◌, map, filter, slice_get, ◌⊎◌, inl, inr, refl, ap, ap₂, sym, subst, ◌∙◌, option_map, list_any, cases_eq, both_ways, and_parts, eq-eqb, eqb-true, cond-true, cond-false, false_from_ne_true, same_Some, in_from_any, each_in, in_map, Addr, Located, Task, is_joined, is_on_path, is_waiting, Name, Object, object_at, Heap, Ledger, heap_of, SoundLedger, RefField, own, Rests, ForksTask, JoinsTasks, TasksCanJoin, leaf_alone, same_address, is_same, same_is, Chunk, Belongings, Memory, In, object_name, objects, objects_of_chunks, sources, is_source, rewritten_refs, rewritten, put_at, frozen_chunk, frozen_chunks, chunk_among, seen_at, seen_in, shown_at, as_shown, BelongingsStand, AboveIsShown, MemoryStands, ForksBelongings, advanced, JoinsBelongings, KeepsJust, Moves, WritesAt}
use Rattle.std.specs.List.{IsDistinct}
use Rattle.refinement.proofs.objects.Members.{in_chunk, in_objects, none_in}
use Rattle.refinement.proofs.objects.Mapped.{from_mapped}

abbrev AreShown : Memory → Ledger → Type 0
AreShown v l = (t : ℕ) → Rests l t → is_joined (slice_get l.machine.tasks t) ≡ false → AboveIsShown v l t

-- THE LEVEL OF A TASK

found : (ks : List Chunk) (k : Chunk) → IsDistinct (λ a b. a == b) (map (λ (z : Chunk). z.number) ks) → In ks k → chunk_among (frozen_chunks ks) k.number ≡ Some (frozen_chunk k)
unfolding IsDistinct
found [] k D i = absurd i
found (j ∷ js) k D (inl e) =
    subst (λ (z : Chunk). chunk_among (frozen_chunks (j ∷ js)) z.number ≡ Some (frozen_chunk z)) e
    (cond-true (j.number == j.number) (Some (frozen_chunk j)) (chunk_among (frozen_chunks js) j.number) (eq-eqb j.number j.number refl))
found (j ∷ js) k D (inr i) =
    cond-false (j.number == k.number) (Some (frozen_chunk j)) (chunk_among (frozen_chunks js) k.number)
    (each_in (λ (y : ℕ). j.number == y ≡ false) (map (λ (z : Chunk). z.number) js) k.number D.0 (in_map (λ (z : Chunk). z.number) js k i)) ∙ found js k D.1 i

none_found : (ks : List Chunk) (n : ℕ) → ((k : Chunk) → In ks k → k.number ≡ n → ⊥) → chunk_among (frozen_chunks ks) n ≡ None
none_found [] n off = refl
none_found (j ∷ js) n off =
    cond-false (j.number == n) (Some (frozen_chunk j)) (chunk_among (frozen_chunks js) n) (false_from_ne_true (j.number == n) (λ e. off j (inl refl) (eqb-true j.number n e)))
    ∙ none_found js n (λ k i. off k (inr i))

module _ (o : Located) where
  abbrev Once : List Located → Type 0
  Once os = (p : Located) → In os p → p.at ≡ o.at → p ≡ o

  abbrev kept : List Located → List Located
  kept os = filter (λ p. not p.mutable) os

  none_seen : (os : List Located) → Once os → o.mutable ≡ true → seen_at (kept os) o.at ≡ None
  none_seen [] once m = refl
  none_seen (p ∷ ps) once m = none_seen_by_cases (none_seen ps (λ q i. once q (inr i)) m) p.mutable refl
    where
      none_seen_by_cases : seen_at (kept ps) o.at ≡ None → (b : Bool) → p.mutable ≡ b → seen_at (cond (not p.mutable) (p ∷ kept ps) (kept ps)) o.at ≡ None
      none_seen_by_cases more true e = ap (λ z. seen_at z o.at) (cond-false (not p.mutable) (p ∷ kept ps) (kept ps) (ap not e)) ∙ more
      none_seen_by_cases more false e =
          ap (λ z. seen_at z o.at) (cond-true (not p.mutable) (p ∷ kept ps) (kept ps) (ap not e))
          ∙ (cond-false (same_address p.at o.at) (Some p) (seen_at (kept ps) o.at) (false_from_ne_true (same_address p.at o.at) (λ h.
          both_ways p.mutable e (ap (λ (q : Located). q.mutable) (once p (inl refl) (same_is p.at o.at h)) ∙ m))) ∙ more)

  one_seen : (os : List Located) → Once os → In os o → o.mutable ≡ false → seen_at (kept os) o.at ≡ Some o
  one_seen [] once i m = absurd i
  one_seen (p ∷ ps) once i m = one_seen_by_cases (λ j. one_seen ps (λ q k. once q (inr k)) j m) p.mutable refl
    where
      one_seen_by_cases : (In ps o → seen_at (kept ps) o.at ≡ Some o) → (b : Bool) → p.mutable ≡ b → seen_at (cond (not p.mutable) (p ∷ kept ps) (kept ps)) o.at ≡ Some o
      one_seen_by_cases more true e =
          ap (λ z. seen_at z o.at) (cond-false (not p.mutable) (p ∷ kept ps) (kept ps) (ap not e)) ∙ elim i [
            | inl f ↦ absurd (both_ways p.mutable (ap (λ (q : Located). q.mutable) f ∙ m) e)
            | inr j ↦ more j
          ]
      one_seen_by_cases more false e = ap (λ z. seen_at z o.at) (cond-true (not p.mutable) (p ∷ kept ps) (kept ps) (ap not e)) ∙ one_seen_by_cases_here (same_address p.at o.at) refl
        where
          one_seen_by_cases_here : (b : Bool) → same_address p.at o.at ≡ b → cond (same_address p.at o.at) (Some p) (seen_at (kept ps) o.at) ≡ Some o
          one_seen_by_cases_here true h = cond-true (same_address p.at o.at) (Some p) (seen_at (kept ps) o.at) h ∙ ap Some (once p (inl refl) (same_is p.at o.at h))
          one_seen_by_cases_here false h = cond-false (same_address p.at o.at) (Some p) (seen_at (kept ps) o.at) h ∙ elim i [
            | inl f ↦ absurd (both_ways (same_address p.at o.at) h (is_same p.at o.at (ap (λ (q : Located). q.at) f)))
            | inr j ↦ more j
          ]

  as_kept : (os : List Located) → Once os → In os o → seen_at (kept os) o.at ≡ as_shown o
  as_kept os once i = as_kept_by_cases o.mutable refl
    where
      as_kept_by_cases : (b : Bool) → o.mutable ≡ b → seen_at (kept os) o.at ≡ as_shown o
      as_kept_by_cases true e = none_seen os once e ∙ sym (cond-true o.mutable None (Some o) e)
      as_kept_by_cases false e = one_seen os once i e ∙ sym (cond-false o.mutable None (Some o) e)

-- the level of a task shows each of its objects
level_shows : (v : Memory) (l : Ledger) (t : ℕ) (o : Located) (below : List (List Chunk)) → BelongingsStand v l t → In (objects v t) o → shown_at (frozen_chunks (v.belongings t).chunks ∷ below) o.at ≡ as_shown o
level_shows v l t o below H i =
    let c = in_chunk (v.belongings t).chunks o i in
    let at = H.inside c.0 o c.1 c.2 in
    ap (λ z. seen_in z o.at (shown_at below o.at)) (ap (chunk_among (frozen_chunks (v.belongings t).chunks)) at ∙ found (v.belongings t).chunks c.0 H.laid.numbers c.1)
    ∙ as_kept o c.0.objects (λ p j e. H.once p o (in_objects (v.belongings t).chunks c.0 p c.1 j) i e) c.2

-- and no object of another's
level_passes : (v : Memory) (l : Ledger) (t u : ℕ) (o : Located) (below : List (List Chunk)) → BelongingsStand v l t → BelongingsStand v l u → (u ≡ t → ⊥) → In (objects v u) o → shown_at (frozen_chunks (v.belongings t).chunks ∷ below) o.at ≡ shown_at below o.at
level_passes v l t u o below H K ne i =
    let c = in_chunk (v.belongings u).chunks o i in
    ap (λ z. seen_in z o.at (shown_at below o.at)) (none_found (v.belongings t).chunks o.at.chunk (λ k j e.
    ne (same_Some u t (sym (K.owned c.0 c.1) ∙ (ap v.owner (sym (K.inside c.0 o c.1 c.2) ∙ sym e) ∙ H.owned k j)))))

-- A FORK
module _ (v v' : Memory) (l l' : Ledger) (t a b g h : ℕ) (x : Task) (V : MemoryStands v l) (T : AreShown v l) (rests : Rests l t)
    (live : is_joined (slice_get l.machine.tasks t) ≡ false) (F : ForksTask l l' t a b g h x) (C : ForksBelongings v v' t a b g h)
    (same : (z : ℕ) → (z ≡ a → ⊥) → (z ≡ b → ⊥) → (v'.belongings z).view ≡ (v.belongings z).view) where
  -- an object of any task was there before, and its task is none of the children
  abbrev none_new : (z : ℕ) (o : Located) → (z ≡ a) ⊎ (z ≡ b) → In (objects v' z) o → ⊥
  none_new = none_in v' a b (ap (λ (k : Belongings). k.chunks) C.left) (ap (λ (k : Belongings). k.chunks) C.right)

  was : (u : ℕ) (o : Located) → Rests l' u → In (objects v' u) o → Rests l u × In (objects v u) o
  was u o r i = elim (cases_eq u t) [
    | inl e ↦ (ap (λ k. (heap_of l k).worker) e ∙ rests, subst (λ (k : Belongings). In (objects_of_chunks k.chunks) o) (ap v'.belongings e ∙ (C.belongings ∙ ap (λ (k : Belongings). record k { frames = advanced (v.belongings t).frames }) (sym (ap v.belongings e)))) i)
    | inr nt ↦
        let na : u ≡ a → ⊥ = λ e. none_new u o (inl e) i in
        let nb : u ≡ b → ⊥ = λ e. none_new u o (inr e) i in
        (ap (λ (z : Heap). z.worker) (sym (F.heaps u nt na nb)) ∙ r, subst (λ (k : Belongings). In (objects_of_chunks k.chunks) o) (C.others u nt na nb) i)
  ]

  -- a child
  child_shown : (z : ℕ) → ((u : ℕ) → is_on_path l'.machine.tasks u z ≡ true → (u ≡ z) ⊎ (is_on_path l.machine.tasks u t ≡ true)) → (v'.belongings z).view ≡ frozen_chunks (v.belongings t).chunks ∷ (v.belongings t).view → AboveIsShown v' l' z
  child_shown z above new u o up ne r i =
      let w = was u o r i in
      ap (λ s. shown_at s o.at) new ∙ elim (above u up) [
        | inl e ↦ absurd (ne e)
        | inr p ↦ elim (cases_eq u t) [
          | inl e ↦ level_shows v l t o (v.belongings t).view (V.belongings t rests) (subst (λ k. In (objects v k) o) e w.1)
          | inr nt ↦ level_passes v l t u o (v.belongings t).view (V.belongings t rests) (V.belongings u w.0) nt w.1 ∙ T t rests live u o p nt w.0 w.1
        ]
      ]

  pub left_shown : (v'.belongings a).view ≡ frozen_chunks (v.belongings t).chunks ∷ (v.belongings t).view → AboveIsShown v' l' a
  left_shown new = child_shown a F.above_left new

  pub right_shown : (v'.belongings b).view ≡ frozen_chunks (v.belongings t).chunks ∷ (v.belongings t).view → AboveIsShown v' l' b
  right_shown new = child_shown b F.above_right new

  -- any other
  pub rest_shown : (z : ℕ) → (z ≡ a → ⊥) → (z ≡ b → ⊥) → Rests l z → is_joined (slice_get l.machine.tasks z) ≡ false → AboveIsShown v' l' z
  rest_shown z na nb rz lz u o up ne r i =
      let w = was u o r i in
      ap (λ s. shown_at s o.at) (same z na nb) ∙ T z rz lz u o (sym (F.paths u z na nb) ∙ up) ne w.0 w.1

-- A JOIN: the parent runs on, so it is an ancestor of no other live task
module _ (v v' : Memory) (l l' : Ledger) (p c d : ℕ) (x : Task) (rl rr : ℤ × Option Name) (al ar : ℤ × Option Addr) (nobody : (z : ℕ) → is_joined (slice_get l.machine.tasks z) ≡ false → is_on_path l.machine.tasks p z ≡ true → (z ≡ p → ⊥) × (z ≡ c → ⊥) × (z ≡ d → ⊥) → ⊥) (T : AreShown v l) (J : JoinsTasks l l' p c d x rl rr) (C : JoinsBelongings v v' p c d al ar)
    (K : TasksCanJoin l p c d x) (z : ℕ) (same : (v'.belongings z).view ≡ (v.belongings z).view) where
  pub join_shown : Rests l z → is_joined (slice_get l.machine.tasks z) ≡ false → is_joined (slice_get l'.machine.tasks z) ≡ false → AboveIsShown v' l' z
  join_shown rz lz lz' u o up ne r i = elim (cases_eq u p) [
    | inl e ↦
        let gone : (k : ℕ) → is_joined (slice_get l'.machine.tasks k) ≡ true → z ≡ k → ⊥ = λ k g f. both_ways (is_joined (slice_get l'.machine.tasks z)) lz' (ap (λ y. is_joined (slice_get l'.machine.tasks y)) f ∙ g) in
        absurd (nobody z lz (ap (λ y. is_on_path l.machine.tasks y z) (sym e) ∙ (sym (J.paths u z) ∙ up)) ((λ f. ne (e ∙ sym f)), gone c J.left, gone d J.right))
    | inr np ↦ elim (cases_eq u c) [
      | inl e ↦ absurd (subst (λ (k : Belongings). In (objects_of_chunks k.chunks) o) (ap v'.belongings e ∙ C.left) i)
      | inr nc ↦ elim (cases_eq u d) [
        | inl e ↦ absurd (subst (λ (k : Belongings). In (objects_of_chunks k.chunks) o) (ap v'.belongings e ∙ C.right) i)
        | inr nd ↦
            ap (λ s. shown_at s o.at) same
            ∙ T z rz lz u o (sym (J.paths u z) ∙ up) ne (ap (λ (k : Heap). k.worker) (sym (J.heaps u np nc nd)) ∙ r) (subst (λ (k : Belongings). In (objects_of_chunks k.chunks) o) (C.others u np nc nd) i)
      ]
    ]
  ]

-- A WRITE: what is written is mutable, and stays so
module _ (v v' : Memory) (l l' : Ledger) (t : ℕ) (a : Addr) (f : Located → Located) (T : AreShown v l) (C : WritesAt v v' t a f)
    (kind : (o : Located) → (f o).mutable ≡ o.mutable) (written : (u : ℕ) (o : Located) → In (objects v u) o → Rests l u → o.at ≡ a → o.mutable ≡ true)
    (same : (z : ℕ) → (v'.belongings z).view ≡ (v.belongings z).view) (paths : (u z : ℕ) → is_on_path l'.machine.tasks u z ≡ is_on_path l.machine.tasks u z) (rests : (u : ℕ) → Rests l' u → Rests l u) where
  one_name : (o : Located) → object_name (put_at a f o) ≡ object_name o
  one_name o = one_name_by_cases (same_address o.at a)
    where
      one_name_by_cases : (b : Bool) → object_name (cond b (f o) o) ≡ object_name o
      one_name_by_cases true = C.same_name o
      one_name_by_cases false = refl

  one_at : (o : Located) → (put_at a f o).at ≡ o.at
  one_at o = one_at_by_cases (same_address o.at a)
    where
      one_at_by_cases : (b : Bool) → (cond b (f o) o).at ≡ o.at
      one_at_by_cases true = C.same_at o
      one_at_by_cases false = refl

  one_shown : (s : Option Located) (u : ℕ) (q : Located) → Rests l u → In (objects v u) q → s ≡ as_shown q → s ≡ as_shown (put_at a f q)
  one_shown s u q r i e = one_shown_by_cases (same_address q.at a) refl
    where
      one_shown_by_cases : (b : Bool) → same_address q.at a ≡ b → s ≡ as_shown (put_at a f q)
      one_shown_by_cases true h =
          let m : q.mutable ≡ true = written u q i r (same_is q.at a h) in
          e ∙ (cond-true q.mutable None (Some q) m ∙ sym (ap as_shown (cond-true (same_address q.at a) (f q) q h) ∙ cond-true (f q).mutable None (Some (f q)) (kind q ∙ m)))
      one_shown_by_cases false h = e ∙ sym (ap as_shown (cond-false (same_address q.at a) (f q) q h))

  pub write_shown : (z : ℕ) → Rests l z → is_joined (slice_get l.machine.tasks z) ≡ false → AboveIsShown v' l' z
  write_shown z rz lz u o up ne r i =
      let w = from_mapped (put_at a f) one_name one_at (v.belongings u).chunks o (subst (λ ks. In (objects_of_chunks ks) o) (C.chunks u) i) in
      let at : o.at ≡ w.0.at = ap (λ (q : Located). q.at) (sym w.2) ∙ one_at w.0 in
      ap₂ (λ s b. shown_at s b) (same z) at ∙ subst (λ (q : Located). shown_at (v.belongings z).view w.0.at ≡ as_shown q) w.2
      (one_shown (shown_at (v.belongings z).view w.0.at) u w.0 (rests u r) w.1 (T z rz lz u w.0 (sym (paths u z) ∙ up) ne (rests u r) w.1))

-- A SWEEP: objects only go
module _ (v v' : Memory) (l l' : Ledger) (t : ℕ) (names : List Name) (T : AreShown v l) (C : KeepsJust v v' l l' t names)
    (same : (z : ℕ) → (v'.belongings z).view ≡ (v.belongings z).view) (paths : (u z : ℕ) → is_on_path l'.machine.tasks u z ≡ is_on_path l.machine.tasks u z) (rests : (u : ℕ) → Rests l' u → Rests l u) where
  pub sweep_shown : (z : ℕ) → Rests l z → is_joined (slice_get l.machine.tasks z) ≡ false → AboveIsShown v' l' z
  sweep_shown z rz lz u o up ne r i = ap (λ s. shown_at s o.at) (same z) ∙ T z rz lz u o (sym (paths u z) ∙ up) ne (rests u r) (elim (cases_eq u t) [
    | inl e ↦ subst (λ k. In (objects v k) o) (sym e) (C.only o (subst (λ k. In (objects v' k) o) e i)).0
    | inr nt ↦ subst (λ (k : Belongings). In (objects_of_chunks k.chunks) o) (C.others u nt) i
  ])

-- THE END OF A LEAF COLLECTION: t runs, so it is an ancestor of no other live task; what is remembered is mutable
module _ (f : Addr → Addr) (ss : List RefField) where
  refs_left : (a : Addr) (i : ℕ) (rs : List (Option Addr)) → ((s : RefField) → In ss s → s.object ≡ a → ⊥) → rewritten_refs f ss a i rs ≡ rs
  refs_left a i [] none = refl
  refs_left a i (r ∷ rs) none =
      let out : list_any (is_source a i) ss ≡ false = false_from_ne_true (list_any (is_source a i) ss) (λ e.
      let q = in_from_any (is_source a i) ss e in
      let p = and_parts (q.0.object.chunk == a.chunk) ((q.0.object.offset == a.offset) && (q.0.field == i)) q.2 in
      let p' = and_parts (q.0.object.offset == a.offset) (q.0.field == i) p.1 in
      let c : q.0.object.chunk ≡ a.chunk = eqb-true q.0.object.chunk a.chunk p.0 in
      let o : q.0.object.offset ≡ a.offset = eqb-true q.0.object.offset a.offset p'.0 in
      none q.0 q.1 (λ j. record { chunk = c j; offset = o j })) in
      ap₂ (λ x xs. x ∷ xs) (cond-false (list_any (is_source a i) ss) (option_map f r) r out) (refs_left a (suc i) rs none)

-- what is remembered is mutable
pub noted_mutable : (v : Memory) (l : Ledger) (t u : ℕ) (o : Located) (s : RefField) → MemoryStands v l → In (objects v u) o → Rests l u → In (sources v t) s → s.object ≡ o.at → o.mutable ≡ true
noted_mutable v l t u o s V i r j e =
    let k = V.sources t s j in
    let q = k.place.here k.rests in
    let c = in_chunk (v.belongings u).chunks o i in
    let H = V.belongings u r in
    let mine : own l k.name ≡ u = same_Some (own l k.name) u (sym k.place.chunk ∙ (ap (λ (b : Addr). v.owner b.chunk) e ∙ (ap v.owner (H.inside c.0 o c.1 c.2) ∙ H.owned c.0 c.1))) in
    let same : q.0 ≡ o = H.once q.0 o (subst (λ z. In (objects v z) q.0) mine q.1) i (q.2.at ∙ e) in
    let x = V.contents u o r i in
    let is : k.object ≡ x.0 = same_Some k.object x.0 (sym k.is ∙ (ap (object_at l.machine.store) (sym q.2.name ∙ ap object_name same) ∙ x.1)) in
    x.2.mutable ∙ (ap (λ (z : Object). z.mutable) (sym is) ∙ k.mutable)

module _ (v v' : Memory) (l l' : Ledger) (t : ℕ) (names : List Name) (f : Addr → Addr) (S : SoundLedger l) (T : AreShown v l) (C : Moves v v' l l' t names f) (idle : is_waiting (slice_get l.machine.tasks t) ≡ false)
    (noted : (u : ℕ) (o : Located) (s : RefField) → In (objects v u) o → Rests l u → In (sources v t) s → s.object ≡ o.at → o.mutable ≡ true)
    (same : (z : ℕ) → (v'.belongings z).view ≡ (v.belongings z).view) (paths : (u z : ℕ) → is_on_path l'.machine.tasks u z ≡ is_on_path l.machine.tasks u z) (rests : (u : ℕ) → Rests l' u → Rests l u) where
  abbrev ss : List RefField
  ss = sources v t

  one_led : (s : Option Located) (u : ℕ) (q : Located) → Rests l u → In (objects v u) q → s ≡ as_shown q → s ≡ as_shown (rewritten f ss q)
  one_led s u q r i e = one_led_by_cases q.mutable refl
    where
      one_led_by_cases : (b : Bool) → q.mutable ≡ b → s ≡ as_shown (rewritten f ss q)
      one_led_by_cases true m = e ∙ (cond-true q.mutable None (Some q) m ∙ sym (cond-true q.mutable None (Some (rewritten f ss q)) m))
      one_led_by_cases false m = e ∙ ap (λ rs. as_shown (record q { refs = rs })) (sym (refs_left f ss q.at 0 q.refs (λ z j h. both_ways q.mutable m (noted u q z i r j h))))

  pub collection_shown : (z : ℕ) → Rests l z → is_joined (slice_get l.machine.tasks z) ≡ false → AboveIsShown v' l' z
  collection_shown z rz lz u o up ne r i =
      let up' : is_on_path l.machine.tasks u z ≡ true = sym (paths u z) ∙ up in
      elim (cases_eq u t) [
        | inl e ↦ absurd (ne (leaf_alone l S u z (ap (λ k. is_waiting (slice_get l.machine.tasks k)) e ∙ idle) lz up'))
        | inr nt ↦
            let w = from_mapped (rewritten f ss) (λ q. refl) (λ q. refl) (v.belongings u).chunks o (subst (λ (k : Belongings). In (objects_of_chunks k.chunks) o) (C.others u nt) i) in
            let at : o.at ≡ w.0.at = ap (λ (q : Located). q.at) (sym w.2) in
            ap₂ (λ s b. shown_at s b) (same z) at ∙ subst (λ (q : Located). shown_at (v.belongings z).view w.0.at ≡ as_shown q) w.2
            (one_led (shown_at (v.belongings z).view w.0.at) u w.0 (rests u r) w.1 (T z rz lz u w.0 up' ne (rests u r) w.1))
      ]
