-- The owner of a number after chunks changed their owner.
use Rattle.fork_join.proofs.Common.{◌≡◌, ℕ, Bool, true, false, cond, List, ◌++◌, ◌⊎◌, inl, inr, refl, sym, ap, ◌∙◌, Option, Some, None, IsSome, option_map, cases_Bool, cases_eq, false≢true, or_from, or_left, or_right, ChunkValue, has_chunk, has_append, Slot, PoolValue, slot_at, owner_of, RefField, with_owner, Owns, JoinedAreOwned, Merges}

pub some_same : (a b : ℕ) → Some a ≡ Some b → a ≡ b
some_same a b e = cc

abbrev owner : Option Slot → Option ℕ
owner o = option_map (λ h. h.owner) o

new_by : (b : Bool) (p : ℕ) (h h' : Option Slot) → h' ≡ cond b (option_map (with_owner p) h) h → b ≡ true → IsSome h → owner h' ≡ Some p
new_by true p None h' e t used = absurd (false≢true used)
new_by true p (Some h) h' e t used = ap (λ (x : Option Slot). option_map (λ (y : Slot). y.owner) x) e
new_by false p h h' e t used = absurd (false≢true t)

old_by : (b : Bool) (p : ℕ) (h h' : Option Slot) → h' ≡ cond b (option_map (with_owner p) h) h → b ≡ false → owner h' ≡ owner h
old_by true p h h' e f = absurd (false≢true (sym f))
old_by false p h h' e f = ap (λ (x : Option Slot). option_map (λ (y : Slot). y.owner) x) e

pub joined_are_owned : JoinedAreOwned
joined_are_owned old new ks p r n = (
  (λ t used. new_by (has_chunk ks n) p (slot_at old n) (slot_at new n) (r.each n) t used),
  (λ f. old_by (has_chunk ks n) p (slot_at old n) (slot_at new n) (r.each n) f),
)

was_by : (b : Bool) (p x : ℕ) (h h' : Option Slot) → h' ≡ cond b (option_map (with_owner p) h) h → owner h' ≡ Some x → (o : ℕ) × (owner h ≡ Some o)
was_by true p x None h' e now = absurd (let n : None ≡ Some x = sym (ap (λ (y : Option Slot). option_map (λ (z : Slot). z.owner) y) e) ∙ now in cc)
was_by false p x None h' e now = absurd (let n : None ≡ Some x = sym (ap (λ (y : Option Slot). option_map (λ (z : Slot). z.owner) y) e) ∙ now in cc)
was_by b p x (Some h) h' e now = (h.owner, refl)

used_by : (u : ℕ) (h : Option Slot) → owner h ≡ Some u → IsSome h
used_by u None e = absurd (let n : None ≡ Some u = e in cc)
used_by u (Some h) e = refl

module _ (old new : PoolValue) (sources after : ℕ → List RefField) (p c d : ℕ) (ks ls rs : List ChunkValue) (op : Owns old p ks) (oc : Owns old c ls) (od : Owns old d rs)
    (J : Merges old new sources after p c d ks ls rs) where
  pub owner_left : (n : ℕ) → owner_of old n ≡ Some c → owner_of new n ≡ Some p
  owner_left n e =
      (joined_are_owned old new (ls ++ rs) p J.pool n).0 (has_append ls rs n ∙ or_left (has_chunk ls n) (has_chunk rs n) ((oc n).0 e)) (used_by c (slot_at old n) e)

  pub owner_right : (n : ℕ) → owner_of old n ≡ Some d → owner_of new n ≡ Some p
  owner_right n e =
      (joined_are_owned old new (ls ++ rs) p J.pool n).0 (has_append ls rs n ∙ or_right (has_chunk ls n) (has_chunk rs n) ((od n).0 e)) (used_by d (slot_at old n) e)

  isnt : (t u n : ℕ) (xs : List ChunkValue) → Owns old t xs → (u ≡ t → ⊥) → owner_of old n ≡ Some u → has_chunk xs n ≡ false
  isnt t u n xs o ne e = elim (cases_Bool (has_chunk xs n)) [
    | inl y ↦ absurd (ne (some_same u t (sym e ∙ (o n).1 y)))
    | inr f ↦ f
  ]

  pub owners : (n u : ℕ) → (u ≡ c → ⊥) → (u ≡ d → ⊥) → owner_of old n ≡ Some u → owner_of new n ≡ Some u
  owners n u nc nd e =
      (joined_are_owned old new (ls ++ rs) p J.pool n).1 (has_append ls rs n ∙ or_from (has_chunk ls n) (has_chunk rs n) (isnt c u n ls oc nc e) (isnt d u n rs od nd e)) ∙ e

  -- the owner of a number before and after
  abbrev pub Moved : ℕ → ℕ → ℕ → Type 0
  Moved n x o = (owner_of old n ≡ Some o) × ((((o ≡ c) ⊎ (o ≡ d)) × (x ≡ p)) ⊎ ((((o ≡ c) ⊎ (o ≡ d)) → ⊥) × (x ≡ o)))

  moved_by : (n x o : ℕ) → owner_of new n ≡ Some x → owner_of old n ≡ Some o → (o ≡ c) ⊎ (o ≡ c → ⊥) → (o ≡ d) ⊎ (o ≡ d → ⊥) → Moved n x o
  moved_by n x o now was (inl e) any = (was, inl (inl e, some_same x p (sym now ∙ owner_left n (was ∙ ap (λ (m : ℕ). Some m) e))))
  moved_by n x o now was (inr nc) (inl e) = (was, inl (inr e, some_same x p (sym now ∙ owner_right n (was ∙ ap (λ (m : ℕ). Some m) e))))
  moved_by n x o now was (inr nc) (inr nd) = (was, inr (λ h. elim h [ inl e ↦ nc e | inr e ↦ nd e ], some_same x o (sym now ∙ owners n o nc nd was)))

  pub moved : (n x : ℕ) → owner_of new n ≡ Some x → (o : ℕ) × Moved n x o
  moved n x now =
      let was = was_by (has_chunk (ls ++ rs) n) p x (slot_at old n) (slot_at new n) (J.pool.each n) now in
      (was.0, moved_by n x was.0 now was.1 (cases_eq was.0 c) (cases_eq was.0 d))
