-- What is read after sources are rewritten.
use Rattle.remembered_set.proofs.Common.{◌≡◌, ℕ, ◌<◌, Bool, true, false, cond, ◌||◌, List, [], ◌∷◌, fold, length, get_or, inl, inr, refl, sym, ap, ◌∙◌, subst, Option, Some, None, ◌≢◌, slice_set, unwrap_or, cases_Bool, false≢true, or_parts, get_or-set_same, get_or-set_other, Addr, addr_cases, RefField, has_source, same_source, StandOnce, target_of, led_by, new_of, new_reference, redirected, written, AreFields, RewriteIsRead}
use Rattle.remembered_set.proofs.Noting.{same_is, same_self}
use Rattle.remembered_set.proofs.SourceLemmas as sources

module _ {S : Type 0} (refs_at : S → Addr → List (Option Addr)) (with_ref_at : S → Addr → ℕ → Option Addr → S)
    (same : (w : S) (a : Addr) (k : ℕ) (r : Option Addr) → refs_at (with_ref_at w a k r) a ≡ slice_set (refs_at w a) k r)
    (other : (w : S) (a b : Addr) (k : ℕ) (r : Option Addr) → b ≢ a → refs_at (with_ref_at w a k r) b ≡ refs_at w b) where
  abbrev field : S → Addr → ℕ → Option Addr
  field w a i = get_or (refs_at w a) i None

  abbrev one : List (Addr × Addr) → S → RefField → S
  one ms w s = redirected refs_at with_ref_at ms w s

  -- ---- one source

  count_by : (w : S) (s : RefField) (o : Option Addr) (a : Addr) → length (refs_at (written refs_at with_ref_at w s o) a) ≡ length (refs_at w a)
  count_by w s None a = refl
  count_by w s (Some b) a = sources.refs_kept refs_at with_ref_at same other w s.object s.field (Some b) a

  -- its field is updated
  hit : (ms : List (Addr × Addr)) (w : S) (s : RefField) → s.field < length (refs_at w s.object) → (r : Option Addr) → field w s.object s.field ≡ r
      → field (written refs_at with_ref_at w s (new_reference ms r)) s.object s.field ≡ led_by ms r
  hit ms w s l None e = e
  hit ms w s l (Some a) e = hit_by_cases (new_of ms a)
    where
      hit_by_cases : (o : Option Addr) → field (written refs_at with_ref_at w s o) s.object s.field ≡ Some (unwrap_or o a)
      hit_by_cases None = e
      hit_by_cases (Some b) = ap (λ (xs : List (Option Addr)). get_or xs s.field None) (same w s.object s.field (Some b)) ∙ get_or-set_same (refs_at w s.object) s.field (Some b) None l

  -- any other is unchanged
  miss : (w : S) (s : RefField) (o : Option Addr) (a : Addr) (i : ℕ) → (a ≡ s.object → i ≡ s.field → ⊥) → field (written refs_at with_ref_at w s o) a i ≡ field w a i
  miss w s None a i ne = refl
  miss w s (Some b) a i ne = elim (addr_cases a s.object) [
    | inl e ↦
        subst (λ (x : Addr). field (with_ref_at w s.object s.field (Some b)) x i ≡ field w x i) (sym e)
        (ap (λ (xs : List (Option Addr)). get_or xs i None) (same w s.object s.field (Some b)) ∙ get_or-set_other (refs_at w s.object) s.field i (Some b) None (λ q. ne e q))
    | inr n ↦ ap (λ (xs : List (Option Addr)). get_or xs i None) (other w s.object a s.field (Some b) n)
  ]

  -- ---- all of them

  abbrev field_at : Addr → ℕ → RefField
  field_at a i = record { object = a; field = i }

  counts : (ms : List (Addr × Addr)) (w : S) (xs : List RefField) (a : Addr) → length (refs_at (fold (one ms) w xs) a) ≡ length (refs_at w a)
  counts ms w [] a = refl
  counts ms w (x ∷ xs) a = counts ms (one ms w x) xs a ∙ count_by w x (new_reference ms (target_of refs_at w x)) a

  -- a field that is no source is unchanged
  stays : (ms : List (Addr × Addr)) (w : S) (xs : List RefField) (a : Addr) (i : ℕ) → has_source xs (field_at a i) ≡ false → field (fold (one ms) w xs) a i ≡ field w a i
  stays ms w [] a i n = refl
  stays ms w (x ∷ xs) a i n =
      stays ms (one ms w x) xs a i (or_parts (same_source (field_at a i) x) (has_source xs (field_at a i)) n).1
      ∙ miss w x (new_reference ms (target_of refs_at w x)) a i (λ e q. false≢true (sym (or_parts (same_source (field_at a i) x) (has_source xs (field_at a i)) n).0 ∙ stays_is x e q))
    where
      stays_is : (x : RefField) → a ≡ x.object → i ≡ x.field → same_source (field_at a i) x ≡ true
      stays_is x e q = ap (λ (s : RefField). same_source s x) (ap (λ (b : Addr). field_at b i) e ∙ ap (field_at x.object) q) ∙ same_self x

  read : (ms : List (Addr × Addr)) (w : S) (xs : List RefField) → StandOnce xs → AreFields refs_at w xs → (a : Addr) (i : ℕ) (b : Bool) → has_source xs (field_at a i) ≡ b
      → field (fold (one ms) w xs) a i ≡ cond b (led_by ms (field w a i)) (field w a i)
  read ms w xs once are a i false e = stays ms w xs a i e
  read ms w [] once are a i true e = absurd (false≢true e)
  read ms w (x ∷ xs) once are a i true e = elim (cases_Bool (same_source (field_at a i) x)) [
    | inl t ↦
        let is : field_at a i ≡ x = same_is (field_at a i) x t in
        subst (λ (s : RefField). field (fold (one ms) (one ms w x) xs) s.object s.field ≡ led_by ms (field w s.object s.field)) (sym is)
        (stays ms (one ms w x) xs x.object x.field once.0 ∙ hit ms w x are.0 (target_of refs_at w x) refl)
    | inr f ↦
        let rest : has_source xs (field_at a i) ≡ true = ap (λ (v : Bool). v || has_source xs (field_at a i)) (sym f) ∙ e in
        read ms (one ms w x) xs once.1 (sources.fields_kept refs_at with_ref_at same other ms w x xs are.1) a i true rest
        ∙ ap (led_by ms) (miss w x (new_reference ms (target_of refs_at w x)) a i (λ q r. false≢true (sym f ∙ read_is q r)))
  ]
    where
      read_is : a ≡ x.object → i ≡ x.field → same_source (field_at a i) x ≡ true
      read_is e q = ap (λ (s : RefField). same_source s x) (ap (λ (b : Addr). field_at b i) e ∙ ap (field_at x.object) q) ∙ same_self x

  pub rewrite_is_read : RewriteIsRead refs_at with_ref_at
  rewrite_is_read ms w xs once are = record {
    count = counts ms w xs;
    fields = λ a i. read ms w xs once are a i (has_source xs (field_at a i)) refl;
  }
