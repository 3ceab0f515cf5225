-- A text without a fault is sound.
use Rattle.image_check.proofs.Common.{◌≡◌, ◌+◌, ℕ, zero, suc, Bool, true, false, cond, List, [], ◌∷◌, refl, ap, sym, ◌∙◌, arith, inl, inr, ◌⊎◌, subst, Option, Some, None, ◌==◌, ◌&&◌, ◌||◌, not, list_any, eqb-true, not-false, or_cases, or_parts, both_ways, is_last, lines_of, ImageBirth, ImageObject, ImageLine, Nothing, Wrong, Title, OfTask, OfChunk, OfObject, OfRemembered, OfEnd, Read, Whole, line_meaning, is_among, same_birth, same_field, has, nothing_read, nothing_had, after_line, with_lines, whole_of, Own, Above, Below, Apart, ImageTasks, Chunks, is_ancestor_of, owner_in, owner_at, cause_on, fault_from_line, lines_fault, is_astray, relation_to, is_apart, is_below, crosses, forgets, is_forgotten, owner_runs, LineSays, ReferenceIs, IsImageObjectAt, IsRemembered, IsInRunning, LeadsSomewhere, KeepsToPath, IsSoundObject, all_read, HasSoundObjects, HasDistinctBirths, FaultlessIsSound}
use Rattle.image_check.proofs.Paths.{above}
use Rattle.image_check.proofs.Steps.{clear, faultless, IsWell, well, met}
use Rattle.image_check.proofs.Members.{item_kept, item_added, field_from, object_from}

-- BIRTHS

abbrev named : ImageBirth → ℕ × ℕ
named b = (b.task, b.count)

same_self : (b : ℕ × ℕ) → same_birth b b ≡ true
same_self b = let x : ℕ = b.0 in let y : ℕ = b.1 in let e : (x == x) ≡ true = grind arith in let f : (y == y) ≡ true = grind arith in rw (e, f) refl

still_born : (r : Read) (s : ImageLine) (b : ℕ × ℕ) → is_among same_birth r.births b ≡ true → is_among same_birth (after_line r s).births b ≡ true
still_born r Nothing b e = e
still_born r Wrong b e = e
still_born r Title b e = e
still_born r (OfTask t) b e = e
still_born r (OfChunk c) b e = e
still_born r (OfObject o) b e = item_kept same_birth r.births (named o.birth) b e
still_born r (OfRemembered f) b e = e
still_born r (OfEnd n) b e = e

born_again : (w : Whole) (r : Read) (last : Bool) (s : ImageLine) (p : ImageObject) (b : ℕ × ℕ) → is_among same_birth r.births b ≡ true → cause_on w r last s ≡ None → s ≡ OfObject p → named p.birth ≡ b → ⊥
born_again w r last s p b among c says e =
    both_ways (is_among same_birth r.births b)
    (ap (λ x. is_among same_birth r.births x) (sym e) ∙ (well w r last p (ap (λ x. cause_on w r last x) (sym says) ∙ c)).fresh) among

born_once : (w : Whole) (r : Read) (n : ℕ) (ls : List (List ℕ)) (b : ℕ × ℕ) → is_among same_birth r.births b ≡ true → fault_from_line w r n ls ≡ None → (j : ℕ) (p : ImageObject) → LineSays ls j (OfObject p) → named p.birth ≡ b → ⊥
born_once w r n [] b among none j p says e = says
born_once w r n (l ∷ ls) b among none zero p says e = born_again w r (is_last ls) (line_meaning l) p b among (clear w r n l ls none).0 says e
born_once w r n (l ∷ ls) b among none (suc j) p says e = born_once w (after_line r (line_meaning l)) (n + 1) ls b (still_born r (line_meaning l) b among) (clear w r n l ls none).1 j p says e

now_born : (r : Read) (s : ImageLine) (o : ImageObject) → s ≡ OfObject o → is_among same_birth (after_line r s).births (named o.birth) ≡ true
now_born r s o e = ap (λ x. is_among same_birth (after_line r x).births (named o.birth)) e ∙ item_added same_birth r.births (named o.birth) (same_self (named o.birth))

distinct : (w : Whole) (r : Read) (n : ℕ) (ls : List (List ℕ)) → fault_from_line w r n ls ≡ None → HasDistinctBirths ls
distinct w r n [] none i j o p lt a b e = a
distinct w r n (l ∷ ls) none zero zero o p lt a b e = absurd (omega (arith, lt))
distinct w r n (l ∷ ls) none zero (suc j) o p lt a b e =
    born_once w (after_line r (line_meaning l)) (n + 1) ls (named o.birth) (now_born r (line_meaning l) o a) (clear w r n l ls none).1 j p b (ap named (sym e))
distinct w r n (l ∷ ls) none (suc i) zero o p lt a b e = absurd (omega (arith, lt))
distinct w r n (l ∷ ls) none (suc i) (suc j) o p lt a b e = distinct w (after_line r (line_meaning l)) (n + 1) ls (clear w r n l ls none).1 i j o p (omega (arith, lt)) a b e

-- ONE OF THE REFERENCES

none_of : (p : ℕ → Bool) (vs : List ℕ) (k v : ℕ) → list_any p vs ≡ false → ReferenceIs vs k v → p v ≡ false
none_of p [] k v e h = absurd h
none_of p (x ∷ xs) zero v e h = ap p (sym h) ∙ (or_parts (p x) (list_any p xs) e).0
none_of p (x ∷ xs) (suc k) v e h = none_of p xs k v (or_parts (p x) (list_any p xs) e).1 h

not_forgotten : (w : Whole) (r : Read) (t a m : ℕ) (vs : List ℕ) (k v : ℕ) → forgets w r t a m vs ≡ false → ReferenceIs vs k v → is_forgotten w r t a (m + k) (owner_at r.chunks v) ≡ false
not_forgotten w r t a m [] k v e h = absurd h
not_forgotten w r t a m (x ∷ xs) zero v e h =
    let z : m + 0 ≡ m = omega arith in
    ap (λ y. is_forgotten w r t a y (owner_at r.chunks v)) z
    ∙ ap (λ y. is_forgotten w r t a m (owner_at r.chunks y)) (sym h)
    ∙ (or_parts (is_forgotten w r t a m (owner_at r.chunks x)) (forgets w r t a (m + 1) xs) e).0
not_forgotten w r t a m (x ∷ xs) (suc k) v e h =
    let z : m + suc k ≡ (m + 1) + k = omega arith in
    ap (λ y. is_forgotten w r t a y (owner_at r.chunks v)) z
    ∙ not_forgotten w r t a (m + 1) xs k v (or_parts (is_forgotten w r t a m (owner_at r.chunks x)) (forgets w r t a (m + 1) xs) e).1 h

-- WHERE IT LEADS

runs_at : (r : Read) (v : ℕ) (m : Option ℕ) → owner_at r.chunks v ≡ m → owner_runs r m ≡ true → IsInRunning r v
runs_at r v None e h = absurd (cc)
runs_at r v (Some u) e h = (u, e, h)

module _ (ls : List (List ℕ)) (r : Read) where
  abbrev w : Whole
  w = with_lines nothing_had ls

  at_object : (v : ℕ) → ((has nothing_had.objects v ≡ true) ⊎ IsImageObjectAt ls v) → IsImageObjectAt ls v
  at_object v (inl e) = absurd (cc)
  at_object v (inr h) = h

  leads_by : (v : ℕ) → (((v == 0) ≡ true) ⊎ ((has w.objects v || owner_runs r (owner_at r.chunks v)) ≡ true)) → LeadsSomewhere ls r v
  leads_by v (inl e) = inl (eqb-true v 0 e)
  leads_by v (inr e) = leads_by_cases (or_cases (has w.objects v) (owner_runs r (owner_at r.chunks v)) e)
    where
      leads_by_cases : ((has w.objects v ≡ true) ⊎ (owner_runs r (owner_at r.chunks v) ≡ true)) → LeadsSomewhere ls r v
      leads_by_cases (inl h) = inr (inl (at_object v (object_from nothing_had ls v h)))
      leads_by_cases (inr h) = inr (inr (runs_at r v (owner_at r.chunks v) refl h))

  pub leads_on : (v : ℕ) → is_astray w r v ≡ false → LeadsSomewhere ls r v
  leads_on v e = leads_by v (or_cases (v == 0) (has w.objects v || owner_runs r (owner_at r.chunks v)) (not-false ((v == 0) || (has w.objects v || owner_runs r (owner_at r.chunks v))) e))

  noted_line : (u a k : ℕ) → ((is_among same_field [] (u, a, k) ≡ true) ⊎ IsRemembered ls u a k) → IsRemembered ls u a k
  noted_line u a k (inl e) = absurd (cc)
  noted_line u a k (inr h) = h

  keeps_by : (a k t u : ℕ) (same up down : Bool) → (u == t) ≡ same → is_ancestor_of r.tasks u t ≡ up → is_ancestor_of r.tasks t u ≡ down
      → is_apart (Some (cond same Own (cond up Above (cond down Below Apart)))) ≡ false
      → (is_below (Some (cond same Own (cond up Above (cond down Below Apart)))) && not (is_among same_field w.fields (u, a, k))) ≡ false
      → KeepsToPath ls r a k t u
  keeps_by a k t u true up down e f g c h = inl (eqb-true u t e)
  keeps_by a k t u false true down e f g c h = inr (inl (above r.tasks u t f))
  keeps_by a k t u false false true e f g c h = inr (inr (above r.tasks t u g, noted_line u a k (field_from nothing_had ls u a k (not-false (is_among same_field w.fields (u, a, k)) h))))
  keeps_by a k t u false false false e f g c h = absurd (cc)

  pub keeps_on : (a k t v u : ℕ) → owner_at r.chunks v ≡ Some u → crosses r t v ≡ false → is_forgotten w r t a k (owner_at r.chunks v) ≡ false → KeepsToPath ls r a k t u
  keeps_on a k t v u e c f =
      let d : is_apart (relation_to r.tasks t (Some u)) ≡ false = ap (λ m. is_apart (relation_to r.tasks t m)) (sym e) ∙ c in
      let g : is_forgotten w r t a k (Some u) ≡ false = ap (λ m. is_forgotten w r t a k m) (sym e) ∙ f in
      keeps_by a k t u (u == t) (is_ancestor_of r.tasks u t) (is_ancestor_of r.tasks t u) refl refl refl d g

  pub sound_before : (o : ImageObject) → IsWell w r o → IsSoundObject ls r o
  sound_before o h = record {
    owner = h.chunk.owner;
    owned = ap owner_in h.lies;
    leads = λ k v at. leads_on v (none_of (is_astray w r) o.references k v h.leads at);
    keeps = λ k v u at e. keeps_on o.address k h.chunk.owner v u e (none_of (crosses r h.chunk.owner) o.references k v h.stays at) (subst (λ y. is_forgotten w r h.chunk.owner o.address y (owner_at r.chunks v) ≡ false) (let z : 0 + k ≡ k = omega arith in z) (not_forgotten w r h.chunk.owner o.address 0 o.references k v h.keeps at));
  }

-- soundness depends only on the tasks and the chunks
abbrev with_tables : ImageTasks → Chunks → Read
with_tables tasks chunks = record nothing_read { tasks = tasks; chunks = chunks }

same_tables : (ls : List (List ℕ)) (o : ImageObject) (r s : Read) → s.tasks ≡ r.tasks → s.chunks ≡ r.chunks → IsSoundObject ls r o → IsSoundObject ls s o
same_tables ls o r s e f h = in_s
  where
    in_r : IsSoundObject ls (with_tables r.tasks r.chunks) o
    in_r = record { owner = h.owner; owned = h.owned; leads = h.leads; keeps = h.keeps }

    in_t : IsSoundObject ls (with_tables s.tasks s.chunks) o
    in_t = subst (λ c. IsSoundObject ls (with_tables s.tasks c) o) (sym f) (subst (λ t. IsSoundObject ls (with_tables t r.chunks) o) (sym e) in_r)

    in_s : IsSoundObject ls s o
    in_s = record { owner = in_t.owner; owned = in_t.owned; leads = in_t.leads; keeps = in_t.keeps }

pub faultless_is_sound : FaultlessIsSound
faultless_is_sound text faultless_text = (objects, distinct (whole_of text) nothing_read 1 (lines_of text) none)
  where
    none : lines_fault text ≡ None
    none = faultless text faultless_text

    objects : HasSoundObjects (lines_of text)
    objects i o says =
        let m = met (whole_of text) nothing_read 1 (lines_of text) i o none says in
        same_tables (lines_of text) o m.before (all_read (lines_of text)) m.tasks m.chunks (sound_before (lines_of text) m.before o m.is)
