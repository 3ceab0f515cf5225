-- Ancestors among tasks that each stand after their parents.
use Rattle.image_check.proofs.Common.{◌≡◌, ◌<◌, ◌≤◌, ◌+◌, ℕ, zero, suc, Bool, true, false, cond, [], ◌∷◌, ◌++◌, length, refl, ap, sym, ◌∙◌, arith, inl, inr, ◌⊎◌, subst, length-append, Option, Some, None, ◌==◌, slice_get, nat_eq, is_some, eqb-true, or_cases, or_left, or_right, same_Some, got_front, got_back, got_within, below_next, ImageTask, Own, Above, Below, Apart, found, has, ImageTasks, image_parent, there_or_on, meets, is_ancestor_of, LinksLead, IsProperAncestor, IsRelated, TaskStandsAt, parent_of_row}
use Rattle.image_check.proofs.Entries.{itself}

abbrev pub Entry : Type 0
Entry = ℕ × ImageTask

-- no number occurs twice
abbrev pub AreApart : ImageTasks → Type 0
AreApart es = (i j : ℕ) (e f : Entry) → slice_get es i ≡ Some e → slice_get es j ≡ Some f → e.0 ≡ f.0 → i ≡ j

-- each task stands once, after its parent
pub record AreOrdered (es : ImageTasks) : Type 0 where
  pub apart : AreApart es
  pub behind : (i : ℕ) (e : Entry) (p : ℕ) → slice_get es i ≡ Some e → e.1.parent ≡ Some p → (j : ℕ) × (j < i) × TaskStandsAt es j p

-- LOOKING UP

pub record IsPlaced (es : ImageTasks) (t : ℕ) (x : ImageTask) : Type 0 where
  pub place : ℕ
  pub entry : Entry
  pub got : slice_get es place ≡ Some entry
  pub number : entry.0 ≡ t
  pub task : entry.1 ≡ x

pub placed : (es : ImageTasks) (t : ℕ) (x : ImageTask) → found es t ≡ Some x → IsPlaced es t x
placed [] t x h = absurd cc
placed (e ∷ es) t x h = placed_by_cases (nat_eq t e.0) refl h (placed es t x)
  where
    placed_by_cases : (b : Bool) → nat_eq t e.0 ≡ b → (if_found : found (e ∷ es) t ≡ Some x) → (found es t ≡ Some x → IsPlaced es t x) → IsPlaced (e ∷ es) t x
    placed_by_cases true is g again = record { place = 0; entry = e; got = refl; number = sym (eqb-true t e.0 is); task = same_Some e.1 x (rw is at g) }
    placed_by_cases false is g again = let p = again (rw is at g) in record { place = suc p.place; entry = p.entry; got = p.got; number = p.number; task = p.task }

pub task_is_found : (es : ImageTasks) (i : ℕ) (e : Entry) → slice_get es i ≡ Some e → (x : ImageTask) × (found es e.0 ≡ Some x)
task_is_found [] i e h = absurd cc
task_is_found (f ∷ es) zero e h = let s : f ≡ e = same_Some f e h in task_is_found_by_cases (nat_eq e.0 f.0) refl
  where
    task_is_found_by_cases : (b : Bool) → nat_eq e.0 f.0 ≡ b → (x : ImageTask) × (found (f ∷ es) e.0 ≡ Some x)
    task_is_found_by_cases true is = (f.1, rw is refl)
    task_is_found_by_cases false is = absurd (let s : f ≡ e = same_Some f e h in let g : nat_eq e.0 f.0 ≡ true = rw s (itself e.0) in cc)
task_is_found (f ∷ es) (suc i) e h = task_is_found_by_cases (nat_eq e.0 f.0) refl (task_is_found es i e h)
  where
    task_is_found_by_cases : (b : Bool) → nat_eq e.0 f.0 ≡ b → ((x : ImageTask) × (found es e.0 ≡ Some x)) → (x : ImageTask) × (found (f ∷ es) e.0 ≡ Some x)
    task_is_found_by_cases true is r = (f.1, rw is refl)
    task_is_found_by_cases false is r = (r.0, rw is r.1)

module _ (es : ImageTasks) (o : AreOrdered es) where
  -- the task at a place is the one that a lookup finds
  pub found_at : (i : ℕ) (e : Entry) → slice_get es i ≡ Some e → found es e.0 ≡ Some e.1
  found_at i e h =
      let x = task_is_found es i e h in
      let p = placed es e.0 x.0 x.1 in
      let same : p.place ≡ i = o.apart p.place i p.entry e p.got h p.number in
      let entry : p.entry ≡ e = same_Some p.entry e (sym p.got ∙ ap (slice_get es) same ∙ h) in
      x.1 ∙ ap Some (sym p.task ∙ ap (λ (f : Entry). f.1) entry)

  parent_at : (i : ℕ) (t a : ℕ) → TaskStandsAt es i t → image_parent es t ≡ Some a → (j : ℕ) × (j < i) × TaskStandsAt es j a
  parent_at i t a s h = o.behind i s.0 a s.1 (sym (ap parent_of_row (ap (found es) (sym s.2) ∙ found_at i s.0 s.1)) ∙ h)

  -- links lead to earlier places
  pub lead_up : (n t a i : ℕ) → TaskStandsAt es i t → LinksLead n es t a → (j : ℕ) × (suc n + j ≤ i) × TaskStandsAt es j a
  lead_up zero t a i s h = let p = parent_at i t a s h in (p.0, (let l : p.0 < i = p.1 in omega (arith, l)), p.2)
  lead_up (suc n) t a i s h =
      let p = parent_at i t h.0 s h.1 in
      let r = lead_up n h.0 a p.0 p.2 h.2 in
      (r.0, (let l : p.0 < i = p.1 in let m : suc n + r.0 ≤ p.0 = r.1 in omega (arith, l, m)), r.2)

  child_stands : (t a : ℕ) (m : Option ImageTask) → found es t ≡ m → parent_of_row m ≡ Some a → (i : ℕ) × TaskStandsAt es i t
  child_stands t a None e h = absurd cc
  child_stands t a (Some x) e h = let p = placed es t x e in (p.place, (p.entry, p.got, p.number))

  pub first_link : (n t a : ℕ) → LinksLead n es t a → (i : ℕ) × TaskStandsAt es i t
  first_link zero t a h = child_stands t a (found es t) refl h
  first_link (suc n) t a h = child_stands t h.0 (found es t) refl h.1

  within : (n t a : ℕ) → LinksLead n es t a → n < length es
  within n t a h =
      let i = first_link n t a h in
      let r = lead_up n t a i.0 i.1 h in
      let l : suc n + r.0 ≤ i.0 = r.1 in
      let w : i.0 < length es = got_within es i.0 i.1.0 i.1.1 in
      omega (arith, l, w)

  met : (m n t a : ℕ) → n < m → LinksLead n es t a → meets m es a t ≡ true
  met zero n t a lt h = absurd (omega (arith, lt))
  met (suc m) zero t a lt h = ap (there_or_on a (meets m es a)) h ∙ or_left (a == a) (meets m es a a) (let e : (a == a) ≡ true = grind arith in e)
  met (suc m) (suc n) t a lt h = ap (there_or_on a (meets m es a)) h.1 ∙ or_right (h.0 == a) (meets m es a h.0) (met m n h.0 a (omega (arith, lt)) h.2)

  -- an ancestor is met
  pub met_ancestor : (a t : ℕ) → IsProperAncestor es a t → is_ancestor_of es a t ≡ true
  met_ancestor a t h = met (length es) h.0 t a (within h.0 t a h.1) h.1

  -- no ancestor of a task is its descendant
  never : (fuel i t a : ℕ) → i < fuel → TaskStandsAt es i t → IsProperAncestor es a t → IsProperAncestor es t a → ⊥
  never zero i t a lt s up down = omega (arith, lt)
  never (suc fuel) i t a lt s up down =
      let r = lead_up up.0 t a i s up.1 in
      never fuel r.0 a t (let l : suc up.0 + r.0 ≤ i = r.1 in omega (arith, l, lt)) r.2 down up

  pub never_both : (a t : ℕ) → IsProperAncestor es a t → IsProperAncestor es t a → ⊥
  never_both a t up down = let i = first_link up.0 t a up.1 in never (suc i.0) i.0 t a (omega arith) i.1 up down

-- ONE MORE TASK

module _ (es : ImageTasks) (n : ℕ) (t : ImageTask) where
  abbrev pub task_more : ImageTasks
  task_more = es ++ (n, t) ∷ []

  pub same_entry : (i : ℕ) → i < length es → slice_get task_more i ≡ slice_get es i
  same_entry i lt = got_front es ((n, t) ∷ []) i lt

  last_entry : slice_get task_more (length es) ≡ Some (n, t)
  last_entry = ap (slice_get task_more) (let e : length es ≡ length es + 0 = omega arith in e) ∙ got_back es ((n, t) ∷ []) 0

  -- an entry is one of those before, or the last one
  pub data Where (i : ℕ) (e : Entry) : Type 0 where
    front : i < length es → slice_get es i ≡ Some e → Where i e
    last : i ≡ length es → (n, t) ≡ e → Where i e

  where_by : (i : ℕ) (e : Entry) → slice_get task_more i ≡ Some e → (i < length es) ⊎ (i ≡ length es) → Where i e
  where_by i e got (inl lt) = front lt (sym (same_entry i lt) ∙ got)
  where_by i e got (inr at_end) = last at_end (let f : Some (n, t) ≡ Some e = sym last_entry ∙ ap (slice_get task_more) (sym at_end) ∙ got in cc)

  pub where_is : (i : ℕ) (e : Entry) → slice_get task_more i ≡ Some e → Where i e
  where_is i e got = where_by i e got (let w : i < length task_more = got_within task_more i e got in let s : length task_more ≡ length es + 1 = length-append es ((n, t) ∷ []) in below_next i (length es) (omega (arith, w, s)))

  not_new : has es n ≡ false → (i : ℕ) (e : Entry) → slice_get es i ≡ Some e → e.0 ≡ n → ⊥
  not_new new i e got same = let x = task_is_found es i e got in let f : has es n ≡ true = ap (has es) (sym same) ∙ ap is_some x.1 in cc

  apart_by : AreApart es → has es n ≡ false → (i j : ℕ) (e f : Entry) → Where i e → Where j f → e.0 ≡ f.0 → i ≡ j
  apart_by apart new i j e f (front lt g) (front mt h) same = apart i j e f g h same
  apart_by apart new i j e f (front lt g) (last at_end h) same = absurd (not_new new i e g (same ∙ ap (λ (x : Entry). x.0) (sym h)))
  apart_by apart new i j e f (last at_end g) (front mt h) same = absurd (not_new new j f h (sym same ∙ ap (λ (x : Entry). x.0) (sym g)))
  apart_by apart new i j e f (last p g) (last q h) same = p ∙ sym q

  pub apart_more : AreApart es → has es n ≡ false → AreApart task_more
  apart_more apart new i j e f g h = apart_by apart new i j e f (where_is i e g) (where_is j f h)

  pub still_stands : (j p : ℕ) → TaskStandsAt es j p → TaskStandsAt task_more j p
  still_stands j p s = (s.0, same_entry j (got_within es j s.0 s.1) ∙ s.1, s.2)

  behind_by : AreOrdered es → (i : ℕ) (e : Entry) (p : ℕ) → Where i e → e.1.parent ≡ Some p → ((q : ℕ) → t.parent ≡ Some q → has es q ≡ true) → (j : ℕ) × (j < i) × TaskStandsAt task_more j p
  behind_by o i e p (front lt g) h parent = let r = o.behind i e p g h in (r.0, r.1, still_stands r.0 p r.2)
  behind_by o i e p (last at_end g) h parent = behind_by_cases (found es p) refl
    where
      behind_by_cases : (m : Option ImageTask) → found es p ≡ m → (j : ℕ) × (j < i) × TaskStandsAt task_more j p
      behind_by_cases None none = absurd (let f = parent p (ap (λ (x : Entry). x.1.parent) g ∙ h) in let q : has es p ≡ false = ap is_some none in cc)
      behind_by_cases (Some x) some =
          let r = placed es p x some in
          let w : r.place < length es = got_within es r.place r.entry r.got in
          (r.place, omega (arith, w, at_end), still_stands r.place p (r.entry, r.got, r.number))

  pub ordered_more : AreOrdered es → has es n ≡ false → ((q : ℕ) → t.parent ≡ Some q → has es q ≡ true) → AreOrdered task_more
  ordered_more o new parent = record { apart = apart_more o.apart new; behind = λ i e p g h. behind_by o i e p (where_is i e g) h parent }

-- WHAT IS MET IS AN ANCESTOR

one_more : (n : ℕ) (tasks : ImageTasks) (a t : ℕ) (m : Option ℕ) → image_parent tasks t ≡ m → ((p : ℕ) → meets n tasks a p ≡ true → IsProperAncestor tasks a p) → there_or_on a (meets n tasks a) m ≡ true → IsProperAncestor tasks a t
one_more n tasks a t None e again h = absurd (cc)
one_more n tasks a t (Some p) e again h = one_more_by_cases (or_cases (p == a) (meets n tasks a p) h)
  where
    one_more_by_cases : (((p == a) ≡ true) ⊎ (meets n tasks a p ≡ true)) → IsProperAncestor tasks a t
    one_more_by_cases (inl g) = (0, e ∙ ap Some (eqb-true p a g))
    one_more_by_cases (inr g) = let up = again p g in (suc up.0, (p, e, up.1))

met_above : (n : ℕ) (tasks : ImageTasks) (a t : ℕ) → meets n tasks a t ≡ true → IsProperAncestor tasks a t
met_above zero tasks a t h = absurd (cc)
met_above (suc n) tasks a t h = one_more n tasks a t (image_parent tasks t) refl (λ p g. met_above n tasks a p g) h

pub above : (tasks : ImageTasks) (a t : ℕ) → is_ancestor_of tasks a t ≡ true → IsProperAncestor tasks a t
above tasks a t h = met_above (length tasks) tasks a t h

-- HOW TASKS STAND TO EACH OTHER

module _ (es : ImageTasks) (o : AreOrdered es) (t u : ℕ) where
  own_by : (same up down : Bool) → (u == t) ≡ same → (cond same Own (cond up Above (cond down Below Apart)) ≡ Own) → u ≡ t
  own_by true up down e h = eqb-true u t e
  own_by false true down e h = absurd cc
  own_by false false true e h = absurd cc
  own_by false false false e h = absurd cc

  above_by : (same up down : Bool) → is_ancestor_of es u t ≡ up → (cond same Own (cond up Above (cond down Below Apart)) ≡ Above) → IsProperAncestor es u t
  above_by true up down e h = absurd cc
  above_by false true down e h = above es u t e
  above_by false false true e h = absurd cc
  above_by false false false e h = absurd cc

  below_by : (same up down : Bool) → is_ancestor_of es t u ≡ down → (cond same Own (cond up Above (cond down Below Apart)) ≡ Below) → IsProperAncestor es t u
  below_by true up down e h = absurd cc
  below_by false true down e h = absurd cc
  below_by false false true e h = above es t u e
  below_by false false false e h = absurd cc

  not_own : (b : Bool) → (u == t) ≡ b → (u ≡ t → ⊥) → (u == t) ≡ false
  not_own true e ne = absurd (ne (eqb-true u t e))
  not_own false e ne = e

  not_met : (b : Bool) → is_ancestor_of es u t ≡ b → (IsProperAncestor es u t → ⊥) → is_ancestor_of es u t ≡ false
  not_met true e never = absurd (never (above es u t e))
  not_met false e never = e

  no_loop : (a b : ℕ) → IsProperAncestor es a b → a ≡ b → ⊥
  no_loop a b h e = never_both es o a b h (subst (λ x. IsProperAncestor es b x) (sym e) (subst (λ x. IsProperAncestor es x b) e h))

  pub related : IsRelated es t u
  related = record {
    own = (own_by (u == t) (is_ancestor_of es u t) (is_ancestor_of es t u) refl, λ e. let h : (u == t) ≡ true = (let g : (t == t) ≡ true = grind arith in ap (λ x. x == t) e ∙ g) in rw h refl);
    above = (
      above_by (u == t) (is_ancestor_of es u t) (is_ancestor_of es t u) refl,
      λ h. let e : (u == t) ≡ false = not_own (u == t) refl (no_loop u t h) in rw (e, met_ancestor es o u t h) refl,
    );
    below = (
      below_by (u == t) (is_ancestor_of es u t) (is_ancestor_of es t u) refl,
      λ h. let e : (u == t) ≡ false = not_own (u == t) refl (λ f. no_loop t u h (sym f)) in
          let f : is_ancestor_of es u t ≡ false = not_met (is_ancestor_of es u t) refl (λ g. never_both es o t u h g) in
          rw (e, f, met_ancestor es o t u h) refl,
    );
  }
