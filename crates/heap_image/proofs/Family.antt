-- The tasks of a sound picture, as the verifier keeps them.
use Rattle.heap_image.proofs.Common.{◌≡◌, ◌<◌, ℕ, zero, suc, Bool, true, false, List, refl, ap, sym, ◌∙◌, inl, inr, arith, Option, Some, None, slice_get, is_some, In, got_in, in_got, map_got, got_map, ImageState, Running, Waiting, Ended, ImageTask, Own, Above, Below, found, has, ImageTasks, parent_of_row, image_parent, is_ancestor_of, relation_of, runs, is_running, is_running_state, LinksLead, IsProperAncestor, TaskStandsAt, AreOrdered, met_ancestor, related, ImageData, TaskBefore, HasImageParent, ParentsLead, IsAbove, HasTask, IsRunning, ImageKeepsToPath, IsSoundPicture}
use Rattle.heap_image.proofs.Splits.{comes_first, one_place, same_item}
use Rattle.heap_image.proofs.Tables.{table, found_in, found_from}

abbrev pub number_of : ImageTask → ℕ
number_of t = t.number

abbrev pub itself : ImageTask → ImageTask
itself t = t

abbrev pub task_table : List ImageTask → ImageTasks
task_table ts = table number_of itself ts

pub earlier : (t u : ImageTask) → TaskBefore t u → t.number < u.number
earlier t u h = h

module _ (p : ImageData) (s : IsSoundPicture p) where
  abbrev es : ImageTasks
  es = task_table p.tasks

  pub task_found : (t : ImageTask) → In p.tasks t → found es t.number ≡ Some t
  task_found t h = found_in number_of itself p.tasks t (λ u i e. same_item TaskBefore number_of earlier p.tasks s.tasks_rise u t i h e) h

  pub task_is_in_table : (t : ℕ) → HasTask p t → has es t ≡ true
  task_is_in_table t h = ap (has es) (sym h.2) ∙ ap is_some (task_found h.0 h.1)

  -- PATHS

  parent_stands : (i q : ℕ) (t k : ImageTask) → slice_get p.tasks i ≡ Some t → In p.tasks k → k.number ≡ q → q < t.number → (j : ℕ) × (j < i) × TaskStandsAt es j q
  parent_stands i q t k got there e lt =
      let j = in_got p.tasks k there in (
        j.0,
        comes_first TaskBefore number_of earlier p.tasks s.tasks_rise j.0 i k t j.1 got (let l : q < t.number = lt in omega (arith, l, e)),
        ((k.number, k), got_map (λ (x : ImageTask). (x.number, x)) p.tasks j.0 k j.1, e),
      )

  pub ordered : AreOrdered es
  ordered = record {
    apart = λ i j e f g h same.
        let x = map_got (λ (t : ImageTask). (t.number, t)) p.tasks i e g in
        let y = map_got (λ (t : ImageTask). (t.number, t)) p.tasks j f h in
        one_place TaskBefore number_of earlier p.tasks s.tasks_rise i j x.0 y.0 x.1 y.1
        (ap (λ (z : ℕ × ImageTask). z.0) x.2 ∙ same ∙ sym (ap (λ (z : ℕ × ImageTask). z.0) y.2));
    behind = λ i e q g h.
        let x = map_got (λ (t : ImageTask). (t.number, t)) p.tasks i e g in
        let up = s.parents x.0 q (got_in p.tasks i x.0 x.1) (ap (λ (z : ℕ × ImageTask). z.1.parent) x.2 ∙ h) in
        parent_stands i q x.0 up.0.0 x.1 up.0.1 up.0.2 up.1;
  }

  parent_found : (t q : ℕ) → HasImageParent p.tasks t q → image_parent es t ≡ Some q
  parent_found t q h = ap parent_of_row (ap (found es) (sym h.2) ∙ task_found h.0 h.1) ∙ h.3

  leads_up : (n t a : ℕ) → ParentsLead n p.tasks t a → LinksLead n es t a
  leads_up zero t a h = parent_found t a h
  leads_up (suc n) t a h = (h.0, parent_found t h.0 h.1, leads_up n h.0 a h.2)

  in_table : (a t : ℕ) → IsAbove p.tasks a t → IsProperAncestor es a t
  in_table a t h = (h.0, leads_up h.0 t a h.1)

  pub ancestor_met : (a t : ℕ) → IsAbove p.tasks a t → is_ancestor_of es a t ≡ true
  ancestor_met a t h = met_ancestor es ordered a t (in_table a t h)

  first_task : (n t a : ℕ) → ParentsLead n p.tasks t a → HasTask p t
  first_task zero t a h = (h.0, h.1, h.2)
  first_task (suc n) t a h = (h.1.0, h.1.1, h.1.2)

  -- whatever has an ancestor is a task of the picture
  pub has_ancestor : (a t : ℕ) → IsAbove p.tasks a t → HasTask p t
  has_ancestor a t h = first_task h.0 t a h.1

  -- how the owner of a field's target is related to the object's owner
  pub data Stands (a k t u : ℕ) : Type 0 where
    own : relation_of es t u ≡ Own → Stands a k t u
    up : relation_of es t u ≡ Above → Stands a k t u
    down : relation_of es t u ≡ Below → In p.fields (record { task = u; address = a; place = k }) → Stands a k t u

  pub stands : (a k t u : ℕ) → ImageKeepsToPath p a k t u → Stands a k t u
  stands a k t u (inl e) = own ((related es ordered t u).own.1 e)
  stands a k t u (inr (inl h)) = up ((related es ordered t u).above.1 (in_table u t h))
  stands a k t u (inr (inr h)) = down ((related es ordered t u).below.1 (in_table t u h.0)) h.1

  -- STATES

  state_runs : (t : ImageTask) → is_running_state t.state ≡ true → t.state ≡ Running
  state_runs t h = state_runs_by_cases t.state refl
    where
      state_runs_by_cases : (x : ImageState) → t.state ≡ x → t.state ≡ Running
      state_runs_by_cases Running e = e
      state_runs_by_cases Waiting e = absurd (let f : is_running_state Waiting ≡ true = ap is_running_state (sym e) ∙ h in cc)
      state_runs_by_cases Ended e = absurd (let f : is_running_state Ended ≡ true = ap is_running_state (sym e) ∙ h in cc)

  pub running : (t : ℕ) → IsRunning p t → is_running es t ≡ true
  running t h = ap runs (ap (found es) (sym h.2) ∙ task_found h.0 h.1) ∙ ap is_running_state h.3

  pub resting : (t : ℕ) → (IsRunning p t → ⊥) → is_running es t ≡ false
  resting t rests = resting_by_cases (found es t) refl
    where
      by_state : (k : ImageTask) (b : Bool) → found es t ≡ Some k → is_running_state k.state ≡ b → is_running es t ≡ false
      by_state k true e f = absurd (let r = found_from number_of itself p.tasks t k e in rests (r.0, r.1, r.2, (ap (λ (z : ImageTask). z.state) r.3 ∙ state_runs k f)))
      by_state k false e f = ap runs e ∙ f

      resting_by_cases : (m : Option ImageTask) → found es t ≡ m → is_running es t ≡ false
      resting_by_cases None e = ap runs e
      resting_by_cases (Some k) e = by_state k (is_running_state k.state) e refl
