-- What events add to what was told of tasks.
use Rattle.run_graph_laws.proofs.Common.{◌≡◌, ◌<◌, ◌≤◌, ℕ, true, false, List, [], ◌∷◌, ◌++◌, length, slice_get, ◌⊎◌, inl, inr, refl, ap, sym, subst, ◌∙◌, arith, append-nil, append_assoc, both_ways, In, in_append_cases, in_append_left, in_append_right, is_running, is_waiting, MachineState, Task, Event, IsUnended, EndsAreLast, HasEnded, EndIsTold}
use Rattle.run_turn_laws.specs.below.log_lines as acts

-- just those whose end is told have ended
abbrev pub AreOver : List Task → List Event → Type 0
AreOver tasks events = (e : Event) → In events e → e.act ≡ acts.Finish → HasEnded tasks e.strand.task

pub record AreTold (tasks : List Task) (events : List Event) : Type 0 where
  pub within : (e : Event) → In events e → e.strand.task < length tasks
  pub last : EndsAreLast [] events
  pub over : AreOver tasks events
  pub told : (t : ℕ) → t < length tasks → HasEnded tasks t → EndIsTold events t
  pub kept : (e : Event) → In events e → (block : ℕ) → e.act ≡ acts.Release block → ⊥

-- events that a step adds
pub record Adds (tasks after : List Task) (more : List Event) : Type 0 where
  pub grows : length tasks ≤ length after
  pub stays : (t : ℕ) → t < length tasks → HasEnded tasks t → HasEnded after t
  pub new : (t : ℕ) → t < length after → HasEnded after t → ((t < length tasks) × HasEnded tasks t) ⊎ EndIsTold more t
  pub within : (e : Event) → In more e → e.strand.task < length after
  pub over : AreOver after more
  pub kept : (e : Event) → In more e → (block : ℕ) → e.act ≡ acts.Release block → ⊥
  pub last : (before : List Event) → AreOver tasks before → EndsAreLast before more

last_both : (before xs ys : List Event) → EndsAreLast before xs → EndsAreLast (before ++ xs) ys → EndsAreLast before (xs ++ ys)
last_both before [] ys h k = subst (λ b. EndsAreLast b ys) (append-nil before) k
last_both before (x ∷ xs) ys h k = (h.0, last_both (before ++ x ∷ []) xs ys h.1 (subst (λ b. EndsAreLast b ys) (sym (append_assoc before (x ∷ []) xs)) k))

pub told_more : (tasks after : List Task) (events more : List Event) → AreTold tasks events → Adds tasks after more → AreTold after (events ++ more)
told_more tasks after events more A D = record {
  within = λ e i. elim (in_append_cases events more e i) [ inl old ↦ (let w = A.within e old in let g = D.grows in omega (arith, w, g)) | inr new ↦ D.within e new ];
  last = last_both [] events more A.last (D.last events A.over);
  over = λ e i f. elim (in_append_cases events more e i) [ inl old ↦ D.stays e.strand.task (A.within e old) (A.over e old f) | inr new ↦ D.over e new f ];
  told = λ t lt h. elim (D.new t lt h) [
    | inl old ↦ let f = A.told t old.0 old.1 in (f.0, in_append_left events more f.0 f.1, f.2, f.3)
    | inr new ↦ (new.0, in_append_right events more new.0 new.1, new.2, new.3)
  ];
  kept = λ e i. elim (in_append_cases events more e i) [ inl old ↦ A.kept e old | inr new ↦ D.kept e new ];
}

-- who runs or waits hasn't ended
pub runs_unended : (tasks : List Task) (t : ℕ) (before : List Event) → is_running (slice_get tasks t) ≡ true → AreOver tasks before → IsUnended before t
runs_unended tasks t before run over d i e f = both_ways (is_running (slice_get tasks t)) (subst (HasEnded tasks) e (over d i f)).0 run

pub waits_unended : (tasks : List Task) (t : ℕ) (before : List Event) → is_waiting (slice_get tasks t) ≡ true → AreOver tasks before → IsUnended before t
waits_unended tasks t before wait over d i e f = both_ways (is_waiting (slice_get tasks t)) (subst (HasEnded tasks) e (over d i f)).1 wait

pub unended_more : (before : List Event) (e : Event) (t : ℕ) → IsUnended before t → (e.strand.task ≡ t → e.act ≡ acts.Finish → ⊥) → IsUnended (before ++ e ∷ []) t
unended_more before e t h new d i at f = elim (in_append_cases before (e ∷ []) d i) [
  | inl old ↦ h d old at f
  | inr (inl same) ↦ new (ap (λ (x : Event). x.strand.task) same ∙ at) (ap (λ (x : Event). x.act) same ∙ f)
  | inr (inr none) ↦ absurd none
]
