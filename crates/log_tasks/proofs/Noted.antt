-- A task of which a strand did something is there.
use Rattle.log_tasks.proofs.Common.{◌≡◌, ◌==◌, ◌∙◌, ◌||◌, ◌<◌, ℕ, Bool, true, false, List, [], ◌∷◌, length, get_or, refl, sym, ap, subst, arith, nat_tests, In, any_from_in, Option, list_any, is_some, Event, spawns, Told, greater, number_if, top_of, top_told, task_told, tells, is_task, KnowsEvents, NotesTasks, or-false, or-true}
use Rattle.log_tasks.proofs.Ascending.{at_in}
use Rattle.log_tasks.proofs.Puts.{number_same}

-- the first event is the task's, or a later one is
told_by : (own : Bool) (i : ℕ) (spawned : Bool) (top : Option ℕ) (later : Bool) → (is_some top ≡ true → later ≡ true) → is_some (greater (number_if own i) top) ≡ true → ((own || spawned) || later) ≡ true
told_by true i spawned top later h e = refl
told_by false i spawned top later h e = ap (λ (b : Bool). spawned || b) (h e) ∙ or-true spawned

some_told : (events : List Event) (t : ℕ) → is_some (top_of events t) ≡ true → list_any (tells t) events ≡ true
some_told [] t e = absurd (let z : false ≡ true = e in cc)
some_told (e ∷ rest) t some = told_by (e.strand.task == t) e.strand.index (spawns t e.act) (top_of rest t) (list_any (tells t) rest) (some_told rest t) some

some_task : (events : List Event) (t : ℕ) → is_some (top_of events t) ≡ true → is_task events t ≡ true
some_task events t some = ap (λ (b : Bool). (t == 0) || b) (some_told events t some) ∙ or-true (t == 0)

module _ (told : Told) (task : ℕ) (there : task_told told task ≡ true) where
  noted_by : (t : ℕ) (same : Bool) → (task == t) ≡ same → task_told told t ≡ (task_told told t || same)
  noted_by t false e = sym (or-false (task_told told t))
  noted_by t true e =
      let is : task_told told t ≡ true = subst (λ (n : ℕ). task_told told n ≡ true) (number_same task t e) there in
      is ∙ sym (or-true (task_told told t))

  -- it needn't be noted
  pub noted_there : (t : ℕ) → task_told told t ≡ (task_told told t || (task == t))
  noted_there t = noted_by t (task == t) refl

-- one that stands at its own place
pub noted_at : (told : Told) (task : ℕ) → task < length told.tasks → get_or told.tasks task 0 ≡ task → (t : ℕ) → task_told told t ≡ (task_told told t || (task == t))
noted_at told task lt e =
    noted_there told task
    (any_from_in (λ (m : ℕ). m == task) told.tasks task (subst (λ (n : ℕ). In told.tasks n) e (at_in told.tasks task lt)) (grind (arith, nat_tests)))

pub notes_tasks : (told : Told) (events : List Event) → KnowsEvents told events → NotesTasks told
notes_tasks told events knows task some = knows.tasks task ∙ some_task events task (ap is_some (sym (knows.tops task)) ∙ some)

-- others came in
pub notes_more : (old new : Told) (more : ℕ → Bool) → new.tops ≡ old.tops → ((t : ℕ) → task_told new t ≡ (task_told old t || more t)) → NotesTasks old → NotesTasks new
notes_more old new more tops tasks notes t some =
    let before : is_some (top_told old t) ≡ true = ap is_some (same_tops new old tops t) ∙ some in
    tasks t ∙ ap (λ (b : Bool). b || more t) (notes t before)
  where
    same_tops : (one other : Told) → one.tops ≡ other.tops → (t : ℕ) → top_told other t ≡ top_told one t
    same_tops one other e t = rw e refl
