-- What is known after a piece more.
use Rattle.log_tasks.proofs.Common.{◌≡◌, ◌==◌, ◌++◌, ◌∙◌, ℕ, Bool, true, false, List, refl, sym, ap, Option, Result, Ok, Err, ◌||◌, ◌&&◌, OnOk, if◌then◌else◌, AllocError, list_any, Act, GraphStrand, Event, spawns, is_that, on_strand, StrandEnd, Told, first_end, KnowsEvents, is_told, greater, index_if, end_told, top_told, task_told, end_after}
use Rattle.log_tasks.specs.Ends.{or_later}
use Rattle.log_tasks.proofs.Acts.{end_more, top_more, task_more}

-- a strand acted further
pub record Grew (old new : Told) (u : GraphStrand) (acts : List Act) : Type 0 where
  pub ends : (t i : ℕ) → end_told new t i ≡ end_after old u (first_end acts) t i
  pub tops : (t : ℕ) → top_told new t ≡ greater (top_told old t) (index_if (is_told acts) u t)
  pub tasks : (t : ℕ) → task_told new t ≡ ((task_told old t || (is_told acts && (u.task == t))) || list_any (spawns t) acts)

pub known_more : (old new : Told) (u : GraphStrand) (acts : List Act) (events : List Event) → Grew old new u acts → KnowsEvents old events → KnowsEvents new (events ++ on_strand u acts)
known_more old new u acts events g k = record {
  ends = λ t i.
      g.ends t i
      ∙ ap (λ (o : Option StrandEnd). if is_that u t i then or_later o (first_end acts) else o) (k.ends t i)
      ∙ sym (end_more events u acts t i);
  tops = λ t. g.tops t ∙ ap (λ (o : Option ℕ). greater o (index_if (is_told acts) u t)) (k.tops t) ∙ sym (top_more events u acts t);
  tasks = λ t. g.tasks t ∙ ap (λ (b : Bool). (b || (is_told acts && (u.task == t))) || list_any (spawns t) acts) (k.tasks t) ∙ sym (task_more events u acts t);
}

same_ends : (one other : Told) → one.ends ≡ other.ends → (t i : ℕ) → end_told one t i ≡ end_told other t i
same_ends one other e t i = rw e refl

same_tops : (one other : Told) → one.tops ≡ other.tops → (t : ℕ) → top_told one t ≡ top_told other t
same_tops one other e t = rw e refl

or_swap : (a b c : Bool) → ((a || b) || c) ≡ ((a || c) || b)
or_swap true b c = refl
or_swap false true true = refl
or_swap false true false = refl
or_swap false false true = refl
or_swap false false false = refl

-- the lines of a piece were taken, and its strand was noted
pub piece_taken : (r : Result (Unit {0}) AllocError) (old mid new : Told) (u : GraphStrand) (acts : List Act) (told : Bool) → told ≡ is_told acts
    → ((t i : ℕ) → end_told mid t i ≡ end_after old u (first_end acts) t i) → ((t : ℕ) → task_told mid t ≡ (task_told old t || list_any (spawns t) acts)) → mid.tops ≡ old.tops
    → OnOk r ((t : ℕ) → top_told new t ≡ greater (top_told mid t) (index_if told u t)) → OnOk r ((t : ℕ) → task_told new t ≡ (task_told mid t || (told && (u.task == t)))) → new.ends ≡ mid.ends
    → OnOk r ((events : List Event) → KnowsEvents old events → KnowsEvents new (events ++ on_strand u acts))
piece_taken (Ok x) old mid new u acts told is ends tasks tops new_tops new_tasks new_ends = λ events k.
    known_more old new u acts events
    (record {
      ends = λ t i. same_ends new mid new_ends t i ∙ ends t i;
      tops = λ t. new_tops t ∙ ap (λ (b : Bool). greater (top_told mid t) (index_if b u t)) is ∙ ap (λ (o : Option ℕ). greater o (index_if (is_told acts) u t)) (same_tops mid old tops t);
      tasks = λ t.
          new_tasks t ∙ ap (λ (b : Bool). task_told mid t || (b && (u.task == t))) is
          ∙ ap (λ (b : Bool). b || (is_told acts && (u.task == t))) (tasks t)
          ∙ or_swap (task_told old t) (list_any (spawns t) acts) (is_told acts && (u.task == t));
    })
    k
piece_taken (Err e) old mid new u acts told is ends tasks tops new_tops new_tasks new_ends = tt
