-- A run with two compare and swaps on one field: the law of one winner isn't vacuous.
use Rattle.model_laws.proofs.Common.{◌≡◌, ℕ, zero, suc, pos, ◌≤◌, Bool, true, false, Option, Some, None, List, [], ◌∷◌, slice_get, refl, ap, sym, ◌∙◌, arith, false≢true, Instr, Set, Newm, Pack, Cas, Par, Putr, Ret, Line, ProgramText, fun, Name, Object, MachineState, Task, object_at, ref_in, fetched, root, strand, IsNext, FieldPlace, IsCas, IsPutr, IsTurn, IsUntried, OnlyFromNil, SomeCasWins, Yields, after}

-- the root makes an object of one reference field, and forks; each child makes an object, and tries to set the field
-- to it
p : ProgramText
p = record { functions = fun (Set 0 (pos 1) ∷ Newm 0 0 1 ∷ Par 1 1 ∷ Ret ∷ []) ∷ fun (Pack 1 0 0 ∷ Cas 2 0 1 2 1 ∷ Ret ∷ []) ∷ []; main = 0 }

ts : List ℕ
ts = 0 ∷ 0 ∷ 0 ∷ 1 ∷ 1 ∷ 2 ∷ 2 ∷ []

field : FieldPlace
field = record { object = record { task = 0; count = 0 }; index = 0 }

-- WHAT A STEP DOES: its task and its line

abbrev with_line : Task → Option Line → Option (Task × Line)
with_line x None = None
with_line x (Some line) = Some (x, line)

abbrev of_task : ProgramText → Option Task → Option (Task × Line)
of_task q None = None
of_task q (Some x) = with_line x (fetched q x.top)

abbrev of_turn : ProgramText → MachineState → Option ℕ → Option (Task × Line)
of_turn q m None = None
of_turn q m (Some t) = of_task q (slice_get m.tasks t)

-- the task and the line of the step after the first i
at_step : ℕ → Option (Task × Line)
at_step i = of_turn p (after p 1022 ts i) (slice_get ts i)

step_is : (i t : ℕ) (x : Task) (line : Line) → IsTurn p 1022 ts i t → IsNext p (after p 1022 ts i) t x line → at_step i ≡ Some (x, line)
unfolding at_step
step_is i t x line turn next = ap (of_turn p (after p 1022 ts i)) turn.task ∙ (ap (of_task p) next.task ∙ ap (with_line x) next.fetched)

-- WHAT IT IS: whether a putr or a cas, what a cas expects, and what it stores

abbrev is_putr : Instr → Bool
is_putr (Putr o k v) = true
is_putr _ = false

abbrev is_cas : Instr → Bool
is_cas (Cas d o k e v) = true
is_cas _ = false

abbrev expected : Task → Instr → Option Name
expected x (Cas d o k e v) = ref_in x.top e
expected x _ = None

abbrev brought : Task → Instr → Option Name
brought x (Cas d o k e v) = ref_in x.top v
brought x _ = Some (record { task = 0; count = 0 })

abbrev putr_at : Option (Task × Line) → Bool
putr_at None = false
putr_at (Some s) = is_putr s.1.instr

abbrev cas_at : Option (Task × Line) → Bool
cas_at None = false
cas_at (Some s) = is_cas s.1.instr

abbrev expected_at : Option (Task × Line) → Option Name
expected_at None = None
expected_at (Some s) = expected s.0 s.1.instr

abbrev brought_at : Option (Task × Line) → Option Name
brought_at None = Some (record { task = 0; count = 0 })
brought_at (Some s) = brought s.0 s.1.instr

-- EACH STEP IN TURN

no_putr_at : (i : ℕ) → putr_at (at_step i) ≡ false
unfolding at_step p ts
no_putr_at zero = refl
no_putr_at (suc zero) = refl
no_putr_at (suc (suc zero)) = refl
no_putr_at (suc (suc (suc zero))) = refl
no_putr_at (suc (suc (suc (suc zero)))) = refl
no_putr_at (suc (suc (suc (suc (suc zero))))) = refl
no_putr_at (suc (suc (suc (suc (suc (suc zero)))))) = refl
no_putr_at (suc (suc (suc (suc (suc (suc (suc i))))))) = refl

expects_nil : (i : ℕ) → expected_at (at_step i) ≡ None
unfolding at_step p ts
expects_nil zero = refl
expects_nil (suc zero) = refl
expects_nil (suc (suc zero)) = refl
expects_nil (suc (suc (suc zero))) = refl
expects_nil (suc (suc (suc (suc zero)))) = refl
expects_nil (suc (suc (suc (suc (suc zero))))) = refl
expects_nil (suc (suc (suc (suc (suc (suc zero)))))) = refl
expects_nil (suc (suc (suc (suc (suc (suc (suc i))))))) = refl

brings_some : (i : ℕ) → (n : Name) × (brought_at (at_step i) ≡ Some n)
unfolding at_step p ts
brings_some zero = (record { task = 0; count = 0 }, refl)
brings_some (suc zero) = (record { task = 0; count = 0 }, refl)
brings_some (suc (suc zero)) = (record { task = 0; count = 0 }, refl)
brings_some (suc (suc (suc zero))) = (record { task = 0; count = 0 }, refl)
brings_some (suc (suc (suc (suc zero)))) = (record { task = 1; count = 0 }, refl)
brings_some (suc (suc (suc (suc (suc zero))))) = (record { task = 0; count = 0 }, refl)
brings_some (suc (suc (suc (suc (suc (suc zero)))))) = (record { task = 2; count = 0 }, refl)
brings_some (suc (suc (suc (suc (suc (suc (suc i))))))) = (record { task = 0; count = 0 }, refl)

untried_at : (i : ℕ) → cas_at (at_step i) ≡ true → 4 ≤ i
unfolding at_step p ts
untried_at zero h = absurd (false≢true h)
untried_at (suc zero) h = absurd (false≢true h)
untried_at (suc (suc zero)) h = absurd (false≢true h)
untried_at (suc (suc (suc zero))) h = absurd (false≢true h)
untried_at (suc (suc (suc (suc i)))) h = omega arith

-- THE FIELD

no_putr : (i : ℕ) → IsPutr p 1022 ts field i → ⊥
no_putr i w = false≢true (sym (no_putr_at i) ∙ (ap putr_at (step_is i w.t w.task w.line w.turn w.next) ∙ ap is_putr w.instr))

cas_is : (i : ℕ) (c : IsCas p 1022 ts field i) → at_step i ≡ Some (c.task, c.line)
cas_is i c = step_is i c.t c.task c.line c.turn c.next

only_from_nil : OnlyFromNil p 1022 ts field
only_from_nil = record {
  no_putr = no_putr;
  from_nil = λ i c. ap (expected c.task) (sym c.instr) ∙ (ap expected_at (sym (cas_is i c)) ∙ expects_nil i);
  to_object = λ i c. let b = brings_some i in (b.0, ap (brought c.task) (sym c.instr) ∙ (ap brought_at (sym (cas_is i c)) ∙ b.1));
}

untried : IsUntried p 1022 ts field 4
untried j c = untried_at j (ap cas_at (cas_is j c) ∙ ap is_cas c.instr)

-- THE TWO

abbrev or_root : Option Task → Task
or_root None = root p
or_root (Some x) = x

abbrev or_empty : Option Object → Object
or_empty None = record { strand = strand 0 0; mutable = true; refs = []; ints = [] }
or_empty (Some o) = o

task_at : ℕ → ℕ → Task
task_at i t = or_root (slice_get (after p 1022 ts i).tasks t)

field_at : ℕ → Object
field_at i = or_empty (object_at (after p 1022 ts i).store (record { task = 0; count = 0 }))

abbrev first : IsCas p 1022 ts field 4
unfolding p ts field task_at field_at
first = record {
  t = 1;
  task = task_at 4 1;
  line = record { instr = Cas 2 0 1 2 1; number = 1 };
  target = 2;
  object = 0;
  index = 1;
  expected = 2;
  value = 1;
  turn = record { task = refl; can = refl };
  next = record { task = refl; fetched = refl };
  instr = refl;
  writes = record { name = refl; index = refl; object = field_at 4; is = refl; within = omega arith; mutable = refl };
}

abbrev second : IsCas p 1022 ts field 6
unfolding p ts field task_at field_at
second = record {
  t = 2;
  task = task_at 6 2;
  line = record { instr = Cas 2 0 1 2 1; number = 1 };
  target = 2;
  object = 0;
  index = 1;
  expected = 2;
  value = 1;
  turn = record { task = refl; can = refl };
  next = record { task = refl; fetched = refl };
  instr = refl;
  writes = record { name = refl; index = refl; object = field_at 6; is = refl; within = omega arith; mutable = refl };
}

wins : Yields p 1022 ts field 4 first (pos 1)
unfolding p ts field task_at field_at
wins = refl

loses : Yields p 1022 ts field 6 second (pos 0)
unfolding p ts field task_at field_at
loses = refl

-- by two tasks
apart : first.t ≡ second.t → ⊥
unfolding first second
apart e = let h : 1 ≡ 2 = e in omega (arith, h)

pub some_cas_wins : SomeCasWins
some_cas_wins = (p, 1022, ts, field, only_from_nil, 4, 6, first, second, untried, omega arith, apart, wins, loses)
