-- What a run prints: its outputs, and the numbers of each strand.
use Rattle.schedule_laws.proofs.Common.{◌≡◌, ℕ, ℤ, suc, ◌+◌, ◌-◌, ◌==◌, ◌&&◌, Bool, true, false, cond, Option, Some, None, List, [], ◌∷◌, ◌++◌, length, map, nat_lt, slice_get, inl, inr, refl, ap, ap₂, sym, subst, ◌∙◌, arith, append-nil, append_assoc, cases_Bool, In, in_append_right, in_got, Line, ProgramText, Name, Strand, Edge, Frame, Task, MachineState, Effect, Goes, Prints, Calls, Forks, Returns, Traps, Stops, effect, Precedes, same_strand, can_step, child_ended_by, depth_limit, fetched, follow, frame_limit, is_left, join_of, result_at, last_of, last_return, or_same, result_of, returned_to, run_from, setting, sibling, step, stepped, strand_of, same_from_test, with_some, strand_to, same_task, Print, PrintsAreOrdered, line_print, print_by, print_of, printed_by, prints_from, task_print}
use Rattle.schedule_laws.proofs.Carrying.{print_to}

abbrev pub numbers : List Print → List ℤ
numbers [] = []
numbers (x ∷ xs) = x.number ∷ numbers xs

-- OUTPUTS

module _ (p : ProgramText) (m : MachineState) (t : ℕ) where
  abbrev Says : MachineState → Option Print → Type 0
  Says w o = w.outputs ≡ m.outputs ++ numbers (with_some o [])

  quiet : (w : MachineState) → w.outputs ≡ m.outputs → Says w None
  quiet w e = e ∙ sym (append-nil m.outputs)

  either : (b : Bool) (v w : MachineState) → v.outputs ≡ m.outputs → w.outputs ≡ m.outputs → (cond b v w).outputs ≡ m.outputs
  either true v w a c = a
  either false v w a c = c

  same_or : (o : Option Task) (go : Task → MachineState) → ((x : Task) → (go x).outputs ≡ m.outputs) → (or_same m o go).outputs ≡ m.outputs
  same_or None go each = refl
  same_or (Some x) go each = each x

  ended : (x : Task) (q : ℕ) (r : ℤ × Option Name) (o : Option (ℤ × Option Name)) → (child_ended_by m t x q r o).outputs ≡ m.outputs
  ended x q r None = refl
  ended x q r (Some other) = same_or (slice_get m.tasks q) _ (λ xq. same_or (slice_get m.tasks (sibling t)) _ (λ y. either (is_left t) (join_of m q xq t x y r other) (join_of m q xq (t - 1) y x other r) refl refl))

  back_out : (x : Task) (o : Option Frame) → (returned_to m t x o).outputs ≡ m.outputs
  back_out x (Some f) = refl
  back_out x None = back_out_by_cases x.parent
    where
      back_out_by_cases : (o : Option ℕ) → (last_return m t x o).outputs ≡ m.outputs
      back_out_by_cases None = refl
      back_out_by_cases (Some q) = ended x q (result_of x.top) (result_at (slice_get m.tasks (sibling t)))

  by_effect : (x : Task) (line : ℕ) (e : Effect) → Says (follow m t x line e) (print_by (strand_of t x) e)
  by_effect x line (Goes f st) = quiet (follow m t x line (Goes f st)) refl
  by_effect x line (Prints k) = refl
  by_effect x line (Calls g) = quiet (follow m t x line (Calls g)) (either (nat_lt (length x.below + 1) frame_limit) _ _ refl refl)
  by_effect x line (Forks g h) = quiet (follow m t x line (Forks g h)) (either (nat_lt x.depth depth_limit) _ _ refl refl)
  by_effect x line Returns = quiet (follow m t x line Returns) (back_out x (last_of x.below))
  by_effect x line (Traps k) = quiet (follow m t x line (Traps k)) refl
  by_effect x line (Stops k) = quiet (follow m t x line (Stops k)) refl

  by_line : (x : Task) (o : Option Line) → Says (stepped p m t x o) (line_print m t x o)
  by_line x None = quiet m refl
  by_line x (Some line) = by_effect x line.number (effect (setting m t x) x.top m.store line.instr)

  by_task : (o : Option Task) → Says (or_same m o (λ x. stepped p m t x (fetched p x.top))) (task_print p m t o)
  by_task None = quiet m refl
  by_task (Some x) = by_line x (fetched p x.top)

  says : Says (step p m t) (print_of p m t)
  says = says_by_cases (can_step m t)
    where
      says_by_cases : (b : Bool) → Says (cond b (or_same m (slice_get m.tasks t) (λ x. stepped p m t x (fetched p x.top))) m) (cond b (task_print p m t (slice_get m.tasks t)) None)
      says_by_cases true = by_task (slice_get m.tasks t)
      says_by_cases false = quiet m refl

some_numbers : (o : Option Print) (xs : List Print) → numbers (with_some o xs) ≡ numbers (with_some o []) ++ numbers xs
some_numbers None xs = refl
some_numbers (Some x) xs = refl

pub outputs_are : (p : ProgramText) (m : MachineState) (ts : List ℕ) → (run_from p m ts).outputs ≡ m.outputs ++ numbers (prints_from p m ts)
outputs_are p m [] = sym (append-nil m.outputs)
outputs_are p m (t ∷ ts) =
    outputs_are p (step p m t) ts
    ∙ (ap (λ w. w ++ numbers (prints_from p (step p m t) ts)) (says p m t)
    ∙ (append_assoc m.outputs (numbers (with_some (print_of p m t) [])) (numbers (prints_from p (step p m t) ts)) ∙ ap (λ w. m.outputs ++ w) (sym (some_numbers (print_of p m t) (prints_from p (step p m t) ts)))))

pub numbers_map : (f : ℕ → ℕ) (xs : List Print) → numbers (map (print_to f) xs) ≡ numbers xs
numbers_map f [] = refl
numbers_map f (x ∷ xs) = ap (λ w. x.number ∷ w) (numbers_map f xs)

-- STRANDS

pub strand_there : (f g : ℕ → ℕ) → ((t : ℕ) → g (f t) ≡ t) → (a b : Strand) → same_strand (strand_to f a) (strand_to f b) ≡ same_strand a b
strand_there f g back a b = ap (λ w. w && (a.joins == b.joins)) (same_task f g back a.task b.task)

pub printed_map : (f g : ℕ → ℕ) → ((t : ℕ) → g (f t) ≡ t) → (s : Strand) (xs : List Print) → printed_by (strand_to f s) (map (print_to f) xs) ≡ printed_by s xs
printed_map f g back s [] = refl
printed_map f g back s (x ∷ xs) =
    ap₂ (λ b w. cond b (x.number ∷ w) w) (strand_there f g back x.strand s) (printed_map f g back s xs)

-- the middle print moves to the front
pub printed_moves : (s : Strand) (front back : List Print) (o : Option Print) → ((a b : Print) → In front a → o ≡ Some b → a.strand ≡ b.strand → ⊥) → printed_by s (with_some o (front ++ back)) ≡ printed_by s (front ++ with_some o back)
printed_moves s front back None free = refl
printed_moves s front back (Some b) free = printed_moves_by_cases front (λ a i. free a b i refl)
  where
    printed_moves_by_cases : (front : List Print) → ((a : Print) → In front a → a.strand ≡ b.strand → ⊥) → printed_by s (b ∷ (front ++ back)) ≡ printed_by s (front ++ b ∷ back)
    printed_moves_by_cases [] none = refl
    printed_moves_by_cases (a ∷ front) none = elim (cases_Bool (same_strand a.strand s)) [
      | inr out ↦
          ap (λ w. cond (same_strand b.strand s) (b.number ∷ cond w (a.number ∷ printed_by s (front ++ back)) (printed_by s (front ++ back))) (cond w (a.number ∷ printed_by s (front ++ back)) (printed_by s (front ++ back)))) out
          ∙ (printed_moves_by_cases front (λ c i. none c (inr i)) ∙ sym (ap (λ w. cond w (a.number ∷ printed_by s (front ++ b ∷ back)) (printed_by s (front ++ b ∷ back))) out))
      | inl here ↦
          let other : same_strand b.strand s ≡ false = elim (cases_Bool (same_strand b.strand s)) [
            | inr n ↦ n
            | inl y ↦ absurd (none a (inl refl) (same_from_test a.strand s here ∙ sym (same_from_test b.strand s y)))
          ] in
          ap (λ w. cond w (b.number ∷ printed_by s ((a ∷ front) ++ back)) (printed_by s ((a ∷ front) ++ back))) other
          ∙ ap (λ w. cond (same_strand a.strand s) (a.number ∷ w) w) (sym (ap (λ w. cond w (b.number ∷ printed_by s (front ++ back)) (printed_by s (front ++ back))) other) ∙ printed_moves_by_cases front (λ c i. none c (inr i)))
    ]

-- ORDER

abbrev pub SaidInOrder : List Edge → List Print → Type 0
SaidInOrder es [] = Unit {0}
SaidInOrder es (a ∷ rest) = ((b : Print) → In rest b → Precedes es a.strand b.strand) × SaidInOrder es rest

pub said_order : (es : List Edge) (xs : List Print) → PrintsAreOrdered es xs → SaidInOrder es xs
said_order es [] h = tt
said_order es (x ∷ xs) h = (
  (λ b i. (let k = in_got xs b i in h 0 (suc k.0) x b (omega arith) refl k.1)),
  said_order es xs (λ i j u v lt iu iv. h (suc i) (suc j) u v (omega arith) iu iv),
)

pub said_map : (es es' : List Edge) (f : ℕ → ℕ) → ((u v : Strand) → Precedes es u v → Precedes es' (strand_to f u) (strand_to f v)) → (xs : List Print) → SaidInOrder es xs → SaidInOrder es' (map (print_to f) xs)
said_map es es' f walk [] h = tt
said_map es es' f walk (x ∷ xs) h = ((λ b i. said_map_by_cases xs (λ c j. h.0 c j) b i), said_map es es' f walk xs h.1)
  where
    said_map_by_cases : (ys : List Print) → ((c : Print) → In ys c → Precedes es x.strand c.strand) → (b : Print) → In (map (print_to f) ys) b → Precedes es' (strand_to f x.strand) b.strand
    said_map_by_cases [] h b i = absurd i
    said_map_by_cases (y ∷ ys) h b (inl e) = subst (λ (w : Print). Precedes es' (strand_to f x.strand) w.strand) e (walk x.strand y.strand (h y (inl refl)))
    said_map_by_cases (y ∷ ys) h b (inr i) = said_map_by_cases ys (λ c j. h c (inr j)) b i

-- if all prints are in order, the middle one was already first
pub said_moves : (es : List Edge) (front back : List Print) (o : Option Print) → ((a b : Print) → In front a → o ≡ Some b → Precedes es a.strand b.strand → ⊥) → SaidInOrder es (front ++ with_some o back)
    → SaidInOrder es (front ++ back) × (numbers (with_some o (front ++ back)) ≡ numbers (front ++ with_some o back))
said_moves es front back None free h = (h, refl)
said_moves es [] back (Some b) free h = (h.1, refl)
said_moves es (a ∷ front) back (Some b) free h = absurd (free a b (inl refl) refl (h.0 b (in_append_right front (b ∷ back) b (inl refl))))
