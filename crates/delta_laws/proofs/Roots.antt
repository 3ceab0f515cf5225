-- The names that are told to be held are those that tasks hold.
use Rattle.delta_laws.proofs.Common.{◌≡◌, ℕ, Bool, true, false, ◌||◌, cond, Option, Some, None, List, [], ◌∷◌, ◌++◌, slice_get, refl, ap, sym, ◌∙◌, is_some, or_assoc, ProgramText, Name, Task, task_names, Ledger, heap_of, is_name, holds_name, ledger_of, same_from_is_name, with_root, with_roots, stands_as, holds_told, names_held, DeltasGiveRoots}
use Rattle.delta_laws.proofs.Tells.{deltas_give_tasks}

or_false : (b : Bool) → (b || false) ≡ b
or_false true = refl
or_false false = refl

holds_last : (found : List Name) (m n : Name) → holds_name (found ++ m ∷ []) n ≡ (holds_name found n || is_name n m)
holds_last [] m n = or_false (is_name n m)
holds_last (x ∷ found) m n = ap (λ b. is_name n x || b) (holds_last found m n) ∙ sym (or_assoc (is_name n x) (holds_name found n) (is_name n m))

-- a name that is there already adds none
root_holds : (found : List Name) (m n : Name) → holds_name (with_root found m) n ≡ (holds_name found n || is_name n m)
root_holds found m n = root_holds_by_cases (holds_name found m) refl
  where
    root_holds_there : holds_name found m ≡ true → (b : Bool) → is_name n m ≡ b → holds_name found n ≡ (holds_name found n || b)
    root_holds_there e true q = let all : holds_name found n ≡ true = ap (holds_name found) (same_from_is_name n m q) ∙ e in all ∙ sym (ap (λ b. b || true) all)
    root_holds_there e false q = sym (or_false (holds_name found n))

    root_holds_by_cases : (b : Bool) → holds_name found m ≡ b → holds_name (cond b found (found ++ m ∷ [])) n ≡ (holds_name found n || is_name n m)
    root_holds_by_cases true e = root_holds_there e (is_name n m) refl
    root_holds_by_cases false e = holds_last found m n

roots_hold : (found ns : List Name) (n : Name) → holds_name (with_roots found ns) n ≡ (holds_name found n || holds_name ns n)
roots_hold found [] n = sym (or_false (holds_name found n))
roots_hold found (m ∷ ns) n =
    roots_hold (with_root found m) ns n ∙ ap (λ b. b || holds_name ns n) (root_holds found m n) ∙ or_assoc (holds_name found n) (is_name n m) (holds_name ns n)

told_holds : (p : ProgramText) (u : ℕ) (out : Bool) (o : Option Task) (n : Name) → holds_name (holds_told (stands_as p u out o)) n ≡ holds_name (names_held o) n
told_holds p u out None n = refl
told_holds p u out (Some x) n = roots_hold [] (task_names x) n

pub deltas_give_roots : DeltasGiveRoots
deltas_give_roots p s journal t n legal =
    let l : Ledger = ledger_of p s journal in
    ap (λ o. holds_name (holds_told o) n) (deltas_give_tasks p s journal t legal) ∙ told_holds p t (is_some (heap_of l t).worker) (slice_get l.machine.tasks t) n
