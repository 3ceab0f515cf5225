-- The texts of refusals are made of their parts.
use Rattle.log_refusals.proofs.Common.{◌≡◌, ◌++◌, ◌∷◌, ℕ, List, [], codes, append_assoc, append-nil, Option, Some, None, slice_index_or, decimal, LogPosition, place_text}

pub place_is : (names : List (List ℕ)) (at : LogPosition) (name : List ℕ) → name ≡ slice_index_or names at.file [] → codes " " ++ (name ++ (codes " line " ++ decimal at.line)) ≡ place_text names (Some at)
place_is names at name e = rw e (simp append_assoc)

pub line_is : (place same cause text : List ℕ) → place ≡ same → cause ≡ text
    → codes "end: log refused" ++ (place ++ (codes ": " ++ (cause ++ 10 ∷ []))) ≡ codes "end: log refused" ++ same ++ codes ": " ++ text ++ codes "\n"
line_is place same cause text e f = rw (e, f) (simp append_assoc)

pub task_is : (place same cause text : List ℕ) (task : ℕ) → place ≡ same → cause ≡ text
    → codes "end: log refused" ++ (place ++ (codes ": task " ++ (decimal task ++ (32 ∷ (cause ++ 10 ∷ []))))) ≡ codes "end: log refused" ++ same ++ codes ": task " ++ decimal task ++ codes " " ++ text ++ codes "\n"
task_is place same cause text task e f = rw (e, f) (simp append_assoc)
