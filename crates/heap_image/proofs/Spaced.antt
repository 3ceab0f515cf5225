-- How lines are put together.
use Rattle.heap_image.proofs.Common.{◌≡◌, ℕ, ℤ, List, [], ◌∷◌, ◌++◌, length, map, ap, sym, ◌∙◌, append_assoc, append-nil, codes, Result, Ok, Err, OnOk, if◌then◌else◌, Option, Some, None, is_ok, flat_map, decimal, signed_decimal, flat_map-append, flat_map-map, spaced, ImageTask, ImageState, state_word, Picked, line, reference_kind_word, parent_word, task_line, object_line, head_words, object_words, reference_text, number_text}

-- a word after a space
abbrev behind_space : List ℕ → List ℕ
behind_space w = 32 ∷ w

first_spaced : (w : List ℕ) (vs : List (List ℕ)) → spaced (w ∷ vs) ≡ w ++ flat_map behind_space vs
first_spaced w [] = sym (append-nil w)
first_spaced w (v ∷ vs) = ap (λ x. w ++ 32 ∷ x) (first_spaced v vs)

-- words after others
spaced_more : (w : List ℕ) (ws vs : List (List ℕ)) → spaced ((w ∷ ws) ++ vs) ≡ spaced (w ∷ ws) ++ flat_map behind_space vs
spaced_more w [] vs = first_spaced w vs
spaced_more w (u ∷ us) vs = ap (λ x. w ++ 32 ∷ x) (spaced_more u us vs) ∙ sym (append_assoc w (32 ∷ spaced (u ∷ us)) (flat_map behind_space vs))

fields_spaced : (rs : List ℕ) (ns : List ℤ) → flat_map behind_space (map decimal rs ++ map signed_decimal ns) ≡ flat_map reference_text rs ++ flat_map number_text ns
fields_spaced rs ns =
    flat_map-append behind_space (map decimal rs) (map signed_decimal ns)
    ∙ ap (λ x. x ++ flat_map behind_space (map signed_decimal ns)) (flat_map-map behind_space decimal rs)
    ∙ ap (λ x. flat_map reference_text rs ++ x) (flat_map-map behind_space signed_decimal ns)

-- an object's words after the first, before its fields
abbrev more_head : Picked → List (List ℕ)
more_head o = decimal o.address ∷ decimal o.birth.task ∷ decimal o.birth.count ∷ reference_kind_word o.mutable ∷ decimal (length o.references) ∷ decimal (length o.numbers) ∷ []

pub object_spaced : (o : Picked) → spaced (object_words o) ≡ spaced (head_words o) ++ (flat_map reference_text o.references ++ flat_map number_text o.numbers)
object_spaced o =
    ap spaced (append_assoc (head_words o) (map decimal o.references) (map signed_decimal o.numbers))
    ∙ spaced_more (codes "object") (more_head o) (map decimal o.references ++ map signed_decimal o.numbers)
    ∙ ap (λ x. spaced (head_words o) ++ x) (fields_spaced o.references o.numbers)

-- TASKS

four_spaced : (n p w : List ℕ) → codes "task " ++ (n ++ 32 ∷ (p ++ 32 ∷ (w ++ 10 ∷ []))) ≡ line (codes "task" ∷ n ∷ p ∷ w ∷ [])
four_spaced n p w = simp append_assoc

task_by : (n : ℕ) (m p : Option ℕ) (s : ImageState) (w : List ℕ) → m ≡ p → w ≡ state_word s
    → codes "task " ++ (decimal n ++ 32 ∷ (parent_word p ++ 32 ∷ (w ++ 10 ∷ []))) ≡ line (codes "task" ∷ decimal n ∷ parent_word m ∷ state_word s ∷ [])
task_by n m p s w e f =
    four_spaced (decimal n) (parent_word p) w
    ∙ ap (λ x. line (codes "task" ∷ decimal n ∷ parent_word x ∷ w ∷ [])) (sym e)
    ∙ ap (λ x. line (codes "task" ∷ decimal n ∷ parent_word m ∷ x ∷ [])) f

pub rooted_line : (t : ImageTask) (w : List ℕ) → t.parent ≡ None → w ≡ state_word t.state → codes "task " ++ (decimal t.number ++ (codes " - " ++ (w ++ 10 ∷ []))) ≡ task_line t
rooted_line t w e f = task_by t.number t.parent None t.state w e f

pub child_line : (t : ImageTask) (p : ℕ) (w : List ℕ) → t.parent ≡ Some p → w ≡ state_word t.state → codes "task " ++ (decimal t.number ++ 32 ∷ (decimal p ++ 32 ∷ (w ++ 10 ∷ []))) ≡ task_line t
child_line t p w e f = task_by t.number t.parent (Some p) t.state w e f

-- LINES

-- a head and the fields after it make an object line
pub object_made : (o : Picked) (before head bytes begun first more : List ℕ) (rs : List ℕ) (ns : List ℤ) → head ≡ spaced (head_words o) → bytes ≡ head → begun ≡ before ++ bytes
    → rs ≡ o.references → ns ≡ o.numbers → first ≡ begun ++ flat_map reference_text rs → more ≡ first ++ flat_map number_text ns → more ++ 10 ∷ [] ≡ before ++ object_line o
object_made o before head bytes begun first more rs ns eh eb es er en ef em =
    ap (λ x. x ++ 10 ∷ []) (em ∙ ap (λ x. x ++ flat_map number_text ns) (ef ∙ ap (λ x. x ++ flat_map reference_text rs) (es ∙ ap (λ x. before ++ x) (eb ∙ eh))))
    ∙ (λ j. (((before ++ spaced (head_words o)) ++ flat_map reference_text (er j)) ++ flat_map number_text (en j)) ++ 10 ∷ [])
    ∙ four_joined before (spaced (head_words o)) (flat_map reference_text o.references) (flat_map number_text o.numbers)
    ∙ ap (λ x. before ++ (x ++ 10 ∷ [])) (sym (object_spaced o))
  where
    four_joined : (a b c d : List ℕ) → (((a ++ b) ++ c) ++ d) ++ 10 ∷ [] ≡ a ++ ((b ++ (c ++ d)) ++ 10 ∷ [])
    four_joined a b c d = simp append_assoc

-- what is written on success
pub on_ok : {E : Type 0} {Q : Type 0} (r : Result (Unit {0}) E) (new old more : List ℕ) → new ≡ (if is_ok r then old ++ more else old) → (new ≡ old ++ more → Q) → OnOk r Q
on_ok (Ok u) new old more e f = f e
on_ok (Err x) new old more e f = tt
