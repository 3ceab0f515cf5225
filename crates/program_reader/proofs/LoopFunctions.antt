-- The functions of loops, one loop after the other.
use Rattle.program_reader.proofs.Common.{◌≡◌, ◌<◌, ◌+◌, ◌++◌, ℕ, List, [], ◌∷◌, length, drop, get_or, ap, sym, ◌∙◌, append_assoc, subst, Option, Some, slice_get, MatchOption, drop_more, slice_get-get_or, Fun, Outline, NotedName, loop_function, loop_functions, loops_from}

pub three_added : (fs f1 f2 f3 : List Fun) (a b c a' b' c' : Fun) → f1 ≡ fs ++ a ∷ [] → f2 ≡ f1 ++ b ∷ [] → f3 ≡ f2 ++ c ∷ [] → a ≡ a' → b ≡ b' → c ≡ c' → f3 ≡ fs ++ (a' ∷ b' ∷ c' ∷ [])
three_added fs f1 f2 f3 a b c a' b' c' e1 e2 e3 ea eb ec = rw (e3, e2, e1, ea, eb, ec) (simp append_assoc)

step : (o : Outline) (fs gs : List Fun) (k : ℕ) (e : NotedName) → slice_get o.loops k ≡ Some e → drop k o.loops ≡ e ∷ drop (k + 1) o.loops → MatchOption (slice_get o.loops k) (gs ≡ fs) (λ e. gs ≡ fs ++ loop_functions o (loop_function o k) e) → gs ++ loops_from o (k + 1) (drop (k + 1) o.loops) ≡ fs ++ loops_from o k (drop k o.loops)
step o fs gs k e at d h =
    let added : gs ≡ fs ++ loop_functions o (loop_function o k) e = subst (λ (x : Option NotedName). MatchOption x (gs ≡ fs) (λ e. gs ≡ fs ++ loop_functions o (loop_function o k) e)) at h in
    ap (λ xs. xs ++ loops_from o (k + 1) (drop (k + 1) o.loops)) added
    ∙ append_assoc fs (loop_functions o (loop_function o k) e) (loops_from o (k + 1) (drop (k + 1) o.loops))
    ∙ ap (λ xs. fs ++ loops_from o k xs) (sym d)

-- one more loop
pub loop_more : (o : Outline) (fs gs : List Fun) (k : ℕ) → k < length o.loops → MatchOption (slice_get o.loops k) (gs ≡ fs) (λ e. gs ≡ fs ++ loop_functions o (loop_function o k) e) → gs ++ loops_from o (k + 1) (drop (k + 1) o.loops) ≡ fs ++ loops_from o k (drop k o.loops)
loop_more o fs gs k lt h =
    let d : NotedName = record { name = []; number = 0 } in
    step o fs gs k (get_or o.loops k d) (slice_get-get_or o.loops k d lt) (drop_more o.loops k d lt) h
