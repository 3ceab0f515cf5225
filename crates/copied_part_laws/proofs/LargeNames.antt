-- The names of large objects in lists of chunks.
use Rattle.copied_part_laws.proofs.Common.{◌≡◌, ℕ, zero, suc, ◌==◌, Bool, true, false, cond, Option, Some, None, List, [], ◌∷◌, ◌++◌, map, inl, inr, refl, ap, ap₂, sym, ◌∙◌, remove, Name, Addr, ChunkValue, chunk_at, IsReserved, led_chunk, unreserved, In, large_names, names_in}
use Rattle.copied_part_laws.proofs.NamesLaid.{names_led}

-- ---- LARGE NAMES

pub large_both : (ks js : List ChunkValue) → large_names (ks ++ js) ≡ large_names ks ++ large_names js
large_both [] js = refl
large_both (k ∷ ks) js = large_both_by_cases (k.size == 1024) (large_both ks js)
  where
    along : (ns ms os : List Name) → ns ++ (ms ++ os) ≡ (ns ++ ms) ++ os
    along [] ms os = refl
    along (n ∷ ns) ms os = ap (λ zs. n ∷ zs) (along ns ms os)

    large_both_by_cases : (b : Bool) → large_names (ks ++ js) ≡ large_names ks ++ large_names js → cond b (large_names (ks ++ js)) (names_in k.cells ++ large_names (ks ++ js)) ≡ cond b (large_names ks) (names_in k.cells ++ large_names ks) ++ large_names js
    large_both_by_cases true e = e
    large_both_by_cases false e = ap (λ zs. names_in k.cells ++ zs) e ∙ along (names_in k.cells) (large_names ks) (large_names js)

pub none_large : (ks : List ChunkValue) → ((k : ChunkValue) → In ks k → k.cells ≡ []) → large_names ks ≡ []
none_large [] f = refl
none_large (k ∷ ks) f = none_large_by_cases (k.size == 1024) (none_large ks (λ j i. f j (inr i)))
  where
    none_large_by_cases : (b : Bool) → large_names ks ≡ [] → cond b (large_names ks) (names_in k.cells ++ large_names ks) ≡ []
    none_large_by_cases true e = e
    none_large_by_cases false e = ap (λ cs. names_in cs ++ large_names ks) (f k (inl refl)) ∙ e

pub large_led : (f : Option Addr → Option Addr) (ks : List ChunkValue) → large_names (map (led_chunk f) ks) ≡ large_names ks
large_led f [] = refl
large_led f (k ∷ ks) = ap₂ (λ ns zs. cond (k.size == 1024) zs (ns ++ zs)) (names_led f k.cells) (large_led f ks)

large_removed : (ks : List ChunkValue) (i : ℕ) → (chunk_at ks i).cells ≡ [] → large_names (remove ks i) ≡ large_names ks
large_removed [] zero e = refl
large_removed [] (suc i) e = refl
large_removed (k ∷ ks) zero e = large_removed_by_cases (k.size == 1024)
  where
    large_removed_by_cases : (b : Bool) → large_names ks ≡ cond b (large_names ks) (names_in k.cells ++ large_names ks)
    large_removed_by_cases true = refl
    large_removed_by_cases false = sym (ap (λ cs. names_in cs ++ large_names ks) e)
large_removed (k ∷ ks) (suc i) e = ap (λ zs. cond (k.size == 1024) zs (names_in k.cells ++ zs)) (large_removed ks i e)

pub large_unreserved : (ks : List ChunkValue) (r : Option ℕ) → IsReserved ks r → large_names (unreserved ks r) ≡ large_names ks
large_unreserved ks None w = refl
large_unreserved ks (Some i) w = large_removed ks i w.1.1
