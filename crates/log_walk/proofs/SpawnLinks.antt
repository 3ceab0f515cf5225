-- Links from each strand to the one that spawned its task.
use Rattle.log_walk.proofs.Common.{◌≡◌, ℕ, zero, suc, ◌+◌, ◌<◌, ◌≤◌, Option, Some, None, List, [], ◌∷◌, ◌++◌, length, slice_get, inl, inr, refl, ap, sym, subst, ◌∙◌, arith, cases_lt, length-append, same_Some, got_front, got_last, Link, parent_of_link, new_link, AreLinks, IsWithin, link_more, GraphStrand, place_before, AreSpawnLinks}

new_parent : (ks : List Link) (m : Option ℕ) → (new_link ks m).parent ≡ m
new_parent ks None = refl
new_parent ks (Some p) = refl

within : (ks : List Link) (all : AreLinks ks) (first : ℕ) → first ≤ length ks → IsWithin ks all (place_before first)
within ks all zero le = tt
within ks all (suc k) le = omega arith

-- one more
pub link_pushed : (order : List GraphStrand) (firsts : List ℕ) (i first : ℕ) (u : GraphStrand) (ks : List Link) → slice_get order i ≡ Some u → slice_get firsts u.task ≡ Some first → first ≤ i
    → AreSpawnLinks order firsts i ks → AreSpawnLinks order firsts (i + 1) (ks ++ new_link ks (place_before first) ∷ [])
link_pushed order firsts i first u ks here has le f =
    let link : Link = new_link ks (place_before first) in
    let size : length ks ≡ i = f.size in
    let more : length (ks ++ link ∷ []) ≡ length ks + 1 = length-append ks (link ∷ []) in
    record {
      linked = link_more ks f.linked (place_before first) (within ks f.linked first (omega arith));
      size = omega arith;
      parent = λ k first' v lt h has'. elim (cases_lt k i) [
        | inl before ↦ ap parent_of_link (got_front ks (link ∷ []) k (subst (λ n. k < n) (sym size) before)) ∙ f.parent k first' v before h has'
        | inr ge ↦
            let same : k ≡ length ks = omega arith in
            let is : u ≡ v = same_Some u v (sym here ∙ subst (λ x. slice_get order x ≡ Some v) (same ∙ size) h) in
            let firsts_same : first ≡ first' = same_Some first first' (sym has ∙ (ap (λ (x : GraphStrand). slice_get firsts x.task) is ∙ has')) in
            ap (λ x. parent_of_link (slice_get (ks ++ link ∷ []) x)) same ∙ (ap parent_of_link (got_last ks link) ∙ (new_parent ks (place_before first) ∙ ap place_before firsts_same))
      ];
    }
