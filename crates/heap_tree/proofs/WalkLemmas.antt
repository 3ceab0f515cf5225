-- The depths and paths of the model, by the links that the tree keeps.
use Rattle.heap_tree.proofs.Common.{◌≡◌, ◌==◌, ℕ, zero, suc, ◌+◌, ◌<◌, ◌≤◌, true, false, Option, Some, None, inl, inr, refl, sym, ap, ◌∙◌, arith, eqb-true, eq-eqb, or_cases, or_left, or_right, false≢true, same_Some, AreLinked, first_link, link_first, shallow, through, ancestor, IsUpFrom, depth_by, depth_in, path_by, path_in}

module _ (n : ℕ) (par : ℕ → Option ℕ) (dep far : ℕ → ℕ) (links : AreLinked n par dep far) where
  -- ---- depths

  depth_more : (fuel t : ℕ) (p : Option ℕ) → par t ≡ p → t < n → ((q : ℕ) → par t ≡ Some q → depth_by par fuel q ≡ dep q) → through p 0 (λ q. suc (depth_by par fuel q)) ≡ dep t
  depth_more fuel t None e made go = sym (links.top t made e)
  depth_more fuel t (Some q) e made go =
      let d : dep t ≡ dep q + 1 = links.deeper t q e in
      let h : depth_by par fuel q ≡ dep q = go q e in
      omega arith

  depth_by_is : (fuel t : ℕ) → t ≤ fuel → t < n → depth_by par fuel t ≡ dep t
  depth_by_is zero t le made =
      let s : dep t ≤ t = shallow n par dep far links t made in
      omega arith
  depth_by_is (suc fuel) t le made =
      depth_more fuel t (par t) refl made (λ q e. let l : q < t = links.low t q e in depth_by_is fuel q (omega arith) (omega arith))

  -- the stored depth is the number of links to the root
  pub depth_in_is : (t : ℕ) → t < n → depth_in par t ≡ dep t
  depth_in_is t made = depth_by_is t t (omega arith) made

  -- ---- the test of a path and walks

  up_through : (fuel a t : ℕ) (p : Option ℕ) → par t ≡ p → through p false (path_by par fuel a) ≡ true → ((q : ℕ) → path_by par fuel a q ≡ true → IsUpFrom par q a) → IsUpFrom par t a
  up_through fuel a t None e h go = absurd (false≢true h)
  up_through fuel a t (Some q) e h go = let w = go q h in (suc w.0, link_first par w.0 t q a e w.1)

  walk_from_path_by : (fuel a t : ℕ) → path_by par fuel a t ≡ true → IsUpFrom par t a
  walk_from_path_by zero a t h = (0, ap Some (sym (eqb-true a t h)))
  walk_from_path_by (suc fuel) a t h =
      elim (or_cases (a == t) (through (par t) false (path_by par fuel a)) h) [
        | inl same ↦ (0, ap Some (sym (eqb-true a t same)))
        | inr later ↦ up_through fuel a t (par t) refl later (λ q g. walk_from_path_by fuel a q g)
      ]

  pub walk_from_path : (a t : ℕ) → path_in par a t ≡ true → IsUpFrom par t a
  walk_from_path a t h = walk_from_path_by t a t h

  path_by_from_walk : (k fuel a t : ℕ) → t ≤ fuel → ancestor par k t ≡ Some a → path_by par fuel a t ≡ true
  path_by_from_walk zero zero a t le h = eq-eqb a t (sym (same_Some t a h))
  path_by_from_walk zero (suc fuel) a t le h = or_left _ _ (eq-eqb a t (sym (same_Some t a h)))
  path_by_from_walk (suc k) zero a t le h =
      let f = first_link par k t a h in
      let l : f.0 < t = links.low t f.0 f.1 in
      absurd (omega arith)
  path_by_from_walk (suc k) (suc fuel) a t le h =
      let f = first_link par k t a h in
      let l : f.0 < t = links.low t f.0 f.1 in
      or_right _ _ (ap (λ (p : Option ℕ). through p false (path_by par fuel a)) f.1 ∙ path_by_from_walk k fuel a f.0 (omega arith) f.2)

  pub path_from_walk : (a t : ℕ) → IsUpFrom par t a → path_in par a t ≡ true
  path_from_walk a t w = path_by_from_walk w.0 t a t (omega arith) w.1
