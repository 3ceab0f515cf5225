-- Each step keeps the invariant of a deque.
use Rattle.steal_scheduler.proofs.Common.{◌≡◌, ◌≢◌, ℕ, zero, suc, ◌+◌, ◌<◌, get_or, true, false, true≢false, List, [], ◌∷◌, ◌++◌, length, set, sum_by, sym, refl, ap, ◌∙◌, arith, ⊎_elim, append_assoc, sum_by-append, sum_by-set, Pushes, Takes, Pops, Admits, at_set, at_snoc, PassView, times, opening_view, guest_view, with_put, with_taken, TookBack, Dealt}
use mathlib.Core.Option.{some, some-injective, some-ne-none}
use lib.ListN.{get_elem?}

times-append : (x : ℕ) (xs ys : List ℕ) → times x (xs ++ ys) ≡ times x xs + times x ys
times-append x xs ys = sum_by-append _ xs ys

at_port : (views : List PassView) (port : ℕ) (v : PassView) → get_elem? views port ≡ some v → (port < length views) × (get_or views port v ≡ v)
at_port [] port v e = absurd (some-ne-none v (sym e))
at_port (x ∷ xs) zero v e = ((omega arith), some-injective x v e)
at_port (x ∷ xs) (suc port) v e = let h = at_port xs port v e in ((let l = h.0 in omega arith), h.1)

-- the sum after one view changed
total-set : (f : PassView → ℕ) (views : List PassView) (port : ℕ) (v w : PassView) → get_elem? views port ≡ some v → sum_by f (set views port w) + f v ≡ sum_by f views + f w
total-set f views port v w e = let h = at_port views port v e in let s = sum_by-set f views port w v h.0 in let is : f (get_or views port v) ≡ f v = ap f h.1 in omega arith

pub opens : Dealt [] (opening_view ∷ [])
opens = record { balanced = λ x. refl; stolen = []; in_order = first }
  where
    first : (port : ℕ) (v : PassView) → get_elem? (opening_view ∷ []) port ≡ some v → v.owns ≡ true → (port ≡ 0) × (v.outstanding ≡ [] ++ [])
    first zero v e owns = (refl, sym (ap (λ (u : PassView). u.outstanding) (some-injective opening_view v e)))
    first (suc port) v e owns = absurd (some-ne-none v (sym e))

pub admits : Admits Dealt guest_view
admits items views h = record {
  balanced = λ x. let b = h.balanced x in let p = sum_by-append (λ (v : PassView). times x v.put) views (guest_view ∷ []) in let t = sum_by-append (λ (v : PassView). times x v.taken) views (guest_view ∷ []) in omega arith;
  stolen = h.stolen;
  in_order = λ port v e owns. ⊎_elim (λ (at : get_elem? views port ≡ some v). h.in_order port v at owns)
      (λ (is : guest_view ≡ v). absurd (true≢false (sym owns ∙ ap (λ (u : PassView). u.owns) (sym is)))) (at_snoc views guest_view v port e);
}

module _ (port : ℕ) (v : PassView) (items before : List ℕ) (views : List PassView) (h : Dealt before views) (at : get_elem? views port ≡ some v) where
  -- the invariant after the owner's view became w
  owner_moves : (w : PassView) → v.owns ≡ true → (w.outstanding ≡ h.stolen ++ items) → ((x : ℕ) → times x w.put + times x before + times x v.taken ≡ times x v.put + times x items + times x w.taken) → Dealt items (set views port w)
  owner_moves w owns is fair = record {
    balanced = λ x. let b = h.balanced x in let f = fair x in let p = total-set (λ (u : PassView). times x u.put) views port v w at in let t = total-set (λ (u : PassView). times x u.taken) views port v w at in omega arith;
    stolen = h.stolen;
    in_order = λ j u e o. ⊎_elim (λ (t : (j ≡ port) × (w ≡ u)). (t.0 ∙ (h.in_order port v at owns).0, ap (λ (y : PassView). y.outstanding) (sym t.1) ∙ is))
        (λ (t : (j ≢ port) × (get_elem? views j ≡ some u)). absurd (t.0 ((h.in_order j u t.1 o).0 ∙ sym (h.in_order port v at owns).0))) (at_set views port j w u e);
  }

pub puts : (port : ℕ) (v : PassView) (xs : List ℕ) → v.owns ≡ true → Pushes Dealt port v xs (λ w. w ≡ with_put v xs)
puts port v xs owns items views h at = (
  with_put v xs,
  owner_moves port v (items ++ xs) items views h at (with_put v xs) owns (ap (λ l. l ++ xs) (h.in_order port v at owns).1 ∙ append_assoc h.stolen items xs)
      (λ x. let p = times-append x v.put xs in let q = times-append x items xs in omega arith),
  refl,
)

pub takes_back : (port : ℕ) (v : PassView) → v.owns ≡ true → Pops Dealt port v (TookBack v)
takes_back port v owns x items views h at = let w : PassView = record v { taken = v.taken ++ x ∷ []; outstanding = h.stolen ++ items } in (
  w,
  owner_moves port v items (items ++ x ∷ []) views h at w owns refl (λ y. let p = times-append y v.taken (x ∷ []) in let q = times-append y items (x ∷ []) in omega arith),
  record { owns = refl; put = refl; taken = refl; newest = (h.in_order port v at owns).1 ∙ sym (append_assoc h.stolen items (x ∷ [])) },
)

pub steals : (port : ℕ) (v : PassView) → v.owns ≡ false → Takes Dealt port v 1 (λ xs w. w ≡ with_taken v xs)
steals port v not_owner xs items views _ _ h at = let w : PassView = with_taken v xs in (
  w,
  record {
    balanced = λ x. let b = h.balanced x in let p = total-set (λ (u : PassView). times x u.put) views port v w at in let t = total-set (λ (u : PassView). times x u.taken) views port v w at in
        let q = times-append x xs items in let r = times-append x v.taken xs in omega arith;
    stolen = h.stolen ++ xs;
    in_order = λ j u e o. ⊎_elim (λ (t : (j ≡ port) × (w ≡ u)). absurd (true≢false (sym o ∙ (ap (λ (y : PassView). y.owns) (sym t.1) ∙ not_owner))))
        (λ (t : (j ≢ port) × (get_elem? views j ≡ some u)). let a = h.in_order j u t.1 o in (a.0, a.1 ∙ sym (append_assoc h.stolen xs items))) (at_set views port j w u e);
  },
  refl,
)
