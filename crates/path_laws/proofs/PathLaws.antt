-- Paths and owners are walks along parents.
use Rattle.path_laws.proofs.Common.{◌≡◌, ℕ, zero, suc, Bool, true, false, cond, ◌==◌, Option, Some, None, List, [], ◌∷◌, inl, inr, refl, ap, sym, ◌∙◌, eqb-true, or_cases, or_right, false≢true, false_from_ne_true, both_ways, through, owner_by, path_by, path_in, path_child, path_itself, path_le, path_through, path_parent, path_along, on_one_path, live_up, not_above, owner_not_joined, owner_here, IsWalkUp, IsWalkOfJoined, PathsAreWalks, OwnersAreWalks}
use Rattle.hh_model.specs.Tree.{AreLow}

module _ (par : ℕ → Option ℕ) where
  abbrev Leads : ℕ → ℕ → Type 0
  Leads a t = (ps : List ℕ) × IsWalkUp par t ps a

  link : (k a t : ℕ) → ((p : ℕ) → path_by par k a p ≡ true → Leads a p) → (o : Option ℕ) → par t ≡ o → through o false (path_by par k a) ≡ true → Leads a t
  link k a t rest None is up = absurd (false≢true up)
  link k a t rest (Some p) is up = let w = rest p up in (p ∷ w.0, (is, w.1))

  leads : (k a t : ℕ) → path_by par k a t ≡ true → Leads a t
  leads zero a t h = ([], sym (eqb-true a t h))
  leads (suc k) a t h = elim (or_cases (a == t) (through (par t) false (path_by par k a)) h) [
    | inl e ↦ ([], sym (eqb-true a t e))
    | inr up ↦ link k a t (λ p. leads k a p) (par t) refl up
  ]

  module _ (low : AreLow par) where
    led : (ps : List ℕ) (a t : ℕ) → IsWalkUp par t ps a → path_in par a t ≡ true
    led [] a t w = ap (λ u. path_in par a u) w ∙ path_itself par low a
    led (p ∷ ps) a t w = path_child par low a t p w.0 ∙ or_right (a == t) (path_in par a p) (led ps a p w.1)

  module _ (jd : ℕ → Bool) where
    abbrev LeadsJoined : ℕ → ℕ → Type 0
    LeadsJoined a t = (ps : List ℕ) × IsWalkOfJoined par jd t ps a

    join_link : (k t : ℕ) → ((p : ℕ) → LeadsJoined (owner_by par jd k p) p) → jd t ≡ true → (o : Option ℕ) → par t ≡ o → LeadsJoined (through o t (owner_by par jd k)) t
    join_link k t rest j None is = ([], refl)
    join_link k t rest j (Some p) is = let w = rest p in (p ∷ w.0, (j, is, w.1))

    join_here : (k t : ℕ) → ((p : ℕ) → LeadsJoined (owner_by par jd k p) p) → (b : Bool) → jd t ≡ b → LeadsJoined (cond b (through (par t) t (owner_by par jd k)) t) t
    join_here k t rest true j = join_link k t rest j (par t) refl
    join_here k t rest false j = ([], refl)

    leads_joined : (k t : ℕ) → LeadsJoined (owner_by par jd k t) t
    leads_joined zero t = ([], refl)
    leads_joined (suc k) t = join_here k t (λ p. leads_joined k p) (jd t) refl

pub paths_are_walks : PathsAreWalks
paths_are_walks par low = record {
  walks = λ a t. ((λ h. leads par t a t h), (λ w. led par low w.0 a t w.1));
  itself = path_itself par low;
  child = path_child par low;
  parent = path_parent par low;
  through = λ a t. path_through par low t a t;
  along = path_along par low;
  one = on_one_path par low;
  low = λ a t. path_le par low t a t;
}

pub owners_are_walks : OwnersAreWalks
owners_are_walks n par jd wt js es I = record {
  live = owner_not_joined n par jd wt js es I;
  walks = λ a. leads_joined par jd a a;
  own = λ a. owner_here par jd a a;
  above = λ a t. live_up n par jd wt js es I t a t;
  joined = λ a t j live. false_from_ne_true (path_in par a t) (λ h. both_ways (jd a) (live_up n par jd wt js es I t a t h live) j);
  leaf = not_above n par jd wt js es I;
}
