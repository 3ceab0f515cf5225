-- Ancestors by links are ancestors by numbers.
use Rattle.image_check.proofs.Common.{◌≡◌, ◌<◌, ◌≤◌, ◌+◌, ◌-◌, ◌==◌, ℕ, zero, suc, Bool, true, false, cond, List, [], ◌∷◌, ◌++◌, length, get_or, refl, ap, sym, ◌∙◌, arith, subst, length-append, Option, Some, None, slice_get, nat_eq, is_some, position, MatchOption, option_map, keys_of, insert_entry, eqb-true, position-Some, same_Some, slice_get-get_or, slice_get-map, got_front, got_back, got_within, none_of, got_some, Link, depth_at, parent_of_link as parent_in_link, up_from, IsUp, new_link, up_same, up_depth, link_more, IsWithin, ancestor_parent, first_link as link_up, link_first, ImageTask, found, has, with_new, ImageTasks, image_parent, is_ancestor_of, LinksLead, IsProperAncestor, TaskStandsAt, IsParentAt, AreLinksOf, parent_of_row}
use Rattle.image_check.proofs.Paths.{Entry, AreOrdered, found_at, lead_up, first_link, met_ancestor, above, task_more, Where, where_is, apart_more, still_stands}
use Rattle.image_check.proofs.Paths.Where.{front, last}

-- FINDING A PLACE

key_at : (es : ImageTasks) (i n k : ℕ) (o : Option Entry) → slice_get es i ≡ o → option_map (λ (e : Entry). e.0) o ≡ Some k → nat_eq n k ≡ true → TaskStandsAt es i n
key_at es i n k None got e is = absurd cc
key_at es i n k (Some f) got e is = (f, got, (let g : f.0 ≡ k = (let h : Some f.0 ≡ Some k = e in cc) in g ∙ sym (eqb-true n k is)))

pub standing : (es : ImageTasks) (n i : ℕ) → position (nat_eq n) (keys_of es) ≡ Some i → TaskStandsAt es i n
standing es n i h =
    let p = position-Some (nat_eq n) (keys_of es) i 0 h in
    key_at es i n (get_or (keys_of es) i 0) (slice_get es i) refl (sym (slice_get-map (λ (e : Entry). e.0) es i) ∙ slice_get-get_or (keys_of es) i 0 p.0) p.1

pub place_answer : (es : ImageTasks) (n : ℕ) (o : Option ℕ) → o ≡ position (nat_eq n) (keys_of es) → is_some o ≡ is_some (found es n) → MatchOption o (found es n ≡ None) (λ i. TaskStandsAt es i n)
place_answer es n None e f = none_of (found es n) (sym f)
place_answer es n (Some i) e f = standing es n i (sym e)

none_lacks : (o : Option ImageTask) → o ≡ None → is_some o ≡ true → ⊥
none_lacks None e h = cc
none_lacks (Some x) e h = cc

-- the place of a parent that is there
pub parent_answer : (es : ImageTasks) (p : ℕ) (o : Option ℕ) → has es p ≡ true → MatchOption o (found es p ≡ None) (λ i. TaskStandsAt es i p) → IsParentAt es (Some p) o
parent_answer es p None h m = absurd (none_lacks (found es p) m h)
parent_answer es p (Some i) h m = m

-- a task that isn't there goes last
pub goes_last : (es : ImageTasks) (n : ℕ) (t : ImageTask) → has es n ≡ false → insert_entry nat_eq es n t ≡ es ++ (n, t) ∷ []
goes_last [] n t new = refl
goes_last (e ∷ es) n t new = goes_last_by_cases (nat_eq n e.0) refl new (goes_last es n t)
  where
    goes_last_by_cases : (b : Bool) → nat_eq n e.0 ≡ b → has (e ∷ es) n ≡ false → (has es n ≡ false → insert_entry nat_eq es n t ≡ es ++ (n, t) ∷ []) → insert_entry nat_eq (e ∷ es) n t ≡ e ∷ (es ++ (n, t) ∷ [])
    goes_last_by_cases true is h again = absurd (let g : has (e ∷ es) n ≡ true = rw is refl in cc)
    goes_last_by_cases false is h again = rw is (ap (λ (xs : ImageTasks). e ∷ xs) (again (rw is at h)))

-- THE TASKS OF LINKS

module _ (es : ImageTasks) (ks : List Link) (L : AreLinksOf es ks) where
  link_of : (i : ℕ) (e : Entry) → slice_get es i ≡ Some e → (k : Link) × (slice_get ks i ≡ Some k)
  link_of i e got = let w : i < length es = got_within es i e got in let s : length ks ≡ length es = L.sized in got_some ks i (omega (arith, w, s))

  pub stands_within : (i t : ℕ) → TaskStandsAt es i t → i < length ks
  stands_within i t s = let w : i < length es = got_within es i s.0 s.1 in let n : length ks ≡ length es = L.sized in omega (arith, w, n)

  behind_by : (i p : ℕ) (m n : Option ℕ) → m ≡ Some p → IsParentAt es m n → ((j : ℕ) → n ≡ Some j → j < i) → (j : ℕ) × (j < i) × TaskStandsAt es j p
  behind_by i p None n e at low = absurd cc
  behind_by i p (Some q) None e at low = absurd at
  behind_by i p (Some q) (Some j) e at low = (j, low j refl, (let g : q ≡ p = cc in subst (TaskStandsAt es j) g at))

  pub ordered : AreOrdered es
  ordered = record {
    apart = L.apart;
    behind = λ i e p got h. let k = link_of i e got in behind_by i p e.1.parent k.0.parent h (L.parents i e k.0 got k.1) (λ j f. L.links.low i j (ap parent_in_link k.1 ∙ f));
  }

  same_place : (i j t : ℕ) → TaskStandsAt es i t → TaskStandsAt es j t → i ≡ j
  same_place i j t a b = L.apart i j a.0 b.0 a.1 b.1 (a.2 ∙ sym b.2)

  same_task : (i t u : ℕ) → TaskStandsAt es i t → TaskStandsAt es i u → t ≡ u
  same_task i t u a b = let e : a.0 ≡ b.0 = (let f : Some a.0 ≡ Some b.0 = sym a.1 ∙ b.1 in cc) in sym a.2 ∙ ap (λ (x : Entry). x.0) e ∙ b.2

  -- ONE LINK

  up_by : (p : ℕ) (m n : Option ℕ) → n ≡ Some p → IsParentAt es m n → (q : ℕ) × (m ≡ Some q) × TaskStandsAt es p q
  up_by p None None e at = absurd cc
  up_by p None (Some j) e at = absurd at
  up_by p (Some q) None e at = absurd cc
  up_by p (Some q) (Some j) e at = (q, refl, (let g : j ≡ p = cc in subst (λ x. TaskStandsAt es x q) g at))

  parent_is : (i t : ℕ) (s : TaskStandsAt es i t) → image_parent es t ≡ s.0.1.parent
  parent_is i t s = ap parent_of_row (ap (found es) (sym s.2) ∙ found_at es ordered i s.0 s.1)

  up_number : (i p t : ℕ) → TaskStandsAt es i t → up_from ks i ≡ Some p → (q : ℕ) × (image_parent es t ≡ Some q) × TaskStandsAt es p q
  up_number i p t s h =
      let k = link_of i s.0 s.1 in
      let r = up_by p s.0.1.parent k.0.parent (sym (ap parent_in_link k.1) ∙ h) (L.parents i s.0 k.0 s.1 k.1) in
      (r.0, parent_is i t s ∙ r.1, r.2)

  down_by : (q : ℕ) (m n : Option ℕ) → m ≡ Some q → IsParentAt es m n → (p : ℕ) × (n ≡ Some p) × TaskStandsAt es p q
  down_by q None n e at = absurd cc
  down_by q (Some r) None e at = absurd at
  down_by q (Some r) (Some j) e at = (j, refl, (let g : r ≡ q = cc in subst (TaskStandsAt es j) g at))

  number_up : (i t q : ℕ) → TaskStandsAt es i t → image_parent es t ≡ Some q → (p : ℕ) × (up_from ks i ≡ Some p) × TaskStandsAt es p q
  number_up i t q s h =
      let k = link_of i s.0 s.1 in
      let r = down_by q s.0.1.parent k.0.parent (sym (parent_is i t s) ∙ h) (L.parents i s.0 k.0 s.1 k.1) in
      (r.0, ap parent_in_link k.1 ∙ r.1, r.2)

  -- MANY

  links_lead : (n i j t a : ℕ) → TaskStandsAt es i t → TaskStandsAt es j a → IsUp ks (suc n) i j → LinksLead n es t a
  links_lead zero i j t a s z h =
      let f = link_up (up_from ks) zero i j h in
      let q = up_number i f.0 t s f.1 in
      q.1 ∙ ap Some (same_task j q.0 a (subst (λ x. TaskStandsAt es x q.0) (same_Some f.0 j f.2) q.2) z)
  links_lead (suc n) i j t a s z h =
      let f = link_up (up_from ks) (suc n) i j h in
      let q = up_number i f.0 t s f.1 in
      (q.0, q.1, links_lead n f.0 j q.0 a q.2 z f.2)

  lead_links : (n i t a : ℕ) → TaskStandsAt es i t → LinksLead n es t a → (j : ℕ) × TaskStandsAt es j a × IsUp ks (suc n) i j
  lead_links zero i t a s h = let p = number_up i t a s h in (p.0, p.2, ancestor_parent (up_from ks) i p.0 p.1)
  lead_links (suc n) i t a s h =
      let p = number_up i t h.0 s h.1 in
      let r = lead_links n p.0 h.0 a p.2 h.2 in
      (r.0, r.1, link_first (up_from ks) (suc n) i p.0 r.0 p.1 r.2)

  -- THE ANSWER

  never_above : (a t : ℕ) → (IsProperAncestor es a t → ⊥) → false ≡ is_ancestor_of es a t
  never_above a t stop = never_above_by_cases (is_ancestor_of es a t) refl
    where
      never_above_by_cases : (b : Bool) → is_ancestor_of es a t ≡ b → false ≡ b
      never_above_by_cases true e = absurd (stop (above es a t e))
      never_above_by_cases false e = refl

  not_there : (t i : ℕ) → found es t ≡ None → TaskStandsAt es i t → ⊥
  not_there t i none s = let f : None ≡ Some s.0.1 = sym none ∙ ap (found es) (sym s.2) ∙ found_at es ordered i s.0 s.1 in cc

  pub no_ancestor : (a t : ℕ) → found es a ≡ None → false ≡ is_ancestor_of es a t
  no_ancestor a t none = never_above a t (λ h. let i = first_link es ordered h.0 t a h.1 in let r = lead_up es ordered h.0 t a i.0 i.1 h.1 in not_there a r.0 none r.2)

  module _ (a t j i : ℕ) (z : TaskStandsAt es j a) (s : TaskStandsAt es i t) where
    way_up : IsProperAncestor es a t → (n : ℕ) × IsUp ks (suc n) i j
    way_up h =
        let r = lead_links h.0 i t a s h.1 in
        (h.0, subst (IsUp ks (suc h.0) i) (same_place r.0 j a r.1 z) r.2)

    pub not_deeper : depth_at ks i ≤ depth_at ks j → false ≡ is_ancestor_of es a t
    not_deeper le = never_above a t (λ h. let w = way_up h in let d : depth_at ks i ≡ depth_at ks j + suc w.0 = up_depth ks L.links (suc w.0) i j w.1 in omega (arith, le, d))

    met_there : (r : ℕ) → depth_at ks j < depth_at ks i → IsUp ks (depth_at ks i - depth_at ks j) i r → r ≡ j → true ≡ is_ancestor_of es a t
    met_there r lt up e = sym (met_ancestor es ordered a t (n, links_lead n i j t a s z way))
      where
        n : ℕ
        n = (depth_at ks i - depth_at ks j) - 1

        way : IsUp ks (suc n) i j
        way = subst (IsUp ks (suc n) i) e (subst (λ x. IsUp ks x i r) (let f : depth_at ks i - depth_at ks j ≡ suc ((depth_at ks i - depth_at ks j) - 1) = omega (arith, lt) in f) up)

    passed_by : (r : ℕ) → IsUp ks (depth_at ks i - depth_at ks j) i r → (r ≡ j → ⊥) → false ≡ is_ancestor_of es a t
    passed_by r up ne = never_above a t (λ h.
        let w = way_up h in
        let d : depth_at ks i ≡ depth_at ks j + suc w.0 = up_depth ks L.links (suc w.0) i j w.1 in
        let e : suc w.0 ≡ depth_at ks i - depth_at ks j = omega (arith, d) in
        ne (up_same ks (depth_at ks i - depth_at ks j) i r j up (subst (λ x. IsUp ks x i j) e w.1)))

    pub climbed : (r : ℕ) → depth_at ks j < depth_at ks i → IsUp ks (depth_at ks i - depth_at ks j) i r → (r == j) ≡ is_ancestor_of es a t
    climbed r lt up = climbed_by_cases (r == j) refl
      where
        climbed_by_cases : (b : Bool) → (r == j) ≡ b → b ≡ is_ancestor_of es a t
        climbed_by_cases true e = met_there r lt up (eqb-true r j e)
        climbed_by_cases false e = passed_by r up (λ f. let g : (r == j) ≡ true = (let h : (j == j) ≡ true = grind arith in ap (λ x. x == j) f ∙ h) in cc)

  -- ONE MORE TASK

  module _ (n : ℕ) (t : ImageTask) (m : Option ℕ) (new : has es n ≡ false) (at : IsParentAt es t.parent m) where
    abbrev links : List Link
    links = ks ++ new_link ks m ∷ []

    last_link : slice_get links (length es) ≡ Some (new_link ks m)
    last_link = ap (slice_get links) (let s : length ks ≡ length es = L.sized in let e : length es ≡ length ks + 0 = omega (arith, s) in e) ∙ got_back ks (new_link ks m ∷ []) 0

    still_parent : (a b : Option ℕ) → IsParentAt es a b → IsParentAt (task_more es n t) a b
    still_parent None None h = h
    still_parent None (Some j) h = absurd h
    still_parent (Some p) None h = absurd h
    still_parent (Some p) (Some j) h = still_stands es n t j p h

    new_parent : (b : Option ℕ) → (new_link ks b).parent ≡ b
    new_parent None = refl
    new_parent (Some p) = refl

    parents_by : (i : ℕ) (e : Entry) (k : Link) → Where es n t i e → slice_get links i ≡ Some k → IsParentAt (task_more es n t) e.1.parent k.parent
    parents_by i e k (front lt g) h = still_parent e.1.parent k.parent (L.parents i e k g (sym (got_front ks (new_link ks m ∷ []) i (let s : length ks ≡ length es = L.sized in omega (arith, lt, s))) ∙ h))
    parents_by i e k (last at_end g) h =
        let same : new_link ks m ≡ k = (let f : Some (new_link ks m) ≡ Some k = sym last_link ∙ ap (slice_get links) (sym at_end) ∙ h in cc) in
        subst (λ (x : Entry). IsParentAt (task_more es n t) x.1.parent k.parent) g
        (subst (λ (y : Link). IsParentAt (task_more es n t) t.parent y.parent) same (subst (IsParentAt (task_more es n t) t.parent) (sym (new_parent m)) (still_parent t.parent m at)))

    parent_within : (a b : Option ℕ) → IsParentAt es a b → IsWithin ks L.links b
    parent_within a None h = tt
    parent_within None (Some j) h = absurd h
    parent_within (Some p) (Some j) h = let w : j < length es = got_within es j h.0 h.1 in let s : length ks ≡ length es = L.sized in omega (arith, w, s)

    pub linked_with : AreLinksOf (task_more es n t) links
    linked_with = record {
      sized = length-append ks (new_link ks m ∷ []) ∙ ap (λ x. x + 1) L.sized ∙ sym (length-append es ((n, t) ∷ []));
      links = link_more ks L.links m (parent_within t.parent m at);
      apart = apart_more es n t L.apart new;
      parents = λ i e k g h. parents_by i e k (where_is es n t i e g) h;
    }

-- what is left of the list once a task was added at its end
pub put_answer : (es : ImageTasks) (ks : List Link) → AreLinksOf es ks → (n : ℕ) (t : ImageTask) (m : Option ℕ) → has es n ≡ false → IsParentAt es t.parent m
    → (es' : ImageTasks) (before ks' : List Link) (link : Link) → es' ≡ insert_entry nat_eq es n t → link ≡ new_link ks m → before ≡ ks → ks' ≡ before ++ link ∷ []
    → AreLinksOf es' ks' × (es' ≡ with_new es n t)
put_answer es ks L n t m new at es' before ks' link is_entries is_link is_before is_links =
    let entries : es' ≡ task_more es n t = is_entries ∙ goes_last es n t new in
    let links : ks' ≡ ks ++ new_link ks m ∷ [] = is_links ∙ (λ j. is_before j ++ is_link j ∷ []) in (
      subst (λ xs. AreLinksOf xs ks') (sym entries) (subst (λ xs. AreLinksOf (task_more es n t) xs) (sym links) (linked_with es ks L n t m new at)),
      entries ∙ sym (ap (λ b. cond b es (task_more es n t)) new),
    )
