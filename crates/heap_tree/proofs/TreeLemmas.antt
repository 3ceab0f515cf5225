-- What callers see of the tree, from the links that it keeps.
use Rattle.heap_tree.proofs.Common.{◌≡◌, ◌==◌, ℕ, zero, suc, ◌+◌, ◌-◌, ◌<◌, ◌≤◌, ◌^◌, Bool, true, false, IsTrue, Option, Some, None, List, [], ◌∷◌, ◌++◌, length, map, set, slice_get, slice_set, option_map, IfSome, inl, inr, refl, sym, ap, subst, ◌∙◌, arith, append_assoc, eqb-true, eq-eqb, length-append, length-map, map-set, map-append, slice_get-map, slice_get_within, same_Some, cases_lt, false≢true, next_far, AreLinked, IsNewLink, walk_depth, linked_more, depth_limit, got_front, view_step, same_truth, got_last, got_some, TaskState, Ready, Waiting, Linked, ancestor, IsUpFrom, depth_in, path_in, TaskNode, parent_in, parent_of, state_of, depth_of, node_on_path, set_at, with_state, child_of, forked, IsTree, node_of, linked_parent, linked_depth, linked_far, parent_at, depth_at, far_at, IsLinked}
use Rattle.std.proofs.lemmas.List.{length-set}
use Rattle.heap_tree.proofs.WalkLemmas.{depth_in_is, walk_from_path, path_from_walk}

parent_in_map : (o : Option Linked) → parent_in (option_map node_of o) ≡ linked_parent o
parent_in_map None = refl
parent_in_map (Some e) = refl

pub parent_seen : (es : List Linked) (t : ℕ) → parent_of (map node_of es) t ≡ parent_at es t
parent_seen es t = ap parent_in (slice_get-map node_of es t) ∙ parent_in_map (slice_get es t)

-- callers see the parents that are kept
pub parents_seen : (es : List Linked) → ◌≡◌ {A = ℕ → Option ℕ} (parent_of (map node_of es)) (parent_at es)
parents_seen es = λ i t. parent_seen es t i

pub depth_seen : (es : List Linked) (t : ℕ) → IsLinked es → t < length es → depth_of (map node_of es) t ≡ depth_at es t
depth_seen es t linked made =
    ap (λ (par : ℕ → Option ℕ). depth_in par t) (parents_seen es)
    ∙ depth_in_is (length es) (parent_at es) (depth_at es) (far_at es) linked.links t made

pub tree_seen : (es : List Linked) → IsLinked es → IsTree (map node_of es)
tree_seen es linked =
    let len : length (map node_of es) ≡ length es = length-map es node_of in
    record {
      rooted = rw len linked.rooted;
      root = λ t made none. linked.root t (rw len at made) (sym (parent_seen es t) ∙ none);
      low = λ t p e. linked.links.low t p (sym (parent_seen es t) ∙ e);
    }

pub up_seen : (es : List Linked) (t d r : ℕ) → IsLinked es → t < length es → ancestor (parent_at es) (depth_at es t - d) t ≡ Some r → ancestor (parent_of (map node_of es)) (depth_of (map node_of es) t - d) t ≡ Some r
up_seen es t d r linked made up = rw (depth_seen es t linked made, parents_seen es) up

-- ---- the test of a path

module _ (es : List Linked) (linked : IsLinked es) where
  path_walks : (a t : ℕ) → IsUpFrom (parent_at es) t a → path_in (parent_at es) a t ≡ true
  path_walks = path_from_walk (length es) (parent_at es) (depth_at es) (far_at es) linked.links

  walks_path : (a t : ℕ) → path_in (parent_at es) a t ≡ true → IsUpFrom (parent_at es) t a
  walks_path = walk_from_path (length es) (parent_at es) (depth_at es) (far_at es) linked.links

  walks_deep : (k t a : ℕ) → ancestor (parent_at es) k t ≡ Some a → (depth_at es t ≡ depth_at es a + k) × (a ≤ t)
  walks_deep = walk_depth (length es) (parent_at es) (depth_at es) (far_at es) linked.links

  kept_here : (t a r : ℕ) → ancestor (parent_at es) (depth_at es t - depth_at es a) t ≡ Some r → (r == a) ≡ path_in (parent_at es) a t
  kept_here t a r up =
      same_truth (r == a) (path_in (parent_at es) a t)
      (λ same. path_walks a t (depth_at es t - depth_at es a, up ∙ ap Some (eqb-true r a same)))
      (λ on.
      let w = walks_path a t on in
      let d : depth_at es t ≡ depth_at es a + w.0 = (walks_deep w.0 t a w.1).0 in
      let k : depth_at es t - depth_at es a ≡ w.0 = omega arith in
      eq-eqb r a (same_Some r a (sym up ∙ (ap (λ (m : ℕ). ancestor (parent_at es) m t) k ∙ w.1))))

  kept_deeper : (t a : ℕ) → depth_at es t < depth_at es a → path_in (parent_at es) a t ≡ false
  kept_deeper t a lt =
      same_truth (path_in (parent_at es) a t) false
      (λ on.
      let w = walks_path a t on in
      let d : depth_at es t ≡ depth_at es a + w.0 = (walks_deep w.0 t a w.1).0 in
      absurd (omega arith))
      (λ no. absurd (false≢true no))

  -- the owner is on the path if and only if the task at its depth on the path is the owner
  pub on_path_here : (t a r : ℕ) → ancestor (parent_at es) (depth_at es t - depth_at es a) t ≡ Some r → (r == a) ≡ node_on_path (map node_of es) a t
  on_path_here t a r up = rw (parents_seen es) (kept_here t a r up)

  pub on_path_deeper : (t a : ℕ) → depth_at es t < depth_at es a → node_on_path (map node_of es) a t ≡ false
  on_path_deeper t a lt = rw (parents_seen es) (kept_deeper t a lt)

  -- the test of a path agrees with walks
  pub on_path_walks : (t a : ℕ) → (IsTrue (node_on_path (map node_of es) a t) → IsUpFrom (parent_of (map node_of es)) t a) × (IsUpFrom (parent_of (map node_of es)) t a → IsTrue (node_on_path (map node_of es) a t))
  on_path_walks t a = rw (parents_seen es) (walks_path a t, path_walks a t)

-- ---- another state

module _ (es : List Linked) (t : ℕ) (e : Linked) (state : TaskState) (is : slice_get es t ≡ Some e) where
  abbrev changed : List Linked
  changed = set es t (record e { state = state })

  pub state_linked : IsLinked es → IsLinked changed
  state_linked linked =
      let len : length changed ≡ length es = length-set es t (record e { state = state }) in
      let p : ◌≡◌ {A = ℕ → Option ℕ} (parent_at changed) (parent_at es) = λ i u. view_step linked_parent es t e (record e { state = state }) is refl u i in
      let d : ◌≡◌ {A = ℕ → ℕ} (depth_at changed) (depth_at es) = λ i u. view_step linked_depth es t e (record e { state = state }) is refl u i in
      let j : ◌≡◌ {A = ℕ → ℕ} (far_at changed) (far_at es) = λ i u. view_step linked_far es t e (record e { state = state }) is refl u i in
      record {
        few = rw len linked.few;
        rooted = rw len linked.rooted;
        root = λ u made none. linked.root u (rw len at made) (sym (view_step linked_parent es t e (record e { state = state }) is refl u) ∙ none);
        links = subst (λ (w : ℕ × (ℕ → Option ℕ) × (ℕ → ℕ) × (ℕ → ℕ)). AreLinked w.0 w.1 w.2 w.3) (λ i. (sym len i, sym p i, sym d i, sym j i)) linked.links;
      }

  pub state_seen : map node_of changed ≡ with_state (map node_of es) t state
  state_seen =
      let got : slice_get (map node_of es) t ≡ Some (node_of e) = slice_get-map node_of es t ∙ ap (option_map node_of) is in
      map-set node_of es t (record e { state = state }) ∙ sym (ap (set_at (map node_of es) t state) got)

-- ---- one more child

module _ (es : List Linked) (t : ℕ) (c : Linked) (made : t < length es) (its_par : c.parent ≡ Some t) (its_dep : c.depth ≡ depth_at es t + 1) (its_far : c.far ≡ next_far (depth_at es) (far_at es) t) where
  abbrev grown : List Linked
  grown = es ++ c ∷ []

  pub child_linked : AreLinked (length es) (parent_at es) (depth_at es) (far_at es) → AreLinked (length grown) (parent_at grown) (depth_at grown) (far_at grown)
  child_linked links =
      linked_more linked_parent linked_depth linked_far refl es c links
      (subst (λ (o : Option ℕ). IsNewLink (length es) (depth_at es) (far_at es) o c.depth c.far) (sym its_par) (made, its_dep, its_far))

  pub child_root : ((u : ℕ) → u < length es → parent_at es u ≡ None → u ≡ 0) → (u : ℕ) → u < length grown → parent_at grown u ≡ None → u ≡ 0
  child_root root u lt none =
      let len : length grown ≡ length es + 1 = length-append es (c ∷ []) in
      elim (cases_lt u (length es)) [
        | inl l ↦ root u l (sym (ap linked_parent (got_front es (c ∷ []) u l)) ∙ none)
        | inr g ↦
            let is : u ≡ length es = omega arith in
            let h : Some t ≡ None = sym (ap linked_parent (got_last es c) ∙ its_par) ∙ (ap (parent_at grown) (sym is) ∙ none) in
            absurd cc
      ]

  grown_depth : (u : ℕ) → u < length es → depth_at grown u ≡ depth_at es u
  grown_depth u lt = ap linked_depth (got_front es (c ∷ []) u lt)

  grown_far : (u : ℕ) → u < length es → far_at grown u ≡ far_at es u
  grown_far u lt = ap linked_far (got_front es (c ∷ []) u lt)

  -- a sibling's far link has the same target as the child's
  pub same_far : AreLinked (length es) (parent_at es) (depth_at es) (far_at es) → next_far (depth_at grown) (far_at grown) t ≡ next_far (depth_at es) (far_at es) t
  same_far links =
      let l : far_at es t ≤ t = links.far_low t made in
      let m : far_at es (far_at es t) ≤ far_at es t = links.far_low (far_at es t) (omega arith) in
      let jt : far_at grown t ≡ far_at es t = grown_far t made in
      let jj : far_at grown (far_at es t) ≡ far_at es (far_at es t) = grown_far (far_at es t) (omega arith) in
      let d0 : depth_at grown t ≡ depth_at es t = grown_depth t made in
      let d1 : depth_at grown (far_at es t) ≡ depth_at es (far_at es t) = grown_depth (far_at es t) (omega arith) in
      let d2 : depth_at grown (far_at es (far_at es t)) ≡ depth_at es (far_at es (far_at es t)) = grown_depth (far_at es (far_at es t)) (omega arith) in
      rw (jt, jj, d0, d1, d2)

-- ---- a fork

module _ (es : List Linked) (t : ℕ) (c : Linked) (linked : IsLinked es) (made : t < length es) (few : length es < 2 ^ 31) (its_par : c.parent ≡ Some t) (its_dep : c.depth ≡ depth_at es t + 1) (its_far : c.far ≡ next_far (depth_at es) (far_at es) t) where
  pub two_linked : IsLinked ((es ++ c ∷ []) ++ c ∷ [])
  two_linked =
      let grown = es ++ c ∷ [] in
      let len : length grown ≡ length es + 1 = length-append es (c ∷ []) in
      let len2 : length (grown ++ c ∷ []) ≡ length grown + 1 = length-append grown (c ∷ []) in
      let dep2 = its_dep ∙ ap (λ (m : ℕ). m + 1) (sym (grown_depth es t c made its_par its_dep its_far t made)) in
      let far2 = its_far ∙ sym (same_far es t c made its_par its_dep its_far linked.links) in
      record {
        few = omega arith;
        rooted = omega arith;
        root = child_root (es ++ c ∷ []) t c (omega arith) its_par dep2 far2 (child_root es t c made its_par its_dep its_far linked.root);
        links = child_linked (es ++ c ∷ []) t c (omega arith) its_par dep2 far2 (child_linked es t c made its_par its_dep its_far linked.links);
      }

module _ (es : List Linked) (t : ℕ) (e c : Linked) (is : slice_get es t ≡ Some e) where
  abbrev waits : List Linked
  waits = set es t (record e { state = Waiting })

  pub fork_linked : IsLinked es → length es < 2 ^ 31 → c.parent ≡ Some t → c.depth ≡ depth_at es t + 1 → c.far ≡ next_far (depth_at es) (far_at es) t → IsLinked (waits ++ c ∷ (c ∷ []))
  fork_linked linked few its_par its_dep its_far =
      let len : length waits ≡ length es = length-set es t (record e { state = Waiting }) in
      let d : ◌≡◌ {A = ℕ → ℕ} (depth_at waits) (depth_at es) = λ i u. view_step linked_depth es t e (record e { state = Waiting }) is refl u i in
      let j : ◌≡◌ {A = ℕ → ℕ} (far_at waits) (far_at es) = λ i u. view_step linked_far es t e (record e { state = Waiting }) is refl u i in
      let within : t < length es = slice_get_within es t e is in
      let two = two_linked waits t c (state_linked es t e Waiting is linked) (omega arith) (omega arith) its_par
      (its_dep ∙ ap (λ (f : ℕ → ℕ). f t + 1) (sym d))
      (its_far ∙ (λ i. next_far (sym d i) (sym j i) t)) in
      subst IsLinked (append_assoc waits (c ∷ []) (c ∷ [])) two

  pub fork_seen : c.parent ≡ Some t → c.state ≡ Ready → map node_of (waits ++ c ∷ (c ∷ [])) ≡ forked (map node_of es) t
  fork_seen its_par its_state =
      let child : node_of c ≡ child_of t = λ i. record { parent = its_par i; state = its_state i } in
      map-append node_of waits (c ∷ (c ∷ []))
      ∙ (ap (λ (xs : List TaskNode). xs ++ node_of c ∷ (node_of c ∷ [])) (state_seen es t e Waiting is)
      ∙ ap (λ (x : TaskNode). with_state (map node_of es) t Waiting ++ x ∷ (x ∷ [])) child)

-- ---- the same, for a value that is the view of the entries

module _ (v : List TaskNode) (es : List Linked) (view_is : map node_of es ≡ v) (linked : IsLinked es) where
  -- a task exists if there is an entry of it
  pub made_entry : (t : ℕ) → t < length v → t < length es
  made_entry t made =
      let len : length (map node_of es) ≡ length es = length-map es node_of in
      let same : length (map node_of es) ≡ length v = ap length view_is in
      omega arith

  pub depth_answer : (t : ℕ) (e : Linked) → t < length v → slice_get es t ≡ Some e → e.depth ≡ depth_of v t
  depth_answer t e made got =
      sym (ap (λ (w : List TaskNode). depth_of w t) (sym view_is) ∙ (depth_seen es t linked (made_entry t made) ∙ ap linked_depth got))

  pub path_within : (t d : ℕ) → t < length v → d ≤ depth_of v t → d ≤ depth_at es t
  path_within t d made le =
      let same : depth_of v t ≡ depth_at es t = ap (λ (w : List TaskNode). depth_of w t) (sym view_is) ∙ depth_seen es t linked (made_entry t made) in
      omega arith

  -- a bound on the stored depth is a bound on the depth that callers see
  pub cost_seen : (t : ℕ) → t < length v → (P : ℕ → Type 0) → ((log : ℕ) → depth_at es t + 1 < 2 ^ (log + 1) → P log) → (log : ℕ) → depth_of v t + 1 < 2 ^ (log + 1) → P log
  cost_seen t made P cost log deep =
      let same : depth_of v t ≡ depth_at es t = ap (λ (w : List TaskNode). depth_of w t) (sym view_is) ∙ depth_seen es t linked (made_entry t made) in
      cost log (rw same at deep)

  pub path_up : (t d r : ℕ) → t < length v → ancestor (parent_at es) (depth_at es t - d) t ≡ Some r → ancestor (parent_of v) (depth_of v t - d) t ≡ Some r
  path_up t d r made up =
      subst (λ (w : List TaskNode). ancestor (parent_of w) (depth_of w t - d) t ≡ Some r) view_is (up_seen es t d r linked (made_entry t made) up)

  pub path_there : (r d : ℕ) → r < length es → depth_at es r ≡ d → depth_of v r ≡ d
  path_there r d made there = ap (λ (w : List TaskNode). depth_of w r) (sym view_is) ∙ (depth_seen es r linked made ∙ there)

  pub on_path_answer : (t a r d : ℕ) (x : Linked) → slice_get es a ≡ Some x → x.depth ≡ d → ancestor (parent_at es) (depth_at es t - d) t ≡ Some r → (r == a) ≡ node_on_path v a t
  on_path_answer t a r d x got is up =
      let same : d ≡ depth_at es a = sym (ap linked_depth got ∙ is) in
      on_path_here es linked t a r (subst (λ (m : ℕ). ancestor (parent_at es) (depth_at es t - m) t ≡ Some r) same up)
      ∙ ap (λ (w : List TaskNode). node_on_path w a t) view_is

  pub off_path_answer : (t a : ℕ) (x y : Linked) → slice_get es a ≡ Some x → slice_get es t ≡ Some y → y.depth < x.depth → node_on_path v a t ≡ false
  off_path_answer t a x y got_a got_t lt =
      let da : depth_at es a ≡ x.depth = ap linked_depth got_a in
      let dt : depth_at es t ≡ y.depth = ap linked_depth got_t in
      ap (λ (w : List TaskNode). node_on_path w a t) (sym view_is) ∙ on_path_deeper es linked t a (omega arith)

  pub walk_answer : (t a : ℕ) (b : Bool) → b ≡ node_on_path v a t → (IsTrue b → IsUpFrom (parent_of v) t a) × (IsUpFrom (parent_of v) t a → IsTrue b)
  walk_answer t a b is =
      let both = subst (λ (w : List TaskNode). (IsTrue (node_on_path w a t) → IsUpFrom (parent_of w) t a) × (IsUpFrom (parent_of w) t a → IsTrue (node_on_path w a t))) view_is (on_path_walks es linked t a) in
      rw is both

  pub fork_shallow : (t : ℕ) (e : Linked) → t < length v → slice_get es t ≡ Some e → depth_of v t < depth_limit → e.depth < depth_limit
  fork_shallow t e made got lt =
      let same : e.depth ≡ depth_of v t = depth_answer t e made got in
      omega arith

-- callers see the stored state
pub entry_state : (v : List TaskNode) (es : List Linked) → map node_of es ≡ v → (t : ℕ) (e : Linked) → slice_get es t ≡ Some e → Some e.state ≡ state_of v t
entry_state v es view_is t e got =
    sym (ap (λ (w : List TaskNode). state_of w t) (sym view_is) ∙ ap (option_map (λ (n : TaskNode). n.state)) (slice_get-map node_of es t ∙ ap (option_map node_of) got))

-- a task with a state exists
pub made_from_state : (v : List TaskNode) (t : ℕ) (s : TaskState) → state_of v t ≡ Some s → t < length v
made_from_state [] t s h = absurd cc
made_from_state (x ∷ v) zero s h = omega arith
made_from_state (x ∷ v) (suc t) s h =
    let r : t < length v = made_from_state v t s h in
    omega arith

-- what a change of state keeps of the entries, and of what callers see
pub state_answer : (v : List TaskNode) (es new : List Linked) (t : ℕ) (state : TaskState) → map node_of es ≡ v → IsLinked es → t < length v
    → IfSome (slice_get es t) (λ e. new ≡ slice_set es t (record e { state = state })) → IsLinked new × (map node_of new ≡ with_state v t state)
state_answer v es new t state view_is linked made put =
    let got = got_some es t (made_entry v es view_is linked t made) in
    let is : new ≡ slice_set es t (record got.0 { state = state }) = let P : Option Linked → Type 0 = λ o. IfSome o (λ e. new ≡ slice_set es t (record e { state = state })) in subst P got.1 put in (
      subst IsLinked (sym is) (state_linked es t got.0 state got.1 linked),
      ap (map node_of) is ∙ (state_seen es t got.0 state got.1 ∙ ap (λ (w : List TaskNode). with_state w t state) view_is),
    )

-- and a fork
pub fork_answer : (v : List TaskNode) (es new : List Linked) (t : ℕ) (c : Linked) → map node_of es ≡ v → IsLinked es → t < length v → length v < 2 ^ 31
    → c.parent ≡ Some t → c.depth ≡ depth_of v t + 1 → c.far ≡ next_far (depth_at es) (far_at es) t → c.state ≡ Ready
    → IfSome (slice_get es t) (λ e. new ≡ slice_set es t (record e { state = Waiting }) ++ c ∷ (c ∷ [])) → IsLinked new × (map node_of new ≡ forked v t)
fork_answer v es new t c view_is linked made few its_par its_dep its_far its_state put =
    let within = made_entry v es view_is linked t made in
    let got = got_some es t within in
    let is : new ≡ slice_set es t (record got.0 { state = Waiting }) ++ c ∷ (c ∷ []) = let P : Option Linked → Type 0 = λ o. IfSome o (λ e. new ≡ slice_set es t (record e { state = Waiting }) ++ c ∷ (c ∷ [])) in subst P got.1 put in
    let len : length (map node_of es) ≡ length es = length-map es node_of in
    let same : length (map node_of es) ≡ length v = ap length view_is in
    let deep : depth_at es t ≡ depth_of v t = ap linked_depth got.1 ∙ depth_answer v es view_is linked t got.0 made got.1 in (
      subst IsLinked (sym is) (fork_linked es t got.0 c got.1 linked (omega arith) its_par (its_dep ∙ ap (λ (m : ℕ). m + 1) (sym deep)) its_far),
      ap (map node_of) is ∙ (fork_seen es t got.0 c got.1 its_par its_state ∙ ap (λ (w : List TaskNode). forked w t) view_is),
    )
