-- Steps of two concurrent tasks, in either order.
use Rattle.schedule_laws.proofs.Common.{◌≡◌, ℕ, ℤ, ◌+◌, ◌-◌, ◌<◌, Bool, true, false, cond, Option, Some, None, List, [], ◌∷◌, ◌++◌, length, map, slice_get, slice_set, ◌⊎◌, inl, inr, refl, ap, sym, subst, ◌∙◌, arith, append-nil, length-append, length-set, option_map, In, Instr, Name, Object, Running, Waiting, Task, MachineState, Disentangled, onward, child, is_left, is_running, joined_task, result_at, parent_of, parents, result_of, resumed, setting, sibling, NamesAreStoredIn, IsForkJoinState, runs_tell, IsRenaming, edge_to, end_to, object_to, task_to, AreRenamed, Change, ChangesBy, Edits, Grows, Same, changed, at_low, swapped, itself}
use Rattle.schedule_laws.proofs.Swapping.{Agree, AllAt, Stored, sets}
use Rattle.schedule_laws.proofs.Moves.{Acts, IsPlain, Joins, Last, Move, Moves, Plain, Shape, Splits, change_in, edges_in, last_move, last_moves, news, puts, rows_in}
use Rattle.schedule_laws.proofs.Apart.{Kind, last_kinds, last_quiet, last_same}
use Rattle.schedule_laws.proofs.Commuting.{Even, edges_then, even_alike, even_back, in_swap, store_cross, store_then, tasks_cross, tasks_then}
use Rattle.schedule_laws.proofs.Forked.{edges_swap, f, rows_swap, tasks_swap}
use Rattle.schedule_laws.proofs.Lows.{LowIn}

-- m12 and m21 are equal except for the numbers of tasks that m doesn't have
pub record SameButNumbers (m m12 m21 : MachineState) : Type 0 where
  pub f : ℕ → ℕ
  pub renaming : IsRenaming (length m12.tasks) f f
  pub old : (v : ℕ) → v < length m.tasks → f v ≡ v
  pub alike : AreRenamed f m12 m21

pub same_itself : (m m12 m21 : MachineState) → Even m12 m21 → SameButNumbers m m12 m21
same_itself m m12 m21 E = record {
  f = itself;
  renaming = record { back = λ t. refl; forth = λ t. refl; root = refl; beyond = λ t le. refl; sides = λ t. refl; siblings = λ t. refl };
  old = λ v lt. refl;
  alike = even_alike m12 m21 E;
}

-- the same move of u in two states
pub record Resolved (m w m1 w1 : MachineState) (u : ℕ) (y : Task) (i : Instr) : Type 0 where
  pub move : Move
  pub here : Moves m w u move
  pub there : Moves m1 w1 u move
  pub kinds : AllAt (Kind m u) (puts u move)
  pub stored : Stored m.store (change_in move)
  pub shape : Shape u y move
  pub by : (change_in move ≡ Same) ⊎ ChangesBy (setting m u y) y.top m.store i (change_in move)

module _ (m : MachineState) (K : IsForkJoinState m) (D : Disentangled m.tasks m.store) (N : NamesAreStoredIn m) (L : LowIn m) (rows : length m.store ≡ length m.tasks) (going : m.end ≡ None) where
  -- TWO MOVES

  module _ (t u : ℕ) (two : t ≡ u → ⊥) (run_t : is_running (slice_get m.tasks t) ≡ true) (run_u : is_running (slice_get m.tasks u) ≡ true) (m1 m2 m12 m21 : MachineState) where
    -- the first move adds no tasks
    pub even : (mt mu : Move) → news mt ≡ [] → rows_in mt ≡ [] → ((k j : ℕ) → edges_in t mt k ≡ edges_in t mt j)
        → AllAt (Kind m t) (puts t mt) → AllAt (Kind m u) (puts u mu) → Stored m.store (change_in mt) → Stored m.store (change_in mu) → Agree (change_in mu) (change_in mt)
        → Moves m m1 t mt → Moves m m2 u mu → Moves m1 m12 u mu → Moves m2 m21 t mt → Even m12 m21
    even mt mu en er ee kt ku st su agree Ht Hu Hu1 Ht2 =
        let n : ℕ = length m.tasks in
        let S : List Task = sets (puts u mu) (sets (puts t mt) m.tasks) in
        let Q : List (List Object) = changed (change_in mu) u (changed (change_in mt) t m.store) in
        let two' : u ≡ t → ⊥ = λ e. two (sym e) in
        let tasks12 : m12.tasks ≡ S ++ news mu = tasks_then m K rows t u two run_t run_u mt mu kt ku st su m1 m12 Ht Hu1 ∙ (ap (λ w. (S ++ w) ++ news mu) en ∙ ap (λ w. w ++ news mu) (append-nil S)) in
        let tasks21 : m21.tasks ≡ S ++ news mu =
        tasks_then m K rows u t two' run_u run_t mu mt ku kt su st m2 m21 Hu Ht2
        ∙ (ap (λ w. (w ++ news mu) ++ news mt) (sym (tasks_cross m K rows t u two run_t run_u mt mu kt ku st su)) ∙ (ap (λ w. (S ++ news mu) ++ w) en ∙ append-nil (S ++ news mu))) in
        let store12 : m12.store ≡ Q ++ rows_in mu = store_then m K rows t u two run_t run_u mt mu kt ku st su m1 m12 Ht Hu1 ∙ (ap (λ w. (Q ++ w) ++ rows_in mu) er ∙ ap (λ w. w ++ rows_in mu) (append-nil Q)) in
        let store21 : m21.store ≡ Q ++ rows_in mu =
        store_then m K rows u t two' run_u run_t mu mt ku kt su st m2 m21 Hu Ht2
        ∙ (ap (λ w. (w ++ rows_in mu) ++ rows_in mt) (sym (store_cross m K rows t u two run_t run_u mt mu kt ku st su agree)) ∙ (ap (λ w. (Q ++ rows_in mu) ++ w) er ∙ append-nil (Q ++ rows_in mu))) in
        let none : n + length (news mt) ≡ n = omega (arith, ap (λ (w : List Task). length w) en) in
        let edges12 : m12.edges ≡ (m.edges ++ edges_in t mt n) ++ edges_in u mu n = edges_then m K rows t u two run_t run_u mt mu kt ku st su m1 m12 Ht Hu1 ∙ ap (λ k. (m.edges ++ edges_in t mt n) ++ edges_in u mu k) none in
        let edges21 : m21.edges ≡ (m.edges ++ edges_in u mu n) ++ edges_in t mt n =
        edges_then m K rows u t two' run_u run_t mu mt ku kt su st m2 m21 Hu Ht2 ∙ ap (λ w. (m.edges ++ edges_in u mu n) ++ w) (ee (n + length (news mu)) n) in
        record {
          limit = Ht2.limit ∙ (Hu.limit ∙ (sym Ht.limit ∙ sym Hu1.limit));
          tasks = tasks21 ∙ sym tasks12;
          store = store21 ∙ sym store12;
          edges = λ e. (
            (λ i. subst (λ es. In es e) (sym edges12) (in_swap m.edges (edges_in u mu n) (edges_in t mt n) e (subst (λ es. In es e) edges21 i))),
            (λ i. subst (λ es. In es e) (sym edges21) (in_swap m.edges (edges_in t mt n) (edges_in u mu n) e (subst (λ es. In es e) edges12 i))),
          );
          end = Ht2.end ∙ (Hu.end ∙ (sym Ht.end ∙ sym Hu1.end));
        }

  module _ (t u : ℕ) (two : t ≡ u → ⊥) (run_t : is_running (slice_get m.tasks t) ≡ true) (run_u : is_running (slice_get m.tasks u) ≡ true) (m1 m2 m12 m21 : MachineState) where
    -- the second one adds none, after a fork
    flipped : {zt ct dt : Task} (mu : Move) → news mu ≡ [] → rows_in mu ≡ [] → ((k j : ℕ) → edges_in u mu k ≡ edges_in u mu j)
        → AllAt (Kind m t) (puts t (Splits zt ct dt)) → AllAt (Kind m u) (puts u mu) → Stored m.store Same → Stored m.store (change_in mu) → Agree Same (change_in mu)
        → Moves m m1 t (Splits zt ct dt) → Moves m m2 u mu → Moves m1 m12 u mu → Moves m2 m21 t (Splits zt ct dt) → Even m12 m21
    flipped {zt} {ct} {dt} mu en er ee kt ku st su agree Ht Hu Hu1 Ht2 =
        even_back m21 m12 (even u t (λ e. two (sym e)) run_u run_t m2 m1 m21 m12 mu (Splits zt ct dt) en er ee ku kt su st agree Hu Ht Ht2 Hu1)

    -- both fork
    forked : (x y : Task) (is : slice_get m.tasks t ≡ Some x) (iu : slice_get m.tasks u ≡ Some y) (zt ct dt zu cu du : Task) → Shape t x (Splits zt ct dt) → Shape u y (Splits zu cu du)
        → AllAt (Kind m t) (puts t (Splits zt ct dt)) → AllAt (Kind m u) (puts u (Splits zu cu du))
        → Moves m m1 t (Splits zt ct dt) → Moves m m2 u (Splits zu cu du) → Moves m1 m12 u (Splits zu cu du) → Moves m2 m21 t (Splits zt ct dt) → SameButNumbers m m12 m21
    forked x y is iu zt ct dt zu cu du (g, h, ez, ec, ed) (k, l, ez', ec', ed') kt ku Ht Hu Hu1 Ht2 =
        let n : ℕ = length m.tasks in
        let yt : Task = record x { status = Waiting; top = onward x.top } in
        let yu : Task = record y { status = Waiting; top = onward y.top } in
        let at : List Task = child t (x.depth + 1) g x.top ∷ child t (x.depth + 1) h x.top ∷ [] in
        let au : List Task = child u (y.depth + 1) k y.top ∷ child u (y.depth + 1) l y.top ∷ [] in
        let S : List Task = slice_set (slice_set m.tasks t yt) u yu in
        let two' : u ≡ t → ⊥ = λ e. two (sym e) in
        let mt : Move = Splits zt ct dt in
        let mu : Move = Splits zu cu du in
        let tasks12 : m12.tasks ≡ (S ++ at) ++ au =
        tasks_then m K rows t u two run_t run_u mt mu kt ku tt tt m1 m12 Ht Hu1 ∙ (λ i. (slice_set (slice_set m.tasks t (ez i)) u (ez' i) ++ ec i ∷ ed i ∷ []) ++ ec' i ∷ ed' i ∷ []) in
        let tasks21 : m21.tasks ≡ (S ++ au) ++ at =
        tasks_then m K rows u t two' run_u run_t mu mt ku kt tt tt m2 m21 Hu Ht2
        ∙ (ap (λ w. (w ++ news mu) ++ news mt) (sym (tasks_cross m K rows t u two run_t run_u mt mu kt ku tt tt)) ∙ (λ i. (slice_set (slice_set m.tasks t (ez i)) u (ez' i) ++ ec' i ∷ ed' i ∷ []) ++ ec i ∷ ed i ∷ [])) in
        let store12 : m12.store ≡ (m.store ++ [] ∷ [] ∷ []) ++ [] ∷ [] ∷ [] = store_then m K rows t u two run_t run_u mt mu kt ku tt tt m1 m12 Ht Hu1 in
        let store21 : m21.store ≡ (m.store ++ [] ∷ [] ∷ []) ++ [] ∷ [] ∷ [] = store_then m K rows u t two' run_u run_t mu mt ku kt tt tt m2 m21 Hu Ht2 in
        let edges12 : m12.edges ≡ (m.edges ++ edges_in t mt n) ++ edges_in u mu (n + 2) = edges_then m K rows t u two run_t run_u mt mu kt ku tt tt m1 m12 Ht Hu1 in
        let edges21 : m21.edges ≡ (m.edges ++ edges_in u mu n) ++ edges_in t mt (n + 2) = edges_then m K rows u t two' run_u run_t mu mt ku kt tt tt m2 m21 Hu Ht2 in
        let long : length m12.tasks ≡ n + 4 =
        ap (λ (w : List Task). length w) tasks12 ∙ omega (arith, length-append (S ++ at) au, length-append S at, length-set (slice_set m.tasks t yt) u yu, length-set m.tasks t yt) in
        let long' : length m21.tasks ≡ n + 4 =
        ap (λ (w : List Task). length w) tasks21 ∙ omega (arith, length-append (S ++ au) at, length-append S au, length-set (slice_set m.tasks t yt) u yu, length-set m.tasks t yt) in
        let swaps = edges_swap m K D N L rows t u x y is iu g h k l zt.joins zu.joins in
        record {
          f = f m K D N L rows;
          renaming = subst (λ q. IsRenaming q (f m K D N L rows) (f m K D N L rows)) (sym long) (swapped n K.tree.odd);
          old = λ v lt. at_low n K.tree.odd v lt;
          alike = record {
            limit = Ht2.limit ∙ (Hu.limit ∙ (sym Ht.limit ∙ sym Hu1.limit));
            count = long' ∙ sym long;
            tasks = λ v. ap (λ ts. slice_get ts (f m K D N L rows v)) tasks21 ∙ (tasks_swap m K D N L rows t u x y is iu g h k l v ∙ ap (λ ts. option_map (task_to (f m K D N L rows)) (slice_get ts v)) (sym tasks12));
            objects = λ v. ap (λ (st : List (List Object)). slice_get st (f m K D N L rows v)) store21 ∙ (rows_swap m K D N L rows t u x y is iu g h k l v ∙ ap (λ (st : List (List Object)). option_map (map (object_to (f m K D N L rows))) (slice_get st v)) (sym store12));
            edges = λ e. (
              (λ i. subst (λ es. In es e) (sym edges12) ((swaps e).0 (subst (λ es. In es (edge_to (f m K D N L rows) e)) edges21 i))),
              (λ i. subst (λ es. In es (edge_to (f m K D N L rows) e)) (sym edges21) ((swaps e).1 (subst (λ es. In es e) edges12 i))),
            );
            end = Ht2.end ∙ (Hu.end ∙ (going ∙ ap (option_map (end_to (f m K D N L rows))) (sym (Hu1.end ∙ (Ht.end ∙ going)))));
          };
        }

    pub both : (x y : Task) (is : slice_get m.tasks t ≡ Some x) (iu : slice_get m.tasks u ≡ Some y) (mt mu : Move) → Shape t x mt → Shape u y mu → AllAt (Kind m t) (puts t mt) → AllAt (Kind m u) (puts u mu)
        → Stored m.store (change_in mt) → Stored m.store (change_in mu) → Agree (change_in mu) (change_in mt) → Moves m m1 t mt → Moves m m2 u mu → Moves m1 m12 u mu → Moves m2 m21 t mt → SameButNumbers m m12 m21
    both x y is iu (Acts z op) mu ht hu kt ku st su agree Ht Hu Hu1 Ht2 =
        same_itself m m12 m21 (even t u two run_t run_u m1 m2 m12 m21 (Acts z op) mu refl refl (λ k j. refl) kt ku st su agree Ht Hu Hu1 Ht2)
    both x y is iu (Joins q l a b c) mu ht hu kt ku st su agree Ht Hu Hu1 Ht2 =
        same_itself m m12 m21 (even t u two run_t run_u m1 m2 m12 m21 (Joins q l a b c) mu refl refl (λ k j. refl) kt ku st su agree Ht Hu Hu1 Ht2)
    both x y is iu (Splits zt ct dt) (Splits zu cu du) ht hu kt ku st su agree Ht Hu Hu1 Ht2 = forked x y is iu zt ct dt zu cu du ht hu kt ku Ht Hu Hu1 Ht2
    both x y is iu (Splits zt ct dt) (Acts z op) ht hu kt ku st su agree Ht Hu Hu1 Ht2 = same_itself m m12 m21 (flipped (Acts z op) refl refl (λ k j. refl) kt ku st su tt Ht Hu Hu1 Ht2)
    both x y is iu (Splits zt ct dt) (Joins q l a b c) ht hu kt ku st su agree Ht Hu Hu1 Ht2 = same_itself m m12 m21 (flipped (Joins q l a b c) refl refl (λ k j. refl) kt ku st su tt Ht Hu Hu1 Ht2)

-- ONE MOVE IN TWO STATES

pub plain_kinds : (m : MachineState) (u : ℕ) (mv : Move) → IsPlain mv → AllAt (Kind m u) (puts u mv)
plain_kinds m u (Acts y op) p = (inl refl, tt)
plain_kinds m u (Splits y c d) p = (inl refl, tt)
plain_kinds m u (Joins q l a b c) p = absurd p

stored_by : (m : MachineState) (u : ℕ) (y : Task) (i : Instr) (op : Change) → ChangesBy (setting m u y) y.top m.store i op → Stored m.store op
stored_by m u y i Same h = tt
stored_by m u y i (Grows o) h = tt
stored_by m u y i (Edits n e) h = h.0

-- the end of a child changes no object, and makes no tasks
pub record Still (m : MachineState) (u : ℕ) (y : Task) (mv : Move) : Type 0 where
  pub change : change_in mv ≡ Same
  pub shape : Shape u y mv

last_still : (m : MachineState) (u : ℕ) (y z : Task) (q : ℕ) (r : ℤ × Option Name) (o : Option (ℤ × Option Name)) (oq ow : Option Task) → Still m u z (last_move u y q r o oq ow)
last_still m u y z q r None oq ow = record { change = refl; shape = tt }
last_still m u y z q r (Some other) None ow = record { change = refl; shape = tt }
last_still m u y z q r (Some other) (Some xq) None = record { change = refl; shape = tt }
last_still m u y z q r (Some other) (Some xq) (Some xw) = last_still_by_cases (is_left u)
  where
    last_still_by_cases : (b : Bool) → Still m u z (cond b (Joins q u (joined_task y) (joined_task xw) (resumed xq r other)) (Joins q (u - 1) (joined_task xw) (joined_task y) (resumed xq other r)))
    last_still_by_cases true = record { change = refl; shape = tt }
    last_still_by_cases false = record { change = refl; shape = tt }

-- how a task moves in the first of two states
pub record Moved (m w : MachineState) (u : ℕ) : Type 0 where
  pub move : Move
  pub here : Moves m w u move
  pub kinds : AllAt (Kind m u) (puts u move)
  pub quiet : (v : ℕ) → (v ≡ u → ⊥) → result_at (slice_get m.tasks v) ≡ None → result_at (slice_get (sets (puts u move) m.tasks) v) ≡ None

module _ (m m1 : MachineState) (K : IsForkJoinState m) (u : ℕ) (y : Task) (running : y.status ≡ Running) (going : m.end ≡ None) (iu : slice_get m.tasks u ≡ Some y) (run_u : is_running (slice_get m.tasks u) ≡ true) (w w1 : MachineState) (i : Instr) where
  abbrev P : Type 0
  P = Plain m m1 u y running going w w1 i

  abbrev E : Type 0
  E = Last m m1 u y running going w w1

  above : (h : E) → parents m.tasks u ≡ Some h.parent
  above h = ap parent_of iu ∙ h.above

  abbrev last : ℕ → Move
  last q = last_move u y q (result_of y.top) (result_at (slice_get m.tasks (sibling u))) (slice_get m.tasks q) (slice_get m.tasks (sibling u))

  pub moved_last : E → Moved m w u
  moved_last h = record {
    move = last h.parent;
    here = subst (λ z. Moves m z u (last h.parent)) (sym h.here) (last_moves m u y h.parent (result_of y.top) iu (result_at (slice_get m.tasks (sibling u))));
    kinds = last_kinds m K u y h.parent (result_of y.top) (above h) (runs_tell (slice_get m.tasks u) run_u).2 (result_at (slice_get m.tasks (sibling u))) refl (slice_get m.tasks h.parent) (slice_get m.tasks (sibling u));
    quiet = λ v ne none. last_quiet m.tasks u y h.parent (result_of y.top) (result_at (slice_get m.tasks (sibling u))) (slice_get m.tasks h.parent) (slice_get m.tasks (sibling u)) v ne none;
  }

  pub plain_resolved : P → Resolved m w m1 w1 u y i
  plain_resolved h = record { move = h.move; here = h.here; there = h.there; kinds = plain_kinds m u h.move h.plain; stored = stored_by m u y i (change_in h.move) h.by; shape = h.shape; by = inr h.by }

  module _ (t : ℕ) (two : t ≡ u → ⊥) (run_t : is_running (slice_get m.tasks t) ≡ true) (mt : Move) (M : Moves m m1 t mt) (kt : AllAt (Kind m t) (puts t mt)) (iu1 : slice_get m1.tasks u ≡ Some y)
      (quiet : result_at (slice_get m.tasks (sibling u)) ≡ None → result_at (slice_get (sets (puts t mt) m.tasks) (sibling u)) ≡ None) where
    pub last_resolved : E → Resolved m w m1 w1 u y i
    unfolding moved_last
    last_resolved h =
        let V = moved_last h in
        let S = last_still m u y y h.parent (result_of y.top) (result_at (slice_get m.tasks (sibling u))) (slice_get m.tasks h.parent) (slice_get m.tasks (sibling u)) in
        record {
          move = last h.parent;
          here = V.here;
          there =
              subst (λ mv. Moves m1 w1 u mv) (last_same m m1 K t u mt M two run_t run_u kt h.parent (above h) y (result_of y.top) quiet)
              (subst (λ z. Moves m1 z u (last_move u y h.parent (result_of y.top) (result_at (slice_get m1.tasks (sibling u))) (slice_get m1.tasks h.parent) (slice_get m1.tasks (sibling u)))) (sym h.there)
              (last_moves m1 u y h.parent (result_of y.top) iu1 (result_at (slice_get m1.tasks (sibling u)))));
          kinds = V.kinds;
          stored = subst (Stored m.store) (sym S.change) tt;
          shape = S.shape;
          by = inl S.change;
        }
