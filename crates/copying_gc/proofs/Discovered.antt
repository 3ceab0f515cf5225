-- What a search finds is what survives.
use Rattle.copying_gc.proofs.Common.{◌≡◌, ℕ, suc, ◌+◌, ◌<◌, ◌≤◌, List, [], ◌∷◌, ◌++◌, length, get_or, take, fold, refl, sym, ap, ◌∙◌, subst, arith, inl, inr, Option, Some, None, Contains, ◌↔◌, length-append, All, map, append_assoc, append-nil, take_more, take_all, get_or_append_left, take-append-le, fold-append, Addr, Birth, Cell, Born, IsBorn, IsObject, ChunkValue, cell_of, HeapIsClosed, HasObjectAt, IsSoundReference, RefersTo, Once, once_push, In, in_append_left, in_append_right, in_append_cases, contains_from_in, in_from_contains, all_from, in_read, read_in, reached_within, CallFrame, Survivor, olds, old_of, IsSurvivor, CopyStarts, CollectorValue, found_in, all_found, visited_reference, visited_at, birth_in, IsTarget, frame_references, as_reference, with_chunks}
use Rattle.object_layout.proofs.ChunkLaws as laws
use Rattle.address_laws.proofs.Puts as puts
use Rattle.copying_gc.proofs.FoundLemmas as marks
use Rattle.copying_gc.proofs.FoundLemmas.{birth_live, live_birth, born_live}

-- ---- what has been found so far

abbrev pub Grows : {X : Type 0} → List X → List X → Type 0
Grows {X} xs ys = (more : List X) × (ys ≡ xs ++ more)

olds_push : (xs ys : List Survivor) → olds (xs ++ ys) ≡ olds xs ++ olds ys
olds_push [] ys = refl
olds_push (x ∷ xs) ys = ap (λ (zs : List Addr). x.old ∷ zs) (olds_push xs ys)

module _ (h : List ChunkValue) (from : List (Option Addr)) where
  pub record Discovered (s : CollectorValue) : Type 0 where
    pub marked : s.heap.chunks ≡ all_found h (olds s.found)
    pub born : (x : Survivor) → In s.found x → (cell_of h x.old).mark ≡ Born x.birth
    pub kept : (a : Addr) → In (olds s.found) a → IsSurvivor h from a
    pub once : Once (olds s.found)

  pub record Visits (s : CollectorValue) (rs : List (Option Addr)) (t : CollectorValue) : Type 0 where
    pub discovered : Discovered t
    pub grows : Grows s.found t.found
    pub covers : (a : Addr) → In rs (Some a) → HasObjectAt h a → In (olds t.found) a

  stays : (s : CollectorValue) → Discovered s → Grows s.found s.found
  stays s d = ([], sym (append-nil s.found))

  grows_in : (xs ys : List Survivor) → Grows xs ys → (a : Addr) → In (olds xs) a → In (olds ys) a
  grows_in xs ys g a i = subst (λ (zs : List Addr). In zs a) (sym (ap olds g.1 ∙ olds_push xs g.0)) (in_append_left (olds xs) (olds g.0) a i)

  -- the marks show what was found
  live_now : (s : CollectorValue) → Discovered s → (a : Addr) → HasObjectAt h a → (In (olds s.found) a → ⊥) → cell_of s.heap.chunks a ≡ cell_of h a
  live_now s d a l n = ap (λ (k : List ChunkValue). cell_of k a) d.marked ∙ marks.found_kept h (olds s.found) a n

  module _ (s : CollectorValue) (d : Discovered s) (a : Addr) (kept : HasObjectAt h a → IsSurvivor h from a) where
    visit_found : (b : Birth) → birth_in (cell_of s.heap.chunks a).mark ≡ Some b → Visits s (Some a ∷ []) (visited_at s a (Some b))
    visit_found b e =
        let now : (cell_of s.heap.chunks a).mark ≡ Born b = birth_live (cell_of s.heap.chunks a).mark b e in
        let there : HasObjectAt s.heap.chunks a = born_live (cell_of s.heap.chunks a).mark b now in
        let was = marks.found_live h (olds s.found) a (subst (λ (k : List ChunkValue). HasObjectAt k a) d.marked there) in
        let same : cell_of s.heap.chunks a ≡ cell_of h a = live_now s d a was.0 was.1 in
        let x : Survivor = record { birth = b; old = a } in
        let more : olds (s.found ++ x ∷ []) ≡ olds s.found ++ a ∷ [] = olds_push s.found (x ∷ []) in
        record {
          discovered = record {
            marked = ap (λ (k : List ChunkValue). found_in k a) d.marked ∙ (sym (marks.found_push h (olds s.found) a) ∙ ap (all_found h) (sym more));
            born = λ y i. elim (in_append_cases s.found (x ∷ []) y i) [
              | inl j ↦ d.born y j
              | inr j ↦ elim j [
                | inl q ↦ subst (λ (z : Survivor). (cell_of h z.old).mark ≡ Born z.birth) q (sym (ap (λ (c : Cell). c.mark) same) ∙ now)
                | inr z ↦ absurd z
              ]
            ];
            kept = λ c i. elim (in_append_cases (olds s.found) (a ∷ []) c (subst (λ (zs : List Addr). In zs c) more i)) [
              | inl j ↦ d.kept c j
              | inr j ↦ elim j [
                | inl q ↦ subst (IsSurvivor h from) q (kept was.0)
                | inr z ↦ absurd z
              ]
            ];
            once = subst Once (sym more) (once_push (olds s.found) a d.once was.1);
          };
          grows = (x ∷ [], refl);
          covers = λ c i l. elim i [
            | inl q ↦ subst (λ (zs : List Addr). In zs c) (sym more) (in_append_right (olds s.found) (a ∷ []) c (inl (some_same q)))
            | inr z ↦ absurd z
          ];
        }
      where
        some_same : {c : Addr} → Some a ≡ Some c → a ≡ c
        some_same e = cc

    visit_known : birth_in (cell_of s.heap.chunks a).mark ≡ None → Visits s (Some a ∷ []) s
    visit_known e =
        record {
          discovered = d;
          grows = stays s d;
          covers = λ c i l. elim i [
            | inl q ↦ known c (same_some q) l
            | inr z ↦ absurd z
          ];
        }
      where
        same_some : {c : Addr} → Some a ≡ Some c → a ≡ c
        same_some e = cc

        known : (c : Addr) → a ≡ c → HasObjectAt h c → In (olds s.found) c
        known c q l =
            elim (puts.in_or_not (olds s.found) c) [
              | inl i ↦ i
              | inr n ↦
                  let now : HasObjectAt s.heap.chunks c = subst (λ (x : Cell). IsBorn x.mark) (sym (live_now s d c l n)) l in
                  absurd (live_birth (cell_of s.heap.chunks a).mark (subst (HasObjectAt s.heap.chunks) (sym q) now) e)
            ]

    visit_at : (b : Option Birth) → birth_in (cell_of s.heap.chunks a).mark ≡ b → Visits s (Some a ∷ []) (visited_at s a b)
    visit_at None e = visit_known e
    visit_at (Some b) e = visit_found b e

  pub visit_one : (s : CollectorValue) → Discovered s → (r : Option Addr) → ((a : Addr) → r ≡ Some a → HasObjectAt h a → IsSurvivor h from a) → Visits s (r ∷ []) (visited_reference s r)
  visit_one s d None kept =
      record {
        discovered = d;
        grows = stays s d;
        covers = λ c i l. elim i [ inl q ↦ absurd (none q) | inr z ↦ absurd z ];
      }
    where
      none : {c : Addr} → None ≡ Some c → ⊥
      none e = absurd cc
  visit_one s d (Some a) kept = visit_at s d a (kept a refl) (birth_in (cell_of s.heap.chunks a).mark) refl

  visits_then : (s t u : CollectorValue) (r : Option Addr) (rs : List (Option Addr)) → Visits s (r ∷ []) t → Visits t rs u → Visits s (r ∷ rs) u
  visits_then s t u r rs v w =
      record {
        discovered = w.discovered;
        grows = (v.grows.0 ++ w.grows.0, w.grows.1 ∙ (ap (λ (xs : List Survivor). xs ++ w.grows.0) v.grows.1 ∙ append_assoc s.found v.grows.0 w.grows.0));
        covers = λ a i l. elim i [
          | inl q ↦ grows_in t.found u.found w.grows a (v.covers a (inl q) l)
          | inr j ↦ w.covers a j l
        ];
      }

  -- each of a list of references is followed
  pub visit_all : (s : CollectorValue) → Discovered s → (rs : List (Option Addr)) → ((a : Addr) → In rs (Some a) → HasObjectAt h a → IsSurvivor h from a) → Visits s rs (fold visited_reference s rs)
  visit_all s d [] kept = record { discovered = d; grows = stays s d; covers = λ a i l. absurd i }
  visit_all s d (r ∷ rs) kept =
      let v = visit_one s d r (λ a e l. kept a (inl e) l) in
      visits_then s (visited_reference s r) (fold visited_reference s (r ∷ rs)) r rs v (visit_all (visited_reference s r) v.discovered rs (λ a i l. kept a (inr i) l))

  pub discovered_none : (b : CollectorValue) → b.heap.chunks ≡ h → b.found ≡ [] → Discovered b
  discovered_none b e n = record {
    marked = e ∙ sym (ap (λ (xs : List Survivor). all_found h (olds xs)) n);
    born = λ x i. absurd (subst (λ (xs : List Survivor). In xs x) n i);
    kept = λ a i. absurd (subst (λ (xs : List Survivor). In (olds xs) a) n i);
    once = subst (λ (xs : List Survivor). Once (olds xs)) (sym n) tt;
  }

  -- if nothing is left to follow, exactly the survivors are found
  pub found_exactly : (s : CollectorValue) → Discovered s → ((a : Addr) → In from (Some a) → HasObjectAt h a → In (olds s.found) a)
      → ((m a : Addr) → In (olds s.found) m → In (cell_of h m).refs (Some a) → HasObjectAt h a → In (olds s.found) a)
      → (a : Addr) → Contains (olds s.found) a ↔ IsSurvivor h from a
  found_exactly s d first closed a = (
    λ c. d.kept a (in_from_contains (olds s.found) a c),
    λ w. contains_from_in (olds s.found) a (reached_within (CopyStarts h from) (RefersTo h) (In (olds s.found))
        (λ b q. first b (in_from_contains from (Some b) q.1) q.0)
        (λ m b i q. closed m b i (in_from_contains (cell_of h m).refs (Some b) q.2) q.1)
        a w),
  )

  -- all to which the first n found objects refer is found
  pub record Going (s : CollectorValue) (n : ℕ) : Type 0 where
    pub discovered : Discovered s
    pub first : (a : Addr) → In from (Some a) → HasObjectAt h a → In (olds s.found) a
    pub closed : (m a : Addr) → In (olds (take n s.found)) m → In (cell_of h m).refs (Some a) → HasObjectAt h a → In (olds s.found) a
    pub within : n ≤ length s.found

  pub survivor_live : (a : Addr) → IsSurvivor h from a → HasObjectAt h a
  survivor_live a w = reached_within (CopyStarts h from) (RefersTo h) (HasObjectAt h) (λ b q. q.0) (λ m b i q. q.1) a w

  in_olds : (xs : List Survivor) (x : Survivor) → In xs x → In (olds xs) x.old
  in_olds [] x i = i
  in_olds (y ∷ ys) x (inl e) = inl (ap old_of e)
  in_olds (y ∷ ys) x (inr i) = inr (in_olds ys x i)

  pub found_births : (s : CollectorValue) → Discovered s → All (λ (x : Survivor). (cell_of h x.old).mark ≡ Born x.birth) s.found
  found_births s d = λ k x l. d.born (get_or s.found k x) (in_read s.found k x l)

  module _ (s : CollectorValue) (n : ℕ) (g : Going s n) (x : Survivor) (l : n < length s.found) (e : x ≡ get_or s.found n x) where
    next_in : In (olds s.found) x.old
    next_in = in_olds s.found x (subst (In s.found) (sym e) (in_read s.found n x l))

    pub next_live : HasObjectAt h x.old
    next_live = survivor_live x.old (g.discovered.kept x.old next_in)

    same_refs : (cell_of s.heap.chunks x.old).refs ≡ (cell_of h x.old).refs
    same_refs = ap (λ (k : List ChunkValue). (cell_of k x.old).refs) g.discovered.marked ∙ marks.all_found_refs h (olds s.found) x.old

    -- the next one's references were followed
    pub going_more : Going (fold visited_reference s (cell_of s.heap.chunks x.old).refs) (n + 1)
    going_more =
        let v = visit_all s g.discovered (cell_of s.heap.chunks x.old).refs
        (λ a i live. let w = g.discovered.kept x.old next_in in (suc w.0, (x.old, w.1, (next_live, live, contains_from_in (cell_of h x.old).refs (Some a) (subst (λ (rs : List (Option Addr)). In rs (Some a)) same_refs i))))) in
        let t : CollectorValue = fold visited_reference s (cell_of s.heap.chunks x.old).refs in
        let len : length t.found ≡ length s.found + length v.grows.0 = ap length v.grows.1 ∙ length-append s.found v.grows.0 in
        let front : take n t.found ≡ take n s.found = ap (take n) v.grows.1 ∙ take-append-le n s.found v.grows.0 g.within in
        let here : get_or t.found n x ≡ x = ap (λ (xs : List Survivor). get_or xs n x) v.grows.1 ∙ (get_or_append_left s.found v.grows.0 x n l ∙ sym e) in
        let more : take (n + 1) t.found ≡ take n s.found ++ x ∷ [] =
        take_more t.found n x (omega arith) ∙ (ap (λ (y : Survivor). take n t.found ++ y ∷ []) here ∙ ap (λ (ys : List Survivor). ys ++ x ∷ []) front) in
        record {
          discovered = v.discovered;
          first = λ a i live. grows_in s.found t.found v.grows a (g.first a i live);
          closed = λ m a i j live. elim (in_append_cases (olds (take n s.found)) (x.old ∷ []) m (subst (λ (as' : List Addr). In as' m) (ap olds more ∙ olds_push (take n s.found) (x ∷ [])) i)) [
            | inl q ↦ grows_in s.found t.found v.grows a (g.closed m a q j live)
            | inr q ↦ elim q [
              | inl p ↦ v.covers a (subst (λ (rs : List (Option Addr)). In rs (Some a)) (sym (same_refs ∙ ap (λ (b : Addr). (cell_of h b).refs) p)) j) live
              | inr z ↦ absurd z
            ]
          ];
          within = omega arith;
        }

  pub going_all : (s : CollectorValue) (n : ℕ) → Going s n → length s.found ≤ n → (a : Addr) → Contains (olds s.found) a ↔ IsSurvivor h from a
  going_all s n g l = found_exactly s g.discovered g.first (λ m a i j live. g.closed m a (subst (λ (xs : List Survivor). In (olds xs) m) (sym (take_all n s.found l)) i) j live)

-- ---- what calls require

module _ (h : List ChunkValue) (from : List (Option Addr)) (closed : HeapIsClosed h) (s : CollectorValue) (d : Discovered h from s) where
  pub target_now : (r : Option Addr) → IsSoundReference h r → IsTarget s.heap.chunks r
  target_now r t = subst (λ (k : List ChunkValue). IsTarget k r) (sym d.marked) (marks.found_target h (olds s.found) r (marks.sound_target h r t))

  pub targets_now : (rs : List (Option Addr)) → All (IsSoundReference h) rs → All (IsTarget s.heap.chunks) rs
  targets_now rs all = λ k r l. target_now (get_or rs k r) (all k r l)

  pub refs_now : (a : Addr) → HasObjectAt h a → All (IsTarget s.heap.chunks) (cell_of s.heap.chunks a).refs
  refs_now a l =
      subst (λ (rs : List (Option Addr)). All (IsTarget s.heap.chunks) rs)
      (sym (ap (λ (k : List ChunkValue). (cell_of k a).refs) d.marked ∙ marks.all_found_refs h (olds s.found) a))
      (targets_now (cell_of h a).refs (closed a l))

  -- it is still an object, found or not
  pub object_now : (a : Addr) → HasObjectAt h a → IsObject (cell_of s.heap.chunks a).mark
  object_now a l = subst (λ (k : List ChunkValue). IsObject (cell_of k a).mark) (sym d.marked) (marks.all_found_object h (olds s.found) a (laws.born_object h a l))

-- the frames and the roots were followed
module _ (b : CollectorValue) (none : b.found ≡ []) (fs : List CallFrame) (roots : List Addr) (sound : All (IsSoundReference b.heap.chunks) (frame_references fs ++ map as_reference roots)) where
  pub frames_targets : All (IsTarget b.heap.chunks) (frame_references fs)
  frames_targets = all_from (IsTarget b.heap.chunks) (frame_references fs) (λ r i. marks.sound_target b.heap.chunks r (read_in (IsSoundReference b.heap.chunks) (frame_references fs ++ map as_reference roots) r (in_append_left (frame_references fs) (map as_reference roots) r i) sound))

  pub roots_targets : (s : CollectorValue) → s ≡ fold visited_reference b (frame_references fs) → All (IsTarget s.heap.chunks) (map as_reference roots)
  roots_targets s e =
      marks.fold_all_targets b (frame_references fs) s.heap.chunks (ap (λ (t : CollectorValue). t.heap.chunks) e) (map as_reference roots)
      (all_from (IsTarget b.heap.chunks) (map as_reference roots) (λ r i. marks.sound_target b.heap.chunks r (read_in (IsSoundReference b.heap.chunks) (frame_references fs ++ map as_reference roots) r (in_append_right (frame_references fs) (map as_reference roots) r i) sound)))

  pub begun : (s t : CollectorValue) → s ≡ fold visited_reference b (frame_references fs) → t ≡ fold visited_reference s (map as_reference roots) → Going b.heap.chunks (frame_references fs ++ map as_reference roots) t 0
  begun s t e f =
      let from = frame_references fs ++ map as_reference roots in
      let whole : t ≡ fold visited_reference b from = f ∙ (ap (λ (x : CollectorValue). fold visited_reference x (map as_reference roots)) e ∙ sym (fold-append visited_reference b (frame_references fs) (map as_reference roots))) in
      let v = visit_all b.heap.chunks from b (discovered_none b.heap.chunks from b refl none) from (λ a i l. (0, (l, contains_from_in from (Some a) i))) in
      subst (λ (x : CollectorValue). Going b.heap.chunks from x 0) (sym whole) (record {
        discovered = v.discovered;
        first = λ a i l. v.covers a i l;
        closed = λ m a i j l. absurd i;
        within = omega arith;
      })

-- ---- a search changes the heap's objects and what is found, and nothing else

abbrev pub Searches : CollectorValue → CollectorValue → Type 0
Searches s t = t ≡ record s { heap = with_chunks s.heap t.heap.chunks; found = t.found }

pub searches_then : (s t u : CollectorValue) → Searches s t → Searches t u → Searches s u
searches_then s t u p q = q ∙ ap (λ (z : CollectorValue). let w : CollectorValue = record z { heap = with_chunks z.heap u.heap.chunks; found = u.found } in w) p

searches_at : (s : CollectorValue) (a : Addr) (b : Option Birth) → Searches s (visited_at s a b)
searches_at s a None = refl
searches_at s a (Some b) = refl

searches_one : (s : CollectorValue) (r : Option Addr) → Searches s (visited_reference s r)
searches_one s None = refl
searches_one s (Some a) = searches_at s a (birth_in (cell_of s.heap.chunks a).mark)

searches_all : (s : CollectorValue) (rs : List (Option Addr)) → Searches s (fold visited_reference s rs)
searches_all s [] = refl
searches_all s (r ∷ rs) = searches_then s (visited_reference s r) (fold visited_reference (visited_reference s r) rs) (searches_one s r) (searches_all (visited_reference s r) rs)

pub searches_by : (s t : CollectorValue) (rs : List (Option Addr)) → t ≡ fold visited_reference s rs → Searches s t
searches_by s t rs e = subst (Searches s) (sym e) (searches_all s rs)
