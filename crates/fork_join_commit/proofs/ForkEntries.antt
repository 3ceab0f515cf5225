-- An entry of a fork, as the call makes it.
use Rattle.fork_join_commit.proofs.Common.{◌≡◌, true, ℕ, zero, suc, ◌+◌, ◌<◌, ◌++◌, arith, false, option_map, Option, Some, None, List, [], ◌∷◌, length, length-append, length-set, slice_get, slice_set, inl, inr, refl, ap, sym, subst, ◌∙◌, option_flatten, cases_lt, got_back, got_front, got_other, got_past, got_set, ReservedVecValue, EntryValue, depth_of, SetOf, bare_noted, content_at, content_of, MarkingValue, Child, Private, ParkedTask, keeping, SharedValue, marks_at, rest_at, IsSharedValue, ForksOn, ForksTo, RestsFork, SetsFork, begun_rest, part_child, waiting_rest}
use Rattle.fork_join_commit.proofs.ForkEntered as fork
use Rattle.fork_join_commit.proofs.NextStepForks.{AsksFork}

-- ---- THE SLOTS: that of the task is put, and two come after it
module _ (rests : List (Option ParkedTask)) (p : Private) (made : p.task < length rests) (x y z : Option ParkedTask) where
  abbrev n : ℕ
  n = length rests

  abbrev front : List (Option ParkedTask)
  front = slice_set rests p.task z

  abbrev two : List (Option ParkedTask)
  two = x ∷ (y ∷ [])

  abbrev pub put_all : List (Option ParkedTask)
  put_all = front ++ two

  front_long : length front ≡ n
  front_long = length-set rests p.task z

  pub put_count : length put_all ≡ n + 2
  put_count = length-append front two ∙ ap (λ m. m + 2) front_long

  pub put_own : slice_get put_all p.task ≡ Some z
  put_own = got_front front two p.task (omega (arith, made, front_long)) ∙ got_set rests p.task z made

  behind : (i : ℕ) → slice_get put_all (n + i) ≡ slice_get two i
  behind i = ap (λ m. slice_get put_all (m + i)) (sym front_long) ∙ got_back front two i

  pub put_first : slice_get put_all n ≡ Some x
  put_first = ap (slice_get put_all) (let e : n ≡ n + 0 = omega arith in e) ∙ behind 0

  pub put_second : slice_get put_all (n + 1) ≡ Some y
  put_second = behind 1

  pub put_other : (u : ℕ) → (u ≡ p.task → ⊥) → (u ≡ n → ⊥) → (u ≡ n + 1 → ⊥) → rest_at put_all u ≡ rest_at rests u
  put_other u nt na nb =
      ap option_flatten (elim (cases_lt u n) [
        | inl lt ↦ got_front front two u (omega (arith, lt, front_long)) ∙ got_other rests p.task u z nt
        | inr le ↦ got_past put_all u (omega (arith, le, na, nb, put_count)) ∙ sym (got_past rests u le)
      ])

pub rests_fork : (rests : List (Option ParkedTask)) (p : Private) (left right sl sp sl' sp' : ℕ) (made : p.task < length rests)
    → RestsFork rests (put_all rests p made (Some (begun_rest (part_child p (length rests) left sl sp))) (Some (begun_rest (part_child p (length rests + 1) right sl' sp'))) (Some (waiting_rest p))) p left right
rests_fork rests p left right sl sp sl' sp' made =
    let x : Option ParkedTask = Some (begun_rest (part_child p (length rests) left sl sp)) in
    let y : Option ParkedTask = Some (begun_rest (part_child p (length rests + 1) right sl' sp')) in
    let z : Option ParkedTask = Some (waiting_rest p) in
    record {
      count = put_count rests p made x y z;
      parent = ap option_flatten (put_own rests p made x y z);
      left_slot = (sl, sp, ap option_flatten (put_first rests p made x y z));
      right_slot = (sl', sp', ap option_flatten (put_second rests p made x y z));
      others = λ u nt na nb. put_other rests p made x y z u nt na nb;
    }

-- two more tasks of which nothing is marked
unmarked_more : (marks : List (Option MarkingValue)) (u : ℕ) → marks_at (marks ++ None ∷ (None ∷ [])) u ≡ marks_at marks u
unmarked_more [] zero = refl
unmarked_more [] (suc zero) = refl
unmarked_more [] (suc (suc u)) = refl
unmarked_more (m ∷ marks) zero = refl
unmarked_more (m ∷ marks) (suc u) = unmarked_more marks u

module _ {w : SharedValue} {k : ℕ} {p : Private} (asks : AsksFork w k p) (left right number : ℕ) (B : ForksTo w p left right number) (shallow : depth_of w.tree p.task < 1000) where
  module _ (rests : List (Option ParkedTask)) (sets : List SetOf) (H : RestsFork w.rests rests p left right) (N : SetsFork w.sets sets p.task) (marks : List (Option MarkingValue)) (unmarked : marks ≡ slice_set w.marks p.task None ++ None ∷ (None ∷ [])) (j : ReservedVecValue EntryValue) where
    pub unmarked_at : (u : ℕ) → marks_at marks u ≡ marks_at (slice_set w.marks p.task None) u
    unmarked_at u = ap (λ ms. marks_at ms u) unmarked ∙ unmarked_more (slice_set w.marks p.task None) u

    abbrev pub forked_alone : SharedValue
    forked_alone = fork.w' asks left right number B shallow rests sets H N marks unmarked_at j

    pub alone_world : IsSharedValue forked_alone
    alone_world = fork.forked_world asks left right number B shallow rests sets H N marks unmarked_at j

    pub alone_forks : (a b : ℕ) → a ≡ length w.tree → b ≡ length w.tree + 1 → ForksOn w forked_alone k p a b
    alone_forks = fork.forked_on asks left right number B shallow rests sets H N marks unmarked_at j

-- ---- HOW THE CODE CHANGES SLOTS AND SETS

pub rests_fork_by : (rests after : List (Option ParkedTask)) (p : Private) (left right : ℕ) (first second : Child) → p.task < length rests
    → first ≡ part_child p (length rests) left first.heap.slots first.heap.spare → second ≡ part_child p (length rests + 1) right second.heap.slots second.heap.spare
    → after ≡ slice_set rests p.task (Some (waiting_rest p)) ++ Some (begun_rest first) ∷ (Some (begun_rest second) ∷ []) → RestsFork rests after p left right
rests_fork_by rests after p left right first second made ef es ea =
    let put : List (Option ParkedTask) = slice_set rests p.task (Some (waiting_rest p)) in
    let a : Child = part_child p (length rests) left first.heap.slots first.heap.spare in
    let b : Child = part_child p (length rests + 1) right second.heap.slots second.heap.spare in
    let is : after ≡ put ++ Some (begun_rest a) ∷ (Some (begun_rest b) ∷ []) =
    ea
    ∙ (ap (λ (c : Child). put ++ Some (begun_rest c) ∷ (Some (begun_rest second) ∷ [])) ef
    ∙ ap (λ (c : Child). put ++ Some (begun_rest a) ∷ (Some (begun_rest c) ∷ [])) es) in
    subst (λ hs. RestsFork rests hs p left right) (sym is) (rests_fork rests p left right first.heap.slots first.heap.spare second.heap.slots second.heap.spare made)

-- the set of the task keeps references, and two empty ones come after it
pub sets_fork : (sets put : List SetOf) (t : ℕ) → t < length sets → length put ≡ length sets → content_at put t ≡ option_map (keeping true) (content_at sets t) → ((u : ℕ) → (u ≡ t → ⊥) → slice_get put u ≡ slice_get sets u)
    → SetsFork sets ((put ++ bare_noted false ∷ []) ++ bare_noted false ∷ []) t
sets_fork sets put t made a own other =
    let x : SetOf = bare_noted false in
    let one : List SetOf = put ++ x ∷ [] in
    let b : length one ≡ length sets + 1 = length-append put (x ∷ []) ∙ ap (λ n. n + 1) a in
    let c : length (one ++ x ∷ []) ≡ length sets + 2 = length-append one (x ∷ []) ∙ (ap (λ n. n + 1) b ∙ (let e : length sets + 1 + 1 ≡ length sets + 2 = omega arith in e)) in
    let zero_more : length sets ≡ length put + 0 = omega (arith, a) in
    let one_more : length sets + 1 ≡ length one + 0 = omega (arith, b) in
    record {
      count = c;
      parent = ap (option_map content_of) (got_front one (x ∷ []) t (omega (arith, made, b)) ∙ got_front put (x ∷ []) t (omega (arith, made, a))) ∙ own;
      left_set = ap (option_map content_of) (got_front one (x ∷ []) (length sets) (omega (arith, b)) ∙ (ap (slice_get one) zero_more ∙ got_back put (x ∷ []) 0));
      right_set = ap (option_map content_of) (ap (slice_get (one ++ x ∷ [])) one_more ∙ got_back one (x ∷ []) 0);
      others = λ u nt na nb. ap (option_map content_of) (elim (cases_lt u (length sets)) [
        | inl lt ↦ got_front one (x ∷ []) u (omega (arith, lt, b)) ∙ (got_front put (x ∷ []) u (omega (arith, lt, a)) ∙ other u nt)
        | inr le ↦ got_past (one ++ x ∷ []) u (omega (arith, le, na, nb, c)) ∙ sym (got_past sets u le)
      ]);
    }
