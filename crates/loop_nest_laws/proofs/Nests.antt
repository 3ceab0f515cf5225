-- The nest of a frame, composed of the nests that it begins.
use Rattle.loop_nest_laws.proofs.Common.{◌≡◌, ℕ, ℤ, pos, zero, suc, ◌+◌, ◌-◌, ◌^◌, ◌<◌, ◌≤◌, Some, List, [], ◌∷◌, ◌++◌, length, slice_get, ◌⊎◌, inl, inr, refl, ap, sym, subst, ◌∙◌, arith, length-append, ◌+ℤ◌, int_wrapping_add, int_wrapping_sub, int_wrapping_div, w64, cases_lt, same_Some, In, in_append_left, in_append_right, got_front, got_back, Instr, Call, Par, ProgramText, Frame, Task, int_in, after, Loop, Activation, Takes, called_frame, left_frame, right_frame, Starts, Begins, ComesBy, InNest, CallsBody, ForksIn, IsCallFor, wrapping_sum}
use Rattle.loop_nest_laws.proofs.Turns.{IsPlain}
use Rattle.loop_nest_laws.proofs.Halves.{shift_shift, shift_none, sum_append}

-- where the two halves meet
abbrev pub middle : ℤ → ℤ → ℤ
middle a b = int_wrapping_add w64 a (int_wrapping_div w64 (int_wrapping_sub w64 b a) (pos 2))

call_same : (f g : ℕ) → Call f ≡ Call g → f ≡ g
call_same f g e = cc

module _ (p : ProgramText) (limit : ℕ) (ts : List ℕ) (loop : Loop) (apart : loop.body ≡ loop.whole → ⊥) where
  plain_starts : (a b : Activation) (i : ℕ) (instr : Instr) → IsPlain instr → Starts p limit ts loop a i instr b → ⊥
  plain_starts a b i (Par g h) plain starts = plain
  plain_starts a b i (Call g) plain starts = plain
  plain_starts a b i _ plain starts = starts

  -- the step after the first i divides the numbers of its frame at z
  pub record SplitsAt (i : ℕ) (z : ℤ) : Type 0 where
    pub t : ℕ
    pub x : Task
    pub turn : slice_get ts i ≡ Some t
    pub is : slice_get (after p limit ts i).tasks t ≡ Some x
    pub here : z ≡ middle (int_in x.top 0) (int_in x.top 1)

  pub one_split : (i : ℕ) (y z : ℤ) → SplitsAt i y → SplitsAt i z → y ≡ z
  one_split i y z s q =
      let t : s.t ≡ q.t = same_Some s.t q.t (sym s.turn ∙ q.turn) in
      let x : s.x ≡ q.x = same_Some s.x q.x (sym s.is ∙ (ap (slice_get (after p limit ts i).tasks) t ∙ q.is)) in
      s.here ∙ (ap (λ (w : Task). middle (int_in w.top 0) (int_in w.top 1)) x ∙ sym q.here)

  -- the nest of a frame that loops over n numbers from the first one and returns k; its task has depth d
  pub record Told (a : Activation) (g : Frame) (d : ℕ) (first : ℤ) (n : ℕ) (k : ℤ) : Type 0 where
    pub calls : List ℕ
    pub results : List ℤ
    pub forks : List ℕ
    pub count : length calls ≡ n
    pub results_count : length results ≡ n
    pub each : (j i : ℕ) (h : ℤ) → slice_get calls j ≡ Some i → slice_get results j ≡ Some h → IsCallFor p limit ts loop a g (first +ℤ pos j) i h
    pub all : (i : ℕ) → CallsBody p limit ts loop a i → In calls i
    pub sum : k ≡ wrapping_sum results
    pub forks_count : length forks ≡ n - 1
    pub forks_each : (j i : ℕ) → slice_get forks j ≡ Some i → ForksIn p limit ts loop a i
    pub forks_split : (j i : ℕ) → slice_get forks j ≡ Some i → SplitsAt i (first +ℤ pos (suc j))
    pub forks_all : (i : ℕ) → ForksIn p limit ts loop a i → In forks i
    pub levels : (h : ℕ) → n ≤ 2 ^ h → (b : Activation) (x : Task) → InNest p limit ts loop a b → slice_get (after p limit ts b.since).tasks b.task ≡ Some x → x.depth ≤ d + h

  -- A NEST INSIDE ANOTHER

  module _ (a b : Activation) (begins : Begins p limit ts loop a b) where
    abbrev pub in_nest : (c : Activation) → InNest p limit ts loop b c → InNest p limit ts loop a c
    in_nest c q = (suc q.0, (b, begins, q.1))

    abbrev pub call_in : (i : ℕ) → CallsBody p limit ts loop b i → CallsBody p limit ts loop a i
    call_in i c = record { frame = c.frame; within = in_nest c.frame c.within; takes = c.takes; calls = c.calls }

    abbrev pub fork_in : (i : ℕ) → ForksIn p limit ts loop b i → ForksIn p limit ts loop a i
    fork_in i c = record { frame = c.frame; within = in_nest c.frame c.within; takes = c.takes; left = c.left; right = c.right; forks = c.forks }

    call_for : (g : Frame) (z : ℤ) (i : ℕ) (h : ℤ) → IsCallFor p limit ts loop b g z i h → IsCallFor p limit ts loop a g z i h
    call_for g z i h c = record { call = call_in i c.call; begun = c.begun; is = c.is; function = c.function; place = c.place; finds = c.finds; end = c.end; ref = c.ref; back = c.back }

  module _ (a : Activation) (g : Frame) (d : ℕ) (first : ℤ) (at_depth : (x : Task) → slice_get (after p limit ts a.since).tasks a.task ≡ Some x → x.depth ≡ d) where
    own_level : (h : ℕ) (c : Activation) (x : Task) → c ≡ a → slice_get (after p limit ts c.since).tasks c.task ≡ Some x → x.depth ≤ d + h
    own_level h c x e is = let q : x.depth ≡ d = at_depth x (subst (λ (z : Activation). slice_get (after p limit ts z.since).tasks z.task ≡ Some x) e is) in omega arith

    -- NO NUMBER

    module _ (only : (j : ℕ) (v : Takes p limit ts a j) → IsPlain v.line.instr) where
      alone : (c : Activation) → InNest p limit ts loop a c → c ≡ a
      alone c (zero, e) = e
      alone c (suc n, (b, begins, rest)) = absurd (plain_starts a b begins.0 begins.1.line.instr (only begins.0 begins.1) begins.2)

      own_takes : (c : Activation) (i : ℕ) → c ≡ a → (v : Takes p limit ts c i) → IsPlain v.line.instr
      own_takes c i e = subst (λ (z : Activation). (v : Takes p limit ts z i) → IsPlain v.line.instr) (sym e) (only i)

      pub told_none : Told a g d first 0 (pos 0)
      told_none = record {
        calls = [];
        results = [];
        forks = [];
        count = refl;
        results_count = refl;
        each = λ j i h e q. absurd (nothing_at j i e);
        all = λ i c. absurd (subst IsPlain c.calls (own_takes c.frame i (alone c.frame c.within) c.takes));
        sum = refl;
        forks_count = refl;
        forks_each = λ j i e. absurd (nothing_at j i e);
        forks_split = λ j i e. absurd (nothing_at j i e);
        forks_all = λ i c. absurd (subst IsPlain c.forks (own_takes c.frame i (alone c.frame c.within) c.takes));
        levels = λ h le c x q is. own_level h c x (alone c q) is;
      }
        where
          nothing_at : (j i : ℕ) → slice_get [] j ≡ Some i → ⊥
          nothing_at zero i e = absurd cc
          nothing_at (suc j) i e = absurd cc

    -- ONE NUMBER

    module _ (k0 : ℕ) (only : (j : ℕ) (v : Takes p limit ts a j) → IsPlain v.line.instr ⊎ ((j ≡ k0) × (v.line.instr ≡ Call loop.body))) where
      starts_not : (b : Activation) (i : ℕ) (instr : Instr) → instr ≡ Call loop.body → Starts p limit ts loop a i instr b → ⊥
      starts_not b i instr e starts = apart (subst (λ (q : Instr). Starts p limit ts loop a i q b) e starts).0

      lone : (c : Activation) → InNest p limit ts loop a c → c ≡ a
      lone c (zero, e) = e
      lone c (suc n, (b, begins, rest)) = elim (only begins.0 begins.1) [
        | inl plain ↦ absurd (plain_starts a b begins.0 begins.1.line.instr plain begins.2)
        | inr call ↦ absurd (starts_not b begins.0 begins.1.line.instr call.1 begins.2)
      ]

      lone_takes : (c : Activation) (i : ℕ) → c ≡ a → (v : Takes p limit ts c i) → IsPlain v.line.instr ⊎ ((i ≡ k0) × (v.line.instr ≡ Call loop.body))
      lone_takes c i e = subst (λ (z : Activation). (v : Takes p limit ts z i) → IsPlain v.line.instr ⊎ ((i ≡ k0) × (v.line.instr ≡ Call loop.body))) (sym e) (only i)

      pub told_one : (k : ℤ) → IsCallFor p limit ts loop a g first k0 k → Told a g d first 1 k
      told_one k call = record {
        calls = k0 ∷ [];
        results = k ∷ [];
        forks = [];
        count = refl;
        results_count = refl;
        each = one_at;
        all = λ i c. elim (lone_takes c.frame i (lone c.frame c.within) c.takes) [
          | inl plain ↦ absurd (subst IsPlain c.calls plain)
          | inr e ↦ inl (sym e.0)
        ];
        sum = refl;
        forks_count = refl;
        forks_each = λ j i e. absurd (nothing_at j i e);
        forks_split = λ j i e. absurd (nothing_at j i e);
        forks_all = λ i c. elim (lone_takes c.frame i (lone c.frame c.within) c.takes) [
          | inl plain ↦ absurd (subst IsPlain c.forks plain)
          | inr e ↦ let two : Par c.left c.right ≡ Call loop.body = sym c.forks ∙ e.1 in absurd cc
        ];
        levels = λ h le c x q is. own_level h c x (lone c q) is;
      }
        where
          nothing_at : (j i : ℕ) → slice_get [] j ≡ Some i → ⊥
          nothing_at zero i e = absurd cc
          nothing_at (suc j) i e = absurd cc

          one_at : (j i : ℕ) (h : ℤ) → slice_get (k0 ∷ []) j ≡ Some i → slice_get (k ∷ []) j ≡ Some h → IsCallFor p limit ts loop a g (first +ℤ pos j) i h
          one_at zero i h e q =
              let same : k0 ≡ i = cc in
              let result : k ≡ h = cc in
              subst (λ z. IsCallFor p limit ts loop a g z i h) (sym (shift_none first))
              (subst (λ z. IsCallFor p limit ts loop a g first z h) same (subst (λ z. IsCallFor p limit ts loop a g first k0 z) result call))
          one_at (suc j) i h e q = absurd (nothing_at j i e)

    -- A HALF: its frame calls that of a nest

    module _ (k0 n : ℕ) (k : ℤ) (takes : Takes p limit ts a k0) (calls : takes.line.instr ≡ Call loop.whole)
        (only : (j : ℕ) (v : Takes p limit ts a j) → IsPlain v.line.instr ⊎ ((j ≡ k0) × (v.line.instr ≡ Call loop.whole)))
        (told : Told (called_frame a k0) g d first n k) where
      abbrev b : Activation
      b = called_frame a k0

      begins : Begins p limit ts loop a b
      begins = (k0, takes, subst (λ (q : Instr). Starts p limit ts loop a k0 q b) (sym calls) (refl, refl))

      inside : (c : Activation) → InNest p limit ts loop a c → (c ≡ a) ⊎ InNest p limit ts loop b c
      inside c (zero, e) = inl e
      inside c (suc q, (c', begins', rest)) = elim (only begins'.0 begins'.1) [
        | inl plain ↦ absurd (plain_starts a c' begins'.0 begins'.1.line.instr plain begins'.2)
        | inr call ↦
            let starts = subst (λ (q : Instr). Starts p limit ts loop a begins'.0 q c') call.1 begins'.2 in
            let same : c' ≡ b = starts.1 ∙ ap (called_frame a) call.0 in
            inr (q, subst (λ z. ComesBy p limit ts loop q z c) same rest)
      ]

      own : (c : Activation) (i : ℕ) → c ≡ a → (v : Takes p limit ts c i) → IsPlain v.line.instr ⊎ ((i ≡ k0) × (v.line.instr ≡ Call loop.whole))
      own c i e = subst (λ (z : Activation). (v : Takes p limit ts z i) → IsPlain v.line.instr ⊎ ((i ≡ k0) × (v.line.instr ≡ Call loop.whole))) (sym e) (only i)

      call_of : (i : ℕ) → CallsBody p limit ts loop a i → CallsBody p limit ts loop b i
      call_of i c = elim (inside c.frame c.within) [
        | inl e ↦ elim (own c.frame i e c.takes) [
          | inl plain ↦ absurd (subst IsPlain c.calls plain)
          | inr call ↦ absurd (apart (call_same loop.body loop.whole (sym c.calls ∙ call.1)))
        ]
        | inr q ↦ record { frame = c.frame; within = q; takes = c.takes; calls = c.calls }
      ]

      fork_of : (i : ℕ) → ForksIn p limit ts loop a i → ForksIn p limit ts loop b i
      fork_of i c = elim (inside c.frame c.within) [
        | inl e ↦ elim (own c.frame i e c.takes) [
          | inl plain ↦ absurd (subst IsPlain c.forks plain)
          | inr call ↦ let two : Par c.left c.right ≡ Call loop.whole = sym c.forks ∙ call.1 in absurd cc
        ]
        | inr q ↦ record { frame = c.frame; within = q; takes = c.takes; left = c.left; right = c.right; forks = c.forks }
      ]

      pub told_half : Told a g d first n k
      told_half = record {
        calls = told.calls;
        results = told.results;
        forks = told.forks;
        count = told.count;
        results_count = told.results_count;
        each = λ j i h e q. call_for a b begins g (first +ℤ pos j) i h (told.each j i h e q);
        all = λ i c. told.all i (call_of i c);
        sum = told.sum;
        forks_count = told.forks_count;
        forks_each = λ j i e. fork_in a b begins i (told.forks_each j i e);
        forks_split = told.forks_split;
        forks_all = λ i c. told.forks_all i (fork_of i c);
        levels = λ h le c x q is. elim (inside c q) [ inl e ↦ own_level h c x e is | inr r ↦ told.levels h le c x r is ];
      }

    -- TWO HALVES

    module _ (k0 n1 n2 : ℕ) (k1 k2 : ℤ) (takes : Takes p limit ts a k0) (forks : takes.line.instr ≡ Par loop.left loop.right)
        (only : (j : ℕ) (v : Takes p limit ts a j) → IsPlain v.line.instr ⊎ ((j ≡ k0) × (v.line.instr ≡ Par loop.left loop.right)))
        (splits : SplitsAt k0 (first +ℤ pos n1)) (some1 : 0 < n1) (some2 : 0 < n2) (balanced : (h : ℕ) → n1 + n2 ≤ 2 ^ suc h → (n1 ≤ 2 ^ h) × (n2 ≤ 2 ^ h))
        (left : Told (left_frame p limit ts k0) g (d + 1) first n1 k1)
        (right : Told (right_frame p limit ts k0) g (d + 1) (first +ℤ pos n1) n2 k2) where
      abbrev l : Activation
      l = left_frame p limit ts k0

      abbrev r : Activation
      r = right_frame p limit ts k0

      begins_left : Begins p limit ts loop a l
      begins_left = (k0, takes, subst (λ (q : Instr). Starts p limit ts loop a k0 q l) (sym forks) (inl (refl, refl)))

      begins_right : Begins p limit ts loop a r
      begins_right = (k0, takes, subst (λ (q : Instr). Starts p limit ts loop a k0 q r) (sym forks) (inr (refl, refl)))

      within : (c : Activation) → InNest p limit ts loop a c → (c ≡ a) ⊎ (InNest p limit ts loop l c ⊎ InNest p limit ts loop r c)
      within c (zero, e) = inl e
      within c (suc q, (c', begins', rest)) = elim (only begins'.0 begins'.1) [
        | inl plain ↦ absurd (plain_starts a c' begins'.0 begins'.1.line.instr plain begins'.2)
        | inr fork ↦ elim (subst (λ (q : Instr). Starts p limit ts loop a begins'.0 q c') fork.1 begins'.2) [
          | inl e ↦ inr (inl (q, subst (λ z. ComesBy p limit ts loop q z c) (e.1 ∙ ap (left_frame p limit ts) fork.0) rest))
          | inr e ↦ inr (inr (q, subst (λ z. ComesBy p limit ts loop q z c) (e.1 ∙ ap (right_frame p limit ts) fork.0) rest))
        ]
      ]

      own_step : (c : Activation) (i : ℕ) → c ≡ a → (v : Takes p limit ts c i) → IsPlain v.line.instr ⊎ ((i ≡ k0) × (v.line.instr ≡ Par loop.left loop.right))
      own_step c i e = subst (λ (z : Activation). (v : Takes p limit ts z i) → IsPlain v.line.instr ⊎ ((i ≡ k0) × (v.line.instr ≡ Par loop.left loop.right))) (sym e) (only i)

      abbrev calls : List ℕ
      calls = left.calls ++ right.calls

      abbrev results : List ℤ
      results = left.results ++ right.results

      abbrev all_forks : List ℕ
      all_forks = left.forks ++ k0 ∷ right.forks

      each_call : (j i : ℕ) (h : ℤ) → slice_get calls j ≡ Some i → slice_get results j ≡ Some h → IsCallFor p limit ts loop a g (first +ℤ pos j) i h
      each_call j i h e q = elim (cases_lt j n1) [
        | inl lt ↦
            call_for a l begins_left g (first +ℤ pos j) i h
            (left.each j i h (sym (got_front left.calls right.calls j (omega (arith, left.count))) ∙ e) (sym (got_front left.results right.results j (omega (arith, left.results_count))) ∙ q))
        | inr ge ↦
            let one : length left.calls + (j - n1) ≡ j = omega (arith, left.count) in
            let two : length left.results + (j - n1) ≡ j = omega (arith, left.results_count) in
            let sum : n1 + (j - n1) ≡ j = omega arith in
            call_for a r begins_right g (first +ℤ pos j) i h
            (subst (λ z. IsCallFor p limit ts loop r g z i h) (shift_shift first n1 (j - n1) ∙ ap (λ z. first +ℤ pos z) sum)
            (right.each (j - n1) i h (sym (got_back left.calls right.calls (j - n1)) ∙ (ap (slice_get calls) one ∙ e)) (sym (got_back left.results right.results (j - n1)) ∙ (ap (slice_get results) two ∙ q))))
      ]

      all_calls : (i : ℕ) → CallsBody p limit ts loop a i → In calls i
      all_calls i c = elim (within c.frame c.within) [
        | inl e ↦ elim (own_step c.frame i e c.takes) [
          | inl plain ↦ absurd (subst IsPlain c.calls plain)
          | inr fork ↦ let two : Call loop.body ≡ Par loop.left loop.right = sym c.calls ∙ fork.1 in absurd cc
        ]
        | inr more ↦ elim more [
          | inl q ↦ in_append_left left.calls right.calls i (left.all i (record { frame = c.frame; within = q; takes = c.takes; calls = c.calls }))
          | inr q ↦ in_append_right left.calls right.calls i (right.all i (record { frame = c.frame; within = q; takes = c.takes; calls = c.calls }))
        ]
      ]

      all_forks_in : (i : ℕ) → ForksIn p limit ts loop a i → In all_forks i
      all_forks_in i c = elim (within c.frame c.within) [
        | inl e ↦ elim (own_step c.frame i e c.takes) [
          | inl plain ↦ absurd (subst IsPlain c.forks plain)
          | inr fork ↦ in_append_right left.forks (k0 ∷ right.forks) i (inl (sym fork.0))
        ]
        | inr more ↦ elim more [
          | inl q ↦ in_append_left left.forks (k0 ∷ right.forks) i (left.forks_all i (record { frame = c.frame; within = q; takes = c.takes; left = c.left; right = c.right; forks = c.forks }))
          | inr q ↦ in_append_right left.forks (k0 ∷ right.forks) i (inr (right.forks_all i (record { frame = c.frame; within = q; takes = c.takes; left = c.left; right = c.right; forks = c.forks })))
        ]
      ]

      -- where a fork stands in the list
      fork_cases : (P : ℕ → ℕ → Type 0) → ((j i : ℕ) → slice_get left.forks j ≡ Some i → P j i) → P (n1 - 1) k0 → ((j i : ℕ) → slice_get right.forks j ≡ Some i → P (n1 + j) i)
          → (j i : ℕ) → slice_get all_forks j ≡ Some i → P j i
      fork_cases P on_left here on_right j i e = elim (cases_lt j (n1 - 1)) [
        | inl lt ↦ on_left j i (sym (got_front left.forks (k0 ∷ right.forks) j (omega (arith, left.forks_count))) ∙ e)
        | inr ge ↦ at_back (j - (n1 - 1)) refl ge (sym (got_back left.forks (k0 ∷ right.forks) (j - (n1 - 1))) ∙ (ap (slice_get all_forks) (let one : length left.forks + (j - (n1 - 1)) ≡ j = omega (arith, left.forks_count) in one) ∙ e))
      ]
        where
          at_back : (q : ℕ) → j - (n1 - 1) ≡ q → n1 - 1 ≤ j → slice_get (k0 ∷ right.forks) q ≡ Some i → P j i
          at_back zero eq ge h =
              let same : k0 ≡ i = cc in
              subst (λ z. P j z) same (subst (λ z. P z k0) (let one : n1 - 1 ≡ j = omega arith in one) here)
          at_back (suc q) eq ge h = subst (λ z. P z i) (let one : n1 + q ≡ j = omega arith in one) (on_right q i h)

      pub told_two : Told a g d first (n1 + n2) (int_wrapping_add w64 k1 k2)
      told_two = record {
        calls = calls;
        results = results;
        forks = all_forks;
        count = length-append left.calls right.calls ∙ (let e : length left.calls + length right.calls ≡ n1 + n2 = omega (arith, left.count, right.count) in e);
        results_count = length-append left.results right.results ∙ (let e : length left.results + length right.results ≡ n1 + n2 = omega (arith, left.results_count, right.results_count) in e);
        each = each_call;
        all = all_calls;
        sum = (λ z. int_wrapping_add w64 (left.sum z) (right.sum z)) ∙ sym (sums left.results right.results left.results_count right.results_count);
        forks_count =
            length-append left.forks (k0 ∷ right.forks)
            ∙ (let s : length (k0 ∷ right.forks) ≡ suc (length right.forks) = refl in
            let e : length left.forks + length (k0 ∷ right.forks) ≡ n1 + n2 - 1 = omega (arith, left.forks_count, right.forks_count) in e);
        forks_each =
            fork_cases (λ j i. ForksIn p limit ts loop a i) (λ j i e. fork_in a l begins_left i (left.forks_each j i e))
            (record { frame = a; within = (0, refl); takes = takes; left = loop.left; right = loop.right; forks = forks })
            (λ j i e. fork_in a r begins_right i (right.forks_each j i e));
        forks_split =
            fork_cases (λ j i. SplitsAt i (first +ℤ pos (suc j))) left.forks_split
            (subst (λ z. SplitsAt k0 (first +ℤ pos z)) (let one : n1 ≡ suc (n1 - 1) = omega arith in one) splits)
            (λ j i e. subst (λ z. SplitsAt i z) (shift_shift first n1 (suc j) ∙ ap (λ z. first +ℤ pos z) (let one : n1 + suc j ≡ suc (n1 + j) = omega arith in one)) (right.forks_split j i e));
        forks_all = all_forks_in;
        levels = level;
      }
        where
          sums : (xs ys : List ℤ) → length xs ≡ n1 → length ys ≡ n2 → wrapping_sum (xs ++ ys) ≡ int_wrapping_add w64 (wrapping_sum xs) (wrapping_sum ys)
          sums [] ys e1 e2 = let z : length {A = ℤ} [] ≡ 0 = refl in absurd (omega arith)
          sums (x ∷ xs) [] e1 e2 = let z : length {A = ℤ} [] ≡ 0 = refl in absurd (omega arith)
          sums (x ∷ xs) (y ∷ ys) e1 e2 = sum_append x y xs ys

          level : (h : ℕ) → n1 + n2 ≤ 2 ^ h → (b : Activation) (x : Task) → InNest p limit ts loop a b → slice_get (after p limit ts b.since).tasks b.task ≡ Some x → x.depth ≤ d + h
          level zero le b x q is = let one : 2 ^ zero ≡ 1 = refl in absurd (omega arith)
          level (suc h) le b x q is =
              let half = balanced h le in
              elim (within b q) [
                | inl e ↦ own_level (suc h) b x e is
                | inr more ↦ elim more [
                  | inl r ↦ let s : x.depth ≤ d + 1 + h = left.levels h half.0 b x r is in omega arith
                  | inr r ↦ let s : x.depth ≤ d + 1 + h = right.levels h half.1 b x r is in omega arith
                ]
              ]
