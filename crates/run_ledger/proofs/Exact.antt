-- A large object has exactly the words that the step asks for.
use Rattle.run_ledger.proofs.Common.{◌≡◌, ℕ, pos, ◌+◌, ◌<◌, ◌≤◌, arith, true, false, Option, Some, None, List, length, slice_get, replicate, refl, ap, sym, ◌∙◌, leb-false, same_Some, length-replicate, got_within, got_some, none_some, Instr, Set, Mov, Movr, Nil as NilOf, Calc, Same, Jmp, Jz, Newm, Pack, Getr, Geti, Putr, Puti, Cntr, Cnti, Freeze, Cas, Call, Par, Ret, Out, Line, ProgramText, line_at, Name, Object, Frame, Task, Size, MachineState, Effect, StepContext, effect, made, object_at, counts_in, int_in, or_trap, words_asked, words_for, setting, fetched, step, follow, can_step, asked, asked_line, next_name, asked_at, made_here, step_taken, can_task, chunk_words, is_small_size, object_words_of, words_at}

-- each `pack` of the program takes at most 16 registers of each kind
abbrev pub PacksAreSmall : ProgramText → Type 0
PacksAreSmall p = (g n : ℕ) (line : Line) (d r i : ℕ) → line_at p g n ≡ Some line → line.instr ≡ Pack d r i → (r ≤ 16) × (i ≤ 16)

-- it makes an object of exactly w words
abbrev MakesJust : StepContext → Frame → List (List Object) → ℕ → Effect → Type 0
MakesJust s f store w e = (d : ℕ) × (o : Object) × (e ≡ made s f store d o) × (object_words_of (Some o) ≡ w)

newm_just : (s : StepContext) (f : Frame) (store : List (List Object)) (d : ℕ) (o : Option (ℕ × ℕ)) (w : ℕ) → words_for o ≡ Some w
    → MakesJust s f store w (or_trap Size o (λ n. made s f store d (record { strand = s.strand; mutable = true; refs = replicate n.0 None; ints = replicate n.1 (pos 0) })))
newm_just s f store d None w e = none_some e
newm_just s f store d (Some n) w e = (
  d,
  record { strand = s.strand; mutable = true; refs = replicate n.0 None; ints = replicate n.1 (pos 0) },
  refl,
  ap (λ k. 2 + k + length (replicate n.1 (pos 0))) (length-replicate {A = Option Name} n.0 None) ∙ (ap (λ k. 2 + n.0 + k) (length-replicate n.1 (pos 0)) ∙ same_Some (2 + n.0 + n.1) w e),
)

pack_small : {A : Type 0} (r i w : ℕ) → 2 + r + i ≡ w → r ≤ 16 → i ≤ 16 → is_small_size w ≡ false → A
pack_small r i w e hr hi large = let a : chunk_words < w = leb-false w chunk_words large in absurd (omega arith)

effect_just : (s : StepContext) (f : Frame) (store : List (List Object)) (instr : Instr) (w : ℕ) → ((d r i : ℕ) → instr ≡ Pack d r i → (r ≤ 16) × (i ≤ 16)) → words_asked s.field_limit f instr ≡ Some w → is_small_size w ≡ false
    → MakesJust s f store w (effect s f store instr)
effect_just s f store (Newm d a b) w packs h large = newm_just s f store d (counts_in s.field_limit (int_in f a) (int_in f b)) w h
effect_just s f store (Pack d r i) w packs h large = let q = packs d r i refl in pack_small r i w (same_Some (2 + r + i) w h) q.0 q.1 large
effect_just s f store (Set d k) w packs h large = none_some h
effect_just s f store (Mov d a) w packs h large = none_some h
effect_just s f store (Movr d a) w packs h large = none_some h
effect_just s f store (NilOf d) w packs h large = none_some h
effect_just s f store (Calc op d a b) w packs h large = none_some h
effect_just s f store (Same d a b) w packs h large = none_some h
effect_just s f store (Jmp to) w packs h large = none_some h
effect_just s f store (Jz a to) w packs h large = none_some h
effect_just s f store (Getr d o k) w packs h large = none_some h
effect_just s f store (Geti d o k) w packs h large = none_some h
effect_just s f store (Putr o k v) w packs h large = none_some h
effect_just s f store (Puti o k v) w packs h large = none_some h
effect_just s f store (Cntr d o) w packs h large = none_some h
effect_just s f store (Cnti d o) w packs h large = none_some h
effect_just s f store (Freeze o) w packs h large = none_some h
effect_just s f store (Cas d o k c v) w packs h large = none_some h
effect_just s f store (Call g) w packs h large = none_some h
effect_just s f store (Par g k) w packs h large = none_some h
effect_just s f store Ret w packs h large = none_some h
effect_just s f store (Out a) w packs h large = none_some h

module _ (p : ProgramText) (small : PacksAreSmall p) (m : MachineState) (t : ℕ) (can : can_step m t ≡ true) (rows : length m.store ≡ length m.tasks) where
  line_by : (x : Task) (o : Option Line) (w : ℕ) → slice_get m.tasks t ≡ Some x → fetched p x.top ≡ o → asked_line m.field_limit x.top o ≡ Some w → is_small_size w ≡ false → words_at (step p m t) (next_name t m.store) ≡ w
  line_by x None w is il h large = none_some h
  line_by x (Some line) w is il h large =
      let e = effect_just (setting m t x) x.top m.store line.instr w (λ d r i. small x.top.function x.top.next line d r i il) h large in
      let lt : t < length m.store = let a : t < length m.tasks = got_within m.tasks t x is in omega arith in
      let row = got_some m.store t lt in
      ap object_words_of (ap (λ (s : MachineState). object_at s.store (next_name t m.store)) (step_taken p m t x line can is il ∙ ap (follow m t x line.number) e.2) ∙ made_here m.store t row.0 e.1 row.1) ∙ e.3

  pub large_exact : (w : ℕ) → asked p m t ≡ Some w → is_small_size w ≡ false → words_at (step p m t) (next_name t m.store) ≡ w
  large_exact w h large =
      let x = can_task m t can in
      line_by x.0 (fetched p x.0.top) w x.1 refl (sym (asked_at p m t x.0 x.1 x.2) ∙ h) large
