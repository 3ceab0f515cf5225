-- One step allocates few words.
use Rattle.journal_laws.proofs.Common.{◌≡◌, ℕ, ℤ, pos, negsuc, ◌+◌, ◌≤◌, arith, Bool, true, false, cond, Option, Some, None, slice_get, nat_le, refl, subst, leb-true, same_Some, Instr, Newm, Pack, Line, ProgramText, Frame, Task, counts_in, int_in, words_asked, words_for, asked_by, asked_line, fetched, is_running, asked, packs_are_few, MachineState, ProgramsAskFew}

pub counts_few : (limit : ℕ) (a b : ℤ) (w : ℕ) → words_for (counts_in limit a b) ≡ Some w → w ≤ limit + 34
counts_few limit (pos a) (pos b) w e = counts_few_by_cases (nat_le (a + b) limit) refl e
  where
    counts_few_by_cases : (v : Bool) → nat_le (a + b) limit ≡ v → words_for (cond v (Some (a, b)) None) ≡ Some w → w ≤ limit + 34
    counts_few_by_cases true q h = let r : a + b ≤ limit = leb-true (a + b) limit q in let z : 2 + a + b ≡ w = same_Some (2 + a + b) w h in omega (arith, r, z)
    counts_few_by_cases false q h = absurd cc
counts_few limit (pos a) (negsuc b) w e = absurd cc
counts_few limit (negsuc a) b w e = absurd cc

instr_few : (limit : ℕ) (f : Frame) (i : Instr) (w : ℕ) → ((d r n : ℕ) → i ≡ Pack d r n → (r ≤ 16) × (n ≤ 16)) → words_asked limit f i ≡ Some w → w ≤ limit + 34
instr_few limit f (Newm d a b) w packs e = counts_few limit (int_in f a) (int_in f b) w e
instr_few limit f (Pack d r i) w packs e = let z : 2 + r + i ≡ w = same_Some (2 + r + i) w e in let q = packs d r i refl in let a = q.0 in let b = q.1 in omega (arith, z, a, b)
instr_few limit f _ w packs e = absurd cc

-- the words that a task allocates are those of its next line
pub asked_at_line : {P : Type 0} (p : ProgramText) (m : MachineState) (t w : ℕ) → ((x : Task) (line : Line) → fetched p x.top ≡ Some line → words_asked m.field_limit x.top line.instr ≡ Some w → P) → asked p m t ≡ Some w → P
asked_at_line {P} p m t w tells e = by_task (slice_get m.tasks t) e
  where
    by_line : (x : Task) (o : Option Line) → fetched p x.top ≡ o → asked_line m.field_limit x.top o ≡ Some w → P
    by_line x None il h = absurd cc
    by_line x (Some line) il h = tells x line il h

    by_run : (b : Bool) (o : Option ℕ) → cond b o None ≡ Some w → o ≡ Some w
    by_run true o h = h
    by_run false o h = absurd cc

    by_task : (o : Option Task) → asked_by p m o ≡ Some w → P
    by_task None h = absurd cc
    by_task (Some x) h = by_line x (fetched p x.top) refl (by_run (is_running (Some x)) (asked_line m.field_limit x.top (fetched p x.top)) h)

pub programs_ask_few : ProgramsAskFew
programs_ask_few p I limit m t w q e =
    asked_at_line p m t w (λ x line il h. subst (λ z. w ≤ z + 34) q (instr_few m.field_limit x.top line.instr w (λ d r n. packs_are_few p I x.top.function x.top.next line d r n il) h)) e
