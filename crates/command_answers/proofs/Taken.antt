-- Each step of a legal journal is taken: its task runs, and the machine continues.
use Rattle.command_answers.proofs.Common.{◌≡◌, ℕ, zero, suc, ◌+◌, true, None, List, [], ◌∷◌, ◌++◌, length, replicate, is_none, ◌⊎◌, inl, inr, refl, ap, sym, subst, ◌∙◌, arith, append_assoc, and_parts, length-append, length-replicate, none_is, IsProgram, ProgramText, can_step, run, run_from, run_on, Kind, Took, Ran, Chunk, Begin, PutOff, Mark, More, Sweep, EntryValue, SettingsValue, field_limit, Ledger, after, refusal, is_legal, is_legal_from, ledger_of, tasks_in, tasks_of, journals_can_be_cut, entries_move_machine, kind_machine, fewer_steps_are_legal, split_leaves}
use Rattle.made_program_laws.specs.below.run_trace.{End as EndOf, Fuel}

-- LISTS OF STEPS

abbrev head_or : ℕ → List ℕ → ℕ
head_or d [] = d
head_or d (x ∷ xs) = x

abbrev tail : List ℕ → List ℕ
tail [] = []
tail (x ∷ xs) = xs

no_item : (b a : List ℕ) (t : ℕ) → [] ≡ b ++ t ∷ a → ⊥
no_item [] a t e = cc
no_item (x ∷ b) a t e = cc

-- two concatenated lists, cut at an item, which is in the first or in the second
cut_at : (xs ys b a : List ℕ) (t : ℕ) → xs ++ ys ≡ b ++ t ∷ a → ((c : List ℕ) × (xs ≡ b ++ t ∷ c)) ⊎ ((d : List ℕ) × (b ≡ xs ++ d) × (ys ≡ d ++ t ∷ a))
cut_at [] ys b a t e = inr (b, refl, e)
cut_at (x ∷ xs) ys [] a t e = inl (xs, let h : x ≡ t = ap (head_or x) e in ap (λ z. z ∷ xs) h)
cut_at (x ∷ xs) ys (z ∷ b) a t e =
    let h : x ≡ z = ap (head_or x) e in
    elim (cut_at xs ys b a t (ap tail e)) [ inl r ↦ inl (r.0, ap (λ q. x ∷ q) r.1 ∙ ap (λ q. q ∷ (b ++ t ∷ r.0)) h) | inr r ↦ inr (r.0, ap (λ q. q ∷ b) (sym h) ∙ ap (λ q. x ∷ q) r.1, r.2) ]

-- an item of a list of equal ones
same_front : (k u : ℕ) (b c : List ℕ) (t : ℕ) → replicate k u ≡ b ++ t ∷ c → (t ≡ u) × (b ≡ replicate (length b) u)
same_front zero u b c t e = absurd (no_item b c t e)
same_front (suc k) u [] c t e = (let h : u ≡ t = ap (head_or u) e in sym h, refl)
same_front (suc k) u (x ∷ b) c t e =
    let r = same_front k u b c t (ap tail e) in
    let h : u ≡ x = ap (head_or u) e in
    (r.0, ap (λ q. q ∷ b) (sym h) ∙ ap (λ q. u ∷ q) r.1)

count_of : (k u : ℕ) (b c : List ℕ) (t : ℕ) → replicate k u ≡ b ++ t ∷ c → k ≡ suc (length b + length c)
count_of k u b c t e =
    let a : length (replicate k u) ≡ k = length-replicate k u in
    let d : length (b ++ t ∷ c) ≡ length b + length (t ∷ c) = length-append b (t ∷ c) in
    let f : length (replicate k u) ≡ length (b ++ t ∷ c) = ap length e in
    let g : length (t ∷ c) ≡ suc (length c) = refl in
    omega (arith, a, d, f, g)

-- STEPS OF ENTRIES

module _ (p : ProgramText) (s : SettingsValue) (I : IsProgram p) where
  module _ (first : List EntryValue) (legal : is_legal p s first ≡ true) where
    abbrev l : Ledger
    l = ledger_of p s first

    -- step j of an entry of more than j steps
    entry_taken : (w u k j n : ℕ) → refusal p s l (record { worker = w; kind = Ran u k }) ≡ None → k ≡ suc (j + n) → can_step (run_from p l.machine (replicate j u)) u ≡ true
    entry_taken w u k j n free count =
        let fewer = fewer_steps_are_legal p s l w u (suc j) k (omega (arith, count)) free in
        ap (λ m. can_step m u) (sym (kind_machine p s l w (Ran u j))) ∙ (split_leaves p s first w u j I legal fewer).1

    within : (w : ℕ) (kind : Kind) (b c : List ℕ) (t : ℕ) → refusal p s l (record { worker = w; kind = kind }) ≡ None → tasks_in kind ≡ b ++ t ∷ c → can_step (run_from p l.machine b) t ≡ true
    within w (Ran u k) b c t free e =
        let same = same_front k u b c t e in
        let taken = entry_taken w u k (length b) (length c) free (count_of k u b c t e) in
        subst (λ z. can_step (run_from p l.machine z) t ≡ true) (sym same.1) (subst (λ z. can_step (run_from p l.machine (replicate (length b) u)) z ≡ true) (sym same.0) taken)
    within w (Took u) b c t free e = absurd (no_item b c t e)
    within w (Chunk u) b c t free e = absurd (no_item b c t e)
    within w (Begin u) b c t free e = absurd (no_item b c t e)
    within w (EndOf u x y z) b c t free e = absurd (no_item b c t e)
    within w (PutOff u) b c t free e = absurd (no_item b c t e)
    within w (Mark u) b c t free e = absurd (no_item b c t e)
    within w (More u n) b c t free e = absurd (no_item b c t e)
    within w (Sweep u g) b c t free e = absurd (no_item b c t e)
    within w Fuel b c t free e = absurd (no_item b c t e)

  -- the steps of the entries after the first ones
  steps_from : (es first : List EntryValue) → is_legal p s (first ++ es) ≡ true → (before after : List ℕ) (t : ℕ) → tasks_of es ≡ before ++ t ∷ after → can_step (run_from p (ledger_of p s first).machine before) t ≡ true
  steps_from [] first legal before after t q = absurd (no_item before after t q)
  steps_from (e ∷ es) first legal before later t q =
      let l = ledger_of p s first in
      let now = (journals_can_be_cut p s first (e ∷ es)).legal.0 legal in
      let free : refusal p s l e ≡ None = none_is (refusal p s l e) (and_parts (is_none (refusal p s l e)) (is_legal_from p s (after p s l e) es) now.1).0 in
      elim (cut_at (tasks_in e.kind) (tasks_of es) before later t q) [
        | inl r ↦ within first now.0 e.worker e.kind before r.0 t free r.1
        | inr r ↦
            let next = steps_from es (first ++ e ∷ []) (subst (λ j. is_legal p s j ≡ true) (sym (append_assoc first (e ∷ []) es)) legal) r.0 later t r.2 in
            let moved : (ledger_of p s (first ++ e ∷ [])).machine ≡ run_from p l.machine (tasks_in e.kind) =
            ap (λ (z : Ledger). z.machine) (journals_can_be_cut p s first (e ∷ [])).accounts ∙ entries_move_machine p s l e in
            subst (λ z. can_step (run_from p l.machine z) t ≡ true) (sym r.1)
            (ap (λ m. can_step m t) (run_on p (tasks_in e.kind) r.0 l.machine) ∙ (ap (λ m. can_step (run_from p m r.0) t) (sym moved) ∙ next))
      ]

pub step_taken : (p : ProgramText) (s : SettingsValue) (journal : List EntryValue) (before later : List ℕ) (t : ℕ) → IsProgram p → is_legal p s journal ≡ true → tasks_of journal ≡ before ++ t ∷ later → can_step (run p (field_limit s.version) before) t ≡ true
step_taken p s journal before later t I legal e = steps_from p s I journal [] legal before later t e
