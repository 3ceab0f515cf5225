-- How a store changes the value and what is noted, by its instruction; and that it is no read.
use Rattle.remote_access.proofs.Common.{◌≡◌, ℕ, pos, true, Some, None, length, slice_get, refl, ap, sym, subst, ◌∙◌, option_flatten, both_ways, same_Some, Instr, Putr, Puti, Cas, Frame, Object, Task, int_in, place_in, ref_in, same_name, Ledger, JustReads, Belongings, Memory, with_belongings, Stores, BelongingsAfterStore, StoresInto, StoreMarks, StoresNotes}

-- a write, by its instruction: how it changes the value, and what is noted
abbrev pub Made : (v v' : Memory) (m : Ledger) (t : ℕ) (h : Belongings) (x : Task) (y : Object) (i : Instr) → Belongings → Type 0
Made v v' m t h x y i g = (C : Stores v v' m t h x y i) × StoreMarks v v' m t h x y i C × BelongingsAfterStore v v' m t h x y i C g

pub by_putr : (v v' : Memory) (m : Ledger) (t : ℕ) (h : Belongings) (x : Task) (y : Object) (i : Instr) (o k b : ℕ) → i ≡ Putr o k b → (C : StoresInto v v' m t h x y o k b None) → StoresNotes (with_belongings v t h) (with_belongings v' t C.0) t C.4 C.1 → Made v v' m t h x y i C.0
by_putr v v' m t h x y i o k b e C N = subst (λ j. Made v v' m t h x y j C.0) (sym e) (C, N, refl)

pub by_cas : (v v' : Memory) (m : Ledger) (t : ℕ) (h : Belongings) (x : Task) (y : Object) (i : Instr) (d o k e b : ℕ) → i ≡ Cas d o k e b → (C : StoresInto v v' m t h x y o k b (Some (d, pos 1))) → StoresNotes (with_belongings v t h) (with_belongings v' t C.0) t C.4 C.1 → Made v v' m t h x y i C.0
by_cas v v' m t h x y i d o k w b e C N = subst (λ j. Made v v' m t h x y j C.0) (sym e) (C, N, refl)

pub reads_putr : (x : Task) (i : Instr) (y : Object) (f : Frame) (o k b : ℕ) → i ≡ Putr o k b → JustReads x i y f → ⊥
reads_putr x i y f o k b e r = subst (λ j. JustReads x j y f) e r

pub reads_puti : (x : Task) (i : Instr) (y : Object) (f : Frame) (o k b : ℕ) → i ≡ Puti o k b → JustReads x i y f → ⊥
reads_puti x i y f o k b e r = subst (λ j. JustReads x j y f) e r

pub reads_cas : (x : Task) (i : Instr) (y : Object) (f : Frame) (d o k w b at : ℕ) → i ≡ Cas d o k w b → place_in (length y.refs) (int_in x.top k) ≡ Some at → same_name (option_flatten (slice_get y.refs at)) (ref_in x.top w) ≡ true → JustReads x i y f → ⊥
reads_cas x i y f d o k w b at e place same r =
    let s = subst (λ j. JustReads x j y f) e r in
    let q : s.0 ≡ at = same_Some s.0 at (sym s.1 ∙ place) in
    both_ways (same_name (option_flatten (slice_get y.refs at)) (ref_in x.top w)) (ap (λ n. same_name (option_flatten (slice_get y.refs n)) (ref_in x.top w)) (sym q) ∙ s.3) same
