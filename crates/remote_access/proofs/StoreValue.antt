-- A store into an object of another task: how it changes the value, and what it notes.
use Rattle.remote_access.proofs.Common.{◌≡◌, ◌⊎◌, ℕ, ℤ, ◌+◌, ◌<◌, ◌≤◌, ◌&&◌, not, arith, true, false, Option, Some, None, List, ◌∷◌, length, length-set, slice_get, option_map, inl, inr, refl, ap, ap₂, sym, subst, ◌∙◌, same_Some, false_from_ne_true, Name, Task, ref_in, parents, path_le, Ledger, heap_of, Addr, Birth, Cell, size_of, cell_with_int as cell_int, with_ref as cell_ref, Located, located, owner_of as pool_owner, CallFrame, ref_of, int_of, node_on_path as tree_path, RefField, SetOf, content_after, content_at, own, Belongings, In, Memory, objects, sources, StoresAt, StoresNumberAt, gone_on, with_field, with_int_field, with_belongings, ReadsReference, KeepsOldValue, OthersNotes, StoresNotes, LiesWithOwner, Private, SharedValue, accounts, value_of, IsSharedValue, WorkerPartFits, belongings_of_part, part_idle, stands_now}
use Rattle.step_commit.specs.below.hh_model.{is_on_path}
use Rattle.step_commit.proofs.below.refinement.Store as store
use Rattle.step_commit.proofs.below.core_invariant.PartFitsMachine as link
use Rattle.remote_access.proofs.ForeignObject.{IsForeign, holds, register_at, x}
use Rattle.remote_access.proofs.WriteNoted as noting
use Rattle.remote_access.proofs.ObjectWritten as other
use Rattle.remote_access.proofs.TreePaths.{made_there, paths_same}

-- the name at an address that is read
pub reads_address : (at : Name → Addr → Type 0) (r : Option Addr) (x : Option Name) (a : Addr) → ReadsReference at r x → r ≡ Some a → (n : Name) × (x ≡ Some n) × at n a
reads_address at None None a h e = absurd cc
reads_address at None (Some n) a h e = absurd h
reads_address at (Some b) None a h e = absurd h
reads_address at (Some b) (Some n) a h e = (n, refl, subst (at n) (same_Some b a e) h)

module _ (w : SharedValue) (k : ℕ) (p : Private) (I : IsSharedValue w) (F : WorkerPartFits w k p) (on : (accounts w).end ≡ None) where
  abbrev t : ℕ
  t = p.task

  abbrev l : Ledger
  l = accounts w

  abbrev h : Belongings
  h = belongings_of_part p

  abbrev L : Ledger
  L = other.L w k p I F on

  abbrev v0 : Memory
  v0 = other.v0 w k p I F on

  abbrev X : Task
  X = x w k p I F on

  -- nothing is kept for the task's own heap
  none_kept : ((value_of w).noted t).keeps ≡ false
  none_kept = (stands_now w I on).keeps t ∙ ap (λ b. b && not (heap_of l t).swept) (part_idle w k p F on)

  pub made : (b u : ℕ) → pool_owner w.pool b ≡ Some u → u < length w.sets
  made b u e = subst (λ n. u < n) (sym I.noted) (made_there w I on u (sym ((link.alone w k p I F on).tree.made u) ∙ (link.W w k p I F on).made b u e))

  path_is : (a u : ℕ) → tree_path w.tree a u ≡ is_on_path L.machine.tasks a u
  path_is a u = paths_same w I on a u ∙ sym ((link.alone w k p I F on).tree.paths a u)

  -- of two tasks at most one is an ancestor of the other
  one_way : (a u : ℕ) → tree_path w.tree a u ≡ true → (a ≡ u → ⊥) → is_on_path L.machine.tasks u a ≡ false
  one_way a u path ne =
      false_from_ne_true (is_on_path L.machine.tasks u a) (λ back.
      let low = (link.sound w k p I F on).fork_join.tree.low in
      let x : a ≤ u = path_le (parents L.machine.tasks) low u a u (sym (path_is a u) ∙ path) in
      let y : u ≤ a = path_le (parents L.machine.tasks) low a u a back in
      ne (omega (arith, x, y)))

  module _ (n : Name) (a : Addr) (O : IsForeign w (with_belongings (value_of w) t h) L t n a) (o : ℕ) (held : ref_in X.top o ≡ Some n) (at_a : ref_of p.frames.top o ≡ Some a) where
    abbrev c : Cell
    c = other.c w k p I F on n a O

    abbrev u : ℕ
    u = own L n

    -- ---- A REFERENCE, from the register b, into the field i; the old value is overwritten; the step sets the number
    -- register swap, or none
    module _ (b i : ℕ) (swap : Option (ℕ × ℤ)) (overwritten : Option Addr) (was : slice_get c.refs i ≡ Some overwritten) (sets : List SetOf)
        (C : (z : ℕ) → content_at sets z ≡ option_map (content_after w.tree w.pool (record { object = a; field = i }) overwritten (ref_of p.frames.top b) z) (content_at w.sets z)) (top : CallFrame) (goes : top ≡ gone_on swap p.frames.top) where
      abbrev value : Option Addr
      value = ref_of p.frames.top b

      abbrev pub d : Cell
      d = cell_ref c i value

      pub size : size_of d ≡ size_of c
      size = ap (λ m. 2 + (m + length c.ints)) (length-set c.refs i value)

      abbrev pub f : Located → Located
      f = with_field i value

      abbrev old : Memory
      old = with_belongings v0 t h

      abbrev v1 : Memory
      v1 = other.v1 w k p I F on n a O d refl size f (λ number at birth. refl) sets top

      abbrev g : Belongings
      g = other.g w k p I F on n a O d refl size f (λ number at birth. refl) sets top

      abbrev new : Memory
      new = with_belongings v1 t g

      fields_of : (s : Located) → length (f s).refs ≡ length s.refs
      fields_of s = length-set s.refs i value

      down : (e : Addr) (y z : ℕ) → ref_of p.frames.top b ≡ Some e → v0.owner a.chunk ≡ Some y → v0.owner e.chunk ≡ Some z → is_on_path L.machine.tasks z y ≡ false → In (sources new z) (record { object = a; field = i })
      down e y z er ea ee off =
          let r = reads_address (LiesWithOwner (with_belongings (value_of w) t h) L) (ref_of p.frames.top b) (ref_in X.top b) e (register_at w k p I F on b) er in
          let yn : y ≡ u = same_Some y u (sym ea ∙ O.place.chunk) in
          let zr : z ≡ own L r.0 = same_Some z (own L r.0) (sym ee ∙ r.2.chunk) in
          let off' : is_on_path L.machine.tasks (own L r.0) u ≡ false = ap₂ (is_on_path L.machine.tasks) (sym zr) (sym yn) ∙ off in
          let is = link.task_is_in_machine w k p I F on in
          let above = store.above L (link.sound w k p I F on) t X is n r.0 (holds w k p I F on o n held) (holds w k p I F on b r.0 r.1) off' in
          let apart = store.apart L (link.sound w k p I F on) t X is n r.0 (holds w k p I F on o n held) (holds w k p I F on b r.0 r.1) off' in
          noting.notes_down w.tree w.pool w.sets sets a i overwritten value u O.place.chunk C e z er ee (path_is u z ∙ (ap (is_on_path L.machine.tasks u) zr ∙ above)) (λ q. apart (q ∙ zr)) (made e.chunk z ee)

      only : (z : ℕ) (s : RefField) → In (sources new z) s
          → In (sources old z) s ⊎ ((e : Addr) × (y : ℕ) × (ref_of p.frames.top b ≡ Some e) × (v0.owner e.chunk ≡ Some z) × (v0.owner a.chunk ≡ Some y) × (is_on_path L.machine.tasks z y ≡ false) × (s ≡ record { object = a; field = i }))
      only z s j = elim (noting.notes_only w.tree w.pool w.sets sets a i overwritten value u O.place.chunk C z s j) [
        | inl before ↦ inl before
        | inr added ↦ inr (added.0, u, added.1, added.2, O.place.chunk, one_way u z added.3 added.4, added.5)
      ]

      pub stores_at : StoresAt old new L t p.frames.top p.frames.below a b i swap
      stores_at = record {
        frames = ap (λ (y : Belongings). y.frames) (other.belongings_old w k p I F on n a O d refl size f (λ number at birth. refl) sets top);
        goes = ap (λ (y : Belongings). y.frames) (other.belongings_new w k p I F on n a O d refl size f (λ number at birth. refl) sets top) ∙ ap (λ (y : CallFrame). y ∷ p.frames.below) goes;
        writes = other.writes w k p I F on n a O d refl size f (λ number at birth. refl) sets top (λ s. refl) (λ s. refl) (λ s. ap (λ m. 2 + m + length s.ints) (fields_of s)) (λ s. refl)
            (λ z s j. noting.sources_grow w.tree w.pool w.sets sets a i overwritten value u O.place.chunk C z s j);
        down = down;
        only = only;
      }

      -- WHAT IS KEPT
      old_field : (s : Located) (e : Addr) (birth : Birth) → s ≡ located s.at.chunk s.at.offset birth c → slice_get s.refs i ≡ Some (Some e) → overwritten ≡ Some e
      old_field s e birth is at = same_Some overwritten (Some e) (sym was ∙ (ap (λ (y : Located). slice_get y.refs i) (sym is) ∙ at))

      keeps : (z : ℕ) → (z ≡ t → ⊥) → (old.noted z).keeps ≡ true → KeepsOldValue old new z a i
      keeps z ne on' = record {
        marked = refl;
        more = (noting.kept_more w.tree w.pool w.sets sets a i overwritten value u O.place.chunk C z).0;
        grows = (noting.kept_more w.tree w.pool w.sets sets a i overwritten value u O.place.chunk C z).1;
        old = λ y0 s e there j at field owner.
            let same : y0 ≡ u = same_Some y0 u (sym there ∙ O.place.chunk) in
            let y = other.read_old w k p I F on n a O d refl size f (λ number at' birth. refl) sets top s (subst (λ r. In (objects old r) s) same j) at in
            noting.keeps_old w.tree w.pool w.sets sets a i overwritten value u O.place.chunk C z e on' (old_field s e y.0 y.1 field) owner;
        only = λ e j. elim (noting.kept_only w.tree w.pool w.sets sets a i overwritten value u O.place.chunk C z e j) [
          | inl before ↦ inl before
          | inr added ↦
              let y = other.there_old w k p I F on n a O d refl size f (λ number at birth. refl) sets top in
              inr (u, y.0, y.1, y.2, ap (λ (s : Located). slice_get s.refs i) y.3.1 ∙ (was ∙ ap Some added.0), added.1, O.place.chunk)
        ];
      }

      pub stores_notes : StoresNotes old new t a i
      stores_notes = record {
        none = noting.keeps_noted w.tree w.pool w.sets sets a i overwritten value u O.place.chunk C t ∙ none_kept;
        keeps = λ z ne. noting.keeps_noted w.tree w.pool w.sets sets a i overwritten value u O.place.chunk C z;
        each = keeps;
      }

    -- ---- A NUMBER, from the register b, into the field i
    module _ (b i : ℕ) (top : CallFrame) (goes : top ≡ gone_on None p.frames.top) where
      abbrev pub number : ℤ
      number = int_of p.frames.top b

      abbrev pub d_number : Cell
      d_number = cell_int c i number

      pub size_number : size_of d_number ≡ size_of c
      size_number = ap (λ m. 2 + (length c.refs + m)) (length-set c.ints i number)

      abbrev pub f_number : Located → Located
      f_number = with_int_field i number

      abbrev new_number : Memory
      new_number = with_belongings (other.v1 w k p I F on n a O d_number refl size_number f_number (λ number at birth. refl) w.sets top) t (other.g w k p I F on n a O d_number refl size_number f_number (λ number at birth. refl) w.sets top)

      pub stores_number : StoresNumberAt (with_belongings v0 t h) new_number t p.frames.top p.frames.below a b i
      stores_number = record {
        frames = ap (λ (y : Belongings). y.frames) (other.belongings_old w k p I F on n a O d_number refl size_number f_number (λ number at birth. refl) w.sets top);
        goes = ap (λ (y : Belongings). y.frames) (other.belongings_new w k p I F on n a O d_number refl size_number f_number (λ number at birth. refl) w.sets top) ∙ ap (λ (y : CallFrame). y ∷ p.frames.below) goes;
        writes = other.writes w k p I F on n a O d_number refl size_number f_number (λ number at birth. refl) w.sets top (λ s. refl) (λ s. refl) (λ s. ap (λ m. 2 + length s.refs + m) (length-set s.ints i number)) (λ s. refl) (λ z s j. j);
        only = λ z s j. j;
      }

      pub number_notes : OthersNotes (with_belongings v0 t h) new_number t
      number_notes = record { none = none_kept; others = λ z ne. record { keeps = refl; kept = refl; marked = refl } }
