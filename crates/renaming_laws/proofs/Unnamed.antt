-- An instruction does the same in another setting if nothing is renamed and all that it sees is the same.
use Rattle.renaming_laws.proofs.Common.{◌≡◌, ℕ, ◌==◌, Bool, true, false, Option, Some, None, List, length, slice_get, refl, ap, sym, subst, ◌∙◌, option_flatten, option_map, In, Instr, Name, Edge, Object, Frame, Effect, Goes, Prints, Calls, Forks, Returns, Traps, Stops, StepContext, effect, object_at, row_of, precedes, ref_to}
use Rattle.renaming_laws.proofs.Changed.{Change, Same, Grows, Edits, ChangesBy, Edit, SetRef, SetNumber, Freezes, Reaches, change_to, changed, edit_to}
use Rattle.renaming_laws.proofs.Effects.{EffectTo, IsSeen, Sees, SeenTo, TestTo, effect_carried}
use Rattle.renaming_laws.proofs.Fixed.{frame_fixed, object_fixed}

abbrev pub itself : ℕ → ℕ
itself t = t

ref_same : (r : Option Name) → ref_to itself r ≡ r
ref_same None = refl
ref_same (Some n) = refl

found_same : (o : Option (Option Name)) → option_map (ref_to itself) o ≡ o
found_same None = refl
found_same (Some r) = ap Some (ref_same r)

edit_same : (e : Edit) → edit_to itself e ≡ e
edit_same (SetRef at v) = ap (SetRef at) (ref_same v)
edit_same (SetNumber at k) = refl
edit_same Freezes = refl

change_same : (c : Change) → change_to itself c ≡ c
change_same Same = refl
change_same (Grows o) = ap Grows (object_fixed itself o refl (λ r i. refl))
change_same (Edits n e) = ap (Edits n) (edit_same e)

module _ (s : StepContext) (edges' : List Edge) (owner' : ℕ → ℕ) (x : Frame) (store store' : List (List Object)) (May : Bool → Name → ℕ → Type 0) where
  -- an object in both stores: equal except for fields that the instruction may not see
  pub record IsSame (n : Name) (o o' : Object) : Type 0 where
    pub mutable : o'.mutable ≡ o.mutable
    pub refs : length o'.refs ≡ length o.refs
    pub ints : length o'.ints ≡ length o.ints
    pub ref_at : (k : ℕ) → May false n k → slice_get o'.refs k ≡ slice_get o.refs k
    pub int_at : (k : ℕ) → May true n k → slice_get o'.ints k ≡ slice_get o.ints k

  pub record SeesSame : Type 0 where
    pub count : length (row_of (slice_get store' s.task)) ≡ length (row_of (slice_get store s.task))
    pub objects : (n : Name) → In x.refs (Some n) → (o : Object) × (o' : Object) × (object_at store n ≡ Some o) × (object_at store' n ≡ Some o') × IsSame n o o'
    pub owners : (n : Name) → In x.refs (Some n) → (owner' n.task == s.task) ≡ (s.owner n.task == s.task)
    pub tests : (n q : Name) (o : Object) (k : ℕ) → In x.refs (Some n) → object_at store n ≡ Some o → May false n k → option_flatten (slice_get o.refs k) ≡ Some q
        → (z : Object) × (z' : Object) × (object_at store q ≡ Some z) × (object_at store' q ≡ Some z') × (precedes edges' z'.strand s.strand ≡ precedes s.edges z.strand s.strand)

  abbrev pub EffectAs : Instr → Effect → Effect → Type 0
  EffectAs instr (Goes a st) (Goes b st') = (op : Change) × (b ≡ a) × (st ≡ changed op s.task store) × (st' ≡ changed op s.task store') × ChangesBy s x store instr op
  EffectAs instr (Prints k) (Prints l) = l ≡ k
  EffectAs instr (Calls a) (Calls b) = b ≡ a
  EffectAs instr (Forks a b) (Forks c d) = (c ≡ a) × (d ≡ b)
  EffectAs instr Returns Returns = Unit {0}
  EffectAs instr (Traps a) (Traps b) = b ≡ a
  EffectAs instr (Stops n) (Stops q) = q ≡ n
  EffectAs instr _ _ = ⊥

  abbrev To : Instr → Effect → Effect → Type 0
  To = EffectTo itself itself (λ t. refl) s edges' owner' x store store' May

  plain_goes : (instr : Instr) (a b : Frame) (st st' : List (List Object)) → To instr (Goes a st) (Goes b st') → EffectAs instr (Goes a st) (Goes b st')
  plain_goes instr a b st st' h = (h.0, h.1 ∙ frame_fixed itself a (λ r i. refl), h.2, h.3 ∙ ap (λ c. changed c s.task store') (change_same h.0), h.4)

  plain : (instr : Instr) (e e' : Effect) → To instr e e' → EffectAs instr e e'
  plain instr (Goes a st) (Goes b st') h = plain_goes instr a b st st' h
  plain instr (Prints k) (Prints l) h = h
  plain instr (Calls a) (Calls b) h = h
  plain instr (Forks a b) (Forks c d) h = h
  plain instr Returns Returns h = h
  plain instr (Traps a) (Traps b) h = h
  plain instr (Stops n) (Stops q) h = h
  plain instr _ _ h = absurd h

  module _ (S : SeesSame) where
    sees : Sees itself itself (λ t. refl) s edges' owner' x store store' May
    sees = record {
      count = S.count;
      objects = λ n held. (let k = S.objects n held in
          subst (λ o. SeenTo itself itself (λ t. refl) s edges' owner' x store store' May n o (object_at store' n)) (sym k.2)
          (subst (λ o. SeenTo itself itself (λ t. refl) s edges' owner' x store store' May n (Some k.0) o) (sym k.3) (seen n k.0 k.1 k.4)));
      owners = S.owners;
      tests = λ n q o k held is may got. (let z = S.tests n q o k held is may got in
          subst (λ w. TestTo itself itself (λ t. refl) s edges' owner' x store store' May w (object_at store' q)) (sym z.2)
          (subst (λ w. TestTo itself itself (λ t. refl) s edges' owner' x store store' May (Some z.0) w) (sym z.3) z.4));
    }
      where
        seen : (n : Name) (o o' : Object) → IsSame n o o' → IsSeen itself itself (λ t. refl) s edges' owner' x store store' May n o o'
        seen n o o' I = record { mutable = I.mutable; refs = I.refs; ints = I.ints; ref_at = λ k may. I.ref_at k may ∙ sym (found_same (slice_get o.refs k)); int_at = I.int_at }

    pub effect_as : (instr : Instr) → ((b : Bool) (n : Name) (at : ℕ) → Reaches s x store instr b n at → May b n at)
        → EffectAs instr (effect s x store instr) (effect (record { task = s.task; strand = s.strand; field_limit = s.field_limit; edges = edges'; owner = owner' }) x store' instr)
    effect_as instr may =
        let s' : StepContext = record { task = s.task; strand = s.strand; field_limit = s.field_limit; edges = edges'; owner = owner' } in
        plain instr (effect s x store instr) (effect s' x store' instr)
        (subst (λ w. To instr (effect s x store instr) (effect s' w store' instr)) (frame_fixed itself x (λ r i. refl))
        (effect_carried itself itself (λ t. refl) s edges' owner' x store store' May sees instr may))
