-- A renaming preserves what an instruction does: if the frame, the object that it names, the field that it reads and
-- its tests are alike, so is its effect.
use Rattle.renaming_laws.proofs.Common.{◌≡◌, ℕ, zero, suc, pos, ◌==◌, ◌&&◌, Bool, true, false, cond, Option, Some, None, List, [], ◌∷◌, ◌++◌, length, map, take, replicate, slice_get, slice_set, unwrap_or, inl, inr, refl, ap, ap₂, sym, subst, ◌∙◌, eq-eqb, ne_eqb, option_flatten, option_map, cases_eq, false≢true, map-set, slice_get-map, take-map, In, Instr, Set, Mov, Movr, Nil as NilOf, Calc, Same as SameOf, Jmp, Jz, Newm, Pack, Getr, Geti, Putr, Puti, Cntr, Cnti, Freeze, Cas, Call, Par, Ret, Out, Name, Edge, Object, Frame, Trap, Range, Frozen, Div, Size, Effect, Goes, Prints, Calls, Forks, Returns, Traps, Stops, StepContext, effect, made, row_of, object_at, put_object, counts_in, int_in, ref_in, or_trap, with_object, read_effect, calculated, place_in, flag, same_name, onward, with_ref, with_int, int_eq, unless_frozen, precedes, at_in, name_to, ref_to, strand_to, object_to, frame_to}
use Rattle.hh_model.specs.declared.data.Trap.TheVariants.{Nil}
use Rattle.renaming_laws.proofs.Changed.{Change, Same, Grows, Edits, ChangesBy, Edit, SetRef, SetNumber, Freezes, EditsBy, Reach, Reaches, change_to, changed, edit_to, edited, put_in}

module _ (f g : ℕ → ℕ) (back : (t : ℕ) → g (f t) ≡ t) where
  -- NAMES

  none_map : (k : ℕ) → map (ref_to f) (replicate k None) ≡ replicate k None
  none_map zero = refl
  none_map (suc k) = ap (λ ys. None ∷ ys) (none_map k)

  pub flat_to : (o : Option (Option Name)) → option_flatten (option_map (ref_to f) o) ≡ ref_to f (option_flatten o)
  flat_to None = refl
  flat_to (Some r) = refl

  pub ref_carried : (x : Frame) (i : ℕ) → ref_in (frame_to f x) i ≡ ref_to f (ref_in x i)
  ref_carried x i = ap option_flatten (slice_get-map (ref_to f) x.refs i) ∙ flat_to (slice_get x.refs i)

  pub set_carried : (x : Frame) (d : ℕ) (r : Option Name) → with_ref (frame_to f x) d (ref_to f r) ≡ frame_to f (with_ref x d r)
  set_carried x d r = ap (λ rs. record x { refs = rs }) (sym (map-set (ref_to f) x.refs d r))

  pub same_task : (a b : ℕ) → (f a == f b) ≡ (a == b)
  same_task a b = elim (cases_eq a b) [
    | inl e ↦ eq-eqb (f a) (f b) (ap f e) ∙ sym (eq-eqb a b e)
    | inr ne ↦ ne_eqb (f a) (f b) (λ e. ne (sym (back a) ∙ (ap g e ∙ back b))) ∙ sym (ne_eqb a b ne)
  ]

  pub same_carried : (a b : Option Name) → same_name (ref_to f a) (ref_to f b) ≡ same_name a b
  same_carried None None = refl
  same_carried None (Some n) = refl
  same_carried (Some n) None = refl
  same_carried (Some m) (Some n) = ap (λ b. b && (m.count == n.count)) (same_task m.task n.task)

  -- WHAT IS SEEN

  -- May b n k: the instruction may see field k of object n, a number field if b
  module _ (s : StepContext) (edges' : List Edge) (owner' : ℕ → ℕ) (x : Frame) (store store' : List (List Object)) (May : Bool → Name → ℕ → Type 0) where
    abbrev s' : StepContext
    s' = record { task = f s.task; strand = strand_to f s.strand; field_limit = s.field_limit; edges = edges'; owner = owner' }

    abbrev x' : Frame
    x' = frame_to f x

    pub record IsSeen (n : Name) (o o' : Object) : Type 0 where
      pub mutable : o'.mutable ≡ o.mutable
      pub refs : length o'.refs ≡ length o.refs
      pub ints : length o'.ints ≡ length o.ints
      pub ref_at : (k : ℕ) → May false n k → slice_get o'.refs k ≡ option_map (ref_to f) (slice_get o.refs k)
      pub int_at : (k : ℕ) → May true n k → slice_get o'.ints k ≡ slice_get o.ints k

    abbrev pub SeenTo : Name → Option Object → Option Object → Type 0
    SeenTo n None None = Unit {0}
    SeenTo n (Some o) (Some o') = IsSeen n o o'
    SeenTo n None (Some o') = ⊥
    SeenTo n (Some o) None = ⊥

    -- the test of a read
    abbrev pub TestTo : Option Object → Option Object → Type 0
    TestTo None None = Unit {0}
    TestTo (Some o) (Some o') = precedes edges' o'.strand (strand_to f s.strand) ≡ precedes s.edges o.strand s.strand
    TestTo None (Some o') = ⊥
    TestTo (Some o) None = ⊥

    pub record Sees : Type 0 where
      pub count : length (row_of (slice_get store' (f s.task))) ≡ length (row_of (slice_get store s.task))
      pub objects : (n : Name) → In x.refs (Some n) → SeenTo n (object_at store n) (object_at store' (name_to f n))
      pub owners : (n : Name) → In x.refs (Some n) → (owner' (f n.task) == f s.task) ≡ (s.owner n.task == s.task)
      pub tests : (n q : Name) (o : Object) (k : ℕ) → In x.refs (Some n) → object_at store n ≡ Some o → May false n k → option_flatten (slice_get o.refs k) ≡ Some q → TestTo (object_at store q) (object_at store' (name_to f q))

    -- THE EFFECT ON BOTH

    abbrev pub EffectTo : Instr → Effect → Effect → Type 0
    EffectTo instr (Goes a st) (Goes b st') = (op : Change) × (b ≡ frame_to f a) × (st ≡ changed op s.task store) × (st' ≡ changed (change_to f op) (f s.task) store') × ChangesBy s x store instr op
    EffectTo instr (Prints k) (Prints l) = l ≡ k
    EffectTo instr (Calls a) (Calls b) = b ≡ a
    EffectTo instr (Forks a b) (Forks c d) = (c ≡ a) × (d ≡ b)
    EffectTo instr Returns Returns = Unit {0}
    EffectTo instr (Traps a) (Traps b) = b ≡ a
    EffectTo instr (Stops n) (Stops q) = q ≡ name_to f n
    EffectTo instr _ _ = ⊥

    module _ (S : Sees) (i : Instr) where
      abbrev To : Effect → Effect → Type 0
      To = EffectTo i

      same_store : (a b : Frame) → b ≡ frame_to f a → To (Goes a store) (Goes b store')
      same_store a b e = (Same, e, refl, refl, tt)

      trap : {A : Type 0} (t : Trap) (o : Option A) (go go' : A → Effect) → ((y : A) → o ≡ Some y → To (go y) (go' y)) → To (or_trap t o go) (or_trap t o go')
      trap t None go go' each = refl
      trap t (Some y) go go' each = each y refl

      either : (b : Bool) (e h e' h' : Effect) → To e e' → To h h' → To (cond b e h) (cond b e' h')
      either true e h e' h' p q = p
      either false e h e' h' p q = q

      object : (o : ℕ) (go go' : Name → Object → Effect)
          → ((n : Name) (y y' : Object) → ref_in x o ≡ Some n → In x.refs (Some n) → object_at store n ≡ Some y → object_at store' (name_to f n) ≡ Some y' → IsSeen n y y' → To (go n y) (go' (name_to f n) y'))
          → To (with_object store (ref_in x o) go) (with_object store' (ref_in x' o) go')
      object o go go' each = subst (λ r. To (with_object store (ref_in x o) go) (with_object store' r go')) (sym (ref_carried x o)) (object_by_cases (ref_in x o) refl)
        where
          pair : (n : Name) → ref_in x o ≡ Some n → (a b : Option Object) → object_at store n ≡ a → object_at store' (name_to f n) ≡ b → SeenTo n a b → To (or_trap Nil a (go n)) (or_trap Nil b (go' (name_to f n)))
          pair n e None None ea eb h = refl
          pair n e (Some y) (Some y') ea eb h = each n y y' e (at_in x.refs o n e) ea eb h
          pair n e None (Some y') ea eb h = absurd h
          pair n e (Some y) None ea eb h = absurd h

          object_by_cases : (r : Option Name) → ref_in x o ≡ r → To (with_object store r go) (with_object store' (ref_to f r) go')
          object_by_cases None e = refl
          object_by_cases (Some n) e = pair n e (object_at store n) (object_at store' (name_to f n)) refl refl (S.objects n (at_in x.refs o n e))

      -- the index of a field, if the counts agree
      place : (c c' : ℕ) (k : ℕ) (go go' : ℕ → Effect) → c' ≡ c → ((at : ℕ) → place_in c (int_in x k) ≡ Some at → To (go at) (go' at)) → To (or_trap Range (place_in c (int_in x k)) go) (or_trap Range (place_in c' (int_in x' k)) go')
      place c c' k go go' e each = subst (λ d. To (or_trap Range (place_in c (int_in x k)) go) (or_trap Range (place_in d (int_in x k)) go')) (sym e) (trap Range (place_in c (int_in x k)) go go' each)

      set_reg : (d : ℕ) (r r' : Option Name) → r' ≡ ref_to f r → onward (with_ref x' d r') ≡ frame_to f (onward (with_ref x d r))
      set_reg d r r' e = ap (λ w. onward (with_ref x' d w)) e ∙ ap onward (set_carried x d r)

      new : (d : ℕ) (o o' : Object) → o' ≡ object_to f o → To (made s x store d o) (made s' x' store' d o')
      new d o o' e = (
        Grows o,
        ap (λ c. onward (with_ref x' d (Some (record { task = f s.task; count = c })))) S.count ∙ set_reg d (Some (record { task = s.task; count = length (row_of (slice_get store s.task)) })) _ refl,
        refl,
        ap (λ w. slice_set store' (f s.task) (row_of (slice_get store' (f s.task)) ++ w ∷ [])) e,
        tt,
      )

      unless : (y y' : Object) (e e' : Effect) → y'.mutable ≡ y.mutable → (y.mutable ≡ true → To e e') → To (unless_frozen y e) (unless_frozen y' e')
      unless y y' e e' same_flag h = subst (λ b. To (cond y.mutable e (Traps Frozen)) (cond b e' (Traps Frozen))) (sym same_flag) (unless_by_cases y.mutable h)
        where
          unless_by_cases : (b : Bool) → (b ≡ true → To e e') → To (cond b e (Traps Frozen)) (cond b e' (Traps Frozen))
          unless_by_cases true h = h refl
          unless_by_cases false h = refl

      put : (n : Name) (y y' : Object) (e : Edit) (a b : Frame) (z : Object) → b ≡ frame_to f a → z ≡ edited (edit_to f e) y' → object_at store n ≡ Some y → object_at store' (name_to f n) ≡ Some y' → EditsBy s x store i n e
          → To (Goes a (put_object store n (edited e y))) (Goes b (put_object store' (name_to f n) z))
      put n y y' e a b z eb ez was was' by = (
        Edits n e,
        eb,
        ap (slice_set store n.task) (ap (put_in (row_of (slice_get store n.task)) n.count e) (sym was)),
        ap (λ w. slice_set store' (f n.task) (slice_set (row_of (slice_get store' (f n.task))) n.count w)) ez ∙ ap (slice_set store' (f n.task)) (ap (put_in (row_of (slice_get store' (f n.task))) n.count (edit_to f e)) (sym was')),
        ((y, was), by),
      )

      read : (d : ℕ) (r : Option Name) → ((q : Name) → r ≡ Some q → TestTo (object_at store q) (object_at store' (name_to f q))) → To (read_effect s x store d r) (read_effect s' x' store' d (ref_to f r))
      read d None test = same_store _ _ (set_reg d None None refl)
      read d (Some q) test = read_by_cases (object_at store q) (object_at store' (name_to f q)) (test q refl)
        where
          read_by_cases : (a b : Option Object) → TestTo a b
              → To (or_trap Nil a (λ o. cond (precedes s.edges o.strand s.strand) (Goes (onward (with_ref x d (Some q))) store) (Stops q)))
              (or_trap Nil b (λ o. cond (precedes edges' o.strand (strand_to f s.strand)) (Goes (onward (with_ref x' d (Some (name_to f q)))) store') (Stops (name_to f q))))
          read_by_cases None None h = refl
          read_by_cases (Some o) (Some o') h =
              subst (λ b. To (cond (precedes s.edges o.strand s.strand) (Goes (onward (with_ref x d (Some q))) store) (Stops q)) (cond b (Goes (onward (with_ref x' d (Some (name_to f q)))) store') (Stops (name_to f q)))) (sym h)
              (either (precedes s.edges o.strand s.strand) _ (Stops q) _ (Stops (name_to f q)) (same_store _ _ (set_reg d (Some q) _ refl)) refl)
          read_by_cases None (Some o') h = absurd h
          read_by_cases (Some o) None h = absurd h

      jumps : (to : ℕ) (b : Bool) → To (Goes (cond b (record x { next = to }) (onward x)) store) (Goes (cond b (record x' { next = to }) (onward x')) store')
      jumps to true = same_store _ _ refl
      jumps to false = same_store _ _ refl

    module _ (S : Sees) where
      pub effect_carried : (i : Instr) → ((b : Bool) (n : Name) (at : ℕ) → Reaches s x store i b n at → May b n at) → EffectTo i (effect s x store i) (effect s' x' store' i)
      effect_carried (Set d k) may = same_store S (Set d k) _ _ refl
      effect_carried (Mov d a) may = same_store S (Mov d a) _ _ refl
      effect_carried (Movr d a) may = same_store S (Movr d a) _ _ (set_reg S (Movr d a) d (ref_in x a) (ref_in x' a) (ref_carried x a))
      effect_carried (NilOf d) may = same_store S (NilOf d) _ _ (set_reg S (NilOf d) d None None refl)
      effect_carried (Calc op d a b) may = let i = Calc op d a b in trap S i Div (calculated op (int_in x a) (int_in x b)) _ _ (λ y e. same_store S i _ _ refl)
      effect_carried (SameOf d a b) may =
          same_store S (SameOf d a b) _ _ (ap (λ w. onward (with_int x' d (flag w))) (ap₂ same_name (ref_carried x a) (ref_carried x b) ∙ same_carried (ref_in x a) (ref_in x b)))
      effect_carried (Jmp to) may = same_store S (Jmp to) _ _ refl
      effect_carried (Jz a to) may = jumps S (Jz a to) to (int_eq (int_in x a) (pos 0))
      effect_carried (Newm d a b) may =
          let i = Newm d a b in
          trap S i Size (counts_in s.field_limit (int_in x a) (int_in x b)) _ _ (λ n e.
          new S i d _ _ (ap (λ rs. record { strand = strand_to f s.strand; mutable = true; refs = rs; ints = replicate n.1 (pos 0) }) (sym (none_map n.0))))
      effect_carried (Pack d r k) may = new S (Pack d r k) d _ _ (ap (λ rs. record { strand = strand_to f s.strand; mutable = false; refs = rs; ints = take k x.ints }) (take-map (ref_to f) r x.refs))
      effect_carried (Getr d o k) may =
          let i = Getr d o k in
          object S i o _ _ (λ n y y' e held was was' seen.
          place S i (length y.refs) (length y'.refs) k _ _ seen.refs (λ at e'.
          let m = may false n at (record { kind = refl; name = e; object = y; is = was; place = e'; mutable = λ z. absurd (false≢true z) }) in
          subst (λ r. EffectTo i (read_effect s x store d (option_flatten (slice_get y.refs at))) (read_effect s' x' store' d r)) (sym (ap option_flatten (seen.ref_at at m) ∙ flat_to (slice_get y.refs at)))
          (read S i d (option_flatten (slice_get y.refs at)) (λ q e''. S.tests n q y at held was m e''))))
      effect_carried (Geti d o k) may =
          let i = Geti d o k in
          object S i o _ _ (λ n y y' e held was was' seen.
          place S i (length y.ints) (length y'.ints) k _ _ seen.ints (λ at e'.
          let m = may true n at (record { kind = refl; name = e; object = y; is = was; place = e'; mutable = λ z. absurd (false≢true z) }) in
          same_store S i _ _ (ap (λ w. onward (with_int x' d (unwrap_or w (pos 0)))) (seen.int_at at m))))
      effect_carried (Putr o k v) may =
          let i = Putr o k v in
          object S i o _ _ (λ n y y' e held was was' seen.
          place S i (length y.refs) (length y'.refs) k _ _ seen.refs (λ at e'. unless S i y y' _ _ seen.mutable (λ mutable.
          put S i n y y' (SetRef at (ref_in x v)) _ _ _ refl (ap (λ r. record y' { refs = slice_set y'.refs at r }) (ref_carried x v)) was was'
          (record { kind = refl; name = e; object = y; is = was; place = e'; mutable = λ z. mutable }))))
      effect_carried (Puti o k v) may =
          let i = Puti o k v in
          object S i o _ _ (λ n y y' e held was was' seen.
          place S i (length y.ints) (length y'.ints) k _ _ seen.ints (λ at e'. unless S i y y' _ _ seen.mutable (λ mutable.
          put S i n y y' (SetNumber at (int_in x v)) _ _ _ refl refl was was'
          (record { kind = refl; name = e; object = y; is = was; place = e'; mutable = λ z. mutable }))))
      effect_carried (Cntr d o) may = let i = Cntr d o in object S i o _ _ (λ n y y' e held was was' seen. same_store S i _ _ (ap (λ c. onward (with_int x' d (pos c))) seen.refs))
      effect_carried (Cnti d o) may = let i = Cnti d o in object S i o _ _ (λ n y y' e held was was' seen. same_store S i _ _ (ap (λ c. onward (with_int x' d (pos c))) seen.ints))
      effect_carried (Freeze o) may =
          let i = Freeze o in
          object S i o _ _ (λ n y y' e held was was' seen.
          subst (λ b. EffectTo i (cond (s.owner n.task == s.task) (Goes (onward x) (put_object store n (record y { mutable = false }))) (Traps Frozen)) (cond b (Goes (onward x') (put_object store' (name_to f n) (record y' { mutable = false }))) (Traps Frozen)))
          (sym (S.owners n held)) (frozen o n y y' e was was' (s.owner n.task == s.task) refl))
        where
          frozen : (o : ℕ) (n : Name) (y y' : Object) → ref_in x o ≡ Some n → object_at store n ≡ Some y → object_at store' (name_to f n) ≡ Some y' → (b : Bool) → (s.owner n.task == s.task) ≡ b
              → EffectTo (Freeze o) (cond b (Goes (onward x) (put_object store n (record y { mutable = false }))) (Traps Frozen)) (cond b (Goes (onward x') (put_object store' (name_to f n) (record y' { mutable = false }))) (Traps Frozen))
          frozen o n y y' e was was' true own = put S (Freeze o) n y y' Freezes _ _ _ refl refl was was' (e, own)
          frozen o n y y' e was was' false own = refl
      effect_carried (Cas d o k w v) may =
          let i = Cas d o k w v in
          object S i o _ _ (λ n y y' en held was was' seen.
          place S i (length y.refs) (length y'.refs) k _ _ seen.refs (λ at e'. unless S i y y' _ _ seen.mutable (λ mutable.
          let r : Reach s x store false true o k false n at = record { kind = refl; name = en; object = y; is = was; place = e'; mutable = λ z. mutable } in
          let found : same_name (option_flatten (slice_get y'.refs at)) (ref_in x' w) ≡ same_name (option_flatten (slice_get y.refs at)) (ref_in x w) =
          ap₂ same_name (ap option_flatten (seen.ref_at at (may false n at r)) ∙ flat_to (slice_get y.refs at)) (ref_carried x w) ∙ same_carried (option_flatten (slice_get y.refs at)) (ref_in x w) in
          subst (λ b. EffectTo i
          (cond (same_name (option_flatten (slice_get y.refs at)) (ref_in x w)) (Goes (onward (with_int x d (pos 1))) (put_object store n (record y { refs = slice_set y.refs at (ref_in x v) }))) (Goes (onward (with_int x d (pos 0))) store))
          (cond b (Goes (onward (with_int x' d (pos 1))) (put_object store' (name_to f n) (record y' { refs = slice_set y'.refs at (ref_in x' v) }))) (Goes (onward (with_int x' d (pos 0))) store'))) (sym found)
          (swapped d o k w v n y y' at r was' (same_name (option_flatten (slice_get y.refs at)) (ref_in x w)) refl))))
        where
          swapped : (d o k w v : ℕ) (n : Name) (y y' : Object) (at : ℕ) (r : Reach s x store false true o k false n at) → object_at store' (name_to f n) ≡ Some y'
              → (b : Bool) → same_name (option_flatten (slice_get r.object.refs at)) (ref_in x w) ≡ b
              → EffectTo (Cas d o k w v)
              (cond b (Goes (onward (with_int x d (pos 1))) (put_object store n (record r.object { refs = slice_set r.object.refs at (ref_in x v) }))) (Goes (onward (with_int x d (pos 0))) store))
              (cond b (Goes (onward (with_int x' d (pos 1))) (put_object store' (name_to f n) (record y' { refs = slice_set y'.refs at (ref_in x' v) }))) (Goes (onward (with_int x' d (pos 0))) store'))
          swapped d o k w v n y y' at r was' true e =
              put S (Cas d o k w v) n r.object y' (SetRef at (ref_in x v)) _ _ _ refl (ap (λ q. record y' { refs = slice_set y'.refs at q }) (ref_carried x v)) r.is was' (r, e)
          swapped d o k w v n y y' at r was' false e = same_store S (Cas d o k w v) _ _ refl
      effect_carried (Call a) may = refl
      effect_carried (Par a b) may = (refl, refl)
      effect_carried Ret may = tt
      effect_carried (Out a) may = refl
