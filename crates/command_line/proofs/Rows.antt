-- If a level of a parse has no fault, each value of its matches passed the parser of its argument.
use Rattle.command_line.proofs.Common.{◌≡◌, ◌∙◌, ◌<◌, ◌+◌, ◌++◌, ◌&&◌, ◌||◌, ◌⊎◌, ◌==◌, ℕ, Bool, cond, true, false, not, zero, suc, refl, sym, ap, subst, arith, inl, inr, List, [], ◌∷◌, length, drop, Option, Some, None, is_some, nat_lt, true≢false, ⊤, unwrap_or, find, fold, slice_get, encode_utf8, option_and_then, list_any, option_map_or, option_map, bytes_eq, chars, length-append, bytes_eq-Decides, explicit_source, unwrap_or_range, Held, Names, Outcome, Row, Rule, Step, Text, Waiting, Walk, action_of, after_flag, after_step, arg_by_id, arg_by_index, arg_by_long, arg_by_short, at_row, attached_value, bundle_step, default_rows, finished, flag_met, has_row, is_empty, is_pending, long_met, long_or_other, more_values, most_values, one_of, option, option_met, option_word, plain_word, positional_held, pushed, reacted, reading_by, row_text, settled, settled_rows, short_met, short_or_plain, subcommand_met, subcommand_or_other, takes_several, takes_values, to_positional, used, used_as, value, values_or_missing, walk, walk_from, with_default, with_values, without, word_met, used_by_id, bundle, walked_from, next, trailing, subcommand, done, waits, plain, refused, idle, positional, long_of, short_of, Shape, is_given, value_passes, Kinds, or_else, range_kinds, value_kinds, request_kinds, action_fault, check_fault, default_fault, bundle_fault, bundle_step_fault, flag_word_fault, given_default_fault, level_fault, long_fault, option_fault, other_fault, positional_fault, react_fault, set_fault, settle_fault, short_fault, step_fault, stray_fault, turn_fault, use_fault, values_fault, word_fault, refused_kind, read_as, parser_of_value, ArgAction, Set, SetTrue, Reading, AsWritten, ErrorKind, ValueSource, CommandLine, DefaultValue}
use Rattle.clap.specs.Walk.{bundle_met, walked}
use Rattle.clap.specs.Faults.{defaults_fault, flags_fault, walk_fault}
use Rattle.clap.specs.declared.error.kind.ErrorKind.TheVariants as kind

-- ---- lists

abbrev pub each : {X : Type 0} → (X → Type 0) → List X → Type 0
each P [] = ⊤
each P (x ∷ xs) = P x × each P xs

each_joined : {X : Type 0} (P : X → Type 0) (xs ys : List X) → each P xs → each P ys → each P (xs ++ ys)
each_joined P [] ys h k = k
each_joined P (x ∷ xs) ys h k = (h.0, each_joined P xs ys h.1 k)

pub found : {X : Type 0} (P : X → Type 0) (p : X → Bool) (xs : List X) (x : X) → each P xs → find p xs ≡ Some x → P x × (p x ≡ true)
found P p [] x h e = absurd (true≢false (ap (λ o. not (is_some o)) e))
found P p (y ∷ ys) x h e = found_by_cases (p y) refl (found P p ys x h.1) e
  where
    found_by_cases : (b : Bool) → p y ≡ b → (find p ys ≡ Some x → P x × (p x ≡ true)) → cond b (Some y) (find p ys) ≡ Some x → P x × (p x ≡ true)
    found_by_cases true t rest e =
        let same : y ≡ x = ap (λ o. unwrap_or o y) e in
        (subst P same h.0, subst (λ z. p z ≡ true) same t)
    found_by_cases false t rest e = rest e

-- ---- kinds

abbrev is_none : Kinds → Bool
is_none [] = true
is_none (k ∷ ks) = false

pub none_of : (a b : Kinds) → or_else a b ≡ [] → (a ≡ []) × (b ≡ [])
none_of [] b e = (refl, e)
none_of (k ∷ ks) b e = absurd (true≢false (sym (ap is_none e)))

pub some_kind : (k : ErrorKind) (ks : Kinds) → k ∷ ks ≡ [] → ⊥
some_kind k ks e = true≢false (sym (ap is_none e))

pub never_zero : (n : ℕ) → (suc n == 0) ≡ false
never_zero n = grind arith

passes : (b : Bool) (k : ErrorKind) → cond b [] (k ∷ []) ≡ [] → b ≡ true
passes true k e = refl
passes false k e = absurd (some_kind k [] e)

-- ---- what is asked of a row and of an argument

module _ (c : List Rule) where
  -- the text passes the parser of the argument with this id
  abbrev pub Passes : Text → Text → Type 0
  Passes id t = (a : Rule) → arg_by_id c id ≡ Some a → value_passes a t ≡ true

  pub record IsPassed (r : Row) : Type 0 where
    pub values : each (Passes r.id) r.values
    pub filled : 0 < length r.values
    pub reading : r.reading ≡ AsWritten

  pub record IsPlain (a : Rule) : Type 0 where
    pub own : arg_by_id c a.id ≡ Some a
    pub sets : (action_of a ≡ Set) ⊎ (action_of a ≡ SetTrue)
    pub reads : reading_by a ≡ AsWritten
    pub filled : (nat_lt 0 (unwrap_or_range a.range).start_inclusive || not (is_empty a.missing)) ≡ true

  passed : (a : Rule) → IsPlain a → (vs : List Text) → values_fault a vs ≡ [] → each (Passes a.id) vs
  passed a p [] e = tt
  passed a p (v ∷ vs) e =
      let parts = none_of (value_kinds a.ignore_case (parser_of_value a.parser) v) (values_fault a vs) e in
      (λ b at. subst (λ (r : Rule). value_passes r v ≡ true) (ap (λ o. unwrap_or o a) (sym p.own ∙ at)) (passes (value_passes a v) (refused_kind (parser_of_value a.parser)) parts.0), passed a p vs parts.1)

  -- ---- rows

  at_passed : (id : Text) (change : Row → List Row) (missing : List Row) → ((r : Row) → bytes_eq r.id id ≡ true → IsPassed r → each IsPassed (change r)) → each IsPassed missing
      → (rows : List Row) → each IsPassed rows → each IsPassed (at_row id change missing rows)
  at_passed id change missing f m [] h = m
  at_passed id change missing f m (r ∷ rs) h = at_passed_by_cases (bytes_eq r.id id) refl (at_passed id change missing f m rs h.1)
    where
      at_passed_by_cases : (b : Bool) → bytes_eq r.id id ≡ b → each IsPassed (at_row id change missing rs) → each IsPassed (cond b (change r ++ rs) (r ∷ at_row id change missing rs))
      at_passed_by_cases true e rest = each_joined IsPassed (change r) rs (f r e h.0) h.1
      at_passed_by_cases false e rest = (h.0, rest)

  more_passed : (id : Text) (s : ValueSource) (vs : List Text) → each (Passes id) vs → (r : Row) → bytes_eq r.id id ≡ true → IsPassed r → each IsPassed (more_values s vs r)
  more_passed id s vs v r e h =
      let same : id ≡ r.id = sym ((bytes_eq-Decides r.id id).0 e) in
      let long : length (r.values ++ vs) ≡ length r.values + length vs = length-append r.values vs in
      let some : 0 < length r.values = h.filled in (
        record {
          values = each_joined (Passes r.id) r.values vs h.values (subst (λ (t : Text). each (Passes t) vs) same v);
          filled = omega (arith, long, some);
          reading = h.reading;
        },
        tt,
      )

  with_passed : (id : Text) (how : Reading) (s : ValueSource) (vs : List Text) → each (Passes id) vs → 0 < length vs → how ≡ AsWritten → (rows : List Row) → each IsPassed rows
      → each IsPassed (with_values id how s vs rows)
  with_passed id how s vs v some read rows h =
      at_passed id (more_values s vs) _ (more_passed id s vs v) (record { values = v; filled = some; reading = read }, tt) rows h

  without_passed : (id : Text) (rows : List Row) → each IsPassed rows → each IsPassed (without id rows)
  without_passed id rows h = at_passed id (λ _. []) [] (λ r e k. tt) tt rows h

  -- ---- one use of an argument

  not_zero : (b : Bool) (n : ℕ) → not (n == 0) ≡ true → 0 < n
  not_zero b zero e = absurd (true≢false (sym e))
  not_zero b (suc n) e = omega arith

  some_value : (a : Rule) → IsPlain a → (raw : List Text) → range_kinds (unwrap_or_range a.range).start_inclusive (most_values a) (length raw) ≡ [] → 0 < length (values_or_missing a raw)
  some_value a p (v ∷ vs) e = omega arith
  some_value a p [] e = some_value_by_cases (nat_lt 0 (unwrap_or_range a.range).start_inclusive) refl p.filled
    where
      some_value_by_cases : (b : Bool) → nat_lt 0 (unwrap_or_range a.range).start_inclusive ≡ b → (b || not (is_empty a.missing)) ≡ true → 0 < length a.missing
      some_value_by_cases true t f = absurd (some_kind _ _ (rw t at e))
      some_value_by_cases false t f = not_zero true (length a.missing) f

  used_passed : (again : Bool) (a : Rule) → IsPlain a → (raw : List Text) (rows : List Row) → each IsPassed rows → use_fault again a raw rows ≡ [] → each IsPassed (used a raw rows)
  used_passed again a p raw rows h e =
      let parts = none_of (range_kinds (unwrap_or_range a.range).start_inclusive (most_values a) (length raw)) _ e in
      let vs = values_or_missing a raw in
      let go : set_fault again a vs rows ≡ [] → each IsPassed (with_values a.id (reading_by a) CommandLine vs (without a.id rows)) =
      λ f. with_passed a.id (reading_by a) CommandLine vs (passed a p vs (none_of _ (values_fault a vs) f).1) (some_value a p raw parts.0) p.reads (without a.id rows) (without_passed a.id rows h) in
      elim p.sets [
        | inl is ↦ subst (λ (x : ArgAction). each IsPassed (used_as x a.id (reading_by a) vs rows)) (sym is) (go (ap (λ (x : ArgAction). action_fault x again a vs rows) (sym is) ∙ parts.1))
        | inr is ↦ subst (λ (x : ArgAction). each IsPassed (used_as x a.id (reading_by a) vs rows)) (sym is) (go (ap (λ (x : ArgAction). action_fault x again a vs rows) (sym is) ∙ parts.1))
      ]

  -- ---- the walk

  module _ (again : Bool) (plain_rules : each IsPlain c) where
    abbrev IsHeld : Held → Type 0
    IsHeld h = each IsPassed h.rows

    settled_passed : (h : Held) → IsHeld h → settle_fault c again h ≡ [] → IsHeld (settled c h)
    settled_passed h k e = settled_passed_by_cases h.pending e
      where
        by_id : (p : Text × List Text) (o : Option Rule) → arg_by_id c p.0 ≡ o → option_map_or (λ a. use_fault again a p.1 h.rows) o [] ≡ []
            → each IsPassed (used_by_id o p.1 h.rows)
        by_id p None at f = k
        by_id p (Some a) at f = used_passed again a (found IsPlain (λ b. bytes_eq b.id p.0) c a plain_rules at).0 p.1 h.rows k f

        settled_passed_by_cases : (o : Option (Text × List Text)) → option_map_or (λ p. option_map_or (λ a. use_fault again a p.1 h.rows) (arg_by_id c p.0) []) o [] ≡ []
            → each IsPassed (settled_rows c o h.rows)
        settled_passed_by_cases None f = k
        settled_passed_by_cases (Some p) f = by_id p (arg_by_id c p.0) refl f

    reacted_passed : (a : Rule) → IsPlain a → (vs : List Text) (h : Held) → IsHeld h → react_fault c again a vs h ≡ [] → IsHeld (reacted c a vs h)
    reacted_passed a p vs h k e =
        let parts = none_of (settle_fault c again h) _ e in
        used_passed again a p vs (settled c h).rows (settled_passed h k parts.0) parts.1

    option_passed : (a : Rule) → IsPlain a → (v : Option Text) (h : Held) → IsHeld h → option_fault c again a v h ≡ [] → IsHeld (option_met c a v h).0
    option_passed a p (Some v) h k e = reacted_passed a p (v ∷ []) h k e
    option_passed a p None h k e = settled_passed h k e

    long_passed : (o : Option Rule) → ((a : Rule) → o ≡ Some a → IsPlain a) → (v : Option Text) (h : Held) → IsHeld h → long_fault c again o v h ≡ [] → IsHeld (long_met c o v h).0
    long_passed None p v h k e = k
    long_passed (Some a) p v h k e = long_passed_by_cases (takes_values a) e
      where
        flag_passed : (w : Option Text) → cond (is_some w) (kind.TooManyValues ∷ []) (react_fault c again a [] h) ≡ [] → IsHeld (flag_met c a w h).0
        flag_passed None f = reacted_passed a (p a refl) [] h k f
        flag_passed (Some w) f = k

        long_passed_by_cases : (b : Bool) → cond b (option_fault c again a v h) (cond (is_some v) (kind.TooManyValues ∷ []) (react_fault c again a [] h)) ≡ []
            → IsHeld (cond b (option_met c a v h) (flag_met c a v h)).0
        long_passed_by_cases true f = option_passed a (p a refl) v h k f
        long_passed_by_cases false f = flag_passed v f

    short_passed : (o : Option Rule) → ((a : Rule) → o ≡ Some a → IsPlain a) → (rest : Text) (h : Held) (on : Held → Held × Outcome) (fault : Held → Kinds)
        → ((g : Held) → IsHeld g → fault g ≡ [] → IsHeld (on g).0) → IsHeld h → short_fault c again o rest h fault ≡ [] → IsHeld (short_met c o rest h on).0
    short_passed None p rest h on fault n k e = k
    short_passed (Some a) p rest h on fault n k e = short_passed_by_cases (takes_values a) e
      where
        short_passed_by_cases : (b : Bool) → cond b (option_fault c again a (attached_value rest) h) (or_else (react_fault c again a [] h) (fault (reacted c a [] h))) ≡ []
            → IsHeld (cond b (option_met c a (attached_value rest) h) (on (reacted c a [] h))).0
        short_passed_by_cases true f = option_passed a (p a refl) (attached_value rest) h k f
        short_passed_by_cases false f =
            let parts = none_of (react_fault c again a [] h) _ f in
            n (reacted c a [] h) (reacted_passed a (p a refl) [] h k parts.0) parts.1

    bundle_passed : (n : ℕ) (flags : Text) (skip : ℕ) (so_far : Outcome) (h : Held) → IsHeld h → flags_fault c again n flags skip h ≡ [] → IsHeld (bundle_met c n flags skip so_far h).0
    unfolding bundle_met flags_fault
    bundle_passed zero flags skip so_far h k e = k
    bundle_passed (suc n) flags skip so_far h k e = bundle_passed_by_cases (slice_get (chars flags) 0) skip (bundle_passed n) e
      where
        bundle_passed_by_cases : (o : Option ℕ) (skip : ℕ) → ((fs : Text) (s : ℕ) (so : Outcome) (g : Held) → IsHeld g → flags_fault c again n fs s g ≡ [] → IsHeld (bundle_met c n fs s so g).0)
            → bundle_step_fault c again o flags skip h (flags_fault c again n) ≡ [] → IsHeld (bundle_step c o flags skip so_far h (bundle_met c n)).0
        bundle_passed_by_cases None skip rec f = k
        bundle_passed_by_cases (Some x) (suc skip) rec f = rec (drop (length (encode_utf8 x)) flags) skip so_far h k f
        bundle_passed_by_cases (Some x) zero rec f =
            let rest = drop (length (encode_utf8 x)) flags in
            short_passed (arg_by_short c x) (λ a at. (found IsPlain _ c a plain_rules at).0) rest h (bundle_met c n rest 0 done) (flags_fault c again n rest 0)
            (λ g kg fg. rec rest 0 done g kg fg) k f

    -- a word that isn't a flag uses nothing
    plain_same : (waiting : Waiting) (word : Text) (h : Held) → IsHeld h → IsHeld (plain_word c waiting word h).0
    plain_same (option id) word h k = plain_same_by_cases (arg_by_id c id)
      where
        plain_same_by_cases : (o : Option Rule) → IsHeld (option_word o id word h).0
        plain_same_by_cases None = k
        plain_same_by_cases (Some a) = k
    plain_same idle word h k = k
    plain_same positional word h k = k

    after_same : (waiting : Waiting) (word : Text) (h : Held) (o : Outcome) → IsHeld h → IsHeld (after_flag c waiting word h o).0
    after_same waiting word h done k = k
    after_same waiting word h (waits id) k = k
    after_same waiting word h plain k = plain_same waiting word h k
    after_same waiting word h refused k = plain_same waiting word h k

    other_passed : (waiting : Waiting) (word : Text) (l : Option (Text × Option Text)) (h : Held) → IsHeld h → flag_word_fault c again l word h ≡ [] → IsHeld (long_or_other c waiting word l h).0
    other_passed waiting word (Some p) h k e =
        after_same waiting word (long_met c (arg_by_long c p.0) p.1 h).0 (long_met c (arg_by_long c p.0) p.1 h).1
        (long_passed (arg_by_long c p.0) (λ a at. (found IsPlain _ c a plain_rules at).0) p.1 h k e)
    other_passed waiting word None h k e = other_passed_by_cases (short_of word) e
      where
        other_passed_by_cases : (o : Option Text) → option_map_or (λ flags. bundle_fault c again flags h) o [] ≡ [] → IsHeld (short_or_plain c waiting word o h).0
        other_passed_by_cases None f = plain_same waiting word h k
        other_passed_by_cases (Some flags) f =
            after_same waiting word (bundle c flags h).0 (bundle c flags h).1
            (bundle_passed (length flags) flags h.skip plain (record h { skip = 0 }) k f)

    positional_passed : (a : Rule) (word : Text) (h : Held) → IsHeld h → positional_fault c again a h ≡ [] → IsHeld (positional_held c a word h)
    positional_passed a word h k e = positional_passed_by_cases (is_pending a h.pending && takes_several a) e
      where
        positional_passed_by_cases : (b : Bool) → cond b [] (settle_fault c again h) ≡ [] → IsHeld (pushed a.id word (cond b h (settled c h)))
        positional_passed_by_cases true f = k
        positional_passed_by_cases false f = settled_passed h k f

module _ (s : Shape) (plain_rules : each (IsPlain s.rules) s.rules) (names : Names) where
  abbrev HasPassed : Held → Type 0
  HasPassed h = each (IsPassed s.rules) h.rows

  met_passed : (waiting : Waiting) (position : ℕ) (word : Text) (o : Option Text) (h : Held) → HasPassed h → other_fault s o word h ≡ []
      → HasPassed (subcommand_or_other s.rules o waiting position word h).0
  met_passed waiting position word (Some name) h k e = k
  met_passed waiting position word None h k e = met_passed_by_cases (bytes_eq word (45 ∷ 45 ∷ [])) e
    where
      met_passed_by_cases : (b : Bool) → cond b [] (flag_word_fault s.rules s.args_override_self (long_of word) word h) ≡ []
          → HasPassed (cond b (h, trailing position) (long_or_other s.rules waiting word (long_of word) h)).0
      met_passed_by_cases true f = k
      met_passed_by_cases false f = other_passed s.rules s.args_override_self plain_rules waiting word (long_of word) h k f

  word_passed : (is_trailing : Bool) (waiting : Waiting) (position : ℕ) (word : Text) (h : Held) → HasPassed h → word_fault s names is_trailing waiting word h ≡ []
      → HasPassed (word_met s.rules names is_trailing waiting position word h).0
  word_passed true waiting position word h k e = k
  word_passed false waiting position word h k e = met_passed waiting position word (subcommand_met names waiting word) h k e

  to_passed : (o : Option Rule) (word : Text) (w : Walk) (h : Held) → HasPassed h → option_map_or (λ a. positional_fault s.rules s.args_override_self a h) o (stray_fault s) ≡ []
      → HasPassed (to_positional s.rules o word w h).held
  to_passed None word w h k e = k
  to_passed (Some a) word w h k e = positional_passed s.rules s.args_override_self plain_rules a word h k e

  step_passed : (word : Text) (w : Walk) (h : Held) (x : Step) → HasPassed h → step_fault s w.position h x ≡ [] → HasPassed (after_step s.rules word w h x).held
  step_passed word w h (next waiting) k e = k
  step_passed word w h (trailing position) k e = k
  step_passed word w h (subcommand name) k e = k
  step_passed word w h value k e = to_passed (arg_by_index s.rules w.position) word w h k e

  turn_passed : (w : Walk) (word : Text) → HasPassed w.held → turn_fault s names w word ≡ [] → HasPassed (walked s.rules names w word).held
  unfolding walked
  turn_passed w word k e = turn_passed_by_cases w.stopped e
    where
      met : Held × Step
      met = word_met s.rules names w.is_trailing w.waiting w.position word w.held

      turn_passed_by_cases : (o : Option (Text × List Text))
          → cond (is_some o) [] (or_else (word_fault s names w.is_trailing w.waiting word w.held)
          (step_fault s w.position (word_met s.rules names w.is_trailing w.waiting w.position word w.held).0 (word_met s.rules names w.is_trailing w.waiting w.position word w.held).1)) ≡ []
          → HasPassed (walked_from s.rules names o w word).held
      turn_passed_by_cases (Some p) f = k
      turn_passed_by_cases None f =
          let parts = none_of (word_fault s names w.is_trailing w.waiting word w.held) _ f in
          step_passed word w (word_met s.rules names w.is_trailing w.waiting w.position word w.held).0 (word_met s.rules names w.is_trailing w.waiting w.position word w.held).1
          (word_passed w.is_trailing w.waiting w.position word w.held k parts.0) parts.1

  walk_passed : (words : List Text) (w : Walk) → HasPassed w.held → walk_fault s names w words ≡ [] → HasPassed (fold (walked s.rules names) w words).held
  unfolding walk_fault
  walk_passed [] w k e = k
  walk_passed (word ∷ rest) w k e =
      let parts = none_of (turn_fault s names w word) _ e in
      walk_passed rest (walked s.rules names w word) (turn_passed w word k parts.0) parts.1

  -- ---- after the walk

  given_passed : (a : Rule) → IsPlain s.rules a → (vs : List Text) → given_default_fault a vs ≡ [] → (rows : List Row) → each (IsPassed s.rules) rows
      → each (IsPassed s.rules) (default_rows a.id (reading_by a) vs rows)
  given_passed a p [] e rows h = h
  given_passed a p (v ∷ vs) e rows h =
      let parts = none_of (request_kinds (action_of a)) (values_fault a (v ∷ vs)) e in
      with_passed s.rules a.id (reading_by a) DefaultValue (v ∷ vs)
      (passed s.rules a p (v ∷ vs) parts.1) (omega arith) p.reads rows h

  default_passed : (a : Rule) → IsPlain s.rules a → (rows : List Row) → default_fault rows a ≡ [] → each (IsPassed s.rules) rows → each (IsPassed s.rules) (with_default rows a)
  default_passed a p rows e h = default_passed_by_cases (has_row a.id rows) a.defaults e
    where
      some : (b : Bool) (vs : List Text) → cond (is_empty vs) [] (given_default_fault a vs) ≡ [] → each (IsPassed s.rules) (default_rows a.id (reading_by a) vs rows)
      some b [] f = h
      some b (v ∷ vs) f = given_passed a p (v ∷ vs) (rw (never_zero (length vs)) at f) rows h

      default_passed_by_cases : (b : Bool) (vs : List Text) → cond (b || is_empty vs) [] (given_default_fault a vs) ≡ [] → each (IsPassed s.rules) (cond b rows (default_rows a.id (reading_by a) vs rows))
      default_passed_by_cases true vs f = h
      default_passed_by_cases false vs f = some false vs f

  defaults_passed : (rest : List Rule) → each (IsPlain s.rules) rest → (rows : List Row) → each (IsPassed s.rules) rows → defaults_fault rows rest ≡ []
      → each (IsPassed s.rules) (fold with_default rows rest)
  unfolding defaults_fault
  defaults_passed [] p rows h e = h
  defaults_passed (a ∷ rest) p rows h e =
      let parts = none_of (default_fault rows a) _ e in
      defaults_passed rest p.1 (with_default rows a) (default_passed a p.0 rows parts.0 h) parts.1

  -- the matches of a level without a fault, in which what is required is given
  pub level_passed : (h : Held) (words : List Text) (has : Bool) (below : Kinds) → HasPassed h → level_fault s names h words has below ≡ []
      → each (IsPassed s.rules) (finished s.rules (walk s.rules names h words).held) × (below ≡ [])
      × (check_fault s (finished s.rules (walk s.rules names h words).held) has ≡ [])
  level_passed h words has below k e =
      let walk_parts = none_of (walk_fault s names (walk_from h) words) _ e in
      let below_parts = none_of below _ walk_parts.1 in
      let last = (walk s.rules names h words).held in
      let settle_parts = none_of (settle_fault s.rules s.args_override_self last) _ below_parts.1 in
      let parts = none_of (defaults_fault (settled s.rules last).rows s.rules) _ settle_parts.1 in
      let kept = settled_passed s.rules s.args_override_self plain_rules last (walk_passed words (walk_from h) k walk_parts.0) settle_parts.0 in
      (defaults_passed s.rules plain_rules (settled s.rules last).rows kept parts.0, below_parts.0, parts.1)

-- ---- which rows there are

module _ (id : Text) where
  kept_at : (other : Text) (v : ValueSource) (vs : List Text) (missing rows : List Row) → has_row id rows ≡ true → has_row id (at_row other (more_values v vs) missing rows) ≡ true
  kept_at other v vs missing [] e = absurd (true≢false (sym e))
  kept_at other v vs missing (r ∷ rs) e = kept_at_by_cases (bytes_eq r.id other) (kept_at other v vs missing rs)
    where
      kept_at_by_cases : (b : Bool) → (has_row id rs ≡ true → has_row id (at_row other (more_values v vs) missing rs) ≡ true)
          → has_row id (cond b (more_values v vs r ++ rs) (r ∷ at_row other (more_values v vs) missing rs)) ≡ true
      kept_at_by_cases true rec = e
      kept_at_by_cases false rec = kept_at_by_cases_here (bytes_eq r.id id) e
        where
          kept_at_by_cases_here : (b : Bool) → (b || has_row id rs) ≡ true → (b || has_row id (at_row other (more_values v vs) missing rs)) ≡ true
          kept_at_by_cases_here true f = refl
          kept_at_by_cases_here false f = rec f

  kept_row : (a : Rule) (rows : List Row) → has_row id rows ≡ true → has_row id (with_default rows a) ≡ true
  kept_row a rows e = kept_row_by_cases (has_row a.id rows) a.defaults
    where
      kept_row_by_cases : (b : Bool) (vs : List Text) → has_row id (cond b rows (default_rows a.id (reading_by a) vs rows)) ≡ true
      kept_row_by_cases true vs = e
      kept_row_by_cases false [] = e
      kept_row_by_cases false (v ∷ vs) = kept_at a.id DefaultValue (v ∷ vs) _ rows e

  kept_rows : (rest : List Rule) (rows : List Row) → has_row id rows ≡ true → has_row id (fold with_default rows rest) ≡ true
  kept_rows [] rows e = e
  kept_rows (a ∷ rest) rows e = kept_rows rest (with_default rows a) (kept_row a rows e)

  new_at : (v : ValueSource) (vs : List Text) (r : Row) → r.id ≡ id → (rows : List Row) → has_row id (at_row id (more_values v vs) (r ∷ []) rows) ≡ true
  new_at v vs r is [] =
      let same : bytes_eq r.id id ≡ true = (bytes_eq-Decides r.id id).1 is in
      rw same refl
  new_at v vs r is (x ∷ xs) = new_at_by_cases (bytes_eq x.id id) refl (new_at v vs r is xs)
    where
      new_at_by_cases : (b : Bool) → bytes_eq x.id id ≡ b → has_row id (at_row id (more_values v vs) (r ∷ []) xs) ≡ true
          → has_row id (cond b (more_values v vs x ++ xs) (x ∷ at_row id (more_values v vs) (r ∷ []) xs)) ≡ true
      new_at_by_cases true t rec = rw t refl
      new_at_by_cases false t rec = rw (t, rec) refl

  new_row : (a : Rule) (rows : List Row) → a.id ≡ id → not (is_empty a.defaults) ≡ true → has_row id (with_default rows a) ≡ true
  new_row a rows is e = new_row_by_cases (has_row a.id rows) refl a.defaults e
    where
      new : (v : Text) (vs : List Text) → has_row id (default_rows a.id (reading_by a) (v ∷ vs) rows) ≡ true
      new v vs = subst (λ (t : Text). has_row id (default_rows t (reading_by a) (v ∷ vs) rows) ≡ true) (sym is)
          (new_at DefaultValue (v ∷ vs) _ refl rows)

      new_row_by_cases : (b : Bool) → has_row a.id rows ≡ b → (vs : List Text) → not (is_empty vs) ≡ true → has_row id (cond b rows (default_rows a.id (reading_by a) vs rows)) ≡ true
      new_row_by_cases true t vs f = subst (λ (i : Text). has_row i rows ≡ true) is t
      new_row_by_cases false t [] f = absurd (true≢false (sym f))
      new_row_by_cases false t (v ∷ vs) f = new v vs

  -- an argument with a default has a row at the end
  pub default_row : (rest : List Rule) → list_any (λ a. bytes_eq a.id id && not (is_empty a.defaults)) rest ≡ true → (rows : List Row) → has_row id (fold with_default rows rest) ≡ true
  default_row [] e rows = absurd (true≢false (sym e))
  default_row (a ∷ rest) e rows = default_row_by_cases (bytes_eq a.id id) refl (not (is_empty a.defaults)) refl (λ f. default_row rest f (with_default rows a)) e
    where
      default_row_by_cases : (b : Bool) → bytes_eq a.id id ≡ b → (d : Bool) → not (is_empty a.defaults) ≡ d
          → (list_any (λ x. bytes_eq x.id id && not (is_empty x.defaults)) rest ≡ true → has_row id (fold with_default (with_default rows a) rest) ≡ true)
          → ((b && d) || list_any (λ x. bytes_eq x.id id && not (is_empty x.defaults)) rest) ≡ true → has_row id (fold with_default (with_default rows a) rest) ≡ true
      default_row_by_cases true t true u rec f = kept_rows rest (with_default rows a) (new_row a rows ((bytes_eq-Decides a.id id).0 t) u)
      default_row_by_cases true t false u rec f = rec f
      default_row_by_cases false t d u rec f = rec f

  -- what was given has a row
  pub given_row : (rows : List Row) → is_given id rows ≡ true → has_row id rows ≡ true
  given_row [] e = absurd (true≢false (sym e))
  given_row (r ∷ rs) e = given_row_by_cases (bytes_eq r.id id) (given_row rs) e
    where
      given_row_by_cases : (b : Bool) → (is_given id rs ≡ true → has_row id rs ≡ true)
          → option_map_or (λ (x : Row). explicit_source x.source) (cond b (Some r) (find (λ x. bytes_eq x.id id) rs)) false ≡ true → (b || has_row id rs) ≡ true
      given_row_by_cases true rec f = refl
      given_row_by_cases false rec f = rec f

  -- the text of a row, which passed
  pub text_in : (c : List Rule) (rows : List Row) → each (IsPassed c) rows → has_row id rows ≡ true → (t : Text) × (one_of id rows ≡ Some t) × Passes c id t
  text_in c [] h e = absurd (true≢false (sym e))
  text_in c (r ∷ rs) h e = text_in_by_cases (bytes_eq r.id id) refl (text_in c rs h.1) e
    where
      first : r.id ≡ id → (vs : List Text) → each (Passes c r.id) vs → 0 < length vs
          → (t : Text) × (option_map (read_as r.reading) (slice_get vs 0) ≡ Some t) × Passes c id t
      first is [] p lt = absurd (omega arith)
      first is (v ∷ vs) p lt = (v, ap (λ (how : Reading). Some (read_as how v)) h.0.reading, subst (λ (i : Text). Passes c i v) is p.0)

      text_in_by_cases : (b : Bool) → bytes_eq r.id id ≡ b → (has_row id rs ≡ true → (t : Text) × (one_of id rs ≡ Some t) × Passes c id t) → (b || has_row id rs) ≡ true
          → (t : Text) × (option_and_then row_text (cond b (Some r) (find (λ x. bytes_eq x.id id) rs)) ≡ Some t) × Passes c id t
      text_in_by_cases true t rec f = first ((bytes_eq-Decides r.id id).0 t) r.values h.0.values h.0.filled
      text_in_by_cases false t rec f = rec f
