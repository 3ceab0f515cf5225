-- What every act of a log without a faulty line keeps holds of all that happens in it.
use Rattle.log_tasks.proofs.Common.{◌≡◌, ◌+◌, ◌++◌, ◌∷◌, ◌⊎◌, inl, inr, ℕ, Bool, true, false, List, [], length, refl, sym, ap, subst, ◌∙◌, Option, Some, None, Result, Ok, Err, slice_get, arith, list_any, nat_tests, got_in, any_from_in, got_more, LogCause, Act, LogLine, line_of, GraphStrand, LogFault, LocatedFault, lines_in, Event, event, Spot, has_ended, spot_behind_act, spot_behind_said, spot_behind_all, file_begin, file_end, events_behind, events_of, bears, releases, is_born, is_released, where_true, claim_fault, act_fault, said_fault, line_fault, first_fault, found_at, fault_from, fault_of_lines, or_later, fault_behind, log_fault}
use Rattle.log_lines.specs.declared.line.Act.TheVariants as acts
use Rattle.log_lines.specs.declared.line.LogLine.TheVariants as lines
use Rattle.log_form.specs.declared.fault.LogFault.TheVariants as faults

-- FAULTS THAT AREN'T THERE

pub no_some : {A : Type 0} (x : A) → Some x ≡ None → ⊥
no_some x e = cc

pub not_true : (b : Bool) (f : LogFault) (o : Option LogFault) → where_true b f o ≡ None → (b ≡ false) × (o ≡ None)
not_true true f o e = absurd (no_some f e)
not_true false f o e = (refl, e)

not_found : (file line : ℕ) (f : Option LogFault) (later : Option LocatedFault) → found_at file line f later ≡ None → (f ≡ None) × (later ≡ None)
not_found file line None later e = (refl, e)
not_found file line (Some f) later e = absurd (no_some _ e)

not_sooner : (a b : Option LocatedFault) → or_later a b ≡ None → (a ≡ None) × (b ≡ None)
not_sooner None b e = (refl, e)
not_sooner (Some x) b e = absurd (no_some x e)

-- the first line is passed over
first_passed : (spot : Spot) (said : Result LogLine LogCause) → first_fault said ≡ None → spot_behind_said spot said ≡ spot
first_passed spot (Err cause) e = refl
first_passed spot (Ok lines.Version) e = refl
first_passed spot (Ok (lines.Act act)) e = absurd (no_some _ e)
first_passed spot (Ok (lines.Strand t i)) e = absurd (no_some _ e)
first_passed spot (Ok (lines.Name site)) e = absurd (no_some _ e)
first_passed spot (Ok lines.Comment) e = absurd (no_some _ e)
first_passed spot (Ok lines.End) e = absurd (no_some _ e)

-- WHAT IS KEPT

module _ (Q : List Event → Type 0) (step : (before : List Event) (u : GraphStrand) (act : Act) → claim_fault before u act ≡ None → Q before → Q (before ++ event u act ∷ [])) where
  kept_act : (spot : Spot) (here : Option GraphStrand) (act : Act) → act_fault spot.events here act ≡ None → Q spot.events → Q (spot_behind_act spot here act).events
  kept_act spot None act e q = absurd (no_some _ e)
  kept_act spot (Some u) act e q = step spot.events u act (not_true (has_ended spot.events u) faults.StrandEnded (claim_fault spot.events u act) e).1 q

  -- a line
  kept_said : (spot : Spot) (said : Result LogLine LogCause) → said_fault spot said ≡ None → Q spot.events → Q (spot_behind_said spot said).events
  kept_said spot (Err cause) e q = q
  kept_said spot (Ok lines.Version) e q = q
  kept_said spot (Ok (lines.Act act)) e q = kept_act spot spot.here act e q
  kept_said spot (Ok (lines.Strand t i)) e q = q
  kept_said spot (Ok (lines.Name site)) e q = q
  kept_said spot (Ok lines.Comment) e q = q
  kept_said spot (Ok lines.End) e q = q

  -- the lines of a file from one on
  kept_lines : (file line : ℕ) (spot : Spot) (ls : List (List ℕ)) → fault_from file spot line ls ≡ None → Q spot.events → Q (spot_behind_all spot ls).events
  kept_lines file line spot [] e q = q
  kept_lines file line spot (l ∷ ls) e q =
      let none = not_found file line (line_fault spot (line_of l)) (fault_from file (spot_behind_said spot (line_of l)) (line + 1) ls) e in
      let said = (not_true spot.closed faults.AfterEnd (said_fault spot (line_of l)) none.0).1 in
      kept_lines file (line + 1) (spot_behind_said spot (line_of l)) ls none.1 (kept_said spot (line_of l) said q)

  kept_file : (file : ℕ) (before : List Event) (ls : List (List ℕ)) → fault_of_lines file before ls ≡ None → Q before → Q (spot_behind_all (file_begin before) ls).events
  kept_file file before [] e q = q
  kept_file file before (l ∷ ls) e q =
      let none = not_found file 1 (first_fault (line_of l)) (fault_from file (file_begin before) 2 ls) e in
      subst (λ (spot : Spot). Q (spot_behind_all spot ls).events) (sym (first_passed (file_begin before) (line_of l) none.0)) (kept_lines file 2 (file_begin before) ls none.1 q)

  kept_files : (file : ℕ) (before : List Event) (texts : List (List ℕ)) → fault_behind file before texts ≡ None → Q before → Q (events_behind before texts)
  kept_files file before [] e q = q
  kept_files file before (text ∷ texts) e q =
      let none = not_sooner (fault_of_lines file before (lines_in text)) (fault_behind (file + 1) (file_end before text).events texts) e in
      kept_files (file + 1) (file_end before text).events texts none.1 (kept_file file before (lines_in text) none.0 q)

  pub kept_log : (texts : List (List ℕ)) → log_fault texts ≡ None → Q [] → Q (events_of texts)
  kept_log texts e q = kept_files 0 [] texts e q

-- WHAT HAPPENS ONCE

-- of the acts that pass a test no two are at different places
abbrev pub IsOnce : (Act → Bool) → List Event → Type 0
IsOnce test events = (m n : ℕ) (e f : Event) → slice_get events m ≡ Some e → slice_get events n ≡ Some f → test e.act ≡ true → test f.act ≡ true → m ≡ n

module _ (test : Act → Bool) (before : List Event) (x : Event) (fresh : test x.act ≡ true → list_any (λ e. test e.act) before ≡ false) where
  not_again : (m : ℕ) (e : Event) → slice_get before m ≡ Some e → test e.act ≡ true → test x.act ≡ true → ⊥
  not_again m e at is new = (let z : true ≡ false = sym (any_from_in (λ (y : Event). test y.act) before e (got_in before m e at) is) ∙ fresh new in cc)

  pub once_more : IsOnce test before → IsOnce test (before ++ x ∷ [])
  once_more h m n e f gm gn te tf = by_places (got_more before x e m gm) (got_more before x f n gn)
    where
      by_places : (slice_get before m ≡ Some e) ⊎ ((m ≡ length before) × (x ≡ e)) → (slice_get before n ≡ Some f) ⊎ ((n ≡ length before) × (x ≡ f)) → m ≡ n
      by_places (inl a) (inl b) = h m n e f a b te tf
      by_places (inl a) (inr b) = absurd (not_again m e a te (ap (λ (y : Event). test y.act) b.1 ∙ tf))
      by_places (inr a) (inl b) = absurd (not_again n f b tf (ap (λ (y : Event). test y.act) a.1 ∙ te))
      by_places (inr a) (inr b) = a.0 ∙ sym b.0

born_fresh : (b : ℕ) (before : List Event) (u : GraphStrand) (act : Act) → claim_fault before u act ≡ None → bears b act ≡ true → is_born before b ≡ false
born_fresh b before u (acts.Birth d l) e s =
    let same : d ≡ b = grind (arith, nat_tests, s) in
    subst (λ (n : ℕ). is_born before n ≡ false) same (not_true (is_born before d) faults.BornTwice None e).0
born_fresh b before u (acts.Access a) e s = absurd (cc)
born_fresh b before u (acts.Yield r) e s = absurd (cc)
born_fresh b before u (acts.Store r) e s = absurd (cc)
born_fresh b before u (acts.Release d) e s = absurd (cc)
born_fresh b before u (acts.Work n) e s = absurd (cc)
born_fresh b before u (acts.Spawn d) e s = absurd (cc)
born_fresh b before u (acts.Join d) e s = absurd (cc)
born_fresh b before u acts.Finish e s = absurd (cc)

released_fresh : (b : ℕ) (before : List Event) (u : GraphStrand) (act : Act) → claim_fault before u act ≡ None → releases b act ≡ true → is_released before b ≡ false
released_fresh b before u (acts.Release d) e s =
    let same : d ≡ b = grind (arith, nat_tests, s) in
    subst (λ (n : ℕ). is_released before n ≡ false) same (not_true (is_released before d) faults.ReleasedTwice None e).0
released_fresh b before u (acts.Access a) e s = absurd (cc)
released_fresh b before u (acts.Yield r) e s = absurd (cc)
released_fresh b before u (acts.Store r) e s = absurd (cc)
released_fresh b before u (acts.Birth d l) e s = absurd (cc)
released_fresh b before u (acts.Work n) e s = absurd (cc)
released_fresh b before u (acts.Spawn d) e s = absurd (cc)
released_fresh b before u (acts.Join d) e s = absurd (cc)
released_fresh b before u acts.Finish e s = absurd (cc)

none_once : (test : Act → Bool) → IsOnce test []
none_once test m n e f gm gn te tf = absurd (let z : None ≡ Some e = gm in cc)

-- a block is born once at most, and released once
pub born_once : (b : ℕ) (texts : List (List ℕ)) → log_fault texts ≡ None → IsOnce (bears b) (events_of texts)
born_once b texts e = kept_log (IsOnce (bears b)) (λ before u act claim h. once_more (bears b) before (event u act) (born_fresh b before u act claim) h) texts e (none_once (bears b))

pub released_once : (b : ℕ) (texts : List (List ℕ)) → log_fault texts ≡ None → IsOnce (releases b) (events_of texts)
released_once b texts e = kept_log (IsOnce (releases b)) (λ before u act claim h. once_more (releases b) before (event u act) (released_fresh b before u act claim) h) texts e (none_once (releases b))
