-- How far the walk has come along the files.
use Rattle.log_pieces.proofs.Common.{◌≡◌, ◌<◌, ◌≤◌, ◌+◌, ◌||◌, ℕ, Bool, true, false, not, List, [], ◌∷◌, ◌++◌, length, drop, drop-cons, get_or, map, refl, ap, sym, subst, ◌∙◌, append-nil, slice_range, arith, Option, Some, None, Result, Ok, Err, IfOk, suc, drop_all, LogCause, LogLine, line_of, LogFault, LocatedFault, lines_in, Event, Spot, spot_behind_said, spot_behind_all, file_begin, file_end, events_behind, events_of, is_cut_behind, is_cut, first_fault, fault_from, fault_of_lines, found_at, or_later, fault_behind, log_fault, LineWalk, ClaimsHold, IsAtSpot, cut_of, text_at, events_of_pieces, Cuts, IsLineAt}
use Rattle.log_lines.specs.declared.cause.LogCause.TheVariants as causes
use Rattle.log_lines.specs.declared.line.LogLine.TheVariants as lines
use Rattle.log_form.specs.declared.fault.LogFault.TheVariants as faults
use Rattle.log_pieces.proofs.Known.{or_assoc, or_false}
use Rattle.log_pieces.proofs.Whole.{lines_from}

-- A FILE

first_is : (said : Result LogLine LogCause) → first_fault said ≡ None → said ≡ Ok lines.Version
first_is (Ok lines.Version) e = refl
first_is (Ok (lines.Strand t i)) e = absurd cc
first_is (Ok (lines.Act act)) e = absurd cc
first_is (Ok (lines.Name site)) e = absurd cc
first_is (Ok lines.Comment) e = absurd cc
first_is (Ok lines.End) e = absurd cc
first_is (Err causes.UnknownVersion) e = absurd cc
first_is (Err causes.BadWord) e = absurd cc
first_is (Err causes.BadNumber) e = absurd cc
first_is (Err causes.WrongCount) e = absurd cc
first_is (Err causes.OverLimit) e = absurd cc
first_is (Err causes.RunsOverlap) e = absurd cc

-- no line
pub no_line : (text : List ℕ) (file : ℕ) (before : List Event) → lines_in (drop 0 text) ≡ []
    → Some (record { at = record { file = file; line = 1 }; fault = faults.NoVersion }) ≡ fault_of_lines file before (lines_in text)
no_line text file before e = ap (fault_of_lines file before) (sym e)

module _ (text : List ℕ) (end : ℕ) (is : IsLineAt text 0 end) where
  line : List ℕ
  line = slice_range text 0 end

  pub first_bad : (file : ℕ) (before : List Event) (fault : LogFault) → Some fault ≡ first_fault (line_of (slice_range text 0 end))
      → Some (record { at = record { file = file; line = 1 }; fault = fault }) ≡ fault_of_lines file before (lines_in text)
  first_bad file before fault e =
      ap (λ f. found_at file 1 f (fault_from file (file_begin before) 2 (lines_in (drop (end + 1) text)))) e
      ∙ sym (ap (fault_of_lines file before) (lines_from text 0 end is))

  pub first_good : (file : ℕ) (before : List Event) → None ≡ first_fault (line_of (slice_range text 0 end))
      → fault_from file (file_begin before) 2 (lines_in (drop (end + 1) text)) ≡ fault_of_lines file before (lines_in text)
  first_good file before e =
      ap (λ f. found_at file 1 f (fault_from file (file_begin before) 2 (lines_in (drop (end + 1) text)))) e
      ∙ sym (ap (fault_of_lines file before) (lines_from text 0 end is))

  pub same_end : (before : List Event) → None ≡ first_fault (line_of (slice_range text 0 end))
      → spot_behind_all (file_begin before) (lines_in (drop (end + 1) text)) ≡ file_end before text
  same_end before e =
      ap (λ said. spot_behind_all (spot_behind_said (file_begin before) said) (lines_in (drop (end + 1) text))) (sym (first_is (line_of (slice_range text 0 end)) (sym e)))
      ∙ sym (ap (spot_behind_all (file_begin before)) (lines_from text 0 end is))

pub begun : (walk : LineWalk) (before : List Event) → walk.here ≡ None → walk.closed ≡ false → ClaimsHold walk.claims before → IsAtSpot walk (file_begin before)
begun walk before h c k = record { here = rw h refl; ended = rw h tt; closed = c; knows = k }

pub nothing_open : (texts : List (List ℕ)) (text : List ℕ) (walk : LineWalk) (at : ℕ) (before : List Event) → walk.here ≡ None → events_of_pieces texts walk.pieces ≡ before → Cuts texts text (cut_of walk) at before
nothing_open texts text walk at before h e = record { all = rw h (append-nil (events_of_pieces texts walk.pieces) ∙ e); begun = rw h tt }

-- behind the version line
module _ (walk : LineWalk) (text : List ℕ) (end : ℕ) (is : IsLineAt text 0 end) (e : None ≡ first_fault (line_of (slice_range text 0 end))) where
  abbrev again : LineWalk
  again = record { claims = walk.claims; pieces = walk.pieces; file = walk.file; closed = false; here = None }

  pub then_found : {E : Type 0} (r : Result (Option LocatedFault) E) → IfOk r (λ found. (spot : Spot) → IsAtSpot again spot → found ≡ fault_from walk.file spot 2 (lines_in (drop (end + 1) text)))
      → IfOk r (λ found. (before : List Event) → ClaimsHold walk.claims before → found ≡ fault_of_lines walk.file before (lines_in text))
  then_found (Ok found) h = λ before k. h (file_begin before) (begun again before refl refl k) ∙ first_good text end is walk.file before e
  then_found (Err x) h = tt

  pub then_after : {E : Type 0} (r : Result (Option LocatedFault) E) (new : LineWalk) → IfOk r (λ found. found ≡ None → (spot : Spot) → IsAtSpot again spot → IsAtSpot new (spot_behind_all spot (lines_in (drop (end + 1) text))))
      → IfOk r (λ found. found ≡ None → (before : List Event) → ClaimsHold walk.claims before → IsAtSpot new (file_end before text))
  then_after (Ok found) new h = λ n before k. subst (IsAtSpot new) (same_end text end is before e) (h n (file_begin before) (begun again before refl refl k))
  then_after (Err x) new h = tt

  pub then_pieces : {E : Type 0} (r : Result (Option LocatedFault) E) (new : LineWalk)
      → IfOk r (λ found. found ≡ None → (spot : Spot) → IsAtSpot again spot → (texts : List (List ℕ)) → text_at texts walk.file ≡ text → Cuts texts text (cut_of again) (end + 1) spot.events
      → events_of_pieces texts new.pieces ≡ (spot_behind_all spot (lines_in (drop (end + 1) text))).events)
      → IfOk r (λ found. found ≡ None → (before : List Event) → ClaimsHold walk.claims before → (texts : List (List ℕ)) → text_at texts walk.file ≡ text
      → events_of_pieces texts walk.pieces ≡ before → events_of_pieces texts new.pieces ≡ (file_end before text).events)
  then_pieces (Ok found) new h = λ n before k texts t p.
      h n (file_begin before) (begun again before refl refl k) texts t (nothing_open texts text again (end + 1) before refl p) ∙ ap (λ s. s.events) (same_end text end is before e)
  then_pieces (Err x) new h = tt

-- ALL FILES

-- behind some of the files, what has happened is known, and the rest has what all had
pub record Has (walk : LineWalk) (cut : Bool) (texts : List (List ℕ)) (file : ℕ) : Type 0 where
  pub before : List Event
  pub knows : ClaimsHold walk.claims before
  pub faults : fault_behind file before (drop file texts) ≡ log_fault texts
  pub ends : events_behind before (drop file texts) ≡ events_of texts
  pub cuts : (cut || is_cut_behind before (drop file texts)) ≡ is_cut texts
  pub pieces : events_of_pieces texts walk.pieces ≡ before

pub has_none : (walk : LineWalk) (texts : List (List ℕ)) → ClaimsHold walk.claims [] → walk.pieces ≡ [] → Has walk false texts 0
has_none walk texts k e = record { before = []; knows = k; faults = refl; ends = refl; cuts = refl; pieces = ap (events_of_pieces texts) e }

module _ (walk : LineWalk) (cut : Bool) (texts : List (List ℕ)) (file : ℕ) (text : List ℕ) (h : Has walk cut texts file) (lt : file < length texts) (t : text_at texts file ≡ text) where
  rest_is : drop file texts ≡ text ∷ drop (file + 1) texts
  rest_is = drop-cons texts file [] lt ∙ ap (λ x. x ∷ drop (suc file) texts) t ∙ ap (λ k. text ∷ drop k texts) (let s : suc file ≡ file + 1 = omega arith in s)

  pub file_fault : (found : LocatedFault) → Some found ≡ fault_of_lines file h.before (lines_in text) → log_fault texts ≡ Some found
  file_fault found e =
      sym h.faults ∙ ap (fault_behind file h.before) rest_is
      ∙ ap (λ f. or_later f (fault_behind (file + 1) (file_end h.before text).events (drop (file + 1) texts))) (sym e)

  pub has_more : (new : LineWalk) → None ≡ fault_of_lines file h.before (lines_in text) → IsAtSpot new (file_end h.before text) → events_of_pieces texts new.pieces ≡ (file_end h.before text).events
      → Has new (cut || not new.closed) texts (file + 1)
  has_more new e f p = record {
    before = (file_end h.before text).events;
    knows = f.knows;
    faults =
        ap (λ g. or_later g (fault_behind (file + 1) (file_end h.before text).events (drop (file + 1) texts))) e
        ∙ sym (ap (fault_behind file h.before) rest_is) ∙ h.faults;
    ends = sym (ap (events_behind h.before) rest_is) ∙ h.ends;
    cuts =
        ap (λ b. (cut || not b) || is_cut_behind (file_end h.before text).events (drop (file + 1) texts)) f.closed
        ∙ sym (or_assoc cut (not (file_end h.before text).closed) (is_cut_behind (file_end h.before text).events (drop (file + 1) texts)))
        ∙ sym (ap (λ ts. cut || is_cut_behind h.before ts) rest_is) ∙ h.cuts;
    pieces = p;
  }

-- no file is left
module _ (walk : LineWalk) (cut : Bool) (texts : List (List ℕ)) (file : ℕ) (h : Has walk cut texts file) (le : length texts ≤ file) where
  pub no_fault : log_fault texts ≡ None
  no_fault = sym h.faults ∙ ap (fault_behind file h.before) (drop_all file texts le)

  pub cut_is : cut ≡ is_cut texts
  cut_is = or_false cut ∙ sym (ap (λ ts. cut || is_cut_behind h.before ts) (drop_all file texts le)) ∙ h.cuts

  pub all_pieces : events_of_pieces texts walk.pieces ≡ events_of texts
  all_pieces = h.pieces ∙ sym (ap (events_behind h.before) (drop_all file texts le)) ∙ h.ends
