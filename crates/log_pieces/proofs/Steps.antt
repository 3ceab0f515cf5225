-- Pieces and events go along with the lines.
use Rattle.log_pieces.proofs.Common.{◌≡◌, ◌<◌, ◌≤◌, ◌+◌, ◌-◌, ◌==◌, ℕ, Bool, true, false, List, [], ◌∷◌, ◌++◌, length, take, drop, cond, map, arith, refl, ap, sym, subst, ◌∙◌, append_assoc, append-nil, slice_range, nat_lt, Option, Some, None, Result, Ok, Err, IfSome, inl, inr, ◌⊎◌, option_map, flat_map, flat_map-append, cases_lt, nat_tests, LogCause, Act, LogLine, line_of, GraphStrand, strand, Event, event, Spot, is_last, strand_behind, spot_behind_act, spot_behind, spot_behind_said, LogPiece, Cut, with_piece, turned, cut_behind_act, cut_behind, cut_behind_said, act_said, acts_in, text_at, on_strand, events_in, events_of_pieces, events_open, IsLineAt, BeginsLine, IsBegun, Cuts}
use Rattle.log_lines.specs.declared.line.Act.TheVariants as acts
use Rattle.log_lines.specs.declared.line.LogLine.TheVariants as lines
use Rattle.log_pieces.proofs.Whole.{none_whole, whole_acts, whole_more, acts_one, range_more}

on_append : (u : GraphStrand) (xs ys : List Act) → on_strand u (xs ++ ys) ≡ on_strand u xs ++ on_strand u ys
on_append u [] ys = refl
on_append u (x ∷ xs) ys = ap (λ es. event u x ∷ es) (on_append u xs ys)

none_between : (text : List ℕ) (at begin : ℕ) → at ≤ begin → slice_range text begin at ≡ []
none_between text at begin le = ap (λ k. take k (drop begin text)) (let e : at - begin ≡ 0 = omega (arith, le) in e)

-- PIECES

piece_by : (texts : List (List ℕ)) (file : ℕ) (text : List ℕ) (u : GraphStrand) (begin end : ℕ) (pieces : List LogPiece) → text_at texts file ≡ text → (nat_lt begin end ≡ true) ⊎ (end ≤ begin)
    → events_of_pieces texts (with_piece file (Some (u, begin)) end pieces) ≡ events_of_pieces texts pieces ++ events_open text (Some (u, begin)) end
piece_by texts file text u begin end pieces t (inl e) =
    rw e (flat_map-append (events_in texts) pieces (record { strand = u; file = file; begin = begin; end = end } ∷ [])
    ∙ ap (λ es. events_of_pieces texts pieces ++ es) (append-nil (events_in texts (record { strand = u; file = file; begin = begin; end = end })) ∙ ap (λ s. on_strand u (acts_in (slice_range s begin end))) t))
piece_by texts file text u begin end pieces t (inr le) =
    let e : nat_lt begin end ≡ false = grind (arith, nat_tests, le) in
    rw (e, none_between text end begin le) (sym (append-nil (events_of_pieces texts pieces)))

nonempty : (m n : ℕ) → (m < n) ⊎ (n ≤ m) → (nat_lt m n ≡ true) ⊎ (n ≤ m)
nonempty m n (inl lt) = inl (grind (arith, nat_tests, lt))
nonempty m n (inr le) = inr le

-- the piece that ends has what has happened in it
pub closed_events : (texts : List (List ℕ)) (file : ℕ) (text : List ℕ) (place : Option (GraphStrand × ℕ)) (end : ℕ) (pieces : List LogPiece) → text_at texts file ≡ text
    → events_of_pieces texts (with_piece file place end pieces) ≡ events_of_pieces texts pieces ++ events_open text place end
closed_events texts file text None end pieces t = sym (append-nil (events_of_pieces texts pieces))
closed_events texts file text (Some (u, begin)) end pieces t = piece_by texts file text u begin end pieces t (nonempty begin end (cases_lt begin end))

-- THE RELATION

-- where a place begins
begun_here : (text : List ℕ) (u : GraphStrand) (at : ℕ) → IsBegun text (Some (u, at)) at
begun_here text u at = let e : slice_range text at at ≡ [] = none_between text at at (omega arith) in (omega arith, rw e none_whole)

empty_here : (text : List ℕ) (u : GraphStrand) (at : ℕ) → events_open text (Some (u, at)) at ≡ []
empty_here text u at = ap (λ s. on_strand u (acts_in s)) (none_between text at at (omega arith))

-- the open piece goes on
begun_more : (text : List ℕ) (place : Option (GraphStrand × ℕ)) (at end : ℕ) → IsLineAt text at end → IsBegun text place at → IsBegun text place (end + 1)
begun_more text None at end is b = tt
begun_more text (Some (u, begin)) at end is b = (
  let a = is.after in let le = b.0 in omega (arith, a, le),
  subst BeginsLine (sym (range_more text begin at end b.0 is)) (whole_more (slice_range text begin at) (slice_range text at end) b.1),
)

open_more : (text : List ℕ) (u : GraphStrand) (begin at end : ℕ) → IsLineAt text at end → IsBegun text (Some (u, begin)) at
    → events_open text (Some (u, begin)) (end + 1) ≡ events_open text (Some (u, begin)) at ++ on_strand u (act_said (line_of (slice_range text at end)))
open_more text u begin at end is b =
    let line = slice_range text at end in
    ap (on_strand u) (ap acts_in (range_more text begin at end b.0 is) ∙ whole_acts (slice_range text begin at) line b.1 ∙ ap (λ a. acts_in (slice_range text begin at) ++ a) (acts_one line is.alone))
    ∙ on_append u (acts_in (slice_range text begin at)) (act_said (line_of line))

-- a line that is no act, behind which the same strand is open
silent : (text : List ℕ) (place : Option (GraphStrand × ℕ)) (at end : ℕ) → IsLineAt text at end → IsBegun text place at → act_said (line_of (slice_range text at end)) ≡ []
    → events_open text place (end + 1) ≡ events_open text place at
silent text None at end is b e = refl
silent text (Some (u, begin)) at end is b e =
    open_more text u begin at end is b ∙ ap (λ a. events_open text (Some (u, begin)) at ++ on_strand u a) e ∙ append-nil (events_open text (Some (u, begin)) at)

module _ (texts : List (List ℕ)) (file : ℕ) (text : List ℕ) (t : text_at texts file ≡ text) where
  stays : (cut : Cut) (at end : ℕ) (events : List Event) → IsLineAt text at end → act_said (line_of (slice_range text at end)) ≡ [] → Cuts texts text cut at events → Cuts texts text cut (end + 1) events
  stays cut at end events is e c = record {
    all = ap (λ es. events_of_pieces texts cut.pieces ++ es) (silent text cut.place at end is c.begun e) ∙ c.all;
    begun = begun_more text cut.place at end is c.begun;
  }

  -- a strand is told
  begins : (cut : Cut) (u : GraphStrand) (at end : ℕ) (events : List Event) → Cuts texts text cut at events
      → Cuts texts text (record { place = Some (u, end); pieces = with_piece file cut.place at cut.pieces }) end events
  begins cut u at end events c = record {
    all = ap (λ es. events_of_pieces texts (with_piece file cut.place at cut.pieces) ++ es) (empty_here text u end)
        ∙ append-nil (events_of_pieces texts (with_piece file cut.place at cut.pieces))
        ∙ closed_events texts file text cut.place at cut.pieces t ∙ c.all;
    begun = begun_here text u end;
  }

  -- the open strand acts
  acted : (pieces : List LogPiece) (u : GraphStrand) (begin at end : ℕ) (act : Act) (events : List Event) → IsLineAt text at end → act_said (line_of (slice_range text at end)) ≡ act ∷ []
      → Cuts texts text (record { place = Some (u, begin); pieces = pieces }) at events
      → events_of_pieces texts pieces ++ events_open text (Some (u, begin)) (end + 1) ≡ events ++ event u act ∷ []
  acted pieces u begin at end act events is e c =
      ap (λ es. events_of_pieces texts pieces ++ es) (open_more text u begin at end is c.begun ∙ ap (λ a. events_open text (Some (u, begin)) at ++ on_strand u a) e)
      ∙ sym (append_assoc (events_of_pieces texts pieces) (events_open text (Some (u, begin)) at) (event u act ∷ []))
      ∙ ap (λ es. es ++ event u act ∷ []) c.all

  -- where another strand, or none, is open behind
  ended : (next : Option GraphStrand) (pieces : List LogPiece) (end : ℕ) (events : List Event) → events_of_pieces texts pieces ≡ events
      → Cuts texts text (record { place = option_map (λ v. (v, end)) next; pieces = pieces }) end events
  ended None pieces end events e = record { all = append-nil (events_of_pieces texts pieces) ∙ e; begun = tt }
  ended (Some v) pieces end events e = record {
    all = ap (λ es. events_of_pieces texts pieces ++ es) (empty_here text v end) ∙ append-nil (events_of_pieces texts pieces) ∙ e;
    begun = begun_here text v end;
  }

  act_by : (b : Bool) (spot : Spot) (pieces : List LogPiece) (u : GraphStrand) (begin at end : ℕ) (act : Act) → is_last act ≡ b → IsLineAt text at end → act_said (line_of (slice_range text at end)) ≡ act ∷ []
      → (is_last act ≡ false → strand_behind u act ≡ Some u)
      → Cuts texts text (record { place = Some (u, begin); pieces = pieces }) at spot.events
      → Cuts texts text (cond b (turned file (record { place = Some (u, begin); pieces = pieces }) u act (end + 1)) (record { place = Some (u, begin); pieces = pieces })) (end + 1) (spot.events ++ event u act ∷ [])
  act_by true spot pieces u begin at end act l is e s c =
      ended (strand_behind u act) (with_piece file (Some (u, begin)) (end + 1) pieces) (end + 1) (spot.events ++ event u act ∷ [])
      (closed_events texts file text (Some (u, begin)) (end + 1) pieces t ∙ acted pieces u begin at end act spot.events is e c)
  act_by false spot pieces u begin at end act l is e s c = record {
    all = acted pieces u begin at end act spot.events is e c;
    begun = begun_more text (Some (u, begin)) at end is c.begun;
  }

  act_step : (spot : Spot) (place : Option (GraphStrand × ℕ)) (pieces : List LogPiece) (at end : ℕ) (act : Act) → option_map (λ p. p.0) place ≡ spot.here → IsLineAt text at end
      → act_said (line_of (slice_range text at end)) ≡ act ∷ []
      → Cuts texts text (record { place = place; pieces = pieces }) at spot.events
      → Cuts texts text (cut_behind_act file (record { place = place; pieces = pieces }) place act (end + 1)) (end + 1) (spot_behind_act spot spot.here act).events
  act_step spot None pieces at end act h is e c = rw (sym h) (record { all = c.all; begun = tt })
  act_step spot (Some (u, begin)) pieces at end act h is e c = rw (sym h) (act_by (is_last act) spot pieces u begin at end act refl is e (λ z. same_behind u act z) c)
    where
      same_behind : (v : GraphStrand) (a : Act) → is_last a ≡ false → strand_behind v a ≡ Some v
      same_behind v (acts.Access x) z = refl
      same_behind v (acts.Yield x) z = refl
      same_behind v (acts.Store x) z = refl
      same_behind v (acts.Birth b l) z = refl
      same_behind v (acts.Release b) z = refl
      same_behind v (acts.Work n) z = refl
      same_behind v (acts.Spawn x) z = absurd cc
      same_behind v (acts.Join x) z = absurd cc
      same_behind v acts.Finish z = absurd cc

  said_step : (said : Result LogLine LogCause) (spot : Spot) (cut : Cut) (at end : ℕ) → line_of (slice_range text at end) ≡ said → option_map (λ p. p.0) cut.place ≡ spot.here → IsLineAt text at end
      → Cuts texts text cut at spot.events → Cuts texts text (cut_behind_said file cut said at (end + 1)) (end + 1) (spot_behind_said spot said).events
  said_step (Err cause) spot cut at end l h is c = stays cut at end spot.events is (ap act_said l) c
  said_step (Ok lines.Version) spot cut at end l h is c = stays cut at end spot.events is (ap act_said l) c
  said_step (Ok (lines.Strand task i)) spot cut at end l h is c = begins cut (strand task i) at (end + 1) spot.events c
  said_step (Ok (lines.Act act)) spot cut at end l h is c = act_step spot cut.place cut.pieces at end act h is (ap act_said l) c
  said_step (Ok (lines.Name site)) spot cut at end l h is c = stays cut at end spot.events is (ap act_said l) c
  said_step (Ok lines.Comment) spot cut at end l h is c = stays cut at end spot.events is (ap act_said l) c
  said_step (Ok lines.End) spot cut at end l h is c = stays cut at end spot.events is (ap act_said l) c

  -- a line more
  pub line_step : (spot : Spot) (cut : Cut) (at end : ℕ) → option_map (λ p. p.0) cut.place ≡ spot.here → IsLineAt text at end → Cuts texts text cut at spot.events
      → Cuts texts text (cut_behind_said file cut (line_of (slice_range text at end)) at (end + 1)) (end + 1) (spot_behind_said spot (line_of (slice_range text at end))).events
  line_step spot cut at end h is c = said_step (line_of (slice_range text at end)) spot cut at end refl h is c
