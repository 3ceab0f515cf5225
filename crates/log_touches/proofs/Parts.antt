-- What pieces access, one after the other.
use Rattle.log_touches.proofs.Common.{◌≡◌, ◌<◌, ◌≤◌, ◌+◌, ◌++◌, ◌∷◌, ◌∙◌, ◌==◌, ℕ, true, List, [], length, take, drop, get_or, slice_get, Some, refl, sym, ap, arith, and_parts, eqb-true, flat_map-append, append_assoc, slice_get-get_or, In, in_flat, flat_in, got_in, in_map, Act, GraphStrand, strand, Event, event, LogPiece, is_that, acts_of_piece, events_in, events_of_pieces, on_strand, Region, RacesError, TooManyStretches, TooLong, NoMemory, AreTooMany, regions_of_act, regions_of_acts, regions_of_events, firsts_from}
use Rattle.log_touches.proofs.Chains.{IsSplit, split_at, dropped, events_more}

-- the piece of no strand
abbrev pub no_piece : LogPiece
no_piece = record { strand = record { task = 0; index = 0 }; file = 0; begin = 0; end = 0 }

pub split_here : (pieces : List LogPiece) (i : ℕ) → i < length pieces → IsSplit pieces i (get_or pieces i no_piece) (drop (i + 1) pieces)
split_here pieces i lt = split_at pieces i (get_or pieces i no_piece) (drop (i + 1) pieces) (dropped pieces i (get_or pieces i no_piece) (slice_get-get_or pieces i no_piece lt))

of_strand : (u : GraphStrand) (acts : List Act) → regions_of_events (on_strand u acts) ≡ regions_of_acts acts
of_strand u [] = refl
of_strand u (a ∷ acts) = ap (λ l. regions_of_act a ++ l) (of_strand u acts)

pub regions_more : (texts : List (List ℕ)) (pieces : List LogPiece) (i : ℕ) (p : LogPiece) (rest : List LogPiece) → IsSplit pieces i p rest
    → regions_of_events (events_of_pieces texts (take (i + 1) pieces)) ≡ regions_of_events (events_of_pieces texts (take i pieces)) ++ regions_of_acts (acts_of_piece texts p)
regions_more texts pieces i p rest split =
    ap regions_of_events (events_more texts pieces i p rest split)
    ∙ (flat_map-append (λ (e : Event). regions_of_act e.act) (events_of_pieces texts (take i pieces)) (events_in texts p)
    ∙ ap (λ l. regions_of_events (events_of_pieces texts (take i pieces)) ++ l) (of_strand p.strand (acts_of_piece texts p)))

pub firsts_more : (texts : List (List ℕ)) (pieces : List LogPiece) (i n m : ℕ) (firsts : List ℕ) → i < length pieces → m ≡ n + length (acts_of_piece texts (get_or pieces i no_piece))
    → firsts ++ firsts_from texts n (drop i pieces) ≡ firsts_from texts 0 pieces → (firsts ++ n ∷ []) ++ firsts_from texts m (drop (i + 1) pieces) ≡ firsts_from texts 0 pieces
firsts_more texts pieces i n m firsts lt is all =
    append_assoc firsts (n ∷ []) (firsts_from texts m (drop (i + 1) pieces))
    ∙ (ap (λ k. firsts ++ (n ∷ firsts_from texts k (drop (i + 1) pieces))) is
    ∙ (ap (λ l. firsts ++ firsts_from texts n l) (sym (dropped pieces i (get_or pieces i no_piece) (slice_get-get_or pieces i no_piece lt))) ∙ all))

pub still_too_many : (n m : ℕ) (e : RacesError) → n ≤ m → AreTooMany n e → AreTooMany m e
still_too_many n m TooManyStretches le h = h
still_too_many n m TooLong le h = omega (arith, h, le)
still_too_many n m NoMemory le h = tt

-- what a piece accesses is among all
pub among_all : (texts : List (List ℕ)) (pieces : List LogPiece) (i : ℕ) (p : LogPiece) (r : Region) → slice_get pieces i ≡ Some p → In (regions_of_acts (acts_of_piece texts p)) r
    → In (regions_of_events (events_of_pieces texts pieces)) r
among_all texts pieces i p r at there =
    let m = flat_in regions_of_act (acts_of_piece texts p) r there in
    let a = m.1 in
    in_flat (λ (e : Event). regions_of_act e.act) (events_of_pieces texts pieces) (event p.strand a) r
    (in_flat (events_in texts) pieces p (event p.strand a) (got_in pieces i p at) (in_map (event p.strand) (acts_of_piece texts p) a (got_in (acts_of_piece texts p) m.0 a m.2))) m.3

pub that_strand : (v u : GraphStrand) → is_that v u.task u.index ≡ true → v ≡ u
that_strand v u e =
    let both = and_parts (v.task == u.task) (v.index == u.index) e in
    ap (λ t. strand t v.index) (eqb-true v.task u.task both.0) ∙ ap (λ i. strand u.task i) (eqb-true v.index u.index both.1)
