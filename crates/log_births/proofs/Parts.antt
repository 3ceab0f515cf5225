-- The acts of a piece are those of the log from one on.
use Rattle.log_births.proofs.Common.{◌≡◌, ◌<◌, ◌+◌, ◌++◌, ◌∷◌, ◌∙◌, ℕ, List, [], length, get_or, take, drop, slice_range, sym, ap, subst, Some, slice_get, append_assoc, arith, take-append-drop, drop_more, length_push, length-map, length-append, flat_map-append, got_middle, GraphStrand, LogPiece, on_strand, text_at, acts_in, acts_of_piece, events_in, events_of_pieces, pieces_more, Act, Event, event, IsPart}

module _ (events : List Event) (first : ℕ) (s : GraphStrand) (a : Act) (acts : List Act) where
  -- the first act
  pub part_first : IsPart events first s (a ∷ acts) → slice_get events first ≡ Some (event s a)
  part_first part =
      ap (λ (es : List Event). slice_get es first) part.whole
      ∙ subst (λ (n : ℕ). slice_get (part.before ++ event s a ∷ (on_strand s acts ++ part.after)) n ≡ Some (event s a)) part.count (got_middle part.before (event s a) (on_strand s acts ++ part.after))

  -- the others
  pub part_rest : IsPart events first s (a ∷ acts) → IsPart events (first + 1) s acts
  part_rest part = record {
    before = part.before ++ event s a ∷ [];
    after = part.after;
    whole = part.whole ∙ sym (append_assoc part.before (event s a ∷ []) (on_strand s acts ++ part.after));
    count = length_push part.before (event s a) ∙ ap (λ (n : ℕ). n + 1) part.count;
  }

-- those of a piece
pub part_of : (texts : List (List ℕ)) (pieces : List LogPiece) (i : ℕ) (d : LogPiece) (text : List ℕ) (first : ℕ) → i < length pieces
    → text ≡ slice_range (text_at texts (get_or pieces i d).file) (get_or pieces i d).begin (get_or pieces i d).end → first ≡ length (events_of_pieces texts (take i pieces))
    → IsPart (events_of_pieces texts pieces) first (get_or pieces i d).strand (acts_in text)
part_of texts pieces i d text first lt is count =
    let p = get_or pieces i d in
    let all : pieces ≡ take i pieces ++ (p ∷ drop (i + 1) pieces) = sym (ap (λ (ps : List LogPiece). take i pieces ++ ps) (sym (drop_more pieces i d lt)) ∙ take-append-drop i pieces) in
    record {
      before = events_of_pieces texts (take i pieces);
      after = events_of_pieces texts (drop (i + 1) pieces);
      whole =
          ap (events_of_pieces texts) all
          ∙ flat_map-append (events_in texts) (take i pieces) (p ∷ drop (i + 1) pieces)
          ∙ ap (λ (t : List ℕ). events_of_pieces texts (take i pieces) ++ (on_strand p.strand (acts_in t) ++ events_of_pieces texts (drop (i + 1) pieces))) (sym is);
      count = sym count;
    }

-- how many acts there are before the next piece
pub count_more : (texts : List (List ℕ)) (pieces : List LogPiece) (i : ℕ) (d : LogPiece) (text : List ℕ) (first line : ℕ) → i < length pieces
    → text ≡ slice_range (text_at texts (get_or pieces i d).file) (get_or pieces i d).begin (get_or pieces i d).end → first ≡ length (events_of_pieces texts (take i pieces)) → line ≡ first + length (acts_in text)
    → line ≡ length (events_of_pieces texts (take (i + 1) pieces))
count_more texts pieces i d text first line lt is count more =
    let u = (get_or pieces i d).strand in
    let own : length (events_in texts (get_or pieces i d)) ≡ length (acts_in text) = length-map (acts_of_piece texts (get_or pieces i d)) (event u) ∙ ap (λ (t : List ℕ). length (acts_in t)) (sym is) in
    let parts : length (events_of_pieces texts (take (i + 1) pieces)) ≡ length (events_of_pieces texts (take i pieces)) + length (events_in texts (get_or pieces i d)) =
    ap length (pieces_more texts pieces i d lt) ∙ length-append (events_of_pieces texts (take i pieces)) (events_in texts (get_or pieces i d)) in
    omega (arith, own, parts, count, more)
