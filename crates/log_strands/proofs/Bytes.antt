-- Pieces say no more acts than they have bytes.
use Rattle.log_strands.proofs.Common.{◌≡◌, ◌==◌, ◌<◌, ◌≤◌, ◌+◌, ◌∷◌, ◌∙◌, ℕ, Bool, true, false, List, [], cond, length, get_or, take, ap, slice_range, arith, nat_lt, nat_tests, length-map, length-append, sum_by_more_le, take_more, take_all, sum_by-append, sum_by-cons, flat_map, Result, Ok, Err, onto_first, lines_of, LogCause, Act, LogLine, line_of, event, LogPiece, act_said, text_at, acts_in, acts_of_piece, events_in, events_of_pieces, piece_bytes, bytes_of}
use Rattle.log_lines.specs.declared.line.LogLine.TheVariants as lines

one_act : (said : Result LogLine LogCause) → length (act_said said) ≤ 1
one_act (Ok lines.Version) = omega arith
one_act (Ok (lines.Strand t i)) = omega arith
one_act (Ok (lines.Act act)) = omega arith
one_act (Ok (lines.Name site)) = omega arith
one_act (Ok lines.Comment) = omega arith
one_act (Ok lines.End) = omega arith
one_act (Err cause) = omega arith

abbrev acts_of_lines : List (List ℕ) → List Act
acts_of_lines ls = flat_map (λ line. act_said (line_of line)) ls

-- a byte in front of lines
acts_onto : (c n : ℕ) (b : Bool) (ls : List (List ℕ)) → length (acts_of_lines ls) ≤ n → length (acts_of_lines (cond b ([] ∷ ls) (onto_first c ls))) ≤ n + 1
acts_onto c n true ls le = omega (arith, le)
acts_onto c n false [] le =
    let one = one_act (line_of (c ∷ [])) in
    let parts = length-append (act_said (line_of (c ∷ []))) [] in
    omega (arith, one, parts)
acts_onto c n false (l ∷ ls) le =
    let one = one_act (line_of (c ∷ l)) in
    let old = length-append (act_said (line_of l)) (acts_of_lines ls) in
    let new = length-append (act_said (line_of (c ∷ l))) (acts_of_lines ls) in
    omega (arith, one, old, new, le)

pub acts_few : (text : List ℕ) → length (acts_in text) ≤ length text
acts_few [] = omega arith
acts_few (c ∷ cs) = let more : length (acts_in (c ∷ cs)) ≤ length cs + 1 = acts_onto c (length cs) (c == 10) (lines_of cs) (acts_few cs) in omega (arith, more)

events_few : (texts : List (List ℕ)) (p : LogPiece) → length (events_in texts p) ≤ piece_bytes texts p
events_few texts p =
    let one : length (events_in texts p) ≡ length (acts_of_piece texts p) = length-map (acts_of_piece texts p) (event p.strand) in
    let few = acts_few (slice_range (text_at texts p.file) p.begin p.end) in
    omega (arith, one, few)

pub pieces_few : (texts : List (List ℕ)) (pieces : List LogPiece) → length (events_of_pieces texts pieces) ≤ bytes_of texts pieces
pieces_few texts [] = omega arith
pieces_few texts (p ∷ ps) =
    let parts : length (events_of_pieces texts (p ∷ ps)) ≡ length (events_in texts p) + length (events_of_pieces texts ps) = length-append (events_in texts p) (events_of_pieces texts ps) in
    let one = events_few texts p in
    let rest = pieces_few texts ps in
    let all = sum_by-cons (piece_bytes texts) p ps in
    omega (arith, parts, one, rest, all)

-- BYTES

-- with the next piece
pub bytes_more : (texts : List (List ℕ)) (pieces : List LogPiece) (i : ℕ) (d : LogPiece) (text : List ℕ) → i < length pieces → text ≡ slice_range (text_at texts (get_or pieces i d).file) (get_or pieces i d).begin (get_or pieces i d).end
    → bytes_of texts (take (i + 1) pieces) ≡ bytes_of texts (take i pieces) + length text
bytes_more texts pieces i d text lt is =
    let parts = ap (bytes_of texts) (take_more pieces i d lt) ∙ sum_by-append (piece_bytes texts) (take i pieces) (get_or pieces i d ∷ []) in
    let own = ap (λ (t : List ℕ). length t) is in
    omega (arith, parts, own)

pub too_many : (texts : List (List ℕ)) (pieces : List LogPiece) (i : ℕ) (d : LogPiece) (text : List ℕ) (limit : ℕ) → i < length pieces
    → text ≡ slice_range (text_at texts (get_or pieces i d).file) (get_or pieces i d).begin (get_or pieces i d).end → limit ≤ bytes_of texts (take i pieces) + length text → false ≡ nat_lt (bytes_of texts pieces) limit
too_many texts pieces i d text limit lt is le =
    let part = sum_by_more_le (piece_bytes texts) pieces i d lt in
    let own = ap (λ (t : List ℕ). length t) is in
    let all : limit ≤ bytes_of texts pieces = omega (arith, part, own, le) in
    grind (arith, nat_tests, all)

pub not_too_many : (texts : List (List ℕ)) (pieces : List LogPiece) (i bytes limit : ℕ) → length pieces ≤ i → bytes ≡ bytes_of texts (take i pieces) → bytes < limit → true ≡ nat_lt (bytes_of texts pieces) limit
not_too_many texts pieces i bytes limit le sum lt =
    let all : bytes ≡ bytes_of texts pieces = sum ∙ ap (bytes_of texts) (take_all i pieces le) in
    let below : bytes_of texts pieces < limit = omega (arith, all, lt) in
    grind (arith, nat_tests, below)

pub few_by_bytes : (texts : List (List ℕ)) (pieces : List LogPiece) (limit : ℕ) → nat_lt (bytes_of texts pieces) limit ≡ true → true ≡ nat_lt (length (events_of_pieces texts pieces)) limit
few_by_bytes texts pieces limit e =
    let few = pieces_few texts pieces in
    let below : bytes_of texts pieces < limit = grind (arith, nat_tests, e) in
    let fewer : length (events_of_pieces texts pieces) < limit = omega (arith, few, below) in
    grind (arith, nat_tests, fewer)

pub is_few : (n limit : ℕ) → n < limit → true ≡ nat_lt n limit
is_few n limit lt = grind (arith, nat_tests, lt)

pub is_many : (n limit : ℕ) → limit ≤ n → false ≡ nat_lt n limit
is_many n limit le = grind (arith, nat_tests, le)
