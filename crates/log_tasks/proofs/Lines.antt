-- What is known after a line more of a piece.
use Rattle.log_tasks.proofs.Common.{◌≡◌, ◌++◌, ◌∷◌, ◌∙◌, ℕ, Bool, true, false, List, [], refl, sym, ap, subst, Option, Some, None, append-nil, take, length, get_or, ◌<◌, ◌+◌, ◌||◌, MatchOption, list_any, flat_map-append, take_more, list_any-append, lines_of, Act, line_of, GraphStrand, Event, spawns, LogPiece, act_said, acts_in, acts_of_piece, on_strand, events_in, events_of_pieces, KnowsEvents, line_more, line_last, StrandEnd, Told, end_by, first_end, is_told, end_told, task_told, end_after, codes, is_among, begins_with, letter_of, said_of, or-false}
use Rattle.log_lines.specs.declared.line.Act.TheVariants as acts
use Rattle.log_tasks.proofs.Acts.{first_end_append, or_assoc, later_none}
use Rattle.log_tasks.proofs.Puts.{after_twice, after_none}

-- LINES

told_left : (xs ys : List Act) → is_told xs ≡ true → is_told (xs ++ ys) ≡ true
told_left [] ys e = absurd (let z : false ≡ true = e in cc)
told_left (x ∷ xs) ys e = refl

told_behind : (xs ys : List Act) → is_told ys ≡ true → is_told (xs ++ ys) ≡ true
told_behind [] ys e = e
told_behind (x ∷ xs) ys e = refl

told_right : (xs ys : List Act) → is_told xs ≡ false → is_told (xs ++ ys) ≡ is_told ys
told_right [] ys e = refl
told_right (x ∷ xs) ys e = absurd (let z : true ≡ false = e in cc)

-- the next line is an act
pub first_told : {X : Type 0} (now : X → List ℕ) (o : Option X) (left line : List ℕ) → MatchOption o (lines_of left ≡ line ∷ []) (λ r. lines_of left ≡ line ∷ lines_of (now r)) → is_told (act_said (line_of line)) ≡ true → is_told (acts_in left) ≡ true
first_told now None left line e t = ap is_told (line_last left line e) ∙ t
first_told now (Some r) left line e t = ap is_told (line_more left line (now r) e) ∙ told_left (act_said (line_of line)) (acts_in (now r)) t

-- it is none
pub next_told : (left line rest : List ℕ) → lines_of left ≡ line ∷ lines_of rest → is_told (act_said (line_of line)) ≡ false → is_told (acts_in rest) ≡ is_told (acts_in left)
next_told left line rest e f = sym (ap is_told (line_more left line rest e) ∙ told_right (act_said (line_of line)) (acts_in rest) f)

pub last_told : (left line : List ℕ) → lines_of left ≡ line ∷ [] → is_told (act_said (line_of line)) ≡ false → is_told (acts_in left) ≡ false
last_told left line e f = ap is_told (line_last left line e) ∙ f

-- what follows the next line is told
pub rest_told : (left line rest : List ℕ) → lines_of left ≡ line ∷ lines_of rest → is_told (acts_in rest) ≡ true → is_told (acts_in left) ≡ true
rest_told left line rest e t = ap is_told (line_more left line rest e) ∙ told_behind (act_said (line_of line)) (acts_in rest) t

-- NO ACT

pub none_ends : (told : Told) (u : GraphStrand) (said : List Act) → [] ≡ said → (t i : ℕ) → end_told told t i ≡ end_after told u (first_end said) t i
none_ends told u said e t i = after_none told u t i ∙ ap (λ (as_said : List Act). end_after told u (first_end as_said) t i) e

pub none_tasks : (told : Told) (said : List Act) → [] ≡ said → (t : ℕ) → task_told told t ≡ (task_told told t || list_any (spawns t) said)
none_tasks told said e t = sym (or-false (task_told told t)) ∙ ap (λ (as_said : List Act). task_told told t || list_any (spawns t) as_said) e

-- ONE ACT

pub one_ends : (old new : Told) (u : GraphStrand) (act : Act) (said : List Act) → act ∷ [] ≡ said → ((t i : ℕ) → end_told new t i ≡ end_after old u (end_by act) t i) → (t i : ℕ) → end_told new t i ≡ end_after old u (first_end said) t i
one_ends old new u act said e g t i = g t i ∙ ap (λ (o : Option StrandEnd). end_after old u o t i) (sym (later_none (end_by act)) ∙ ap first_end e)

pub one_tasks : (old new : Told) (act : Act) (said : List Act) → act ∷ [] ≡ said → ((t : ℕ) → task_told new t ≡ (task_told old t || spawns t act)) → (t : ℕ) → task_told new t ≡ (task_told old t || list_any (spawns t) said)
one_tasks old new act said e g t = g t ∙ ap (λ (b : Bool). task_told old t || b) (sym (or-false (spawns t act)) ∙ ap (list_any (spawns t)) e)

-- NO ACT THAT ENDS A STRAND

-- none of the letters of such acts
abbrev turns : List ℕ
turns = codes "+-."

ends_none : (act : Act) → is_among turns (letter_of act) ≡ false → first_end (act ∷ []) ≡ None
ends_none (acts.Access a) e = refl
ends_none (acts.Yield r) e = refl
ends_none (acts.Store r) e = refl
ends_none (acts.Birth block length) e = refl
ends_none (acts.Release block) e = refl
ends_none (acts.Work units) e = refl
ends_none (acts.Spawn c) e = absurd (let z : true ≡ false = e in cc)
ends_none (acts.Join c) e = absurd (let z : true ≡ false = e in cc)
ends_none acts.Finish e = absurd (let z : true ≡ false = e in cc)

spawns_none : (t : ℕ) (act : Act) → is_among turns (letter_of act) ≡ false → list_any (spawns t) (act ∷ []) ≡ false
spawns_none t (acts.Access a) e = refl
spawns_none t (acts.Yield r) e = refl
spawns_none t (acts.Store r) e = refl
spawns_none t (acts.Birth block length) e = refl
spawns_none t (acts.Release block) e = refl
spawns_none t (acts.Work units) e = refl
spawns_none t (acts.Spawn c) e = absurd (let z : true ≡ false = e in cc)
spawns_none t (acts.Join c) e = refl
spawns_none t acts.Finish e = refl

pub other_ends : (told : Told) (u : GraphStrand) (line : List ℕ) → begins_with turns line ≡ false → (t i : ℕ) → end_told told t i ≡ end_after told u (first_end (act_said (line_of line))) t i
other_ends told u line e t i = after_none told u t i ∙ ap (λ (o : Option StrandEnd). end_after told u o t i) (sym (said_of (λ (all : List Act). first_end all ≡ None) turns line false e refl ends_none))

pub other_tasks : (told : Told) (line : List ℕ) → begins_with turns line ≡ false → (t : ℕ) → task_told told t ≡ (task_told told t || list_any (spawns t) (act_said (line_of line)))
other_tasks told line e t = sym (or-false (task_told told t)) ∙ ap (λ (b : Bool). task_told told t || b) (sym (said_of (λ (all : List Act). list_any (spawns t) all ≡ false) turns line false e refl (spawns_none t)))

-- ENDS AND TASKS

module _ (old mid : Told) (u : GraphStrand) (left line rest : List ℕ) (e : lines_of left ≡ line ∷ lines_of rest) where
  pub ends_next : ((t i : ℕ) → end_told mid t i ≡ end_after old u (first_end (act_said (line_of line))) t i) → (t i : ℕ) → end_after mid u (first_end (acts_in rest)) t i ≡ end_after old u (first_end (acts_in left)) t i
  ends_next g t i =
      after_twice old mid u (first_end (act_said (line_of line))) (first_end (acts_in rest)) t i (g t i)
      ∙ ap (λ (o : Option StrandEnd). end_after old u o t i) (sym (ap first_end (line_more left line rest e) ∙ first_end_append (act_said (line_of line)) (acts_in rest)))

  pub tasks_next : ((t : ℕ) → task_told mid t ≡ (task_told old t || list_any (spawns t) (act_said (line_of line)))) → (t : ℕ) → (task_told mid t || list_any (spawns t) (acts_in rest)) ≡ (task_told old t || list_any (spawns t) (acts_in left))
  tasks_next g t =
      ap (λ (b : Bool). b || list_any (spawns t) (acts_in rest)) (g t)
      ∙ sym (or_assoc (task_told old t) (list_any (spawns t) (act_said (line_of line))) (list_any (spawns t) (acts_in rest)))
      ∙ ap (λ (b : Bool). task_told old t || b) (sym (ap (list_any (spawns t)) (line_more left line rest e) ∙ list_any-append (spawns t) (act_said (line_of line)) (acts_in rest)))

-- PIECES

pub pieces_more : (texts : List (List ℕ)) (pieces : List LogPiece) (i : ℕ) (d : LogPiece) → i < length pieces → events_of_pieces texts (take (i + 1) pieces) ≡ events_of_pieces texts (take i pieces) ++ events_in texts (get_or pieces i d)
pieces_more texts pieces i d lt =
    ap (events_of_pieces texts) (take_more pieces i d lt)
    ∙ flat_map-append (events_in texts) (take i pieces) (get_or pieces i d ∷ [])
    ∙ ap (λ (es : List Event). events_of_pieces texts (take i pieces) ++ es) (append-nil (events_in texts (get_or pieces i d)))

-- the next piece was taken
pub pieces_known : (texts : List (List ℕ)) (pieces : List LogPiece) (i : ℕ) (d : LogPiece) (text : List ℕ) (new : Told) → i < length pieces → acts_in text ≡ acts_of_piece texts (get_or pieces i d)
    → KnowsEvents new (events_of_pieces texts (take i pieces) ++ on_strand (get_or pieces i d).strand (acts_in text)) → KnowsEvents new (events_of_pieces texts (take (i + 1) pieces))
pieces_known texts pieces i d text new lt is knows =
    let more : List Act → List Event = λ acts. events_of_pieces texts (take i pieces) ++ on_strand (get_or pieces i d).strand acts in
    subst (KnowsEvents new) (ap more is ∙ sym (pieces_more texts pieces i d lt)) knows
