-- What is known of strands' work after a piece more.
use Rattle.log_weights.proofs.Common.{◌≡◌, ◌<◌, ◌+◌, ◌++◌, ◌∙◌, ℕ, Bool, true, false, List, refl, sym, ap, subst, arith, Option, Some, None, append-nil, length, get_or, take, if◌then◌else◌, sum_by-append, GraphStrand, strand, is_that, LogPiece, on_strand, acts_in, acts_of_piece, events_of_pieces, pieces_more, that_is, acts_append, acts_there, acts_elsewhere, Act, Event, acts_on, StrandWork, units_of, work_of, fitting, plus, KnowsWork, work_known, or_none}
use Rattle.log_weights.proofs.Fitting.{plus_fitting}

module _ (old new : StrandWork) (u : GraphStrand) (acts : List Act) (events : List Event) (knows : KnowsWork old events) where
  with_more : (v : GraphStrand) → plus (fitting (work_of (acts_on events v))) (fitting (work_of acts)) ≡ fitting (work_of (acts_on events v ++ acts))
  with_more v = plus_fitting (work_of (acts_on events v)) (work_of acts) ∙ ap fitting (sym (sum_by-append units_of (acts_on events v) acts))

  of_one : (t i : ℕ) (b : Bool) → is_that u t i ≡ b
      → (if b then plus (work_known old t i) (fitting (work_of acts)) else work_known old t i) ≡ fitting (work_of (acts_on (events ++ on_strand u acts) (strand t i)))
  of_one t i true e =
      ap (λ (o : Option ℕ). plus o (fitting (work_of acts))) (knows t i)
      ∙ with_more (strand t i)
      ∙ ap (λ (all : List Act). fitting (work_of all))
      (sym (acts_append events (on_strand u acts) (strand t i) ∙ ap (λ (more : List Act). acts_on events (strand t i) ++ more) (acts_there u (strand t i) acts e)))
  of_one t i false e =
      knows t i
      ∙ ap (λ (all : List Act). fitting (work_of all))
      (sym (acts_append events (on_strand u acts) (strand t i) ∙ ap (λ (more : List Act). acts_on events (strand t i) ++ more) (acts_elsewhere u (strand t i) acts e) ∙ append-nil (acts_on events (strand t i))))

  -- a piece was added
  pub knows_more : ((t i : ℕ) → work_known new t i ≡ (if is_that u t i then plus (work_known old t i) (fitting (work_of acts)) else work_known old t i)) → KnowsWork new (events ++ on_strand u acts)
  knows_more added t i = added t i ∙ of_one t i (is_that u t i) refl

-- the next piece was added
pub pieces_knows : (texts : List (List ℕ)) (pieces : List LogPiece) (i : ℕ) (d : LogPiece) (text : List ℕ) (old new : StrandWork) (work : Option ℕ) → i < length pieces
    → acts_in text ≡ acts_of_piece texts (get_or pieces i d) → work ≡ fitting (work_of (acts_in text)) → KnowsWork old (events_of_pieces texts (take i pieces))
    → ((t j : ℕ) → work_known new t j ≡ (if is_that (get_or pieces i d).strand t j then plus (work_known old t j) work else work_known old t j))
    → KnowsWork new (events_of_pieces texts (take (i + 1) pieces))
pieces_knows texts pieces i d text old new work lt is weighs knows added =
    let u = (get_or pieces i d).strand in
    let known : work ≡ fitting (work_of (acts_of_piece texts (get_or pieces i d))) = weighs ∙ ap (λ (acts : List Act). fitting (work_of acts)) is in
    subst (KnowsWork new) (sym (pieces_more texts pieces i d lt))
    (knows_more old new u (acts_of_piece texts (get_or pieces i d)) (events_of_pieces texts (take i pieces)) knows
    (λ t j. added t j ∙ ap (λ (o : Option ℕ). if is_that u t j then plus (work_known old t j) o else work_known old t j) known))

-- a strand's work was put
module _ (u : GraphStrand) (F : ℕ → ℕ → Option (Option ℕ)) (work units : Option ℕ) (is : work ≡ plus (or_none (F u.task u.index)) units) where
  put_by : (t i : ℕ) (b : Bool) → is_that u t i ≡ b → or_none (if b then Some work else F t i) ≡ (if b then plus (or_none (F t i)) units else or_none (F t i))
  put_by t i true e = is ∙ ap (λ (v : GraphStrand). plus (or_none (F v.task v.index)) units) (that_is u (strand t i) e)
  put_by t i false e = refl

  pub work_put : (t i : ℕ) → or_none (if is_that u t i then Some work else F t i) ≡ (if is_that u t i then plus (or_none (F t i)) units else or_none (F t i))
  work_put t i = put_by t i (is_that u t i) refl

put_twice : (b : Bool) (o one other : Option (Option ℕ)) → (if b then one else (if b then other else o)) ≡ (if b then one else o)
put_twice true o one other = refl
put_twice false o one other = refl

-- a strand's work was put, and then more of it
pub work_put_twice : (u : GraphStrand) (F : ℕ → ℕ → Option (Option ℕ)) (first work units : Option ℕ) → work ≡ plus (or_none (F u.task u.index)) units
    → (t i : ℕ) → or_none (if is_that u t i then Some work else (if is_that u t i then Some first else F t i)) ≡ (if is_that u t i then plus (or_none (F t i)) units else or_none (F t i))
work_put_twice u F first work units is t i = ap or_none (put_twice (is_that u t i) (F t i) (Some work) (Some first)) ∙ work_put u F work units is t i

nothing_more : (n : ℕ) → fitting n ≡ plus (Some 0) (fitting n)
nothing_more n = ap fitting (let e : n ≡ 0 + n = omega arith in e) ∙ sym (plus_fitting 0 n)

-- work that fits is all that a strand did without work before
pub begun : (n : ℕ) (before : Option (Option ℕ)) (units : Option ℕ) → None ≡ before → units ≡ fitting n → units ≡ plus (or_none before) units
begun n before units none fits =
    subst (λ (o : Option ℕ). o ≡ plus (Some 0) o) (sym fits) (nothing_more n) ∙ ap (λ (o : Option (Option ℕ)). plus (or_none o) units) none
