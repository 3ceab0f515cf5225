-- Where no block is born or released, nothing is found.
use Rattle.log_births.proofs.Common.{◌≡◌, ◌<◌, ◌≤◌, ◌+◌, ◌∷◌, ◌∙◌, ◌||◌, ℕ, Bool, true, false, cond, List, [], length, get_or, take, drop, refl, sym, ap, ap₂, subst, Option, Some, None, arith, codes, filter, is_some, MatchOption, list_any, list_any-append, take_all, take-append-drop, flat_map-append, pieces_more, got_in, any_from_in, GraphStrand, Act, AccessKind, letter_of_kind, is_among, Event, events_of, on_strand, LogPiece, acts_in, acts_of_piece, events_in, events_of_pieces, is_by, is_told, LogTasks, Finding, Findings, is_lifetime, born, released, DoesToBlock, IsEntangledRead, IsEntangledUse, IsStaleUse, AreJust, AreFindings, or-true, Access, Yield, Store, Birth, Release, Work, Spawn, Join, Finish}
use Rattle.log_lines.specs.declared.line.AccessKind.TheVariants as kinds

-- LETTERS

no_access : (kind : AccessKind) → is_among (codes "af") (letter_of_kind kind) ≡ false
no_access kinds.Read = refl
no_access kinds.Write = refl
no_access kinds.AtomicRead = refl
no_access kinds.AtomicWrite = refl

letter_tells : (act : Act) → is_by (codes "af") act ≡ is_lifetime act
letter_tells (Access a) = no_access a.kind
letter_tells (Yield r) = refl
letter_tells (Store r) = refl
letter_tells (Birth block length) = refl
letter_tells (Release block) = refl
letter_tells (Work units) = refl
letter_tells (Spawn c) = refl
letter_tells (Join c) = refl
letter_tells Finish = refl

one_tells : (b : Bool) (act : Act) (kept : List Act) (rest : Bool) → is_told kept ≡ rest → is_told (cond b (act ∷ kept) kept) ≡ (b || rest)
one_tells true act kept rest e = refl
one_tells false act kept rest e = e

letters_tell_lifetimes : (acts : List Act) → is_told (filter (is_by (codes "af")) acts) ≡ list_any is_lifetime acts
letters_tell_lifetimes [] = refl
letters_tell_lifetimes (act ∷ rest) =
    one_tells (is_by (codes "af") act) act (filter (is_by (codes "af")) rest) (list_any is_lifetime rest) (letters_tell_lifetimes rest)
    ∙ ap (λ (b : Bool). b || list_any is_lifetime rest) (letter_tells act)

-- one of these acts is there
pub some_lifetime : {X : Type 0} (first : X → Act) (behind : X → List Act) (o : Option X) (acts : List Act)
    → MatchOption o (filter (is_by (codes "af")) acts ≡ []) (λ r. filter (is_by (codes "af")) acts ≡ first r ∷ behind r) → is_some o ≡ list_any is_lifetime acts
some_lifetime first behind None acts e = sym (ap is_told e) ∙ letters_tell_lifetimes acts
some_lifetime first behind (Some r) acts e = sym (ap is_told e) ∙ letters_tell_lifetimes acts

-- PIECES

abbrev has_lifetime : List Event → Bool
has_lifetime events = list_any (λ e. is_lifetime e.act) events

on_strand_any : (u : GraphStrand) (acts : List Act) → has_lifetime (on_strand u acts) ≡ list_any is_lifetime acts
on_strand_any u [] = refl
on_strand_any u (act ∷ rest) = ap (λ (b : Bool). is_lifetime act || b) (on_strand_any u rest)

module _ (texts : List (List ℕ)) (pieces : List LogPiece) (i : ℕ) (d : LogPiece) (text : List ℕ) (lt : i < length pieces) (is : acts_in text ≡ acts_of_piece texts (get_or pieces i d)) where
  own : has_lifetime (events_in texts (get_or pieces i d)) ≡ list_any is_lifetime (acts_in text)
  own = on_strand_any (get_or pieces i d).strand (acts_of_piece texts (get_or pieces i d)) ∙ ap (λ (acts : List Act). list_any is_lifetime acts) (sym is)

  first_ones : has_lifetime (events_of_pieces texts (take (i + 1) pieces)) ≡ (has_lifetime (events_of_pieces texts (take i pieces)) || list_any is_lifetime (acts_in text))
  first_ones =
      ap has_lifetime (pieces_more texts pieces i d lt)
      ∙ list_any-append (λ (e : Event). is_lifetime e.act) (events_of_pieces texts (take i pieces)) (events_in texts (get_or pieces i d))
      ∙ ap (λ (b : Bool). has_lifetime (events_of_pieces texts (take i pieces)) || b) own

  pub piece_lacks : has_lifetime (events_of_pieces texts (take i pieces)) ≡ false → list_any is_lifetime (acts_in text) ≡ false → has_lifetime (events_of_pieces texts (take (i + 1) pieces)) ≡ false
  piece_lacks before here = first_ones ∙ ap₂ (λ (a b : Bool). a || b) before here

  pub piece_has : list_any is_lifetime (acts_in text) ≡ true → has_lifetime (events_of_pieces texts pieces) ≡ true
  piece_has here =
      ap (λ (ps : List LogPiece). has_lifetime (events_of_pieces texts ps)) (sym (take-append-drop (i + 1) pieces))
      ∙ ap has_lifetime (flat_map-append (events_in texts) (take (i + 1) pieces) (drop (i + 1) pieces))
      ∙ list_any-append (λ (e : Event). is_lifetime e.act) (events_of_pieces texts (take (i + 1) pieces)) (events_of_pieces texts (drop (i + 1) pieces))
      ∙ ap (λ (b : Bool). b || has_lifetime (events_of_pieces texts (drop (i + 1) pieces)))
      (first_ones ∙ ap (λ (b : Bool). has_lifetime (events_of_pieces texts (take i pieces)) || b) here ∙ or-true (has_lifetime (events_of_pieces texts (take i pieces))))

pub all_lack : (texts : List (List ℕ)) (pieces : List LogPiece) (i : ℕ) → length pieces ≤ i → has_lifetime (events_of_pieces texts (take i pieces)) ≡ false → has_lifetime (events_of_pieces texts pieces) ≡ false
all_lack texts pieces i le none = ap (λ (ps : List LogPiece). has_lifetime (events_of_pieces texts ps)) (sym (take_all i pieces le)) ∙ none

-- NOTHING

is_birth : (act : Act) (b : ℕ) → born act ≡ Some b → is_lifetime act ≡ true
is_birth (Birth block length) b e = refl
is_birth (Access a) b e = absurd (let z : ◌≡◌ {A = Option ℕ} None (Some b) = e in cc)
is_birth (Yield r) b e = absurd (let z : ◌≡◌ {A = Option ℕ} None (Some b) = e in cc)
is_birth (Store r) b e = absurd (let z : ◌≡◌ {A = Option ℕ} None (Some b) = e in cc)
is_birth (Release block) b e = refl
is_birth (Work units) b e = absurd (let z : ◌≡◌ {A = Option ℕ} None (Some b) = e in cc)
is_birth (Spawn c) b e = absurd (let z : ◌≡◌ {A = Option ℕ} None (Some b) = e in cc)
is_birth (Join c) b e = absurd (let z : ◌≡◌ {A = Option ℕ} None (Some b) = e in cc)
is_birth Finish b e = absurd (let z : ◌≡◌ {A = Option ℕ} None (Some b) = e in cc)

is_release : (act : Act) (b : ℕ) → released act ≡ Some b → is_lifetime act ≡ true
is_release (Release block) b e = refl
is_release (Access a) b e = absurd (let z : ◌≡◌ {A = Option ℕ} None (Some b) = e in cc)
is_release (Yield r) b e = absurd (let z : ◌≡◌ {A = Option ℕ} None (Some b) = e in cc)
is_release (Store r) b e = absurd (let z : ◌≡◌ {A = Option ℕ} None (Some b) = e in cc)
is_release (Birth block length) b e = refl
is_release (Work units) b e = absurd (let z : ◌≡◌ {A = Option ℕ} None (Some b) = e in cc)
is_release (Spawn c) b e = absurd (let z : ◌≡◌ {A = Option ℕ} None (Some b) = e in cc)
is_release (Join c) b e = absurd (let z : ◌≡◌ {A = Option ℕ} None (Some b) = e in cc)
is_release Finish b e = absurd (let z : ◌≡◌ {A = Option ℕ} None (Some b) = e in cc)

module _ (events : List Event) (tasks : LogTasks) (none : has_lifetime events ≡ false) where
  not_done : (does : Act → Option ℕ) → ((act : Act) (b : ℕ) → does act ≡ Some b → is_lifetime act ≡ true) → (b n : ℕ) (u : GraphStrand) → DoesToBlock does events tasks b n u → ⊥
  not_done does is b n u done =
      let there : has_lifetime events ≡ true = any_from_in (λ (e : Event). is_lifetime e.act) events _ (got_in events n _ done.at) (is done.act b done.block) in
      let z : true ≡ false = sym there ∙ none in cc

  none_are : (Is : Finding → Type 0) → ((f : Finding) → Is f → ⊥) → AreJust Is []
  none_are Is never = record { ascending = λ k lt. absurd (omega (arith, lt)); are = λ f. (λ i. absurd i, λ is. absurd (never f is)) }

  none_found : AreFindings events tasks (record { reads = []; uses = []; stale = [] })
  none_found = record {
    reads = none_are (IsEntangledRead events tasks) (λ f is. not_done born is_birth f.block f.other is.birth is.born_there);
    uses = none_are (IsEntangledUse events tasks) (λ f is. not_done born is_birth f.block f.other is.birth is.born_there);
    stale = none_are (IsStaleUse events tasks) (λ f is. not_done released is_release f.block f.other is.release is.released_there);
  }

pub nothing_is : (texts : List (List ℕ)) (pieces : List LogPiece) (tasks : LogTasks) (found : Findings) → events_of_pieces texts pieces ≡ events_of texts → has_lifetime (events_of_pieces texts pieces) ≡ false
    → found ≡ record { reads = []; uses = []; stale = [] } → AreFindings (events_of texts) tasks found
nothing_is texts pieces tasks found cut none is =
    subst (AreFindings (events_of texts) tasks) (sym is) (none_found (events_of texts) tasks (ap has_lifetime (sym cut) ∙ none))
