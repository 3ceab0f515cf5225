-- The numbers of strands that are left out.
use Rattle.std.proofs.Common.{◌≡◌, ◌∙◌, ◌<◌, ◌≤◌, ◌+◌, ◌⊎◌, inl, inr, ℕ, zero, suc, Bool, true, false, List, [], ◌∷◌, ◌++◌, length, map, drop, drop-cons, add-one, get_or, refl, ap, sym, subst, arith, append_assoc, append-nil, Option, Some, None}
use Rattle.std.specs.Prelude.{Contains, slice_get}
use Rattle.std.specs.List.{flat_map}
use Rattle.std.specs.List.Sorted.{IsStrictlyIncreasing}
use Rattle.std.proofs.lemmas.List.{drop_all}
use Rattle.plain_vec.proofs.Members.{In, in_from_contains, contains_from_in, in_append_left, in_append_right, in_append_cases}
use Rattle.log_lines.specs.declared.line.Act.{Act}
use Rattle.fork_graph.specs.declared.graph.GraphStrand.{GraphStrand}
use Rattle.log_form.specs.Events.{Event, event}
use Rattle.log_pieces.specs.declared.piece.LogPiece.{LogPiece}
use Rattle.log_pieces.specs.Pieces.{on_strand, acts_of_piece, events_in, events_of_pieces}
use Rattle.log_tasks.specs.declared.tasks.LogTasks.{LogTasks}
use Rattle.log_strands.specs.Places.{StrandStandsAt, StandsNowhere, IsPlaceOf, ArePiecePlaces}
use Rattle.log_left.specs.Left.{code_of, IsLeftOut, AreLeftOut, HasLeftOut, is_left_out, code_if, left_codes}

-- ALONG THE PIECES

module _ (texts : List (List ℕ)) (pieces : List LogPiece) (places : List (Option ℕ)) where
  pub codes_next : (k : ℕ) (piece : LogPiece) (place : Option ℕ) (codes more : List ℕ) → k < length pieces → k < length places → piece ≡ get_or pieces k piece → place ≡ get_or places k place
      → more ≡ codes ++ code_if (is_left_out (acts_of_piece texts piece) place) piece.strand
      → more ++ left_codes texts (drop (k + 1) pieces) (drop (k + 1) places) ≡ codes ++ left_codes texts (drop k pieces) (drop k places)
  codes_next k piece place codes more lt below is at e =
      let here = code_if (is_left_out (acts_of_piece texts piece) place) piece.strand in
      let ps : drop k pieces ≡ piece ∷ drop (k + 1) pieces = drop-cons pieces k piece lt ∙ ap (λ (p : LogPiece). p ∷ drop (suc k) pieces) (sym is) ∙ rw add-one refl in
      let qs : drop k places ≡ place ∷ drop (k + 1) places = drop-cons places k place below ∙ ap (λ (q : Option ℕ). q ∷ drop (suc k) places) (sym at) ∙ rw add-one refl in
      ap (λ (xs : List ℕ). xs ++ left_codes texts (drop (k + 1) pieces) (drop (k + 1) places)) e
      ∙ append_assoc codes here (left_codes texts (drop (k + 1) pieces) (drop (k + 1) places))
      ∙ (λ i. codes ++ left_codes texts (sym ps i) (sym qs i))

  pub codes_last : (k : ℕ) (codes : List ℕ) → length pieces ≤ k → codes ≡ codes ++ left_codes texts (drop k pieces) (drop k places)
  codes_last k codes le = sym (append-nil codes) ∙ ap (λ (ps : List LogPiece). codes ++ left_codes texts ps (drop k places)) (sym (drop_all k pieces le))

-- WHAT THE NUMBERS ARE

abbrev has_place : LogTasks → List GraphStrand → List LogPiece → List (Option ℕ) → Type 0
has_place tasks order ps qs = (k : ℕ) (p : LogPiece) (place : Option ℕ) → slice_get ps k ≡ Some p → slice_get qs k ≡ Some place → IsPlaceOf tasks order p.strand place

module _ (texts : List (List ℕ)) (tasks : LogTasks) (order : List GraphStrand) where
  on_strand_in : (u : GraphStrand) (acts : List Act) (s : GraphStrand) (act : Act) → In (on_strand u acts) (event s act) → (s ≡ u) × In acts act
  on_strand_in u [] s act h = absurd h
  on_strand_in u (a ∷ acts) s act (inl e) = (ap (λ (x : Event). x.strand) (sym e), inl (ap (λ (x : Event). x.act) e))
  on_strand_in u (a ∷ acts) s act (inr h) = let r = on_strand_in u acts s act h in (r.0, inr r.1)

  first_on : (u : GraphStrand) (a : Act) (acts : List Act) → In (on_strand u (a ∷ acts)) (event u a)
  first_on u a acts = inl refl

  abbrev Left : List Event → GraphStrand → Type 0
  Left events s = IsLeftOut events tasks order s

  -- of one piece
  code_left : (p : LogPiece) (acts : List Act) (place : Option ℕ) (n : ℕ) → IsPlaceOf tasks order p.strand place → In (code_if (is_left_out acts place) p.strand) n
      → (s : GraphStrand) × (n ≡ code_of s) × Left (on_strand p.strand acts) s
  code_left p acts (Some at) n is h = absurd h
  code_left p [] None n is h = absurd h
  code_left p (a ∷ acts) None n is (inl e) = (p.strand, sym e, record { act = a; does = first_on p.strand a acts; nowhere = is })
  code_left p (a ∷ acts) None n is (inr h) = absurd h

  left_code : (p : LogPiece) (acts : List Act) (place : Option ℕ) (s : GraphStrand) → IsPlaceOf tasks order p.strand place → Left (on_strand p.strand acts) s → In (code_if (is_left_out acts place) p.strand) (code_of s)
  left_code p acts (Some at) s is left =
      let r = on_strand_in p.strand acts s left.act left.does in
      absurd (left.nowhere at (subst (λ (u : GraphStrand). StrandStandsAt tasks order u at) (sym r.0) is))
  left_code p [] None s is left = absurd (on_strand_in p.strand [] s left.act left.does).1
  left_code p (a ∷ acts) None s is left = let r = on_strand_in p.strand (a ∷ acts) s left.act left.does in inl (ap code_of (sym r.0))

  -- of all
  codes_left : (ps : List LogPiece) (qs : List (Option ℕ)) (n : ℕ) → has_place tasks order ps qs → In (left_codes texts ps qs) n
      → (s : GraphStrand) × (n ≡ code_of s) × Left (events_of_pieces texts ps) s
  codes_left [] qs n is h = absurd h
  codes_left (p ∷ ps) [] n is h = absurd h
  codes_left (p ∷ ps) (q ∷ qs) n is h =
      codes_left_by_cases (λ later. codes_left ps qs n (λ k x place at there. is (suc k) x place at there) later) (in_append_cases (code_if (is_left_out (acts_of_piece texts p) q) p.strand) (left_codes texts ps qs) n h)
    where
      codes_left_by_cases : (In (left_codes texts ps qs) n → (s : GraphStrand) × (n ≡ code_of s) × Left (events_of_pieces texts ps) s)
          → In (code_if (is_left_out (acts_of_piece texts p) q) p.strand) n ⊎ In (left_codes texts ps qs) n → (s : GraphStrand) × (n ≡ code_of s) × Left (events_of_pieces texts (p ∷ ps)) s
      codes_left_by_cases rest (inl here) =
          let r = code_left p (acts_of_piece texts p) q n (is 0 p q refl refl) here in
          (r.0, r.1, record { act = r.2.act; does = in_append_left (events_in texts p) (events_of_pieces texts ps) _ r.2.does; nowhere = r.2.nowhere })
      codes_left_by_cases rest (inr later) =
          let r = rest later in
          (r.0, r.1, record { act = r.2.act; does = in_append_right (events_in texts p) (events_of_pieces texts ps) _ r.2.does; nowhere = r.2.nowhere })

  left_codes_have : (ps : List LogPiece) (qs : List (Option ℕ)) (s : GraphStrand) → length qs ≡ length ps → has_place tasks order ps qs → Left (events_of_pieces texts ps) s → In (left_codes texts ps qs) (code_of s)
  left_codes_have [] qs s len is left = absurd left.does
  left_codes_have (p ∷ ps) [] s len is left = absurd (let e : 0 ≡ suc (length ps) = len in omega (arith, e))
  left_codes_have (p ∷ ps) (q ∷ qs) s len is left =
      left_codes_have_by_cases (λ later. left_codes_have ps qs s (let e : suc (length qs) ≡ suc (length ps) = len in omega (arith, e)) (λ k x place at there. is (suc k) x place at there) later) (in_append_cases (events_in texts p) (events_of_pieces texts ps) (event s left.act) left.does)
    where
      left_codes_have_by_cases : (Left (events_of_pieces texts ps) s → In (left_codes texts ps qs) (code_of s)) → In (events_in texts p) (event s left.act) ⊎ In (events_of_pieces texts ps) (event s left.act) → In (left_codes texts (p ∷ ps) (q ∷ qs)) (code_of s)
      left_codes_have_by_cases rest (inl here) =
          in_append_left (code_if (is_left_out (acts_of_piece texts p) q) p.strand) (left_codes texts ps qs) (code_of s)
          (left_code p (acts_of_piece texts p) q s (is 0 p q refl refl) (record { act = left.act; does = here; nowhere = left.nowhere }))
      left_codes_have_by_cases rest (inr later) =
          in_append_right (code_if (is_left_out (acts_of_piece texts p) q) p.strand) (left_codes texts ps qs) (code_of s)
          (rest (record { act = left.act; does = later; nowhere = left.nowhere }))

  pub left_are : (pieces : List LogPiece) (places : List (Option ℕ)) (events : List Event) (codes sorted : List ℕ) → events_of_pieces texts pieces ≡ events → ArePiecePlaces tasks order pieces places → codes ≡ left_codes texts pieces places
      → IsStrictlyIncreasing sorted → ((n : ℕ) → Contains codes n → Contains sorted n) → ((n : ℕ) → Contains sorted n → Contains codes n) → HasLeftOut events tasks order (length sorted)
  left_are pieces places events codes sorted same are is up kept no_other = (
    sorted,
    record {
      ascending = up;
      all = λ s left. in_from_contains sorted (code_of s) (kept (code_of s) (contains_from_in codes (code_of s)
          (subst (λ (xs : List ℕ). In xs (code_of s)) (sym is) (left_codes_have pieces places s are.count are.each (subst (λ (es : List Event). Left es s) (sym same) left)))));
      no_other = λ n h.
          let r = codes_left pieces places n are.each (subst (λ (xs : List ℕ). In xs n) is (in_from_contains codes n (no_other n (contains_from_in sorted n h)))) in
          (r.0, r.1, subst (λ (es : List Event). Left es r.0) same r.2);
    },
    refl,
  )
