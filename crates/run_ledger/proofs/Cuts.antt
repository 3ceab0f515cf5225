-- Journals that are cut, and their first refused entry.
use Rattle.run_ledger.proofs.Common.{◌≡◌, ℕ, ◌+◌, ◌&&◌, Bool, true, Option, Some, None, List, [], ◌∷◌, ◌++◌, length, refl, ap, subst, ◌∙◌, is_none, arith, and_parts, and_from, EntryValue, SettingsValue, ProgramText, Ledger, Refused, RefusedAt, refusal, after, opening, after_all, ledger_of, is_legal, is_legal_from, refused_or, first_refused_from, JournalsCanBeCut, FirstRefusedIsFirst}
pub use Rattle.plain_vec.proofs.Options.{none_is}

module _ (p : ProgramText) (s : SettingsValue) where
  pub after_cut : (first rest : List EntryValue) (l : Ledger) → after_all p s l (first ++ rest) ≡ after_all p s (after_all p s l first) rest
  after_cut [] rest l = refl
  after_cut (e ∷ first) rest l = after_cut first rest (after p s l e)

  pub cut_legal : (first rest : List EntryValue) (l : Ledger) → is_legal_from p s l (first ++ rest) ≡ true → (is_legal_from p s l first ≡ true) × (is_legal_from p s (after_all p s l first) rest ≡ true)
  cut_legal [] rest l h = (refl, h)
  cut_legal (e ∷ first) rest l h =
      let both = and_parts (is_none (refusal p s l e)) (is_legal_from p s (after p s l e) (first ++ rest)) h in
      let more = cut_legal first rest (after p s l e) both.1 in
      (and_from (is_none (refusal p s l e)) (is_legal_from p s (after p s l e) first) both.0 more.0, more.1)

  pub joined_legal : (first rest : List EntryValue) (l : Ledger) → is_legal_from p s l first ≡ true → is_legal_from p s (after_all p s l first) rest ≡ true → is_legal_from p s l (first ++ rest) ≡ true
  joined_legal [] rest l h g = g
  joined_legal (e ∷ first) rest l h g =
      let both = and_parts (is_none (refusal p s l e)) (is_legal_from p s (after p s l e) first) h in
      and_from (is_none (refusal p s l e)) (is_legal_from p s (after p s l e) (first ++ rest)) both.0 (joined_legal first rest (after p s l e) both.1 g)

  -- a legal journal stays legal with one more entry that isn't refused
  pub legal_then : (journal : List EntryValue) (e : EntryValue) → is_legal p s journal ≡ true → refusal p s (ledger_of p s journal) e ≡ None → is_legal p s (journal ++ e ∷ []) ≡ true
  legal_then journal e legal none = joined_legal journal (e ∷ []) (opening p s) legal (ap (λ o. is_none o && true) none)

  abbrev Unrefused : Ledger → List EntryValue → Type 0
  Unrefused l journal = (before : List EntryValue) (e : EntryValue) (rest : List EntryValue) → journal ≡ before ++ e ∷ rest → refusal p s (after_all p s l before) e ≡ None

  unrefused : (journal : List EntryValue) (l : Ledger) → is_legal_from p s l journal ≡ true → Unrefused l journal
  unrefused journal l h before e rest is =
      let g = cut_legal before (e ∷ rest) l (subst (λ j. is_legal_from p s l j ≡ true) is h) in
      none_is (refusal p s (after_all p s l before) e) (and_parts (is_none (refusal p s (after_all p s l before) e)) (is_legal_from p s (after p s (after_all p s l before) e) rest) g.1).0

  -- the first refused entry, counted on
  pub record Found (l : Ledger) (at : ℕ) (journal : List EntryValue) (r : RefusedAt) : Type 0 where
    pub before : List EntryValue
    pub entry : EntryValue
    pub rest : List EntryValue
    pub is : journal ≡ before ++ entry ∷ rest
    pub legal : is_legal_from p s l before ≡ true
    pub cause : refusal p s (after_all p s l before) entry ≡ Some r.cause
    pub index : r.index ≡ length before + at

  found_by : (o : Option Refused) (l : Ledger) (at : ℕ) (e : EntryValue) (es : List EntryValue) (r : RefusedAt) (rest : Option RefusedAt) → refusal p s l e ≡ o
      → (rest ≡ Some r → Found (after p s l e) (at + 1) es r) → refused_or o at rest ≡ Some r → Found l at (e ∷ es) r
  found_by None l at e es r rest is more h =
      let f = more h in record {
        before = e ∷ f.before;
        entry = f.entry;
        rest = f.rest;
        is = ap (λ j. e ∷ j) f.is;
        legal = and_from (is_none (refusal p s l e)) (is_legal_from p s (after p s l e) f.before) (ap is_none is) f.legal;
        cause = f.cause;
        index = let i : r.index ≡ length f.before + (at + 1) = f.index in omega arith;
      }
  found_by (Some cause) l at e es r rest is more h = record {
    before = [];
    entry = e;
    rest = es;
    is = refl;
    legal = refl;
    cause = is ∙ ap (λ (x : Option RefusedAt). elim x as (λ y. Option Refused) [ None ↦ Some cause | Some q ↦ Some q.cause ]) h;
    index = let i : at ≡ r.index = some_index h in omega arith;
  }
    where
      index_of : Option RefusedAt → ℕ
      index_of None = 0
      index_of (Some q) = q.index

      some_index : Some (record { index = at; cause = cause }) ≡ Some r → at ≡ r.index
      some_index g = ap index_of g

  found : (journal : List EntryValue) (l : Ledger) (at : ℕ) (r : RefusedAt) → first_refused_from p s l at journal ≡ Some r → Found l at journal r
  found [] l at r h = absurd cc
  found (e ∷ es) l at r h =
      found_by (refusal p s l e) l at e es r (first_refused_from p s (after p s l e) (at + 1) es) refl (found es (after p s l e) (at + 1) r) h

  none_legal_by : (o : Option Refused) (at : ℕ) (rest : Option RefusedAt) (more : Bool) → (rest ≡ None → more ≡ true) → refused_or o at rest ≡ None → (is_none o && more) ≡ true
  none_legal_by None at rest more go h = go h
  none_legal_by (Some cause) at rest more go h = absurd cc

  none_legal : (journal : List EntryValue) (l : Ledger) (at : ℕ) → first_refused_from p s l at journal ≡ None → is_legal_from p s l journal ≡ true
  none_legal [] l at h = refl
  none_legal (e ∷ es) l at h =
      none_legal_by (refusal p s l e) at (first_refused_from p s (after p s l e) (at + 1) es) (is_legal_from p s (after p s l e) es) (none_legal es (after p s l e) (at + 1)) h

  legal_none : (journal : List EntryValue) (l : Ledger) (at : ℕ) → is_legal_from p s l journal ≡ true → first_refused_from p s l at journal ≡ None
  legal_none [] l at h = refl
  legal_none (e ∷ es) l at h =
      let both = and_parts (is_none (refusal p s l e)) (is_legal_from p s (after p s l e) es) h in
      ap (λ o. refused_or o at (first_refused_from p s (after p s l e) (at + 1) es)) (none_is (refusal p s l e) both.0) ∙ legal_none es (after p s l e) (at + 1) both.1

pub journals_can_be_cut : JournalsCanBeCut
journals_can_be_cut p s first rest = record {
  accounts = after_cut p s first rest (opening p s);
  legal = (cut_legal p s first rest (opening p s), λ both. joined_legal p s first rest (opening p s) both.0 both.1);
}

pub first_refused_is_first : FirstRefusedIsFirst
first_refused_is_first p s journal = record {
  none = (none_legal p s journal (opening p s) 1, legal_none p s journal (opening p s) 1);
  some = λ r h. let f = found p s journal (opening p s) 1 r h in record { before = f.before; entry = f.entry; rest = f.rest; is = f.is; legal = f.legal; cause = f.cause; index = f.index };
}
