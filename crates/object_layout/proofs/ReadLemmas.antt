-- What the words of an object mean.
use Rattle.object_layout.proofs.Common.{◌≡◌, ℕ, suc, ◌+◌, ◌-◌, ◌<◌, ◌≤◌, ◌^◌, Bool, true, false, length, get_or, eqb, refl, sym, ap, ◌∙◌, arith, Some, None, Option, map, pos, slice_get, slice_index, FitsSigned, IsTrue, ◌↔◌, not, ◌≢◌, w64, cast_unsigned, cast_signed, get_or_append_left, get_or-map, length-map, get_or-append_right, All-get_or, eq-eqb, ne_eqb, to_z-of_z, slice_get-get_or, Addr, Header, Cell, Mark, Born, Moved, Hole, IsCell, IsMark, BeginsInFirstUnit, IsRef, IsBorn, IsObject, moved_to, header_of, word_of_ref, word_of_mark, header_word, is_gone, nrefs_of, nints_of, mutable_of, gone_of, ref_of_word, birth_of_word, lasts}
use Rattle.object_layout.specs.Layout.{words_of_cell}
use Rattle.object_layout.proofs.WordLemmas.{nrefs_of-header_word, nints_of-header_word, mutable_of-header_word, gone_of-header_word, ref_of_word-word_of_ref, word_of_ref-lt, birth_of_word-word_of_birth}

pub header_is : (c : Cell) → get_or (words_of_cell c) 0 0 ≡ header_word (length c.refs) (length c.ints) c.mutable (is_gone c.mark)
unfolding words_of_cell
header_is c = refl

pub mark_is : (c : Cell) → get_or (words_of_cell c) 1 0 ≡ word_of_mark c.mark
unfolding words_of_cell
mark_is c = refl

ref_is : (c : Cell) (k : ℕ) → k < length c.refs → get_or (words_of_cell c) (2 + k) 0 ≡ word_of_ref (get_or c.refs k None)
unfolding words_of_cell
ref_is c k l =
    let e : 2 + k ≡ suc (suc k) = omega arith in
    rw e (get_or_append_left (map word_of_ref c.refs) (map (cast_unsigned w64) c.ints) 0 k (rw length-map l)
    ∙ get_or-map word_of_ref c.refs k None 0 l)

int_is : (c : Cell) (k : ℕ) → k < length c.ints → get_or (words_of_cell c) (2 + (length c.refs + k)) 0 ≡ cast_unsigned w64 (get_or c.ints k (pos 0))
unfolding words_of_cell
int_is c k l =
    let e : 2 + (length c.refs + k) ≡ suc (suc (length c.refs + k)) = omega arith in
    let f : length c.refs + k - length c.refs ≡ k = omega arith in
    rw e (get_or-append_right (map word_of_ref c.refs) (map (cast_unsigned w64) c.ints) (length c.refs) (length c.refs + k) 0 (length-map c.refs word_of_ref) (omega arith)
    ∙ rw f (get_or-map (cast_unsigned w64) c.ints k (pos 0) 0 l))

pub IsPlace-from_ref : (r : Option Addr) → IsRef r → BeginsInFirstUnit r
IsPlace-from_ref None h = tt
IsPlace-from_ref (Some a) h = h.0

module _ (c : Cell) (ok : IsCell c) (w : ℕ) where
  pub header_read : w ≡ slice_index (words_of_cell c) 0 → (h : Header) → h ≡ record { nrefs = nrefs_of w; nints = nints_of w; mutable = mutable_of w } → h ≡ header_of c
  header_read e h f =
      let nr = nrefs_of-header_word (length c.refs) (length c.ints) ok.nrefs ok.nints c.mutable (is_gone c.mark) in
      let ni = nints_of-header_word (length c.refs) (length c.ints) ok.nrefs ok.nints c.mutable (is_gone c.mark) in
      let mu = mutable_of-header_word (length c.refs) (length c.ints) ok.nrefs ok.nints c.mutable (is_gone c.mark) in
      rw (f, e, header_is c, nr, ni, mu)

  pub gone_read : w ≡ slice_index (words_of_cell c) 0 → gone_of w ≡ is_gone c.mark
  gone_read e = rw (e, header_is c) (gone_of-header_word (length c.refs) (length c.ints) ok.nrefs ok.nints c.mutable (is_gone c.mark))

  born_birth : (m : Mark) → IsMark m → IsBorn m → m ≡ Born (birth_of_word (word_of_mark m))
  born_birth (Born b) r h = ap Born (sym (birth_of_word-word_of_birth b r.1))
  born_birth (Moved to) r h = absurd h
  born_birth Hole r h = absurd h

  pub birth_read : w ≡ slice_index (words_of_cell c) 1 → IsBorn c.mark → c.mark ≡ Born (birth_of_word w)
  birth_read e h = rw (e, mark_is c) (born_birth c.mark ok.mark h)

  gone_moved : (m : Mark) → IsMark m → is_gone m ≡ true → (word_of_mark m ≤ 2 ^ 42) × (ref_of_word (word_of_mark m) ≡ moved_to m) × BeginsInFirstUnit (moved_to m)
  gone_moved (Born b) r h = (cc, cc, cc)
  gone_moved (Moved to) r h = (word_of_ref-lt (Some to) r, ref_of_word-word_of_ref (Some to) r, IsPlace-from_ref (Some to) r)
  gone_moved Hole r h = (omega arith, refl, tt)

  pub moved_read : w ≡ slice_index (words_of_cell c) 1 → is_gone c.mark ≡ true → (w ≤ 2 ^ 42) × (ref_of_word w ≡ moved_to c.mark) × BeginsInFirstUnit (ref_of_word w)
  moved_read e h = let m = gone_moved c.mark ok.mark h in rw (e, mark_is c) (m.0, m.1, rw m.1 m.2)

  pub ref_read : (k : ℕ) → k < length c.refs → w ≡ slice_index (words_of_cell c) (2 + k) →
      (w ≤ 2 ^ 42) × (slice_get c.refs k ≡ Some (ref_of_word w)) × BeginsInFirstUnit (ref_of_word w)
  ref_read k l e =
      let at : IsRef (get_or c.refs k None) = All-get_or IsRef c.refs k None l ok.refs in
      let back = ref_of_word-word_of_ref (get_or c.refs k None) at in
      rw (e, ref_is c k l) (word_of_ref-lt (get_or c.refs k None) at, slice_get-get_or c.refs k None l ∙ ap Some (sym back), rw back (IsPlace-from_ref _ at))

  pub int_read : (k : ℕ) → k < length c.ints → w ≡ slice_index (words_of_cell c) (2 + (length c.refs + k)) →
      slice_get c.ints k ≡ Some (cast_signed w64 w)
  int_read k l e =
      let at : FitsSigned w64 (get_or c.ints k (pos 0)) = All-get_or (FitsSigned w64) c.ints k (pos 0) l ok.ints in
      rw (e, int_is c k l) (slice_get-get_or c.ints k (pos 0) l ∙ ap Some (sym (to_z-of_z w64 (get_or c.ints k (pos 0)) at)))

pub not_gone_moved : (m : Mark) → is_gone m ≡ false → moved_to m ≡ None
not_gone_moved (Born b) h = refl
not_gone_moved (Moved to) h = cc
not_gone_moved Hole h = refl

pub born_tests : (m : Mark) (g : Bool) → g ≡ is_gone m → IsTrue (not g) ↔ IsBorn m
born_tests (Born b) g e = rw e (λ _. tt, λ _. refl)
born_tests (Moved to) g e = rw e (λ h. cc, λ h. absurd h)
born_tests Hole g e = rw e (λ h. cc, λ h. absurd h)

pub kept_object : (m : Mark) (b : Bool) → is_gone m ≡ false → b ≡ true → IsTrue b ↔ IsObject m
kept_object (Born w) b e t = (λ _. tt, λ _. t)
kept_object (Moved to) b e t = cc
kept_object Hole b e t = cc

pub gone_object : (m : Mark) (w : ℕ) → is_gone m ≡ true → w ≡ word_of_mark m → IsTrue (not (eqb w 0)) ↔ IsObject m
gone_object (Born b) w e r = cc
gone_object (Moved to) w e r =
    let above : w ≢ 0 = λ z. absurd (omega arith) in
    rw (ne_eqb w 0 above) (λ _. tt, λ _. refl)
gone_object Hole w e r = rw (eq-eqb w 0 r) (λ h. cc, λ h. absurd h)

pub born_frozen : (m : Mark) (b : Bool) → is_gone m ≡ false → not b ≡ lasts m b
born_frozen (Born n) b e = refl
born_frozen (Moved to) b e = cc
born_frozen Hole b e = cc

pub gone_frozen : (m : Mark) (b g : Bool) → is_gone m ≡ true → g ≡ true → not g ≡ lasts m b
gone_frozen (Born n) b g e t = cc
gone_frozen (Moved to) b g e t = rw t refl
gone_frozen Hole b g e t = rw t refl
