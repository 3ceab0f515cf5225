-- A text without a fault, line by line.
use Rattle.image_check.proofs.Common.{◌≡◌, ◌<◌, ◌+◌, ℕ, zero, suc, Bool, true, false, List, [], ◌∷◌, cond, refl, ap, sym, ◌∙◌, arith, length, nat_le, Option, Some, None, ◌&&◌, not, list_any, or_parts, is_last, most_bytes, ImageChunk, ImageObject, ImageLine, Nothing, Wrong, Title, OfTask, OfChunk, OfObject, OfRemembered, OfEnd, ImagePosition, Read, Whole, ImageCause, Line, Twice, Place, Running, Ref, Cross, Down, ImageFault, line_meaning, is_among, same_birth, position_of, rises, after_line, last_after, is_running, chunk_at, has_wrong_place, is_misplaced, is_end, breaks_form, cause_by, cause_on, or_later_line, fault_from_line, lines_fault, image_fault, image_too_long, after_lines, is_astray, crosses, forgets, is_crowded, object_cause_in, references_cause, LineSays}
use Rattle.image_check.specs.Read.{position}

-- BOOLEANS

pub cond_none : (b : Bool) (c : ImageCause) (o : Option ImageCause) → cond b (Some c) o ≡ None → (b ≡ false) × (o ≡ None)
cond_none true c o e = absurd (cc)
cond_none false c o e = (refl, e)

faultless_by : (b : Bool) (o : Option ImageFault) → cond b o (Some image_too_long) ≡ None → o ≡ None
faultless_by true o e = e
faultless_by false o e = absurd (cc)

-- a text without a fault has none on its lines
pub faultless : (text : List ℕ) → image_fault text ≡ None → lines_fault text ≡ None
faultless text e = faultless_by (nat_le (length text) most_bytes) (lines_fault text) e

later_none : (o : Option ImageCause) (n : ℕ) (later : Option ImageFault) → or_later_line o n later ≡ None → (o ≡ None) × (later ≡ None)
later_none None n later e = (refl, e)
later_none (Some c) n later e = absurd (cc)

pub clear : (w : Whole) (r : Read) (n : ℕ) (l : List ℕ) (ls : List (List ℕ)) → fault_from_line w r n (l ∷ ls) ≡ None → (cause_on w r (is_last ls) (line_meaning l) ≡ None) × (fault_from_line w (after_line r (line_meaning l)) (n + 1) ls ≡ None)
clear w r n l ls e = later_none (cause_on w r (is_last ls) (line_meaning l)) n (fault_from_line w (after_line r (line_meaning l)) (n + 1) ls) e

pub formed : (w : Whole) (r : Read) (last : Bool) (s : ImageLine) → cause_on w r last s ≡ None → (is_misplaced r.last s ≡ false) × (cause_by w r s ≡ None)
formed w r last s e =
    let h = cond_none (breaks_form r last s) Line (cause_by w r s) e in
    ((or_parts (is_misplaced r.last s) (last && not (is_end (last_after r.last (position_of s)))) h.0).0, h.1)

-- AN OBJECT'S LINE

pub record IsWell (w : Whole) (r : Read) (o : ImageObject) : Type 0 where
  pub fresh : is_among same_birth r.births (o.birth.task, o.birth.count) ≡ false
  pub chunk : ImageChunk
  pub lies : chunk_at r.chunks o.address ≡ Some chunk
  pub leads : list_any (is_astray w r) o.references ≡ false
  pub stays : list_any (crosses r chunk.owner) o.references ≡ false
  pub keeps : forgets w r chunk.owner o.address 0 o.references ≡ false

in_chunk : (w : Whole) (r : Read) (o : ImageObject) (m : Option ImageChunk) → chunk_at r.chunks o.address ≡ m → object_cause_in w r o m ≡ None → is_among same_birth r.births (o.birth.task, o.birth.count) ≡ false → IsWell w r o
in_chunk w r o None e h new = absurd (cc)
in_chunk w r o (Some c) e h new =
    let a = cond_none (is_crowded r c o) Place (cond (is_running r.tasks c.owner) (Some Running) (references_cause w r c.owner o)) h in
    let b = cond_none (is_running r.tasks c.owner) Running (references_cause w r c.owner o) a.1 in
    let d = cond_none (list_any (is_astray w r) o.references) Ref (cond (list_any (crosses r c.owner) o.references) (Some Cross) (cond (forgets w r c.owner o.address 0 o.references) (Some Down) None)) b.1 in
    let f = cond_none (list_any (crosses r c.owner) o.references) Cross (cond (forgets w r c.owner o.address 0 o.references) (Some Down) None) d.1 in
    let g = cond_none (forgets w r c.owner o.address 0 o.references) Down None f.1 in
    record { fresh = new; chunk = c; lies = e; leads = d.0; stays = f.0; keeps = g.0 }

pub well : (w : Whole) (r : Read) (last : Bool) (o : ImageObject) → cause_on w r last (OfObject o) ≡ None → IsWell w r o
well w r last o e =
    let h = cond_none (is_among same_birth r.births (o.birth.task, o.birth.count)) Twice (object_cause_in w r o (chunk_at r.chunks o.address)) (formed w r last (OfObject o) e).1 in
    in_chunk w r o (chunk_at r.chunks o.address) refl h.1 h.0

-- NO TASK AND NO CHUNK COMES AFTER AN OBJECT

abbrev pub IsPast : Option ImagePosition → Type 0
IsPast None = ⊥
IsPast (Some p) = 2 < p.kind

no_rise : (p : ImagePosition) (k a : ℕ) → k < 3 → 2 < p.kind → rises p (position k a 0 0) ≡ false
no_rise p k a lt past = grind (arith, lt, past)

pub record Stays (r s : Read) : Type 0 where
  pub tasks : s.tasks ≡ r.tasks
  pub chunks : s.chunks ≡ r.chunks
  pub past : IsPast s.last

true_false : (b : Bool) → not b ≡ false → b ≡ false → ⊥
true_false true e f = cc
true_false false e f = cc

behind : (k a : ℕ) → k < 3 → (last : Option ImagePosition) → IsPast last → has_wrong_place last (Some (position k a 0 0)) ≡ false → ⊥
behind k a lt None past e = past
behind k a lt (Some p) past e = true_false (rises p (position k a 0 0)) e (no_rise p k a lt past)

line_stays : (r : Read) (s : ImageLine) → IsPast r.last → is_misplaced r.last s ≡ false → Stays r (after_line r s)
line_stays r Nothing past e = record { tasks = refl; chunks = refl; past = past }
line_stays r Wrong past e = absurd (cc)
line_stays r Title past e = absurd (behind 0 0 (omega arith) r.last past e)
line_stays r (OfTask t) past e = absurd (behind 1 t.number (omega arith) r.last past e)
line_stays r (OfChunk c) past e = absurd (behind 2 c.number (omega arith) r.last past e)
line_stays r (OfObject o) past e = record { tasks = refl; chunks = refl; past = omega arith }
line_stays r (OfRemembered f) past e = record { tasks = refl; chunks = refl; past = omega arith }
line_stays r (OfEnd n) past e = record { tasks = refl; chunks = refl; past = omega arith }

pub lines_stay : (w : Whole) (r : Read) (n : ℕ) (ls : List (List ℕ)) → IsPast r.last → fault_from_line w r n ls ≡ None → ((after_lines r ls).tasks ≡ r.tasks) × ((after_lines r ls).chunks ≡ r.chunks)
lines_stay w r n [] past e = (refl, refl)
lines_stay w r n (l ∷ ls) past e =
    let c = clear w r n l ls e in
    let s = line_stays r (line_meaning l) past (formed w r (is_last ls) (line_meaning l) c.0).0 in
    let h = lines_stay w (after_line r (line_meaning l)) (n + 1) ls s.past c.1 in
    (h.0 ∙ s.tasks, h.1 ∙ s.chunks)

-- WHERE AN OBJECT'S LINE STANDS

-- what was read before an object's line has the tasks and chunks of the whole text
pub record IsMet (w : Whole) (all : Read) (o : ImageObject) : Type 0 where
  pub before : Read
  pub is : IsWell w before o
  pub tasks : all.tasks ≡ before.tasks
  pub chunks : all.chunks ≡ before.chunks

object_cause_is_located : (w : Whole) (r : Read) (n : ℕ) (last : Bool) (ls : List (List ℕ)) (o : ImageObject) (s : ImageLine) → s ≡ OfObject o → cause_on w r last s ≡ None → fault_from_line w (after_line r s) (n + 1) ls ≡ None → IsMet w (after_lines (after_line r s) ls) o
object_cause_is_located w r n last ls o s e c f =
    let d : cause_on w r last (OfObject o) ≡ None = ap (λ x. cause_on w r last x) (sym e) ∙ c in
    let g : fault_from_line w (after_line r (OfObject o)) (n + 1) ls ≡ None = ap (λ x. fault_from_line w (after_line r x) (n + 1) ls) (sym e) ∙ f in
    let h = lines_stay w (after_line r (OfObject o)) (n + 1) ls (omega arith) g in
    record {
      before = r;
      is = well w r last o d;
      tasks = ap (λ x. (after_lines (after_line r x) ls).tasks) e ∙ h.0;
      chunks = ap (λ x. (after_lines (after_line r x) ls).chunks) e ∙ h.1;
    }

pub met : (w : Whole) (r : Read) (n : ℕ) (ls : List (List ℕ)) (i : ℕ) (o : ImageObject) → fault_from_line w r n ls ≡ None → LineSays ls i (OfObject o) → IsMet w (after_lines r ls) o
met w r n [] i o e h = absurd h
met w r n (l ∷ ls) zero o e h = let c = clear w r n l ls e in object_cause_is_located w r n (is_last ls) ls o (line_meaning l) h c.0 c.1
met w r n (l ∷ ls) (suc i) o e h = met w (after_line r (line_meaning l)) (n + 1) ls i o (clear w r n l ls e).1 h
