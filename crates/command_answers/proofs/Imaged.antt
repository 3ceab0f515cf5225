-- The answer for the heaps that a trace leaves.
use Rattle.command_answers.proofs.Common.{◌≡◌, ◌∙◌, ◌≤◌, ℕ, List, refl, sym, ap, subst, length, Option, Some, None, most_bytes, ProgramText, EntryValue, SettingsValue, InputFault, Source as SourceFault, BadLine, TraceInput, input_fault, settings_for, IsInput, RunEnd, RefusedAt, ledger_of, refused_as_run, SharedValue, accounts, IsSharedValue, ImageFault, image_fault, objects_in, ImageData, text_of, HasJustHeld, sound_is_faultless, Entry, refusal_of, CommandStatus, Answer, AnswersImage, AnswersTrace, IsImageOf, IsImaged, IsText, Refuses, WhereTraced, WhereWhole, short_of, ImagesAreVerified, ImagesHaveJustHeld}
use Rattle.command_answers.specs.declared.answer.CommandStatus.TheVariants.{Done}
use Rattle.command_answers.proofs.Runs.{short_journal, whole_journal}
use Rattle.command_answers.proofs.Traces.{trace_told}

abbrev pub OfShared : SharedValue → Answer → Type 0
OfShared w = WhereWhole (IsImaged w.program w.settings w.journal.items) (refused_as_run w.program w.settings w.journal.items)

-- all entries are made, and the run has this end, or none
pub image_ended : (w : SharedValue) (end : RunEnd) (image : List ℕ) (a : Answer) → IsSharedValue w → (accounts w).end ≡ Some end → IsImageOf w image → IsText Done image a → OfShared w a
image_ended w end image a stands ended shows h =
    subst (λ (r : Option RefusedAt). WhereWhole (IsImaged w.program w.settings w.journal.items) r a)
    (sym (whole_journal w.program w.settings w.journal.items end stands.legal ended))
    (record { whole = w; stands = stands; program = refl; settings = refl; journal = refl; image = image; shows = shows; text = h })

pub image_short : (w : SharedValue) (a : Answer) → IsSharedValue w → (accounts w).end ≡ None → Refuses (Entry (short_of w.journal.items)) a → OfShared w a
image_short w a stands none h =
    subst (λ (r : Option RefusedAt). WhereWhole (IsImaged w.program w.settings w.journal.items) r a)
    (sym (short_journal w.program w.settings w.journal.items stands.legal none)) h

-- once all entries are made
pub imaged : (l : SettingsValue) (t : TraceInput) (s : SettingsValue) (entries : List EntryValue) (w : SharedValue) (a : Answer) → s ≡ settings_for l t → entries ≡ t.trace.entries
    → w.program ≡ t.program → w.settings ≡ s → w.journal.items ≡ entries → OfShared w a → AnswersTrace IsImaged l t a
imaged l t s entries w a limits is program settings journal h =
    trace_told IsImaged l t s entries (refused_as_run t.program s entries) a limits is refl
    (subst (λ j. WhereWhole (IsImaged t.program s j) (refused_as_run t.program s j) a) journal
    (subst (λ x. WhereWhole (IsImaged t.program x w.journal.items) (refused_as_run t.program x w.journal.items) a) settings
    (subst (λ q. WhereWhole (IsImaged q w.settings w.journal.items) (refused_as_run q w.settings w.journal.items) a) program h)))

-- VERIFIED

abbrev IsDone : CommandStatus → Type 0
IsDone Done = Unit {0}
IsDone _ = ⊥

-- a refusal's status isn't `Done`
undone : (named : CommandStatus) (bytes : List ℕ) (a : Answer) → (IsDone named → ⊥) → IsText named bytes a → a.status ≡ Done → ⊥
undone named bytes a other h e = other (subst IsDone (sym e ∙ h.status) tt)

module _ (a : Answer) (done : a.status ≡ Done) where
  whole : (p : ProgramText) (l : SettingsValue) (entries : List EntryValue) (r : Option RefusedAt) → WhereWhole (IsImaged p l entries) r a → IsImaged p l entries a
  whole p l entries None h = h
  whole p l entries (Some r) h = absurd (undone _ _ a (λ x. x) h done)

  fault : (f : InputFault) → Refuses (refusal_of f) a → ⊥
  fault (SourceFault r) h = undone _ _ a (λ x. x) h done
  fault (BadLine n) h = undone _ _ a (λ x. x) h done

  -- the image of a whole run
  traced : (s : SettingsValue) (input : List ℕ) (f : Option InputFault) → WhereTraced (AnswersTrace IsImaged s) input f a → (t : TraceInput) × IsInput input t × IsImaged t.program (settings_for s t) t.trace.entries a
  traced s input (Some f) h = absurd (fault f h)
  traced s input None h =
      let t = h.0 in
      let l = settings_for s t in
      (t, h.1, whole t.program l t.trace.entries (refused_as_run t.program l t.trace.entries) h.2)

verified : (p : ProgramText) (l : SettingsValue) (entries : List EntryValue) (a b : Answer) → length a.bytes ≤ most_bytes → AnswersImage (image_fault a.bytes) (objects_in a.bytes) b → IsImaged p l entries a → b.status ≡ Done
verified p l entries a b fits h is =
    let same : a.bytes ≡ text_of is.shows.picture = is.text.written ∙ is.shows.written in
    let none : image_fault a.bytes ≡ None = subst (λ x. length x ≤ most_bytes → image_fault x ≡ None) (sym same) (sound_is_faultless is.shows.picture is.shows.sound).fits fits in
    (subst (λ (f : Option ImageFault). AnswersImage f (objects_in a.bytes) b) none h).status

pub images_are_verified : ImagesAreVerified
images_are_verified = λ s input a b h done fits v.
    let r = traced a done s input (input_fault input) h in
    verified r.0.program (settings_for s r.0) r.0.trace.entries a b fits v r.2

-- HELD

held_by : (p : ProgramText) (l : SettingsValue) (entries : List EntryValue) (w : SharedValue) (q : ImageData) → w.program ≡ p → w.settings ≡ l → w.journal.items ≡ entries → HasJustHeld q (accounts w) → HasJustHeld q (ledger_of p l entries)
held_by p l entries w q program settings journal h =
    subst (λ j. HasJustHeld q (ledger_of p l j)) journal
    (subst (λ x. HasJustHeld q (ledger_of p x w.journal.items)) settings (subst (λ y. HasJustHeld q (ledger_of y w.settings w.journal.items)) program h))

pub images_have_just_held : ImagesHaveJustHeld
images_have_just_held = λ s input a h done.
    let r = traced a done s input (input_fault input) h in
    let is = r.2 in
    record {
      read = r.0;
      is = r.1;
      picture = is.shows.picture;
      written = is.text.written ∙ is.shows.written;
      held = held_by r.0.program (settings_for s r.0) r.0.trace.entries is.whole is.shows.picture is.program is.settings is.journal is.shows.held;
    }
