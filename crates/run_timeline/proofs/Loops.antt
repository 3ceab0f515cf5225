-- What is left to be written of a timeline, entry by entry.
use Rattle.run_timeline.proofs.Common.{◌≡◌, ◌<◌, ◌+◌, ◌==◌, ℕ, suc, false, List, [], ◌∷◌, ◌++◌, length, take, drop, get_or, ap, sym, ◌∙◌, append_assoc, append-nil, arith, ◌-◌, length-append, ◌≢◌, codes, Option, flat_map, flat_map-append, take-append_seam, ProgramText, EntryValue, SettingsValue, Ledger, after, RefusedAt, RunEnd, or_short, OrNoMemory, NoMemory, Refused, Reports, cut, quoted, task_name, Json, Word, NoMember, Member, Members, json, further, more_member, more_members, arrays_are_joined, counts_of, process, lane, arrow_begins, arrow_ends, arguments, two_numbers, event, end_time, slice_name, entry_events, fork_events, task_begins, events_from, events_of, lanes, timeline, beginning, event_ending, span_head, event_head}
use Rattle.run_timeline.proofs.Made.{span_made, event_made}

module _ (p : ProgramText) (s : SettingsValue) (l : Ledger) (n : ℕ) (journal : List EntryValue) (i : ℕ) (e : EntryValue) (lt : i < length journal) (is : e ≡ get_or journal i e) where
  abbrev events_of_entry : List Json
  events_of_entry = entry_events p (slice_name p l.machine e.kind) (counts_of l) (after p s l e) n e

  abbrev later : List Json
  later = events_from p s (after p s l e) (n + 1) (drop (i + 1) journal)

  -- the events of an entry, and those of the entries behind it
  pub events_next : flat_map further (events_from p s l n (drop i journal)) ≡ flat_map further events_of_entry ++ flat_map further later
  events_next =
      ap (λ es. flat_map further (events_from p s l n es)) (cut p s l n journal i e lt is)
      ∙ flat_map-append further events_of_entry later

-- an object with an array, as the text has it
abbrev whole : List ℕ → List ℕ
whole array = 123 ∷ ((quoted (codes "traceEvents") ++ 58 ∷ (array ++ more_members (Member (codes "displayTimeUnit") (Word (codes "ms")) NoMember))) ++ 125 ∷ []) ++ 10 ∷ []

-- the whole text
pub timeline_made : (p : ProgramText) (s : SettingsValue) (journal : List EntryValue) → (beginning s.workers ++ flat_map further (events_of p s journal)) ++ event_ending ≡ timeline p s journal
timeline_made p s journal =
    five (json process) (flat_map further (lanes s.workers)) (flat_map further (events_of p s journal))
    ∙ ap (λ x. whole (91 ∷ ((json process ++ x) ++ 93 ∷ []))) (sym (flat_map-append further (lanes s.workers) (events_of p s journal)))
    ∙ ap whole (sym (arrays_are_joined process (lanes s.workers ++ events_of p s journal)))
  where
    five : (a b c : List ℕ) → ((codes "{\"traceEvents\":[" ++ a ++ b) ++ c) ++ event_ending ≡ whole (91 ∷ ((a ++ (b ++ c)) ++ 93 ∷ []))
    five a b c = simp append_assoc

-- one event alone
pub one_told : (v : Json) (before now : List ℕ) → now ≡ before ++ further v → now ≡ before ++ flat_map further (v ∷ [])
one_told v before now e = e ∙ ap (λ x. before ++ x) (sym (append-nil (further v)))

-- a lane more
pub lanes_more : (w : ℕ) (before now later : List ℕ) → now ≡ before ++ flat_map further (lanes w) → later ≡ now ++ further (lane w) → later ≡ before ++ flat_map further (lanes (w + 1))
lanes_more w before now later e f =
    let q : suc w ≡ w + 1 = omega arith in
    f ∙ ap (λ x. x ++ further (lane w)) e
    ∙ append_assoc before (flat_map further (lanes w)) (further (lane w))
    ∙ ap (λ x. before ++ (flat_map further (lanes w) ++ x)) (sym (append-nil (further (lane w))))
    ∙ ap (λ x. before ++ x) (sym (flat_map-append further (lanes w) (lane w ∷ [])))
    ∙ ap (λ n. before ++ flat_map further (lanes n)) q

-- two events
pub two_told : (v w : Json) (before now later : List ℕ) → now ≡ before ++ further v → later ≡ now ++ further w → later ≡ before ++ flat_map further (v ∷ w ∷ [])
two_told v w before now later e f = f ∙ ap (λ x. x ++ further w) e ∙ three before (further v) (further w)
  where
    three : (z a b : List ℕ) → (z ++ a) ++ b ≡ z ++ (a ++ (b ++ []))
    three z a b = simp (append_assoc, append-nil)

-- a fork's arrows, where there are other tasks than before
pub forked_told : (made there n w : ℕ) (before now later : List ℕ) → there ≢ made → now ≡ before ++ further (arrow_begins (codes "fork") made n w) → later ≡ now ++ further (arrow_begins (codes "fork") (made + 1) n w)
    → later ≡ before ++ flat_map further (fork_events made there n w)
forked_told made there n w before now later ne e f =
    let q : (there == made) ≡ false = grind (arith, ne) in
    rw q (two_told (arrow_begins (codes "fork") made n w) (arrow_begins (codes "fork") (made + 1) n w) before now later e f)

-- the events of one entry
pub entered_told : (v : Json) (ts cs ws es : List Json) (before a b c d f : List ℕ) → a ≡ before ++ further v → b ≡ a ++ flat_map further ts → c ≡ b ++ flat_map further cs → d ≡ c ++ flat_map further ws
    → f ≡ d ++ flat_map further es → f ≡ before ++ flat_map further ((v ∷ ts) ++ cs ++ ws ++ es)
entered_told v ts cs ws es before a b c d f ea eb ec ed ef =
    ef ∙ ap (λ x. x ++ flat_map further es) (ed ∙ ap (λ x. x ++ flat_map further ws) (ec ∙ ap (λ x. x ++ flat_map further cs) (eb ∙ ap (λ x. x ++ flat_map further ts) ea)))
    ∙ six before (further v) (flat_map further ts) (flat_map further cs) (flat_map further ws) (flat_map further es)
    ∙ ap (λ x. before ++ ((x ++ flat_map further ws) ++ flat_map further es)) (sym (flat_map-append further (v ∷ ts) cs))
    ∙ ap (λ x. before ++ (x ++ flat_map further es)) (sym (flat_map-append further ((v ∷ ts) ++ cs) ws))
    ∙ ap (λ x. before ++ x) (sym (flat_map-append further (((v ∷ ts) ++ cs) ++ ws) es))
  where
    six : (z a b c d e : List ℕ) → ((((z ++ a) ++ b) ++ c) ++ d) ++ e ≡ z ++ ((((a ++ b) ++ c) ++ d) ++ e)
    six z a b c d e = simp append_assoc

-- a task's first taking
pub first_told : (t q line there n w : ℕ) (name before a b c : List ℕ) → name ≡ task_name t → line ≡ there → a ≡ before ++ span_head (codes "b") name (codes "task") t n w
    → b ≡ a ++ more_members (arguments (two_numbers (codes "parent") q (codes "line") line)) ++ 125 ∷ [] → c ≡ b ++ further (arrow_ends (codes "fork") t n w)
    → c ≡ before ++ flat_map further (task_begins t n w (arguments (two_numbers (codes "parent") q (codes "line") there)) ∷ (arrow_ends (codes "fork") t n w ∷ []))
first_told t q line there n w name before a b c en el ea eb ec =
    let ms = arguments (two_numbers (codes "parent") q (codes "line") line) in
    two_told (task_begins t n w ms) (arrow_ends (codes "fork") t n w) before b c
    (span_made (codes "b") (task_name t) (codes "task") t n w ms before a b
    (ea ∙ ap (λ x. before ++ span_head (codes "b") x (codes "task") t n w) en)
    (eb ∙ append_assoc a (more_members ms) (125 ∷ [])))
    ec
    ∙ ap (λ k. before ++ flat_map further (task_begins t n w (arguments (two_numbers (codes "parent") q (codes "line") k)) ∷ (arrow_ends (codes "fork") t n w ∷ []))) el

-- a line without its line feed
pub without_feed : (bytes j : List ℕ) → bytes ≡ j ++ 10 ∷ [] → take (length bytes - 1) bytes ≡ j
without_feed bytes j e =
    ap (λ b. take (length b - 1) b) e
    ∙ ap (λ k. take k (j ++ 10 ∷ [])) (let h : length (j ++ 10 ∷ []) ≡ length j + 1 = length-append j (10 ∷ []) in let g : length (j ++ 10 ∷ []) - 1 ≡ length j = omega (arith, h) in g)
    ∙ take-append_seam j (10 ∷ [])

-- the event of a run's end
pub end_told : (name kept : List ℕ) (n w : ℕ) (more : Members) (before a b c d e : List ℕ) → kept ≡ name → a ≡ before ++ 44 ∷ 10 ∷ [] → b ≡ a ++ event_head kept (codes "end") (codes "i") (end_time n) w
    → c ≡ b ++ more_member (codes "s") (Word (codes "g")) → d ≡ c ++ more_members more → e ≡ d ++ 125 ∷ []
    → e ≡ before ++ further (event name (codes "end") (codes "i") (end_time n) w (Member (codes "s") (Word (codes "g")) more))
end_told name kept n w more before a b c d e ek ea eb ec ed ee =
    event_made name (codes "end") (codes "i") (end_time n) w (Member (codes "s") (Word (codes "g")) more) before a b e ea
    (eb ∙ ap (λ x. a ++ event_head x (codes "end") (codes "i") (end_time n) w) ek)
    (ee ∙ ap (λ z. z ++ 125 ∷ []) (ed ∙ ap (λ z. z ++ more_members more) ec) ∙ four (44 ∷ []) (58 ∷ []) (125 ∷ []) b (quoted (codes "s")) (quoted (codes "g")) (more_members more))
  where
    four : (y s z b q v m : List ℕ) → ((b ++ (y ++ (q ++ (s ++ v)))) ++ m) ++ z ≡ b ++ ((y ++ (q ++ (s ++ (v ++ m)))) ++ z)
    four y s z b q v m = simp append_assoc

-- a replay that fails fails as that of a whole run
pub fails_whole : (first : Option RefusedAt) (end : Option RunEnd) (at : ℕ) (error : OrNoMemory RefusedAt) → Reports first error → Reports (or_short first end at) error
fails_whole first end at (Refused r) h = ap (λ o. or_short o end at) h
fails_whole first end at NoMemory h = tt
