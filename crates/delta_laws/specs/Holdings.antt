-- What heaps hold and how far they are marked, by what entries tell of them, and by a journal's accounts.
use Rattle.std.specs.Prelude.{ℕ, ◌+◌, ◌==◌, Bool, true, false, Option, Some, None, List, [], ◌∷◌, ◌++◌, length, map, option_map, slice_get, slice_set, if◌then◌else◌}
use Rattle.delta_laws.specs.Common.{ProgramText, Name, EntryValue, SettingsValue, Heap, Ledger, is_small_size, begun_in, put_last, after, NewObject, Change, New, Set, Froze, Print, NewTask, Standing, Ready, Out, Waits, HasEnded, HasJoined, TaskNow, Delta, delta, News, Nothing, Given, Taken, Laid, Snapped, Marked, Swept, news}

-- a marking that goes on: of which objects, and how many of them are marked
pub record Marking : Type 0 where
  pub snapshot : List Name
  pub marked : ℕ

-- what a heap holds: its chunks with the small objects in each, its large objects, the units of a chunk that waits for
-- one, the chunks that a leaf collection has to copy into, and its marking, where one goes on
pub record Holding : Type 0 where
  pub chunks : List (List Name)
  pub large : List Name
  pub waiting : ℕ
  pub taken : ℕ
  pub marking : Option Marking

-- by the accounts
abbrev pub marking_with : List Name → ℕ → Marking
marking_with names n = record { snapshot = names; marked = n }

abbrev pub marking_in : Heap → Option Marking
marking_in h = option_map (marking_with h.snapshot) h.marked

abbrev pub holding : Heap → Holding
holding h = record { chunks = h.chunks; large = h.large; waiting = h.reserved; taken = begun_in h; marking = marking_in h }

abbrev pub holdings : Ledger → List Holding
holdings l = map holding l.heaps

abbrev pub nothing_held : Holding
nothing_held = record { chunks = []; large = []; waiting = 0; taken = 0; marking = None }

-- what the heap of a task holds, changed so
abbrev pub changed_in : ℕ → (Holding → Holding) → List Holding → Option Holding → List Holding
changed_in t f hs None = hs
changed_in t f hs (Some h) = slice_set hs t (f h)

abbrev pub changed_at : ℕ → (Holding → Holding) → List Holding → List Holding
changed_at t f hs = changed_in t f hs (slice_get hs t)

-- OBJECTS

-- a small object lies in the last chunk; a large one has the chunk that waited for it
abbrev pub with_birth : NewObject → Holding → Holding
with_birth b h =
    if is_small_size (2 + length b.refs + length b.ints)
    then record h { chunks = put_last h.chunks b.name }
    else record h { large = h.large ++ b.name ∷ []; waiting = 0 }

abbrev pub put_birth : List Holding → Change → List Holding
put_birth hs (New b) = changed_at b.name.task (with_birth b) hs
put_birth hs _ = hs

abbrev pub put_births : List Holding → List Change → List Holding
put_births hs [] = hs
put_births hs (c ∷ cs) = put_births (put_birth hs c) cs

-- TASKS

-- a task that is made holds nothing
abbrev pub put_made : List Holding → List NewTask → List Holding
put_made hs [] = hs
put_made hs (c ∷ cs) = put_made (hs ++ nothing_held ∷ []) cs

abbrev pub holding_or_none : Option Holding → Holding
holding_or_none None = nothing_held
holding_or_none (Some h) = h

-- a parent gets what its children held: the left one's comes first, then the right one's, then its own. A marking ends
abbrev pub with_children : Holding → Holding → Holding → Holding
with_children left right h = record h { chunks = left.chunks ++ right.chunks ++ h.chunks; large = left.large ++ right.large ++ h.large; marking = None }

abbrev pub without_objects : Holding → Holding
without_objects h = record h { chunks = []; large = [] }

abbrev pub put_join : List Holding → ℕ → ℕ → ℕ → List Holding
put_join hs parent left right =
    changed_at right without_objects (changed_at left without_objects (
    changed_at parent (with_children (holding_or_none (slice_get hs left)) (holding_or_none (slice_get hs right))) hs))

abbrev pub has_joined : Standing → Bool
has_joined HasJoined = true
has_joined _ = false

abbrev pub without_marking : Holding → Holding
without_marking h = record h { marking = None }

-- of three tasks that an entry moves the first is the parent of the others, which have joined it, or which it has forked:
-- then its marking ends
abbrev pub put_moves : List Holding → List TaskNow → List Holding
put_moves hs [] = hs
put_moves hs (x ∷ []) = hs
put_moves hs (x ∷ y ∷ []) = hs
put_moves hs (x ∷ y ∷ z ∷ more) = if has_joined y.standing then put_join hs x.task y.task z.task else changed_at x.task without_marking hs

abbrev pub put_delta : List Holding → Delta → List Holding
put_delta hs d = put_moves (put_made (put_births hs d.changes.all) d.children) d.tasks

-- NEWS

-- a chunk of one unit is for small objects
abbrev pub with_given : ℕ → Holding → Holding
with_given units h = if units == 1 then record h { chunks = h.chunks ++ [] ∷ [] } else record h { waiting = units }

abbrev pub with_marked : ℕ → Holding → Holding
with_marked n h = record h { marking = option_map (λ (m : Marking). marking_with m.snapshot n) h.marking }

abbrev pub put_news : List Holding → News → List Holding
put_news hs Nothing = hs
put_news hs (Given t units) = changed_at t (with_given units) hs
put_news hs (Taken t chunks keeps) = changed_at t (λ h. record h { taken = chunks }) hs
put_news hs (Laid t chunks large) = changed_at t (λ h. record h { chunks = chunks; large = large; taken = 0 }) hs
put_news hs (Snapped t names) = changed_at t (λ h. record h { marking = Some (marking_with names 0) }) hs
put_news hs (Marked t marked) = changed_at t (with_marked marked) hs
put_news hs (Swept t chunks large) = changed_at t (λ h. record h { chunks = chunks; large = large; taken = 0; marking = None }) hs

-- ENTRIES

-- what the entries tell from one on in front of which the accounts are these, one after the other
abbrev pub held_after : ProgramText → SettingsValue → Ledger → List Holding → List EntryValue → List Holding
held_after p s l hs [] = hs
held_after p s l hs (e ∷ es) =
    let after_it : Ledger = after p s l e in
    held_after p s after_it (put_news (put_delta hs (delta p l.machine e.kind)) (news e.kind after_it)) es
