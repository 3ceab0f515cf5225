-- A journal with one more entry: its accounts continue those before it.
use Rattle.core_invariant.proofs.Common.{◌≡◌, ℕ, ◌-◌, true, Option, List, [], ◌∷◌, ◌++◌, ap, sym, subst, ◌∙◌, ReservedVecValue, ProgramText, EntryValue, SettingsValue, after, ledger_of, journals_can_be_cut, TaskNode, Private, ParkedTask, SharedValue, WorkerPartFits, IsSharedValue}

pub accounts_then : (p : ProgramText) (s : SettingsValue) (j : List EntryValue) (e : EntryValue) → ledger_of p s (j ++ e ∷ []) ≡ after p s (ledger_of p s j) e
accounts_then p s j e = (journals_can_be_cut p s j (e ∷ [])).accounts

-- the journal with an entry that was made
pub journal_by : (j j' : ReservedVecValue EntryValue) (x e : EntryValue) → x ≡ e → j' ≡ record { items = j.items ++ x ∷ []; room = j.room - 1 } → j' ≡ record { items = j.items ++ e ∷ []; room = j.room - 1 }
journal_by j j' x e q is = is ∙ ap (λ y. record { items = j.items ++ y ∷ []; room = j.room - 1 }) q

-- the shared value with four of its fields changed
pub four_changed : (w : SharedValue) (n n' : List TaskNode) (h h' : List (Option ParkedTask)) (a a' : List (Option ℕ)) (j j' : ReservedVecValue EntryValue) → n' ≡ n → h' ≡ h → a' ≡ a → j' ≡ j
    → record w { tree = n'; rests = h'; tasks_out = a'; journal = j' } ≡ record w { tree = n; rests = h; tasks_out = a; journal = j }
four_changed w n n' h h' a a' j j' en eh ea ej =
    ap (λ x. record w { tree = x; rests = h'; tasks_out = a'; journal = j' }) en
    ∙ (ap (λ x. record w { tree = n; rests = x; tasks_out = a'; journal = j' }) eh
    ∙ (ap (λ x. record w { tree = n; rests = h; tasks_out = x; journal = j' }) ea
    ∙ ap (λ x. record w { tree = n; rests = h; tasks_out = a; journal = x }) ej))

-- only capacity
pub room_world : (w : SharedValue) (j : ReservedVecValue EntryValue) → j.items ≡ w.journal.items → IsSharedValue w → IsSharedValue (record w { journal = j })
room_world w j e I =
    subst (λ (x : List EntryValue). IsSharedValue (record w { journal = record { items = x; room = j.room } })) (sym e)
    (record { settings = I.settings; form = I.form; legal = I.legal; made = I.made; noted = I.noted; workers = I.workers; limit = I.limit; stands = I.stands; heaps = I.heaps; measured = I.measured })

-- and every part that fits still fits
pub room_fit : (w : SharedValue) (j : ReservedVecValue EntryValue) → j.items ≡ w.journal.items → (k : ℕ) (p : Private) → WorkerPartFits w k p → WorkerPartFits (record w { journal = j }) k p
room_fit w j e k p F =
    subst (λ (x : List EntryValue). WorkerPartFits (record w { journal = record { items = x; room = j.room } }) k p) (sym e)
    (record { out = F.out; fits = F.fits; form = F.form; measured = F.measured; leaf_limit = F.leaf_limit; field_limit = F.field_limit })

-- and if the run is halted
pub halted_fit : (w : SharedValue) (k : ℕ) (p : Private) → WorkerPartFits w k p → WorkerPartFits (record w { halted = true }) k p
halted_fit w k p F = record { out = F.out; fits = F.fits; form = F.form; measured = F.measured; leaf_limit = F.leaf_limit; field_limit = F.field_limit }
