-- In a log without a faulty line each block is born once at most, and released once.
use Rattle.log_births.proofs.Common.{◌≡◌, ℕ, true, List, Option, Some, None, arith, same_Some, nat_tests, born_once, released_once, Act, Access, Yield, Store, Birth, Release, Work, Spawn, Join, Finish, events_of, log_fault, bears, releases, born, released, IsDoneOnce}

no_block : {A : Type 0} (b : ℕ) → ◌≡◌ {A = Option ℕ} None (Some b) → A
no_block b e = absurd (cc)

bears_it : (a : Act) (b : ℕ) → born a ≡ Some b → bears b a ≡ true
bears_it (Birth d l) b e = let same = same_Some d b e in grind (arith, nat_tests, same)
bears_it (Access a) b e = no_block b e
bears_it (Yield r) b e = no_block b e
bears_it (Store r) b e = no_block b e
bears_it (Release d) b e = no_block b e
bears_it (Work n) b e = no_block b e
bears_it (Spawn d) b e = no_block b e
bears_it (Join d) b e = no_block b e
bears_it Finish b e = no_block b e

releases_it : (a : Act) (b : ℕ) → released a ≡ Some b → releases b a ≡ true
releases_it (Release d) b e = let same = same_Some d b e in grind (arith, nat_tests, same)
releases_it (Access a) b e = no_block b e
releases_it (Yield r) b e = no_block b e
releases_it (Store r) b e = no_block b e
releases_it (Birth d l) b e = no_block b e
releases_it (Work n) b e = no_block b e
releases_it (Spawn d) b e = no_block b e
releases_it (Join d) b e = no_block b e
releases_it Finish b e = no_block b e

pub one_birth : (texts : List (List ℕ)) → log_fault texts ≡ None → IsDoneOnce born (events_of texts)
one_birth texts whole b m n e f gm gn be bf = born_once b texts whole m n e f gm gn (bears_it e.act b be) (bears_it f.act b bf)

pub one_release : (texts : List (List ℕ)) → log_fault texts ≡ None → IsDoneOnce released (events_of texts)
one_release texts whole b m n e f gm gn be bf = released_once b texts whole m n e f gm gn (releases_it e.act b be) (releases_it f.act b bf)
