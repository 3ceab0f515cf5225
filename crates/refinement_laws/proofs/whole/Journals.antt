-- The memory before any entry stands for the first accounts.
use Rattle.refinement_laws.proofs.Common.{◌≡◌, ℕ, zero, suc, true, Some, None, slice_get, option_map, replicate, refl, sym, subst, ◌∙◌, ProgramText, SettingsValue, is_waiting, root, Name, Task, opening, false≢true, same_Some, none_some, Addr, Located, In, objects, AllRead, TaskIsRead, Rests, LiesWithOwner, BelongingsStand, MemoryStands, none_laid}
pub use Rattle.refinement_laws.specs.First.{first}

nils : (at : Name → Addr → Type 0) (n : ℕ) → AllRead at (replicate n None) (replicate n None)
nils at zero = tt
nils at (suc n) = (tt, nils at n)

pub first_stands : (p : ProgramText) (s : SettingsValue) → MemoryStands (first p) (opening p s)
first_stands p s = record {
  made = λ k t e. none_some e;
  belongings = λ t r. belongings t;
  contents = λ t o r i. absurd (empty t o i);
  tasks = task;
  remembered = λ t o x i n r j is at. absurd (empty t o j);
  sources = λ t z i. absurd i;
  views = λ t r j u o up ne rz i. absurd (empty u o i);
  gives = λ t u r j up ne w ru. absurd (none_waits u w);
}
  where
    empty : (t : ℕ) (o : Located) → In (objects (first p) t) o → ⊥
    empty zero o i = i
    empty (suc t) o i = i

    none_waits : (u : ℕ) → is_waiting (slice_get (opening p s).machine.tasks u) ≡ true → ⊥
    none_waits zero e = false≢true e
    none_waits (suc u) e = false≢true e

    belongings : (t : ℕ) → BelongingsStand (first p) (opening p s) t
    belongings zero = record {
      names = record { small = refl; large = refl };
      room = refl;
      since = refl;
      count = λ live. refl;
      owned = λ k i. absurd i;
      inside = λ k o i j. absurd i;
      once = λ o q i j e. absurd i;
      named = λ o q i j e. absurd i;
      laid = none_laid;
    }
    belongings (suc t) = record {
      names = record { small = refl; large = refl };
      room = refl;
      since = refl;
      count = λ live. refl;
      owned = λ k i. absurd i;
      inside = λ k o i j. absurd i;
      once = λ o q i j e. absurd i;
      named = λ o q i j e. absurd i;
      laid = none_laid;
    }

    task : (t : ℕ) (x : Task) → Rests (opening p s) t → slice_get (opening p s).machine.tasks t ≡ Some x → TaskIsRead (LiesWithOwner (first p) (opening p s)) ((first p).belongings t) x
    task zero x r is =
        subst (λ (y : Task). TaskIsRead (LiesWithOwner (first p) (opening p s)) ((first p).belongings 0) y) (same_Some (root p) x is)
        (record { function = refl; next = refl; ints = refl; refs = nils (LiesWithOwner (first p) (opening p s)) 16 }, tt)
    task (suc t) x r is = absurd cc
