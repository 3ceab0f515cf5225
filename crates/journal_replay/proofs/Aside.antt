-- What holds of accounts holds of them without the machine's end.
use Rattle.journal_replay.proofs.Common.{ℕ, ProgramText, Name, SettingsValue, Ledger, Addr, RefField, LedgerIsKnown, aside, Part, BelongingsStand, IsSource, LiesWithOwner, MemoryStands, Memory, WorkerFits, object_kept, task_kept}

pub knows_aside : (l : Ledger) → LedgerIsKnown l → LedgerIsKnown (aside l)
knows_aside l K = record { sound = K.sound; stored = K.stored; rows = K.rows }

pub fits_aside : (p : ProgramText) (s : SettingsValue) (q : Part) (v : Memory) (l : Ledger) → WorkerFits p s q v l → WorkerFits p s q v (aside l)
fits_aside p s q v l F = record { task = F.task; is = F.is; runs = F.runs; steady = F.steady; part = F.part; leaf = F.leaf; fields = F.fields }

module _ (v : Memory) (l : Ledger) where
  place : (n : Name) (a : Addr) → LiesWithOwner v l n a → LiesWithOwner v (aside l) n a
  place n a P = record { chunk = P.chunk; here = P.here }

  belongings : (t : ℕ) → BelongingsStand v l t → BelongingsStand v (aside l) t
  belongings t H = record { names = H.names; room = H.room; since = H.since; count = H.count; owned = H.owned; inside = H.inside; once = H.once; named = H.named; laid = H.laid }

  source : (t : ℕ) (s : RefField) → IsSource v l t s → IsSource v (aside l) t s
  source t s S = record {
    name = S.name;
    object = S.object;
    is = S.is;
    mutable = S.mutable;
    place = place S.name s.object S.place;
    field = S.field;
    waits = S.waits;
    rests = S.rests;
    above = S.above;
    below = S.below;
    live = S.live;
    snapshot = S.snapshot;
  }

  pub stands_aside : MemoryStands v l → MemoryStands v (aside l)
  stands_aside S = record {
    made = S.made;
    belongings = λ t r. belongings t (S.belongings t r);
    contents = λ t o r i. (let c = S.contents t o r i in (c.0, c.1, object_kept (LiesWithOwner v l) (LiesWithOwner v (aside l)) o c.0 (λ n m a h. place n a h) c.2));
    tasks = λ t x r e. task_kept (LiesWithOwner v l) (LiesWithOwner v (aside l)) (v.belongings t) x (λ n m a h. place n a h) (S.tasks t x r e);
    remembered = S.remembered;
    sources = λ t s i. source t s (S.sources t s i);
    views = S.views;
    gives = S.gives;
  }
