-- The root before its first step fits the machine before its first.
use Rattle.part_scenes.proofs.Common.{◌≡◌, ℕ, None, List, [], replicate, refl, sym, subst, pos, none-some, Birth, Born, Hole, ChunkValue, HaveDistinctNumbers, LeafHeapValue, IsCurrent, IsReserved, ProgramText, owner_of, root, start, Private, FitsNow, HeapStands, HeapIsShaped, at_nils, nowhere}

-- its part
abbrev pub first_part : ProgramText → LeafHeapValue → ℕ → ℕ → Private
first_part p h leaf limit = record {
  task = 0;
  frames = record { below = []; top = record { function = p.main; next = 0; ints = replicate 16 (pos 0); refs = replicate 16 None } };
  heap = h;
  view = [];
  allocations = 0;
  leaf_limit = leaf;
  field_limit = limit;
  fresh = 0;
  begun = None;
}

no_birth : (b : Birth) → Hole ≡ Born b → ⊥
no_birth b e = cc

empty_stands : (p : ProgramText) (limit : ℕ) → HeapStands nowhere (owner_of (start p limit).tasks) 0 (start p limit).store [] nowhere
empty_stands p limit = record {
  objects = λ a b e. absurd (no_birth b e);
  own = λ n a o e. absurd (none-some a e);
  others = λ n o. refl;
  once = λ n k a e f. absurd (none-some a e);
  apart = λ n a e. absurd (none-some a e);
  within = λ n a e. absurd (none-some a e);
}

empty_shape : (h : LeafHeapValue) → h.chunks ≡ [] → h.current ≡ None → h.reserved ≡ None → HeapIsShaped h
empty_shape h k c r = record {
  apart = subst HaveDistinctNumbers (sym k) tt;
  current = subst (IsCurrent h.chunks) (sym c) tt;
  reserved = subst (IsReserved h.chunks) (sym r) tt;
}

pub root_now : (p : ProgramText) (h : LeafHeapValue) (leaf limit : ℕ) → h.chunks ≡ [] → h.current ≡ None → h.reserved ≡ None → FitsNow p (first_part p h leaf limit) (start p limit) nowhere
root_now p h leaf limit k c r =
    let Q : List ChunkValue → Type 0 = λ ks. HeapStands nowhere (owner_of (start p limit).tasks) 0 (start p limit).store ks nowhere in
    record {
      reached = (limit, [], refl);
      going = refl;
      task = root p;
      is = refl;
      running = refl;
      limit = refl;
      count = refl;
      place = nowhere;
      stack = record { top = record { function = refl; next = refl; ints = refl; refs = at_nils nowhere 16 }; below = tt };
      heap = subst Q (sym k) (empty_stands p limit);
      shape = empty_shape h k c r;
      shown = λ n a o e. absurd (none-some a e);
    }
