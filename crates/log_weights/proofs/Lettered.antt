-- Only acts with the letter of work have units.
use Rattle.log_weights.proofs.Common.{◌≡◌, ◌+◌, ◌∷◌, ◌∙◌, ℕ, Bool, true, false, List, [], cond, refl, sym, ap, arith, codes, filter, sum_by-cons, Act, is_by, units_of, work_of}
use Rattle.log_strands.specs.below.log_lines.{Access, Yield, Store, Birth, Release, Work, Spawn, Join, Finish}

no_units : (act : Act) → is_by (codes "k") act ≡ false → units_of act ≡ 0
no_units (Access a) e = refl
no_units (Yield r) e = refl
no_units (Store r) e = refl
no_units (Birth block length) e = refl
no_units (Release block) e = refl
no_units (Work units) e = absurd (let z : true ≡ false = e in cc)
no_units (Spawn c) e = refl
no_units (Join c) e = refl
no_units Finish e = refl

one_kept : (b : Bool) (act : Act) (kept all : List Act) → (b ≡ false → units_of act ≡ 0) → work_of kept ≡ work_of all → work_of (cond b (act ∷ kept) kept) ≡ units_of act + work_of all
one_kept true act kept all none e = sum_by-cons units_of act kept ∙ ap (λ (n : ℕ). units_of act + n) e
one_kept false act kept all none e = let zero_units = none refl in omega (arith, zero_units, e)

pub work_kept : (acts : List Act) → work_of (filter (is_by (codes "k")) acts) ≡ work_of acts
work_kept [] = refl
work_kept (act ∷ rest) = one_kept (is_by (codes "k") act) act (filter (is_by (codes "k")) rest) rest (no_units act) (work_kept rest) ∙ sym (sum_by-cons units_of act rest)
