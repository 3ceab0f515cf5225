-- One more access to a field without a race.
use Rattle.race_report.proofs.Common.{◌≡◌, Bool, true, false, cond, refl, ap, Option, Some, None, option_map, Race, Seen, Open, Found, allows, bound_for, first_clash, found_by, race_between, watch_with, with_access}
use Rattle.race_report.specs.declared.data.Watch.TheVariants.{Open as Waits}

module _ (o : Open) (v : Seen) where
  abbrev race_by : Bool → Option Seen → Option Race
  race_by allowed first = cond allowed None (option_map (λ u. race_between u.access v.access) first)

  raced_by : (r : Race) (allowed : Bool) (first : Option Seen) → Some r ≡ race_by allowed first → Found r ≡ cond allowed (Waits (with_access o v)) (found_by first o v)
  raced_by r true first e = absurd (cc)
  raced_by r false None e = absurd (cc)
  raced_by r false (Some u) e = let h : r ≡ race_between u.access v.access = cc in ap Found h

  pub raced : (r : Race) → Some r ≡ race_by (allows (bound_for o v.access) v.label) (first_clash o.earlier v) → Found r ≡ watch_with (Waits o) v
  raced r e = raced_by r (allows (bound_for o v.access) v.label) (first_clash o.earlier v) e

  waits_by : (allowed : Bool) (first : Option Seen) → None ≡ race_by allowed first → Waits (with_access o v) ≡ cond allowed (Waits (with_access o v)) (found_by first o v)
  waits_by true first e = refl
  waits_by false None e = refl
  waits_by false (Some u) e = absurd (cc)

  pub waits : None ≡ race_by (allows (bound_for o v.access) v.label) (first_clash o.earlier v) → Waits (with_access o v) ≡ watch_with (Waits o) v
  waits e = waits_by (allows (bound_for o v.access) v.label) (first_clash o.earlier v) e
