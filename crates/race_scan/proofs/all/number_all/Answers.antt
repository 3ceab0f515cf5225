use Rattle.race_scan.proofs.Common.{◌≡◌, ◌≤◌, ◌+◌, ◌++◌, [], ◌∷◌, ℕ, List, length, take, get_or, ap, sym, subst, ◌∙◌, take_more, take_all, map-append, IfOk-weaker, Region, PlacesValue, stretch_count, AreMarked, PlainRead, Touch, regions_of}
use Rattle.race_scan.proofs.Scanning.{cut_more}
use Rattle.race_scan.proofs.all.number_all.Goals as goal

abbrev no_touch : Touch
no_touch = record { region = record { block = 0; offset = 0; length = 0; runs = 0; apart = 0 }; access = record { strand = 0; kind = PlainRead; line = 0 } }

pub loop-touch-preserved : goal.loop-touch-preserved
loop-touch-preserved c = record {
  cut = cut_more c.loop-touch.places c.mark.new.self c.args.touches.now c.loop-touch.touch-index no_touch
      c.loop-touch-test.true c.in_ok-mark.ensures.keeps c.loop-touch.invariant.cut c.in_ok-mark.ensures.cut;
  marked =
      let next : regions_of (take (c.loop-touch.touch-index + 1) c.args.touches.now)
      ≡ regions_of (take c.loop-touch.touch-index c.args.touches.now) ++ (get_or c.args.touches.now c.loop-touch.touch-index no_touch).region ∷ [] =
      ap regions_of (take_more c.args.touches.now c.loop-touch.touch-index no_touch c.loop-touch-test.true)
      ∙ map-append (λ (t : Touch). t.region) (take c.loop-touch.touch-index c.args.touches.now) (get_or c.args.touches.now c.loop-touch.touch-index no_touch ∷ []) in
      subst (λ (rs : List Region). AreMarked rs c.mark.new.self) (sym next)
      (c.in_ok-mark.ensures.marked (regions_of (take c.loop-touch.touch-index c.args.touches.now)) c.loop-touch.invariant.marked);
}

all_marked : (touches : List Touch) (i : ℕ) (v : PlacesValue) → length touches ≤ i → AreMarked (regions_of (take i touches)) v → AreMarked (regions_of touches) v
all_marked touches i v past are = subst (λ (ts : List Touch). AreMarked (regions_of ts) v) (take_all i touches past) are

pub returns-clause-marked : goal.returns-clause-marked
returns-clause-marked c =
    let are = all_marked c.args.touches.now c.loop-touch.touch-index c.loop-touch.places c.loop-touch-test.false c.loop-touch.invariant.marked in
    IfOk-weaker c.number.result (λ (n : PlacesValue). n ≡ c.loop-touch.places) (AreMarked (regions_of c.args.touches.now)) (λ n e. subst (AreMarked (regions_of c.args.touches.now)) (sym e) are) c.number.ensures.value

pub returns-clause-over : goal.returns-clause-over
returns-clause-over c = λ is.
    let are = all_marked c.args.touches.now c.loop-touch.touch-index c.loop-touch.places c.loop-touch-test.false c.loop-touch.invariant.marked in
    (stretch_count c.loop-touch.places, c.number.ensures.count (regions_of c.args.touches.now) are, c.number.ensures.over is)
