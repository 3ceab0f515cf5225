use Rattle.log_touches.proofs.Common.{◌≡◌, ◌<◌, ◌+◌, ◌++◌, ◌∙◌, ℕ, Option, List, append-nil, length, drop, refl, ap, sym, subst, arith, append_assoc, In, all_from, Act, GraphStrand, acts_in, acts_of_piece, events_of_pieces, IsRegionCut, marked_are_cut, Touch, HasScanned, regions_of_acts, touches_from, regions_of_events, next_on}
use Rattle.log_touches.proofs.Chains.{from_piece, next_is, none_left, piece_more, split_at, dropped, count_more, few_up_to, acts_up_to}
use Rattle.log_touches.proofs.Linking.{left_of, fewer_left}
use Rattle.log_touches.proofs.Parts.{among_all, that_strand}
use Rattle.log_touches.proofs.scan.touch_strand.Goals as goal

pub touch_text-requires-clause-cut : goal.touch_text-requires-clause-cut
touch_text-requires-clause-cut g c =
    let texts = c.args.pieces.now.texts in
    let pieces = c.args.pieces.now.pieces in
    let d = c.loop-at.invariant.done in
    let n = next_is (regions_of_events (events_of_pieces texts pieces)) c.args.strand c.args.serial texts pieces (drop d.0 pieces) d.0 c.in-Some.place refl (sym d.1 ∙ c.in-Some.is) in
    let acts = c.piece-first.ensures.acts n.piece n.at in
    all_from (IsRegionCut c.args.numbers.now) (regions_of_acts (acts_in c.piece-first.result.0.now))
    (λ r i. marked_are_cut (regions_of_events (events_of_pieces texts pieces)) c.args.numbers.now r c.requires.marked
    (among_all texts pieces c.in-Some.place n.piece r n.at (subst (λ (l : List Act). In (regions_of_acts l) r) acts i)))

pub touch_text-requires-clause-few : goal.touch_text-requires-clause-few
touch_text-requires-clause-few g c =
    let texts = c.args.pieces.now.texts in
    let pieces = c.args.pieces.now.pieces in
    let d = c.loop-at.invariant.done in
    let n = next_is (regions_of_events (events_of_pieces texts pieces)) c.args.strand c.args.serial texts pieces (drop d.0 pieces) d.0 c.in-Some.place refl (sym d.1 ∙ c.in-Some.is) in
    let acts = ap length (c.piece-first.ensures.acts n.piece n.at) in
    let count = count_more texts pieces c.in-Some.place n.piece (drop (c.in-Some.place + 1) pieces)
    (split_at pieces c.in-Some.place n.piece (drop (c.in-Some.place + 1) pieces) (dropped pieces c.in-Some.place n.piece n.at)) in
    let few = few_up_to texts pieces (c.in-Some.place + 1) in
    omega (arith, acts, count, few, c.piece-first.ensures.number, c.requires.few)

pub loop-at-smaller : goal.loop-at-smaller
loop-at-smaller g c =
    let texts = c.args.pieces.now.texts in
    let pieces = c.args.pieces.now.pieces in
    let d = c.loop-at.invariant.done in
    let n = next_is (regions_of_events (events_of_pieces texts pieces)) c.args.strand c.args.serial texts pieces (drop d.0 pieces) d.0 c.in-Some.place refl (sym d.1 ∙ c.in-Some.is) in
    subst (λ (o : Option ℕ). left_of c.next_after-at.result (length pieces) < left_of o (length pieces)) (sym c.in-Some.is)
    (fewer_left n.piece.strand pieces c.in-Some.place c.next_after-at.result n.there (c.next_after-at.ensures.place n.piece n.at))

pub loop-at-preserved : goal.loop-at-preserved
loop-at-preserved g c =
    let texts = c.args.pieces.now.texts in
    let pieces = c.args.pieces.now.pieces in
    let u = c.args.strand in
    let s = c.args.serial in
    let place = c.in-Some.place in
    let d = c.loop-at.invariant.done in
    let rs = regions_of_events (events_of_pieces texts pieces) in
    let n = next_is rs u s texts pieces (drop d.0 pieces) d.0 place refl (sym d.1 ∙ c.in-Some.is) in
    let ts = d.2.0 in
    let mine = touches_from rs s (acts_up_to texts pieces place) (acts_of_piece texts n.piece) in
    let acts = c.piece-first.ensures.acts n.piece n.at in
    let told : touches_from rs s c.piece-first.result.1 (acts_in c.piece-first.result.0.now) ≡ mine = ap (λ m. touches_from rs s m (acts_in c.piece-first.result.0.now)) c.piece-first.ensures.number ∙ ap (touches_from rs s (acts_up_to texts pieces place)) acts in
    record {
      size = c.in_ok-touch_text.ensures.size ∙ c.loop-at.invariant.size;
      there = c.next_after-at.ensures.there;
      done = (
        place + 1,
        c.next_after-at.ensures.place n.piece n.at ∙ ap (λ (v : GraphStrand). next_on v (place + 1) (drop (place + 1) pieces)) (that_strand n.piece.strand u n.own),
        (
          ts ++ mine,
          append_assoc ts mine (from_piece rs u s texts pieces (place + 1)) ∙ (ap (λ l. ts ++ l) (sym (n.same ∙ piece_more rs u s texts pieces place n.piece n.at n.own)) ∙ d.2.1),
          λ past seen. subst (λ (l : List Touch). HasScanned (g.S.Strands.order c.args.order.now) c.args.numbers.now l c.touch_text.new.scan)
              (append_assoc past ts (touches_from rs s c.piece-first.result.1 (acts_in c.piece-first.result.0.now)) ∙ ap (λ l. past ++ (ts ++ l)) told)
              (c.in_ok-touch_text.ensures.ok rs (past ++ ts) c.requires.marked (d.2.2 past seen)),
        ),
      );
    }

pub returns-clause-ok : goal.returns-clause-ok
returns-clause-ok g c = λ past seen.
    let texts = c.args.pieces.now.texts in
    let pieces = c.args.pieces.now.pieces in
    let d = c.loop-at.invariant.done in
    let ts = d.2.0 in
    let none = none_left (regions_of_events (events_of_pieces texts pieces)) c.args.strand c.args.serial texts pieces (drop d.0 pieces) d.0 refl (sym d.1 ∙ c.in_default.is) in
    subst (λ (l : List Touch). HasScanned (g.S.Strands.order c.args.order.now) c.args.numbers.now (past ++ l) c.loop-at.scan)
    (sym (append-nil ts) ∙ (ap (λ l. ts ++ l) (sym none) ∙ d.2.1)) (d.2.2 past seen)
