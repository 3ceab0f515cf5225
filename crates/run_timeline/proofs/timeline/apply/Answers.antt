use Rattle.run_timeline.proofs.Common.{◌≡◌, ◌+◌, ◌-◌, ap, sym, ◌∙◌, cleared_words, objects_by, words_by}
use Rattle.run_timeline.proofs.Held.{words_follow_entries}
use Rattle.run_timeline.proofs.timeline.apply.Goals as goal

pub returns-in-Some-clause-held : goal.returns-in-Some-clause-held
returns-in-Some-clause-held c =
    let b = c.args.book.now in
    let e = c.args.entry in
    let kind : c.kind-kind.result ≡ e.kind = c.kind-kind.ensures.value in
    let objects : c.objects_by-objects.result ≡ objects_by e.kind b.ledger.machine = c.objects_by-objects.ensures ∙ (λ i. objects_by (kind i) (c.state.ensures i)) in
    let cleared : c.cleared_words-cleared.result ≡ cleared_words b.ledger e.kind = c.cleared_words-cleared.ensures ∙ ap (cleared_words b.ledger) kind in
    c.in-Some.ensures
    ∙ (λ i. (c.requires.held i) + words_by (kind i) (objects i) (c.in_ok-apply.ensures.entered i).ledger.machine - (cleared i - cleared_words (c.in_ok-apply.ensures.entered i).ledger (kind i)))
    ∙ sym (words_follow_entries b.program b.settings b.ledger e c.legal.ensures c.in_ok-apply.ensures.legal)
