use Rattle.run_statistics.proofs.Common.{◌≡◌, ap, sym, subst, ◌∙◌, EntryValue, Totals, SumsFit, totals_joined, SharedValue, JournalCounts, IsMade, counted}
use Rattle.run_statistics.proofs.EntryCounted.{counts_then, totals_few}
use Rattle.run_statistics.proofs.counting.JournalCounts.count.Goals as goal

pub add-requires : goal.add-requires
add-requires c =
    let w : SharedValue = c.requires.0 in
    let v : SharedValue = c.args.shared.now in
    let before : JournalCounts = c.args.self.now in
    let x : EntryValue = c.last_entry-entry.result in
    let same : x ≡ c.requires.1 = c.last_entry-entry.ensures.last w c.requires.1 c.requires.2.enters in
    let M : IsMade w v before x c.args.words = subst (λ (z : EntryValue). IsMade w v before z c.args.words) (sym same) c.requires.2 in
    let adds : c.counted-counted.result ≡ counted x.kind c.lost-lost.result c.in_use-used.result = c.counted-counted.ensures ∙ ap (λ k. counted k c.lost-lost.result c.in_use-used.result) c.kind.ensures.value in
    subst (λ (z : Totals). SumsFit (totals_joined before.totals z)) (sym adds) (totals_few w v before x c.args.words M c.last_entry-entry.ensures.short c.lost-lost.result c.in_use-used.result (c.lost-lost.ensures w M) c.in_use-used.ensures)

pub returns : goal.returns
returns c =
    let w : SharedValue = c.requires.0 in
    let v : SharedValue = c.args.shared.now in
    let before : JournalCounts = c.args.self.now in
    let x : EntryValue = c.last_entry-entry.result in
    let same : x ≡ c.requires.1 = c.last_entry-entry.ensures.last w c.requires.1 c.requires.2.enters in
    let M : IsMade w v before x c.args.words = subst (λ (z : EntryValue). IsMade w v before z c.args.words) (sym same) c.requires.2 in
    let adds : c.counted-counted.result ≡ counted x.kind c.lost-lost.result c.in_use-used.result = c.counted-counted.ensures ∙ ap (λ k. counted k c.lost-lost.result c.in_use-used.result) c.kind.ensures.value in
    counts_then w v before x c.args.words M (record { totals = c.add.new.totals; begun = c.keep_begun.new.begun }) c.lost-lost.result c.in_use-used.result (c.lost-lost.ensures w M) c.in_use-used.ensures
    (c.add.ensures ∙ ap (totals_joined before.totals) adds) c.keep_begun.ensures
