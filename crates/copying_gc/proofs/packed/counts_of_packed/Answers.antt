use Rattle.copying_gc.proofs.Common.{◌≡◌, ◌^◌, ◌<◌, ◌∙◌, ap, arith, rules, sym, ℕ, object_count, saturating_words}
use Rattle.copying_gc.proofs.packed.counts_of_packed.Goals as goal

pub returns : goal.returns
returns c =
    let many : object_count c.args.chunks.now ≡ c.args.objects = c.requires.count in
    let fits : c.args.objects < 2 ^ 64 = search (rules, c.ranges.objects.fits) in
    record {
      words = c.used_words-words.ensures.words ∙ ap (λ (n : ℕ). saturating_words n) (sym c.requires.full);
      objects = omega arith;
      small = c.used_words-words.ensures.words ∙ ap (λ (n : ℕ). saturating_words n) (sym c.requires.small);
      within = c.used_words-words.ensures.within;
    }
