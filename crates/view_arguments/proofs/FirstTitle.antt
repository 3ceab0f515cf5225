-- The first word `--title`, word by word.
use Rattle.view_arguments.proofs.Common.{◌≡◌, ◌<◌, ◌+◌, ℕ, suc, Bool, cond, List, ◌∷◌, length, drop, get_or, map, arith, ap, ap₂, sym, ◌∙◌, drop-cons, Option, Some, codes, bytes_eq, title_from}

module _ {A : Type 0} (f : A → List ℕ) (words : List A) (i : ℕ) (x : A) (lt : i < length words) (is : x ≡ get_or words i x) where
  cut : drop i words ≡ x ∷ drop (i + 1) words
  cut = drop-cons words i x lt ∙ ap₂ (λ y k. y ∷ drop k words) (sym is) (let q : suc i ≡ i + 1 = omega arith in q)

  -- a word is the first one, or the words after it are asked
  pub next : (b : Bool) → bytes_eq (f x) (codes "--title") ≡ b → title_from i (map f (drop i words)) ≡ cond b (Some i) (title_from (i + 1) (map f (drop (i + 1) words)))
  next b e =
      ap (λ ws. title_from i (map f ws)) cut
      ∙ ap (λ k. cond k (Some i) (title_from (i + 1) (map f (drop (i + 1) words)))) e
