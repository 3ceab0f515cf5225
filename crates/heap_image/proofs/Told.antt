-- The lines of a picture's text say all of it.
use Rattle.heap_image.proofs.Common.{◌≡◌, ℕ, List, [], ◌∷◌, ◌++◌, length, map, refl, ap, sym, ◌∙◌, inl, inr, append_assoc, append-nil, flat_map, is_utf8-from_IsUtf8, IsUtf8-nil, In, lines_of, line_first, ImageLine, Nothing, Title, OfTask, OfChunk, OfRemembered, OfEnd, line_meaning, IsLong, line, title_words, task_words, chunk_words, object_words, field_words, end_words, task_line, chunk_line, object_line, field_line, object_said, PicturesAreRead}
use Rattle.heap_image.proofs.Lines.{Tells, line_tells, title_tells, task_tells, chunk_tells, object_tells, field_tells, end_tells}

-- all that the lines of a text say
abbrev pub said_in : List ℕ → List ImageLine
said_in text = map line_meaning (lines_of text)

nothing_behind : said_in [] ≡ Nothing ∷ []
nothing_behind = ap (λ s. s ∷ []) (rw (is_utf8-from_IsUtf8 [] IsUtf8-nil) refl)

first_said : (ws : List (List ℕ)) (s : ImageLine) (rest : List ℕ) → Tells ws s → said_in (line ws ++ rest) ≡ s ∷ said_in rest
first_said ws s rest t = ap (map line_meaning) (line_first ws rest t.proper) ∙ ap (λ x. x ∷ said_in rest) (line_tells ws s t)

-- a line for each item
items_said : {X : Type 0} (words : X → List (List ℕ)) (say : X → ImageLine) (xs : List X) (rest : List ℕ) → ((x : X) → In xs x → Tells (words x) (say x))
    → said_in (flat_map (λ x. line (words x)) xs ++ rest) ≡ map say xs ++ said_in rest
items_said words say [] rest h = refl
items_said words say (x ∷ xs) rest h =
    ap said_in (append_assoc (line (words x)) (flat_map (λ y. line (words y)) xs) rest)
    ∙ first_said (words x) (say x) (flat_map (λ y. line (words y)) xs ++ rest) (h x (inl refl))
    ∙ ap (λ ss. say x ∷ ss) (items_said words say xs rest (λ y i. h y (inr i)))

five_behind : {A : Type 0} (a b c d e f : List A) → a ++ b ++ c ++ d ++ e ++ f ≡ a ++ (b ++ (c ++ (d ++ (e ++ f))))
five_behind a b c d e f = simp append_assoc

pub six_behind : {A : Type 0} (a b c d e f g : List A) → (a ++ b ++ c ++ d ++ e ++ f) ++ g ≡ a ++ (b ++ (c ++ (d ++ (e ++ (f ++ g)))))
six_behind a b c d e f g = simp append_assoc

-- the line of the end
abbrev end_line : ℕ → List ℕ
end_line n = line (end_words n)

end_said : (n : ℕ) → IsLong n → said_in (end_line n) ≡ OfEnd n ∷ Nothing ∷ []
end_said n few =
    ap said_in (sym (append-nil (end_line n)))
    ∙ first_said (end_words n) (OfEnd n) [] (end_tells n few)
    ∙ ap (λ ss. OfEnd n ∷ ss) nothing_behind

pub pictures_are_read : PicturesAreRead
pictures_are_read p h few =
    ap said_in (five_behind (line title_words) (flat_map task_line p.tasks) (flat_map chunk_line p.chunks) (flat_map object_line p.objects) (flat_map field_line p.fields) (end_line (length p.objects)))
    ∙ first_said title_words Title (flat_map task_line p.tasks ++ (flat_map chunk_line p.chunks ++ (flat_map object_line p.objects ++ (flat_map field_line p.fields ++ (end_line (length p.objects)))))) title_tells
    ∙ ap (λ ss. Title ∷ ss) (items_said task_words OfTask p.tasks (flat_map chunk_line p.chunks ++ (flat_map object_line p.objects ++ (flat_map field_line p.fields ++ (end_line (length p.objects))))) (λ t i. task_tells t (h.tasks t i)))
    ∙ ap (λ ss. Title ∷ (map OfTask p.tasks ++ ss)) (items_said chunk_words OfChunk p.chunks (flat_map object_line p.objects ++ (flat_map field_line p.fields ++ (end_line (length p.objects)))) (λ c i. chunk_tells c (h.chunks c i)))
    ∙ ap (λ ss. Title ∷ (map OfTask p.tasks ++ (map OfChunk p.chunks ++ ss))) (items_said object_words object_said p.objects (flat_map field_line p.fields ++ (end_line (length p.objects))) (λ o i. object_tells o (h.objects o i)))
    ∙ ap (λ ss. Title ∷ (map OfTask p.tasks ++ (map OfChunk p.chunks ++ (map object_said p.objects ++ ss)))) (items_said field_words OfRemembered p.fields (end_line (length p.objects)) (λ f i. field_tells f (h.fields f i)))
    ∙ ap (λ ss. Title ∷ (map OfTask p.tasks ++ (map OfChunk p.chunks ++ (map object_said p.objects ++ (map OfRemembered p.fields ++ ss))))) (end_said (length p.objects) few)
    ∙ sym (six_behind (Title ∷ []) (map OfTask p.tasks) (map OfChunk p.chunks) (map object_said p.objects) (map OfRemembered p.fields) (OfEnd (length p.objects) ∷ []) (Nothing ∷ []))
