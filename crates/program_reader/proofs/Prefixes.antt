-- What the lines above make is a prefix of what all lines make.
use Rattle.program_reader.proofs.Common.{◌≡◌, ◌+◌, ◌++◌, ℕ, Bool, true, false, cond, List, [], ◌∷◌, length, take, refl, ap, sym, ◌∙◌, append_assoc, Option, Some, None, append-nil, Head, Label, Outline, Labels, NotedName, is_noted, only_name, head_of_line, operands_of_line, begun_name, noted_if, outline_line, outline_onto, label_line, labels_onto, ends_body}

-- ys begins with xs
abbrev pub BeginsWith : List NotedName → List NotedName → Type 0
BeginsWith xs ys = (more : List NotedName) × (ys ≡ xs ++ more)

begins_with_itself : (xs : List NotedName) → BeginsWith xs xs
begins_with_itself xs = ([], sym (append-nil xs))

through : (xs ys zs : List NotedName) → BeginsWith xs ys → BeginsWith ys zs → BeginsWith xs zs
through xs ys zs h k = (h.0 ++ k.0, k.1 ∙ ap (λ l. l ++ k.0) h.1 ∙ append_assoc xs h.0 k.0)

noted_on : (es : List NotedName) (e : NotedName) (b : Bool) → BeginsWith es (cond b es (es ++ e ∷ []))
noted_on es e true = begins_with_itself es
noted_on es e false = (e ∷ [], refl)

noted_if_on : (es : List NotedName) (name : Option (List ℕ)) (n : ℕ) → BeginsWith es (noted_if es name n)
noted_if_on es None n = begins_with_itself es
noted_if_on es (Some name) n = noted_on es (record { name = name; number = n }) (is_noted es name)

pub functions_on : (n : ℕ) (o : Outline) (ls : List (List ℕ)) → BeginsWith o.functions (outline_onto n o ls).functions
functions_on n o [] = begins_with_itself o.functions
functions_on n o (l ∷ ls) = through o.functions (outline_line n o l).functions (outline_onto (n + 1) (outline_line n o l) ls).functions (noted_if_on o.functions (begun_name (head_of_line l) (operands_of_line l)) n) (functions_on (n + 1) (outline_line n o l) ls)

label_line_on : (h : Head) (ws : List (List ℕ)) (s : Labels) → BeginsWith s.entries (label_line h ws s).entries
label_line_on Label ws s = noted_if_on s.entries (only_name ws) s.next
label_line_on _ ws s = begins_with_itself s.entries

labels_by : (b : Bool) (s t : Labels) → BeginsWith s.entries t.entries → BeginsWith s.entries (cond b s t).entries
labels_by true s t h = begins_with_itself s.entries
labels_by false s t h = h

pub labels_on : (s : Labels) (ls : List (List ℕ)) → BeginsWith s.entries (labels_onto s ls).entries
labels_on s [] = begins_with_itself s.entries
labels_on s (l ∷ ls) =
    let next = label_line (head_of_line l) (operands_of_line l) s in
    labels_by (ends_body (head_of_line l)) s (labels_onto next ls) (through s.entries next.entries (labels_onto next ls).entries (label_line_on (head_of_line l) (operands_of_line l) s) (labels_on next ls))

take_front : (xs more : List NotedName) → take (length xs) (xs ++ more) ≡ xs
take_front [] more = refl
take_front (x ∷ xs) more = ap (λ l. x ∷ l) (take_front xs more)

pub first_are : (xs ys : List NotedName) (n : ℕ) → BeginsWith xs ys → length xs ≡ n → take n ys ≡ xs
first_are xs ys n h e = ap (λ k. take k ys) (sym e) ∙ ap (take (length xs)) h.1 ∙ take_front xs h.0
