-- Lines without a fault, and the lines that follow them: what the crates above say of texts by their lines.
use Rattle.program_reader.proofs.Common.{◌≡◌, ◌≤◌, ◌<◌, ◌+◌, ◌++◌, ℕ, Bool, true, false, cond, List, [], ◌∷◌, length, arith, refl, ap, sym, ◌∙◌, ◌&&◌, ◌||◌, true≢false, Option, Some, None, not, nat_le, codes, is_utf8, list_all, and_parts, and_left, take_all, is_last, Instr, Head, Blank, Begin, End, Label, Order, Unknown, Verb, Sense, Fits, Does, WrongOperand, NoSuchFunction, NoSuchLabel, Outline, Labels, NotedName, noted_name_of, is_noted, with_name, name_index, sense_of, only_name, sense_of_name, head_of_line, operands_of_line, is_inside, is_open_after, ends_body, label_line, labels_above, labels_after, labels_onto, noted_if, begins, begun_above, begun_name, orders, orders_above, outline_above, LineContext, spot_of, is_named_in, is_begin, is_misplaced, line_cause, fault_on, first_fault_from, or_later_fault, turned}
use Rattle.program_reader.proofs.Causes.{gives_none, gives_fault}
use Rattle.program_reader.proofs.Steps.{new_name}
use Rattle.program_reader.proofs.Tables.{comes_before, noted_before}

abbrev pub Lines : Type 0
Lines = List (List ℕ)

-- a line without a fault is passed
pub passes : (o : Outline) (above : Lines) (l : List ℕ) (ls : Lines) → fault_on o (spot_of above l ls) l ≡ None → first_fault_from o above (l ∷ ls) ≡ first_fault_from o (l ∷ above) ls
passes o above l ls e = ap (λ c. or_later_fault c (length above + 1) (first_fault_from o (l ∷ above) ls)) e

-- what a line says, and that it is no fault there
module _ (o : Outline) (s : LineContext) (l : List ℕ) (utf8 : is_utf8 l ≡ true) where
  by_sense : (h : Head) (ws : Lines) (x : Sense) → head_of_line l ≡ h → operands_of_line l ≡ ws → sense_of o s.labels h ws ≡ x → line_cause o s h ws x ≡ None → fault_on o s l ≡ None
  by_sense h ws x eh ew ex ef = sym (gives_fault o s l None h ws x utf8 (sym eh) (sym ew) (sym ex) (sym ef))

  shut : (i t : Bool) → i ≡ true → t ≡ false → ((i && false) || (t && i)) ≡ false
  shut i t ei et = rw (ei, et) refl

  shut_last : (i t : Bool) → t ≡ false → ((i && false) || (t && false)) ≡ false
  shut_last i t et = rw et (no_end i)
    where
      no_end : (b : Bool) → ((b && false) || (false && false)) ≡ false
      no_end true = refl
      no_end false = refl

  shut_begin : (i t : Bool) → i ≡ false → t ≡ false → ((i && true) || (t && true)) ≡ false
  shut_begin i t ei et = rw (ei, et) refl

  -- an instruction in a function
  pub order_free : (v : Verb) (i : Instr) → head_of_line l ≡ Order v → sense_of o s.labels (Order v) (operands_of_line l) ≡ Does i → s.inside ≡ true → s.last ≡ false → nat_le 65536 s.orders ≡ false → fault_on o s l ≡ None
  order_free v i eh ex inside last few =
      by_sense (Order v) (operands_of_line l) (Does i) eh refl ex
      (sym (gives_none o s (Order v) (operands_of_line l) (Does i) (ap (λ b. is_misplaced b (Order v)) inside) refl (shut s.inside s.last inside last) refl refl refl (and_left s.last (not (is_noted o.functions (codes "main"))) last) few))

  -- a label in a function
  pub label_free : (name : List ℕ) → head_of_line l ≡ Label → only_name (operands_of_line l) ≡ Some name → s.inside ≡ true → s.last ≡ false → is_noted s.labeled name ≡ false → fault_on o s l ≡ None
  label_free name eh en inside last new =
      by_sense Label (operands_of_line l) Fits eh refl (ap sense_of_name en)
      (sym (gives_none o s Label (operands_of_line l) Fits (ap (λ b. is_misplaced b Label) inside) refl (shut s.inside s.last inside last) (ap (λ n. is_named_in s.labeled n) en ∙ new) refl refl (and_left s.last (not (is_noted o.functions (codes "main"))) last) refl))

  -- the end of a function
  pub end_free : head_of_line l ≡ End → operands_of_line l ≡ [] → s.inside ≡ true → s.last ≡ false → fault_on o s l ≡ None
  end_free eh ew inside last =
      by_sense End [] Fits eh ew refl
      (sym (gives_none o s End [] Fits (ap (λ b. is_misplaced b End) inside) refl (shut_last s.inside s.last last) refl refl refl (and_left s.last (not (is_noted o.functions (codes "main"))) last) refl))

  -- the start of a function
  pub begin_free : (name : List ℕ) → head_of_line l ≡ Begin → only_name (operands_of_line l) ≡ Some name → s.inside ≡ false → s.last ≡ false → is_noted s.named name ≡ false → nat_le 1024 s.begun ≡ false → fault_on o s l ≡ None
  begin_free name eh en outside last new few =
      by_sense Begin (operands_of_line l) Fits eh refl (ap sense_of_name en)
      (sym (gives_none o s Begin (operands_of_line l) Fits (ap (λ b. is_misplaced b Begin) outside) refl (shut_begin s.inside s.last outside last) (ap (λ n. is_named_in s.named n) en ∙ new) refl refl (and_left s.last (not (is_noted o.functions (codes "main"))) last) few))

  -- an empty line after all functions
  pub blank_free : head_of_line l ≡ Blank → operands_of_line l ≡ [] → s.inside ≡ false → is_noted o.functions (codes "main") ≡ true → fault_on o s l ≡ None
  blank_free eh ew outside main =
      by_sense Blank [] Fits eh ew refl
      (sym (gives_none o s Blank [] Fits (ap (λ b. is_misplaced b Blank) outside) refl (stays s.inside s.last outside) refl refl refl (no_lack s.last (is_noted o.functions (codes "main")) main) refl))
    where
      stays : (i t : Bool) → i ≡ false → ((i && false) || (t && i)) ≡ false
      stays i true e = rw e refl
      stays i false e = rw e refl

      no_lack : (t b : Bool) → b ≡ true → (t && not b) ≡ false
      no_lack true b e = rw e refl
      no_lack false b e = refl

-- CONSECUTIVE INSTRUCTIONS

abbrev pub is_order : Head → Bool
is_order (Order v) = true
is_order _ = false

abbrev pub is_instr : Sense → Bool
is_instr (Does i) = true
is_instr _ = false

-- a line is read as an instruction, if these are the labels of its function
abbrev pub is_read : Outline → List NotedName → List ℕ → Bool
is_read o labels l = is_utf8 l && (is_order (head_of_line l) && is_instr (sense_of o labels (head_of_line l) (operands_of_line l)))

some_order : (h : Head) → is_order h ≡ true → (v : Verb) × (h ≡ Order v)
some_order (Order v) e = (v, refl)
some_order Blank e = absurd (true≢false (sym e))
some_order Begin e = absurd (true≢false (sym e))
some_order End e = absurd (true≢false (sym e))
some_order Label e = absurd (true≢false (sym e))
some_order Unknown e = absurd (true≢false (sym e))

some_instr : (x : Sense) → is_instr x ≡ true → (i : Instr) × (x ≡ Does i)
some_instr (Does i) e = (i, refl)
some_instr Fits e = absurd (true≢false (sym e))
some_instr WrongOperand e = absurd (true≢false (sym e))
some_instr NoSuchFunction e = absurd (true≢false (sym e))
some_instr NoSuchLabel e = absurd (true≢false (sym e))

record IsInstruction (o : Outline) (labels : List NotedName) (l : List ℕ) : Type 0 where
  utf8 : is_utf8 l ≡ true
  verb : Verb
  head : head_of_line l ≡ Order verb
  instr : Instr
  sense : sense_of o labels (Order verb) (operands_of_line l) ≡ Does instr

instruction : (o : Outline) (labels : List NotedName) (l : List ℕ) → is_read o labels l ≡ true → IsInstruction o labels l
instruction o labels l e =
    let a = and_parts (is_utf8 l) (is_order (head_of_line l) && is_instr (sense_of o labels (head_of_line l) (operands_of_line l))) e in
    let b = and_parts (is_order (head_of_line l)) (is_instr (sense_of o labels (head_of_line l) (operands_of_line l))) a.1 in
    let v = some_order (head_of_line l) b.0 in
    let i = some_instr (sense_of o labels (head_of_line l) (operands_of_line l)) b.1 in
    record { utf8 = a.0; verb = v.0; head = v.1; instr = i.0; sense = ap (λ h. sense_of o labels h (operands_of_line l)) (sym v.1) ∙ i.1 }

-- the lines above leave a function open, of which these are all labels, and these are those above
pub record Within (labels passed : List NotedName) (above rest : Lines) : Type 0 where
  pub inside : is_inside above ≡ true
  pub known : (labels_onto (labels_above above) rest).entries ≡ labels
  pub behind : (labels_above above).entries ≡ passed

labels_go_on : (h : Head) (ws : Lines) (s : Labels) (ls : Lines) → ends_body h ≡ false → labels_onto (labels_after h ws s) ls ≡ cond (ends_body h) s (labels_onto (label_line h ws s) ls)
labels_go_on Begin ws s ls e = absurd (true≢false e)
labels_go_on End ws s ls e = absurd (true≢false e)
labels_go_on Blank ws s ls e = refl
labels_go_on Label ws s ls e = refl
labels_go_on (Order v) ws s ls e = refl
labels_go_on Unknown ws s ls e = refl

order_more : (labels passed : List NotedName) (above : Lines) (l : List ℕ) (ls : Lines) (v : Verb) → head_of_line l ≡ Order v → Within labels passed above (l ∷ ls) → Within labels passed (l ∷ above) ls
order_more labels passed above l ls v e w = record {
  inside = ap (λ h. is_open_after h (is_inside above)) e ∙ w.inside;
  known = ap (λ s. s.entries) (labels_go_on (head_of_line l) (operands_of_line l) (labels_above above) ls (ap ends_body e)) ∙ w.known;
  behind = ap (λ h. (labels_after h (operands_of_line l) (labels_above above)).entries) e ∙ w.behind;
}

one_order : (l : List ℕ) (v : Verb) → head_of_line l ≡ Order v → orders (head_of_line l) ≡ 1
one_order l v e = ap orders e

not_yet : (k : ℕ) → k < 65536 → nat_le 65536 k ≡ false
not_yet k lt = grind (arith, lt)

pub not_last : (ls rest : Lines) → is_last rest ≡ false → is_last (ls ++ rest) ≡ false
not_last [] rest e = e
not_last (l ∷ ls) rest e = refl

-- n instructions, after which the function is still open
pub record Passed (o : Outline) (labels passed : List NotedName) (above ls rest : Lines) (most : ℕ) : Type 0 where
  pub within : Within labels passed (turned above ls) rest
  pub orders : orders_above (turned above ls) ≤ most
  pub faults : first_fault_from o above (ls ++ rest) ≡ first_fault_from o (turned above ls) rest

pub orders_pass : (o : Outline) (labels passed : List NotedName) (ls above rest : Lines) (most : ℕ) → list_all (is_read o labels) ls ≡ true → Within labels passed above (ls ++ rest) → orders_above above + length ls ≤ most → most ≤ 65536
    → is_last rest ≡ false → Passed o labels passed above ls rest most
orders_pass o labels passed [] above rest most all w few le last = record { within = w; orders = omega (arith, few); faults = refl }
orders_pass o labels passed (l ∷ ls) above rest most all w few le last =
    let both = and_parts (is_read o labels l) (list_all (is_read o labels) ls) all in
    let i = instruction o labels l both.0 in
    let one = one_order l i.verb i.head in
    let lt : orders_above above < 65536 = omega (arith, few, le) in
    let here : fault_on o (spot_of above l (ls ++ rest)) l ≡ None =
    order_free o (spot_of above l (ls ++ rest)) l i.utf8 i.verb i.instr i.head (ap (λ es. sense_of o es (Order i.verb) (operands_of_line l)) w.known ∙ i.sense) w.inside (not_last ls rest last) (not_yet (orders_above above) lt) in
    let more = orders_pass o labels passed ls (l ∷ above) rest most both.1 (order_more labels passed above l (ls ++ rest) i.verb i.head w) (omega (arith, few, one)) le last in
    record { within = more.within; orders = more.orders; faults = passes o above l (ls ++ rest) here ∙ more.faults }

-- A LABEL

pub record Marked (o : Outline) (labels passed : List NotedName) (name : List ℕ) (above : Lines) (l : List ℕ) (rest : Lines) : Type 0 where
  pub number : ℕ
  pub within : Within labels (with_name passed name number) (l ∷ above) rest
  pub orders : orders_above (l ∷ above) ≤ orders_above above
  pub faults : first_fault_from o above (l ∷ rest) ≡ first_fault_from o (l ∷ above) rest

pub label_passes : (o : Outline) (labels passed : List NotedName) (name : List ℕ) (above : Lines) (l : List ℕ) (rest : Lines) → is_utf8 l ≡ true → head_of_line l ≡ Label → only_name (operands_of_line l) ≡ Some name
    → Within labels passed above (l ∷ rest) → is_noted passed name ≡ false → is_last rest ≡ false → Marked o labels passed name above l rest
label_passes o labels passed name above l rest utf8 eh en w new last = record {
  number = (labels_above above).next;
  within = record {
    inside = ap (λ h. is_open_after h (is_inside above)) eh ∙ w.inside;
    known = ap (λ s. s.entries) (labels_go_on (head_of_line l) (operands_of_line l) (labels_above above) rest (ap ends_body eh)) ∙ w.known;
    behind =
        ap (λ h. (labels_after h (operands_of_line l) (labels_above above)).entries) eh
        ∙ ap (λ n. noted_if (labels_above above).entries n (labels_above above).next) en
        ∙ ap (λ es. with_name es name (labels_above above).next) w.behind;
  };
  orders = let none : orders (head_of_line l) ≡ 0 = ap orders eh in omega (arith, none);
  faults = passes o above l rest (label_free o (spot_of above l rest) l utf8 name eh en w.inside last (ap (λ es. is_noted es name) w.behind ∙ new));
}

-- LINES THAT BEGIN NO FUNCTION

abbrev pub begins_none : List ℕ → Bool
begins_none l = not (is_begin (head_of_line l))

-- what they leave unchanged
pub record Kept (above ls : Lines) : Type 0 where
  pub begun : begun_above (turned above ls) ≡ begun_above above
  pub functions : (outline_above (turned above ls)).functions ≡ (outline_above above).functions
  pub orders : orders_above (turned above ls) ≤ orders_above above + length ls

none_begun : (h : Head) → not (is_begin h) ≡ true → begins h ≡ 0
none_begun Begin e = absurd (true≢false (sym e))
none_begun Blank e = refl
none_begun End e = refl
none_begun Label e = refl
none_begun (Order v) e = refl
none_begun Unknown e = refl

none_named : (h : Head) (ws : Lines) → not (is_begin h) ≡ true → begun_name h ws ≡ None
none_named Begin ws e = absurd (true≢false (sym e))
none_named Blank ws e = refl
none_named End ws e = refl
none_named Label ws e = refl
none_named (Order v) ws e = refl
none_named Unknown ws e = refl

one_at_most : (h : Head) → orders h ≤ 1
one_at_most Blank = omega arith
one_at_most Begin = omega arith
one_at_most End = omega arith
one_at_most Label = omega arith
one_at_most (Order v) = omega arith
one_at_most Unknown = omega arith

pub none_begin : (ls above : Lines) → list_all begins_none ls ≡ true → Kept above ls
none_begin [] above all = record { begun = refl; functions = refl; orders = omega arith }
none_begin (l ∷ ls) above all =
    let both = and_parts (begins_none l) (list_all begins_none ls) all in
    let more = none_begin ls (l ∷ above) both.1 in
    let none = none_begun (head_of_line l) both.0 in
    let most = one_at_most (head_of_line l) in
    record {
      begun = omega (arith, more.begun, none);
      functions = more.functions ∙ ap (λ n. noted_if (outline_above above).functions n (length above + 1)) (none_named (head_of_line l) (operands_of_line l) both.0);
      orders = omega (arith, more.orders, most);
    }

-- A NAME THAT IS NOTED HAS AN INDEX

pub some_place : (r : Option ℕ) (n : ℕ) → comes_before r n ≡ true → (k : ℕ) × (r ≡ Some k)
some_place None n e = absurd (true≢false (sym e))
some_place (Some k) n e = (k, refl)

pub has_place : (es : List NotedName) (name : List ℕ) → is_noted es name ≡ true → (k : ℕ) × (name_index es name ≡ Some k)
has_place es name h =
    some_place (name_index es name) (length es) (noted_before es name (length es) ∙ ap (λ xs. is_noted xs name) (take_all (length es) es (omega arith)) ∙ h)

-- a name that isn't noted yet is noted after the others
pub new_entry : (es : List NotedName) (name : List ℕ) (number : ℕ) → is_noted es name ≡ false → with_name es name number ≡ es ++ noted_name_of name number ∷ []
new_entry es name number e = new_name es name number e
