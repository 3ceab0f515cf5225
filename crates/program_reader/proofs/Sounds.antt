-- What was read so far is in range, and has the names that the lines give.
use Rattle.program_reader.proofs.Common.{◌≡◌, ◌<◌, ◌≤◌, ◌+◌, ◌++◌, ◌^◌, ℕ, Bool, true, false, cond, List, [], ◌∷◌, length, map, take, arith, refl, ap, sym, subst, ◌∙◌, Option, Some, None, ◌&&◌, All, All-nil, All-push, both_ways, map-append, length_push, Ret, Line, Fun, NamesExist, IsFunction, EndsWithReturn, Head, Blank, Begin, End, Label, Order, Unknown, Sense, Fits, Does, WrongOperand, NoSuchFunction, NoSuchLabel, Outline, Reader, NotedName, is_noted, only_name, sense_of_name, noted_if, begun_name, outline_above, labels_after, labels_above, labels_onto, ends_body, is_named_in, has_wrong_operand, names_no_function, names_no_label, line_of, spot_in, after_begin, after_end, after_order, after_line}
use Rattle.program_reader.proofs.Causes.{IsFaultless}
use Rattle.program_reader.proofs.Ranges.{all_functions, IsInRange}
use Rattle.program_reader.proofs.Spots.{Follows, first_named}
use Rattle.program_reader.proofs.Steps.{Told, wrong_none, outside_begin, inside_end, unknown_never, new_name}

abbrev pub fun_names : List Fun → List (List ℕ)
fun_names fs = map (λ f. f.name) fs

abbrev pub entry_names : List NotedName → List (List ℕ)
entry_names es = map (λ e. e.name) es

-- the names of the functions so far, the open one included
abbrev pub names_so_far : Reader → List (List ℕ)
names_so_far r = cond r.inside (fun_names r.done ++ r.name ∷ []) (fun_names r.done)

-- an instruction of the open function
abbrev pub InRange : Outline → Reader → Line → Type 0
InRange o r l = NamesExist (all_functions o) (r.labels.next + 1) l.instr

pub record Sound (o : Outline) (r : Reader) (es : List NotedName) (next : ℕ) (lines : ℕ) : Type 0 where
  pub names : names_so_far r ≡ entry_names es
  pub done : All (IsFunction (all_functions o)) r.done
  pub code : r.inside ≡ true → All (InRange o r) r.code
  pub placed : r.inside ≡ true → length r.code ≡ next
  pub short : length r.code ≤ lines
  pub begun : r.begun ≤ lines
  pub labeled : r.labeled ≤ lines
  pub orders : r.orders ≤ lines

abbrev pub SoundAt : Outline → Reader → List (List ℕ) → Type 0
SoundAt o r above = Sound o r (outline_above above).functions (labels_above above).next (length above)

ends : (code : List Line) (n : ℕ) → EndsWithReturn (code ++ line_of Ret n ∷ [])
ends [] n = tt
ends (l ∷ []) n = tt
ends (l ∷ m ∷ ls) n = ends (m ∷ ls) n

module _ (o : Outline) (r : Reader) (above : List (List ℕ)) (l : List ℕ) (ls : List (List ℕ)) (n : ℕ) (last : Bool) (f : Follows o r above (l ∷ ls)) (g : SoundAt o r above) (few : length above < 2 ^ 31) (ws : List (List ℕ)) (x : Sense) where
  begin_sound : (name : Option (List ℕ)) → r.inside ≡ false → x ≡ sense_of_name name → has_wrong_operand x ≡ false → is_named_in (take r.begun o.functions) name ≡ false → Sound o (after_begin r name ls) (noted_if (outline_above above).functions name (length above + 1)) 0 (length above + 1)
  begin_sound None i e w a = absurd (wrong_none x e w)
  begin_sound (Some name) i e w a =
      let fresh : is_noted (outline_above above).functions name ≡ false = ap (λ es. is_noted es name) (sym (first_named o r above (l ∷ ls) f)) ∙ a in
      let entry : NotedName = record { name = name; number = length above + 1 } in
      let before : fun_names r.done ≡ entry_names (outline_above above).functions = ap (λ b. cond b (fun_names r.done ++ r.name ∷ []) (fun_names r.done)) (sym i) ∙ g.names in
      record {
        names = ap (λ ns. ns ++ name ∷ []) before ∙ sym (map-append (λ (e : NotedName). e.name) (outline_above above).functions (entry ∷ [])) ∙ ap entry_names (sym (new_name (outline_above above).functions name (length above + 1) fresh));
        done = g.done;
        code = λ t. All-nil (InRange o (after_begin r (Some name) ls));
        placed = λ t. refl;
        short = omega arith;
        begun = omega (arith, g.begun);
        labeled = omega arith;
        orders = omega (arith, g.orders);
      }

  end_sound : r.inside ≡ true → r.labels ≡ labels_above above → Sound o (after_end r n) (outline_above above).functions (labels_above above).next (length above + 1)
  end_sound i stop =
      let code = r.code ++ line_of Ret n ∷ [] in
      let fun : Fun = record { name = r.name; code = code } in
      let before : fun_names r.done ++ r.name ∷ [] ≡ entry_names (outline_above above).functions = ap (λ b. cond b (fun_names r.done ++ r.name ∷ []) (fun_names r.done)) (sym i) ∙ g.names in
      let size : length code ≡ length r.code + 1 = length_push r.code (line_of Ret n) in
      let next : r.labels.next + 1 ≡ length code = ap (λ s. s.next + 1) stop ∙ ap (λ k. k + 1) (sym (g.placed i)) ∙ sym size in
      let sense_of_name : All (λ m. NamesExist (all_functions o) (length code) m.instr) code = subst (λ k. All (λ m. NamesExist (all_functions o) k m.instr) code) next (All-push (InRange o r) r.code (line_of Ret n) (g.code i) tt) in
      let function : IsFunction (all_functions o) fun = record { sized = omega (arith, size, g.short, few); names = sense_of_name; ends = ends r.code n } in
      record {
        names = map-append (λ (u : Fun). u.name) r.done (fun ∷ []) ∙ before;
        done = All-push (IsFunction (all_functions o)) r.done fun g.done function;
        code = λ t. absurd (both_ways false refl t);
        placed = λ t. absurd (both_ways false refl t);
        short = omega arith;
        begun = omega (arith, g.begun);
        labeled = omega (arith, g.labeled);
        orders = omega (arith, g.orders);
      }

  order_sound : (y : Sense) → IsInRange (all_functions o) (r.labels.next + 1) y → has_wrong_operand y ≡ false → names_no_function y ≡ false → names_no_label y ≡ false → Sound o (after_order r y n) (outline_above above).functions ((labels_above above).next + 1) (length above + 1)
  order_sound (Does i) t w a b = record {
    names = g.names;
    done = g.done;
    code = λ e. All-push (InRange o r) r.code (line_of i n) (g.code e) t;
    placed = λ e. length_push r.code (line_of i n) ∙ ap (λ k. k + 1) (g.placed e);
    short = omega (arith, length_push r.code (line_of i n), g.short);
    begun = omega (arith, g.begun);
    labeled = omega (arith, g.labeled);
    orders = omega (arith, g.orders);
  }
  order_sound Fits t w a b = absurd t
  order_sound WrongOperand t w a b = absurd (both_ways true w refl)
  order_sound NoSuchFunction t w a b = absurd (both_ways true a refl)
  order_sound NoSuchLabel t w a b = absurd (both_ways true b refl)

  pub sound_more : (h : Head) → (ends_body h ≡ true → labels_onto (labels_above above) (l ∷ ls) ≡ labels_above above) → Told o r.labels h ws x → IsFaultless o (spot_in o r last) h ws x
      → Sound o (after_line r h ws x n ls) (noted_if (outline_above above).functions (begun_name h ws) (length above + 1)) (labels_after h ws (labels_above above)).next (length above + 1)
  sound_more Blank stop t q = record { names = g.names; done = g.done; code = g.code; placed = g.placed; short = omega (arith, g.short); begun = omega (arith, g.begun); labeled = omega (arith, g.labeled); orders = omega (arith, g.orders) }
  sound_more Begin stop t q = begin_sound (only_name ws) (outside_begin r.inside (last && true) q.no_end) t q.operand q.two_names
  sound_more End stop t q = let i = inside_end r.inside q.known in end_sound i ((f.opened i).labels ∙ stop refl)
  sound_more Label stop t q = record { names = g.names; done = g.done; code = g.code; placed = g.placed; short = omega (arith, g.short); begun = omega (arith, g.begun); labeled = omega (arith, g.labeled); orders = omega (arith, g.orders) }
  sound_more (Order v) stop t q = order_sound x t q.operand q.no_name q.no_label
  sound_more Unknown stop t q = absurd (unknown_never r.inside q.known)
