-- A table's names, as its map has them.
use Rattle.program_reader.proofs.Common.{◌≡◌, ℕ, zero, suc, ◌+◌, Bool, true, false, cond, List, [], ◌∷◌, ◌++◌, length, take, map, refl, ap, sym, ◌∙◌, arith, Bor, nat_lt, ◌||◌, ◌&&◌, Option, Some, None, is_some, position, not, list_any, position_or_len, keys_of, lookup, bytes_eq, IndexMap, insert_entry, insert_entry-new, none_of, above_zero, NotedName, noted_name_of, is_noted, with_name, name_index, numbered_of}

abbrev pub Pairs : Type 0
Pairs = List (Bor (List ℕ) × ℕ)

abbrev pub shown : Pairs → List NotedName
shown es = map (λ e. noted_name_of e.0.now e.1) es

-- the test by which a map looks a name up
abbrev pub is_key : List ℕ → Bor (List ℕ) → Bool
is_key name k = bytes_eq name k.now

place_or_end : (name : List ℕ) (es : Pairs) → position_or_len (is_key name) (keys_of es) ≡ position_or_len (λ e. bytes_eq name e.name) (shown es)
place_or_end name [] = refl
place_or_end name (e ∷ es) = ap (λ n. cond (not (bytes_eq name e.0.now)) (1 + n) 0) (place_or_end name es)

same_length : (es : Pairs) → length (keys_of es) ≡ length (shown es)
same_length [] = refl
same_length (e ∷ es) = ap (λ n. suc n) (same_length es)

pub found_place : (name : List ℕ) (es : Pairs) → position (is_key name) (keys_of es) ≡ name_index (shown es) name
found_place name es = rw (place_or_end name es, same_length es) refl

pub found_number : (name : List ℕ) (es : Pairs) → lookup (is_key name) es ≡ numbered_of (shown es) name
found_number name [] = refl
found_number name (e ∷ es) = ap (λ o. cond (bytes_eq name e.0.now) (Some e.1) o) (found_number name es)

some_or_else : (b : Bool) (n : ℕ) (o : Option ℕ) (r : Bool) → is_some o ≡ r → is_some (cond b (Some n) o) ≡ (b || r)
some_or_else true n o r e = refl
some_or_else false n o r e = e

pub found_any : (name : List ℕ) (es : Pairs) → is_some (lookup (is_key name) es) ≡ is_noted (shown es) name
found_any name [] = refl
found_any name (e ∷ es) = some_or_else (bytes_eq name e.0.now) e.1 (lookup (is_key name) es) (is_noted (shown es) name) (found_any name es)

shown_last : (es : Pairs) (k : Bor (List ℕ)) (number : ℕ) → shown (es ++ (k, number) ∷ []) ≡ shown es ++ noted_name_of k.now number ∷ []
shown_last [] k number = refl
shown_last (e ∷ es) k number = ap (λ xs. noted_name_of e.0.now e.1 ∷ xs) (shown_last es k number)

pub added_last : {S : Type 0} (k : Bor (List ℕ)) (number : ℕ) (m : IndexMap (Bor (List ℕ)) ℕ S) → is_some (lookup (is_key k.now) m.entries) ≡ false → shown (insert_entry (λ x y. bytes_eq x.now y.now) m.entries k number) ≡ with_name (shown m.entries) k.now number
added_last k number m h =
    ap shown (insert_entry-new (λ x y. bytes_eq x.now y.now) m k number (none_of (lookup (is_key k.now) m.entries) h))
    ∙ shown_last m.entries k number
    ∙ ap (λ t. cond t (shown m.entries) (shown m.entries ++ noted_name_of k.now number ∷ [])) (sym (sym (found_any k.now m.entries) ∙ h))

pub kept_all : (name : List ℕ) (number : ℕ) (es : Pairs) → is_some (lookup (is_key name) es) ≡ true → shown es ≡ with_name (shown es) name number
kept_all name number es h = ap (λ t. cond t (shown es) (shown es ++ noted_name_of name number ∷ [])) (sym h ∙ found_any name es)

-- ONE OF THE FIRST n

less_more : (a b : ℕ) → nat_lt (1 + a) (suc b) ≡ nat_lt a b
less_more a b = grind arith

none_less : (b : Bool) → false ≡ (b && false)
none_less true = refl
none_less false = refl

any_more : {X : Type 0} (p : X → Bool) (x : X) (xs : List X) (n : ℕ) (b : Bool) → p x ≡ b → list_any p (take n xs) ≡ (nat_lt (position_or_len p xs) n && nat_lt (position_or_len p xs) (length xs)) → (b || list_any p (take n xs)) ≡ (nat_lt (cond (not b) (1 + position_or_len p xs) 0) (suc n) && nat_lt (cond (not b) (1 + position_or_len p xs) 0) (suc (length xs)))
any_more p x xs n true e h = rw (above_zero n, above_zero (length xs)) refl
any_more p x xs n false e h = rw (less_more (position_or_len p xs) n, less_more (position_or_len p xs) (length xs)) h

any_first : {X : Type 0} (p : X → Bool) (xs : List X) (n : ℕ) → list_any p (take n xs) ≡ (nat_lt (position_or_len p xs) n && nat_lt (position_or_len p xs) (length xs))
any_first p [] zero = refl
any_first p [] (suc n) = none_less (nat_lt 0 (suc n))
any_first p (x ∷ xs) zero = nothing (position_or_len p (x ∷ xs)) (nat_lt (position_or_len p (x ∷ xs)) (length (x ∷ xs)))
  where
    nothing : (n : ℕ) (b : Bool) → false ≡ (nat_lt n 0 && b)
    nothing n b = let e : nat_lt n 0 ≡ false = grind arith in rw e refl
any_first p (x ∷ xs) (suc n) = any_more p x xs n (p x) refl (any_first p xs n)

-- whether an index is below a number
abbrev pub comes_before : Option ℕ → ℕ → Bool
comes_before None n = false
comes_before (Some i) n = nat_lt i n

at_first : (i n l : ℕ) (b : Bool) → nat_lt i l ≡ b → comes_before (cond b (Some i) None) n ≡ (nat_lt i n && b)
at_first i n l true e = grind arith
at_first i n l false e = grind arith

pub noted_before : (es : List NotedName) (name : List ℕ) (n : ℕ) → comes_before (name_index es name) n ≡ is_noted (take n es) name
noted_before es name n = let p : NotedName → Bool = λ e. bytes_eq name e.name in at_first (position_or_len p es) n (length es) (nat_lt (position_or_len p es) (length es)) refl ∙ sym (any_first p es n)
