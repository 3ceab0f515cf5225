-- Texts in which quotes and brackets balance.
use Rattle.quoted_text.proofs.Common.{◌≡◌, ◌+◌, ◌/◌, ◌%◌, ◌==◌, ℕ, Bool, true, false, List, [], ◌∷◌, ◌++◌, refl, ap, ◌∙◌, arith, nat_lt, flat_map, hex, escaped, ScanState, Outside, Inside, read_outside, read_inside, read_byte, read_all, IsBalanced, is_plain, QuotedBalance, PlainBalance, JoinedBalance}

pub read_on : (r : ScanState) (a b : List ℕ) → read_all r (a ++ b) ≡ read_all (read_all r a) b
read_on r [] b = refl
read_on r (c ∷ cs) b = read_on (read_byte r c) cs b

-- STRINGS

-- a hexadecimal digit continues a string
hex_inside : (n : ℕ) (ws : List ℕ) → read_inside (hex n) ws ≡ Inside ws
hex_inside n ws = hex_inside_by_cases (nat_lt n 10) refl
  where
    hex_inside_by_cases : (b : Bool) → nat_lt n 10 ≡ b → read_inside (hex n) ws ≡ Inside ws
    hex_inside_by_cases true e =
        let quote : ((n + 48) == 34) ≡ false = grind arith in
        let stroke : ((n + 48) == 92) ≡ false = grind (arith, e) in
        let control : nat_lt (n + 48) 32 ≡ false = grind arith in
        rw (e, quote, stroke, control) refl
    hex_inside_by_cases false e =
        let quote : ((n + 87) == 34) ≡ false = grind arith in
        let stroke : ((n + 87) == 92) ≡ false = grind (arith, e) in
        let control : nat_lt (n + 87) 32 ≡ false = grind arith in
        rw (e, quote, stroke, control) refl

escaped_inside : (c : ℕ) (ws : List ℕ) → read_all (Inside ws) (escaped c) ≡ Inside ws
escaped_inside c ws = by_quote (c == 34) refl
  where
    by_control : (b : Bool) → (c == 34) ≡ false → (c == 92) ≡ false → nat_lt c 32 ≡ b → read_all (Inside ws) (escaped c) ≡ Inside ws
    by_control true e f g = rw (e, f, g) (ap (λ r. read_byte r (hex (c % 16))) (hex_inside (c / 16) ws) ∙ hex_inside (c % 16) ws)
    by_control false e f g = rw (e, f, g) rw (e, f, g) refl

    by_stroke : (b : Bool) → (c == 34) ≡ false → (c == 92) ≡ b → read_all (Inside ws) (escaped c) ≡ Inside ws
    by_stroke true e f = rw (e, f) refl
    by_stroke false e f = by_control (nat_lt c 32) e f refl

    by_quote : (b : Bool) → (c == 34) ≡ b → read_all (Inside ws) (escaped c) ≡ Inside ws
    by_quote true e = rw e refl
    by_quote false e = by_stroke (c == 92) e refl

all_inside : (word ws : List ℕ) → read_all (Inside ws) (flat_map escaped word) ≡ Inside ws
all_inside [] ws = refl
all_inside (c ∷ cs) ws =
    read_on (Inside ws) (escaped c) (flat_map escaped cs)
    ∙ ap (λ r. read_all r (flat_map escaped cs)) (escaped_inside c ws)
    ∙ all_inside cs ws

pub quoted_balance : QuotedBalance
quoted_balance word ws =
    read_on (Inside ws) (flat_map escaped word) (34 ∷ [])
    ∙ ap (λ r. read_all r (34 ∷ [])) (all_inside word ws)

-- PLAIN TEXTS

plain_outside : (c : ℕ) (ws : List ℕ) → is_plain c ≡ true → read_outside c ws ≡ Outside ws
plain_outside c ws h =
    let quote : (c == 34) ≡ false = grind (arith, h) in
    let bracket : (c == 91) ≡ false = grind (arith, h) in
    let shut : (c == 93) ≡ false = grind (arith, h) in
    let brace : (c == 123) ≡ false = grind (arith, h) in
    let end : (c == 125) ≡ false = grind (arith, h) in
    rw (quote, bracket, brace, shut, end) refl

pub plain_balance : PlainBalance
plain_balance [] h ws = refl
plain_balance (c ∷ cs) h ws = ap (λ r. read_all r cs) (plain_outside c ws h.0) ∙ plain_balance cs h.1 ws

-- PARTS

bracketed : (first shut : ℕ) → ((ws : List ℕ) → read_outside first ws ≡ Outside (shut ∷ ws)) → ((ws : List ℕ) → read_outside shut (shut ∷ ws) ≡ Outside ws)
    → (a : List ℕ) → IsBalanced a → IsBalanced (first ∷ (a ++ shut ∷ []))
bracketed first shut opens shuts a h ws =
    ap (λ r. read_all r (a ++ shut ∷ [])) (opens ws)
    ∙ read_on (Outside (shut ∷ ws)) a (shut ∷ [])
    ∙ ap (λ r. read_all r (shut ∷ [])) (h (shut ∷ ws))
    ∙ shuts ws

pub joined : (a b : List ℕ) → IsBalanced a → IsBalanced b → IsBalanced (a ++ b)
joined a b h k ws = read_on (Outside ws) a b ∙ ap (λ r. read_all r b) (h ws) ∙ k ws

pub joined_balance : JoinedBalance
joined_balance = record {
  nothing = λ ws. refl;
  joined = joined;
  brackets = bracketed 91 93 (λ ws. refl) (λ ws. refl);
  braces = bracketed 123 125 (λ ws. refl) (λ ws. refl);
}
