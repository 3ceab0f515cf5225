-- How the text of an event is put together.
use Rattle.run_timeline.proofs.Common.{◌≡◌, ℕ, List, [], ◌∷◌, ◌++◌, ap, sym, ◌∙◌, append_assoc, append-nil, codes, decimal, quoted, Members, Number, Word, NoMember, Member, json, further, first_members, more_members, first_member, more_member, event, arguments, end_time, middle_time, span, arrow_begins, arrow_ends, event_head, span_head}

-- the members that all events have, and those of its own
event_text : (name category phase : List ℕ) (time lane : ℕ) (more : Members)
    → json (event name category phase time lane more) ≡ event_head name category phase time lane ++ (more_members more ++ 125 ∷ [])
event_text name category phase time lane more =
    flat (123 ∷ []) (58 ∷ []) (44 ∷ []) (125 ∷ [])
    (quoted (codes "name")) (quoted name) (quoted (codes "cat")) (quoted category) (quoted (codes "ph")) (quoted phase) (quoted (codes "ts")) (decimal time)
    (quoted (codes "pid")) (decimal 1) (quoted (codes "tid")) (decimal lane) (more_members more)
  where
    flat : (o s y z a b c d e f g h i j k l m : List ℕ)
        → o ++ ((a ++ (s ++ (b ++ (y ++ (c ++ (s ++ (d ++ (y ++ (e ++ (s ++ (f ++ (y ++ (g ++ (s ++ (h ++ (y ++ (i ++ (s ++ (j ++ (y ++ (k ++ (s ++ (l ++ m))))))))))))))))))))))) ++ z)
        ≡ (o ++ ((a ++ (s ++ b)) ++ (y ++ (c ++ (s ++ d))) ++ (y ++ (e ++ (s ++ f))) ++ (y ++ (g ++ (s ++ h))) ++ (y ++ (i ++ (s ++ j))) ++ (y ++ (k ++ (s ++ l))))) ++ (m ++ z)
    flat o s y z a b c d e f g h i j k l m = simp append_assoc

module _ (name category phase : List ℕ) (time lane : ℕ) where
  -- an event behind a comma: its head, and the members of its own
  pub event_made : (more : Members) (before a b c : List ℕ) → a ≡ before ++ 44 ∷ 10 ∷ [] → b ≡ a ++ event_head name category phase time lane → c ≡ b ++ (more_members more ++ 125 ∷ [])
      → c ≡ before ++ further (event name category phase time lane more)
  event_made more before a b c ea eb ec =
      ec ∙ ap (λ x. x ++ (more_members more ++ 125 ∷ [])) (eb ∙ ap (λ x. x ++ event_head name category phase time lane) ea)
      ∙ four before (event_head name category phase time lane) (more_members more ++ 125 ∷ [])
      ∙ ap (λ x. before ++ 44 ∷ 10 ∷ x) (sym (event_text name category phase time lane more))
    where
      four : (z a b : List ℕ) → ((z ++ 44 ∷ 10 ∷ []) ++ a) ++ b ≡ z ++ 44 ∷ 10 ∷ (a ++ b)
      four z a b = simp append_assoc

-- an event whose own members are a number alone
pub numbered : (name : List ℕ) (n : ℕ) (before a b : List ℕ) → a ≡ before ++ more_member name (Number n) → b ≡ a ++ 125 ∷ [] → b ≡ before ++ (more_members (Member name (Number n) NoMember) ++ 125 ∷ [])
numbered name n before a b ea eb = eb ∙ ap (λ x. x ++ 125 ∷ []) ea ∙ three before (quoted name) (decimal n)
  where
    three : (z a b : List ℕ) → (z ++ 44 ∷ (a ++ 58 ∷ b)) ++ 125 ∷ [] ≡ z ++ (44 ∷ (a ++ 58 ∷ (b ++ [])) ++ 125 ∷ [])
    three z a b = simp (append_assoc, append-nil)

-- arguments of two numbers, and the end of the event
pub two_made : (x y : List ℕ) (n m : ℕ) (before a b c d : List ℕ) → a ≡ before ++ codes ",\"args\":{" → b ≡ a ++ first_member x (Number n) → c ≡ b ++ more_member y (Number m) → d ≡ c ++ codes "}}"
    → d ≡ before ++ more_members (arguments (Member x (Number n) (Member y (Number m) NoMember))) ++ 125 ∷ []
two_made x y n m before a b c d ea eb ec ed =
    ed ∙ ap (λ z. z ++ codes "}}") (ec ∙ ap (λ z. z ++ more_member y (Number m)) (eb ∙ ap (λ z. z ++ first_member x (Number n)) ea))
    ∙ five (123 ∷ []) (58 ∷ []) (44 ∷ []) (125 ∷ []) before (quoted (codes "args")) (quoted x) (decimal n) (quoted y) (decimal m)
  where
    five : (o s y z b r p d q e : List ℕ) → (((b ++ (y ++ (r ++ (s ++ o)))) ++ (p ++ (s ++ d))) ++ (y ++ (q ++ (s ++ e)))) ++ (z ++ z)
        ≡ (b ++ (y ++ (r ++ (s ++ ((o ++ ((p ++ (s ++ (d ++ (y ++ (q ++ (s ++ (e ++ []))))))) ++ z)) ++ []))))) ++ z
    five o s y z b r p d q e = simp (append_assoc, append-nil)

-- arguments of one word, and the end of the event
pub word_made : (x w : List ℕ) (before a b c : List ℕ) → a ≡ before ++ codes ",\"args\":{" → b ≡ a ++ first_member x (Word w) → c ≡ b ++ codes "}}"
    → c ≡ before ++ (more_members (arguments (Member x (Word w) NoMember)) ++ 125 ∷ [])
word_made x w before a b c ea eb ec =
    ec ∙ ap (λ z. z ++ codes "}}") (eb ∙ ap (λ z. z ++ first_member x (Word w)) ea)
    ∙ three (123 ∷ []) (58 ∷ []) (44 ∷ []) (125 ∷ []) before (quoted (codes "args")) (quoted x) (quoted w)
  where
    three : (o s y z b r p d : List ℕ) → ((b ++ (y ++ (r ++ (s ++ o)))) ++ (p ++ (s ++ d))) ++ (z ++ z)
        ≡ b ++ ((y ++ (r ++ (s ++ ((o ++ ((p ++ (s ++ (d ++ []))) ++ z)) ++ [])))) ++ z)
    three o s y z b r p d = simp (append_assoc, append-nil)

-- an event with no comma in front
pub first_made : (name category phase : List ℕ) (time lane : ℕ) (more : Members) (before a b : List ℕ) → a ≡ before ++ event_head name category phase time lane → b ≡ a ++ (more_members more ++ 125 ∷ [])
    → b ≡ before ++ json (event name category phase time lane more)
first_made name category phase time lane more before a b ea eb =
    eb ∙ ap (λ z. z ++ (more_members more ++ 125 ∷ [])) ea
    ∙ append_assoc before (event_head name category phase time lane) (more_members more ++ 125 ∷ [])
    ∙ ap (λ z. before ++ z) (sym (event_text name category phase time lane more))

-- a span: its head with its number, and the members of its own
pub span_made : (phase name category : List ℕ) (id n lane : ℕ) (more : Members) (before a b : List ℕ) → a ≡ before ++ span_head phase name category id n lane → b ≡ a ++ (more_members more ++ 125 ∷ [])
    → b ≡ before ++ further (span phase name category id n lane more)
span_made phase name category id n lane more before a b ea eb =
    eb ∙ ap (λ z. z ++ (more_members more ++ 125 ∷ [])) ea
    ∙ four before (event_head name category phase (end_time n) lane) (quoted (codes "id")) (decimal id) (more_members more)
    ∙ ap (λ z. before ++ 44 ∷ 10 ∷ z) (sym (event_text name category phase (end_time n) lane (Member (codes "id") (Number id) more)))
  where
    four : (z h a d m : List ℕ) → (z ++ 44 ∷ 10 ∷ (h ++ 44 ∷ (a ++ 58 ∷ d))) ++ (m ++ 125 ∷ []) ≡ z ++ 44 ∷ 10 ∷ (h ++ (44 ∷ (a ++ 58 ∷ (d ++ m)) ++ 125 ∷ []))
    four z h a d m = simp append_assoc

-- where an arrow begins
pub begins_made : (name : List ℕ) (id n lane : ℕ) (before a b c d : List ℕ) → a ≡ before ++ 44 ∷ 10 ∷ [] → b ≡ a ++ event_head name name (codes "s") (middle_time n) lane → c ≡ b ++ more_member (codes "id") (Number id)
    → d ≡ c ++ 125 ∷ [] → d ≡ before ++ further (arrow_begins name id n lane)
begins_made name id n lane before a b c d ea eb ec ed =
    event_made name name (codes "s") (middle_time n) lane (Member (codes "id") (Number id) NoMember) before a b d ea eb
    (numbered (codes "id") id b c d ec ed)

-- where an arrow ends
pub ends_made : (name : List ℕ) (id n lane : ℕ) (before a b c d e : List ℕ) → a ≡ before ++ 44 ∷ 10 ∷ [] → b ≡ a ++ event_head name name (codes "f") (middle_time n) lane → c ≡ b ++ more_member (codes "id") (Number id)
    → d ≡ c ++ more_member (codes "bp") (Word (codes "e")) → e ≡ d ++ 125 ∷ [] → e ≡ before ++ further (arrow_ends name id n lane)
ends_made name id n lane before a b c d e ea eb ec ed ee =
    event_made name name (codes "f") (middle_time n) lane (Member (codes "id") (Number id) (Member (codes "bp") (Word (codes "e")) NoMember)) before a b e ea eb
    (ee ∙ ap (λ z. z ++ 125 ∷ []) (ed ∙ ap (λ z. z ++ more_member (codes "bp") (Word (codes "e"))) ec) ∙ four b (quoted (codes "id")) (decimal id) (quoted (codes "bp")) (quoted (codes "e")))
  where
    four : (z a d b w : List ℕ) → ((z ++ 44 ∷ (a ++ 58 ∷ d)) ++ 44 ∷ (b ++ 58 ∷ w)) ++ 125 ∷ [] ≡ z ++ (44 ∷ (a ++ 58 ∷ (d ++ 44 ∷ (b ++ 58 ∷ (w ++ [])))) ++ 125 ∷ [])
    four z a d b w = simp (append_assoc, append-nil)

-- a length, arguments, and the end of the event
pub timed_made : (d : ℕ) (ms : Members) (before a b c e : List ℕ) → a ≡ before ++ more_member (codes "dur") (Number d) → b ≡ a ++ codes ",\"args\":{" → c ≡ b ++ first_members ms → e ≡ c ++ codes "}}"
    → e ≡ before ++ (more_members (Member (codes "dur") (Number d) (arguments ms)) ++ 125 ∷ [])
timed_made d ms before a b c e ea eb ec ee =
    ee ∙ ap (λ z. z ++ codes "}}") (ec ∙ ap (λ z. z ++ first_members ms) (eb ∙ ap (λ z. z ++ codes ",\"args\":{") ea))
    ∙ four before (quoted (codes "dur")) (decimal d) (first_members ms)
  where
    four : (z q d m : List ℕ) → (((z ++ 44 ∷ (q ++ 58 ∷ d)) ++ codes ",\"args\":{") ++ m) ++ codes "}}"
        ≡ z ++ (44 ∷ (q ++ 58 ∷ (d ++ 44 ∷ (codes "\"args\"" ++ 58 ∷ ((123 ∷ (m ++ 125 ∷ [])) ++ [])))) ++ 125 ∷ [])
    four z q d m = simp (append_assoc, append-nil)

-- arguments of one number, and the end of the event
pub one_made : (x : List ℕ) (n : ℕ) (before a b c : List ℕ) → a ≡ before ++ codes ",\"args\":{" → b ≡ a ++ first_member x (Number n) → c ≡ b ++ codes "}}"
    → c ≡ before ++ (more_members (arguments (Member x (Number n) NoMember)) ++ 125 ∷ [])
one_made x n before a b c ea eb ec =
    ec ∙ ap (λ z. z ++ codes "}}") (eb ∙ ap (λ z. z ++ first_member x (Number n)) ea)
    ∙ three (123 ∷ []) (58 ∷ []) (44 ∷ []) (125 ∷ []) before (quoted (codes "args")) (quoted x) (decimal n)
  where
    three : (o s y z b r p d : List ℕ) → ((b ++ (y ++ (r ++ (s ++ o)))) ++ (p ++ (s ++ d))) ++ (z ++ z)
        ≡ b ++ ((y ++ (r ++ (s ++ ((o ++ ((p ++ (s ++ (d ++ []))) ++ z)) ++ [])))) ++ z)
    three o s y z b r p d = simp (append_assoc, append-nil)
