-- A replay takes entries one by one: what is left of them is refused if and only if the whole is.
use Rattle.journal_replay.proofs.Common.{◌≡◌, ℕ, ◌+◌, ◌<◌, true, false, List, [], ◌∷◌, ◌++◌, drop, get_or, length, take, refl, ap, sym, subst, ◌∙◌, add-one, append_assoc, take-suc, drop_more, ProgramText, EntryValue, SettingsValue, Ledger, after, refusal, first_refused, first_refused_from, is_legal, ledger_of, opening, refused_or, refused, IsSharedValue, SharedValue, accounts, entered_accounts, Applies, WantedMemory, HasCome, WorldValue}

-- THE WORLD AFTER THE FIRST ENTRIES: what is left of them is refused if and only if the whole is
pub record Came (p : ProgramText) (s : SettingsValue) (entries done rest : List EntryValue) (index : ℕ) (x : WorldValue) : Type 0 where
  pub program : x.shared.program ≡ p
  pub settings : x.shared.settings ≡ s
  pub journal : x.shared.journal.items ≡ done
  pub whole : entries ≡ done ++ rest
  pub goes : x.stopped ≡ false
  pub left : first_refused p s entries ≡ first_refused_from p s (accounts x.shared) index rest

pub came_first : (p : ProgramText) (s : SettingsValue) (entries : List EntryValue) (x : WorldValue) → x.shared.program ≡ p → x.shared.settings ≡ s → x.shared.journal.items ≡ [] → x.stopped ≡ false → Came p s entries [] entries 1 x
came_first p s entries x program settings none goes = record {
  program = program;
  settings = settings;
  journal = none;
  whole = refl;
  goes = goes;
  left = ap (λ (l : Ledger). first_refused_from p s l 1 entries) (sym (opened x.shared program settings none));
}
  where
    opened : (w : SharedValue) → w.program ≡ p → w.settings ≡ s → w.journal.items ≡ [] → accounts w ≡ opening p s
    opened w a b c = ap (λ (q : ProgramText). ledger_of q w.settings w.journal.items) a ∙ (ap (λ (t : SettingsValue). ledger_of p t w.journal.items) b ∙ ap (ledger_of p s) c)

module _ (p : ProgramText) (s : SettingsValue) (entries done rest : List EntryValue) (e : EntryValue) (index : ℕ) (x y : WorldValue) (C : Came p s entries done (e ∷ rest) index x) where
  same_refusal : refusal p s (accounts x.shared) e ≡ refused x.shared e
  same_refusal = ap (λ (q : ProgramText). refusal q s (accounts x.shared) e) (sym C.program) ∙ ap (λ (t : SettingsValue). refusal x.shared.program t (accounts x.shared) e) (sym C.settings)

  same_after : after p s (accounts x.shared) e ≡ after x.shared.program x.shared.settings (accounts x.shared) e
  same_after = ap (λ (q : ProgramText). after q s (accounts x.shared) e) (sym C.program) ∙ ap (λ (t : SettingsValue). after x.shared.program t (accounts x.shared) e) (sym C.settings)

  -- one more entry
  pub came_on : Applies x y e → Came p s entries (done ++ e ∷ []) rest (index + 1) y
  came_on A = record {
    program = A.enters.program ∙ C.program;
    settings = A.enters.settings ∙ C.settings;
    journal = A.enters.journal ∙ ap (λ (js : List EntryValue). js ++ e ∷ []) C.journal;
    whole = C.whole ∙ sym (append_assoc done (e ∷ []) rest);
    goes = A.goes;
    left =
        C.left
        ∙ (ap (λ o. refused_or o index (first_refused_from p s (after p s (accounts x.shared) e) (index + 1) rest)) (same_refusal ∙ A.free)
        ∙ ap (λ (l : Ledger). first_refused_from p s l (index + 1) rest) (same_after ∙ sym (entered_accounts x.shared y.shared e A.enters)));
  }

  -- out of memory
  pub come : IsSharedValue y.shared → WantedMemory x y → HasCome p s entries y
  come I W =
      let program : y.shared.program ≡ p = ap (λ (z : SharedValue). z.program) W.same.rest.rest ∙ C.program in
      let settings : y.shared.settings ≡ s = ap (λ (z : SharedValue). z.settings) W.same.rest.rest ∙ C.settings in
      record {
        program = program;
        settings = settings;
        prefix = (e ∷ rest, C.whole ∙ ap (λ js. js ++ e ∷ rest) (sym (W.same.journal ∙ C.journal)));
        legal = subst (λ (q : ProgramText). is_legal q s y.shared.journal.items ≡ true) program (subst (λ (t : SettingsValue). is_legal y.shared.program t y.shared.journal.items ≡ true) settings I.legal);
      }

-- ---- BY POSITION: i of the entries are made

abbrev pub CameTo : ProgramText → SettingsValue → List EntryValue → ℕ → ℕ → WorldValue → Type 0
CameTo p s entries k index x = Came p s entries (take k entries) (drop k entries) index x

module _ (p : ProgramText) (s : SettingsValue) (entries : List EntryValue) (k index : ℕ) (e : EntryValue) (within : k < length entries) (is : e ≡ get_or entries k e) (x y : WorldValue) (C : CameTo p s entries k index x) where
  got : get_or entries k e ≡ e
  got = sym is

  taken : take (k + 1) entries ≡ take k entries ++ e ∷ []
  taken = ap (λ n. take n entries) (add-one k) ∙ (take-suc entries k e within ∙ ap (λ z. take k entries ++ z ∷ []) got)

  entry_is_reached : Came p s entries (take k entries) (e ∷ drop (k + 1) entries) index x
  entry_is_reached = subst (λ rest. Came p s entries (take k entries) rest index x) (drop_more entries k e within ∙ ap (λ z. z ∷ drop (k + 1) entries) got) C

  pub came_more : Applies x y e → CameTo p s entries (k + 1) (index + 1) y
  came_more A = subst (λ done. Came p s entries done (drop (k + 1) entries) (index + 1) y) (sym taken) (came_on p s entries (take k entries) (drop (k + 1) entries) e index x y entry_is_reached A)

  pub come_to : IsSharedValue y.shared → WantedMemory x y → HasCome p s entries y
  come_to I W = come p s entries (take k entries) (drop (k + 1) entries) e index x y entry_is_reached I W
