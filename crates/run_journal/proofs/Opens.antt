-- Books that continue from legal journals.
use Rattle.run_journal.proofs.Common.{◌≡◌, ℕ, ◌<◌, ◌≤◌, ◌&&◌, not, Bool, true, false, Option, Some, None, List, [], ◌∷◌, ◌++◌, length, nat_lt, nat_le, is_none, is_some, refl, ap, sym, subst, ◌∙◌, arith, length-set, ltb-true, Kind, Took, Ran, Chunk, Begin, End as EndOf, PutOff, Mark, More, Sweep, Fuel, EntryValue, IsKind, SettingsValue, AreSettings, ProgramText, Ledger, heap_of, refusal, after, is_fuel, opening, ledger_of, after_cut, joined_legal, SoundLedger, none_where, none_unless, entry_tells, legal_sound, AccountsValue, CachesAgree, Steady, StaysSteady, went_on, taken_after, kind_tells, IsLegalLedger, IsOpened}
use Rattle.run_journal.proofs.Steadies.{legal_steady, legal_stays}

module _ (p : ProgramText) (s : SettingsValue) where
  pub ledger_steady : AreSettings s → (l : Ledger) → IsLegalLedger p s l → Steady l
  ledger_steady A l L = subst Steady (sym L.2) (legal_steady p s A L.0 L.1)

  pub ledger_stays : AreSettings s → (l : Ledger) → IsLegalLedger p s l → (kind : Kind) → IsKind kind
      → (t k : ℕ) → kind ≡ Ran t k → is_some (heap_of l t).begun ≡ false → StaysSteady s p l t k
  ledger_stays A l L kind range t k is idle =
      let few : k ≤ 257 = (subst IsKind is range).1.1 in
      subst (λ q. StaysSteady s p q t k) (sym L.2) (legal_stays p s A L.0 t k L.1 (ap (λ (q : Ledger). is_some (heap_of q t).begun) (sym L.2) ∙ idle) few)

  pub ledger_after : (l : Ledger) → IsLegalLedger p s l → (e : EntryValue) → refusal p s l e ≡ None → IsLegalLedger p s (after p s l e)
  ledger_after l L e none =
      let here : refusal p s (ledger_of p s L.0) e ≡ None = ap (λ q. refusal p s q e) (sym L.2) ∙ none in (
        L.0 ++ e ∷ [],
        joined_legal p s L.0 (e ∷ []) (opening p s) L.1 (ap (λ o. is_none o && true) here),
        ap (λ q. after p s q e) L.2 ∙ sym (after_cut p s L.0 (e ∷ []) (opening p s)),
      )

-- what is cached beside the accounts, after an entry
pub accounts_agree : (s : AccountsValue) → AreSettings s.settings → IsLegalLedger s.program s.settings s.ledger → CachesAgree s → (e : EntryValue) → refusal s.program s.settings s.ledger e ≡ None
    → CachesAgree (record (went_on s (after s.program s.settings s.ledger e)) { taken = taken_after s.taken e.worker e.kind })
accounts_agree s limits L A e none =
    let h : is_none (refusal s.program s.settings s.ledger e) ≡ true = ap is_none none in
    let tells = entry_tells s.program s.settings s.ledger e h in
    let S : SoundLedger s.ledger = subst SoundLedger (sym L.2) (legal_sound s.program s.settings L.0 L.1) in
    let few : e.worker < s.settings.workers = ltb-true e.worker s.settings.workers (none_unless (nat_lt e.worker s.settings.workers) _ _ (none_where (nat_le s.settings.fuel s.ledger.steps && not (is_fuel e.kind)) _ _ (none_where (is_some s.ledger.end) _ _ h).1).1).0 in
    let most : s.settings.workers ≤ 64 = limits.workers.1 in
    let places : length s.taken ≡ 64 = A.places in
    record {
      used = refl;
      places = as_long s.taken e.worker e.kind ∙ A.places;
      taken = kind_tells s.program s.settings s.ledger s.taken A.taken S e.worker e.kind (omega arith) tells.2;
    }
  where
    as_long : (taken : List (Option ℕ)) (w : ℕ) (kind : Kind) → length (taken_after taken w kind) ≡ length taken
    as_long taken w (Took t) = length-set taken w (Some t)
    as_long taken w (Ran t k) = refl
    as_long taken w (Chunk t) = refl
    as_long taken w (Begin t) = refl
    as_long taken w (EndOf t a g n) = refl
    as_long taken w (PutOff t) = refl
    as_long taken w (Mark t) = refl
    as_long taken w (More t n) = refl
    as_long taken w (Sweep t g) = refl
    as_long taken w Fuel = refl

-- a book that goes on
pub opened_after : (s new : AccountsValue) (stopped : Bool) → AreSettings s.settings → IsOpened s stopped → stopped ≡ false → (e : EntryValue) → refusal s.program s.settings s.ledger e ≡ None
    → new ≡ record (went_on s (after s.program s.settings s.ledger e)) { taken = taken_after s.taken e.worker e.kind } → IsOpened new stopped
opened_after s new stopped limits I going e none is = record {
  legal = λ q. subst (λ (k : AccountsValue). IsLegalLedger k.program k.settings k.ledger) (sym is) (ledger_after s.program s.settings s.ledger (I.legal going) e none);
  agrees = λ q. subst CachesAgree (sym is) (accounts_agree s limits (I.legal going) (I.agrees going) e none);
}
