-- What contracts see of a book of accounts.
use Rattle.std.specs.Prelude.{◌≡◌, Bool, true, false, Option, Some, List, if◌then◌else◌}
use Rattle.run_trace.specs.Entry.{EntryValue}
use Rattle.run_trace.specs.Settings.{SettingsValue}
use Rattle.hh_lang.specs.Form.{ProgramText}
use Rattle.run_ledger.specs.declared.data.Ledger.{Ledger}
use Rattle.run_ledger.specs.declared.data.Refused.{Refused}
use Rattle.run_ledger.specs.declared.data.Refused.TheVariants.{Stopped}
use Rattle.run_ledger.specs.Entries.{refusal}
use Rattle.run_ledger.specs.Journals.{is_legal, ledger_of}
use Rattle.run_accounts.specs.Accounts.{AccountsValue, CachesAgree}

-- the program, the settings and the accounts, and whether an entry was refused or ran out of memory
pub record BookValue : Type 0 where
  pub program : ProgramText
  pub settings : SettingsValue
  pub ledger : Ledger
  pub stopped : Bool

-- the accounts of a legal journal
abbrev pub IsLegalLedger : ProgramText → SettingsValue → Ledger → Type 0
IsLegalLedger p s l = (journal : List EntryValue) × (is_legal p s journal ≡ true) × (l ≡ ledger_of p s journal)

-- unless it is stopped, a book has the accounts of a legal journal, and what is cached beside them agrees with them
pub record IsOpened (s : AccountsValue) (stopped : Bool) : Type 0 where
  pub legal : stopped ≡ false → IsLegalLedger s.program s.settings s.ledger
  pub agrees : stopped ≡ false → CachesAgree s

-- why a book refuses an entry
abbrev pub cause_in : BookValue → EntryValue → Option Refused
cause_in b e = if b.stopped then Some Stopped else refusal b.program b.settings b.ledger e
