pub mod FirstLedger
