pub mod CopiesAreFirst
pub mod LedgerFitsStore
pub mod LedgerShowsState
