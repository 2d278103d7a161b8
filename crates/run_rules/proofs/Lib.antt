pub mod AskedSum
pub mod EntriesLead
pub mod FirstEntry
pub mod Going
pub mod LabelsStand
pub mod OneOfMany
