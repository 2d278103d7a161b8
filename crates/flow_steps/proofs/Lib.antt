pub mod Answering
pub mod AtEnds
pub mod EventsOf
