pub mod Answered
pub mod Asking
pub mod Looking
pub mod Quieted
pub mod Stirred
