pub mod Call
pub mod Findings
pub mod Hints
