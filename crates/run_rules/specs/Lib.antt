pub mod Examples
pub mod FieldExamples
pub mod Rules
