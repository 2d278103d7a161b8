pub mod Fields
pub mod Grammar
pub mod Spelling
pub mod Tags
