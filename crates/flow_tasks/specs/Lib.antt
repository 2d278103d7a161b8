pub mod Changes
pub mod Handles
pub mod Kept
pub mod Numbers
pub mod OpenTasks
pub mod Views
