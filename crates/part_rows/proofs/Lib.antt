pub mod Boxes
pub mod Counting
pub mod Left
pub mod Links
pub mod Opening
pub mod Orders
pub mod Posting
pub mod Seen
