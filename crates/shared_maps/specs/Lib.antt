pub mod Ids
pub mod IdOrder
pub mod Places
pub mod Entries
pub mod Digests
pub mod Maps
pub mod Order
