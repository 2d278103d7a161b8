pub mod Clients
pub mod Lines
pub mod Places
pub mod Ports
pub mod Views
