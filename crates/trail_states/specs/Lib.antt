pub mod HaveMade
