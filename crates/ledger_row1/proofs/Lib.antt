pub mod Row1Laws
