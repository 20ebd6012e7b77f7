pub mod Written
pub mod WrittenLaws
pub mod JudgedLaws
pub mod ChooseRight
