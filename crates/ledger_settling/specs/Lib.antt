pub mod Settle
pub mod Roomy
pub mod Worklist
pub mod SettleLaws
pub mod CountLaws
pub mod WaitLaws
pub mod DueLaws
pub mod WorklistLaws
