pub mod Antichain
pub mod Judge
pub mod GatherLaws
pub mod AntichainLaws
pub mod JudgeWithin
pub mod JudgeLaws
