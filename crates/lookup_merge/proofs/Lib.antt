pub mod Walking
pub mod Finishing
pub mod LayoutLaws
pub mod StepLaws
pub mod LookupLaws
pub mod ClosedForm
