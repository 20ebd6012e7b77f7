pub mod Reading
pub mod BundleLaws
