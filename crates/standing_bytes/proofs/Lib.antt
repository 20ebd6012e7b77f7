pub mod StandingByteLaws
