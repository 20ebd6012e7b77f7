pub mod StandingByte
