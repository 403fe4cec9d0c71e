pub mod CutOff
pub mod Lasting
