pub mod Begun
pub mod Newest
pub mod Rising
pub mod Sticking
pub mod Touched
pub mod Waits
pub mod Within
