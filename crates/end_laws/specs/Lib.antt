pub mod EndLaws
pub mod Roles
