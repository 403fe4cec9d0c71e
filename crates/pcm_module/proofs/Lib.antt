mod Standing
mod Views
pub mod Naming
pub mod Moving
mod Logging
mod Steps
mod Arriving
pub mod Sizes
pub mod Asked
mod Banks
mod Beyond
mod TakenRows
mod Becoming
mod Ending
mod Draining
mod Settles
mod AsIf
mod InOrder
mod Cuts
mod Serving
mod Events
mod Making
mod Translating
pub mod Tables
mod EndRoles
mod Placed
mod Mapped
