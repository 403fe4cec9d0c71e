mod Handles
mod Opening
mod Steps
mod Values
