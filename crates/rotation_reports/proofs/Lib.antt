mod Bounds
mod Worked
