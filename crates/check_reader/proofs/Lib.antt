mod Cuts
mod Numerals
mod Hexes
mod Shown
mod Rows
mod Whole
mod Once
mod Begins
