-- lemmas over sizes and lines
mod Sizes
mod Lines
