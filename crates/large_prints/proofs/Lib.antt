mod Rows
mod Whole
