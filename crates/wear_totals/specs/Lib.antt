-- How worn an array is, and the totals that are kept of it.
pub mod Wear
pub mod Totals
