-- Sums over the lines of an array, how they change with one line, and that totals are kept.
mod Sums
mod Energies
mod Keeping
