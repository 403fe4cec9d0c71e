-- Lemmas of the program that explains.
mod Deciding
mod Rows
mod Telling
