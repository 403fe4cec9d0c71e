mod Reading
mod Tables
mod Fitting
mod Ticks
