-- Counts of tables that grow, pulses and spares by histories, what a snapshot says by them, and the snapshots of a stream.
mod Tables
mod Histories
mod Standing
mod Falling
