-- Lemmas on a client's messages.
mod Filling
mod Moving
mod Replying
mod Asking
mod Messages
mod Stepping
