mod Banks
mod Counting
mod Queueing
mod Moment
mod Along
