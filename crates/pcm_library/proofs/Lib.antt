-- What keeps outcomes, that a relation of what is told may be weakened, a module that has served nothing, that no more rows are told than there are, nor have no outcome than the banks have places for, which answer comes, masked writes, and how many lines the array has.
mod Keeping
mod Weaker
mod Beginning
mod Sizes
mod Counting
mod Few
mod Answering
mod Masks
mod Lines
