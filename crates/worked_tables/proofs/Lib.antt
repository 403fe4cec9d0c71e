mod SmallRun
mod SmallVerdicts
mod QueueExamples
mod MoveExamples
mod ImageExamples
mod Below
