pub mod WearReports
pub mod PulsedLines
pub mod StandingMap
pub mod Images
