pub mod Departures
mod FormFaults
pub mod WordRuns
mod Answers
mod Ascents
