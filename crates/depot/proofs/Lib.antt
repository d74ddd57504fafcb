mod BayLists
pub mod Steps
mod BoardRuns
mod PlanRuns
