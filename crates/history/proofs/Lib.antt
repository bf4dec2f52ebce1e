-- The third demand, no spare node, a history that meets their hypotheses, and the laws of the runner: `Determined` has what follows from its promise.
pub mod Contract
pub mod Demand
pub mod Spare
mod Inhabited
pub mod Requests
pub mod Reports
pub mod Marks
pub mod Empty
pub mod Running
pub mod Determined
