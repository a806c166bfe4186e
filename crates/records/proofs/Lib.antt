pub mod Keeping
pub mod FirstReports
pub mod Standings
pub mod Runs
