pub mod Recordings
pub mod Recorded
pub mod Steps
