pub mod Taking
pub mod SettingUp
pub mod Detecting
pub mod BlockLists
pub mod Holding
pub mod Parting
pub mod Accepted
