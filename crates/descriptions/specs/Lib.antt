pub mod Channels
pub mod Checks
pub mod Descriptions
pub mod Examples
pub mod ChannelLaws
