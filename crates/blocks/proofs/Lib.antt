pub mod Framing
pub mod Accepting
pub mod Facts
pub mod Sampling
