pub mod Follower
