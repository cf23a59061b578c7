pub mod Laying
pub mod Replies
