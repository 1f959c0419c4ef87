pub mod Front
pub mod Runs
pub mod Unpacked
pub mod Laying
