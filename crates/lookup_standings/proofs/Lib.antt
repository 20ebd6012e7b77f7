pub mod Laying
pub mod Rows
