-- Histories of calls and the third demand; scripts of calls and what running one promises.
pub mod Histories
pub mod Script
pub mod Parts
