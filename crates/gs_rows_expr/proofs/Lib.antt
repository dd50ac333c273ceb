pub mod Firsts
pub mod Greedy
