mod Moving
mod Placing
mod Naming
mod Reporting
mod Forming
mod Taking
