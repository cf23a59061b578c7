pub mod Reckons
pub mod Passes
pub mod Wholes
pub mod Walks
pub mod Forecasts
pub mod Small
pub mod Demand
