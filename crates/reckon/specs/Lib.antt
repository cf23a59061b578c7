pub mod Forecast
pub mod Reckon
