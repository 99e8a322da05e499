pub mod Numbers
pub mod LogNumbers
pub mod Demand1
pub mod Promises
pub mod RoundTrips
pub mod PrintedCases
