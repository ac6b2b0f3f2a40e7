pub mod Sorted
pub mod HubCases
pub mod HubChains
pub mod OfferCases
pub mod Cases
