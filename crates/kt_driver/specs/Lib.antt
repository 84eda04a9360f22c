pub mod BinaryListings
pub mod Listings
pub mod Refusals
pub mod Requests
pub mod RuleGroups
pub mod Runs
pub mod Statuses
