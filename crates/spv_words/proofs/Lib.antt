pub mod WordLemmas
pub mod FeedLemmas
pub mod StringLemmas
pub mod FeedLaws
pub mod StringLaws
