-- The laws of the definitions, and the theorems about them.
pub mod Cases
pub mod Laws
pub mod Theorems
pub mod Replies
pub mod Waste
pub mod FitReplies
pub mod InARow
pub mod Attained
