pub mod BookLemmas
pub mod TableLemmas
pub mod TierLemmas
pub mod BegunLemmas
pub mod BelowLemmas
pub mod PagingLemmas
pub mod AgeLemmas
