-- What a session on an image that was made keeps, for the crates above.
pub use Rattle.call_sessions.specs.power_cuts.images.SessionImages.{Start, HasSizes, IsCutOf, HoldsKept, host_of, submitted, kept_transactions, kept_tree}
