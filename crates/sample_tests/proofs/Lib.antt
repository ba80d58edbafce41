pub mod ExchangedCounts
pub mod HeldEvents
