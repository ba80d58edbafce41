pub mod BoolFacts
pub mod DecimalForm
pub mod LowestTerms
pub mod Percentages
pub mod SpelledDecimals
pub mod WordOrder
