mod LawFields
mod LawFieldTables
mod LawLines
mod LawChoices
mod LawForms
mod LawScalars
mod LawNumbers
mod LawTables
mod LawInline
mod LawObjectives
mod LawDocument
mod LawPlain
mod LawFits
mod LawFitForms
mod LawFitDocument
mod LawEqual
pub mod RangeReading
pub mod RangeLines
pub mod RangeTables
pub mod RangeDocuments
