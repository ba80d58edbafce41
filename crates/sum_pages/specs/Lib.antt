pub mod DayTables
pub mod Pages
