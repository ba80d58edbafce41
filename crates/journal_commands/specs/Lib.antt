pub mod Doors
pub mod Exporting
pub mod Making
pub mod Migrating
pub mod Reporting
pub mod Serving
pub mod Following
