mod Walks
mod Sorts
mod Dashes
mod Reports
