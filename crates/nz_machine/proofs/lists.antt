-- Lists, places in a log, and tables.
pub mod Sizes
pub mod EachItem
pub mod Distinct
pub mod ListParts
pub mod Tables
pub mod LogPlaces
pub mod Lookups
pub mod Reports
