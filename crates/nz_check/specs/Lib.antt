-- The modules of this crate's definitions.
pub mod Checked
pub mod Exact
pub mod Noting
pub mod Applying
pub mod Verdicts
