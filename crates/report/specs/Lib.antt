-- What the other crates cite of reports.
pub mod Reports
