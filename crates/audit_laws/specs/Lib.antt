pub mod AuditedRuns
pub mod Forgetting
