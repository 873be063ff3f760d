pub mod VerdictOfChecks
