pub mod StartLemmas
pub mod FaultLemmas
pub mod DocumentLemmas
pub mod VerdictLemmas
pub mod SomeLemmas
pub mod Few
