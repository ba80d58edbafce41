pub mod BlockView
pub mod FlowView
pub mod LineView
pub mod Scan
pub mod ScanView
