pub mod KeysView
pub mod LineErrorView
pub mod OpenView
pub mod ReadView
pub mod Reader
pub mod ReaderView
