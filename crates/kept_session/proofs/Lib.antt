pub mod Going
pub mod Records
pub mod Reaching
pub mod Outlining
pub mod Recording
pub mod ReachingDown
pub mod OutliningDown
pub mod RecordingDown
