pub mod Tellings
pub mod KeptRuns
pub mod KeptHistories
pub mod RunsBearOut
pub mod Sessions
pub mod Headline
