pub mod FlowRows
pub mod Timers
pub mod Told
pub mod Worked
