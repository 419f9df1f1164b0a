pub mod Sending
pub mod SendingSteps
pub mod Receiving
pub mod ReceivingSteps
pub mod Ends
pub mod Pairs
