pub mod AcceptedCalls
pub mod CallsInTurn
pub mod Chain
pub mod Feeding
pub mod WaitingArray
pub mod Zeros
