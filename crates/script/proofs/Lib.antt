pub mod AtHand
pub mod Form
pub mod Reader
pub mod RoundTrip
pub mod Writer
